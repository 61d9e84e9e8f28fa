use Rattle.std.proofs.Common.{◌≡◌, None, List, [], ◌∷◌, ◌++◌, length, ap, ◌∙◌, refl}
use Rattle.std.specs.Prelude.{Option, unwrap_or}
use Rattle.farkas_rows.specs.declared.line.Use.{Use}
use Rattle.farkas_rows.specs.Inequalities.{Inequality}
use Rattle.farkas_rows.specs.Refutes.{nothing}
use Rattle.plain_slices.specs.Items.{named_by, IsBalanced}
use Rattle.plain_slices.specs.Sides.{side_form}
use Rattle.plain_slices.proofs.SideLaws.{length-side_form}
use Rattle.plain_slices.proofs.RefuteLaws.{once, one-gathered, one-wide, one-apart, refutes-side}
use Rattle.plain_slices.proofs.node.Node.line_of_side.Goals as goal

pub balance-requires-clause-gathered : goal.balance-requires-clause-gathered
balance-requires-clause-gathered c =
    let start : c.push.new.self.items ≡ once c.args.number ∷ [] = c.in_ok-push.ensures.items ∙ ap (λ (l : List Use). l ++ once c.args.number ∷ []) c.new-items.ensures.items in
    rw start (one-gathered c.args.self.now.rows.now c.args.self.now.path.now None c.args.number _ c.requires.unmet.1.names)

pub balance-requires-clause-wide : goal.balance-requires-clause-wide
balance-requires-clause-wide c =
    let start : c.push.new.self.items ≡ once c.args.number ∷ [] = c.in_ok-push.ensures.items ∙ ap (λ (l : List Use). l ++ once c.args.number ∷ []) c.new-items.ensures.items in
    rw start (one-wide (named_by c.args.self.now.rows.now c.args.self.now.path.now None) (length c.args.self.now.rows.now.box) c.args.number (record { factors = side_form c.args.side c.args.form.now; limit = c.requires.unmet.0 }) (ap (λ (o : Option Inequality). unwrap_or o nothing) c.requires.unmet.1.names) (length-side_form c.args.side c.args.form.now ∙ c.requires.dense))

pub balance-requires-clause-apart : goal.balance-requires-clause-apart
balance-requires-clause-apart c =
    let start : c.push.new.self.items ≡ once c.args.number ∷ [] = c.in_ok-push.ensures.items ∙ ap (λ (l : List Use). l ++ once c.args.number ∷ []) c.new-items.ensures.items in
    rw start (one-apart (named_by c.args.self.now.rows.now c.args.self.now.path.now None) (side_form c.args.side c.args.form.now) c.args.number (ap (λ (o : Option Inequality). (unwrap_or o nothing).factors) c.requires.unmet.1.names))

pub returns-clause-refutes : goal.returns-clause-refutes
returns-clause-refutes c =
    let start : c.push.new.self.items ≡ once c.args.number ∷ [] = c.in_ok-push.ensures.items ∙ ap (λ (l : List Use). l ++ once c.args.number ∷ []) c.new-items.ensures.items in
    let balanced : IsBalanced c.args.self.now.rows.now c.args.self.now.path.now c.args.self.now.bounds.items (side_form c.args.side c.args.form.now) (length c.args.self.now.rows.now.box) (once c.args.number ∷ []) c.from_vec.result = rw (c.from_vec.ensures, ← start) c.in_ok-balance.ensures in
    refutes-side c.args.self.now.rows.now c.args.self.now.path.now c.args.self.now.bounds.items (side_form c.args.side c.args.form.now) c.args.number c.requires.unmet.0 _ (length-side_form c.args.side c.args.form.now ∙ c.requires.dense) c.requires.light c.requires.unmet.1.names c.requires.unmet.1.beyond c.requires.unmet.1.light balanced refl
