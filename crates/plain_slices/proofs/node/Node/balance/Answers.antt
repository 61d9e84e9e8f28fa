use Rattle.std.proofs.Common.{◌≡◌, ◌<◌, false, length, get_or, pos, sym, ◌∙◌, arith, rules, FitsSigned}
use Rattle.std.specs.Int.{w128}
use Rattle.std.proofs.lemmas.Int.{to_z-of_z}
use Rattle.std.proofs.lemmas.List.{get_or_default}
use Rattle.plain_slices.specs.Nodes.{source_at}
use Rattle.plain_slices.specs.Sides.{side_form}
use Rattle.plain_slices.proofs.SideLaws.{length-side_form, side_form-at, side_factor-size, code_factor, code_factor-size}
use Rattle.plain_slices.proofs.BalanceLaws.{balance-number, balance-more}
use Rattle.plain_slices.proofs.node.Node.balance.Goals as goal

pub factor-factor-requires : goal.factor-factor-requires
factor-factor-requires c =
    let size = code_factor-size c.args.side c.args.form.now c.args.self.now.bounds.items c.loop-column.column (c.requires.dense ∙ sym c.requires.node.dense) c.loop-column-test.true c.requires.light in
    let fits : FitsSigned w128 (get_or c.args.form.now c.loop-column.column (pos 0)) = search rules in
    rw to_z-of_z size

pub put_bound-requires-clause-small : goal.put_bound-requires-clause-small
put_bound-requires-clause-small c =
    let size = code_factor-size c.args.side c.args.form.now c.args.self.now.bounds.items c.loop-column.column (c.requires.dense ∙ sym c.requires.node.dense) c.loop-column-test.true c.requires.light in
    let fits : FitsSigned w128 (get_or c.args.form.now c.loop-column.column (pos 0)) = search rules in
    let result_fits : FitsSigned w128 c.factor-factor.result = search rules in
    rw (code_factor c.args.side c.args.form.now c.loop-column.column c.factor-factor.result fits result_fits c.factor-factor.ensures, side_form-at, side_factor-size) size

pub put_bound-requires-clause-apart : goal.put_bound-requires-clause-apart
put_bound-requires-clause-apart c =
    let within : c.loop-column.column < length c.args.self.now.sources.items = omega (arith, c.requires.dense, c.requires.node.sourced) in
    let fits : FitsSigned w128 (get_or c.args.form.now c.loop-column.column (pos 0)) = search rules in
    let result_fits : FitsSigned w128 c.factor-factor.result = search rules in
    let source : c.index.result.now ≡ source_at c.args.self.now.sources.items c.loop-column.column = c.index.ensures ∙ get_or_default c.args.self.now.sources.items c.loop-column.column c.index.result.now (record { above = 0; below = 0; is_fixed = false }) within in
    rw (code_factor c.args.side c.args.form.now c.loop-column.column c.factor-factor.result fits result_fits c.factor-factor.ensures, source) (balance-number c.args.self.now.rows.now c.args.self.now.path.now c.args.self.now.bounds.items c.args.self.now.sources.items (side_form c.args.side c.args.form.now) c.loop-column.column c.loop-column.items.items c.requires.node (omega (arith, c.requires.dense)) c.loop-column.invariant.apart)

pub loop-column-preserved : goal.loop-column-preserved
loop-column-preserved c =
    let within : c.loop-column.column < length c.args.self.now.sources.items = omega (arith, c.requires.dense, c.requires.node.sourced) in
    let size = code_factor-size c.args.side c.args.form.now c.args.self.now.bounds.items c.loop-column.column (c.requires.dense ∙ sym c.requires.node.dense) c.loop-column-test.true c.requires.light in
    let fits : FitsSigned w128 (get_or c.args.form.now c.loop-column.column (pos 0)) = search rules in
    let result_fits : FitsSigned w128 c.factor-factor.result = search rules in
    let source : c.index.result.now ≡ source_at c.args.self.now.sources.items c.loop-column.column = c.index.ensures ∙ get_or_default c.args.self.now.sources.items c.loop-column.column c.index.result.now (record { above = 0; below = 0; is_fixed = false }) within in
    let factor = code_factor c.args.side c.args.form.now c.loop-column.column c.factor-factor.result fits result_fits c.factor-factor.ensures in
    let both = balance-more c.args.self.now.rows.now c.args.self.now.path.now c.args.self.now.bounds.items c.args.self.now.sources.items (side_form c.args.side c.args.form.now) c.loop-column.column c.args.items.now.items c.loop-column.items.items c.put_bound.new.items.items c.requires.node (length-side_form c.args.side c.args.form.now ∙ c.requires.dense) (omega (arith, c.requires.dense)) (rw (side_form-at, side_factor-size) size) c.requires.wide c.loop-column.invariant.balanced c.loop-column.invariant.apart (rw factor at c.in_ok-put_bound.ensures.kept) (rw (factor, source) at c.in_ok-put_bound.ensures.put) c.in_ok-put_bound.ensures.rising in
    record { balanced = both.0; apart = both.1 }
