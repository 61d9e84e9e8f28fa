use Rattle.std.proofs.Common.{◌≡◌, ◌^◌, ◌≤◌, length, All, sym, ap, ◌∙◌, subst, arith, rules, FitsSigned}
use Rattle.std.proofs.lemmas.List.{length_push}
use Rattle.std.proofs.lemmas.List.Elements.{All-push}
use Rattle.std.specs.Int.{w128}
use Rattle.std.proofs.lemmas.Int.{to_z-of_z}
use Rattle.exact_math.specs.IntegerRing.{linear}
use Rattle.whole_rows.specs.WholeRows.{span}
use Rattle.farkas_rows.specs.declared.path.Slice.{Slice}
use Rattle.farkas_rows.specs.Refutes.{HasForms}
use Rattle.proof_tree.specs.Trees.{IsOfSize}
use Rattle.proof_tests.proofs.plain_moves.path_of.Goals as goal

pub loop-form-preserved : goal.loop-form-preserved
loop-form-preserved c =
    let pushed = c.in_ok-push.ensures.ok in
    let form = c.of.ensures ∙ c.in_ok-from_slice.ensures.items in
    let width = c.columns-width.ensures.count in
    let items = ap length c.items.ensures in
    record {
      short = omega (arith, simp length_push at (ap length pushed));
      forms = subst (HasForms (length c.args.rows.now.box)) (sym pushed) (All-push (λ (slice : Slice). length slice.form ≡ length c.args.rows.now.box) c.loop-form.path _ c.loop-form.invariant.forms (omega (arith, ap length form)));
      light = subst (All (λ (slice : Slice). span slice.form c.args.rows.now.box ≤ 2 ^ 96)) (sym pushed) (All-push (λ (slice : Slice). span slice.form c.args.rows.now.box ≤ 2 ^ 96) c.loop-form.path _ c.loop-form.invariant.light (rw (form, ← c.bounds.ensures.value) c.in-Some.ensures.0));
      values = subst (All (λ (slice : Slice). IsOfSize (2 ^ 98) slice.beta)) (sym pushed) (All-push (λ (slice : Slice). IsOfSize (2 ^ 98) slice.beta) c.loop-form.path _ c.loop-form.invariant.values (let fits : FitsSigned w128 c.small.result = search rules in rw (to_z-of_z w128 c.small.result fits) (omega (linear, c.small.ensures.0), omega (linear, c.small.ensures.1))));
    }
