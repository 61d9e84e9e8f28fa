use Rattle.std.proofs.Common.{◌≤◌, length, map, ap, ◌∙◌, arith}
use Rattle.std.proofs.lemmas.Nat.{mul-le}
use Rattle.reformulate.specs.declared.equality.Equality.{Equality}
use Rattle.farkas_lift.specs.NodeLifting.{equality_forms}
use Rattle.farkas_lift.proofs.LiftSteps.{on_ok, wide_rows}
use Rattle.farkas_lift.proofs.lifting.equality_times.Goals as goal

pub equality_grid-requires-clause-room : goal.equality_grid-requires-clause-room
equality_grid-requires-clause-room c =
    let few : length c.items.result.now ≤ 65792 = omega (arith, ap length c.items.ensures, c.in_ok-equalities.ensures.few, c.requires.short) in
    omega (arith, mul-le (length c.items.result.now) c.columns.result 65792 256 few c.columns.ensures.few)

pub returns-clause-dense : goal.returns-clause-dense
returns-clause-dense c =
    on_ok c.lift_row.result
    (wide_rows c.in_ok-forms.forms (length c.args.rows.now.rows.box) (equality_forms c.args.rows.now c.args.path.now) c.in_ok-forms.ensures.size (c.in_ok-forms.ensures.width ∙ c.columns.ensures.count)
    (c.in_ok-forms.ensures.rows ∙ ap (map (λ (equality : Equality). equality.form)) (c.items.ensures ∙ c.in_ok-equalities.ensures.value)))
