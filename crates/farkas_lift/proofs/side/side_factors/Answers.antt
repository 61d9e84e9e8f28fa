use Rattle.std.proofs.Common.{length, set, sym, ap, ◌∙◌, negsuc}
use Rattle.std.proofs.lemmas.Result.{IfOk-weaker}
use Rattle.exact_math.specs.Ring.{integers}
use Rattle.exact_vectors.specs.Vectors.{zeros}
use Rattle.farkas_lift.specs.NodeSides.{side_form}
use Rattle.farkas_lift.proofs.SideSteps.{turned_unit}
use Rattle.farkas_lift.proofs.side.side_factors.Goals as goal

pub returns-in-ColumnAtLeast-clause-value : goal.returns-in-ColumnAtLeast-clause-value
returns-in-ColumnAtLeast-clause-value c =
    IfOk-weaker c.unit-in-ColumnAtLeast.result _ _
    (λ factors e. e ∙ ap (λ n. set (zeros integers n) c.in-ColumnAtLeast.j (negsuc 0)) c.columns-in-ColumnAtLeast.ensures.count ∙ turned_unit (length c.args.rows.now.rows.box) c.in-ColumnAtLeast.j ∙ ap (side_form c.args.rows.now) (sym c.in-ColumnAtLeast.is))
    c.unit-in-ColumnAtLeast.ensures
