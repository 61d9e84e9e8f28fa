use Rattle.std.proofs.Common.{◌≡◌, ◌+◌, ℕ, suc, length, arith, subst}
use Rattle.norm_gauge.specs.Widths.{polytope_of}
use Rattle.spaces.specs.Tables.{rows_in}
use Rattle.thin_forms.proofs.RowSteps.{count_is}
use Rattle.thin_columns.specs.Columns.{ThinnestIs}
use Rattle.thin_columns.proofs.columns.thinnest_column.Goals as goal

pub loop-j-preserved : goal.loop-j-preserved
loop-j-preserved c =
    let next : suc c.loop-j.j ≡ c.loop-j.j + 1 = omega arith in
    subst (λ (count : ℕ). ThinnestIs (polytope_of c.args.system.now.rows c.args.system.now.limits) (rows_in c.args.lines.now) count c.in_ok-best.best) next c.in_ok-best.ensures

pub returns : goal.returns
returns c =
    let all : c.loop-j.j ≡ length (rows_in c.args.lines.now) = omega (arith, count_is c.args.lines.now, c.loop-j-test.false, c.loop-j.auto.j-end, c.rows-j-end.ensures.count) in
    subst (λ (count : ℕ). ThinnestIs (polytope_of c.args.system.now.rows c.args.system.now.limits) (rows_in c.args.lines.now) count c.loop-j.best) all c.loop-j.invariant
