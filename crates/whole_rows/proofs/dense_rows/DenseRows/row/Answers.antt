use Rattle.std.proofs.Common.{rules, ◌≡◌, ap, sym, subst, ◌+◌, ◌-◌, ◌*◌, ◌<◌, ◌≤◌, length, None, arith}
use Rattle.std.proofs.lemmas.Nat.{row_fits}
use Rattle.whole_rows.specs.WholeRows.{WholeRow, IsWithinLimits}
use Rattle.whole_rows.specs.WeightLaws.{span-row_at}
use Rattle.whole_rows.proofs.FlatLemmas.{rows-whole_rows, row-whole_rows}
use Rattle.whole_rows.proofs.dense_rows.DenseRows.row.Goals as goal

pub slice_bounds-result-end : goal.slice_bounds-result-end
slice_bounds-result-end c =
    let width : c.len-width.result ≡ length c.self.inside.bounds.items = omega (arith, c.len-width.ensures) in
    let within : c.args.i < length c.self.inside.sides.items = omega (arith, rows-whole_rows _ _ _ _ _ c.self.view_is) in
    let fits : c.args.i * c.len-width.result + c.len-width.result ≤ length c.deref.result.now = omega (arith, ap length c.deref.ensures.value, c.self.invariant.filled, row_fits c.args.i c.len-width.result (length c.self.inside.sides.items) (length c.self.inside.bounds.items) within (omega (arith, width))) in
    search rules

pub returns-clause-factors : goal.returns-clause-factors
returns-clause-factors c =
    let width : c.len-width.result ≡ length c.self.inside.bounds.items = omega (arith, c.len-width.ensures) in
    let within : c.args.i < length c.self.inside.sides.items = omega (arith, rows-whole_rows _ _ _ _ _ c.self.view_is) in
    let span : c.args.i * c.len-width.result + c.len-width.result - c.args.i * c.len-width.result ≡ length c.self.inside.bounds.items = omega (arith, width) in
    rw (span, width, c.deref.ensures.value) (sym (ap (λ (row : WholeRow). row.factors) (row-whole_rows _ _ _ _ _ _ (record { low = None; high = None; weight = 0 }) c.self.view_is within)))

pub returns-clause-light : goal.returns-clause-light
returns-clause-light c =
    let limits = subst IsWithinLimits c.self.view_is c.self.invariant.limits in
    rw (returns-clause-factors c) (span-row_at c.args.self.now c.args.i limits c.requires)
