use Rattle.std.proofs.Common.{ℕ, ℤ, ◌+◌, sym, subst₂}
use Rattle.spaces.specs.Tables.{Table}
use Rattle.presolve_map.proofs.PlacedLaws.{IsPlacedTo, placed-none, placed-written, placed-unset, placed-all}
use Rattle.presolve_map.proofs.placing.place_columns.Goals as goal
use Rattle.presolve_map.proofs.placing.place_columns.Goals.{then-flags-i, else-flags-i}

pub loop-i-init : goal.loop-i-init
loop-i-init c = placed-none c.args.flags.now c.args.lines.now c.requires

pub loop-i-preserved : goal.loop-i-preserved
loop-i-preserved c =
    elim c.if-flags-i.branch [
      | then-flags-i w ↦ subst₂ (λ (place : ℕ) (table : Table ℤ). IsPlacedTo c.args.flags.now (c.loop-i.i + 1) place table) (sym w.place-is) (sym w.lines-is) (placed-written c.args.flags.now c.loop-i.i c.loop-i.place c.loop-i.lines w.row_mut.result.now w.row_mut.ensures.value c.loop-i.invariant c.loop-i-test.true w.if-flags-i.true)
      | else-flags-i w ↦ subst₂ (λ (place : ℕ) (table : Table ℤ). IsPlacedTo c.args.flags.now (c.loop-i.i + 1) place table) (sym w.place-is) (sym w.lines-is) (placed-unset c.args.flags.now c.loop-i.i c.loop-i.place c.loop-i.lines c.loop-i.invariant c.loop-i-test.true w.if-flags-i.false)
    ]

pub returns : goal.returns
returns c = placed-all c.args.flags.now c.loop-i.i c.loop-i.place c.loop-i.lines c.loop-i.invariant c.loop-i-test.false
