use Rattle.std.proofs.Common.{◌≡◌, ◌∙◌, [], List, ℤ, length, get_or, sym, ap₂, subst, SFits, to_z-of_z}
use Rattle.std.specs.Int.{w128}
use Rattle.std.specs.Prelude.{IfOk}
use Rattle.exact_math.specs.Ring.{integers}
use Rattle.exact_vectors.specs.Matrices.{times_vector}
use Rattle.spaces.specs.Tables.{Table, rows_in}
use Rattle.unimodular_pair.specs.Pairs.{matrices_in}
use Rattle.reformulate.proofs.SliceSteps.{inverse_left, is_slice, slice_stops}
use Rattle.reformulate.proofs.TakingSteps.{if_err, if_ok}
use Rattle.reformulate.specs.Charts.{Chart, chart_of}
use Rattle.reformulate.specs.Excuses.{ReducingLeaves, StopsSo}
use Rattle.reformulate.specs.Framing.{IsReductionOf}
use Rattle.reformulate.specs.Slices.{sliced, IsSlice, SliceLeaves}
use Rattle.reformulate.specs.Substitutions.{columns_of, dimension_of}
use Rattle.reformulate.proofs.frame.Frame.slice.Goals as goal

pub reduced-requires-clause-inverse : goal.reduced-requires-clause-inverse
reduced-requires-clause-inverse c =
    let fb : SFits w128 c.args.beta = c.ranges.beta in
    let a = simp to_z-of_z at c.in-Ok.ensures.ok in
    subst (λ (t : Table ℤ). (y : List ℤ) → length y ≡ t.width → times_vector integers (rows_in c.in-Ok.back) (times_vector integers (rows_in t) y) ≡ y) (sym c.lines.ensures.value)
    (inverse_left c.args.self.now c.args.pair.now c.args.beta c.in-Ok.to_work c.in-Ok.back c.requires.some a)

pub returns-in-Ok-clause-ok : goal.returns-in-Ok-clause-ok
returns-in-Ok-clause-ok c =
    let s = c.args.self.now in
    let fb : SFits w128 c.args.beta = c.ranges.beta in
    let a = simp to_z-of_z at c.in-Ok.ensures.ok in
    let chart = ap₂ (λ (b : List ℤ) (t : Table ℤ). record { base = b; pair = matrices_in c.in-Ok.back t }) c.base.ensures.value c.lines.ensures.value ∙ a.chart in
    if_ok c.reduced.result (IsReductionOf (sliced (columns_of s) (dimension_of s) (chart_of s) c.args.pair.now c.args.beta)) (IsSlice s (get_or c.args.pair.now.u 0 []) c.args.beta)
    (is_slice s c.args.pair.now c.args.beta a.old a.inverse c.requires.some c.requires.gathered)
    (subst (λ (k : Chart). IfOk c.reduced.result (IsReductionOf k)) chart c.reduced.ensures.ok)

pub returns-in-Ok-clause-stop : goal.returns-in-Ok-clause-stop
returns-in-Ok-clause-stop c =
    let s = c.args.self.now in
    let fb : SFits w128 c.args.beta = c.ranges.beta in
    let a = simp to_z-of_z at c.in-Ok.ensures.ok in
    let b : Chart = record { base = c.base.result.now; pair = matrices_in c.in-Ok.back c.lines.result.now } in
    let chart = ap₂ (λ (b : List ℤ) (t : Table ℤ). record { base = b; pair = matrices_in c.in-Ok.back t }) c.base.ensures.value c.lines.ensures.value ∙ a.chart in
    if_err c.reduced.result (StopsSo (ReducingLeaves b)) (StopsSo (SliceLeaves s c.args.pair.now c.args.beta))
    (slice_stops s c.args.pair.now c.args.beta b chart)
    c.reduced.ensures.stop
