use Rattle.std.proofs.Common.{◌∙◌, ℤ, pos, map, replicate, SFits, sym, ap, ap₂, subst, to_z-of_z}
use Rattle.std.specs.Int.{w128}
use Rattle.std.specs.List.{remove}
use Rattle.exact_math.specs.Ring.{integers}
use Rattle.exact_vectors.specs.Matrices.{column, times_matrix}
use Rattle.spaces.specs.Maps.{AffineMap, CompositionStays, IsComposed}
use Rattle.spaces.specs.Multiples.{with_multiple}
use Rattle.spaces.specs.Tables.{Table, rows_in}
use Rattle.unimodular_pair.specs.Pairs.{AreInverse}
use Rattle.reformulate.proofs.ProductSteps.{stop_handed_on}
use Rattle.reformulate.proofs.SliceSteps.{back_stays, composition_stays, is_applied, slice_length}
use Rattle.reformulate.specs.Excuses.{MatricesStay}
use Rattle.reformulate.specs.Slices.{SliceStays}
use Rattle.reformulate.specs.Substitutions.{dimension_of}
use Rattle.reformulate.proofs.frame.Frame.without_first.Goals as goal

pub of-first-requires : goal.of-first-requires
of-first-requires c =
    let s = c.args.self.now in
    let fb : SFits w128 c.args.beta = c.ranges.beta in
    let h = c.dimension.ensures.shaped in
    let origin = c.deref.ensures.value ∙ c.in_ok-origin.ensures.items_if_clones_equal (λ x e. e) ∙ ap (λ k. replicate k (pos 0)) c.dimension.ensures.value in
    let shift = c.of.ensures ∙ (simp to_z-of_z at c.in_ok-shift.ensures.ok) ∙ ap₂ (λ v l. with_multiple c.args.beta (column integers v 0) l) c.v.ensures.rows origin in
    let vectors = c.in_ok-vectors.ensures.rows ∙ ap (map (λ row. remove row 0)) c.v-2.ensures.rows in
    let width = c.in_ok-vectors.ensures.width ∙ c.v-2.ensures.width ∙ c.requires.size in
    let inverse = subst (λ k. AreInverse k c.args.pair.now) c.requires.size c.v.ensures.inverse in
    slice_length c.args.pair.now c.args.beta c.of.result (dimension_of s) inverse shift ∙ sym (c.in_ok-vectors.ensures.height ∙ c.v-2.ensures.height ∙ c.requires.size)

pub returns-in_err-to_work-clause-stop : goal.returns-in_err-to_work-clause-stop
returns-in_err-to_work-clause-stop c =
    let s = c.args.self.now in
    let fb : SFits w128 c.args.beta = c.ranges.beta in
    let h = c.dimension.ensures.shaped in
    let origin = c.deref.ensures.value ∙ c.in_ok-origin.ensures.items_if_clones_equal (λ x e. e) ∙ ap (λ k. replicate k (pos 0)) c.dimension.ensures.value in
    let shift = c.of.ensures ∙ (simp to_z-of_z at c.in_ok-shift.ensures.ok) ∙ ap₂ (λ v l. with_multiple c.args.beta (column integers v 0) l) c.v.ensures.rows origin in
    let vectors = c.in_ok-vectors.ensures.rows ∙ ap (map (λ row. remove row 0)) c.v-2.ensures.rows in
    let width = c.in_ok-vectors.ensures.width ∙ c.v-2.ensures.width ∙ c.requires.size in
    stop_handed_on (CompositionStays c.of-first.result c.to_work.result.now) (SliceStays s c.args.pair.now c.args.beta) c.in_err-to_work.field-0.0 c.from_residual-in_err-to_work.result
    c.from_residual-in_err-to_work.ensures.1
    (composition_stays s c.args.pair.now c.args.beta c.of.result c.in_ok-vectors.vectors c.of-first.result c.to_work.result.now h c.of-first.ensures c.to_work.ensures.value shift vectors width)
    c.in_err-to_work.ensures.stop

pub returns-in_err-back-clause-stop : goal.returns-in_err-back-clause-stop
returns-in_err-back-clause-stop c =
    let s = c.args.self.now in
    let fb : SFits w128 c.args.beta = c.ranges.beta in
    let h = c.dimension.ensures.shaped in
    let origin = c.deref.ensures.value ∙ c.in_ok-origin.ensures.items_if_clones_equal (λ x e. e) ∙ ap (λ k. replicate k (pos 0)) c.dimension.ensures.value in
    let shift = c.of.ensures ∙ (simp to_z-of_z at c.in_ok-shift.ensures.ok) ∙ ap₂ (λ v l. with_multiple c.args.beta (column integers v 0) l) c.v.ensures.rows origin in
    let vectors = c.in_ok-vectors.ensures.rows ∙ ap (map (λ row. remove row 0)) c.v-2.ensures.rows in
    let width = c.in_ok-vectors.ensures.width ∙ c.v-2.ensures.width ∙ c.requires.size in
    let rows = c.in_ok-rows.ensures.rows ∙ ap (λ l. remove l 0) c.u.ensures.rows in
    let old_rows = c.in_ok-old.ensures.rows ∙ ap (λ (t : Table ℤ). rows_in t) c.back.ensures.value in
    let old_width = c.in_ok-old.ensures.width ∙ ap (λ (t : Table ℤ). t.width) c.back.ensures.value in
    stop_handed_on (MatricesStay c.in_ok-old.old.width (rows_in c.in_ok-rows.rows) (rows_in c.in_ok-old.old)) (SliceStays s c.args.pair.now c.args.beta) c.in_err-back.field-0.0 c.from_residual-in_err-back.result
    c.from_residual-in_err-back.ensures.1
    (back_stays s c.args.pair.now c.args.beta c.in_ok-rows.rows c.in_ok-old.old h rows old_rows old_width)
    c.in_err-back.ensures.stop

pub returns-clause-ok : goal.returns-clause-ok
returns-clause-ok c =
    let s = c.args.self.now in
    let fb : SFits w128 c.args.beta = c.ranges.beta in
    let h = c.dimension.ensures.shaped in
    let origin = c.deref.ensures.value ∙ c.in_ok-origin.ensures.items_if_clones_equal (λ x e. e) ∙ ap (λ k. replicate k (pos 0)) c.dimension.ensures.value in
    let shift = c.of.ensures ∙ (simp to_z-of_z at c.in_ok-shift.ensures.ok) ∙ ap₂ (λ v l. with_multiple c.args.beta (column integers v 0) l) c.v.ensures.rows origin in
    let vectors = c.in_ok-vectors.ensures.rows ∙ ap (map (λ row. remove row 0)) c.v-2.ensures.rows in
    let width = c.in_ok-vectors.ensures.width ∙ c.v-2.ensures.width ∙ c.requires.size in
    let rows = c.in_ok-rows.ensures.rows ∙ ap (λ l. remove l 0) c.u.ensures.rows in
    let old_rows = c.in_ok-old.ensures.rows ∙ ap (λ (t : Table ℤ). rows_in t) c.back.ensures.value in
    let old_width = c.in_ok-old.ensures.width ∙ ap (λ (t : Table ℤ). t.width) c.back.ensures.value in
    let inverse = subst (λ k. AreInverse k c.args.pair.now) c.requires.size c.v.ensures.inverse in
    let composed = subst (λ (m : AffineMap). IsComposed c.of-first.result m c.in_ok-to_work.to_work) c.to_work.ensures.value c.in_ok-to_work.ensures.ok in
    let b = c.in_ok-back.ensures in
    is_applied s c.args.pair.now c.args.beta h inverse c.requires.some c.of.result c.in_ok-vectors.vectors c.in_ok-rows.rows c.in_ok-back.back c.of-first.result c.in_ok-to_work.to_work shift vectors width c.of-first.ensures composed rows
    (c.in_ok-rows.ensures.height ∙ c.u.ensures.height ∙ c.requires.size) b.height (b.width ∙ old_width) b.size (b.rows ∙ ap₂ (λ n l. times_matrix integers n (rows_in c.in_ok-rows.rows) l) old_width old_rows)
