use Rattle.std.proofs.Common.{rules, ◌≡◌, ap, ap₂, ◌∙◌, FitsSigned, arith}
use Rattle.std.specs.Int.{w128}
use Rattle.std.proofs.lemmas.Int.{to_z-of_z}
use Rattle.whole_rows.specs.declared.ends.End.TheVariants.{Least}
use Rattle.whole_rows.specs.Ends.{sum_at}
use Rattle.presolve_map.specs.Columns.{removed_part}
use Rattle.presolve_map.specs.Removed.{span-removed, sum_at-removed}
use Rattle.presolve_map.specs.ReducedRows.{moved_side}
use Rattle.presolve_map.proofs.ReduceLaws.{part_small}
use Rattle.presolve_map.proofs.reduce.moved_sides.Goals as goal

pub sum-part-requires-clause-light : goal.sum-part-requires-clause-light
sum-part-requires-clause-light c = rw c.requires.removed (omega (arith, span-removed c.row.result.now c.args.rows.now.box, c.row.ensures.light))

pub moved_side-requires-clause-part : goal.moved_side-requires-clause-part
moved_side-requires-clause-part c =
    let fits : FitsSigned w128 c.sum-part.result = search rules in
    let is : c.sum-part.result ≡ sum_at Least c.row.result.now c.args.removed.now = c.sum-part.ensures in
    let part : c.sum-part.result ≡ removed_part c.args.rows.now.box c.row.result.now = is ∙ ap (sum_at Least c.row.result.now) c.requires.removed ∙ sum_at-removed Least c.row.result.now c.args.rows.now.box in
    simp to_z-of_z (rw part (omega (arith, part_small c.row.result.now c.args.rows.now.box, c.row.ensures.light)))

pub moved_side-requires-2-clause-part : goal.moved_side-requires-2-clause-part
moved_side-requires-2-clause-part c =
    let fits : FitsSigned w128 c.sum-part.result = search rules in
    let is : c.sum-part.result ≡ sum_at Least c.row.result.now c.args.removed.now = c.sum-part.ensures in
    let part : c.sum-part.result ≡ removed_part c.args.rows.now.box c.row.result.now = is ∙ ap (sum_at Least c.row.result.now) c.requires.removed ∙ sum_at-removed Least c.row.result.now c.args.rows.now.box in
    simp to_z-of_z (rw part (omega (arith, part_small c.row.result.now c.args.rows.now.box, c.row.ensures.light)))

pub returns-clause-low : goal.returns-clause-low
returns-clause-low c =
    let fits : FitsSigned w128 c.sum-part.result = search rules in
    let is : c.sum-part.result ≡ sum_at Least c.row.result.now c.args.removed.now = c.sum-part.ensures in
    let part : c.sum-part.result ≡ removed_part c.args.rows.now.box c.row.result.now = is ∙ ap (sum_at Least c.row.result.now) c.requires.removed ∙ sum_at-removed Least c.row.result.now c.args.rows.now.box in
    let value : c.moved_side.result ≡ moved_side c.sum-part.result c.low.result = simp to_z-of_z at c.moved_side.ensures.value in
    value ∙ ap₂ moved_side (part ∙ ap (removed_part c.args.rows.now.box) c.row.ensures.factors) c.low.ensures

pub returns-clause-high : goal.returns-clause-high
returns-clause-high c =
    let fits : FitsSigned w128 c.sum-part.result = search rules in
    let is : c.sum-part.result ≡ sum_at Least c.row.result.now c.args.removed.now = c.sum-part.ensures in
    let part : c.sum-part.result ≡ removed_part c.args.rows.now.box c.row.result.now = is ∙ ap (sum_at Least c.row.result.now) c.requires.removed ∙ sum_at-removed Least c.row.result.now c.args.rows.now.box in
    let value : c.moved_side-2.result ≡ moved_side c.sum-part.result c.high.result = simp to_z-of_z at c.moved_side-2.ensures.value in
    value ∙ ap₂ moved_side (part ∙ ap (removed_part c.args.rows.now.box) c.row.ensures.factors) c.high.ensures
