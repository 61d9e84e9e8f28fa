use Rattle.std.proofs.Common.{◌≡◌, length, arith}
use Rattle.std.proofs.lemmas.List.{length-map}
use Rattle.farkas_rows.specs.declared.fracs.FracUse.{FracUse}
use Rattle.farkas_rows.specs.RisingNumbers.{rising-insert}
use Rattle.presolve_map.specs.LiftedLines.{numbers_of}
use Rattle.presolve_map.proofs.NumberedLaws.{numbers_of-insert}
use Rattle.presolve_map.proofs.line.put.Goals as goal

pub returns-clause-rising : goal.returns-clause-rising
returns-clause-rising c =
    let old = c.args.items.now.items in
    let items = c.deref.ensures.value in
    let place = c.place_of-place.result in
    let same : length (numbers_of old) ≡ length old = length-map old (λ (item : FracUse). item.index) in
    rw (c.in_ok-insert.ensures.items, numbers_of-insert) (rising-insert (numbers_of old) place c.args.item.index (omega (arith, rw items at c.place_of-place.ensures.within)) c.requires.rising (λ k e. (rw items at c.place_of-place.ensures.before) k (omega arith)) (λ h. (rw items at c.place_of-place.ensures.after) (omega arith)))
