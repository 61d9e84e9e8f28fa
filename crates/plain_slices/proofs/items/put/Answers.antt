use Rattle.std.proofs.Common.{◌≡◌, length, arith}
use Rattle.std.proofs.lemmas.List.{length-map}
use Rattle.farkas_rows.specs.declared.line.Use.{Use}
use Rattle.plain_slices.specs.Items.{numbers_of}
use Rattle.farkas_rows.specs.RisingNumbers.{rising-insert}
use Rattle.plain_slices.proofs.ItemLaws.{numbers_of-insert}
use Rattle.plain_slices.proofs.items.put.Goals as goal

pub returns-clause-rising : goal.returns-clause-rising
returns-clause-rising c =
    let old = c.args.items.now.items in
    let items = c.deref.ensures.value in
    let place = c.place_of-place.result in
    let same : length (numbers_of old) ≡ length old = length-map old (λ (item : Use). item.index) in
    rw (c.in_ok-insert.ensures.items, numbers_of-insert) (rising-insert (numbers_of old) place c.args.item.index (omega (arith, rw items at c.place_of-place.ensures.within)) c.requires.rising (rw items at c.place_of-place.ensures.before) (λ h. (rw items at c.place_of-place.ensures.after) place (omega arith) (omega arith)))
