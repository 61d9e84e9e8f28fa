use Rattle.std.proofs.Common.{◌≡◌, length, arith}
use Rattle.std.specs.List.{remove}
use Rattle.std.proofs.lemmas.List.Edits.{length-remove}
use Rattle.reformulate.proofs.MatrixSteps.{items_all}
use Rattle.reformulate.proofs.matrices.copy_without.Goals as goal

pub returns : goal.returns
returns c =
    let row = c.args.row.now in
    let fewer = length-remove row c.args.place c.requires.there in
    let all = c.loop-k.auto.items in
    let same : length c.loop-k.items ≡ length (remove c.args.row.now c.args.place) = omega (arith, fewer, all, c.requires.long) in
    items_all c.loop-k.items (remove row c.args.place) c.loop-k.k same (omega (arith, all, c.loop-k-test.false)) c.loop-k.invariant
