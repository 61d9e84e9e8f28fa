use Rattle.std.proofs.Common.{arith}
use Rattle.std.proofs.lemmas.Int.{ints}
use Rattle.proof_text.proofs.ItemLaws.{below_low, above_high}
use Rattle.proof_text.proofs.items.read_between.Goals as goal
use Rattle.proof_text.proofs.items.read_between.Goals.{then-number-low-via-then-number-low, then-number-low-via-else-number-low+then-number-high}

pub returns-then-number-low : goal.returns-then-number-low
returns-then-number-low c =
    elim c.then-number-low.branch [
      | then-number-low-via-then-number-low w ↦ below_low c.args.low c.args.high c.requires.low c.requires.high c.args.word.now c.in_ok-number.number c.in_ok-number.ensures (omega (arith, ints))
      | then-number-low-via-else-number-low+then-number-high w ↦ above_high c.args.low c.args.high c.requires.low c.requires.high c.args.word.now c.in_ok-number.number c.in_ok-number.ensures (omega (arith, ints))
    ]
