use Rattle.std.proofs.Common.{arith}
use Rattle.std.proofs.lemmas.Int.{ints}
use Rattle.proof_text.proofs.ItemLaws.{no_factor_pair, no_factor_column, no_factor_number, no_factor_zero}
use Rattle.proof_text.proofs.items.read_factor.Goals as goal

pub returns-in_err-parts : goal.returns-in_err-parts
returns-in_err-parts c = rw c.from_residual.ensures (no_factor_pair c.args.word.now c.in_err-parts.ensures)

pub returns-in_err-column : goal.returns-in_err-column
returns-in_err-column c = rw c.from_residual-in_err-column.ensures (no_factor_column c.args.word.now c.in_ok-parts.parts c.in_ok-parts.ensures c.in_err-column.ensures)

pub returns-in_err-factor : goal.returns-in_err-factor
returns-in_err-factor c = rw c.from_residual-in_err-factor.ensures (no_factor_number c.args.word.now c.in_ok-parts.parts c.in_ok-parts.ensures c.in_err-factor.ensures)

pub returns-then-factor-eq0 : goal.returns-then-factor-eq0
returns-then-factor-eq0 c = no_factor_zero c.args.word.now c.in_ok-parts.parts c.in_ok-factor.factor c.in_ok-parts.ensures c.in_ok-factor.ensures (omega (arith, ints))
