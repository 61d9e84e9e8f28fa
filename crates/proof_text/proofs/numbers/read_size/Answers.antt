use Rattle.std.proofs.lemmas.Bool.{iff_false}
use Rattle.proof_text.proofs.ReadLaws.{zero_size, no_size, size_value, digits_of_word}
use Rattle.proof_text.proofs.numbers.read_size.Goals as goal

pub returns-then-is_zero : goal.returns-then-is_zero
returns-then-is_zero c = zero_size c.args.word.now (c.is_zero.ensures.0 c.if-is_zero.true)

pub returns-then-not-is_digits_word : goal.returns-then-not-is_digits_word
returns-then-not-is_digits_word c = no_size c.args.word.now (iff_false c.is_zero.ensures c.if-is_zero.false) (iff_false c.is_digits_word.ensures c.if-not-is_digits_word.true)

pub value-requires : goal.value-requires
value-requires c = digits_of_word c.args.word.now (c.is_digits_word.ensures.0 c.if-not-is_digits_word.false)

pub returns : goal.returns
returns c = size_value c.value.result c.args.word.now (c.is_digits_word.ensures.0 c.if-not-is_digits_word.false) c.value.ensures
