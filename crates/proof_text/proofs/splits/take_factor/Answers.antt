use Rattle.std.proofs.Common.{sym, ◌∙◌}
use Rattle.proof_text.proofs.SplitReads.{no_factor, nothing_there, none_spelled, other_spelled, factor_there, factor_same}
use Rattle.proof_text.proofs.splits.take_factor.Goals as goal

pub returns-in_default : goal.returns-in_default
returns-in_default c = no_factor c.args.column c.requires c.args.words.now (nothing_there c.args.column c.requires c.args.words.now (sym c.again-rest.ensures ∙ c.in_default.ensures.0))

pub returns-in_default-read_factor : goal.returns-in_default-read_factor
returns-in_default-read_factor c =
    no_factor c.args.column c.requires c.args.words.now (none_spelled c.args.column c.requires c.args.words.now c.next.new.self c.in-Some.word.now (sym c.again-rest.ensures ∙ c.in-Some.ensures) c.in_default-read_factor.ensures)

pub returns-then-factor-column : goal.returns-then-factor-column
returns-then-factor-column c =
    no_factor c.args.column c.requires c.args.words.now
    (other_spelled c.args.column c.requires c.args.words.now c.next.new.self c.in-Some.word.now c.in-Some-read_factor.factor (sym c.again-rest.ensures ∙ c.in-Some.ensures) c.in-Some-read_factor.ensures c.if-factor-column.true)

pub returns : goal.returns
returns c = rw (factor_same c.in-Some-read_factor.factor.factor c.in-Some-read_factor.ensures.size) (factor_there c.args.column c.requires c.args.words.now c.next.new.self c.in-Some.word.now c.in-Some-read_factor.factor (sym c.again-rest.ensures ∙ c.in-Some.ensures) c.in-Some-read_factor.ensures c.if-factor-column.false)
