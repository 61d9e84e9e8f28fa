use Rattle.std.proofs.Common.{refl, sym, ◌∙◌}
use Rattle.std.specs.Prelude.{string_bytes}
use Rattle.solve_cli.proofs.WordLaws.{read_more, read_other, read_twice, read_all}
use Rattle.solve_cli.proofs.words.read_options.Goals as goal

pub returns-in_err-option : goal.returns-in_err-option
returns-in_err-option c =
    rw c.from_residual.ensures (read_other string_bytes c.loop-rest.rest.now c.loop-rest.given _ c.loop-rest.invariant (sym c.is_empty.ensures ∙ c.loop-rest-test.true) c.in_err-option.ensures)

pub returns-in_err-given : goal.returns-in_err-given
returns-in_err-given c =
    rw c.from_residual-in_err-given.ensures (read_twice string_bytes c.loop-rest.rest.now c.loop-rest.given _ c.loop-rest.invariant c.in_ok-option.option c.in_ok-option.ensures c.in_err-given.ensures)

pub loop-rest-preserved : goal.loop-rest-preserved
loop-rest-preserved c =
    read_more string_bytes c.loop-rest.rest.now c.loop-rest.given _ c.loop-rest.invariant _ c.in_ok-given.given c.in_ok-option.option c.words.result c.in_ok-option.ensures c.in_ok-given.ensures c.words.ensures refl

pub returns : goal.returns
returns c = read_all string_bytes c.loop-rest.rest.now c.loop-rest.given _ c.loop-rest.invariant (sym c.is_empty.ensures ∙ c.loop-rest-test.false)
