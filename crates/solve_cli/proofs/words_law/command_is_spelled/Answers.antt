use Rattle.std.proofs.Common.{sym, ◌∙◌}
use Rattle.std.proofs.lemmas.Option.{same_Some}
use Rattle.solve_cli.proofs.SpellLaws.{command_spelled, spelled_command}
use Rattle.solve_cli.proofs.words_law.command_is_spelled.Goals as goal

pub returns-clause-read : goal.returns-clause-read
returns-clause-read c = λ words command. (command_spelled words command, spelled_command words command)

pub returns-clause-one : goal.returns-clause-one
returns-clause-one c = λ words one other a b. same_Some one other (sym (spelled_command words one a) ∙ spelled_command words other b)
