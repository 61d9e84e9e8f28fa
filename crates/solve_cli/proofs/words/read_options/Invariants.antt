use Rattle.std.proofs.Common.{◌≡◌, length, map}
use Rattle.std.specs.Prelude.{option_and_then, string_bytes}
use Rattle.solve_cli.specs.Words.{settled, options_of, none_chosen}
use Rattle.solve_cli.proofs.words.read_options.Given as goal

abbrev pub invariant-loop-rest : goal.invariant-loop-rest
invariant-loop-rest l =
    option_and_then (settled l.given) (options_of (map string_bytes l.rest)) ≡ option_and_then (settled none_chosen) (options_of (map string_bytes l.fn.words))

abbrev pub decreases-loop-rest : goal.decreases-loop-rest
decreases-loop-rest l = length l.rest
