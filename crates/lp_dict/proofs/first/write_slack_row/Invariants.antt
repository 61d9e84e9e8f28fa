use Rattle.std.proofs.Common.{◌≡◌, ◌++◌, take, drop}
use Rattle.lp_dict.specs.Dictionaries.{slack_row}
use Rattle.lp_dict.specs.Systems.{wholes}
use Rattle.lp_dict.proofs.first.write_slack_row.Given as goal

abbrev pub invariant-loop-j : goal.invariant-loop-j
invariant-loop-j l = l.row ≡ take l.j (slack_row (wholes l.factors) l.limit) ++ drop l.j l.initial.row
