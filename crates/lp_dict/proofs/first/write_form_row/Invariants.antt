use Rattle.std.proofs.Common.{◌≡◌, [], ◌∷◌, ◌++◌, take, drop}
use Rattle.lp_dict.specs.Dictionaries.{none}
use Rattle.lp_dict.specs.Systems.{wholes}
use Rattle.lp_dict.proofs.first.write_form_row.Given as goal

abbrev pub invariant-loop-j : goal.invariant-loop-j
invariant-loop-j l = l.row ≡ take l.j (wholes l.factors ++ none ∷ []) ++ drop l.j l.initial.row
