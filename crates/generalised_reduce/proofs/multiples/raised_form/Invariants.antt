use Rattle.generalised_reduce.proofs.MultipleSteps.{IsRaised}
use Rattle.generalised_reduce.proofs.multiples.raised_form.Given as goal

abbrev pub invariant-loop-j : goal.invariant-loop-j
invariant-loop-j l = IsRaised l.factor l.source l.target l.items l.j
