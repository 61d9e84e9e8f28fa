use Rattle.std.proofs.Common.{◌+◌, [], ◌∷◌, ◌++◌, ◌∙◌, ap}
use Rattle.lp_dict.proofs.FirstSteps.{numbers_more}
use Rattle.lp_dict.proofs.first.variables.Goals as goal

pub loop-i-preserved : goal.loop-i-preserved
loop-i-preserved c = c.in_ok-push.ensures.items ∙ ap (λ l. l ++ (c.args.first + c.loop-i.i) ∷ []) c.loop-i.invariant ∙ numbers_more c.args.first c.loop-i.i
