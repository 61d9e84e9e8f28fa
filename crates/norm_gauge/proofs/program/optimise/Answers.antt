use Rattle.norm_gauge.proofs.ProgramSteps.{least_on_polytope}
use Rattle.norm_gauge.proofs.program.optimise.Goals as goal

pub returns-clause-least : goal.returns-clause-least
returns-clause-least c = least_on_polytope c.args.system.now.rows c.args.system.now.limits c.args.form.now c.in_ok-solved.field-0.solved c.in-Least.point c.in-Least.multipliers c.in-Least.value c.requires.condition c.in_ok-solved.ensures.solved c.in-Least.is
