use Rattle.std.proofs.Common.{[], subst}
use Rattle.solve_cli.specs.Solving.{IsRowed}
use Rattle.solve_cli.proofs.MadeLaws.{plain_limits, unfit_solved}
use Rattle.solve_cli.proofs.market_file.solve_model.Goals as goal

pub rows_of-requires : goal.rows_of-requires
rows_of-requires c = plain_limits c.args.model c.requires

pub returns-in-Stopped : goal.returns-in-Stopped
returns-in-Stopped c = unfit_solved [] 1000 c.args.model c.in-Stopped.reply (subst (IsRowed c.args.model) c.in-Stopped.is c.in_ok-reply.ensures)

pub returns : goal.returns
returns c = let rowed = subst (IsRowed c.args.model) c.in-Rows.is c.in_ok-reply.ensures in c.search_model.ensures c.args.model rowed.1 rowed.2
