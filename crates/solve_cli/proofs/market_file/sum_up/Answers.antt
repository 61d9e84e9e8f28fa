use Rattle.std.proofs.Common.{[], ◌∷◌, ◌++◌, refl, ap, ◌∙◌}
use Rattle.std.specs.Prelude.{Ok}
use Rattle.solve_cli.specs.Report.{report_of, market_line}
use Rattle.solve_cli.proofs.MadeLaws.{summed_up}
use Rattle.solve_cli.proofs.market_file.sum_up.Goals as goal

pub returns : goal.returns
returns c = λ model solved.
    summed_up {E = Unit {0}} c.args.m c.args.n c.args.start model c.args.reply (Ok (record { status = c.args.reply.status; report = c.in_ok-market_report.field-0; proof = c.args.reply.proof })) solved
    (refl, refl, c.in_ok-market_report.ensures ∙ ap (λ bytes. report_of (market_line c.args.m c.args.n c.args.start ∷ []) ++ bytes) c.deref.ensures.value)
