use Rattle.std.proofs.Common.{Ok, sym, ap, ◌∙◌}
use Rattle.mps_model.specs.Tables.{tables_of}
use Rattle.mps_model.specs.StatedModel.{stated}
use Rattle.mps_model.specs.Meaning.{unless_fault}
use Rattle.mps_model.proofs.OnTables.FinishedTableLaws.{tables_kept}
use Rattle.mps_model.proofs.tables.text_tables.TextTables.into_model.Goals as goal

pub returns-in-Some : goal.returns-in-Some
returns-in-Some c = λ layout above upper now given.
    let kept = tables_kept layout above c.args.self now c.unwrap-columns.result c.unwrap-columns.ensures in
    ap (unless_fault (stated upper (tables_of layout above)))
    (sym (c.in-Some.ensures (tables_of layout above) upper (c.deref.ensures.value ∙ kept.columns_kept.starts) kept.bounds_kept given))

pub returns : goal.returns
returns c = λ layout above upper now given.
    let kept = tables_kept layout above c.args.self now c.unwrap-columns.result c.unwrap-columns.ensures in
    let none = c.in_default.ensures (tables_of layout above) upper (c.deref.ensures.value ∙ kept.columns_kept.starts) kept.bounds_kept given in
    let built = c.in_ok-build.ensures (tables_of layout above) upper kept given in
    (ap (unless_fault (stated upper (tables_of layout above))) (sym none) ∙ ap Ok (sym built.0), built.1)
