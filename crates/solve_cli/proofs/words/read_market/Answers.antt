use Rattle.std.proofs.Common.{sym, ap, ◌∙◌, arith}
use Rattle.std.specs.Prelude.{string_bytes}
use Rattle.solve_cli.specs.Words.{number_within, most_market_rows, most_market_columns, most_start}
use Rattle.solve_cli.proofs.WordLaws.{not_five, not_market, is_market}
use Rattle.solve_cli.proofs.words.read_market.Goals.{in_default-via-then-words-lt5, in_default-via-else-words-lt5+else-words-lt6}
use Rattle.solve_cli.proofs.words.read_market.Goals as goal

pub returns-in_default : goal.returns-in_default
returns-in_default c =
    elim c.in_default.branch [
      | in_default-via-then-words-lt5 w ↦ not_five string_bytes c.args.words.now (λ five. grind arith)
      | in_default-via-else-words-lt5+else-words-lt6 w ↦ not_five string_bytes c.args.words.now (λ five. grind arith)
    ]

pub returns-then-not-are_file_names : goal.returns-then-not-are_file_names
returns-then-not-are_file_names c =
    let found = c.in-Some-Some-Some in
    not_market string_bytes c.args.words.now c.rows-item.result c.columns-item.result c.start-item.result c.model-item.result c.proof-item.result
    (let a = c.in-len5.len_at_least in let b = c.in-len5.len_below in omega arith) c.rows-item.is c.columns-item.is c.start-item.is c.model-item.is c.proof-item.is
    found.m found.n found.start
    (found.ensures.value ∙ ap (number_within 1 most_market_rows) c.as_str.ensures.value) (found.ensures'.value ∙ ap (number_within 1 most_market_columns) c.as_str-2.ensures.value)
    (found.ensures''.value ∙ ap (number_within 1 most_start) c.as_str-3.ensures.value)
    (rw (sym c.as_str-model.ensures.value, sym c.as_str-proof.ensures.value) (sym c.are_file_names.ensures ∙ c.if-not-are_file_names.true))

pub returns : goal.returns
returns c =
    let found = c.in-Some-Some-Some in
    is_market string_bytes c.args.words.now c.rows-item.result c.columns-item.result c.start-item.result c.model-item.result c.proof-item.result
    (let a = c.in-len5.len_at_least in let b = c.in-len5.len_below in omega arith) c.rows-item.is c.columns-item.is c.start-item.is c.model-item.is c.proof-item.is
    found.m found.n found.start
    (found.ensures.value ∙ ap (number_within 1 most_market_rows) c.as_str.ensures.value) (found.ensures'.value ∙ ap (number_within 1 most_market_columns) c.as_str-2.ensures.value)
    (found.ensures''.value ∙ ap (number_within 1 most_start) c.as_str-3.ensures.value) _ _
    (rw (sym c.as_str-model.ensures.value, sym c.as_str-proof.ensures.value) (sym c.are_file_names.ensures ∙ c.if-not-are_file_names.false))
    (c.in_ok-of.ensures ∙ c.as_str-model.ensures.value) (c.in_ok-of-2.ensures ∙ c.as_str-proof.ensures.value)
