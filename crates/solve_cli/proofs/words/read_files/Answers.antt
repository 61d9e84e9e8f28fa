use Rattle.std.proofs.Common.{sym, ◌∙◌, arith}
use Rattle.std.specs.Prelude.{string_bytes}
use Rattle.solve_cli.proofs.WordLaws.{not_named, is_files}
use Rattle.solve_cli.proofs.words.read_files.Goals as goal

pub returns-then-not-are_file_names : goal.returns-then-not-are_file_names
returns-then-not-are_file_names c =
    not_named string_bytes c.args.words.now c.split_at.result.0.now c.split_at.result.1.now c.saturating_sub.result c.model-item.result c.proof-item.result c.saturating_sub.ensures
    c.split_at.ensures.front c.split_at.ensures.back (let a = c.in-len2.len_at_least in let b = c.in-len2.len_below in omega arith) c.model-item.is c.proof-item.is
    (rw (sym c.as_str-model.ensures.value, sym c.as_str-proof.ensures.value) (sym c.are_file_names.ensures ∙ c.if-not-are_file_names.true))

pub returns : goal.returns
returns c =
    is_files string_bytes c.args.words.now c.split_at.result.0.now c.split_at.result.1.now c.saturating_sub.result c.model-item.result c.proof-item.result c.saturating_sub.ensures
    c.split_at.ensures.front c.split_at.ensures.back (let a = c.in-len2.len_at_least in let b = c.in-len2.len_below in omega arith) c.model-item.is c.proof-item.is
    c.in-Some.chosen _ _
    (rw (sym c.as_str-model.ensures.value, sym c.as_str-proof.ensures.value) (sym c.are_file_names.ensures ∙ c.if-not-are_file_names.false))
    c.in-Some.ensures (c.in_ok-of.ensures ∙ c.as_str-model.ensures.value) (c.in_ok-of-2.ensures ∙ c.as_str-proof.ensures.value)
