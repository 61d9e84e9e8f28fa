use Rattle.std.proofs.Common.{◌∙◌, List, ℕ, take, sym, subst}
use Rattle.farkas_rows.specs.Ends.{inequality_of}
use Rattle.farkas_rows.specs.Refutes.{line_of}
use Rattle.farkas_rows.specs.declared.line.Line.{Line}
use Rattle.tree_checker.specs.Lines.{AreWordsOf}
use Rattle.tree_checker.proofs.LineLaws.{words_of-some, words_behind, spelled_behind}
use Rattle.tree_checker.proofs.Reading.{told}
use Rattle.tree_checker.proofs.closing.judge_line.Goals as goal

pub read_line-requires-clause-some : goal.read_line-requires-clause-some
read_line-requires-clause-some c = λ none. words_of-some c.in-Some.rest.now (sym c.of.ensures ∙ none)

pub returns-in-Some-pairs_behind : goal.returns-in-Some-pairs_behind
returns-in-Some-pairs_behind c =
    let rows = c.args.rows.now in
    let path = c.args.path.now in
    let end = inequality_of c.args.end.now in (
      (c.in-Some-pairs_behind.field-0, c.in-Some-pairs_behind.ensures.0, c.in-Some-pairs_behind.ensures.1),
      λ line h. c.in_default-read_line.ensures line (subst (λ (words : List (List ℕ)). AreWordsOf rows path end words line) (sym c.of.ensures) (words_behind rows path end c.args.first c.args.text.now c.in-Some.rest.now line c.in-Some.ensures h)),
    )

pub returns : goal.returns
returns c =
    let rows = c.args.rows.now in
    let path = c.args.path.now in
    let end = inequality_of c.args.end.now in
    let line : Line = line_of c.in-Some-read_line.read.cut (take c.in-Some-read_line.read.count c.read_line.new.items) in
    let words = subst (λ (words : List (List ℕ)). AreWordsOf rows path end words line) c.of.ensures c.in-Some-read_line.ensures.1 in
    told rows c.args.last path end c.args.first c.args.text.now line c.fault_of.result (spelled_behind rows path end c.args.first c.args.text.now c.in-Some.rest.now line c.in-Some.ensures words) c.fault_of.ensures
