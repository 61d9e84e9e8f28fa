use Rattle.std.proofs.Common.{◌≡◌, ◌^◌, ℤ, [], ◌∷◌, ◌++◌, map, All, ap, sym, subst, ◌∙◌}
use Rattle.std.specs.Fmt.{signed_decimal}
use Rattle.std.proofs.lemmas.List.Elements.{All-push}
use Rattle.proof_tree.specs.Trees.{IsOfSize}
use Rattle.proof_text.proofs.HeadReads.{next_value, value_more}
use Rattle.proof_text.proofs.SplitReads.{factor_same}
use Rattle.proof_text.proofs.heads.read_values.Goals as goal

pub returns-in_default-read_between : goal.returns-in_default-read_between
returns-in_default-read_between c = λ values ranged spelled.
    let next = next_value c.loop-word.values.items values c.in-Some.word.now c.next.new.self ranged (ap (λ w. map signed_decimal c.loop-word.values.items ++ w) (sym c.in-Some.ensures) ∙ sym c.loop-word.invariant.spelled ∙ spelled) in
    c.in_default-read_between.ensures next.0 (next.2, next.1.0, next.1.1)

pub loop-word-preserved : goal.loop-word-preserved
loop-word-preserved c =
    let value : ℤ = c.in-Some-read_between.value in
    let read = c.in-Some-read_between.ensures in
    let pushed : c.push.new.self.items ≡ c.loop-word.values.items ++ value ∷ [] = rw (factor_same value (read.1, read.2)) at c.in_ok-push.ensures.items in
    record {
      spelled = rw pushed (value_more c.args.words c.loop-word.words c.next.new.self c.loop-word.values.items value c.in-Some.word.now c.loop-word.invariant.spelled c.in-Some.ensures read.0);
      ranged = subst (All (IsOfSize (2 ^ 96))) (sym pushed) (All-push (IsOfSize (2 ^ 96)) c.loop-word.values.items value c.loop-word.invariant.ranged (read.1, read.2));
    }
