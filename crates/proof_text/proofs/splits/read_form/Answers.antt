use Rattle.std.proofs.Common.{◌≡◌, ◌^◌, ◌+◌, [], ◌∷◌, ◌++◌, length, All, sym, ap, subst, ◌∙◌, append-nil, arith}
use Rattle.std.proofs.lemmas.List.{length_push}
use Rattle.std.proofs.lemmas.List.Elements.{All-push}
use Rattle.proof_tree.specs.Trees.{IsOfSize}
use Rattle.proof_text.specs.Spelling.{form_words}
use Rattle.proof_text.proofs.SplitReads.{spelled_more, leads_more, leads_all, factor_same}
use Rattle.proof_text.proofs.splits.read_form.Goals as goal

pub loop-column-preserved : goal.loop-column-preserved
loop-column-preserved c =
    let inv = c.loop-column.invariant in
    let pushed : c.push.new.self.items ≡ c.loop-column.form.items ++ c.take_factor.result ∷ [] = rw (factor_same c.take_factor.result c.take_factor.ensures.size) at c.in_ok-push.ensures.items in
    record {
      spelled = rw pushed (spelled_more c.args.words c.loop-column.words c.take_factor.new.words c.loop-column.form.items c.loop-column.column c.take_factor.result inv.dense inv.spelled c.take_factor.ensures);
      dense = ap length pushed ∙ length_push c.loop-column.form.items c.take_factor.result ∙ ap (λ n. n + 1) inv.dense;
      factors = subst (All (IsOfSize (2 ^ 96))) (sym pushed) (All-push (IsOfSize (2 ^ 96)) c.loop-column.form.items c.take_factor.result inv.factors c.take_factor.ensures.size);
      leads = leads_more c.args.words c.loop-column.words c.take_factor.new.words c.args.columns c.loop-column.column c.take_factor.result c.requires c.loop-column-test.true c.take_factor.ensures inv.leads;
    }

pub returns-then-not-is_empty : goal.returns-then-not-is_empty
returns-then-not-is_empty c = λ other s.
    let none = leads_all c.args.words c.loop-column.words c.args.columns c.loop-column.column c.loop-column-test.false c.loop-column.invariant.leads other s in
    absurd (cc (c.is_empty.ensures.1 none, c.if-not-is_empty.true))

pub returns : goal.returns
returns c =
    let inv = c.loop-column.invariant in
    let none : c.loop-column.words ≡ [] = c.is_empty.ensures.0 c.if-not-is_empty.false in
    rw c.of.ensures (record {
      spelled = inv.spelled ∙ ap (λ w. form_words 0 c.loop-column.form.items ++ w) none ∙ append-nil (form_words 0 c.loop-column.form.items);
      dense = omega (arith, inv.dense, c.loop-column-test.false, c.loop-column.auto.column-end);
      factors = inv.factors;
    })
