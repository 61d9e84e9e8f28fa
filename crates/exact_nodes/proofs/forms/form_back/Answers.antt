use Rattle.std.proofs.Common.{◌<◌, ◌≤◌, [], ℕ, ℤ, List, SFits, ap, ap₂, subst, length, ◌∙◌, rules, arith, to_z-of_z, below_more}
use Rattle.std.specs.Int.{w128}
use Rattle.exact_math.specs.Ring.{integers}
use Rattle.exact_vectors.specs.Matrices.{HasWidth, combination}
use Rattle.exact_vectors.specs.MatrixLaws as Matrix
use Rattle.reformulate.specs.Substitutions.{columns_of}
use Rattle.spaces.specs.TableLaws.{HasWidth-rows_in}
use Rattle.spaces.specs.Tables.{Table, rows_in}
use Rattle.spaces.proofs.SumSteps.{product_more, product_all}
use Rattle.exact_nodes.proofs.forms.form_back.Goals as goal

pub loop-j-preserved : goal.loop-j-preserved
loop-j-preserved c =
    let fi : SFits w128 c.in-Some.item = search rules in
    let below : c.loop-j.j < c.back-back.result.now.width = omega (arith, c.width-j-end.ensures.count, c.loop-j-test.true) in
    let pushed = simp to_z-of_z at c.in_ok-push.ensures.items in
    let told = rw c.items.ensures at c.in-Some.ensures in
    record {
      done = pushed ∙ product_more c.back-back.result.now c.args.form.now [] _ c.loop-j.j c.in-Some.item c.width-j-end.ensures.size below told.1 c.loop-j.invariant.done;
      in_range = below_more _ _ c.loop-j.invariant.in_range told.0;
    }

pub returns-clause-value : goal.returns-clause-value
returns-clause-value c =
    let past : c.back-back.result.now.width ≤ c.loop-j.j = omega (arith, c.width-j-end.ensures.count, c.loop-j-test.false) in
    c.of.ensures ∙ product_all c.back-back.result.now c.args.form.now [] _ c.loop-j.j c.width-j-end.ensures.size past c.loop-j.invariant.done
    ∙ ap₂ (λ (n : ℕ) (rows : List (List ℤ)). combination integers n c.args.form.now rows) (ap (λ (t : Table ℤ). t.width) c.back-back.ensures.value ∙ c.back-back.ensures.shaped.shaped.width) (ap rows_in c.back-back.ensures.value)

pub returns-clause-columns : goal.returns-clause-columns
returns-clause-columns c =
    let wide : HasWidth (columns_of c.args.frame.now) (rows_in c.args.frame.now.back) = subst (λ (n : ℕ). HasWidth n (rows_in c.args.frame.now.back)) c.back-back.ensures.shaped.shaped.width (HasWidth-rows_in c.args.frame.now.back c.back-back.ensures.shaped.shaped.size_back) in
    ap (λ (l : List ℤ). length l) (returns-clause-value c) ∙ Matrix.length-combination integers (columns_of c.args.frame.now) c.args.form.now (rows_in c.args.frame.now.back) wide
