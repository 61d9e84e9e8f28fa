use Rattle.std.proofs.Common.{◌≡◌, ℕ, ◌<◌, ◌++◌, ◌∙◌, ap, sym, arith, below_more, subst}
use Rattle.exact_math.specs.Ring.{integers}
use Rattle.exact_vectors.specs.Matrices.{combination}
use Rattle.spaces.specs.Maps.{ProductStays}
use Rattle.spaces.specs.Tables.{row_at, rows_in}
use Rattle.spaces.specs.TableLaws as Tables
use Rattle.spaces.proofs.SumSteps.{rows_more, rows_all, stop_handed_on}
use Rattle.spaces.proofs.products.product_items.Goals as goal

pub returns-in_err-append_product-clause-stop : goal.returns-in_err-append_product-clause-stop
returns-in_err-append_product-clause-stop g c =
    let below : c.loop-i.i < c.args.left.now.rows = omega (arith, c.rows-i-end.ensures.count, c.loop-i-test.true) in
    stop_handed_on (ProductStays c.row.result.now c.args.right.now) ((i : ℕ) → i < c.args.left.now.rows → ProductStays (row_at c.args.left.now i) c.args.right.now) c.in_err-append_product.field-0.0 c.from_residual-in_err-append_product.result
    c.from_residual-in_err-append_product.ensures.1
    (λ all. subst (λ l. ProductStays l c.args.right.now) (sym c.row.ensures.value) (all c.loop-i.i below))
    c.in_err-append_product.ensures.stop

pub loop-i-preserved : goal.loop-i-preserved
loop-i-preserved g c =
    let n = c.args.right.now.width in
    let below : c.loop-i.i < c.args.left.now.rows = omega (arith, c.rows-i-end.ensures.count, c.loop-i-test.true) in
    let new = c.in_ok-append_product.ensures.ok ∙ ap (λ l. c.loop-i.items.items ++ combination integers n l (rows_in c.args.right.now)) c.row.ensures.value in
    let more = rows_more n c.args.left.now (rows_in c.args.right.now) c.loop-i.items.items _ c.loop-i.i (Tables.HasWidth-rows_in c.args.right.now c.width.ensures.size) below c.loop-i.invariant.size new c.loop-i.invariant.done in
    record {
      size = more.0;
      done = more.1;
      in_range = below_more _ _ c.loop-i.invariant.in_range (subst (λ l. ProductStays l c.args.right.now) c.row.ensures.value c.in_ok-append_product.ensures.in_range);
    }

pub returns-clause-ok : goal.returns-clause-ok
returns-clause-ok g c =
    let all : c.args.left.now.rows ≡ c.loop-i.i = omega (arith, c.rows-i-end.ensures.count, c.loop-i-test.false, c.loop-i.auto.i-end) in
    rows_all c.args.right.now.width c.args.left.now (rows_in c.args.right.now) c.loop-i.items.items c.loop-i.i all c.loop-i.invariant.done
