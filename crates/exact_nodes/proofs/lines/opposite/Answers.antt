use Rattle.std.proofs.Common.{◌≡◌, ◌++◌, ◌∷◌, [], ℤ, List, pos, ◌-ℤ◌, neg_ℤ, get_or, sym, ap, ap₂, subst, ◌∙◌, FitsSigned, arith, All}
use Rattle.std.specs.Int.{w128}
use Rattle.std.proofs.lemmas.Int.{ints, to_z-of_z}
use Rattle.std.proofs.lemmas.List.{map_more, take_all}
use Rattle.std.proofs.lemmas.List.Elements.{All-get_or, All-push}
use Rattle.exact_math.specs.IntegerRing.{linear}
use Rattle.exact_math.specs.Ring.{integers}
use Rattle.exact_vectors.specs.Vectors.{negate}
use Rattle.frac128.specs.Range.{IsNarrow}
use Rattle.exact_nodes.proofs.lines.opposite.Goals as goal

pub loop-j-preserved : goal.loop-j-preserved
loop-j-preserved c =
    let x : ℤ = get_or c.items-factors.result.now c.loop-j.j (pos 0) in
    let narrow : IsNarrow (get_or c.items-factors.result.now c.loop-j.j (pos 0)) = All-get_or IsNarrow c.items-factors.result.now c.loop-j.j (pos 0) c.loop-j-test.true (subst (All IsNarrow) (sym c.items-factors.ensures) c.requires) in
    let fits : FitsSigned w128 (get_or c.items-factors.result.now c.loop-j.j (pos 0)) = omega (arith, ints, narrow) in
    let turned_fits : FitsSigned w128 (pos 0 -ℤ get_or c.items-factors.result.now c.loop-j.j (pos 0)) = omega (arith, ints, narrow) in
    let turned : pos 0 -ℤ get_or c.items-factors.result.now c.loop-j.j (pos 0) ≡ neg_ℤ (get_or c.items-factors.result.now c.loop-j.j (pos 0)) = omega linear in
    let turned_narrow : IsNarrow (pos 0 -ℤ get_or c.items-factors.result.now c.loop-j.j (pos 0)) = omega (arith, ints, narrow) in
    let pushed = simp to_z-of_z at c.in_ok-push.ensures.items in
    record {
      done = pushed ∙ ap₂ (λ (l : List ℤ) (z : ℤ). l ++ z ∷ []) c.loop-j.invariant.done turned ∙ sym (map_more neg_ℤ c.items-factors.result.now c.loop-j.j (pos 0) c.loop-j-test.true);
      narrow = subst (All IsNarrow) (sym pushed) (All-push IsNarrow c.loop-j.items.items (pos 0 -ℤ get_or c.items-factors.result.now c.loop-j.j (pos 0)) c.loop-j.invariant.narrow turned_narrow);
    }

pub returns-clause-value : goal.returns-clause-value
returns-clause-value c = c.of.ensures ∙ c.loop-j.invariant.done ∙ ap (negate integers) (take_all c.loop-j.j c.items-factors.result.now c.loop-j-test.false ∙ c.items-factors.ensures)

pub returns-clause-narrow : goal.returns-clause-narrow
returns-clause-narrow c = subst (All IsNarrow) (sym c.of.ensures) c.loop-j.invariant.narrow
