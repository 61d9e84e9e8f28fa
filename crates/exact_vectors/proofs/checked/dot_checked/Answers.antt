use Rattle.std.proofs.Common.{◌≡◌, ◌↔◌, ℤ, pos, ◌+ℤ◌, ◌*ℤ◌, List, [], ◌∷◌, ◌⊎◌, ⊎_elim, FitsSigned, SFits, sym, ◌∙◌, subst, subst₂, rules, to_z-of_z}
use Rattle.std.proofs.lemmas.Slice.Zip.{Zip-more, either_empty_from_Zip}
use Rattle.exact_math.specs.Ring.{integers}
use Rattle.exact_math.specs.IntegerLaws.{add_assoc, add_zero}
use Rattle.exact_vectors.proofs.checked.dot_checked.Goals as goal
use Rattle.exact_vectors.specs.Range.{StaysInRange}
use Rattle.exact_vectors.specs.Vectors.{dot}
use mir.Syntax.{w128}

-- what is left to add, with the next two items taken off
left_range : (s p q : ℤ) (v w v' w' : List ℤ) → v ≡ p ∷ v' → w ≡ q ∷ w' → StaysInRange s v w ↔ (FitsSigned w128 (p *ℤ q) × FitsSigned w128 (s +ℤ p *ℤ q) × StaysInRange (s +ℤ p *ℤ q) v' w')
left_range s p q v w v' w' e f = (λ h. subst₂ (StaysInRange s) e f h, λ h. subst₂ (StaysInRange s) (sym e) (sym f) h)

-- with a product added, the rest stays in range where all does
next_range : (s p q t : ℤ) (a x v w v' w' : List ℤ) → v ≡ p ∷ v' → w ≡ q ∷ w' → FitsSigned w128 (p *ℤ q) × FitsSigned w128 (s +ℤ p *ℤ q) → t ≡ s +ℤ p *ℤ q → StaysInRange (pos 0) a x ↔ StaysInRange s v w → StaysInRange (pos 0) a x ↔ StaysInRange t v' w'
next_range s p q t a x v w v' w' e f fits is same =
    let left = left_range s p q v w v' w' e f in
    (λ h. subst (λ z. StaysInRange z v' w') (sym is) (left.0 (same.0 h)).2, λ h. same.1 (left.1 (fits.0, fits.1, subst (λ z. StaysInRange z v' w') is h)))

-- with a product added, the sum and the rest are the whole
next_total : (s p q t d : ℤ) (v w v' w' : List ℤ) → v ≡ p ∷ v' → w ≡ q ∷ w' → t ≡ s +ℤ p *ℤ q → s +ℤ dot integers v w ≡ d → t +ℤ dot integers v' w' ≡ d
next_total s p q t d v w v' w' e f is total = rw (is, add_assoc) (subst₂ (λ l m. s +ℤ dot integers l m ≡ d) e f total)

-- past the last product nothing is left
end_range : (s : ℤ) (v w : List ℤ) → (v ≡ []) ⊎ (w ≡ []) → StaysInRange s v w
end_range s [] w e = tt
end_range s (a ∷ v) [] e = tt
end_range s (a ∷ v) (x ∷ w) e = ⊎_elim (λ h. cc) (λ h. cc) e

-- so the sum is the whole
end_total : (s d : ℤ) (v w : List ℤ) → (v ≡ []) ⊎ (w ≡ []) → s +ℤ dot integers v w ≡ d → s ≡ d
end_total s d [] w e total = sym (add_zero s) ∙ total
end_total s d (a ∷ v) [] e total = sym (add_zero s) ∙ total
end_total s d (a ∷ v) (x ∷ w) e total = ⊎_elim (λ h. cc) (λ h. cc) e

pub returns : goal.returns
returns c =
    let e = either_empty_from_Zip c.loop-p.p-iterator c.next.new.self c.next.result c.in-None.is c.next.ensures.steps in
    (c.loop-p.invariant.same_range.1 (end_range _ _ _ e), end_total _ _ _ _ e c.loop-p.invariant.total)

pub returns-in_err-sum : goal.returns-in_err-sum
returns-in_err-sum c =
    let m = Zip-more c.loop-p.p-iterator c.next.new.self c.next.result (c.in-Some.p, c.in-Some.q) c.in-Some.is c.next.ensures.steps in
    let fp : SFits w128 c.in-Some.p.now = search rules in
    let fq : SFits w128 c.in-Some.q.now = search rules in
    let refused = simp to_z-of_z at c.in_err-sum.ensures in
    rw c.from_residual.ensures (λ h. let k = (left_range _ _ _ _ _ _ _ m.0 m.1).0 (c.loop-p.invariant.same_range.0 h) in refused (k.0, k.1))

pub loop-p-preserved : goal.loop-p-preserved
loop-p-preserved c =
    let m = Zip-more c.loop-p.p-iterator c.next.new.self c.next.result (c.in-Some.p, c.in-Some.q) c.in-Some.is c.next.ensures.steps in
    let fp : SFits w128 c.in-Some.p.now = search rules in
    let fq : SFits w128 c.in-Some.q.now = search rules in
    let added = simp to_z-of_z at c.in_ok-sum.ensures in
    let fits : SFits w128 c.in_ok-sum.sum = subst (SFits w128) (sym added.1) added.0.1 in
    let is = to_z-of_z fits ∙ added.1 in
    record {
      same_range = next_range _ _ _ _ _ _ _ _ _ _ m.0 m.1 added.0 is c.loop-p.invariant.same_range;
      total = next_total _ _ _ _ _ _ _ _ _ m.0 m.1 is c.loop-p.invariant.total;
    }
