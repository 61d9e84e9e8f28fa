-- A row passes one of its sides at a corner of the box exactly where some values within the box do not meet it.
use Rattle.std.proofs.Common.{◌≡◌, ◌↔◌, Bool, true, false, List, [], ◌∷◌, length, ℤ, pos, ◌+ℤ◌, ◌*ℤ◌, ◌≤ℤ◌, refl, sym, ap, subst, ◌∙◌, arith}
use Rattle.std.specs.Prelude.{Option, Some, None, IfSome, IsTrue, int_lt, ◌||◌}
use Rattle.std.proofs.lemmas.Bool.{cond_both}
use Rattle.std.proofs.lemmas.List.Elements.{All-head, All-tail}
use Rattle.exact_math.specs.Ring.{integers}
use Rattle.exact_math.specs.IntegerRing.{linear}
use Rattle.exact_vectors.specs.Vectors.{dot}
use Rattle.whole_rows.specs.declared.bounds.Bounds.{Bounds}
use Rattle.whole_rows.specs.declared.ends.End.{End}
use Rattle.whole_rows.specs.declared.ends.End.TheVariants.{Least, Greatest}
use Rattle.whole_rows.specs.WholeRows.{WholeRow, LiesIn, MeetsRow}
use Rattle.whole_rows.specs.Ends.{value_at, sum_at}
use Rattle.plain_slices.specs.Nodes.{IsOpenBox}
use Rattle.presolve_map.specs.ReducedRows.{can_violate, falls_below, rises_above}
use Rattle.presolve_map.proofs.KeepLaws.{passed-met}

-- the corner of a box at which a sum is at one of its ends
corner : End → List ℤ → List Bounds → List ℤ
corner end [] box = []
corner end (a ∷ factors) [] = []
corner end (a ∷ factors) (b ∷ box) = value_at end a b ∷ corner end factors box

between : (end : End) (a : ℤ) (b : Bounds) → b.low ≤ℤ b.high → (b.low ≤ℤ value_at end a b) × (value_at end a b ≤ℤ b.high)
between Least a b h = cond_both (int_lt a (pos 0)) b.high b.low (λ v. (b.low ≤ℤ v) × (v ≤ℤ b.high)) (λ e. (h, omega linear)) (λ e. (omega linear, h))
between Greatest a b h = cond_both (int_lt a (pos 0)) b.low b.high (λ v. (b.low ≤ℤ v) × (v ≤ℤ b.high)) (λ e. (omega linear, h)) (λ e. (h, omega linear))

corner-lies : (end : End) (factors : List ℤ) (box : List Bounds) → length factors ≡ length box → IsOpenBox box → LiesIn box (corner end factors box)
unfolding corner
corner-lies end [] [] e h = tt
corner-lies end [] (b ∷ box) e h = absurd (omega arith)
corner-lies end (a ∷ factors) [] e h = absurd (omega arith)
corner-lies end (a ∷ factors) (b ∷ box) e h = (between end a b (All-head (λ (b : Bounds). b.low ≤ℤ b.high) b box h), corner-lies end factors box (omega arith) (All-tail (λ (b : Bounds). b.low ≤ℤ b.high) b box h))

corner-sum : (end : End) (factors : List ℤ) (box : List Bounds) → dot integers factors (corner end factors box) ≡ sum_at end factors box
unfolding corner
corner-sum end [] box = refl
corner-sum end (a ∷ factors) [] = refl
corner-sum end (a ∷ factors) (b ∷ box) = ap (λ t. a *ℤ value_at end a b +ℤ t) (corner-sum end factors box)

-- a side that is passed is not met
below-unmet : (side : Option ℤ) (value : ℤ) → falls_below side value ≡ true → IfSome side (λ l. l ≤ℤ value) → ⊥
below-unmet None value e h = cc
below-unmet (Some s) value e h = absurd (omega linear)

above-unmet : (side : Option ℤ) (value : ℤ) → rises_above side value ≡ true → IfSome side (λ h. value ≤ℤ h) → ⊥
above-unmet None value e h = cc
above-unmet (Some s) value e h = absurd (omega linear)

abbrev IsViolated : List Bounds → WholeRow → Type 0
IsViolated box row = (x : List ℤ) × (LiesIn box x) × (MeetsRow row x → ⊥)

violated : (box : List Bounds) (row : WholeRow) → IsOpenBox box → length row.factors ≡ length box → can_violate box row ≡ true → IsViolated box row
violated box row open_box e passes = by_side (falls_below row.low (sum_at Least row.factors box)) refl
  where
    by_side : (t : Bool) → falls_below row.low (sum_at Least row.factors box) ≡ t → IsViolated box row
    by_side true is = (corner Least row.factors box, corner-lies Least row.factors box e open_box, λ meets. below-unmet row.low (sum_at Least row.factors box) is (subst (λ (v : ℤ). IfSome row.low (λ l. l ≤ℤ v)) (corner-sum Least row.factors box) meets.0))
    by_side false is =
        let above : rises_above row.high (sum_at Greatest row.factors box) ≡ true = ap (λ (t : Bool). t || rises_above row.high (sum_at Greatest row.factors box)) (sym is) ∙ passes in
        (corner Greatest row.factors box, corner-lies Greatest row.factors box e open_box, λ meets. above-unmet row.high (sum_at Greatest row.factors box) above (subst (λ (v : ℤ). IfSome row.high (λ h. v ≤ℤ h)) (corner-sum Greatest row.factors box) meets.1))

pub can_violate-is : (box : List Bounds) (row : WholeRow) → IsOpenBox box → length row.factors ≡ length box → IsTrue (can_violate box row) ↔ ((x : List ℤ) × (LiesIn box x) × (MeetsRow row x → ⊥))
can_violate-is box row open_box e = (violated box row open_box e, λ some. decided some (can_violate box row) refl)
  where
    decided : ((x : List ℤ) × (LiesIn box x) × (MeetsRow row x → ⊥)) → (t : Bool) → can_violate box row ≡ t → can_violate box row ≡ true
    decided some true is = is
    decided some false is = absurd (some.2 (passed-met box row some.0 some.1 is))
