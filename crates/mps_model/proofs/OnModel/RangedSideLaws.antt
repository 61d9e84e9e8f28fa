-- The sides of a row with a range, from the end to which the range goes.
use Rattle.std.proofs.Common.{◌≡◌, Bool, true, false, cond, Option, Some, None, pos, refl, sym, ap, subst, ◌∙◌}
use Rattle.std.proofs.lemmas.Option.{same_Some}
use Rattle.std.specs.Ordering.{is_lt}
use Rattle.exact_math.specs.IntegerRing.{linear}
use Rattle.exact_math.specs.Rational.{ℚ, whole, ◌+ℚ◌, neg_ℚ, ◌-ℚ◌, ◌≤ℚ◌, rational_cmp}
use Rattle.exact_math.specs.RationalOrder.{not_le_of_lt, le_from_difference, difference_from_le, nonneg_from_num, num_nonneg}
use Rattle.exact_math.specs.RationalTests.{lt_true, lt_false}
use Rattle.exact_math.specs.RationalRing as ring
use Rattle.mps_fields.specs.BooleanLaws.{either}
use Rattle.mps_model.specs.Tables.{RowLine}
use Rattle.mps_model.specs.Sides.{Sides, is_negative, range_step, plain_sides, stepped_sides, ranged_sides}
use Rattle.mps_model.specs.KeptSides.{range_end}

back : (p d : ℚ) → (p +ℚ d) -ℚ p ≡ d
back p d = ap (λ x. x +ℚ neg_ℚ p) (ring.add_comm p d) ∙ ring.add_assoc d p (neg_ℚ p) ∙ ap (λ x. d +ℚ x) (ring.add_neg p) ∙ ring.add_zero d

not_negative : (q : ℚ) → is_negative q ≡ false → whole (pos 0) ≤ℚ q
not_negative q h = nonneg_from_num q (grind linear)

negative : (q : ℚ) → is_negative q ≡ true → whole (pos 0) ≤ℚ q → ⊥
negative q h above = let n = num_nonneg q above in grind linear

-- the end of a step that is negative is below its start, and no other
pub step_below : (start step : ℚ) (b : Bool) → is_lt (rational_cmp (start +ℚ step) start) ≡ b → is_negative step ≡ b
step_below start step true h =
    either (is_negative step) (λ t. t)
    (λ f. absurd (not_le_of_lt (start +ℚ step) start (lt_true (start +ℚ step) start h) (le_from_difference start (start +ℚ step) step (not_negative step f) refl)))
step_below start step false h =
    either (is_negative step)
    (λ t. absurd (negative step t (subst (λ d. whole (pos 0) ≤ℚ d) (back start step) (difference_from_le start (start +ℚ step) (lt_false (start +ℚ step) start h)))))
    (λ f. f)

abbrev pub two_sides : ℚ → ℚ → Sides
two_sides lo hi = record { lo = Some lo; hi = Some hi }

-- the sides by where the end lies
pub sides_by_end : (start end step : ℚ) (b : Bool) → end ≡ start +ℚ step → is_lt (rational_cmp end start) ≡ b → cond b (two_sides end start) (two_sides start end) ≡ stepped_sides start step
sides_by_end start end step b e h =
    let below = step_below start step b (ap (λ x. is_lt (rational_cmp x start)) (sym e) ∙ h) in
    ap (λ x. cond b (two_sides x start) (two_sides start x)) e ∙ ap (λ t. cond t (two_sides (start +ℚ step) start) (two_sides start (start +ℚ step))) (sym below)

-- the sides of a row that has an end, and of one that has none
pub ended : (range : Option ℚ) (start end : ℚ) (row : RowLine) (sides : Sides) → Some end ≡ range_end start row range
    → ((step : ℚ) → end ≡ start +ℚ step → sides ≡ stepped_sides start step) → sides ≡ ranged_sides row start range
ended None start end row sides e stepped = cc
ended (Some r) start end row sides e stepped = stepped (range_step row r) (same_Some end _ e)

pub not_ended : (range : Option ℚ) (start : ℚ) (row : RowLine) (sides : Sides) → None ≡ range_end start row range → sides ≡ plain_sides row start → sides ≡ ranged_sides row start range
not_ended None start row sides e plain = plain
not_ended (Some r) start row sides e plain = cc
