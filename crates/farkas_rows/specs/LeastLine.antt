-- The least whole line that is a multiple of a combination with fractions.
use Rattle.std.specs.Prelude.{◌≡◌, ℕ, ℤ, pos, ◌*ℤ◌, ◌≤ℤ◌, List, [], ◌∷◌, ◌++◌, map, All, Option, Some, None, option_map, option_to_list, nat_abs}
use Rattle.std.specs.List.{AllZip}
use Rattle.std.specs.Int.{◌∣◌}
use Rattle.exact_math.specs.Rational.{ℚ, whole, ◌*ℚ◌, ◌/ℚ◌, ◌<ℚ◌}
use Rattle.farkas_rows.specs.declared.fracs.FracUse.{FracUse}
use Rattle.farkas_rows.specs.declared.fracs.CutFrac.{CutFrac}
use Rattle.farkas_rows.specs.declared.line.Use.{Use}
use Rattle.farkas_rows.specs.declared.line.CutUse.{CutUse}
use Rattle.farkas_rows.specs.declared.line.Line.{Line}
use Rattle.farkas_rows.specs.Refutes.{multipliers}

-- the multipliers of a combination: that of the cut first, where it is used
abbrev pub fractions : Option CutFrac → List FracUse → List ℚ
fractions cut items = option_to_list (option_map (λ (cut : CutFrac). cut.times) cut) ++ map (λ (item : FracUse). item.times) items

-- the whole numbers are the fractions times one positive number, and have no common divisor but 1
pub record IsLeastWhole (parts : List ℚ) (wholes : List ℤ) : Type 0 where
  pub multiple : (factor : ℚ) × ((whole (pos 0) <ℚ factor) × AllZip (λ part number. whole number ≡ factor *ℚ part) parts wholes)
  pub lowest : (d : ℕ) → All (λ number. d ∣ nat_abs number) wholes → d ≡ 1

-- the line combines the same inequalities, with such multipliers
pub record IsLeastLine (cut : Option CutFrac) (items : List FracUse) (line : Line) : Type 0 where
  pub same_cut : option_map (λ (cut : CutUse). cut.value) line.cut ≡ option_map (λ (cut : CutFrac). cut.value) cut
  pub same_numbers : map (λ (item : Use). item.index) line.items ≡ map (λ (item : FracUse). item.index) items
  pub least : IsLeastWhole (fractions cut items) (multipliers line)

-- as `times` to `first`, so the whole number to that of `first`
abbrev pub IsInRatio : ℤ → ℚ → ℚ → ℤ → Type 0
IsInRatio number first times result = result *ℤ pos (times /ℚ first).den ≡ number *ℤ (times /ℚ first).num

-- the first multiplier: that of the cut, or of the first item
abbrev pub first_of : Option CutFrac → List FracUse → ℚ
first_of (Some cut) items = cut.times
first_of None [] = whole (pos 1)
first_of None (item ∷ items) = item.times

-- the cut, with a whole multiplier
abbrev pub cut_with : ℤ → Option CutFrac → Option CutUse
cut_with number None = None
cut_with number (Some cut) = Some (record { value = cut.value; times = number })

-- the number is a multiple of each item's denominator, and divides each such number
pub record IsCommon {X : Type 0} (den : X → ℕ) (items : List X) (common : ℤ) : Type 0 where
  pub positive : pos 1 ≤ℤ common
  pub multiple : All (λ item. den item ∣ nat_abs common) items
  pub least : (n : ℕ) → All (λ item. den item ∣ n) items → nat_abs common ∣ n
