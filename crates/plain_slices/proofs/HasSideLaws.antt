-- The sides of rows and slices are inequalities of the node.
use Rattle.std.proofs.Common.{◌≡◌, ℕ, ◌+◌, ◌*◌, ◌^◌, ◌<◌, ◌≤◌, List, length, get_or, ℤ, nat_abs, sym, ap, ◌∙◌, subst, arith}
use Rattle.std.specs.Prelude.{Option, Some, None, option_map}
use Rattle.exact_math.specs.IntegerRing.{linear}
use Rattle.whole_rows.specs.declared.bounds.Bounds.{Bounds}
use Rattle.whole_rows.specs.WholeRows.{WholeRow, WholeRows, row_at, span, size_of_side, weight, IsWithinLimits}
use Rattle.farkas_rows.specs.declared.path.Slice.{Slice}
use Rattle.farkas_rows.specs.Inequalities.{at_most, at_least, inequality_at}
use Rattle.farkas_rows.specs.Refutes.{inequality_weight}
use Rattle.proof_tree.specs.Trees.{IsOfSize}
use Rattle.plain_slices.specs.declared.side.Side.{Side}
use Rattle.plain_slices.specs.declared.side.Side.TheVariants.{Upper, Lower}
use Rattle.plain_slices.specs.Nodes.{IsPathWithin}
use Rattle.plain_slices.specs.Sides.{side_factor, side_form, side_value, side_number, side_inequality, HasSides}
use Rattle.farkas_rows.specs.NumberLaws.{number-row_upper, number-row_lower, number-slice_upper, number-slice_lower}
use Rattle.plain_slices.proofs.SideLaws.{length-side_form, span-side_form, side_factor-size, weight_small}

-- a side is no larger than the row's weight
side_size : (side : Option ℤ) (value : ℤ) → side ≡ Some value → nat_abs value ≤ size_of_side side
side_size side value e = subst (λ (s : Option ℤ). nat_abs value ≤ size_of_side s) (sym e) (omega arith)

-- the weight of a side of a form
side_weight : (side : Side) (form : List ℤ) (box : List Bounds) (value : ℤ) → length form ≡ length box → span form box ≤ 2 ^ 96 → nat_abs value ≤ 2 ^ 99 → inequality_weight (side_inequality side form value) ≤ 2 ^ 100
side_weight side form box value e light small = weight_small (side_form side form) box (side_factor side value) (length-side_form side form ∙ e) (omega (arith, span-side_form side form box)) (omega (arith, side_factor-size side value))

-- of a row
pub row-sides : (rows : WholeRows) (path : List Slice) (i : ℕ) → IsWithinLimits rows → i < length rows.rows → HasSides rows path (2 * i) (row_at rows i).factors (row_at rows i).low (row_at rows i).high
row-sides rows path i limits h = record { names = names; light = light }
  where
    row : WholeRow
    row = row_at rows i

    names : (side : Side) (value : ℤ) → side_value side (row_at rows i).low (row_at rows i).high ≡ Some value → inequality_at rows path None (side_number side (2 * i)) ≡ Some (side_inequality side (row_at rows i).factors value)
    names Upper value e = number-row_upper rows path None i h ∙ ap (option_map (at_most (row_at rows i).factors)) e
    names Lower value e = number-row_lower rows path None i h ∙ ap (option_map (at_least (row_at rows i).factors)) e

    heavy : weight rows.box (row_at rows i) ≤ 2 ^ 96
    heavy = limits.light.weights i _ h

    dense : length (row_at rows i).factors ≡ length rows.box
    dense = limits.dense i _ h

    light : (side : Side) (value : ℤ) → side_value side (row_at rows i).low (row_at rows i).high ≡ Some value → inequality_weight (side_inequality side (row_at rows i).factors value) ≤ 2 ^ 100
    light Upper value e = side_weight Upper (row_at rows i).factors rows.box value dense (omega (arith, heavy)) (omega (arith, heavy, side_size (row_at rows i).high value e))
    light Lower value e = side_weight Lower (row_at rows i).factors rows.box value dense (omega (arith, heavy)) (omega (arith, heavy, side_size (row_at rows i).low value e))

sized : (value : ℤ) → IsOfSize (2 ^ 98) value → nat_abs value ≤ 2 ^ 99
sized value h = omega (linear, h.0, h.1)

some_same : (a b : ℤ) → Some a ≡ Some b → a ≡ b
some_same a b e = cc

-- of a slice
pub slice-sides : (rows : WholeRows) (path : List Slice) (e number : ℕ) (slice : Slice) → IsPathWithin rows path → e < length path → slice ≡ get_or path e slice → number ≡ 2 * (length rows.rows + length rows.box + e) → HasSides rows path number slice.form (Some slice.beta) (Some slice.beta)
slice-sides rows path e number slice within h is n = record { names = names; light = light }
  where
    upper : number ≡ 2 * length rows.rows + 2 * length rows.box + 2 * e
    upper = omega arith

    lower : number + 1 ≡ 2 * length rows.rows + 2 * length rows.box + 2 * e + 1
    lower = omega arith

    names : (side : Side) (value : ℤ) → side_value side (Some slice.beta) (Some slice.beta) ≡ Some value → inequality_at rows path None (side_number side number) ≡ Some (side_inequality side slice.form value)
    names Upper value v = ap (inequality_at rows path None) upper ∙ number-slice_upper rows path None e slice h ∙ ap (λ (s : Slice). Some (at_most s.form s.beta)) (sym is) ∙ ap (λ (b : ℤ). Some (at_most slice.form b)) (some_same slice.beta value v)
    names Lower value v = ap (inequality_at rows path None) lower ∙ number-slice_lower rows path None e slice h ∙ ap (λ (s : Slice). Some (at_least s.form s.beta)) (sym is) ∙ ap (λ (b : ℤ). Some (at_least slice.form b)) (some_same slice.beta value v)

    dense : length slice.form ≡ length rows.box
    dense = ap (λ (s : Slice). length s.form) is ∙ within.forms e slice h

    spans : span slice.form rows.box ≤ 2 ^ 96
    spans = subst (λ (s : Slice). span s.form rows.box ≤ 2 ^ 96) (sym is) (within.light e slice h)

    small : IsOfSize (2 ^ 98) slice.beta
    small = subst (λ (s : Slice). IsOfSize (2 ^ 98) s.beta) (sym is) (within.values e slice h)

    light : (side : Side) (value : ℤ) → side_value side (Some slice.beta) (Some slice.beta) ≡ Some value → inequality_weight (side_inequality side slice.form value) ≤ 2 ^ 100
    light Upper value v = side_weight Upper slice.form rows.box value dense spans (subst (λ (b : ℤ). nat_abs b ≤ 2 ^ 99) (some_same slice.beta value v) (sized slice.beta small))
    light Lower value v = side_weight Lower slice.form rows.box value dense spans (subst (λ (b : ℤ). nat_abs b ≤ 2 ^ 99) (some_same slice.beta value v) (sized slice.beta small))
