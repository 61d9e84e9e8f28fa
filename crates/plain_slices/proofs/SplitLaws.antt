-- The split of a column, and the point of fixed columns.
use Rattle.std.proofs.Common.{◌≡◌, ℕ, zero, suc, ◌+◌, ◌*◌, ◌^◌, ◌<◌, ◌≤◌, false, List, [], ◌∷◌, length, get_or, ℤ, pos, negsuc, ◌+ℤ◌, ◌-ℤ◌, ◌≤ℤ◌, ◌<ℤ◌, nat_abs, refl, sym, ap, ◌∙◌, subst, arith}
use Rattle.std.specs.Prelude.{Option, Some, None, IfSome, IsTrue}
use Rattle.std.proofs.lemmas.Bool.{false≢true}
use Rattle.std.proofs.lemmas.List.{get_or_default}
use Rattle.std.specs.List.Sorted.{IsStrictlyIncreasing}
use Rattle.exact_math.specs.Ring.{integers}
use Rattle.exact_math.specs.IntegerRing.{linear}
use Rattle.exact_vectors.specs.Vectors.{zeros}
use Rattle.whole_rows.specs.declared.bounds.Bounds.{Bounds}
use Rattle.whole_rows.specs.declared.ends.End.TheVariants.{Least}
use Rattle.whole_rows.specs.WholeRows.{WholeRows, bounds_at, cut_value, reach, span, IsWithinLimits}
use Rattle.whole_rows.specs.Ends.{AllFixed, lows, sum_at}
use Rattle.whole_rows.specs.EndLaws.{sum_at-fixed, MeetsRow-fixed, LiesIn-lows}
use Rattle.farkas_rows.specs.declared.line.CutUse.{CutUse}
use Rattle.farkas_rows.specs.declared.line.Line.{Line}
use Rattle.farkas_rows.specs.declared.path.Slice.{Slice}
use Rattle.farkas_rows.specs.Inequalities.{Inequality, unit, below, above, inequality_at}
use Rattle.farkas_rows.specs.NodeLaws.{length-unit}
use Rattle.farkas_rows.specs.Refutes.{Refutes, HasForms}
use Rattle.proof_tree.specs.declared.tree.Cut.{Cut}
use Rattle.proof_tree.specs.declared.tree.Mark.TheVariants.{Plain}
use Rattle.proof_tree.specs.Moves.{nonnegative_part, widest, ClosesUnder, SplitsUnder, Improves}
use Rattle.plain_slices.specs.declared.node.Source.{Source}
use Rattle.plain_slices.specs.Shut.{IsFixedBy}
use Rattle.plain_slices.specs.Nodes.{narrowed_at, source_at, IsNarrowed, IsOpenBox, IsMeetable}
use Rattle.plain_slices.specs.Items.{numbers_of, IsPutIn}
use Rattle.plain_slices.specs.PlainMoves.{IsPlainMove}
use Rattle.plain_slices.proofs.UnitLaws.{unit-same}
use Rattle.farkas_rows.specs.NumberLaws.{number-bound_upper, number-bound_lower, number-end}
use Rattle.plain_slices.proofs.RefuteLaws.{once, refutes-pair}
use Rattle.plain_slices.proofs.ShutLaws.{meetable-open}

-- ---- the split

span_zeros : (n : ℕ) (box : List Bounds) → span (zeros integers n) box ≡ 0
span_zeros zero box = refl
span_zeros (suc n) [] = refl
span_zeros (suc n) (b ∷ box) = omega (arith, span_zeros n box)

-- a column's form spans as far as the column reaches
span_unit : (n j : ℕ) (box : List Bounds) (b : Bounds) → length box ≡ n → j < n → span (unit n j) box ≡ reach (get_or box j b)
span_unit zero j box b e h = absurd (omega arith)
span_unit (suc n) j [] b e h = absurd (omega arith)
span_unit (suc n) zero (c ∷ box) b e h = omega (arith, span_zeros n box)
span_unit (suc n) (suc j) (c ∷ box) b e h = omega (arith, span_unit n j box b (omega arith) (omega arith))

-- no column is wider than the widest
widest-at : (box : List Bounds) (j : ℕ) (b : Bounds) → j < length box → nonnegative_part ((get_or box j b).high -ℤ (get_or box j b).low) ≤ widest box
widest-at [] j b h = absurd (omega arith)
widest-at (c ∷ box) zero b h = omega arith
widest-at (c ∷ box) (suc j) b h = omega (arith, widest-at box j b (omega arith))

below_part : (z : ℤ) → z ≤ℤ pos (nonnegative_part z)
below_part (pos n) = omega linear
below_part (negsuc n) = omega linear

closes : (rows : WholeRows) (best : Option ℤ) (path : List Slice) (end : Option Inequality) (line : Line) → line.cut ≡ None → Refutes rows path end line → ClosesUnder rows best path end line
closes rows best path end line none refutes = record { refutes = refutes; cut = subst (λ (cut : Option CutUse). IfSome cut (λ (cut : CutUse). best ≡ Some cut.value)) (sym none) tt }

-- the split of a column from its lower bound to its upper bound, with a line for each end
pub splits-column : (rows : WholeRows) (path : List Slice) (column bound end : ℕ) (cut : Cut) → IsWithinLimits rows → column < length rows.box → (bounds_at rows column).low ≤ℤ (bounds_at rows column).high → bound ≡ 2 * (length rows.rows + column) → end ≡ 2 * (length rows.rows + length rows.box + length path) → cut.form ≡ unit (length rows.box) column → cut.lo ≡ (bounds_at rows column).low → cut.count ≡ (bounds_at rows column).high -ℤ (bounds_at rows column).low +ℤ pos 1 → cut.below.cut ≡ None → IsPutIn (once (bound + 1)) (once end ∷ []) cut.below.items → IsStrictlyIncreasing (numbers_of cut.below.items) → cut.above.cut ≡ None → IsPutIn (once end) (once bound ∷ []) cut.above.items → IsStrictlyIncreasing (numbers_of cut.above.items) → (best : Option ℤ) → SplitsUnder rows best path cut
splits-column rows path column bound end cut limits h ordered is_bound is_end is_form is_lo is_count below_cut below_items below_rising above_cut above_items above_rising best =
    let n = length rows.box in
    let b = bounds_at rows column in
    let light : reach b ≤ 2 ^ 96 = limits.light.reaches column (record { low = pos 0; high = pos 0 }) h in
    let low : nat_abs b.low ≤ 2 ^ 96 = omega arith in
    let high : nat_abs b.high ≤ 2 ^ 96 = omega arith in
    let number : bound ≡ 2 * length rows.rows + 2 * column = omega arith in
    let number_lower : bound + 1 ≡ 2 * length rows.rows + 2 * column + 1 = omega arith in
    let number_end : end ≡ 2 * length rows.rows + 2 * length rows.box + 2 * length path = omega arith in
    let below_end : Option Inequality = Some (below (unit n column) b.low) in
    let above_end : Option Inequality = Some (above (unit n column) (b.high +ℤ pos 1)) in
    let from : cut.lo +ℤ cut.count ≡ b.high +ℤ pos 1 = omega (linear, is_lo, is_count) in
    record {
      form = record {
        dense = ap length is_form ∙ length-unit n column;
        some = λ zeros. absurd (omega (linear, ap (λ (f : List ℤ). get_or f column (pos 0)) is_form ∙ unit-same n column h, zeros column (pos 0) (omega (arith, ap length is_form ∙ length-unit n column))));
        light = omega (arith, ap (λ (f : List ℤ). span f rows.box) is_form ∙ span_unit n column rows.box (record { low = pos 0; high = pos 0 }) refl h);
      };
      lo = (omega (linear, is_lo), omega (linear, is_lo));
      count = (omega (linear, is_count), omega (linear, is_count));
      narrow = omega (linear, is_count, widest-at rows.box column (record { low = pos 0; high = pos 0 }) h, below_part (b.high -ℤ b.low));
      below = rw (is_form, is_lo) (closes rows best path below_end cut.below below_cut (refutes-pair rows path below_end column end (bound + 1) (b.low -ℤ pos 1) b.low cut.below h (ap (inequality_at rows path below_end) number_end ∙ number-end rows path below_end) (ap (inequality_at rows path below_end) number_lower ∙ number-bound_lower rows path below_end column h) (omega linear) (omega linear) (omega arith) below_cut below_items below_rising));
      above = rw (is_form, from) (closes rows best path above_end cut.above above_cut (refutes-pair rows path above_end column bound end b.high (b.high +ℤ pos 1) cut.above h (ap (inequality_at rows path above_end) number ∙ number-bound_upper rows path above_end column h) (ap (inequality_at rows path above_end) number_end ∙ number-end rows path above_end) (omega linear) (omega arith) (omega linear) above_cut above_items above_rising));
    }

-- the first column that no slice fixes
pub plain-split : (rows : WholeRows) (path : List Slice) (best : Option ℤ) (bounds : List Bounds) (sources : List Source) (column : ℕ) (cut : Cut) → IsWithinLimits rows → HasForms (length rows.box) path → IsNarrowed rows path path bounds sources → IsMeetable rows path best bounds → column < length sources → (source_at sources column).is_fixed ≡ false → ((other : ℕ) → other < column → IsTrue (source_at sources other).is_fixed) → cut.form ≡ unit (length rows.box) column → cut.lo ≡ (bounds_at rows column).low → cut.lo +ℤ cut.count ≡ (bounds_at rows column).high +ℤ pos 1 → cut.mark ≡ Plain → IsPlainMove rows path best cut
plain-split rows path best bounds sources column cut limits forms narrowed meetable h free first form lo last mark =
    let within : column < length rows.box = omega (arith, narrowed.sourced) in
    record {
      not_shut = meetable-open rows path best bounds sources limits forms narrowed meetable;
      column = column;
      is_column = within;
      free = λ fixed. absurd (false≢true (sym free ∙ (narrowed.tight column within).fixed.1 fixed));
      first = λ other lt. (narrowed.tight other (omega arith)).fixed.0 (first other lt);
      form = form;
      lo = lo;
      last = last;
      mark = mark;
    }

-- the bounds of a column do not cross where those of the narrowed box do not
pub box-ordered : (rows : WholeRows) (path : List Slice) (bounds : List Bounds) (sources : List Source) (column : ℕ) → IsNarrowed rows path path bounds sources → IsOpenBox bounds → column < length rows.box → (bounds_at rows column).low ≤ℤ (bounds_at rows column).high
box-ordered rows path bounds sources column narrowed open_box h =
    let t = narrowed.tight column h in
    omega (linear, t.within_low, t.within_high, open_box column (record { low = pos 0; high = pos 0 }) (omega (arith, narrowed.dense)))

-- ---- the point

all-fixed : (rows : WholeRows) (path : List Slice) (bounds : List Bounds) (sources : List Source) → IsNarrowed rows path path bounds sources → IsOpenBox bounds → ((column : ℕ) → column < length sources → IsTrue (source_at sources column).is_fixed) → AllFixed bounds
all-fixed rows path bounds sources narrowed open_box fixed = λ k d h.
    let t = narrowed.tight k (omega (arith, narrowed.dense)) in
    let one = t.one_value (fixed k (omega (arith, narrowed.dense, narrowed.sourced))) in
    let same : get_or bounds k d ≡ narrowed_at bounds k = get_or_default bounds k d (record { low = pos 0; high = pos 0 }) h in
    let between = open_box k (record { low = pos 0; high = pos 0 }) h in
    rw same (omega linear)

better-lows : (rows : WholeRows) (best : Option ℤ) (bounds : List Bounds) → AllFixed bounds → IfSome best (λ value. sum_at Least rows.cost bounds <ℤ value) → IfSome best (λ value. cut_value rows (lows bounds) <ℤ value)
better-lows rows None bounds fixed h = h
better-lows rows (Some value) bounds fixed h = omega (linear, h, sum_at-fixed Least rows.cost bounds fixed)

-- the values of columns that slices fix
pub improves-lows : (rows : WholeRows) (path : List Slice) (best : Option ℤ) (bounds : List Bounds) (sources : List Source) → IsNarrowed rows path path bounds sources → IsMeetable rows path best bounds → ((column : ℕ) → column < length sources → IsTrue (source_at sources column).is_fixed) → Improves rows best path (lows bounds)
improves-lows rows path best bounds sources narrowed meetable fixed =
    let one = all-fixed rows path bounds sources narrowed meetable.open_box fixed in
    let lies = (narrowed.points (lows bounds)).0 (LiesIn-lows bounds one) in
    record {
      meets = record { in_box = lies.in_box; in_rows = λ k d h. MeetsRow-fixed (get_or rows.rows k d) bounds one (meetable.rows_reach k d h) };
      on_path = λ k d h.
          let slice = get_or path k d in
          let both = MeetsRow-fixed (record { factors = slice.form; low = Some slice.beta; high = Some slice.beta }) bounds one (meetable.slices_reach k d h) in
          omega (linear, both.0, both.1);
      better = better-lows rows best bounds one meetable.cut_reaches;
    }

pub fixed-columns : (rows : WholeRows) (path : List Slice) (bounds : List Bounds) (sources : List Source) → IsNarrowed rows path path bounds sources → ((column : ℕ) → column < length sources → IsTrue (source_at sources column).is_fixed) → (column : ℕ) → column < length rows.box → IsFixedBy (length rows.box) path column
fixed-columns rows path bounds sources narrowed fixed column h = (narrowed.tight column h).fixed.0 (fixed column (omega (arith, narrowed.sourced)))
