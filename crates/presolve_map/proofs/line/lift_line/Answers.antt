use Rattle.std.proofs.Common.{◌≡◌, ◌≢◌, ◌<◌, ◌≤◌, ◌∙◌, ap, sym, subst, arith, length, ◌++◌, [], List, refl, ◌+◌, ℕ, pos, Vec, Global, true}
use Rattle.std.specs.Prelude.{All}
use Rattle.std.proofs.lemmas.List.{append-nil}
use Rattle.std.proofs.lemmas.List.Elements.{All-append, All-weaker}
use Rattle.std.proofs.lemmas.List.Sorted.{IsPermutation-refl, All-permutation}
use Rattle.std.specs.List.Sorted.{IsPermutation, IsStrictlyIncreasing}
use Rattle.std.proofs.lemmas.Bool.{true_from_ne_false}
use Rattle.exact_math.specs.Rational.{ℚ, whole, ◌<ℚ◌}
use Rattle.exact_math.specs.RationalRing.{rationals}
use Rattle.whole_rows.specs.WholeRows.{WholeRows, bounds_at}
use Rattle.farkas_rows.specs.declared.fracs.FracUse.{FracUse}
use Rattle.presolve_map.specs.Columns.{is_open}
use Rattle.presolve_map.specs.LiftedLines.{total, numbers_of, balances, upper_bound, lower_bound, ColumnStays, ComesToSame, IsRemoved, IsWorkNumber}
use Rattle.presolve_map.proofs.LineLaws.{comes_to_same}
use Rattle.presolve_map.proofs.NumberedLaws.{IsLiftedTo, balances-apart, balances-positive, lifted-removed, lifted-kept, below_next}
use Rattle.presolve_map.proofs.line.lift_line.Goals as goal
use Rattle.presolve_map.proofs.line.lift_line.Goals.{then-is_removed+in-Ok+in_ok-put_bound, else-is_removed}

pub loop-column-init : goal.loop-column-init
loop-column-init c =
    let same : c.in_ok-lifted.lifted.items ≡ c.args.times.now.items = c.in_ok-lifted.ensures.items_if_clones_equal (λ x y e. e) ∙ c.items.ensures in
    record {
      lifted = record {
        same = subst (λ l. IsPermutation (c.args.times.now.items ++ []) l) (append-nil c.args.times.now.items ∙ sym same) (IsPermutation-refl (c.args.times.now.items ++ []));
        totals = λ value. ap (total value) same ∙ sym (rationals.add_zero (total value c.args.times.now.items));
      };
      rising = subst (λ l. IsStrictlyIncreasing (numbers_of l)) (sym same) c.requires.rising;
      stays = λ k h. absurd (omega arith);
    }

pub put_bound-requires-clause-apart : goal.put_bound-requires-clause-apart
put_bound-requires-clause-apart c =
    let within : c.loop-column.column < length c.args.rows.now.box = omega (arith, c.loop-column-test.true, c.columns-column-end.ensures.count) in
    let removed : IsRemoved c.args.rows.now c.loop-column.column = c.is_removed.ensures.0 c.if-is_removed.true in
    let P = λ (other : FracUse). (other.index ≢ upper_bound c.args.rows.now c.loop-column.column) × (other.index ≢ lower_bound c.args.rows.now c.loop-column.column) in
    All-permutation P (c.args.times.now.items ++ balances c.args.rows.now c.args.times.now.cut c.args.times.now.items c.loop-column.column) c.loop-column.lifted.items c.loop-column.invariant.lifted.same
    (All-append P c.args.times.now.items (balances c.args.rows.now c.args.times.now.cut c.args.times.now.items c.loop-column.column)
    (All-weaker (λ (item : FracUse). IsWorkNumber c.args.rows.now item.index) P (λ item work. work.kept c.loop-column.column within removed) c.args.times.now.items c.requires.numbers)
    (balances-apart c.args.rows.now c.args.times.now.cut c.args.times.now.items c.loop-column.column))

pub loop-column-preserved : goal.loop-column-preserved
loop-column-preserved c =
    let before = c.loop-column.invariant in
    elim c.if-is_removed.branch [
      | then-is_removed+in-Ok+in_ok-put_bound w ↦
          let removed : IsRemoved c.args.rows.now c.loop-column.column = c.is_removed.ensures.0 w.if-is_removed.true in
          record {
            lifted = subst (IsLiftedTo c.args.rows.now c.args.times.now.cut c.args.times.now.items (c.loop-column.column + 1)) (sym (ap (λ (v : Vec FracUse Global). v.items) w.lifted-is)) (lifted-removed c.args.rows.now c.args.times.now.cut c.args.times.now.items c.loop-column.column w.in-Ok.sum c.loop-column.lifted.items w.put_bound.new.items.items removed w.in-Ok.ensures.1 w.in_ok-put_bound.ensures.put before.lifted);
            rising = subst (λ l. IsStrictlyIncreasing (numbers_of l)) (sym (ap (λ (v : Vec FracUse Global). v.items) w.lifted-is)) w.in_ok-put_bound.ensures.rising;
            stays = below_next (λ k. IsRemoved c.args.rows.now k → ColumnStays c.args.rows.now c.args.times.now.cut c.args.times.now.items k) c.loop-column.column before.stays (λ closed. w.in-Ok.ensures.0);
          }
      | else-is_removed w ↦
          let open' : is_open (bounds_at c.args.rows.now c.loop-column.column) ≡ true = true_from_ne_false (is_open (bounds_at c.args.rows.now c.loop-column.column)) (λ closed. cc (w.if-is_removed.false, c.is_removed.ensures.1 closed)) in
          record {
            lifted = subst (IsLiftedTo c.args.rows.now c.args.times.now.cut c.args.times.now.items (c.loop-column.column + 1)) (sym (ap (λ (v : Vec FracUse Global). v.items) w.lifted-is)) (lifted-kept c.args.rows.now c.args.times.now.cut c.args.times.now.items c.loop-column.column c.loop-column.lifted.items open' before.lifted);
            rising = subst (λ l. IsStrictlyIncreasing (numbers_of l)) (sym (ap (λ (v : Vec FracUse Global). v.items) w.lifted-is)) before.rising;
            stays = below_next (λ k. IsRemoved c.args.rows.now k → ColumnStays c.args.rows.now c.args.times.now.cut c.args.times.now.items k) c.loop-column.column before.stays (λ closed. cc (w.if-is_removed.false, c.is_removed.ensures.1 closed));
          }
    ]

-- the loop ends at the last column
ended : (rows : WholeRows) (cut : ℚ) (items lifted : List FracUse) (column end count : ℕ) → count ≡ length rows.box → end ≡ count → end ≤ column → column ≤ end → IsLiftedTo rows cut items column lifted → IsLiftedTo rows cut items (length rows.box) lifted
ended rows cut items lifted column end count e f h k to = subst (λ n. IsLiftedTo rows cut items n lifted) (omega arith) to

pub returns-clause-same : goal.returns-clause-same
returns-clause-same c = λ path end over.
    let to = ended c.args.rows.now c.args.times.now.cut c.args.times.now.items c.loop-column.lifted.items c.loop-column.column c.columns-column-end.result _ refl c.columns-column-end.ensures.count c.loop-column-test.false c.loop-column.auto.column-end c.loop-column.invariant.lifted in
    subst (ComesToSame c.args.rows.now path end c.args.times.now.cut c.args.times.now.items) (sym c.from_vec.ensures) (comes_to_same c.args.rows.now path end c.args.times.now.cut c.args.times.now.items over c.loop-column.lifted.items to.totals)

pub returns-clause-positive : goal.returns-clause-positive
returns-clause-positive c = λ positive.
    let P = λ (item : FracUse). whole (pos 0) <ℚ item.times in
    let bounds = balances c.args.rows.now c.args.times.now.cut c.args.times.now.items c.loop-column.column in
    subst (All P) (sym c.from_vec.ensures)
    (All-permutation P (c.args.times.now.items ++ balances c.args.rows.now c.args.times.now.cut c.args.times.now.items c.loop-column.column) c.loop-column.lifted.items c.loop-column.invariant.lifted.same
    (All-append P c.args.times.now.items bounds positive (balances-positive c.args.rows.now c.args.times.now.cut c.args.times.now.items c.loop-column.column)))
