-- What the lifted items of a node come to, with the inequality at an end.
use Rattle.std.proofs.Common.{◌≡◌, ℕ, zero, suc, ◌+◌, ◌*◌, ◌<◌, Bool, true, false, ℤ, pos, ◌-ℤ◌, neg_ℤ, List, [], ◌∷◌, ◌++◌, length, get_or, map, refl, sym, ap, ap₂, subst, ◌∙◌, arith, All}
use Rattle.std.specs.Prelude.{Option, Some, None, IsSome, option_map, option_to_list, unwrap_or}
use Rattle.std.specs.Ordering.{int_eq}
use Rattle.std.specs.List.Sorted.{IsStrictlyIncreasing}
use Rattle.std.proofs.lemmas.Bool.{cond_both}
use Rattle.std.proofs.lemmas.Bool.Decides.{Decides-int_eq, not_from_Decides}
use Rattle.std.proofs.lemmas.Int.{ints}
use Rattle.std.proofs.lemmas.List.{append-nil, get_or-map, length-map, map-append}
use Rattle.std.proofs.lemmas.List.Elements.{All-nil, All-cons, All-append, All-map}
use Rattle.exact_math.specs.Rational.{ℚ, whole, neg_ℚ, ◌+ℚ◌, ◌*ℚ◌, ◌≤ℚ◌, ◌<ℚ◌}
use Rattle.exact_math.specs.RationalLaws.{zero_from_num}
use Rattle.exact_math.specs.RationalOrder.{num_nonneg, pos_from_num}
use Rattle.exact_math.specs.RationalRing.{rationals, whole_add}
use Rattle.exact_math.specs.RingLaws as Laws
use Rattle.exact_math.specs.RingSolver.{ring, reads}
use Rattle.whole_rows.specs.WholeRows.{WholeRows, IsWithinLimits, bounds_at}
use Rattle.row_lifting.specs.Lifting.{none}
use Rattle.farkas_rows.specs.declared.fracs.CutFrac.{CutFrac}
use Rattle.farkas_rows.specs.declared.fracs.FracUse.{FracUse}
use Rattle.farkas_rows.specs.declared.path.Slice.{Slice}
use Rattle.farkas_rows.specs.Inequalities.{Inequality, inequality_at, cut_inequality}
use Rattle.farkas_rows.specs.NumberLaws.{number-end}
use Rattle.farkas_rows.specs.Refutes.{nothing}
use Rattle.farkas_rows.specs.Sides.{factor_of}
use Rattle.presolve_map.specs.Columns.{is_open, open_flags, removed_part}
use Rattle.presolve_map.specs.LiftedLines.{total, cost_in, factor_in, limit_in, numbers_of, reduced_limit_in, ComesToSame, IsRemoved}
use Rattle.presolve_map.specs.ReducedRows.{ReducedRows, IsReduced}
use Rattle.presolve_map.specs.Selections.{positions}
use Rattle.farkas_lift.specs.NodeLifting.{ComesTo}
use Rattle.farkas_lift.specs.NodeSystem.{cut_of}
use Rattle.farkas_lift.proofs.NodeValues as Node
use Rattle.farkas_lift.proofs.UseLaws.{total-append}
use Rattle.node_lines.specs.Combinations.{cut_share, AreOfNode, ComesOver, IsRefutation}
use Rattle.node_lines.specs.NodeLines.{cut_part, end_number, end_use, end_uses}
use Rattle.node_lines.proofs.NodeNumbers.{rising-last}

-- ---- the items with the bounds of removed columns

whole_less : (a b : ℤ) → whole (a -ℤ b) ≡ whole a +ℚ neg_ℚ (whole b)
whole_less a b = whole_add a (neg_ℤ b) ∙ ap (λ z. whole a +ℚ z) (Laws.literal_neg rationals b)

spread : (c a b t : ℚ) → c *ℚ a +ℚ (t +ℚ neg_ℚ (c *ℚ b)) ≡ c *ℚ (a +ℚ neg_ℚ b) +ℚ t
spread c a b t = ring rationals (c ∷ a ∷ b ∷ t ∷ []) (search reads depth 40 fits 20000) (search reads depth 40 fits 20000) refl

pub comes-over : (model : WholeRows) (work : ReducedRows) (path : List Slice) (end : Option Inequality) (value : ℤ) (cut : ℚ) (items lifted : List FracUse) (form : List ℚ) (limit : ℚ) → IsWithinLimits model → IsReduced model work
    → ComesTo model work path end value cut items form limit → ComesToSame model path end cut items lifted → ComesOver model work path end value cut lifted form limit
comes-over model work path end value cut items lifted form limit limits reduced comes same = record {
  removed = same.removed;
  kept = λ k h.
      let number = Node.column-number model work limits reduced k h in
      let inside : get_or work.column_numbers k 0 < length model.box = subst (λ (c : ℕ). c < length model.box) (sym number) (Node.column-below model work limits reduced k h) in
      let opens : is_open (bounds_at model (get_or work.column_numbers k 0)) ≡ true = subst (λ (c : ℕ). is_open (bounds_at model c) ≡ true) (sym number) (Node.column-open model work limits reduced k h) in
      ap (λ z. cut *ℚ cost_in model (get_or work.column_numbers k 0) +ℚ z) (same.kept (get_or work.column_numbers k 0) inside opens) ∙ comes.in_columns k h;
  at_limit =
      ap (λ z. cut *ℚ whole (value -ℤ pos 1) +ℚ z) same.limit
      ∙ spread cut (whole (value -ℤ pos 1)) (whole (removed_part model.box model.cost)) (total (reduced_limit_in model path end) items)
      ∙ ap (λ z. cut *ℚ z +ℚ total (reduced_limit_in model path end) items) (sym (whole_less (value -ℤ pos 1) (removed_part model.box model.cost)) ∙ ap (λ p. whole ((value -ℤ pos 1) -ℤ p)) (sym reduced.cost_constant))
      ∙ comes.at_limit;
}

-- ---- the cut

pub cut_share-is : (model : WholeRows) (part : Inequality → ℤ) (cut : Option ℤ) (times : ℚ) → (cut ≡ None → times ≡ none) → cut_share model part (cut_part cut times) ≡ times *ℚ whole (part (cut_inequality model (cut_of cut)))
cut_share-is model part None times h = sym (ap (λ t. t *ℚ whole (part (cut_inequality model (cut_of None)))) (h refl) ∙ Laws.zero_mul rationals (whole (part (cut_inequality model (cut_of None)))))
cut_share-is model part (Some value) times h =
    cond_both (int_eq times.num (pos 0)) None (Some (record { value = value; times = times })) (λ (o : Option CutFrac). cut_share model part o ≡ times *ℚ whole (part (cut_inequality model value)))
    (λ e. sym (ap (λ t. t *ℚ whole (part (cut_inequality model value))) (zero_from_num times ((Decides-int_eq times.num (pos 0)).0 e)) ∙ Laws.zero_mul rationals (whole (part (cut_inequality model value)))))
    (λ e. refl)

-- its multiplier is above 0
abbrev Above : ℚ → Type 0
Above part = whole (pos 0) <ℚ part

above_zero : (t : ℚ) → int_eq t.num (pos 0) ≡ false → whole (pos 0) ≤ℚ t → whole (pos 0) <ℚ t
above_zero t e h = let ne = not_from_Decides (int_eq t.num (pos 0)) (Decides-int_eq t.num (pos 0)) e in let s = num_nonneg t h in pos_from_num t (omega (arith, ints, ne))

cut-above : (cut : Option ℤ) (times : ℚ) → whole (pos 0) ≤ℚ times → All Above (option_to_list (option_map (λ (cut : CutFrac). cut.times) (cut_part cut times)))
cut-above None times h = All-nil Above
cut-above (Some value) times h =
    cond_both (int_eq times.num (pos 0)) None (Some (record { value = value; times = times })) (λ (o : Option CutFrac). All Above (option_to_list (option_map (λ (cut : CutFrac). cut.times) o)))
    (λ e. All-nil Above)
    (λ e. All-cons Above times [] (above_zero times e h) (All-nil Above))

-- ---- the kept columns

positions-found : (first : ℕ) (flags : List Bool) (j : ℕ) → j < length flags → get_or flags j false ≡ true → (k : ℕ) × (k < length (positions first flags)) × (get_or (positions first flags) k 0 ≡ first + j)
positions-found first [] j h e = absurd (omega arith)
positions-found first (true ∷ flags) zero h e = (0, omega arith, omega arith)
positions-found first (true ∷ flags) (suc j) h e = let found = positions-found (suc first) flags j (omega arith) e in (suc found.0, omega (arith, found.1), found.2 ∙ omega arith)
positions-found first (false ∷ flags) zero h e = absurd (cc)
positions-found first (false ∷ flags) (suc j) h e = let found = positions-found (suc first) flags j (omega arith) e in (found.0, found.1, found.2 ∙ omega arith)

pub column-found : (model : WholeRows) (work : ReducedRows) (column : ℕ) → IsWithinLimits model → IsReduced model work → column < length model.box → is_open (bounds_at model column) ≡ true → (k : ℕ) × (k < length work.rows.box) × (get_or work.column_numbers k 0 ≡ column)
column-found model work column limits reduced h opens =
    let flag : get_or (open_flags model.box) column false ≡ true = get_or-map is_open model.box column (record { low = pos 0; high = pos 0 }) false h ∙ opens in
    let found = positions-found 0 (open_flags model.box) column (omega (arith, length-map model.box is_open)) flag in
    (found.0, omega (arith, found.1, Node.columns_count model work limits reduced), ap (λ (l : List ℕ). get_or l found.0 0) reduced.column_numbers ∙ found.2 ∙ omega arith)

by_flag : {P : Type 0} (b : Bool) → (b ≡ true → P) → (b ≡ false → P) → P
by_flag true f g = f refl
by_flag false f g = g refl

-- ---- the inequality at an end

module _ (model : WholeRows) (path : List Slice) where
  numbers-with : (end : Option Inequality) (items : List FracUse) → IsStrictlyIncreasing (numbers_of items) → All (λ (item : FracUse). item.index < end_number model path) items → IsStrictlyIncreasing (numbers_of (items ++ end_uses model path end))
  numbers-with None items rising before = subst (λ (l : List FracUse). IsStrictlyIncreasing (numbers_of l)) (sym (append-nil items)) rising
  numbers-with (Some inequality) items rising before =
      subst IsStrictlyIncreasing (sym (map-append (λ (item : FracUse). item.index) items (end_use model path ∷ [])))
      (rising-last (numbers_of items) (end_number model path) rising (All-map (λ (n : ℕ). n < end_number model path) (λ (item : FracUse). item.index) items before))

  at-end : (end : Option Inequality) → inequality_at model path end (end_number model path) ≡ end
  at-end end = ap (inequality_at model path end) (split (length model.rows) (length model.box) (length path)) ∙ number-end model path end
    where
      split : (a b c : ℕ) → 2 * (a + b + c) ≡ 2 * a + 2 * b + 2 * c
      split a b c = omega arith

  end-there : (end : Option Inequality) → All (λ (item : FracUse). IsSome (inequality_at model path end item.index)) (end_uses model path end)
  end-there None = All-nil (λ (item : FracUse). IsSome (inequality_at model path None item.index))
  end-there (Some inequality) =
      All-cons (λ (item : FracUse). IsSome (inequality_at model path (Some inequality) item.index)) (end_use model path) [] (subst IsSome (sym (at-end (Some inequality))) refl) (All-nil (λ (item : FracUse). IsSome (inequality_at model path (Some inequality) item.index)))

  one_above : whole (pos 0) <ℚ whole (pos 1)
  unfolding whole
  one_above = pos_from_num (whole (pos 1)) (omega (arith, ints))

  end-above : (end : Option Inequality) → All (λ (item : FracUse). whole (pos 0) <ℚ item.times) (end_uses model path end)
  end-above None = All-nil (λ (item : FracUse). whole (pos 0) <ℚ item.times)
  end-above (Some inequality) = All-cons (λ (item : FracUse). whole (pos 0) <ℚ item.times) (end_use model path) [] one_above (All-nil (λ (item : FracUse). whole (pos 0) <ℚ item.times))

  once : (a : ℚ) → whole (pos 1) *ℚ a +ℚ whole (pos 0) ≡ a
  once a = ring rationals (a ∷ []) (search reads depth 30) (search reads depth 30) refl

  -- what it has
  pub end-factor : (inequality : Inequality) (column : ℕ) → total (factor_in model path (Some inequality) column) (end_uses model path (Some inequality)) ≡ whole (factor_of column inequality)
  end-factor inequality column = once _ ∙ ap (λ (o : Option Inequality). whole (factor_of column (unwrap_or o nothing))) (at-end (Some inequality))

  pub end-limit : (inequality : Inequality) → total (limit_in model path (Some inequality)) (end_uses model path (Some inequality)) ≡ whole inequality.limit
  end-limit inequality = once _ ∙ ap (λ (o : Option Inequality). whole (unwrap_or o nothing).limit) (at-end (Some inequality))

-- ---- together

-- The items of a node and the inequality at an end refute it, where they come to 0 in each kept column, the end is 0 in the removed ones, and the limits come to less than 0.
pub refuted-with : (model : WholeRows) (work : ReducedRows) (path : List Slice) (end : Option Inequality) (cut : Option ℤ) (times : ℚ) (items : List FracUse) (form : List ℚ) (limit : ℚ) → IsWithinLimits model → IsReduced model work
    → (cut ≡ None → times ≡ none) → whole (pos 0) ≤ℚ times → AreOfNode model path items → ComesOver model work path end (cut_of cut) times items form limit
    → ((column : ℕ) → column < length model.box → IsRemoved model column → total (factor_in model path end column) (end_uses model path end) ≡ none)
    → ((k : ℕ) → k < length work.rows.box → get_or form k none +ℚ total (factor_in model path end (get_or work.column_numbers k 0)) (end_uses model path end) ≡ none)
    → (limit +ℚ total (limit_in model path end) (end_uses model path end)) <ℚ none
    → IsRefutation model path end (cut_part cut times) (items ++ end_uses model path end)
refuted-with model work path end cut times items form limit limits reduced no_cut nonneg of_node over removed left right =
    let rest : List FracUse = end_uses model path end in
    let together = λ (part : Inequality → ℤ) (value : ℕ → ℚ).
    ap₂ (λ a b. a +ℚ b) (cut_share-is model part cut times no_cut) (total-append value items (end_uses model path end))
    ∙ sym (rationals.add_assoc (times *ℚ whole (part (cut_inequality model (cut_of cut)))) (total value items) (total value (end_uses model path end))) in
    record {
      rising = numbers-with model path end items of_node.rising of_node.before_end;
      there = All-append (λ (item : FracUse). IsSome (inequality_at model path end item.index)) items (end_uses model path end) (of_node.there end) (end-there model path end);
      positive =
          All-append Above (option_to_list (option_map (λ (cut : CutFrac). cut.times) (cut_part cut times))) (map (λ (item : FracUse). item.times) (items ++ end_uses model path end)) (cut-above cut times nonneg)
          (All-map Above (λ (item : FracUse). item.times) (items ++ end_uses model path end) (All-append (λ (item : FracUse). whole (pos 0) <ℚ item.times) items (end_uses model path end) of_node.positive (end-above model path end)));
      vanishes = λ column h.
          together (factor_of column) (factor_in model path end column)
          ∙ by_flag (is_open (bounds_at model column))
          (λ opens. let found = column-found model work column limits reduced h opens in
          subst (λ (c : ℕ). (times *ℚ cost_in model c +ℚ total (factor_in model path end c) items) +ℚ total (factor_in model path end c) (end_uses model path end) ≡ none) found.2
          (ap (λ z. z +ℚ total (factor_in model path end (get_or work.column_numbers found.0 0)) (end_uses model path end)) (over.kept found.0 found.1) ∙ left found.0 found.1))
          (λ closed. ap₂ (λ a b. a +ℚ b) (over.removed column h closed) (removed column h closed) ∙ rationals.add_zero none);
      negative = subst (λ q. q <ℚ none) (sym (together (λ (inequality : Inequality). inequality.limit) (limit_in model path end) ∙ ap (λ z. z +ℚ total (limit_in model path end) (end_uses model path end)) over.at_limit)) right;
    }
