-- The limits of a node's inequalities by their numbers, and what those that a line uses come to.
use Rattle.std.proofs.Common.{◌≡◌, ℕ, suc, ◌+◌, ◌-◌, ◌*◌, ◌<◌, ℤ, neg_ℤ, ◌+ℤ◌, ◌*ℤ◌, List, [], ◌∷◌, ◌++◌, length, get_or, take, map, refl, ap, ◌∙◌, arith}
use Rattle.std.specs.Prelude.{Option, Some, None, option_map, unwrap_or}
use Rattle.std.proofs.lemmas.List.{take_more}
use Rattle.exact_math.specs.IntegerRing.{linear}
use Rattle.exact_math.specs.Ring.{integers}
use Rattle.exact_vectors.specs.Vectors.{dot}
use Rattle.whole_rows.specs.WholeRows.{WholeRows, row_at, bounds_at}
use Rattle.farkas_rows.specs.declared.line.CutUse.{CutUse}
use Rattle.farkas_rows.specs.declared.line.Use.{Use}
use Rattle.farkas_rows.specs.declared.path.Slice.{Slice}
use Rattle.farkas_rows.specs.Inequalities.{Inequality, at_least, at_most, inequality_at}
use Rattle.farkas_rows.specs.NumberLaws.{number-row_upper, number-row_lower, number-bound_upper, number-bound_lower, number-slice_upper, number-slice_lower, number-end, number-past}
use Rattle.farkas_rows.specs.Refutes.{line_of, nothing}
use Rattle.shown_widths.specs.Limits.{cut_limit, limit_at, limit_sum}

module _ (rows : WholeRows) (path : List Slice) (end : Inequality) where
  -- the limit of a number that is another one
  at_same : (m n : ℕ) → m ≡ n → limit_at rows path end m ≡ limit_at rows path end n
  at_same m n e = ap (limit_at rows path end) e

  -- ---- rows

  pub high-row : (i : ℕ) → i < length rows.rows → limit_at rows path end (2 * i) ≡ (row_at rows i).high
  high-row i h = ap (option_map (λ (inequality : Inequality). inequality.limit)) (number-row_upper rows path (Some end) i h) ∙ of_high (row_at rows i).factors (row_at rows i).high
    where
      of_high : (form : List ℤ) (side : Option ℤ) → option_map (λ (inequality : Inequality). inequality.limit) (option_map (at_most form) side) ≡ side
      of_high form None = refl
      of_high form (Some v) = refl

  pub low-row : (i : ℕ) → i < length rows.rows → limit_at rows path end (2 * i + 1) ≡ option_map neg_ℤ (row_at rows i).low
  low-row i h = ap (option_map (λ (inequality : Inequality). inequality.limit)) (number-row_lower rows path (Some end) i h) ∙ of_low (row_at rows i).factors (row_at rows i).low
    where
      of_low : (form : List ℤ) (side : Option ℤ) → option_map (λ (inequality : Inequality). inequality.limit) (option_map (at_least form) side) ≡ option_map neg_ℤ side
      of_low form None = refl
      of_low form (Some v) = refl

  -- ---- columns

  pub high-column : (place j : ℕ) → place ≡ length rows.rows + j → j < length rows.box → limit_at rows path end (2 * place) ≡ Some (bounds_at rows j).high
  high-column place j e h = at_same (2 * place) (2 * length rows.rows + 2 * j) (omega arith) ∙ ap (option_map (λ (inequality : Inequality). inequality.limit)) (number-bound_upper rows path (Some end) j h)

  pub low-column : (place j : ℕ) → place ≡ length rows.rows + j → j < length rows.box → limit_at rows path end (2 * place + 1) ≡ Some (neg_ℤ (bounds_at rows j).low)
  low-column place j e h = at_same (2 * place + 1) (2 * length rows.rows + 2 * j + 1) (omega arith) ∙ ap (option_map (λ (inequality : Inequality). inequality.limit)) (number-bound_lower rows path (Some end) j h)

  -- ---- slices

  pub high-slice : (place k : ℕ) (d : Slice) → place ≡ length rows.rows + length rows.box + k → k < length path → limit_at rows path end (2 * place) ≡ Some (get_or path k d).beta
  high-slice place k d e h = at_same (2 * place) (2 * length rows.rows + 2 * length rows.box + 2 * k) (omega arith) ∙ ap (option_map (λ (inequality : Inequality). inequality.limit)) (number-slice_upper rows path (Some end) k d h)

  pub low-slice : (place k : ℕ) (d : Slice) → place ≡ length rows.rows + length rows.box + k → k < length path → limit_at rows path end (2 * place + 1) ≡ Some (neg_ℤ (get_or path k d).beta)
  low-slice place k d e h = at_same (2 * place + 1) (2 * length rows.rows + 2 * length rows.box + 2 * k + 1) (omega arith) ∙ ap (option_map (λ (inequality : Inequality). inequality.limit)) (number-slice_lower rows path (Some end) k d h)

  -- ---- the end, and what comes after it

  pub high-end : (place : ℕ) → place ≡ length rows.rows + length rows.box + length path → limit_at rows path end (2 * place) ≡ Some end.limit
  high-end place e = at_same (2 * place) (2 * length rows.rows + 2 * length rows.box + 2 * length path) (omega arith) ∙ ap (option_map (λ (inequality : Inequality). inequality.limit)) (number-end rows path (Some end))

  pub none-past : (number : ℕ) → 2 * length rows.rows + 2 * length rows.box + 2 * length path < number → limit_at rows path end number ≡ None
  none-past number h =
      at_same number (2 * length rows.rows + 2 * length rows.box + 2 * length path + suc (number - suc (2 * length rows.rows + 2 * length rows.box + 2 * length path))) (omega arith)
      ∙ ap (option_map (λ (inequality : Inequality). inequality.limit)) (number-past rows path (Some end) (number - suc (2 * length rows.rows + 2 * length rows.box + 2 * length path)))

  -- ---- the sum over a line

  -- the limit of an item's inequality
  item_limit : Use → ℤ
  item_limit item = (unwrap_or (inequality_at rows path (Some end) item.index) nothing).limit

  -- where a number names an inequality, that is its limit
  item_limit-is : (item : Use) (limit : ℤ) → limit_at rows path end item.index ≡ Some limit → item_limit item ≡ limit
  unfolding item_limit
  item_limit-is item limit e = by_side (inequality_at rows path (Some end) item.index) e
    where
      by_side : (side : Option Inequality) → option_map (λ (inequality : Inequality). inequality.limit) side ≡ Some limit → (unwrap_or side nothing).limit ≡ limit
      by_side None h = absurd (cc)
      by_side (Some inequality) h = cc

  -- what items come to
  items_sum : List Use → ℤ
  items_sum items = dot integers (map (λ (item : Use). item.times) items) (map (λ (inequality : Inequality). inequality.limit) (map (λ (item : Use). unwrap_or (inequality_at rows path (Some end) item.index) nothing) items))

  items_sum-append : (items : List Use) (item : Use) → items_sum (items ++ item ∷ []) ≡ items_sum items +ℤ item.times *ℤ item_limit item
  unfolding item_limit items_sum
  items_sum-append [] item = omega linear
  items_sum-append (first ∷ items) item = omega (linear, items_sum-append items item)

  -- the cut apart
  sum-parts : (cut : Option CutUse) (items : List Use) → limit_sum rows path end (line_of cut items) ≡ cut_limit cut +ℤ items_sum items
  unfolding items_sum
  sum-parts None items = omega linear
  sum-parts (Some cut) items = refl

  -- no items
  pub sum-none : (cut : Option CutUse) → limit_sum rows path end (line_of cut []) ≡ cut_limit cut
  unfolding items_sum
  sum-none None = refl
  sum-none (Some cut) = omega linear

  -- one more item
  pub sum-more : (cut : Option CutUse) (items : List Use) (i : ℕ) (d : Use) (limit : ℤ) → i < length items → limit_at rows path end (get_or items i d).index ≡ Some limit → limit_sum rows path end (line_of cut (take (i + 1) items)) ≡ limit_sum rows path end (line_of cut (take i items)) +ℤ (get_or items i d).times *ℤ limit
  sum-more cut items i d limit lt is =
      ap (λ (l : List Use). limit_sum rows path end (line_of cut l)) (take_more items i d lt)
      ∙ sum-parts cut (take i items ++ get_or items i d ∷ [])
      ∙ omega (linear, items_sum-append (take i items) (get_or items i d), sum-parts cut (take i items), ap (λ t. (get_or items i d).times *ℤ t) (item_limit-is (get_or items i d) limit is))
