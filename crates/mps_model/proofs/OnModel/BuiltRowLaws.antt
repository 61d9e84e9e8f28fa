-- The rows of the model from their kinds, names, sides and items.
use Rattle.std.proofs.Common.{◌≡◌, ℕ, zero, suc, ◌+◌, ◌<◌, length, get_or, take, Bool, true, false, cond, List, [], ◌∷◌, ◌++◌, map, filter, Option, Some, slice_get, refl, sym, ap, ap₂, ◌∙◌, arith}
use Rattle.std.specs.Prelude.{unwrap_or}
use Rattle.std.proofs.lemmas.List.{append-nil, map-append}
use Rattle.std.proofs.lemmas.List.Elements.{filter_more}
use Rattle.std.proofs.lemmas.Option.{get_or_from_slice_get, slice_get_within}
use Rattle.exact_math.specs.Rational.{ℚ}
use Rattle.int_model.specs.declared.model.Row.{Row}
use Rattle.mps_model.specs.declared.tables.row_kind.RowKind.{RowKind}
use Rattle.mps_model.specs.declared.model.row_sides.RowSides.{RowSides}
use Rattle.mps_model.specs.declared.tables.sides.SideTable.{SideTable}
use Rattle.mps_model.specs.Tables.{Tables}
use Rattle.mps_model.specs.Sides.{Sides, zero_ℚ, number_beside, pairs_of, side_of, ranged_sides, sides_of}
use Rattle.mps_model.specs.StatedModel.{items_of, stated_row}
use Rattle.mps_model.specs.RowFaults.{row_names}
use Rattle.mps_model.specs.RowKinds.{row_of, rows_of}
use Rattle.mps_model.specs.KeptSides.{number_in, range_end, KeepsPairs, KeepsRanges, sides_view}
use Rattle.mps_model.proofs.OnTables.RangeTableLaws.{kept_side, kept_end}

-- ---- lists of rows

pub row_at : (kinds : List RowKind) (names : List (List ℕ)) (i : ℕ) (d : RowKind) → length kinds ≡ length names → i < length names
    → slice_get (rows_of kinds names) i ≡ Some (row_of (get_or kinds i d) (get_or names i []))
row_at [] [] i d paired within = absurd (omega arith)
row_at [] (name ∷ names) i d paired within = absurd (omega arith)
row_at (kind ∷ kinds) [] i d paired within = absurd (omega arith)
row_at (kind ∷ kinds) (name ∷ names) zero d paired within = refl
row_at (kind ∷ kinds) (name ∷ names) (suc i) d paired within = row_at kinds names i d (omega arith) (omega arith)

-- one more element is passed over, or taken
module _ {X Y : Type 0} (p : X → Bool) (f : X → Y) (all : List X) (i : ℕ) (x : X) (at : slice_get all i ≡ Some x) where
  split : filter p (take (i + 1) all) ≡ filter p (take i all) ++ cond (p x) (x ∷ []) []
  split =
      let here : get_or all i x ≡ x = get_or_from_slice_get all i x x at in
      filter_more p all i x (slice_get_within all i x at) ∙ ap (λ y. filter p (take i all) ++ cond (p y) (y ∷ []) []) here

  pub passed_over : (built : List Y) → p x ≡ false → built ≡ map f (filter p (take i all)) → built ≡ map f (filter p (take (i + 1) all))
  passed_over built fails so_far =
      so_far ∙ ap (map f) (sym (split ∙ ap (λ b. filter p (take i all) ++ cond b (x ∷ []) []) fails ∙ append-nil (filter p (take i all))))

  pub taken : (built : List Y) (y : Y) → p x ≡ true → built ≡ map f (filter p (take i all)) → y ≡ f x → built ++ y ∷ [] ≡ map f (filter p (take (i + 1) all))
  taken built y passes so_far is =
      ap₂ (λ ys z. ys ++ z ∷ []) so_far is ∙ sym (map-append f (filter p (take i all)) (x ∷ []))
      ∙ ap (map f) (sym (split ∙ ap (λ b. filter p (take i all) ++ cond b (x ∷ []) []) passes))

-- ---- a row of the model

pub row_is : (tables : Tables) (place : ℕ) (kind : RowKind) (name : List ℕ) (sides ranges : SideTable) (side : ℚ) (end : Option ℚ) (between : RowSides) (row : Row)
    → slice_get tables.rows place ≡ Some (row_of kind name) → KeepsPairs (row_names tables.rows) tables.sides sides → KeepsRanges tables.rows tables.sides tables.ranges ranges
    → side ≡ unwrap_or (number_in sides.numbers.items place) zero_ℚ → end ≡ number_in ranges.numbers.items place
    → ((range : Option ℚ) → end ≡ range_end side (row_of kind name) range → sides_view between ≡ ranged_sides (row_of kind name) side range)
    → row.name ≡ name → row.lo ≡ between.lo → row.hi ≡ between.hi → row.items ≡ items_of tables name
    → row ≡ stated_row tables (row_of kind name)
row_is tables place kind name sides ranges side end between row at side_kept range_kept is_side is_end is_between named lo hi items =
    let line = row_of kind name in
    let range = number_beside (pairs_of tables.ranges) name in
    let side_is : side ≡ side_of tables name = is_side ∙ kept_side tables sides ranges line place at side_kept range_kept in
    let end_is : end ≡ range_end side line range =
    is_end ∙ kept_end tables sides ranges line place at side_kept range_kept ∙ ap (λ s. range_end s line range) (sym side_is) in
    let both : sides_view between ≡ sides_of tables line = is_between range end_is ∙ ap (λ s. ranged_sides line s range) side_is in
    let low : row.lo ≡ (sides_of tables (row_of kind name)).lo = lo ∙ ap (λ (s : Sides). s.lo) both in
    let high : row.hi ≡ (sides_of tables (row_of kind name)).hi = hi ∙ ap (λ (s : Sides). s.hi) both in
    ap₂ (λ n (rest : Row). record { name = n; lo = rest.lo; hi = rest.hi; items = rest.items }) named
    (ap₂ (λ l (rest : Row). record { name = name; lo = l; hi = rest.hi; items = rest.items }) low
    (ap₂ (λ h is. record { name = name; lo = (sides_of tables (row_of kind name)).lo; hi = h; items = is }) high items))
