-- The rows of a model and their sides, from ROWS, RHS and RANGES as in fixed and free MPS (IBM's MPSX and its successors).
-- In this project's profile an E row with a range of 0 keeps both sides, and a number on the objective row in RHS counts
-- with its sign changed.
use Rattle.std.specs.Prelude.{ℕ, ◌*◌, ◌/◌, ◌^◌, ◌+ℤ◌, ◌*ℤ◌, nat_abs, Bool, ◌&&◌, ◌||◌, nat_lt, int_lt, if◌then◌else◌, List, filter, find, flat_map, ℤ, pos, Option, Some, None, Result, Ok, Err, option_map, unwrap_or, codes, bytes_eq}
use Rattle.exact_math.specs.Gcd.{gcd}
use Rattle.exact_math.specs.Rational.{ℚ, whole, ◌+ℚ◌, neg_ℚ}
use Rattle.mps_fields.specs.declared.numbers.NumberFault.{NumberFault}
use Rattle.mps_fields.specs.Reading.{number_of}
use Rattle.mps_model.specs.Tables.{RowLine, Pair, PairLine, Tables}

abbrev pub zero_ℚ : ℚ
zero_ℚ = whole (pos 0)

abbrev pub is_negative : ℚ → Bool
is_negative q = int_lt q.num (pos 0)

abbrev pub absolute : ℚ → ℚ
absolute q = if is_negative q then neg_ℚ q else q

-- a number, or 0 where the field is none: such a text has a fault, or the field is not read
abbrev pub number_or_zero : Result ℚ NumberFault → ℚ
number_or_zero (Ok q) = q
number_or_zero (Err fault) = zero_ℚ

abbrev pub number_at : List ℕ → ℚ
number_at field = number_or_zero (number_of field)

-- the row is of this kind
abbrev pub is_kind : List ℕ → RowLine → Bool
is_kind kind row = bytes_eq row.kind kind

abbrev pub is_free_row : RowLine → Bool
is_free_row row = is_kind (codes "N") row

-- E, L and G rows have sides
abbrev pub has_sides : RowLine → Bool
has_sides row = is_kind (codes "E") row || is_kind (codes "L") row || is_kind (codes "G") row

-- the rows of the model, in order
abbrev pub sided_rows : List RowLine → List RowLine
sided_rows rows = filter has_sides rows

-- the objective is the first N row
abbrev pub objective_row : List RowLine → Option (List ℕ)
objective_row rows = option_map (λ row. row.name) (find is_free_row rows)

-- the pairs of lines, in order
abbrev pub pairs_of : List PairLine → List Pair
pairs_of lines = flat_map (λ line. line.pairs) lines

-- the number beside a name
abbrev pub number_beside : List Pair → List ℕ → Option ℚ
number_beside pairs name = option_map (λ pair. number_at pair.number) (find (λ pair. bytes_eq pair.name name) pairs)

-- b, which is 0 for a row that no line of RHS names
abbrev pub side_in : List PairLine → List ℕ → ℚ
side_in sides name = unwrap_or (number_beside (pairs_of sides) name) zero_ℚ

abbrev pub side_of : Tables → List ℕ → ℚ
side_of tables name = side_in tables.sides name

-- how far a range of R goes from b: down from the side of an L row, up from that of a G row, by R itself on an E row
abbrev pub range_step : RowLine → ℚ → ℚ
range_step row range =
    if is_kind (codes "L") row then neg_ℚ (absolute range)
    else if is_kind (codes "G") row then absolute range
    else range

-- the lower and the upper side of a row; one that is absent bounds nothing
pub record Sides : Type 0 where
  pub lo : Option ℚ
  pub hi : Option ℚ

-- L: at most b; G: at least b; E: b
abbrev pub plain_sides : RowLine → ℚ → Sides
plain_sides row b =
    if is_kind (codes "L") row then record { lo = None; hi = Some b }
    else if is_kind (codes "G") row then record { lo = Some b; hi = None }
    else record { lo = Some b; hi = Some b }

-- the sides between b and a step away from it
abbrev pub stepped_sides : ℚ → ℚ → Sides
stepped_sides b step =
    if is_negative step then record { lo = Some (b +ℚ step); hi = Some b }
    else record { lo = Some b; hi = Some (b +ℚ step) }

-- the sides of a row by its range, where it has one
abbrev pub ranged_sides : RowLine → ℚ → Option ℚ → Sides
ranged_sides row b None = plain_sides row b
ranged_sides row b (Some range) = stepped_sides b (range_step row range)

abbrev pub sides_of : Tables → RowLine → Sides
sides_of tables row = ranged_sides row (side_of tables row.name) (number_beside (pairs_of tables.ranges) row.name)

-- the constant: minus the number of the objective row in RHS
abbrev pub constant_of : Tables → Option (List ℕ) → ℚ
constant_of tables None = zero_ℚ
constant_of tables (Some name) = neg_ℚ (side_of tables name)

-- a sum stays in the range of exact fractions: each of the four numbers on the way to it does (`SumInRange`)
abbrev pub sum_fits : ℚ → ℚ → Bool
sum_fits p q =
    let e : ℕ = gcd p.den q.den in
    let first : ℤ = p.num *ℤ pos (q.den / e) in
    let second : ℤ = q.num *ℤ pos (p.den / e) in
    nat_lt (nat_abs first) (2 ^ 127) && nat_lt (nat_abs second) (2 ^ 127)
    && nat_lt (nat_abs (first +ℤ second)) (2 ^ 127) && nat_lt (p.den / e * q.den) (2 ^ 127)
