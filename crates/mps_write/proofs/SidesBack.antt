-- The numbers of RHS and RANGES in a canonical text make the sides of the rows and the constant again.
use Rattle.std.proofs.Common.{◌≡◌, ℕ, ◌^◌, ◌<◌, ◌≤◌, ℤ, pos, Bool, true, false, cond, ltb, ◌&&◌, ◌*◌, ◌/◌, List, [], ◌∷◌, ◌++◌, map, filter_map, Option, Some, None, IfSome, refl, sym, ap, subst, ◌∙◌, arith}
use Rattle.std.specs.Prelude.{codes, find, option_map, option_to_list, unwrap_or, nat_abs, neg_ℤ, ◌-ℤ◌, ◌+ℤ◌, ◌*ℤ◌}
use Rattle.std.specs.Ordering.{int_eq}
use Rattle.std.specs.List.{cons_option, AllByRecursion}
use Rattle.std.proofs.lemmas.Bool.{le-ltb, lt-ltb, and_from}
use Rattle.exact_math.specs.GcdLaws.{gcd-one}
use Rattle.std.proofs.lemmas.Bool.Decides.{Decides-int_eq}
use Rattle.std.proofs.lemmas.Option.{same_Some}
use Rattle.exact_math.specs.IntegerRing.{linear}
use Rattle.exact_math.specs.Rational.{ℚ, whole, ◌+ℚ◌, neg_ℚ}
use Rattle.exact_math.specs.RationalFloor.{whole_from_den}
use Rattle.exact_math.specs.RationalRing.{whole_add}
use Rattle.mps_fields.specs.BooleanLaws.{either}
use Rattle.int_model.specs.declared.model.Row.{Row}
use Rattle.int_model.specs.declared.model.Model.{Model}
use Rattle.mps_model.specs.Tables.{Pair, PairLine}
use Rattle.mps_model.specs.Sides.{is_free_row, sum_fits, zero_ℚ, is_negative, number_at, number_beside, pairs_of, side_in, range_step, Sides, stepped_sides, ranged_sides}
use Rattle.mps_write.specs.PlainModels.{ArePlainSides}
use Rattle.mps_write.specs.CanonicalText.{objective_name, whole_side, kind_of, right_side, range_of, row_right_side, row_range, pair_of, some_pair, side_pair, side_pairs, range_pair, range_pairs}
use Rattle.mps_write.proofs.NameLaws.{AreFresh, is_under, each_under, each_weaker}
use Rattle.mps_write.proofs.RowScans.{row_line}
use Rattle.mps_write.proofs.PlainFacts.{whole_read, IsRange, range_kept}

-- ---- right sides

-- the objective (none) and the rows
abbrev pub sided_name : Option Row → List ℕ
sided_name None = objective_name
sided_name (Some row) = row.name

abbrev pub sided_number : Model → Option Row → ℤ
sided_number model None = neg_ℤ model.constant.num
sided_number model (Some row) = row_right_side row

abbrev pub sided_pair : Model → Option Row → Option Pair
sided_pair model x = some_pair (sided_name x) (sided_number model x)

abbrev pub all_sided : Model → List (Option Row)
all_sided model = None ∷ map Some model.rows

rows_alone : (model : Model) (rows : List Row) → filter_map (sided_pair model) (map Some rows) ≡ filter_map side_pair rows
rows_alone model [] = refl
rows_alone model (row ∷ rows) = ap (cons_option (side_pair row)) (rows_alone model rows)

in_front : {X : Type 0} (o : Option X) (xs : List X) → cons_option o xs ≡ option_to_list o ++ xs
in_front None xs = refl
in_front (Some x) xs = refl

pub sided_pairs_are : (model : Model) → filter_map (sided_pair model) (all_sided model) ≡ side_pairs model
sided_pairs_are model =
    ap (cons_option (sided_pair model None)) (rows_alone model model.rows) ∙ in_front (sided_pair model None) (filter_map side_pair model.rows)

named_by : (name : List ℕ) (z : ℤ) (b : Bool) (pair : Pair) → cond b None (Some (pair_of name z)) ≡ Some pair → pair.name ≡ name
named_by name z true pair e = cc
named_by name z false pair e = ap (λ (pair : Pair). pair.name) (sym (same_Some (pair_of name z) pair e))

-- the number that is found, or 0, is the one that is meant
side_read : (name : List ℕ) (z : ℤ) → nat_abs z < 2 ^ 127 → unwrap_or (option_map (λ (pair : Pair). number_at pair.number) (some_pair name z)) zero_ℚ ≡ whole z
side_read name z small =
    either (int_eq z (pos 0))
    (λ zero. ap (λ b. unwrap_or (option_map (λ (pair : Pair). number_at pair.number) (cond b None (Some (pair_of name z)))) zero_ℚ) zero
    ∙ ap whole (sym ((Decides-int_eq z (pos 0)).0 zero)))
    (λ some. ap (λ b. unwrap_or (option_map (λ (pair : Pair). number_at pair.number) (cond b None (Some (pair_of name z)))) zero_ℚ) some
    ∙ whole_read z small)

-- the right side of the objective and of each row is found
pub sides_back : (model : Model) (lines : List PairLine) → pairs_of lines ≡ side_pairs model → AreFresh [] (map sided_name (all_sided model))
    → AllByRecursion (λ x. nat_abs (sided_number model x) < 2 ^ 127 → side_in lines (sided_name x) ≡ whole (sided_number model x)) (all_sided model)
sides_back model lines said fresh =
    each_weaker (λ x. find (is_under (sided_name x)) (filter_map (sided_pair model) (all_sided model)) ≡ sided_pair model x)
    (λ x. nat_abs (sided_number model x) < 2 ^ 127 → side_in lines (sided_name x) ≡ whole (sided_number model x)) (all_sided model)
    (λ x found small.
    ap (λ pairs. unwrap_or (number_beside pairs (sided_name x)) zero_ℚ) (said ∙ sym (sided_pairs_are model))
    ∙ ap (λ o. unwrap_or (option_map (λ (pair : Pair). number_at pair.number) o) zero_ℚ) found
    ∙ side_read (sided_name x) (sided_number model x) small)
    (each_under sided_name (sided_pair model) (λ x pair e. named_by (sided_name x) (sided_number model x) (int_eq (sided_number model x) (pos 0)) pair e) [] (all_sided model) fresh)

-- ---- ranges

range_read : (name : List ℕ) (o : Option ℤ) → IfSome o IsRange → option_map (λ (pair : Pair). number_at pair.number) (option_map (pair_of name) o) ≡ option_map whole o
range_read name None kept = refl
range_read name (Some z) kept = ap Some (whole_read z (small z kept))
  where
    small : (z : ℤ) → IsRange z → nat_abs z < 2 ^ 127
    small z (n, (is, few)) = subst (λ y. nat_abs y < 2 ^ 127) (sym is) (omega (arith, few))

named_range : (name : List ℕ) (o : Option ℤ) (pair : Pair) → option_map (pair_of name) o ≡ Some pair → pair.name ≡ name
named_range name None pair e = cc
named_range name (Some z) pair e = ap (λ (pair : Pair). pair.name) (sym (same_Some (pair_of name z) pair e))

-- the range of each row is found
pub ranges_back : (rows : List Row) (lines : List PairLine) → pairs_of lines ≡ range_pairs rows → AreFresh [] (map (λ (row : Row). row.name) rows)
    → AllByRecursion (λ (row : Row). ArePlainSides row.lo row.hi → number_beside (pairs_of lines) row.name ≡ option_map whole (row_range row)) rows
ranges_back rows lines said fresh =
    each_weaker (λ (row : Row). find (is_under row.name) (range_pairs rows) ≡ range_pair row)
    (λ (row : Row). ArePlainSides row.lo row.hi → number_beside (pairs_of lines) row.name ≡ option_map whole (row_range row)) rows
    (λ row found plain.
    ap (λ pairs. number_beside pairs row.name) said
    ∙ ap (option_map (λ (pair : Pair). number_at pair.number)) found
    ∙ range_read row.name (row_range row) (range_kept row.lo row.hi plain))
    (each_under (λ (row : Row). row.name) range_pair (λ row pair e. named_range row.name (row_range row) pair e) [] rows fresh)

-- ---- the sides of a row

not_negative : (n : ℕ) → is_negative (whole (pos n)) ≡ false
unfolding whole
not_negative n = le-ltb n 0 (omega arith)

abbrev pub both_sides : Option ℚ → Option ℚ → Sides
both_sides lo hi = record { lo = lo; hi = hi }

-- a range that goes up
ranged_up : (low : ℤ) (n : ℕ) (name : List ℕ) → ranged_sides (record { kind = codes "G"; name = name }) (whole low) (Some (whole (pos n))) ≡ both_sides (Some (whole low)) (Some (whole (low +ℤ pos n)))
ranged_up low n name =
    ap (λ b. stepped_sides (whole low) (cond b (neg_ℚ (whole (pos n))) (whole (pos n)))) (not_negative n)
    ∙ ap (λ b. cond b (both_sides (Some (whole low +ℚ whole (pos n))) (Some (whole low))) (both_sides (Some (whole low)) (Some (whole low +ℚ whole (pos n))))) (not_negative n)
    ∙ ap (λ q. both_sides (Some (whole low)) (Some q)) (sym (whole_add low (pos n)))

-- two sides, by whether they are equal
two_sides : (low high : ℤ) (name : List ℕ) (b : Bool) → int_eq low high ≡ b → IfSome (cond b None (Some (high -ℤ low))) IsRange
    → ranged_sides (record { kind = cond b (codes "E") (codes "G"); name = name }) (whole low) (option_map whole (cond b None (Some (high -ℤ low)))) ≡ both_sides (Some (whole low)) (Some (whole high))
two_sides low high name true e kept = ap (λ z. both_sides (Some (whole low)) (Some (whole z))) ((Decides-int_eq low high).0 e)
two_sides low high name false e (n, (is, few)) =
    ap (λ z. ranged_sides (record { kind = codes "G"; name = name }) (whole low) (Some (whole z))) is
    ∙ ranged_up low n name
    ∙ ap (λ z. both_sides (Some (whole low)) (Some (whole z))) (ap (λ z. low +ℤ z) (sym is) ∙ omega linear)

same_sides : (lo hi low high : Option ℚ) → lo ≡ low → hi ≡ high → both_sides lo hi ≡ both_sides low high
same_sides lo hi low high p q = ap (λ o. both_sides o hi) p ∙ ap (both_sides low) q

-- the sides that a kind, a right side and a range make are those of the row
pub sides_made : (lo hi : Option ℚ) (name : List ℕ) → ArePlainSides lo hi
    → ranged_sides (record { kind = kind_of (whole_side lo) (whole_side hi); name = name }) (whole (right_side (whole_side lo) (whole_side hi))) (option_map whole (range_of (whole_side lo) (whole_side hi)))
    ≡ both_sides lo hi
sides_made None None name plain = absurd plain
sides_made None (Some hi) name plain = same_sides None (Some (whole hi.num)) None (Some hi) refl (ap Some (sym (whole_from_den hi plain.is_whole)))
sides_made (Some lo) None name plain = same_sides (Some (whole lo.num)) None (Some lo) None (ap Some (sym (whole_from_den lo plain.is_whole))) refl
sides_made (Some lo) (Some hi) name plain =
    two_sides lo.num hi.num name (int_eq lo.num hi.num) refl (range_kept (Some lo) (Some hi) plain)
    ∙ same_sides (Some (whole lo.num)) (Some (whole hi.num)) (Some lo) (Some hi) (ap Some (sym (whole_from_den lo plain.0.is_whole))) (ap Some (sym (whole_from_den hi plain.1.is_whole)))

-- ---- the rows that RANGES names

has_no_n : (low high : Option ℤ) (name : List ℕ) → is_free_row (record { kind = kind_of low high; name = name }) ≡ false
has_no_n None high name = refl
has_no_n (Some low) None name = refl
has_no_n (Some low) (Some high) name =
    elim (int_eq low high) as (λ b. is_free_row (record { kind = cond b (codes "E") (codes "G"); name = name }) ≡ false) [ true ↦ refl | false ↦ refl ]

-- a row of the model is not free
pub not_free : (row : Row) → is_free_row (row_line row) ≡ false
not_free row = has_no_n (whole_side row.lo) (whole_side row.hi) row.name

times_one : (y : ℤ) → y *ℤ pos 1 ≡ y
times_one y = omega linear

abbrev sum_test : ℤ → ℕ → ℕ → Bool
sum_test low n e =
    ltb (nat_abs (low *ℤ pos (1 / e))) (2 ^ 127) && ltb (nat_abs (pos n *ℤ pos (1 / e))) (2 ^ 127)
    && ltb (nat_abs (low *ℤ pos (1 / e) +ℤ pos n *ℤ pos (1 / e))) (2 ^ 127) && ltb (1 / e * 1) (2 ^ 127)

-- the sum of small whole numbers fits
whole_sum_fits : (low : ℤ) (n : ℕ) → nat_abs low < 2 ^ 127 → n < 2 ^ 127 → nat_abs (low +ℤ pos n) < 2 ^ 127 → sum_fits (whole low) (whole (pos n)) ≡ true
unfolding whole
whole_sum_fits low n small narrow fits =
    let same : low *ℤ pos 1 +ℤ pos (n * 1) ≡ low +ℤ pos n = ap (λ z. z +ℤ pos (n * 1)) (times_one low) ∙ ap (λ k. low +ℤ pos k) (omega arith) in
    let first = lt-ltb (nat_abs (low *ℤ pos 1)) (2 ^ 127) (subst (λ z. nat_abs z < 2 ^ 127) (sym (times_one low)) small) in
    let second = lt-ltb (n * 1) (2 ^ 127) (omega (arith, narrow)) in
    let third = lt-ltb (nat_abs (low *ℤ pos 1 +ℤ pos (n * 1))) (2 ^ 127) (subst (λ z. nat_abs z < 2 ^ 127) (sym same) fits) in
    ap (sum_test low n) (gcd-one 1)
    ∙ and_from _ true (and_from _ _ (and_from _ _ first second) third) refl

-- the side that a range makes is in range
range_in : (low high : ℤ) (name : List ℕ) (b : Bool) (number : ℤ) → cond b None (Some (high -ℤ low)) ≡ Some number → IsRange number → nat_abs low ≤ 2 ^ 96 → nat_abs high ≤ 2 ^ 96
    → sum_fits (whole low) (range_step (record { kind = cond b (codes "E") (codes "G"); name = name }) (whole number)) ≡ true
range_in low high name true number e kept small narrow = cc
range_in low high name false number e (n, (is, few)) small narrow =
    let difference : high -ℤ low ≡ number = same_Some (high -ℤ low) number e in
    let top : low +ℤ pos n ≡ high = ap (λ z. low +ℤ z) (sym is ∙ sym difference) ∙ omega linear in
    ap (λ z. sum_fits (whole low) (range_step (record { kind = codes "G"; name = name }) (whole z))) is
    ∙ ap (λ b. sum_fits (whole low) (cond b (neg_ℚ (whole (pos n))) (whole (pos n)))) (not_negative n)
    ∙ whole_sum_fits low n (omega (arith, small)) (omega (arith, few)) (subst (λ z. nat_abs z < 2 ^ 127) (sym top) (omega (arith, narrow)))

pub range_fits : (lo hi : Option ℚ) (name : List ℕ) (number : ℤ) → ArePlainSides lo hi → range_of (whole_side lo) (whole_side hi) ≡ Some number
    → sum_fits (whole (right_side (whole_side lo) (whole_side hi))) (range_step (record { kind = kind_of (whole_side lo) (whole_side hi); name = name }) (whole number)) ≡ true
range_fits None hi name number plain e = cc
range_fits (Some lo) None name number plain e = cc
range_fits (Some lo) (Some hi) name number plain e =
    range_in lo.num hi.num name (int_eq lo.num hi.num) number e (subst (λ o. IfSome o IsRange) e (range_kept (Some lo) (Some hi) plain)) plain.0.size plain.1.size
