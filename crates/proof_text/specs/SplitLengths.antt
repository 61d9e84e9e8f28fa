-- The first line of a split, and the line of a claim, have at most 98,304 bytes.
use Rattle.std.proofs.Common.{ℕ, suc, ◌+◌, ◌*◌, ◌^◌, ◌≤◌, ℤ, pos, negsuc, ◌≤ℤ◌, List, [], ◌∷◌, ◌++◌, length, map, arith, refl, Bool, true, false}
use Rattle.std.specs.Prelude.{◌≡◌, All, decimal, if◌then◌else◌}
use Rattle.std.specs.Fmt.{signed_decimal}
use Rattle.std.specs.Ordering.{int_eq}
use Rattle.std.proofs.lemmas.Fmt.{length-decimal-le_wide}
use Rattle.std.proofs.lemmas.Int.{ints}
use Rattle.std.proofs.lemmas.List.{length-append}
use Rattle.std.proofs.lemmas.List.Elements.{All-head, All-tail}
use Rattle.whole_rows.specs.WholeRows.{WholeRows}
use Rattle.farkas_rows.specs.declared.path.Slice.{Slice}
use Rattle.proof_tree.specs.declared.tree.Mark.{Mark}
use Rattle.proof_tree.specs.declared.tree.Mark.TheVariants.{Thin, Plain}
use Rattle.proof_tree.specs.declared.tree.Cut.{Cut}
use Rattle.proof_tree.specs.Trees.{IsOfSize}
use Rattle.proof_text.specs.declared.claim.Claim.{Claim}
use Rattle.proof_text.specs.declared.claim.Claim.TheVariants as claims
use Rattle.proof_text.specs.Spelling.{further, pair, form_words, mark_word, split_line, claim_line}
use Rattle.proof_text.specs.Printable.{IsPrintableCut, IsPrintableClaim}

-- ---- numbers

-- a number of at most 2 to the power 97 in size has 30 digits and a sign at most
signed_short : (z : ℤ) → IsOfSize (2 ^ 97) z → length (signed_decimal z) ≤ 31
signed_short (pos n) h = omega (arith, length-decimal-le_wide 30 n (omega arith) (omega (arith, ints, h)) (omega (arith, ints, h)))
signed_short (negsuc n) h = omega (arith, length-decimal-le_wide 30 (suc n) (omega arith) (omega (arith, ints, h)) (omega (arith, ints, h)))

pair_length : (first : List ℕ) (number : ℤ) → length (pair first number) ≡ length first + 1 + length (signed_decimal number)
pair_length first number = omega (arith, length-append first (58 ∷ signed_decimal number))

-- ---- the first line of a split

factors_short : (column : ℕ) (form : List ℤ) → column + length form ≤ 256 → All (IsOfSize (2 ^ 96)) form → length (further (form_words column form)) ≤ length form * 36
factors_short column [] few h = omega arith
factors_short column (factor ∷ form) few h =
    let rest = factors_short (suc column) form (omega (arith, few)) (All-tail (IsOfSize (2 ^ 96)) factor form h) in
    by (int_eq factor (pos 0)) rest
  where
    by : (none : Bool) → length (further (form_words (suc column) form)) ≤ length form * 36 → length (further (if none then form_words (suc column) form else pair (decimal column) factor ∷ form_words (suc column) form)) ≤ suc (length form) * 36
    by true rest = omega (arith, rest)
    by false rest =
        let size : IsOfSize (2 ^ 96) factor = All-head (IsOfSize (2 ^ 96)) factor form h in
        let number = signed_short factor (omega (arith, ints, size), omega (arith, ints, size)) in
        let digits = length-decimal-le_wide 3 column (omega arith) (omega (arith, few)) (omega (arith, few)) in
        omega (arith, rest, number, digits, pair_length (decimal column) factor, length-append (32 ∷ pair (decimal column) factor) (further (form_words (suc column) form)))

mark_length : (mark : Mark) → length (mark_word mark) ≡ 1
mark_length Thin = refl
mark_length Plain = refl

count_short : (z : ℤ) → (pos 0 ≤ℤ z) × (z ≤ℤ pos (2 ^ 98)) → length (signed_decimal z) ≤ 31
count_short (pos n) h = omega (arith, length-decimal-le_wide 30 n (omega arith) (omega (arith, ints, h)) (omega (arith, ints, h)))
count_short (negsuc n) h = absurd (omega (arith, ints, h))

-- a split's first line is short
pub split_bytes : (rows : WholeRows) (path : List Slice) (cut : Cut) → length rows.box ≤ 256 → IsPrintableCut rows path cut → length (split_line cut) ≤ 9500
split_bytes rows path cut few printable =
    let form = factors_short 0 cut.form (omega (arith, few, printable.dense)) printable.factors in
    let lo = signed_short cut.lo printable.lo in
    let count = count_short cut.count printable.count in
    let rest : List ℕ = further (form_words 0 cut.form) in
    omega (
      arith,
      few,
      printable.dense,
      form,
      lo,
      count,
      mark_length cut.mark,
      length-append (32 ∷ mark_word cut.mark) ((32 ∷ signed_decimal cut.lo) ++ ((32 ∷ signed_decimal cut.count) ++ rest)),
      length-append (32 ∷ signed_decimal cut.lo) ((32 ∷ signed_decimal cut.count) ++ rest),
      length-append (32 ∷ signed_decimal cut.count) rest,
    )

pub split_short : (rows : WholeRows) (path : List Slice) (cut : Cut) → length rows.box ≤ 256 → IsPrintableCut rows path cut → length (split_line cut) ≤ 98304
split_short rows path cut few printable = omega (arith, split_bytes rows path cut few printable)

-- ---- the claim

numbers_short : (x : List ℤ) → All (IsOfSize (2 ^ 96)) x → length (further (map signed_decimal x)) ≤ length x * 32
numbers_short [] h = omega arith
numbers_short (value ∷ x) h =
    let size : IsOfSize (2 ^ 96) value = All-head (IsOfSize (2 ^ 96)) value x h in
    let number = signed_short value (omega (arith, ints, size), omega (arith, ints, size)) in
    omega (arith, number, numbers_short x (All-tail (IsOfSize (2 ^ 96)) value x h), length-append (32 ∷ signed_decimal value) (further (map signed_decimal x)))

-- the line of a claim is short
pub claim_short : (rows : WholeRows) (claim : Claim) → length rows.box ≤ 256 → IsPrintableClaim rows claim → length (claim_line claim) ≤ 98304
claim_short rows claims.Infeasible few printable = omega arith
claim_short rows (claims.Optimal x) few printable = omega (arith, few, printable.0, numbers_short x printable.1)
claim_short rows claims.Open few printable = absurd printable
