-- Lists of numbers that rise.
use Rattle.std.proofs.Common.{◌≡◌, ℕ, ◌+◌, ◌-◌, ◌<◌, ◌≤◌, List, length, get_or, ap, arith, ⊎_elim}
use Rattle.std.specs.List.{insert}
use Rattle.std.specs.List.Sorted.{IsStrictlyIncreasing}
use Rattle.std.proofs.lemmas.Bool.{cases_lt}
use Rattle.std.proofs.lemmas.List.Edits.{get_or-insert_below, get_or-insert_at, get_or-insert_above, length-insert}

-- a number that is put in at its place keeps a rising list rising
pub rising-insert : (xs : List ℕ) (i x : ℕ) → i ≤ length xs → IsStrictlyIncreasing xs → ((k : ℕ) → k + 1 ≡ i → get_or xs k 0 < x) → (i < length xs → x < get_or xs i 0) → IsStrictlyIncreasing (insert xs i x)
rising-insert xs i x within rising before after k h =
    let n = length-insert xs i x within in
    ⊎_elim
    (λ (below : k + 1 < i). rw (get_or-insert_below xs i x 0 k (omega arith) within, get_or-insert_below xs i x 0 (k + 1) below within) (rising k (omega arith)))
    (λ (from : i ≤ k + 1). ⊎_elim
    (λ (last : k < i). let e : k + 1 ≡ i = omega arith in rw (get_or-insert_below xs i x 0 k last within, ap (λ j. get_or (insert xs i x) j 0) e, get_or-insert_at xs i x 0 within) (before k e))
    (λ (past : i ≤ k). rw (get_or-insert_above xs i x 0 k past within) (⊎_elim
    (λ (more : i < k). let m : (k - 1) + 1 ≡ k = omega arith in rw (← m) (rw (get_or-insert_above xs i x 0 (k - 1) (omega arith) within) (rising (k - 1) (omega arith))))
    (λ (at : k ≤ i). let e : k ≡ i = omega arith in rw (e, get_or-insert_at xs i x 0 within) (after (omega arith)))
    (cases_lt i k)))
    (cases_lt k i))
    (cases_lt (k + 1) i)
