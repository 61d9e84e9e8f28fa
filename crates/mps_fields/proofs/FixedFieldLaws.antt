-- A field in fixed form stands at its place in the line, within its columns.
use Rattle.std.proofs.Common.{◌≡◌, ℕ, zero, suc, ◌+◌, ◌-◌, ◌≤◌, cond, List, [], ◌∷◌, length, take, drop, Some, None, refl, sym, ap, subst, ◌∙◌, arith}
use Rattle.std.specs.Prelude.{IfSome}
use Rattle.std.specs.List.{list_all, prefix_len, suffix_len}
use Rattle.std.proofs.lemmas.List.{length-take, length-take-le, length-drop, take-take, drop-drop}
use Rattle.std.proofs.lemmas.List.Sums.{prefix_len-le-length}
use Rattle.mps_fields.specs.FreeFields.{Span}
use Rattle.mps_fields.specs.FixedFields.{is_space, columns, without_end, field_between, LiesBetween}
use Rattle.mps_fields.specs.BooleanLaws.{either}

-- a part of the front is a part of the whole
part_of_front : (n k w : ℕ) (xs : List ℕ) → n + k ≤ w → take n (drop k (take w xs)) ≡ take n (drop k xs)
part_of_front n zero w xs h = take-take n w xs (omega arith)
part_of_front n (suc k) zero xs h = absurd (omega arith)
part_of_front n (suc k) (suc w) [] h = refl
part_of_front n (suc k) (suc w) (x ∷ xs) h = part_of_front n k w xs (omega arith)

-- the text of a field that begins behind so many blanks of its columns, and has so many bytes
lies_between : (first last lead n : ℕ) (line : List ℕ) → first ≤ last + 1 → 1 ≤ first → lead ≤ length (columns first last line) → n ≤ length (drop lead (columns first last line))
    → LiesBetween first last line (record { at = first - 1 + lead; text = take n (drop lead (columns first last line)) })
lies_between first last lead n line ordered some in_columns few =
    let w : ℕ = last + 1 - first in
    let rest : List ℕ = drop lead (columns first last line) in
    let wide : length (columns first last line) ≤ w = omega (arith, length-take w (drop (first - 1) line)) in
    let left : length rest ≡ length (columns first last line) - lead = length-drop lead (columns first last line) in
    let size : length (take n rest) ≡ n = length-take-le n rest few in
    record {
      bytes =
          ap (λ m. take m (drop (first - 1 + lead) line)) size ∙ ap (take n) (sym (drop-drop lead (first - 1) line))
          ∙ sym (part_of_front n lead w (drop (first - 1) line) (omega arith));
      behind = omega arith;
      within = omega arith;
    }

-- each field that is there lies between its columns
pub field_lies : (first last : ℕ) (line : List ℕ) → 1 ≤ first → first ≤ last + 1 → IfSome (field_between first last line) (LiesBetween first last line)
field_lies first last line some ordered =
    let bytes : List ℕ = columns first last line in
    let lead : ℕ = prefix_len is_space bytes in
    let rest : List ℕ = drop lead bytes in
    let found : Span = record { at = first - 1 + lead; text = without_end rest } in
    let n : ℕ = length rest - suffix_len is_space rest in
    either (list_all is_space bytes)
    (λ t. subst (λ o. IfSome o (LiesBetween first last line)) (sym (ap (λ b. cond b None (Some found)) t)) tt)
    (λ t. subst (λ o. IfSome o (LiesBetween first last line)) (sym (ap (λ b. cond b None (Some found)) t)) (lies_between first last lead n line ordered some (prefix_len-le-length is_space bytes) (omega arith)))
