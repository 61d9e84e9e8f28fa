-- The fields that are found are all the runs of the line, each at its place.
use Rattle.std.proofs.Common.{◌≡◌, ℕ, zero, suc, ◌+◌, ◌-◌, ◌<◌, ◌≤◌, Bool, true, false, not, eqb, List, [], ◌∷◌, ◌++◌, length, take, drop, refl, sym, ap, subst, ◌∙◌, arith}
use Rattle.std.specs.List.{list_all}
use Rattle.std.proofs.lemmas.Bool.{eqb-true, lt-ltb, and_parts, and_from}
use Rattle.std.proofs.lemmas.List.{length-take-le, length-drop, nil_from_length, append-nil, take-append-drop, drop-drop}
use Rattle.std.proofs.lemmas.List.Sums.{prefix_len-le-length}
use Rattle.mps_fields.specs.Lines.{is_blank}
use Rattle.mps_fields.specs.FreeFields.{fields_from, free_fields, IsNextField, AreFields}
use Rattle.mps_fields.specs.BooleanLaws.{either, above_zero}
use Rattle.mps_fields.specs.FrontLaws.{front-all}
use Rattle.mps_fields.proofs.RunLaws.{blanks, run_end, run_end-cons, run_end-none, starts_run, run_first, behind_blanks, no_run}

-- a test that does not fail holds
not_not : (b : Bool) → not (not b) ≡ true → b ≡ true
not_not true h = refl
not_not false h = h

-- bytes that pass a test which only blanks pass are blanks
blanks-all : (bytes : List ℕ) → list_all (λ byte. not (not (is_blank byte))) bytes ≡ true → list_all is_blank bytes ≡ true
blanks-all [] h = refl
blanks-all (byte ∷ bytes) h =
    let both = and_parts (not (not (is_blank byte))) (list_all (λ b. not (not (is_blank b))) bytes) h in
    and_from (is_blank byte) (list_all is_blank bytes) (not_not (is_blank byte) both.0) (blanks-all bytes both.1)

-- the bytes in front of a run are blanks
front_blanks : (bytes : List ℕ) → list_all is_blank (take (blanks bytes) bytes) ≡ true
front_blanks bytes = blanks-all (take (blanks bytes) bytes) (front-all (λ byte. not (not (is_blank byte))) bytes)

-- the bytes of a run are no blanks
run_all : (bytes : List ℕ) → list_all (λ byte. not (is_blank byte)) (take (run_end bytes) bytes) ≡ true
run_all bytes = front-all (λ byte. not (is_blank byte)) bytes

-- behind a run stands a blank, or nothing
run_after : (bytes : List ℕ) → list_all is_blank (take 1 (drop (run_end bytes) bytes)) ≡ true
run_after [] = refl
run_after (byte ∷ bytes) =
    either (is_blank byte)
    (λ t. subst (λ k. list_all is_blank (take 1 (drop k (byte ∷ bytes))) ≡ true) (sym (run_end-none byte bytes t)) (and_from (is_blank byte) true t refl))
    (λ t. subst (λ k. list_all is_blank (take 1 (drop k (byte ∷ bytes))) ≡ true) (sym (run_end-cons byte bytes t)) (run_after bytes))

-- where no run is left, all are blanks
all_blank : (bytes : List ℕ) → length (drop (blanks bytes) bytes) ≡ 0 → list_all is_blank bytes ≡ true
all_blank bytes none =
    let whole : take (blanks bytes) bytes ≡ bytes = sym (append-nil (take (blanks bytes) bytes)) ∙ ap (λ rest. take (blanks bytes) bytes ++ rest) (sym (nil_from_length _ none)) ∙ take-append-drop (blanks bytes) bytes in
    subst (λ b. list_all is_blank b ≡ true) whole (front_blanks bytes)

-- the run behind the blanks is the next field
next_field : (place at len : ℕ) (line rest : List ℕ) → at ≡ place + blanks (drop place line) → rest ≡ drop at line → len ≡ run_end rest → 0 < len → IsNextField line place (record { at = at; text = take len rest })
next_field place at len line rest at_is rest_is len_is some =
    let within : len ≤ length rest = omega (arith, prefix_len-le-length (λ x. not (is_blank x)) rest, len_is) in
    let size : length (take len rest) ≡ len = length-take-le len rest within in
    let gap : at - place ≡ blanks (drop place line) = omega arith in
    record {
      behind = omega arith;
      before = ap (λ n. list_all is_blank (take n (drop place line))) gap ∙ front_blanks (drop place line);
      bytes = ap (λ n. take n (drop at line)) size ∙ ap (take len) (sym rest_is);
      run = and_from _ _ (lt-ltb 0 (length (take len rest)) (omega arith)) (ap (λ n. list_all (λ byte. not (is_blank byte)) (take n rest)) len_is ∙ run_all rest);
      after =
          ap (λ n. list_all is_blank (take 1 (drop (at + n) line))) (size ∙ len_is) ∙ ap (λ r. list_all is_blank (take 1 r)) (sym (drop-drop (run_end rest) at line) ∙ ap (drop (run_end rest)) (sym rest_is))
          ∙ run_after rest;
    }

-- the fields of so many bytes at most
abbrev Fewer : ℕ → List ℕ → Type 0
Fewer fuel line = (place : ℕ) → length (drop place line) ≤ fuel → AreFields line place (fields_from place (drop place line))

-- a rest of the line without a run
no_fields : (place : ℕ) (line : List ℕ) → length (drop (blanks (drop place line)) (drop place line)) ≡ 0 → AreFields line place (fields_from place (drop place line))
unfolding AreFields
no_fields place line none = subst (AreFields line place) (sym (no_run place (drop place line) none)) (all_blank (drop place line) none)

-- a rest of the line with a run
more_fields : (fuel place : ℕ) (line : List ℕ) → Fewer fuel line → length (drop place line) ≤ suc fuel → 0 < length (drop (blanks (drop place line)) (drop place line)) → AreFields line place (fields_from place (drop place line))
unfolding AreFields
more_fields fuel place line fields few some =
    let bytes : List ℕ = drop place line in
    let at : ℕ = place + blanks bytes in
    let rest : List ℕ = drop (blanks bytes) bytes in
    let len : ℕ = run_end rest in
    let first = run_first at rest (starts_run bytes) some in
    let rest_is : rest ≡ drop at line = drop-drop (blanks bytes) place line in
    let left : drop len rest ≡ drop (at + len) line = ap (drop len) rest_is ∙ drop-drop len at line in
    let found : fields_from place bytes ≡ (record { at = at; text = take len rest }) ∷ fields_from (at + len) (drop (at + len) line) =
    behind_blanks place bytes ∙ first.0 ∙ ap (λ r. (record { at = at; text = take len rest }) ∷ fields_from (at + len) r) left in
    let within : len ≤ length rest = prefix_len-le-length (λ x. not (is_blank x)) rest in
    let size : length (take len rest) ≡ len = length-take-le len rest within in
    let fewer : length (drop (at + len) line) ≤ fuel = omega (arith, ap length left, length-drop len rest, length-drop (blanks bytes) bytes, first.1) in
    subst (AreFields line place) (sym found)
    (next_field place at len line rest refl rest_is refl first.1, subst (λ n. AreFields line (at + n) (fields_from (at + len) (drop (at + len) line))) (sym size) (fields (at + len) fewer))

-- the fields found behind a place are all
fields_are : (fuel place : ℕ) (line : List ℕ) → length (drop place line) ≤ fuel → AreFields line place (fields_from place (drop place line))
fields_are zero place line few = no_fields place line (omega (arith, length-drop (blanks (drop place line)) (drop place line)))
fields_are (suc fuel) place line few =
    either (eqb (length (drop (blanks (drop place line)) (drop place line))) 0)
    (λ t. no_fields place line (eqb-true _ 0 t))
    (λ t. more_fields fuel place line (λ p. fields_are fuel p line) few (above_zero _ t))

-- the fields of a line are all its runs
pub free_fields_are : (line : List ℕ) → AreFields line 0 (free_fields line)
free_fields_are line = fields_are (length line) 0 line (omega arith)
