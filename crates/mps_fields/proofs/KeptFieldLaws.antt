-- The first six fields, which the code keeps.
use Rattle.std.proofs.Common.{◌≡◌, ◌⊎◌, inl, inr, min, ℕ, ◌+◌, ◌<◌, ◌≤◌, List, [], ◌∷◌, ◌++◌, length, take, map, set, sym, ap, ◌∙◌, arith, add-one}
use Rattle.std.proofs.lemmas.List.{take-map, map-set, length-map, length-take, length-append, take_all, take-append-le}
use Rattle.std.proofs.lemmas.Bool.{cases_lt}
use Rattle.std.proofs.Math.Seq.{take-suc-set}
use Rattle.mps_fields.specs.FreeFields.{Span}
use Rattle.mps_fields.specs.FieldViews.{field_span}
use Rattle.mps_fields.specs.declared.field.Field.{Field}

-- the fields that are kept of so many
abbrev pub kept : List Field → ℕ → List Span
kept fields count = take count (map field_span fields)

-- a field is kept while there is room
pub kept_more : (fields : List Field) (count : ℕ) (field : Field) → length fields ≡ 6 → count < 6 → kept (set fields count field) (count + 1) ≡ take 6 (kept fields count ++ field_span field ∷ [])
kept_more fields count field six few =
    let spans = map field_span fields in
    let len : length spans ≡ 6 = length-map fields field_span ∙ six in
    let within : count < length spans = omega arith in
    let next : kept (set fields count field) (count + 1) ≡ kept fields count ++ field_span field ∷ [] =
    ap (take (count + 1)) (map-set field_span fields count field) ∙ ap (λ n. take n (set spans count (field_span field))) (add-one count) ∙ take-suc-set spans count (field_span field) within in
    next ∙ sym (take_all 6 (kept fields count ++ field_span field ∷ []) (omega (arith, length-append (kept fields count) (field_span field ∷ []), length-take count spans)))

-- behind the sixth no field is kept
pub kept_full : (fields : List Field) (count : ℕ) (span : Span) → length fields ≡ 6 → 6 ≤ count → kept fields (count + 1) ≡ take 6 (kept fields count ++ span ∷ [])
kept_full fields count span six many =
    let spans = map field_span fields in
    let len : length spans ≡ 6 = length-map fields field_span ∙ six in
    let all : kept fields count ≡ spans = take_all count spans (omega arith) in
    take_all (count + 1) spans (omega arith) ∙ sym (ap (λ s. take 6 (s ++ span ∷ [])) all ∙ take-append-le 6 spans (span ∷ []) (omega arith) ∙ take_all 6 spans (omega arith))

-- the fields that are kept, in order
pub kept_all : (fields : List Field) (count : ℕ) → length fields ≡ 6 → map field_span (take (min count 6) fields) ≡ kept fields count
kept_all fields count six =
    sym (take-map field_span (min count 6) fields) ∙ kept_least (cases_lt count 6)
  where
    kept_least : (count < 6) ⊎ (6 ≤ count) → take (min count 6) (map field_span fields) ≡ kept fields count
    kept_least (inl few) = let e : min count 6 ≡ count = omega arith in ap (λ n. take n (map field_span fields)) e
    kept_least (inr many) =
        let e : min count 6 ≡ 6 = omega arith in
        let len : length (map field_span fields) ≡ 6 = length-map fields field_span ∙ six in
        ap (λ n. take n (map field_span fields)) e ∙ take_all 6 (map field_span fields) (omega arith) ∙ sym (take_all count (map field_span fields) (omega arith))
