-- The fields found so far, with those of the rest, are the fields of the line.
use Rattle.std.proofs.Common.{◌≡◌, ℕ, zero, suc, ◌+◌, ◌≤◌, List, [], ◌∷◌, ◌++◌, length, take, refl, sym, ap, ◌∙◌, arith, append_assoc}
use Rattle.std.proofs.lemmas.List.{length-take}
use Rattle.mps_fields.specs.Lines.{Line, most_bytes}
use Rattle.mps_fields.specs.FreeFields.{FreeLine, fields_from, free_fields, with_field}
use Rattle.mps_fields.specs.FieldViews.{cut_span, CutsFirst}
use Rattle.mps_fields.specs.declared.runs.Cut.{Cut}

pub record IsFound (found : FreeLine) (line : Line) (place : ℕ) (rest : List ℕ) : Type 0 where
  pub fields : take 6 (found.fields ++ fields_from place rest) ≡ take 6 (free_fields line.bytes)
  pub count : found.count + length (fields_from place rest) ≡ length (free_fields line.bytes)
  pub number : found.number ≡ line.number
  pub few : length found.fields ≤ 6
  pub within : place + length rest ≤ most_bytes
  pub fewer : found.count + length rest ≤ most_bytes

-- what stands behind the front of a front
take-take_append : {X : Type 0} (n : ℕ) (xs ys : List X) → take n (take n xs ++ ys) ≡ take n (xs ++ ys)
take-take_append zero xs ys = refl
take-take_append (suc n) [] ys = refl
take-take_append (suc n) (x ∷ xs) ys = ap (λ t. x ∷ t) (take-take_append n xs ys)

-- one more field is found
pub one_found : (found next : FreeLine) (line : Line) (place : ℕ) (rest : List ℕ) (cut : Cut) → next ≡ with_field found (cut_span cut) → CutsFirst place rest cut → IsFound found line place rest → IsFound next line cut.end cut.rest.now
one_found found next line place rest cut grown cuts now =
    let field = cut_span cut in
    let left = fields_from cut.end cut.rest.now in
    let counted : next.count ≡ found.count + 1 = ap (λ f. f.count) grown in
    record {
      fields =
          ap (λ f. take 6 (f.fields ++ left)) grown ∙ take-take_append 6 (found.fields ++ field ∷ []) left ∙ ap (take 6) (append_assoc found.fields (field ∷ []) left)
          ∙ ap (λ fs. take 6 (found.fields ++ fs)) (sym cuts.first) ∙ now.fields;
      count = omega (arith, now.count, ap length cuts.first);
      number = ap (λ f. f.number) grown ∙ now.number;
      few = omega (arith, ap (λ f. length f.fields) grown, length-take 6 (found.fields ++ field ∷ []));
      within = omega (arith, now.within, cuts.within);
      fewer = omega (arith, now.fewer, cuts.shorter);
    }
