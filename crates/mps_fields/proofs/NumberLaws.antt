-- What is found from the left of a text says whether it is a number, and which.
use Rattle.std.proofs.Common.{◌≡◌, ◌↔◌, ℕ, true, false, true≢false, cond, IsTrue, List, Option, Some, None, Result, Ok, Err, refl, sym, ap, subst, ◌∙◌}
use Rattle.exact_math.specs.Rational.{ℚ}
use Rattle.mps_fields.specs.declared.numbers.NumberFault.{NumberFault}
use Rattle.mps_fields.specs.declared.numbers.NumberFault.TheVariants.{NotNumber, WideNumber}
use Rattle.mps_fields.specs.Decimal.{Decimal, IsNumber, MeansNumber, IsWideNumber, fits, fits_product, scaled, means_number, mantissa}
use Rattle.mps_fields.specs.Reading.{decimal_of, value_of, number_of}
use Rattle.mps_fields.specs.DecimalParts.{ArePartsOf, parts_mantissa, parts_power}
use Rattle.mps_fields.specs.declared.decimal_parts.Parts.{Parts}
use Rattle.mps_fields.specs.BooleanLaws.{either}
use Rattle.mps_fields.specs.ReadingLaws.{spells_found, found_spells}

-- a number that fits is answered
value_of-fits : (d : Decimal) → fits d ≡ true → value_of (Some d) ≡ Ok (means_number d)
unfolding value_of
value_of-fits d t = ap (λ b. cond b (Ok (means_number d)) (Err WideNumber)) t

-- a number that does not fit is refused
value_of-wide : (d : Decimal) → fits d ≡ false → value_of (Some d) ≡ Err WideNumber
unfolding value_of
value_of-wide d f = ap (λ b. cond b (Ok (means_number d)) (Err WideNumber)) f

-- a text that is no number is refused
value_of-none : value_of None ≡ Err NotNumber
unfolding value_of
value_of-none = refl

-- ---- the three answers

-- how a text is answered: by the number that it means, by `NotNumber` or by `WideNumber`
pub record Answers (r : Result ℚ NumberFault) (text : List ℕ) : Type 0 where
  pub ok : (q : ℚ) → (r ≡ Ok q) ↔ MeansNumber text q
  pub not_number : (r ≡ Err NotNumber) ↔ (¬ IsNumber text)
  pub wide : (r ≡ Err WideNumber) ↔ IsWideNumber text

-- a text that is no number
answers_none : (text : List ℕ) → decimal_of text ≡ None → Answers (Err NotNumber) text
answers_none text e = record {
  ok = λ q. (λ h. cc, λ m. let found = spells_found text m.decimal m.spells in cc);
  not_number = (λ _ n. let found = spells_found text n.0 n.1 in cc, λ _. refl);
  wide = (λ h. cc, λ m. let found = spells_found text m.decimal m.spells in cc);
}

-- a text that is a number that fits
answers_fits : (text : List ℕ) (d : Decimal) → decimal_of text ≡ Some d → fits d ≡ true → Answers (Ok (means_number d)) text
answers_fits text d e t =
    let spells = found_spells text d e in
    record {
      ok = λ q. (λ h. record { decimal = d; spells = spells; fits = t; value = cc }, λ m. let found = spells_found text m.decimal m.spells in let same : d ≡ m.decimal = cc in ap (λ x. Ok (means_number x)) same ∙ ap Ok m.value);
      not_number = (λ h. cc, λ n. absurd (n (d, spells)));
      wide = (λ h. cc, λ m. let found = spells_found text m.decimal m.spells in let same : d ≡ m.decimal = cc in absurd (true≢false (sym t ∙ ap fits same ∙ m.wide)));
    }

-- a text that is a number that does not fit
answers_wide : (text : List ℕ) (d : Decimal) → decimal_of text ≡ Some d → fits d ≡ false → Answers (Err WideNumber) text
answers_wide text d e f =
    let spells = found_spells text d e in
    record {
      ok = λ q. (λ h. cc, λ m. let found = spells_found text m.decimal m.spells in let same : d ≡ m.decimal = cc in absurd (true≢false (sym m.fits ∙ ap fits (sym same) ∙ f)));
      not_number = (λ h. cc, λ n. absurd (n (d, spells)));
      wide = (λ _. record { decimal = d; spells = spells; wide = f }, λ _. refl);
    }

-- a text by its parts, if any
answers_at : (text : List ℕ) (o : Option Decimal) → decimal_of text ≡ o → Answers (value_of o) text
answers_at text None e = subst (λ r. Answers r text) (sym value_of-none) (answers_none text e)
answers_at text (Some d) e =
    either (fits d)
    (λ t. subst (λ r. Answers r text) (sym (value_of-fits d t)) (answers_fits text d e t))
    (λ f. subst (λ r. Answers r text) (sym (value_of-wide d f)) (answers_wide text d e f))

-- each text is answered rightly
pub answers_from : (r : Result ℚ NumberFault) (text : List ℕ) → r ≡ number_of text → Answers r text
answers_from r text e = subst (λ x. Answers x text) (sym e) (answers_at text (decimal_of text) refl)

-- ---- the value of parts

-- no parts
pub no_number : (text : List ℕ) → decimal_of text ≡ None → Err NotNumber ≡ number_of text
no_number text e = sym (ap value_of e ∙ value_of-none)

-- parts fit where their decimal does
fits_parts : (p : Parts) (text : List ℕ) (h : ArePartsOf p text) → fits_product (parts_mantissa p) (parts_power p) ≡ fits h.decimal
fits_parts p text h = ap (λ m. fits_product m (parts_power p)) h.mantissa ∙ ap (λ e. fits_product (mantissa h.decimal) e) h.power

-- parts that fit
pub number_fits : (p : Parts) (text : List ℕ) (q : ℚ) → ArePartsOf p text → IsTrue (fits_product (parts_mantissa p) (parts_power p)) × (q ≡ scaled (parts_mantissa p) (parts_power p)) → Ok q ≡ number_of text
number_fits p text q h told =
    ap Ok (told.1 ∙ ap (λ m. scaled m (parts_power p)) h.mantissa ∙ ap (λ e. scaled (mantissa h.decimal) e) h.power)
    ∙ sym (ap value_of h.found ∙ value_of-fits h.decimal (sym (fits_parts p text h) ∙ told.0))

-- parts that do not fit
pub number_wide : (p : Parts) (text : List ℕ) → ArePartsOf p text → (IsTrue (fits_product (parts_mantissa p) (parts_power p)) → ⊥) → Err WideNumber ≡ number_of text
number_wide p text h wide =
    sym (ap value_of h.found ∙ value_of-wide h.decimal (either (fits h.decimal) (λ t. absurd (wide (fits_parts p text h ∙ t))) (λ f. f)))
