-- The parts that are found in a text are those of the one number that it is.
use Rattle.std.proofs.Common.{◌≡◌, ℕ, ◌+◌, Bool, true, false, true≢false, cond, ◌&&◌, ◌||◌, eqb, List, [], ◌∷◌, ◌++◌, length, take, drop, Option, Some, None, refl, sym, ap, subst, ◌∙◌, arith}
use Rattle.std.specs.List.{list_all, prefix_len}
use Rattle.std.proofs.lemmas.Bool.{eqb-true, and_parts, or_parts}
use Rattle.std.proofs.lemmas.List.{take-append-drop}
use Rattle.std.proofs.Math.Seq.{take-append_seam, drop-append_seam}
use Rattle.std.proofs.lemmas.List.Folds.{list_all-append}
use Rattle.std.proofs.lemmas.Option.{same_Some, none-some}
use Rattle.mps_fields.specs.Decimal.{Sign, unsigned, plus, minus, sign_text, Exponent, Decimal, Spells, is_digit, is_digits, is_exponent, is_exponent_letter, exponent_text, fraction_text, fraction_digits, decimal_text, digits_of}
use Rattle.mps_fields.specs.Reading.{sign_of, after_sign, front_digits, after_digits, fraction_of, after_fraction, exponent_of, decimal_with, decimal_of}
use Rattle.mps_fields.specs.BooleanLaws.{either, some_of}

-- ---- single bytes

-- `+` or `-`
abbrev is_sign : ℕ → Bool
is_sign byte = eqb byte 43 || eqb byte 45

-- what holds of the four letters holds of each letter of an exponent
letter_is : (P : ℕ → Type 0) → P 101 → P 69 → P 100 → P 68 → (byte : ℕ) → is_exponent_letter byte ≡ true → P byte
letter_is P a b c d byte h =
    some_of (eqb byte 101 || eqb byte 69 || eqb byte 100) (eqb byte 68) h
    (λ k. some_of (eqb byte 101 || eqb byte 69) (eqb byte 100) k
    (λ l. some_of (eqb byte 101) (eqb byte 69) l (λ t. subst P (sym (eqb-true byte 101 t)) a) (λ t. subst P (sym (eqb-true byte 69 t)) b))
    (λ t. subst P (sym (eqb-true byte 100 t)) c))
    (λ t. subst P (sym (eqb-true byte 68 t)) d)

-- a digit is no sign
digit_no_sign : (byte : ℕ) → is_digit byte ≡ true → is_sign byte ≡ false
digit_no_sign byte h =
    either (is_sign byte)
    (λ t. some_of (eqb byte 43) (eqb byte 45) t
    (λ e. absurd (true≢false (sym (subst (λ b. is_digit b ≡ true) (eqb-true byte 43 e) h))))
    (λ e. absurd (true≢false (sym (subst (λ b. is_digit b ≡ true) (eqb-true byte 45 e) h)))))
    (λ f. f)

-- ---- digits in front

-- a text does not begin with a byte that passes
abbrev Ends : (ℕ → Bool) → List ℕ → Type 0
Ends p [] = Unit {0}
Ends p (byte ∷ bytes) = p byte ≡ false

-- the front that passes ends where the rest does not pass
prefix_len-append : (p : ℕ → Bool) (front rest : List ℕ) → list_all p front ≡ true → Ends p rest → prefix_len p (front ++ rest) ≡ length front
prefix_len-append p [] [] all ends = refl
prefix_len-append p [] (byte ∷ rest) all ends = rw ends refl
prefix_len-append p (byte ∷ front) rest all ends =
    let both = and_parts (p byte) (list_all p front) all in
    ap (λ t. cond t (1 + prefix_len p (front ++ rest)) 0) both.0 ∙ ap (λ n. 1 + n) (prefix_len-append p front rest both.1 ends) ∙ omega arith

-- digits in front
front_digits-append : (digits rest : List ℕ) → list_all is_digit digits ≡ true → Ends is_digit rest → front_digits (digits ++ rest) ≡ digits
front_digits-append digits rest all ends =
    ap (λ n. take n (digits ++ rest)) (prefix_len-append is_digit digits rest all ends) ∙ take-append_seam digits rest

-- what stands behind digits
after_digits-append : (digits rest : List ℕ) → list_all is_digit digits ≡ true → Ends is_digit rest → after_digits (digits ++ rest) ≡ rest
after_digits-append digits rest all ends =
    ap (λ n. drop n (digits ++ rest)) (prefix_len-append is_digit digits rest all ends) ∙ drop-append_seam digits rest

-- ---- lists of digits

-- one digit or more, all digits
pub is_digits-all : (bytes : List ℕ) → is_digits bytes ≡ true → list_all is_digit bytes ≡ true
is_digits-all [] h = absurd (true≢false (sym h))
is_digits-all (byte ∷ bytes) h = h

-- ---- the sign

-- the sign that is written is found
sign_of-text : (s : Sign) (text : List ℕ) → Ends is_sign text → sign_of (sign_text s ++ text) ≡ s
sign_of-text unsigned [] ends = refl
sign_of-text unsigned (byte ∷ bytes) ends =
    let no = or_parts (eqb byte 43) (eqb byte 45) ends in
    rw (no.0, no.1) refl
sign_of-text plus text ends = refl
sign_of-text minus text ends = refl

-- the text behind it is found
after_sign-text : (s : Sign) (text : List ℕ) → Ends is_sign text → after_sign (sign_text s ++ text) ≡ text
after_sign-text unsigned [] ends = refl
after_sign-text unsigned (byte ∷ bytes) ends = ap (λ t. cond t bytes (byte ∷ bytes)) ends
after_sign-text plus text ends = refl
after_sign-text minus text ends = refl

-- a text is its sign and the rest
sign-whole : (text : List ℕ) → sign_text (sign_of text) ++ after_sign text ≡ text
sign-whole [] = refl
sign-whole (byte ∷ bytes) =
    either (eqb byte 43)
    (λ t. subst (λ b. sign_text (sign_of (b ∷ bytes)) ++ after_sign (b ∷ bytes) ≡ b ∷ bytes) (sym (eqb-true byte 43 t)) refl)
    (λ f. either (eqb byte 45)
    (λ t. subst (λ b. sign_text (sign_of (b ∷ bytes)) ++ after_sign (b ∷ bytes) ≡ b ∷ bytes) (sym (eqb-true byte 45 t)) refl)
    (λ g. rw (f, g) refl))

-- ---- the exponent

-- an exponent does not begin with a byte that no letter is
exponent_text-ends : (p : ℕ → Bool) → p 101 ≡ false → p 69 ≡ false → p 100 ≡ false → p 68 ≡ false → (x : Option Exponent) → is_exponent x ≡ true → Ends p (exponent_text x)
exponent_text-ends p a b c d None h = tt
exponent_text-ends p a b c d (Some x) h =
    letter_is (λ byte. p byte ≡ false) a b c d x.letter (and_parts (is_exponent_letter x.letter) (is_digits x.digits) h).0

-- digits begin with no sign
digits_no_sign : (digits : List ℕ) → is_digits digits ≡ true → Ends is_sign digits
digits_no_sign [] h = tt
digits_no_sign (byte ∷ bytes) h = digit_no_sign byte (and_parts (is_digit byte) (list_all is_digit bytes) h).0

-- the exponent that is written is found
exponent_of-text : (x : Option Exponent) → is_exponent x ≡ true → exponent_of (exponent_text x) ≡ Some x
exponent_of-text None h = refl
exponent_of-text (Some x) h =
    let both = and_parts (is_exponent_letter x.letter) (is_digits x.digits) h in
    let ends = digits_no_sign x.digits both.1 in
    rw (sign_of-text x.sign x.digits ends, after_sign-text x.sign x.digits ends, both.0, both.1) refl

-- an exponent that is found is written
exponent_is : (text : List ℕ) (x : Option Exponent) → exponent_of text ≡ Some x → (exponent_text x ≡ text) × (is_exponent x ≡ true)
exponent_is [] x h = subst (λ y. (exponent_text y ≡ []) × (is_exponent y ≡ true)) (same_Some None x h) (refl, refl)
exponent_is (letter ∷ text) x h =
    let found : Option Exponent = Some (record { letter = letter; sign = sign_of text; digits = after_sign text }) in
    either (is_exponent_letter letter && is_digits (after_sign text))
    (λ t. subst (λ y. (exponent_text y ≡ letter ∷ text) × (is_exponent y ≡ true)) (same_Some found x (sym (ap (λ b. cond b (Some found) None) t) ∙ h)) (ap (λ rest. letter ∷ rest) (sign-whole text), t))
    (λ f. absurd (none-some x (sym (ap (λ b. cond b (Some found) None) f) ∙ h)))

-- ---- the fraction

-- the fraction that is written is found
fraction_of-text : (f : Option (List ℕ)) (x : Option Exponent) → list_all is_digit (fraction_digits f) ≡ true → is_exponent x ≡ true → fraction_of (fraction_text f ++ exponent_text x) ≡ f
fraction_of-text None None all h = refl
fraction_of-text None (Some x) all h = ap (λ t. cond t (Some (front_digits (sign_text x.sign ++ x.digits))) None) (exponent_text-ends (λ b. eqb b 46) refl refl refl refl (Some x) h)
fraction_of-text (Some digits) x all h = ap Some (front_digits-append digits (exponent_text x) all (exponent_text-ends is_digit refl refl refl refl x h))

-- the text behind it is found
after_fraction-text : (f : Option (List ℕ)) (x : Option Exponent) → list_all is_digit (fraction_digits f) ≡ true → is_exponent x ≡ true → after_fraction (fraction_text f ++ exponent_text x) ≡ exponent_text x
after_fraction-text None None all h = refl
after_fraction-text None (Some x) all h = ap (λ t. cond t (after_digits (sign_text x.sign ++ x.digits)) (exponent_text (Some x))) (exponent_text-ends (λ b. eqb b 46) refl refl refl refl (Some x) h)
after_fraction-text (Some digits) x all h = after_digits-append digits (exponent_text x) all (exponent_text-ends is_digit refl refl refl refl x h)

-- a text is its fraction and the rest
fraction-whole : (text : List ℕ) → fraction_text (fraction_of text) ++ after_fraction text ≡ text
fraction-whole [] = refl
fraction-whole (byte ∷ bytes) =
    either (eqb byte 46)
    (λ t. subst (λ b. fraction_text (fraction_of (b ∷ bytes)) ++ after_fraction (b ∷ bytes) ≡ b ∷ bytes) (sym (eqb-true byte 46 t)) (ap (λ rest. 46 ∷ rest) (take-append-drop (prefix_len is_digit bytes) bytes)))
    (λ f. rw f refl)

-- no digit stands behind the whole digits
fraction_text-ends : (f : Option (List ℕ)) (x : Option Exponent) → is_exponent x ≡ true → Ends is_digit (fraction_text f ++ exponent_text x)
fraction_text-ends None x h = exponent_text-ends is_digit refl refl refl refl x h
fraction_text-ends (Some digits) x h = refl

-- ---- the whole text

-- no sign stands behind the sign
number-no_sign : (whole : List ℕ) (f : Option (List ℕ)) (rest : List ℕ) → is_digits (whole ++ fraction_digits f) ≡ true → Ends is_sign (whole ++ (fraction_text f ++ rest))
number-no_sign [] None rest h = absurd (true≢false (sym h))
number-no_sign [] (Some digits) rest h = refl
number-no_sign (byte ∷ bytes) f rest h = digit_no_sign byte (and_parts (is_digit byte) (list_all is_digit (bytes ++ fraction_digits f)) h).0

-- a decimal of found parts
decimal_with-same : (s t : Sign) (v w : List ℕ) (f g : Option (List ℕ)) (x : Option (Option Exponent)) (y : Option Exponent) → s ≡ t → v ≡ w → f ≡ g → x ≡ Some y → is_digits (w ++ fraction_digits g) ≡ true
    → decimal_with s v f x ≡ Some (record { sign = t; whole = w; fraction = g; exponent = y })
unfolding decimal_with
decimal_with-same s t v w f g x y p q r e h =
    rw (p, q, r, e, h) refl

-- the parts of a decimal are found in its text
pub found_in_text : (d : Decimal) → is_digits (digits_of d) ≡ true → is_exponent d.exponent ≡ true → decimal_of (decimal_text d) ≡ Some d
unfolding decimal_of
found_in_text d digits exponent =
    let all = and_parts _ _ (sym (list_all-append is_digit d.whole (fraction_digits d.fraction)) ∙ is_digits-all (digits_of d) digits) in
    let behind : List ℕ = fraction_text d.fraction ++ exponent_text d.exponent in
    let number : List ℕ = d.whole ++ behind in
    let no_sign = number-no_sign d.whole d.fraction (exponent_text d.exponent) digits in
    let ends = fraction_text-ends d.fraction d.exponent exponent in
    let unsigned_is : after_sign (decimal_text d) ≡ number = after_sign-text d.sign number no_sign in
    let rest_is : after_digits (after_sign (decimal_text d)) ≡ behind = ap after_digits unsigned_is ∙ after_digits-append d.whole behind all.0 ends in
    decimal_with-same (sign_of (decimal_text d)) d.sign (front_digits (after_sign (decimal_text d))) d.whole (fraction_of (after_digits (after_sign (decimal_text d)))) d.fraction (exponent_of (after_fraction (after_digits (after_sign (decimal_text d))))) d.exponent
    (sign_of-text d.sign number no_sign)
    (ap front_digits unsigned_is ∙ front_digits-append d.whole behind all.0 ends)
    (ap fraction_of rest_is ∙ fraction_of-text d.fraction d.exponent all.1 exponent)
    (ap (λ t. exponent_of (after_fraction t)) rest_is ∙ ap exponent_of (after_fraction-text d.fraction d.exponent all.1 exponent) ∙ exponent_of-text d.exponent exponent)
    digits

-- what is made of parts, and when
record IsMade (s : Sign) (w : List ℕ) (f : Option (List ℕ)) (x : Option (Option Exponent)) (d : Decimal) : Type 0 where
  exponent : x ≡ Some d.exponent
  parts : (s ≡ d.sign) × (w ≡ d.whole) × (f ≡ d.fraction)
  digits : is_digits (w ++ fraction_digits f) ≡ true

-- a decimal that is found is of those parts
decimal_with-made : (s : Sign) (w : List ℕ) (f : Option (List ℕ)) (x : Option (Option Exponent)) (d : Decimal) → decimal_with s w f x ≡ Some d → IsMade s w f x d
unfolding decimal_with
decimal_with-made s w f None d h = absurd (none-some d h)
decimal_with-made s w f (Some x) d h =
    let made : Decimal = record { sign = s; whole = w; fraction = f; exponent = x } in
    either (is_digits (w ++ fraction_digits f))
    (λ t. let same : made ≡ d = same_Some made d (sym (ap (λ b. cond b (Some made) None) t) ∙ h) in
    record { exponent = ap (λ e. Some e.exponent) same; parts = (ap (λ e. e.sign) same, ap (λ e. e.whole) same, ap (λ e. e.fraction) same); digits = t })
    (λ no. absurd (none-some d (sym (ap (λ b. cond b (Some made) None) no) ∙ h)))

-- a decimal that is found spells the text
pub found_spells : (text : List ℕ) (d : Decimal) → decimal_of text ≡ Some d → Spells d text
unfolding decimal_of
found_spells text d h =
    let number = after_sign text in
    let rest = after_digits number in
    let made = decimal_with-made (sign_of text) (front_digits number) (fraction_of rest) (exponent_of (after_fraction rest)) d h in
    let exponent = exponent_is (after_fraction rest) d.exponent made.exponent in
    record {
      parts =
          ap (λ s. sign_text s ++ (d.whole ++ (fraction_text d.fraction ++ exponent_text d.exponent))) (sym made.parts.0)
          ∙ ap (λ w. sign_text (sign_of text) ++ (w ++ (fraction_text d.fraction ++ exponent_text d.exponent))) (sym made.parts.1)
          ∙ ap (λ f. sign_text (sign_of text) ++ (front_digits number ++ (fraction_text f ++ exponent_text d.exponent))) (sym made.parts.2)
          ∙ ap (λ t. sign_text (sign_of text) ++ (front_digits number ++ (fraction_text (fraction_of rest) ++ t))) exponent.0
          ∙ ap (λ t. sign_text (sign_of text) ++ (front_digits number ++ t)) (fraction-whole rest)
          ∙ ap (λ t. sign_text (sign_of text) ++ t) (take-append-drop (prefix_len is_digit number) number)
          ∙ sign-whole text;
      digits =
          ap (λ w. is_digits (w ++ fraction_digits d.fraction)) (sym made.parts.1) ∙ ap (λ f. is_digits (front_digits number ++ fraction_digits f)) (sym made.parts.2) ∙ made.digits;
      exponent = exponent.1;
    }

-- the decimal that a text spells is found
pub spells_found : (text : List ℕ) (d : Decimal) → Spells d text → decimal_of text ≡ Some d
spells_found text d s = subst (λ t. decimal_of t ≡ Some d) s.parts (found_in_text d s.digits s.exponent)

-- a text spells one decimal at most
pub one_reading : (text : List ℕ) (d e : Decimal) → Spells d text → Spells e text → d ≡ e
one_reading text d e s t = same_Some d e (sym (spells_found text d s) ∙ spells_found text e t)
