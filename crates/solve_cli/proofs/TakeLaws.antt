-- What was taken at the end of a loop of takes under a limit.
use Rattle.std.proofs.Common.{◌≡◌, ℕ, ◌≤◌, ◌⊎◌, ⊎_elim, List, [], ◌++◌, length, take, drop, Option, Some, None, refl, sym, ap, ◌∙◌, arith}
use Rattle.std.specs.Prelude.{IfSome, option_map}
use Rattle.std.proofs.lemmas.List.{append-nil, append_cancel_left, take_all, drop_all, take_at, drop_at, take-append-le}
use Rattle.desk_io.specs.TakeLaws.{IsTaken}

-- the bytes that a slice of a longer buffer took
pub taken_front : (text new buffer behind : List ℕ) (n : ℕ) → n ≤ length buffer → new ≡ text ++ take n (buffer ++ behind) → new ≡ text ++ take n buffer
taken_front text new buffer behind n within grown = grown ∙ ap (λ t. text ++ t) (take-append-le n buffer behind within)

module _ (limit : ℕ) (text : List ℕ) (before now : Option (List ℕ)) (small : length text ≤ limit)
    (taken : (bytes : List ℕ) → before ≡ Some bytes → IsTaken bytes text now) where
  -- all bytes are taken, or as many as the limit allows
  abbrev IsOver : List ℕ → Type 0
  IsOver bytes = (bytes ≡ text) ⊎ (limit ≤ length text)

  front : (bytes : List ℕ) → before ≡ Some bytes → IsOver bytes → text ≡ take limit bytes
  front bytes told over =
      let split = (taken bytes told).split in
      ⊎_elim (λ (all : bytes ≡ text). sym (ap (take limit) all ∙ take_all limit text small))
      (λ (full : limit ≤ length text).
      let exact : length text ≡ limit = omega arith in
      sym (ap (take limit) split ∙ take_at text (taken bytes told).rest limit exact))
      over

  behind : (bytes : List ℕ) → before ≡ Some bytes → IsOver bytes → now ≡ Some (drop limit bytes)
  behind bytes told over =
      let split = (taken bytes told).split in
      (taken bytes told).is_left
      ∙ ⊎_elim
      (λ (all : bytes ≡ text).
      let nothing : (taken bytes told).rest ≡ [] = append_cancel_left text (taken bytes told).rest [] (sym split ∙ all ∙ sym (append-nil text)) in
      ap Some (nothing ∙ sym (ap (drop limit) all ∙ drop_all limit text small)))
      (λ (full : limit ≤ length text).
      let exact : length text ≡ limit = omega arith in
      ap Some (sym (ap (drop limit) split ∙ drop_at text (taken bytes told).rest limit exact)))
      over

  pub is_front : ((bytes : List ℕ) → before ≡ Some bytes → IsOver bytes) → IfSome before (λ left. text ≡ take limit left)
  is_front over = by before refl
    where
      by : (told : Option (List ℕ)) → before ≡ told → IfSome told (λ left. text ≡ take limit left)
      by None e = tt
      by (Some bytes) e = front bytes e (over bytes e)

  pub is_behind : (before ≡ None → now ≡ None) → ((bytes : List ℕ) → before ≡ Some bytes → IsOver bytes) → now ≡ option_map (drop limit) before
  is_behind untold over = by before refl
    where
      by : (told : Option (List ℕ)) → before ≡ told → now ≡ option_map (drop limit) before
      by None e = untold e ∙ sym (ap (option_map (drop limit)) e)
      by (Some bytes) e = behind bytes e (over bytes e) ∙ sym (ap (option_map (drop limit)) e)
