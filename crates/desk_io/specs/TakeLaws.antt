-- An input that is taken piece by piece, for a loop over takes.
use Rattle.std.proofs.Common.{◌≡◌, ◌<◌, ℕ, List, [], ◌++◌, ◌∷◌, min, length, take, drop, Option, Some, arith, append_assoc, sym, ◌∙◌, ap, refl, take-append-drop}
use Rattle.std.proofs.lemmas.List.{append-nil}
use Rattle.std.specs.Option.{option_map, ForSome}
use Rattle.desk_io.specs.Desk.{TakesFrom}

-- the input is what was taken, and then what is left
pub record IsTaken (input taken : List ℕ) (left : Option (List ℕ)) : Type 0 where
  pub rest : List ℕ
  pub split : input ≡ taken ++ rest
  pub is_left : left ≡ Some rest

-- after one take more
pub taken_more : (input taken buffer : List ℕ) (n : ℕ) (before after : Option (List ℕ)) → IsTaken input taken before
    → ForSome before (TakesFrom buffer n) → after ≡ option_map (drop n) before → IsTaken input (taken ++ take n buffer) after
taken_more input taken buffer n before after so_far takes gone =
    let front : take n buffer ≡ take n so_far.rest = (takes so_far.rest so_far.is_left).front in
    record {
      rest = drop n so_far.rest;
      split = so_far.split
          ∙ ap (λ (l : List ℕ). taken ++ l) (sym (take-append-drop n so_far.rest))
          ∙ sym (append_assoc taken (take n so_far.rest) (drop n so_far.rest))
          ∙ ap (λ (l : List ℕ). (taken ++ l) ++ drop n so_far.rest) (sym front);
      is_left = gone ∙ ap (option_map (drop n)) so_far.is_left;
    }

-- where a take into a buffer with room gave nothing, all is taken
pub taken_all : (input taken buffer : List ℕ) (left : Option (List ℕ)) → IsTaken input taken left
    → 0 < length buffer → ForSome left (TakesFrom buffer 0) → taken ≡ input
taken_all input taken buffer left so_far room takes =
    let none : so_far.rest ≡ [] = (takes so_far.rest so_far.is_left).ends refl room in
    sym (so_far.split ∙ ap (λ (l : List ℕ). taken ++ l) none ∙ append-nil taken)

-- a take of as many bytes as there are and as there is room for
pub takes_least : (buffer left : List ℕ) (n : ℕ) → n ≡ min (length buffer) (length left) → take n buffer ≡ take n left → TakesFrom buffer n left
takes_least buffer [] n least front = record { front = front; within = omega (arith, least); ends = λ _ _. refl }
takes_least buffer (byte ∷ left) n least front = record { front = front; within = omega (arith, least); ends = λ none room. absurd (omega (arith, least, none, room)) }
