-- Bytes that are appended piece by piece, for a run of puts or says.
use Rattle.std.proofs.Common.{◌≡◌, ◌≤◌, ◌+◌, ℕ, List, ◌++◌, length, take, Option, Some, None, append_assoc, min, arith, sym, ◌∙◌, ap}
use Rattle.std.proofs.Math.Seq.{take-append-add, take-length}
use Rattle.std.proofs.lemmas.List.{take-append-le, take_min, append-nil}
use Rattle.std.specs.Option.{option_map}
use Rattle.desk_io.specs.Desk.{appended, AppendsSome}

-- two pieces are appended as one
pub appended_twice : (first second : List ℕ) (before between after : Option (List ℕ)) → between ≡ option_map (appended first) before
    → after ≡ option_map (appended second) between → after ≡ option_map (appended (first ++ second)) before
appended_twice first second (Some bytes) between after one two =
    two ∙ ap (option_map (appended second)) one ∙ ap (λ (l : List ℕ). Some l) (append_assoc bytes first second)
appended_twice first second None between after one two = two ∙ ap (option_map (appended second)) one

-- all of a piece is some of it
pub appends_all : (bytes : List ℕ) (before after : Option (List ℕ)) → after ≡ option_map (appended bytes) before → AppendsSome bytes before after
appends_all bytes before after all = (length bytes, all ∙ ap (λ (l : List ℕ). option_map (appended l) before) (sym (take-length bytes)))

-- a piece, and then some of another, is some of both
pub appends_after : (first second : List ℕ) (before between after : Option (List ℕ)) → between ≡ option_map (appended first) before
    → AppendsSome second between after → AppendsSome (first ++ second) before after
appends_after first second before between after one some = (
  length first + some.0,
  appended_twice first (take some.0 second) before between after one some.1
      ∙ ap (λ (l : List ℕ). option_map (appended l) before) (sym (take-append-add first second some.0)),
)

-- some of a piece is some of it with more behind
pub appends_front : (first second : List ℕ) (before after : Option (List ℕ)) → AppendsSome first before after → AppendsSome (first ++ second) before after
appends_front first second before after some =
    let n = min some.0 (length first) in
    let short : n ≤ length first = omega arith in (
      n,
      some.1 ∙ ap (λ (l : List ℕ). option_map (appended l) before) (sym (take-append-le n first second short ∙ take_min some.0 first)),
    )

-- nothing is some of it too
pub appends_none : (bytes : List ℕ) (before after : Option (List ℕ)) → after ≡ before → AppendsSome bytes before after
appends_none bytes (Some b) after same = (0, same ∙ ap (λ (l : List ℕ). Some l) (sym (append-nil b)))
appends_none bytes None after same = (0, same)
