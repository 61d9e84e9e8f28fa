-- What a channel of files remembers, and what its writers got.
use Rattle.std.specs.Prelude.{◌≡◌, ℕ, ◌<◌, List, slice_index_or, Option, Some}
use Rattle.std.specs.Io.KnownBytes.{Appends}
use Rattle.desk_io.specs.declared.channel.Place.{Place}
use Rattle.desk_io.specs.Names.{text_of}

-- this place holds that name
abbrev pub HoldsName : List Place → ℕ → List ℕ → Type 0
HoldsName places place name = (other : Place) → text_of (slice_index_or places place other).name ≡ name

-- each of the first so many places holds the name that it held before
abbrev pub KeepsNames : ℕ → List Place → List Place → Type 0
KeepsNames used before after = (place : ℕ) (other : Place) → place < used → text_of (slice_index_or after place other).name ≡ text_of (slice_index_or before place other).name

-- the open file is one that got all of these bytes, from some state of it on
abbrev pub GotAll : {F : Type 0} → (F → Option (List ℕ)) → List ℕ → Option F → Type 0
GotAll {F} contents bytes file = (before : F) × (now : F) × (file ≡ Some now) × Appends (contents before) (contents now) bytes
