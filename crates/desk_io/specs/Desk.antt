-- What the calls of a desk do to its inputs, its outputs and its report, and what a failure is.
use Rattle.std.specs.Prelude.{◌≡◌, ◌≢◌, ◌⊎◌, ℕ, ◌-◌, ◌^◌, ◌<◌, ◌≤◌, List, [], ◌++◌, length, take, Option, Some, Result, Ok, Err}
use Rattle.std.specs.Option.{option_map}
use Rattle.desk_io.specs.declared.desk.Call.{Call}
use Rattle.desk_io.specs.declared.desk.DeskStop.{DeskStop}
use Rattle.desk_io.specs.declared.desk.DeskStop.TheVariants.{Failed, NoMemory}

-- a call that failed, and the bytes of the name that it was given; a say has the empty name
pub record Fault : Type 0 where
  pub call : Call
  pub name : List ℕ

-- the failure of this call at this name
abbrev pub fault : Call → List ℕ → Fault
fault call name = record { call = call; name = name }

-- n bytes at the front of the buffer are the first n of what was left, and none come only at the end of the input
-- or into an empty buffer
pub record TakesFrom (buffer : List ℕ) (n : ℕ) (left : List ℕ) : Type 0 where
  pub front : take n buffer ≡ take n left
  pub within : n ≤ length left
  pub ends : n ≡ 0 → 0 < length buffer → left ≡ []

-- with these bytes behind what is there
abbrev pub appended : List ℕ → List ℕ → List ℕ
appended bytes before = before ++ bytes

-- some first bytes of these stand behind what was there
abbrev pub AppendsSome : List ℕ → Option (List ℕ) → Option (List ℕ) → Type 0
AppendsSome bytes before after = (n : ℕ) × (after ≡ option_map (appended (take n bytes)) before)

-- the same at each name
abbrev pub Same : {T : Type 0} → (List ℕ → T) → (List ℕ → T) → Type 0
Same before after = (name : List ℕ) → after name ≡ before name

-- the same at each name but this
abbrev pub SameButAt : {T : Type 0} → List ℕ → (List ℕ → T) → (List ℕ → T) → Type 0
SameButAt changed before after = (name : List ℕ) → name ≢ changed → after name ≡ before name

-- the count of faults is greater than before, or stands at the greatest number that it can be
abbrev pub Rose : ℕ → ℕ → Type 0
Rose before now = (before < now) ⊎ (now ≡ 2 ^ 64 - 1)

-- the call did not answer `Failed`
abbrev pub IsKept : Result (Unit {0}) DeskStop → Type 0
IsKept (Ok _) = Unit {0}
IsKept (Err NoMemory) = Unit {0}
IsKept (Err Failed) = ⊥

-- the desk failed only where its count of faults rose, and its last fault is then this one; else both are as before
pub record HasCause (here : Fault) (failed kept : Type 0) (before now : ℕ) (last_before last_now : Option Fault) : Type 0 where
  pub later : before ≤ now
  pub limit : now ≤ 2 ^ 64 - 1
  pub rose : failed → Rose before now
  pub place : failed → last_now ≡ Some here
  pub same_count : kept → now ≡ before
  pub same_place : kept → last_now ≡ last_before
