-- What becomes of bytes that are put into an output.
use Rattle.std.specs.Prelude.{◌≡◌, ℕ, ◌≤◌, List, Option, Some, option_map, Result, OnOk, OnErr, IsErrOf}
use Rattle.desk_io.specs.Desk.{fault, appended, AppendsSome, Same, SameButAt, Rose, IsKept}
use Rattle.desk_io.specs.declared.desk.Call.TheVariants.{Put}
use Rattle.desk_io.specs.declared.desk.DeskStop.{DeskStop}
use Rattle.desk_io.specs.declared.desk.DeskStop.TheVariants.{Failed}
use Rattle.solve_cli.specs.Answer.{Faults}

-- what a desk tells
pub record Told : Type 0 where
  pub left : List ℕ → Option (List ℕ)
  pub written : List ℕ → Option (List ℕ)
  pub said : Option (List ℕ)
  pub faults : Faults

abbrev pub told_by : (List ℕ → Option (List ℕ)) → (List ℕ → Option (List ℕ)) → Option (List ℕ) → Faults → Told
told_by left written said faults = record { left = left; written = written; said = said; faults = faults }

-- The bytes stand in the output of this name behind what was there, or after an error some first bytes of them. Nothing else has
-- changed, and the desk failed only in a put there.
pub record IsPut (name bytes : List ℕ) (result : Result (Unit {0}) DeskStop) (old new : Told) : Type 0 where
  pub ok : OnOk result (new.written name ≡ option_map (appended bytes) (old.written name))
  pub err : OnErr result (AppendsSome bytes (old.written name) (new.written name))
  pub others : SameButAt name old.written new.written
  pub inputs : Same old.left new.left
  pub said : new.said ≡ old.said
  pub later : old.faults.count ≤ new.faults.count
  pub rose : IsErrOf result Failed → Rose old.faults.count new.faults.count
  pub place : IsErrOf result Failed → new.faults.last ≡ Some (fault Put name)
  pub kept : IsKept result → new.faults ≡ old.faults
