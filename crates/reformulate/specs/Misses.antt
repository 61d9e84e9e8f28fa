-- Equalities of which one has a gap, in which legal framing ends.
use Rattle.std.specs.Prelude.{ℕ, Bool, ◌≡◌, List, length, ◌++◌, ◌∷◌, All}
use Rattle.reformulate.specs.Charts.{Chart}
use Rattle.reformulate.specs.Framing.{IsMissed, Reach}
use Rattle.reformulate.specs.GapTimes.{all_times, IsMadeBy, IsSignOf}
use Rattle.reformulate.specs.declared.equality.Equality.{Equality}
use Rattle.reformulate.specs.declared.gap.Gap.{Gap}
use Rattle.reformulate.specs.declared.miss.Miss.{Miss}

-- the equalities before `at` were framed, and this one has a gap in their frame
pub record MissesAt (n : ℕ) (equalities : List Equality) (at : ℕ) (miss : Miss) : Type 0 where
  pub sizes : All (λ (equality : Equality). length equality.form ≡ n) equalities
  pub first : List Equality
  pub equality : Equality
  pub later : List Equality
  pub listed : equalities ≡ first ++ equality ∷ later
  pub place : length first ≡ at
  pub chart : Chart
  pub reach : Reach n first chart
  pub missed : IsMissed equality chart miss

-- Legal framing of the equalities ends in this gap: those before one of them were framed, this one is missed in their frame, and the times that lifting gives
-- make the gap.
pub record EndsInGap (n : ℕ) (equalities : List Equality) (gap : Gap) : Type 0 where
  pub at : ℕ
  pub miss : Miss
  pub misses : MissesAt n equalities at miss
  pub negative : Bool
  pub sign : IsSignOf miss negative
  pub made : IsMadeBy n equalities at miss (all_times equalities at miss negative) gap
