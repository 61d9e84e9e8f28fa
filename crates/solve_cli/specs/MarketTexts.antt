-- The market that a command makes: its text, what the text states, and how the report on it is summed up.
use Rattle.std.specs.Prelude.{◌≡◌, ℕ, ◌≤◌, List, [], ◌∷◌, length, None, Ok}
use Rattle.int_model.specs.declared.model.Column.{Column}
use Rattle.int_model.specs.declared.model.Model.{Model}
use Rattle.mps_fields.specs.Lines.{most_bytes}
use Rattle.mps_model.specs.declared.layout.Layout.TheVariants.{Free}
use Rattle.mps_model.specs.Meaning.{meaning}
use Rattle.mps_write.specs.Markets.{market_model}
use Rattle.mps_write.specs.CanonicalText.{canonical_text}
use Rattle.solve_cli.specs.Words.{Task, solving, checking, making}
use Rattle.solve_cli.specs.Report.{market_line}

-- the canonical text of the market with so many rows and columns from this start of the stream
unfoldable pub market_text : ℕ → ℕ → ℕ → List ℕ
market_text rows columns start = canonical_text (market_model rows columns start)

-- what a command puts into MODEL
abbrev pub made_text : Task → List ℕ
made_text (solving nodes) = []
made_text checking = []
made_text (making rows columns start) = market_text rows columns start

-- the text of the market, which states the market
pub record StatesMarket (rows columns start : ℕ) (text : List ℕ) : Type 0 where
  pub canonical : text ≡ market_text rows columns start
  pub short : length text ≤ most_bytes
  pub states : meaning Free None text ≡ Ok (market_model rows columns start)

-- where a market is made, the model is the market
abbrev pub IsMadeModel : Task → Model → Type 0
IsMadeModel (solving nodes) model = Unit {0}
IsMadeModel checking model = Unit {0}
IsMadeModel (making rows columns start) model = model ≡ market_model rows columns start

-- the columns whose values are printed: none where a market is summed up
abbrev pub shown_columns : Task → Model → List Column
shown_columns (solving nodes) model = model.columns
shown_columns checking model = model.columns
shown_columns (making rows columns start) model = []

-- the lines of a report, where a market is summed up behind the line of its numbers
abbrev pub summed : Task → List (List ℕ) → List (List ℕ)
summed (solving nodes) lines = lines
summed checking lines = lines
summed (making rows columns start) lines = market_line rows columns start ∷ lines
