-- Market split models from three numbers, in the manner of Cornuejols and Dawande: m equations over n columns from 0 to 1,
-- whose factors are drawn from 0 to 99 and whose right side is half the sum of the factors, rounded down.
use Rattle.std.specs.Prelude.{ℕ, zero, suc, ◌+◌, ◌*◌, ◌/◌, ◌%◌, ◌==◌, if◌then◌else◌, List, [], ◌∷◌, map, filter_map, sum, pos, Option, Some, None, decimal}
use Rattle.std.specs.List.{range_with_len}
use Rattle.exact_math.specs.Rational.{whole}
use Rattle.int_model.specs.declared.model.Item.{Item}
use Rattle.int_model.specs.declared.model.Column.{Column}
use Rattle.int_model.specs.declared.model.Row.{Row}
use Rattle.int_model.specs.declared.model.Model.{Model}

-- the next number of the stream: the minimal standard generator of Park and Miller with the multiplier 48271
abbrev pub next_number : ℕ → ℕ
next_number number = 48271 * number % 2147483647

-- the number behind k steps from the start
unfoldable pub stream_at : ℕ → ℕ → ℕ
stream_at start zero = start
stream_at start (suc k) = next_number (stream_at start k)

-- The factors are taken from the stream row by row, and in a row column by column: the last two decimal digits of each
-- number behind the start.
abbrev pub market_factor : (start columns row column : ℕ) → ℕ
market_factor start columns row column = stream_at start (row * columns + column + 1) % 100

abbrev pub market_factors : (start columns row : ℕ) → List ℕ
market_factors start columns row = map (market_factor start columns row) (range_with_len 0 columns)

-- a factor other than 0 makes a term
abbrev pub market_item : ℕ → ℕ → Option Item
market_item factor column = if factor == 0 then None else Some (record { column = column; factor = whole (pos factor) })

-- a letter and a number, from 1
abbrev pub numbered_name : ℕ → ℕ → List ℕ
numbered_name letter place = letter ∷ decimal (place + 1)

-- the equation of this number, from 0; `R` is the byte 82
abbrev pub market_row : (start columns row : ℕ) → Row
market_row start columns row =
    let half = sum (market_factors start columns row) / 2 in
    record {
      name = numbered_name 82 row;
      lo = Some (whole (pos half));
      hi = Some (whole (pos half));
      items = filter_map (λ column. market_item (market_factor start columns row column) column) (range_with_len 0 columns);
    }

-- the column of this number, from 0; `X` is the byte 88
abbrev pub market_column : ℕ → Column
market_column column = record { name = numbered_name 88 column; lo = whole (pos 0); hi = whole (pos 1) }

-- the market with so many rows and columns from this start of the stream; the objective is 0
abbrev pub market_model : (rows columns start : ℕ) → Model
market_model rows columns start = record {
  columns = map market_column (range_with_len 0 columns);
  rows = map (market_row start columns) (range_with_len 0 rows);
  objective = [];
  constant = whole (pos 0);
}
