-- The kinds of rows in fixed and free MPS (IBM's MPSX and its successors) by their letters, and rows by kind and name.
use Rattle.std.specs.Prelude.{◌≡◌, ℕ, ◌≤◌, List, [], ◌∷◌, length, find, position, Option, codes, bytes_eq}
use Rattle.mps_model.specs.declared.tables.row_kind.RowKind.{RowKind}
use Rattle.mps_model.specs.declared.tables.row_kind.RowKind.TheVariants.{Free, Equal, AtMost, AtLeast}
use Rattle.mps_model.specs.Tables.{RowLine}
use Rattle.mps_model.specs.Sides.{is_free_row, sided_rows}

abbrev pub letter_of : RowKind → List ℕ
letter_of Free = codes "N"
letter_of Equal = codes "E"
letter_of AtMost = codes "L"
letter_of AtLeast = codes "G"

abbrev pub row_kinds : List RowKind
row_kinds = Free ∷ Equal ∷ AtMost ∷ AtLeast ∷ []

-- the kind with these letters
abbrev pub row_kind_of : List ℕ → Option RowKind
row_kind_of letters = find (λ kind. bytes_eq letters (letter_of kind)) row_kinds

-- a row by its kind and its name
abbrev pub row_of : RowKind → List ℕ → RowLine
row_of kind name = record { kind = letter_of kind; name = name }

-- the rows with these kinds and these names
abbrev pub rows_of : List RowKind → List (List ℕ) → List RowLine
rows_of [] names = []
rows_of (kind ∷ kinds) [] = []
rows_of (kind ∷ kinds) (name ∷ names) = row_of kind name ∷ rows_of kinds names

-- each row has a kind and a name, at most 256 of them have sides, and the first free one is known
pub record IsRowTable (kinds : List RowKind) (names : List (List ℕ)) (objective : Option ℕ) (sided : ℕ) : Type 0 where
  pub paired : length kinds ≡ length names
  pub first_free : objective ≡ position is_free_row (rows_of kinds names)
  pub counted : sided ≡ length (sided_rows (rows_of kinds names))
  pub few : sided ≤ 256
