-- The six fields of a data line. Fixed MPS (IBM's MPSX) gives each field its columns; free MPS (its successors) has the
-- same fields in the same order, and their number tells which of them are there. So each line of either layout is seen as
-- six fields, some of them absent; a line of free form whose number of fields does not fit its section has none at all.
use Rattle.std.specs.Prelude.{ℕ, List, [], ◌∷◌, map, slice_get, Option, Some, None, option_map}
use Rattle.std.specs.Option.{option_flatten}
use Rattle.mps_fields.specs.FixedFields.{fixed_fields}
use Rattle.mps_model.specs.declared.layout.Layout.{Layout}
use Rattle.mps_model.specs.declared.layout.Layout.TheVariants.{Free, Fixed}
use Rattle.mps_model.specs.Sections.{free_texts}

-- six fields by their places, or none at all
abbrev pub Fields : Type 0
Fields = List (Option (List ℕ))

abbrev pub six : (first second third fourth fifth sixth : Option (List ℕ)) → Fields
six first second third fourth fifth sixth = first ∷ second ∷ third ∷ fourth ∷ fifth ∷ sixth ∷ []

-- fields 1 and 2 alone
abbrev pub row_places : List (List ℕ) → Fields
row_places (kind ∷ name ∷ []) = six (Some kind) (Some name) None None None None
row_places fields = []

-- one or two pairs of name and number, behind this second field
abbrev pub pair_places : Option (List ℕ) → List (List ℕ) → Fields
pair_places second (name ∷ number ∷ []) = six None second (Some name) (Some number) None None
pair_places second (name ∷ number ∷ other ∷ size ∷ []) = six None second (Some name) (Some number) (Some other) (Some size)
pair_places second fields = []

-- a column and its pairs
abbrev pub column_places : List (List ℕ) → Fields
column_places [] = []
column_places (column ∷ fields) = pair_places (Some column) fields

-- 2 or 4 fields have no set name
abbrev pub set_places : List (List ℕ) → Fields
set_places [] = []
set_places (name ∷ number ∷ []) = pair_places None (name ∷ number ∷ [])
set_places (name ∷ number ∷ other ∷ size ∷ []) = pair_places None (name ∷ number ∷ other ∷ size ∷ [])
set_places (set ∷ fields) = pair_places (Some set) fields

-- a bound whose kind takes a value
abbrev pub value_places : List (List ℕ) → Fields
value_places (kind ∷ column ∷ value ∷ []) = six (Some kind) None (Some column) (Some value) None None
value_places (kind ∷ set ∷ column ∷ value ∷ []) = six (Some kind) (Some set) (Some column) (Some value) None None
value_places fields = []

-- a bound whose kind takes none: a value behind set name and column is not read
abbrev pub bare_places : List (List ℕ) → Fields
bare_places (kind ∷ column ∷ []) = six (Some kind) None (Some column) None None None
bare_places (kind ∷ set ∷ column ∷ []) = six (Some kind) (Some set) (Some column) None None None
bare_places (kind ∷ set ∷ column ∷ value ∷ []) = six (Some kind) (Some set) (Some column) (Some value) None None
bare_places fields = []

-- a marker line: a name, 'MARKER', and its word in field 5
abbrev pub marker_places : List (List ℕ) → Fields
marker_places (name ∷ mark ∷ word ∷ []) = six None (Some name) (Some mark) None (Some word) None
marker_places fields = []

-- the six fields of a line in fixed form
abbrev pub fixed_texts : List ℕ → Fields
fixed_texts line = map (option_map (λ field. field.text)) (fixed_fields line)

-- the fields of a line by its columns, or by the rule of its section
abbrev pub places : Layout → (List (List ℕ) → Fields) → List ℕ → Fields
places Free rule line = rule (free_texts line)
places Fixed rule line = fixed_texts line

-- the field that tells a bound's kind: the first in both layouts
abbrev pub kind_text : Layout → List ℕ → Option (List ℕ)
kind_text Free line = slice_get (free_texts line) 0
kind_text Fixed line = option_flatten (slice_get (fixed_texts line) 0)

-- the field that tells a marker: the second in free form, field 3 in fixed form
abbrev pub mark_text : Layout → List ℕ → Option (List ℕ)
mark_text Free line = slice_get (free_texts line) 1
mark_text Fixed line = option_flatten (slice_get (fixed_texts line) 2)
