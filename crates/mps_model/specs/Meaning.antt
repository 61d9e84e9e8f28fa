-- What a model text means: its first fault, or else the model that it states. The faults and their order are this
-- project's profile of fixed and free MPS (IBM's MPSX and its successors).
use Rattle.std.specs.Prelude.{◌≡◌, ◌⊎◌, is_some, ℕ, ◌+◌, Bool, not, ◌&&◌, if◌then◌else◌, List, [], ◌∷◌, ◌++◌, take, length, filter_map, slice_get, ℤ, Option, Some, None, is_none, Result, Ok, Err, option_map, true, false}
use Rattle.std.specs.Option.{option_map_or, option_or}
use Rattle.std.specs.List.{list_any, list_all, position_or_len}
use Rattle.int_model.specs.declared.model.Model.{Model}
use Rattle.mps_fields.specs.Lines.{Line}
use Rattle.mps_model.specs.declared.layout.Layout.{Layout}
use Rattle.mps_model.specs.declared.fault.FaultKind.{FaultKind}
use Rattle.mps_model.specs.declared.fault.FaultKind.TheVariants as faults
use Rattle.mps_model.specs.declared.fault.TextFault.{TextFault}
use Rattle.mps_model.specs.declared.lines.section.Section.TheVariants.{Endata as ENDATA}
use Rattle.mps_model.specs.Sections.{begins, text_lines}
use Rattle.mps_model.specs.Tables.{Tables, tables_of}
use Rattle.mps_model.specs.Sides.{is_negative}
use Rattle.mps_model.specs.Bounds.{lines_of_column, column_names, lower_entries, lower_of, upper_of, is_integer}
use Rattle.mps_model.specs.StatedModel.{model_lines, means}
use Rattle.mps_model.specs.FaultRules.{first_holding}
use Rattle.mps_model.specs.LineFaults.{line_fault}

abbrev pub fault_on : ℕ → FaultKind → TextFault
fault_on line kind = record { kind = kind; line = line }

-- the fault of the first line that has one, behind the lines above
unfoldable pub first_line_fault : Layout → List Line → List Line → Option TextFault
first_line_fault layout above [] = None
first_line_fault layout above (line ∷ lines) =
    option_or (option_map (fault_on line.number) (line_fault layout above line)) (first_line_fault layout (above ++ line ∷ []) lines)

-- the lines that are judged: those up to ENDATA
abbrev pub judged_lines : List ℕ → List Line
judged_lines text = take (position_or_len (begins ENDATA) (text_lines text) + 1) (text_lines text)

abbrev pub is_empty : {A : Type 0} → List A → Bool
is_empty [] = true
is_empty (x ∷ xs) = false

-- the fault of a column: it is to be an integer between two bounds, and its upper bound below 0 only where an entry sets the lower one
abbrev pub column_kind : Option ℤ → Tables → List ℕ → Option FaultKind
column_kind given tables column = first_holding (
    (not (is_integer tables column), faults.Continuous)
    ∷ (is_none (lower_of tables column), faults.NoLower)
    ∷ (is_none (upper_of given tables column), faults.NoUpper)
    ∷ (option_map_or is_negative (upper_of given tables column) false && is_empty (lower_entries tables column), faults.NegativeUpper)
    ∷ [])

-- the number of a column's first line
abbrev pub first_line_of : Tables → List ℕ → ℕ
first_line_of tables column = option_map_or (λ line. line.at) (slice_get (lines_of_column tables.columns column) 0) 0

-- the fault of a column with its line
abbrev pub column_fault_at : Option ℤ → Tables → List ℕ → Option TextFault
column_fault_at given tables column = option_map (fault_on (first_line_of tables column)) (column_kind given tables column)

-- the fault of the first column that has one
abbrev pub first_column_fault : Option ℤ → Tables → Option TextFault
first_column_fault given tables = slice_get (filter_map (column_fault_at given tables) (column_names tables.columns)) 0

-- the fault of a text whose lines have none: ENDATA is missing, or a column's
abbrev pub whole_fault : Layout → Option ℤ → List ℕ → Option TextFault
whole_fault layout given text =
    if list_any (begins ENDATA) (text_lines text) then first_column_fault given (tables_of layout (model_lines text))
    else Some (fault_on (length (text_lines text)) faults.NoEnd)

-- the first fault of a text, if it has one
unfoldable pub fault_at : Layout → Option ℤ → List ℕ → Option TextFault
fault_at layout given text = option_or (first_line_fault layout [] (judged_lines text)) (whole_fault layout given text)

abbrev pub unless_fault : Model → Option TextFault → Result Model TextFault
unless_fault model None = Ok model
unless_fault model (Some fault) = Err fault

-- what a text means: the model that it states, unless it has a fault
unfoldable pub meaning : Layout → Option ℤ → List ℕ → Result Model TextFault
meaning layout given text = unless_fault (means layout given text) (fault_at layout given text)

-- the text has no fault, and states this model
pub record Means (layout : Layout) (given : Option ℤ) (text : List ℕ) (model : Model) : Type 0 where
  pub faultless : fault_at layout given text ≡ None
  pub stated : means layout given text ≡ model

-- the first fault of the text is this one
abbrev pub FaultAt : Layout → Option ℤ → List ℕ → TextFault → Type 0
FaultAt layout given text fault = fault_at layout given text ≡ Some fault

-- exactly one holds: the text states a model, and no other; or it has a first fault, and no other
pub record HasOneMeaning (layout : Layout) (given : Option ℤ) (text : List ℕ) : Type 0 where
  pub some : ((model : Model) × Means layout given text model) ⊎ ((fault : TextFault) × FaultAt layout given text fault)
  pub not_both : (model : Model) (fault : TextFault) → Means layout given text model → FaultAt layout given text fault → ⊥
  pub one_model : (model other : Model) → Means layout given text model → Means layout given text other → model ≡ other
  pub one_fault : (fault other : TextFault) → FaultAt layout given text fault → FaultAt layout given text other → fault ≡ other

-- a column is an integer between two bounds
abbrev pub is_settled : Option ℤ → Tables → List ℕ → Bool
is_settled given tables column = is_integer tables column && is_some (lower_of tables column) && is_some (upper_of given tables column)

-- the columns that lines state are integers between two bounds
abbrev pub are_settled : Option ℤ → Tables → Bool
are_settled given tables = list_all (is_settled given tables) (column_names tables.columns)
