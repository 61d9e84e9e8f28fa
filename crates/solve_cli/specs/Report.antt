-- The report that a run says: lines, each of which ends with a line feed (the byte 10).
use Rattle.std.specs.Prelude.{ℕ, ◌<◌, ◌==◌, if◌then◌else◌, List, [], ◌∷◌, ◌++◌, length, slice_get, ℤ, codes, flat_map, decimal}
use Rattle.std.specs.Option.{option_map_or}
use Rattle.std.specs.Fmt.{signed_decimal}
use Rattle.exact_math.specs.Rational.{ℚ}
use Rattle.int_model.specs.declared.model.Column.{Column}
use Rattle.int_model.specs.declared.model.Row.{Row}
use Rattle.int_model.specs.declared.model.Model.{Model}
use Rattle.int_model.specs.declared.part.Part.{Part}
use Rattle.int_model.specs.declared.part.Part.TheVariants as parts
use Rattle.mps_model.specs.declared.fault.FaultKind.{FaultKind}
use Rattle.mps_model.specs.declared.fault.FaultKind.TheVariants as faults
use Rattle.mps_model.specs.declared.fault.TextFault.{TextFault}
use Rattle.proof_text.specs.declared.claim.Claim.{Claim}
use Rattle.proof_text.specs.declared.claim.Claim.TheVariants as claims
use Rattle.tree_checker.specs.declared.verdict.Reject.{Reject}
use Rattle.tree_checker.specs.declared.verdict.RejectKind.{RejectKind}
use Rattle.tree_checker.specs.declared.verdict.RejectKind.TheVariants as rejects

-- the lines as one text
abbrev pub report_of : List (List ℕ) → List ℕ
report_of lines = flat_map (λ line. line ++ 10 ∷ []) lines

-- a whole number in decimal digits, any other as its numerator and its denominator, with a stroke (the byte 47) between them
abbrev pub fraction_text : ℚ → List ℕ
fraction_text q = if q.den == 1 then signed_decimal q.num else signed_decimal q.num ++ 47 ∷ decimal q.den

-- a line for each column: its value and its name
abbrev pub point_lines : List Column → List ℤ → List (List ℕ)
point_lines [] values = []
point_lines (column ∷ columns) [] = []
point_lines (column ∷ columns) (value ∷ values) =
    (codes "POINT " ++ signed_decimal value ++ 32 ∷ column.name) ∷ point_lines columns values

-- a point and its value
abbrev pub best_lines : ℚ → List Column → List ℤ → List (List ℕ)
best_lines value columns point = (codes "VALUE " ++ fraction_text value) ∷ point_lines columns point

-- how many nodes were worked, and how many of them were split by single columns
abbrev pub count_lines : ℕ → ℕ → List (List ℕ)
count_lines nodes plain = (codes "NODES " ++ decimal nodes) ∷ (codes "PLAIN " ++ decimal plain) ∷ []

-- a report without a point
abbrev pub bare_lines : List ℕ → ℕ → ℕ → List (List ℕ)
bare_lines head nodes plain = head ∷ count_lines nodes plain

-- a report with a point and its value
abbrev pub found_lines : List ℕ → ℚ → List Column → List ℤ → ℕ → ℕ → List (List ℕ)
found_lines head value columns point nodes plain = head ∷ (best_lines value columns point ++ count_lines nodes plain)

-- the first line of the summary of a market: its numbers of rows and columns, and the start of its stream
abbrev pub market_line : ℕ → ℕ → ℕ → List ℕ
market_line rows columns start = codes "MARKET " ++ (decimal rows ++ 32 ∷ (decimal columns ++ 32 ∷ decimal start))

-- the name of column number j
abbrev pub column_name : Model → ℕ → List ℕ
column_name model j = option_map_or (λ (column : Column). column.name) (slice_get model.columns j) []

-- the name of row number i
abbrev pub row_name : Model → ℕ → List ℕ
row_name model i = option_map_or (λ (row : Row). row.name) (slice_get model.rows i) []

-- the line of a part that is too large
abbrev pub limit_line : Model → Part → List ℕ
limit_line model (parts.Column j) = codes "LIMIT COLUMN " ++ column_name model j
limit_line model (parts.Row i) = codes "LIMIT ROW " ++ row_name model i
limit_line model parts.Objective = codes "LIMIT OBJECTIVE"

-- the part is one of the model's
abbrev pub IsPartOf : Model → Part → Type 0
IsPartOf model (parts.Column j) = j < length model.columns
IsPartOf model (parts.Row i) = i < length model.rows
IsPartOf model parts.Objective = Unit {0}

-- the name that is printed for a kind of fault
abbrev pub name_of : FaultKind → List ℕ
name_of faults.Byte = codes "Byte"
name_of faults.LongLine = codes "LongLine"
name_of faults.Section = codes "Section"
name_of faults.FieldCount = codes "FieldCount"
name_of faults.RowKind = codes "RowKind"
name_of faults.Duplicate = codes "Duplicate"
name_of faults.UnknownRow = codes "UnknownRow"
name_of faults.UnknownColumn = codes "UnknownColumn"
name_of faults.NotNumber = codes "NotNumber"
name_of faults.WideNumber = codes "WideNumber"
name_of faults.Marker = codes "Marker"
name_of faults.BoundKind = codes "BoundKind"
name_of faults.SecondSet = codes "SecondSet"
name_of faults.RangeOnObjective = codes "RangeOnObjective"
name_of faults.Continuous = codes "Continuous"
name_of faults.NoUpper = codes "NoUpper"
name_of faults.NoLower = codes "NoLower"
name_of faults.NegativeUpper = codes "NegativeUpper"
name_of faults.TooManyRows = codes "TooManyRows"
name_of faults.TooManyColumns = codes "TooManyColumns"
name_of faults.NoEnd = codes "NoEnd"

-- the line of a fault: its kind and the number of its line
abbrev pub text_line : TextFault → List ℕ
text_line fault = codes "TEXT " ++ name_of fault.kind ++ 32 ∷ decimal fault.line

-- a proof that is accepted: its claim, and the value of the point that it claims
abbrev pub accepted_lines : (List ℤ → ℚ) → Claim → List (List ℕ)
accepted_lines value (claims.Optimal point) = codes "ACCEPTED OPTIMAL" ∷ (codes "VALUE " ++ fraction_text (value point)) ∷ []
accepted_lines value claims.Infeasible = codes "ACCEPTED INFEASIBLE" ∷ []
accepted_lines value claims.Open = []

-- the name that is printed for the kind of a line that is refused
abbrev pub reject_name : RejectKind → List ℕ
reject_name rejects.LongLine = codes "LongLine"
reject_name rejects.Short = codes "Short"
reject_name rejects.Tail = codes "Tail"
reject_name rejects.Head = codes "Head"
reject_name rejects.Claim = codes "Claim"
reject_name rejects.Point = codes "Point"
reject_name rejects.Record = codes "Record"
reject_name rejects.Number = codes "Number"
reject_name rejects.Depth = codes "Depth"
reject_name rejects.Weight = codes "Weight"
reject_name rejects.Cut = codes "Cut"
reject_name rejects.Refute = codes "Refute"

-- a proof that is refused: the kind and the number of its first line that does not pass
abbrev pub reject_line : Reject → List ℕ
reject_line reject = codes "REJECTED " ++ reject_name reject.kind ++ 32 ∷ decimal reject.line
