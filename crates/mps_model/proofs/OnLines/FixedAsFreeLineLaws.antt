-- A data line that has no fault in fixed form says the same in free form.
use Rattle.std.proofs.Common.{◌≡◌, ℕ, Bool, true, false, cond, List, Option, Some, None, refl, sym, ap, ◌∙◌, true≢false}
use Rattle.std.specs.Prelude.{option_map, option_and_then, slice_get, is_some, codes, bytes_eq}
use Rattle.std.specs.Option.{option_map_or}
use Rattle.mps_fields.specs.Lines.{Line}
use Rattle.mps_fields.specs.FixedFields.{field_between}
use Rattle.mps_fields.specs.BooleanLaws.{either}
use Rattle.mps_model.specs.declared.layout.Layout.TheVariants.{Free, Fixed}
use Rattle.mps_model.specs.declared.fault.FaultKind.{FaultKind}
use Rattle.mps_model.specs.declared.fault.FaultKind.TheVariants as faults
use Rattle.mps_model.specs.declared.lines.section.Section.{Section}
use Rattle.mps_model.specs.declared.lines.section.Section.TheVariants.{Name as NAME, Rows as ROWS, Columns as COLUMNS, Rhs as RHS, Ranges as RANGES, Bounds as BOUNDS, Endata as ENDATA}
use Rattle.mps_model.specs.Sections.{free_texts}
use Rattle.mps_model.specs.SixFields.{six, row_places, column_places, set_places, value_places, bare_places, marker_places, fixed_texts}
use Rattle.mps_model.specs.declared.lines.bound_kind.BoundKind.{BoundKind}
use Rattle.mps_model.specs.Tables.{RowLine, PairLine, marker, entries, BoundLine, Tables, row_said, column_said, set_said, marker_said, valued_said, bare_said, is_marker, bound_kind_of, takes_value, row_at, marker_at, entries_at, column_at, set_at, bound_kind_at, bound_with, bound_at}
use Rattle.mps_model.specs.RowFaults.{row_fault}
use Rattle.mps_model.specs.PairFaults.{pair_fault, range_fault, set_fault}
use Rattle.mps_model.specs.ColumnFaults.{marker_fault, column_fault, bound_line_fault, bound_fault}
use Rattle.mps_model.specs.LineFaults.{data_fault}
use Rattle.mps_model.specs.FixedAsFree.{has_second_field}
use Rattle.mps_model.proofs.OnLines.FixedAsFreeFieldLaws.{present}

-- ---- over any six fields: what they say, those that are there say by their number

row_reads : (a b c d e f : Option (List ℕ)) (row : RowLine) → row_said (six a b c d e f) ≡ Some row → row_said (row_places (present (six a b c d e f))) ≡ Some row
row_reads None b c d e f row h = cc
row_reads (Some kind) None c d e f row h = cc
row_reads (Some kind) (Some name) (Some x) d e f row h = cc
row_reads (Some kind) (Some name) None (Some x) e f row h = cc
row_reads (Some kind) (Some name) None None (Some x) f row h = cc
row_reads (Some kind) (Some name) None None None (Some x) row h = cc
row_reads (Some kind) (Some name) None None None None row h = h

set_reads : (at : ℕ) (a b c d e f : Option (List ℕ)) (line : PairLine) → set_said at (six a b c d e f) ≡ Some line → set_said at (set_places (present (six a b c d e f))) ≡ Some line
set_reads at (Some x) b c d e f line h = cc
set_reads at None b None d e f line h = cc
set_reads at None b (Some name) None e f line h = cc
set_reads at None b (Some name) (Some number) (Some other) None line h = cc
set_reads at None b (Some name) (Some number) None (Some size) line h = cc
set_reads at None None (Some name) (Some number) None None line h = h
set_reads at None (Some set) (Some name) (Some number) None None line h = h
set_reads at None None (Some name) (Some number) (Some other) (Some size) line h = h
set_reads at None (Some set) (Some name) (Some number) (Some other) (Some size) line h = h

-- on a line of COLUMNS the second of the fields that are there is field 3
record SaysColumn (at : ℕ) (third : Option (List ℕ)) (fields : List (List ℕ)) (line : PairLine) : Type 0 where
  second : slice_get fields 1 ≡ third
  said : column_said at (column_places fields) ≡ Some line

column_reads : (at : ℕ) (a b c d e f : Option (List ℕ)) (line : PairLine) → column_said at (six a b c d e f) ≡ Some line → SaysColumn at c (present (six a b c d e f)) line
column_reads at (Some x) b c d e f line h = absurd (cc)
column_reads at None None c d e f line h = absurd (cc)
column_reads at None (Some column) None d e f line h = absurd (cc)
column_reads at None (Some column) (Some name) None e f line h = absurd (cc)
column_reads at None (Some column) (Some name) (Some number) (Some other) None line h = absurd (cc)
column_reads at None (Some column) (Some name) (Some number) None (Some size) line h = absurd (cc)
column_reads at None (Some column) (Some name) (Some number) None None line h = record { second = refl; said = h }
column_reads at None (Some column) (Some name) (Some number) (Some other) (Some size) line h = record { second = refl; said = h }

-- the same of a marker line
record SaysMarker (third : Option (List ℕ)) (fields : List (List ℕ)) (word : List ℕ) : Type 0 where
  second : slice_get fields 1 ≡ third
  said : marker_said (marker_places fields) ≡ Some word

marker_reads : (a b c d e f : Option (List ℕ)) (word : List ℕ) → marker_said (six a b c d e f) ≡ Some word → SaysMarker c (present (six a b c d e f)) word
marker_reads (Some x) b c d e f word h = absurd (cc)
marker_reads None None c d e f word h = absurd (cc)
marker_reads None (Some name) None d e f word h = absurd (cc)
marker_reads None (Some name) (Some mark) (Some x) e f word h = absurd (cc)
marker_reads None (Some name) (Some mark) None None f word h = absurd (cc)
marker_reads None (Some name) (Some mark) None (Some found) (Some x) word h = absurd (cc)
marker_reads None (Some name) (Some mark) None (Some found) None word h = record { second = refl; said = h }

-- a kind in field 1 is the first of the fields that are there
kind_reads : (a b c d e f : Option (List ℕ)) (word : List ℕ) → a ≡ Some word → slice_get (present (six a b c d e f)) 0 ≡ a
kind_reads None b c d e f word h = cc
kind_reads (Some x) b c d e f word h = refl

valued_reads : (kind : BoundKind) (a b c d e f : Option (List ℕ)) (word : List ℕ) (line : BoundLine) → a ≡ Some word
    → valued_said kind (six a b c d e f) ≡ Some line → valued_said kind (value_places (present (six a b c d e f))) ≡ Some line
valued_reads kind None b c d e f word line w h = cc
valued_reads kind (Some x) b None d e f word line w h = cc
valued_reads kind (Some x) b (Some column) None e f word line w h = cc
valued_reads kind (Some x) b (Some column) (Some value) (Some y) f word line w h = cc
valued_reads kind (Some x) b (Some column) (Some value) None (Some y) word line w h = cc
valued_reads kind (Some x) None (Some column) (Some value) None None word line w h = h
valued_reads kind (Some x) (Some set) (Some column) (Some value) None None word line w h = h

bare_reads : (kind : BoundKind) (a b c d e f : Option (List ℕ)) (word : List ℕ) (line : BoundLine) → a ≡ Some word → is_some b ≡ true
    → bare_said kind (six a b c d e f) ≡ Some line → bare_said kind (bare_places (present (six a b c d e f))) ≡ Some line
bare_reads kind None b c d e f word line w s h = cc
bare_reads kind (Some x) None c d e f word line w s h = cc
bare_reads kind (Some x) (Some set) None d e f word line w s h = cc
bare_reads kind (Some x) (Some set) (Some column) d (Some y) f word line w s h = cc
bare_reads kind (Some x) (Some set) (Some column) d None (Some y) word line w s h = cc
bare_reads kind (Some x) (Some set) (Some column) None None None word line w s h = h
bare_reads kind (Some x) (Some set) (Some column) (Some value) None None word line w s h = h

-- ---- over plain variables

-- where nothing would be a fault and there is none, there is something
something : {A : Type 0} (fault : Option A → Option FaultKind) (kind : FaultKind) (o : Option A) → fault None ≡ Some kind → fault o ≡ None → (x : A) × (o ≡ Some x)
something fault kind None n h = absurd (cc)
something fault kind (Some x) n h = (x, refl)

-- what comes of something came of something
from_something : {A B : Type 0} (f : A → Option B) (o : Option A) (y : B) → option_and_then f o ≡ Some y → (x : A) × (o ≡ Some x)
from_something f None y h = absurd (cc)
from_something f (Some x) y h = (x, refl)

-- the same choice between the same
chosen : {A : Type 0} (b c : Bool) (x y z w : A) → c ≡ b → (b ≡ true → z ≡ x) → (b ≡ false → w ≡ y) → cond c z w ≡ cond b x y
chosen true c x y z w e f g = ap (λ t. cond t z w) e ∙ f refl
chosen false c x y z w e f g = ap (λ t. cond t z w) e ∙ g refl

-- a choice that gave something
chosen_some : {A : Type 0} (b : Bool) (x y z w : Option A) (v : A) → (x ≡ Some v → z ≡ Some v) → (y ≡ Some v → w ≡ Some v) → cond b x y ≡ Some v → cond b z w ≡ Some v
chosen_some true x y z w v f g h = f h
chosen_some false x y z w v f g h = g h

is_some-map : {A B : Type 0} (f : A → B) (o : Option A) → is_some o ≡ true → is_some (option_map f o) ≡ true
is_some-map f None h = h
is_some-map f (Some x) h = h

-- ---- of a line whose free fields are its fixed fields

-- the text between two columns
abbrev text_between : ℕ → ℕ → Line → Option (List ℕ)
text_between first last line = option_map (λ f. f.text) (field_between first last line.bytes)

-- the free fields are the fixed fields that are there
abbrev pub Agrees : Line → Type 0
Agrees line = free_texts line.bytes ≡ present (fixed_texts line.bytes)

row_same : (line : Line) (row : RowLine) → Agrees line → row_at Fixed line ≡ Some row → row_at Free line ≡ row_at Fixed line
row_same line row e h =
    ap (λ w. row_said (row_places w)) e
    ∙ row_reads (text_between 2 3 line) (text_between 5 12 line) (text_between 15 22 line) (text_between 25 36 line) (text_between 40 47 line) (text_between 50 61 line) row h
    ∙ sym h

set_same : (line : Line) (pairs : PairLine) → Agrees line → set_at Fixed line ≡ Some pairs → set_at Free line ≡ set_at Fixed line
set_same line pairs e h =
    ap (λ w. set_said line.number (set_places w)) e
    ∙ set_reads line.number (text_between 2 3 line) (text_between 5 12 line) (text_between 15 22 line) (text_between 25 36 line) (text_between 40 47 line) (text_between 50 61 line) pairs h
    ∙ sym h

-- a line of COLUMNS is a marker line in both forms or in none, and says the same
record SameColumn (line : Line) : Type 0 where
  marked : is_marker Free line.bytes ≡ is_marker Fixed line.bytes
  word : is_marker Fixed line.bytes ≡ true → marker_at Free line ≡ marker_at Fixed line
  pairs : is_marker Fixed line.bytes ≡ false → entries_at Free line ≡ entries_at Fixed line

-- a field is the word of a marker line
abbrev is_mark : Option (List ℕ) → Bool
is_mark field = option_map_or (bytes_eq (codes "'MARKER'")) field false

marker_same : (line : Line) (word : List ℕ) → Agrees line → is_marker Fixed line.bytes ≡ true → marker_at Fixed line ≡ Some word → SameColumn line
marker_same line word e t h =
    let says = marker_reads (text_between 2 3 line) (text_between 5 12 line) (text_between 15 22 line) (text_between 25 36 line) (text_between 40 47 line) (text_between 50 61 line) word h in
    record {
      marked = ap is_mark (ap (λ w. slice_get w 1) e ∙ says.second);
      word = λ u. ap (λ w. marker_said (marker_places w)) e ∙ says.said ∙ sym h;
      pairs = λ u. absurd (true≢false (sym t ∙ u));
    }

entries_same : (line : Line) (pairs : PairLine) → Agrees line → is_marker Fixed line.bytes ≡ false → entries_at Fixed line ≡ Some pairs → SameColumn line
entries_same line pairs e t h =
    let says = column_reads line.number (text_between 2 3 line) (text_between 5 12 line) (text_between 15 22 line) (text_between 25 36 line) (text_between 40 47 line) (text_between 50 61 line) pairs h in
    record {
      marked = ap is_mark (ap (λ w. slice_get w 1) e ∙ says.second);
      word = λ u. absurd (true≢false (sym u ∙ t));
      pairs = λ u. ap (λ w. column_said line.number (column_places w)) e ∙ says.said ∙ sym h;
    }

kind_same : (line : Line) (kind : BoundKind) → Agrees line → bound_kind_at Fixed line ≡ Some kind → bound_kind_at Free line ≡ bound_kind_at Fixed line
kind_same line kind e h =
    let word = from_something bound_kind_of (text_between 2 3 line) kind h in
    ap (option_and_then bound_kind_of) (ap (λ w. slice_get w 0) e
    ∙ kind_reads (text_between 2 3 line) (text_between 5 12 line) (text_between 15 22 line) (text_between 25 36 line) (text_between 40 47 line) (text_between 50 61 line) word.0 word.1)

with_same : (line : Line) (kind : BoundKind) (bound : BoundLine) → Agrees line → has_second_field line ≡ true → bound_kind_at Fixed line ≡ Some kind → bound_with Fixed line kind ≡ Some bound
    → bound_with Free line kind ≡ bound_with Fixed line kind
with_same line kind bound e s k h =
    let word = from_something bound_kind_of (text_between 2 3 line) kind k in
    let set : is_some (text_between 5 12 line) ≡ true = is_some-map (λ f. f.text) (field_between 5 12 line.bytes) s in
    chosen_some (takes_value kind) (valued_said kind (fixed_texts line.bytes)) (bare_said kind (fixed_texts line.bytes))
    (valued_said kind (value_places (free_texts line.bytes))) (bare_said kind (bare_places (free_texts line.bytes))) bound
    (λ v. ap (λ w. valued_said kind (value_places w)) e
    ∙ valued_reads kind (text_between 2 3 line) (text_between 5 12 line) (text_between 15 22 line) (text_between 25 36 line) (text_between 40 47 line) (text_between 50 61 line) word.0 bound word.1 v)
    (λ b. ap (λ w. bare_said kind (bare_places w)) e
    ∙ bare_reads kind (text_between 2 3 line) (text_between 5 12 line) (text_between 15 22 line) (text_between 25 36 line) (text_between 40 47 line) (text_between 50 61 line) word.0 bound word.1 set b)
    h ∙ sym h

-- ---- in each section

-- a line says the same in both forms
abbrev pub SameIn : Option Section → Line → Type 0
SameIn (Some ROWS) line = row_at Free line ≡ row_at Fixed line
SameIn (Some COLUMNS) line = column_at Free line ≡ column_at Fixed line
SameIn (Some RHS) line = set_at Free line ≡ set_at Fixed line
SameIn (Some RANGES) line = set_at Free line ≡ set_at Fixed line
SameIn (Some BOUNDS) line = bound_at Free line ≡ bound_at Fixed line
SameIn _ line = Unit {0}

-- it has no fault in free form, and says the same
pub record ReadsSame (tables : Tables) (line : Line) (section : Option Section) : Type 0 where
  pub faultless : data_fault Free tables line section ≡ None
  pub same : SameIn section line

rows_read : (tables : Tables) (line : Line) → Agrees line → data_fault Fixed tables line (Some ROWS) ≡ None → ReadsSame tables line (Some ROWS)
rows_read tables line e h =
    let row = something (row_fault tables) faults.FieldCount (row_at Fixed line) refl h in
    let same = row_same line row.0 e row.1 in
    record { faultless = ap (row_fault tables) same ∙ h; same = same }

columns_read : (tables : Tables) (line : Line) → SameColumn line → data_fault Fixed tables line (Some COLUMNS) ≡ None → ReadsSame tables line (Some COLUMNS)
columns_read tables line s h = record {
  faultless =
      chosen (is_marker Fixed line.bytes) (is_marker Free line.bytes) (marker_fault tables (marker_at Fixed line)) (column_fault tables (entries_at Fixed line))
      (marker_fault tables (marker_at Free line)) (column_fault tables (entries_at Free line)) s.marked
      (λ t. ap (marker_fault tables) (s.word t)) (λ t. ap (column_fault tables) (s.pairs t)) ∙ h;
  same =
      chosen (is_marker Fixed line.bytes) (is_marker Free line.bytes) (option_map marker (marker_at Fixed line)) (option_map entries (entries_at Fixed line))
      (option_map marker (marker_at Free line)) (option_map entries (entries_at Free line)) s.marked
      (λ t. ap (option_map marker) (s.word t)) (λ t. ap (option_map entries) (s.pairs t));
}

column_same : (tables : Tables) (line : Line) → Agrees line → data_fault Fixed tables line (Some COLUMNS) ≡ None → SameColumn line
column_same tables line e h =
    let either_fault = λ (b : Bool). cond b (marker_fault tables (marker_at Fixed line)) (column_fault tables (entries_at Fixed line)) in
    either (is_marker Fixed line.bytes)
    (λ t. let word = something (marker_fault tables) faults.FieldCount (marker_at Fixed line) refl (sym (ap either_fault t) ∙ h) in marker_same line word.0 e t word.1)
    (λ t. let pairs = something (column_fault tables) faults.FieldCount (entries_at Fixed line) refl (sym (ap either_fault t) ∙ h) in entries_same line pairs.0 e t pairs.1)

bounds_read : (tables : Tables) (line : Line) → Agrees line → has_second_field line ≡ true → data_fault Fixed tables line (Some BOUNDS) ≡ None → ReadsSame tables line (Some BOUNDS)
bounds_read tables line e s h =
    let kind = something (bound_fault Fixed tables line) faults.BoundKind (bound_kind_at Fixed line) refl h in
    let left : bound_line_fault tables (bound_with Fixed line kind.0) ≡ None = sym (ap (bound_fault Fixed tables line) kind.1) ∙ h in
    let bound = something (bound_line_fault tables) faults.FieldCount (bound_with Fixed line kind.0) refl left in
    let same = with_same line kind.0 bound.0 e s kind.1 bound.1 in
    let free : bound_kind_at Free line ≡ Some kind.0 = kind_same line kind.0 e kind.1 ∙ kind.1 in
    record {
      faultless = ap (bound_fault Free tables line) free ∙ ap (bound_line_fault tables) same ∙ left;
      same = ap (option_and_then (bound_with Free line)) free ∙ same ∙ sym (ap (option_and_then (bound_with Fixed line)) kind.1);
    }

pub data_reads : (tables : Tables) (line : Line) (section : Option Section) → Agrees line → (section ≡ Some BOUNDS → has_second_field line ≡ true)
    → data_fault Fixed tables line section ≡ None → ReadsSame tables line section
data_reads tables line (Some ROWS) e s h = rows_read tables line e h
data_reads tables line (Some COLUMNS) e s h = columns_read tables line (column_same tables line e h) h
data_reads tables line (Some RHS) e s h =
    let pairs = something (set_fault (pair_fault tables.rows) tables.sides) faults.FieldCount (set_at Fixed line) refl h in
    let same = set_same line pairs.0 e pairs.1 in
    record { faultless = ap (set_fault (pair_fault tables.rows) tables.sides) same ∙ h; same = same }
data_reads tables line (Some RANGES) e s h =
    let pairs = something (set_fault (range_fault tables) tables.ranges) faults.FieldCount (set_at Fixed line) refl h in
    let same = set_same line pairs.0 e pairs.1 in
    record { faultless = ap (set_fault (range_fault tables) tables.ranges) same ∙ h; same = same }
data_reads tables line (Some BOUNDS) e s h = bounds_read tables line e (s refl) h
data_reads tables line (Some NAME) e s h = record { faultless = h; same = tt }
data_reads tables line (Some ENDATA) e s h = record { faultless = h; same = tt }
data_reads tables line None e s h = record { faultless = h; same = tt }
