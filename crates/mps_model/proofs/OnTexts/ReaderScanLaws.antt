-- A scan of the lines of a text by the reader.
use Rattle.std.proofs.Common.{◌≡◌, ℕ, ◌+◌, true, false, true≢false, ◌||◌, List, [], ◌∷◌, ◌++◌, length, length-append, ℤ, Option, Some, None, Result, Ok, Err, refl, sym, ap, subst, ◌∙◌, arith}
use Rattle.std.specs.Prelude.{IfOk}
use Rattle.std.specs.Option.{option_map_or}
use Rattle.std.specs.List.{list_any, last_or}
use Rattle.std.proofs.lemmas.Bool.{and_parts}
use Rattle.mps_fields.specs.BooleanLaws.{either}
use Rattle.mps_fields.specs.Lines.{Line, lines_of, numbered, is_section_line}
use Rattle.int_model.specs.declared.model.Model.{Model}
use Rattle.mps_model.specs.declared.layout.Layout.{Layout}
use Rattle.mps_model.specs.declared.fault.FaultKind.{FaultKind}
use Rattle.mps_model.specs.declared.fault.FaultKind.TheVariants as faults
use Rattle.mps_model.specs.declared.fault.TextFault.{TextFault}
use Rattle.mps_model.specs.declared.line_stop.LineStop.{LineStop}
use Rattle.mps_model.specs.declared.line_stop.LineStop.TheVariants as lines
use Rattle.mps_model.specs.declared.read_stop.ReadStop.{ReadStop}
use Rattle.mps_model.specs.declared.read_stop.ReadStop.TheVariants as reads
use Rattle.mps_model.specs.declared.lines.section.Section.{Section}
use Rattle.mps_model.specs.declared.lines.section.Section.TheVariants.{Columns as COLUMNS, Endata as ENDATA}
use Rattle.mps_model.specs.declared.reader.Reader.{Reader}
use Rattle.mps_model.specs.Sections.{begins, section_at, text_lines}
use Rattle.mps_model.specs.SectionOrder.{is_same, sections_in}
use Rattle.mps_model.specs.Tables.{tables_of}
use Rattle.mps_model.specs.StatedModel.{stated}
use Rattle.mps_model.specs.LineFaults.{line_fault}
use Rattle.mps_model.specs.Meaning.{fault_on, first_column_fault, unless_fault, meaning}
use Rattle.mps_model.specs.ModelLimits.{KeepsLimits}
use Rattle.mps_model.specs.Judging.{Judges}
use Rattle.mps_model.specs.ReadAnswers.{Answers, stop_on}
use Rattle.mps_model.specs.KeptLines.{Keeps}
use Rattle.mps_model.specs.KeptSections.{IsBuildable}
use Rattle.mps_model.specs.SectionLaws.{same_section, begins_at, sections_none, any_at}
use Rattle.mps_model.specs.TableLaws.{last_section, tables_section}
use Rattle.mps_model.proofs.OnLines.SectionOrderLaws.{last_among, columns_came}
use Rattle.mps_model.specs.TextScanLaws.{IsScanned, scan_none, scan_more, fault_found, end_found, no_end_found, fault_is_meaning}
use Rattle.mps_model.proofs.OnTables.FinishedTableLaws.{kept_buildable}

-- the number of a line among numbered lines
number_at : (n : ℕ) (lines : List (List ℕ)) (above rest : List Line) (line : Line) → above ++ line ∷ rest ≡ numbered n lines → line.number ≡ n + length above
unfolding numbered
number_at n [] [] rest line e = cc
number_at n [] (a ∷ above) rest line e = cc
number_at n (l ∷ lines) [] rest line e =
    let here : line ≡ record { bytes = l; number = n } = cc in
    let same : line.number ≡ n = ap (λ (x : Line). x.number) here in omega arith
number_at n (l ∷ lines) (a ∷ above) rest line e =
    let behind : above ++ line ∷ rest ≡ numbered (n + 1) lines = cc in
    let same = number_at (n + 1) lines above rest line behind in omega arith

number_behind : (above : List Line) (line : Line) → 1 + length above ≡ length (above ++ line ∷ [])
number_behind above line = omega (arith, length-append above (line ∷ []))

-- a section is begun where it is among the sections
begun_at : (s : Section) (above : List Line) → list_any (begins s) above ≡ list_any (is_same s) (sections_in above)
begun_at s [] = refl
begun_at s (line ∷ above) = ap (λ b. begins s line || b) (begun_at s above) ∙ any_at s line (sections_in above) (section_at line) refl

-- a section that has not come is not the last
not_last_at : (s : Section) (sections : List Section) (o : Option Section) → last_or None sections ≡ o → list_any (is_same s) sections ≡ false → option_map_or (is_same s) o false ≡ false
not_last_at s sections None e none = refl
not_last_at s sections (Some t) e none =
    either (is_same s t)
    (λ same. absurd (true≢false (sym (last_among s sections (e ∙ ap Some (sym (same_section s t same)))) ∙ none)))
    (λ other. other)

-- the reader is ended exactly where the line is ENDATA
ended_with : (layout : Layout) (above : List Line) (line : Line) (reader : Reader) (o : Option Section) → section_at line ≡ o → list_any (begins ENDATA) above ≡ false
    → Keeps layout (above ++ line ∷ []) reader → option_map_or (is_same ENDATA) reader.order.last false ≡ begins ENDATA line
ended_with layout above line reader (Some s) e unended now =
    ap (λ o. option_map_or (is_same ENDATA) o false) (now.order.last ∙ last_section above line s e) ∙ sym (begins_at ENDATA line (Some s) e)
ended_with layout above line reader None e unended now =
    not_last_at ENDATA (sections_in above) reader.order.last (sym (now.order.last ∙ ap (last_or None) (sections_none above line e))) (sym (begun_at ENDATA above) ∙ unended)
    ∙ sym (begins_at ENDATA line None e)

pub ended_at : (layout : Layout) (above : List Line) (line : Line) (reader : Reader) → list_any (begins ENDATA) above ≡ false
    → Keeps layout (above ++ line ∷ []) reader → option_map_or (is_same ENDATA) reader.order.last false ≡ begins ENDATA line
ended_at layout above line reader unended now = ended_with layout above line reader (section_at line) refl unended now

-- behind ENDATA the tables can be made a model
pub buildable_at_end : (layout : Layout) (above : List Line) (reader : Reader) → option_map_or (is_same ENDATA) reader.order.last false ≡ true → Keeps layout above reader
    → IsBuildable reader.tables
buildable_at_end layout above reader ended now =
    kept_buildable layout above reader.tables now.tables (last_is reader.order.last refl ended)
  where
    last_is : (o : Option Section) → reader.order.last ≡ o → option_map_or (is_same ENDATA) o false ≡ true → list_any (is_same COLUMNS) (sections_in above) ≡ true
    last_is None e h = absurd (true≢false (sym h))
    last_is (Some s) e h =
        columns_came ENDATA (sections_in above) now.order.ordered (sym now.order.last ∙ e ∙ ap Some (sym (same_section ENDATA s h))) (omega arith)

-- ---- the loop

-- the lines so far are taken, and as many as are counted
pub record IsReadTo (layout : Layout) (text : List ℕ) (above rest : List Line) (reader : Reader) (count : ℕ) : Type 0 where
  pub scanned : IsScanned (text_lines text) above rest
  pub known : Keeps layout above reader
  pub counted : count ≡ length above

module _ (layout : Layout) (given : Option ℤ) (text : List ℕ) (above rest behind : List Line) (reader new : Reader) (count : ℕ) (line : Line)
    (now : IsReadTo layout text above rest reader count) (next : rest ≡ line ∷ behind) where
  here : IsScanned (text_lines text) above (line ∷ behind)
  here = subst (IsScanned (text_lines text) above) next now.scanned

  -- one more line that is not ENDATA
  pub read_more : Keeps layout (above ++ line ∷ []) new → option_map_or (is_same ENDATA) new.order.last false ≡ false → IsReadTo layout text (above ++ line ∷ []) behind new line.number
  read_more known going = record {
    scanned = scan_more (text_lines text) above behind line here (sym (ended_at layout above line new now.scanned.unended known) ∙ going);
    known = known;
    counted = number_at 1 (lines_of text) above behind line (here.whole) ∙ number_behind above line;
  }

  -- a line with a fault
  fault_here : (kind : FaultKind) → line_fault layout above line ≡ Some kind → meaning layout given text ≡ Err (fault_on line.number kind)
  fault_here kind h = fault_is_meaning layout given text _ (fault_found layout given text above behind line kind here now.known.faultless h)

  pub read_stopped : (stop : LineStop) → Judges {A = Unit {0}} (line_fault layout above line) (Keeps layout (above ++ line ∷ []) new) (Err stop) → (fault : TextFault)
      → ◌≡◌ {A = Result Model ReadStop} (Err (stop_on line.number stop)) (Err (reads.Fault fault)) → meaning layout given text ≡ Err fault
  read_stopped (lines.Fault kind) judged fault e = let same : fault_on line.number kind ≡ fault = cc in fault_here kind judged ∙ ap Err same
  read_stopped lines.NoMemory judged fault e = cc

  -- ENDATA
  pub read_ended : line_fault layout above line ≡ None → Keeps layout (above ++ line ∷ []) new → option_map_or (is_same ENDATA) new.order.last false ≡ true
      → unless_fault (stated given (tables_of layout (above ++ line ∷ []))) (first_column_fault given (tables_of layout (above ++ line ∷ []))) ≡ meaning layout given text
  read_ended none known ended =
      let ends = sym (ended_at layout above line new now.scanned.unended known) ∙ ended in
      let same = tables_section layout above line (and_parts (is_section_line line.bytes) _ ends).0 in
      ap (λ tables. unless_fault (stated given tables) (first_column_fault given tables)) same
      ∙ sym (end_found layout given text above behind line here now.known.faultless none ends)

-- no line is left
pub read_all : (layout : Layout) (given : Option ℤ) (text : List ℕ) (above rest : List Line) (reader : Reader) (count : ℕ) → IsReadTo layout text above rest reader count → rest ≡ []
    → (fault : TextFault) → ◌≡◌ {A = Result Model ReadStop} (Err (reads.Fault (fault_on count faults.NoEnd))) (Err (reads.Fault fault)) → meaning layout given text ≡ Err fault
read_all layout given text above rest reader count now none fault e =
    let same : fault_on count faults.NoEnd ≡ fault = cc in
    fault_is_meaning layout given text _ (no_end_found layout given text above (subst (IsScanned (text_lines text) above) none now.scanned) now.known.faultless)
    ∙ ap Err (ap (λ n. fault_on n faults.NoEnd) (sym now.counted) ∙ same)

-- before the first line
pub read_none : (layout : Layout) (text : List ℕ) (lines : List Line) (reader : Reader) → lines ≡ text_lines text → Keeps layout [] reader → IsReadTo layout text [] lines reader 0
read_none layout text lines reader e known = record {
  scanned = subst (λ l. IsScanned (text_lines text) [] l) (sym e) (scan_none (text_lines text));
  known = known;
  counted = refl;
}

-- ---- an answer, clause by clause

pub answer_model : (meant other : Result Model TextFault) (r : Result Model ReadStop) → meant ≡ other → Answers meant r → IfOk r (λ model. other ≡ Ok model)
answer_model meant other (Ok model) e h = sym e ∙ h.0
answer_model meant other (Err stop) e h = tt

pub answer_fault : (meant other : Result Model TextFault) (r : Result Model ReadStop) → meant ≡ other → Answers meant r → (fault : TextFault) → r ≡ Err (reads.Fault fault) → other ≡ Err fault
answer_fault meant other (Ok model) e h fault is = cc
answer_fault meant other (Err (reads.Fault found)) e h fault is = let same : found ≡ fault = cc in sym e ∙ h ∙ ap Err same
answer_fault meant other (Err reads.NoMemory) e h fault is = cc

pub answer_limits : (meant : Result Model TextFault) (r : Result Model ReadStop) → Answers meant r → IfOk r KeepsLimits
answer_limits meant (Ok model) h = h.1
answer_limits meant (Err stop) h = tt
