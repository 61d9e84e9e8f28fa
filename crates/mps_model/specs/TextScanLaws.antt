-- The meaning of a text is found by a scan of its lines that stops at the first one with a fault, at ENDATA, or at the end.
use Rattle.std.proofs.Common.{◌≡◌, ℕ, ◌+◌, Bool, true, false, cond, not, ◌||◌, List, [], ◌∷◌, ◌++◌, length, take, ℤ, Option, Some, None, refl, sym, ap, ◌∙◌, append_assoc}
use Rattle.std.specs.Prelude.{option_map, Err}
use Rattle.std.specs.Option.{option_or}
use Rattle.std.specs.List.{list_any, before_first, position_or_len}
use Rattle.std.proofs.lemmas.Bool.{or_left, or_right, or_from, or_parts}
use Rattle.std.proofs.lemmas.List.{append-nil}
use Rattle.std.proofs.lemmas.List.Folds.{list_any-append}
use Rattle.mps_fields.specs.Lines.{Line}
use Rattle.mps_model.specs.declared.layout.Layout.{Layout}
use Rattle.mps_model.specs.declared.fault.FaultKind.{FaultKind}
use Rattle.mps_model.specs.declared.fault.FaultKind.TheVariants as faults
use Rattle.mps_model.specs.declared.fault.TextFault.{TextFault}
use Rattle.mps_model.specs.declared.lines.section.Section.TheVariants.{Endata as ENDATA}
use Rattle.mps_model.specs.Sections.{begins, text_lines}
use Rattle.mps_model.specs.Tables.{tables_of}
use Rattle.mps_model.specs.StatedModel.{stated, model_lines, means}
use Rattle.mps_model.specs.LineFaults.{line_fault}
use Rattle.mps_model.specs.Meaning.{fault_on, first_line_fault, first_column_fault, whole_fault, fault_at, unless_fault, meaning}
use Rattle.mps_model.specs.FirstItemLaws.{two_more, before-cons}

-- ---- a list up to the first item of a kind

abbrev up_to : {X : Type 0} → (X → Bool) → List X → List X
up_to p xs = take (position_or_len p xs + 1) xs

up_to-cons : {X : Type 0} (p : X → Bool) (x : X) (xs : List X) → up_to p (x ∷ xs) ≡ x ∷ cond (p x) [] (up_to p xs)
up_to-cons p x xs =
    elim (p x) as (λ b. take (cond (not b) (1 + position_or_len p xs) 0 + 1) (x ∷ xs) ≡ x ∷ cond b [] (up_to p xs))
    [ true ↦ refl | false ↦ rw two_more refl ]

up_to-append : {X : Type 0} (p : X → Bool) (xs ys : List X) → list_any p xs ≡ false → up_to p (xs ++ ys) ≡ xs ++ up_to p ys
up_to-append p [] ys none = refl
up_to-append p (x ∷ xs) ys none =
    let both = or_parts (p x) (list_any p xs) none in
    up_to-cons p x (xs ++ ys) ∙ ap (λ b. x ∷ cond b [] (up_to p (xs ++ ys))) both.0 ∙ ap (λ zs. x ∷ zs) (up_to-append p xs ys both.1)

before-append : {X : Type 0} (p : X → Bool) (xs ys : List X) → list_any p xs ≡ false → before_first p (xs ++ ys) ≡ xs ++ before_first p ys
before-append p [] ys none = refl
before-append p (x ∷ xs) ys none =
    let both = or_parts (p x) (list_any p xs) none in
    before-cons p x (xs ++ ys) ∙ ap (λ b. cond b [] (x ∷ before_first p (xs ++ ys))) both.0 ∙ ap (λ zs. x ∷ zs) (before-append p xs ys both.1)

-- ---- the first line with a fault

pub nothing_first : {A : Type 0} (o p : Option A) → option_or o p ≡ None → (o ≡ None) × (p ≡ None)
nothing_first None p h = (refl, h)
nothing_first (Some x) p h = cc

behind_nothing : {A : Type 0} (o p : Option A) → o ≡ None → option_or o p ≡ p
behind_nothing None p h = refl
behind_nothing (Some x) p h = cc

pub unmapped : {A B : Type 0} (f : A → B) (o : Option A) → option_map f o ≡ None → o ≡ None
unmapped f None h = refl
unmapped f (Some x) h = cc

-- where no line has a fault, or_parts the first nor a later one has one
pub none_first : (layout : Layout) (above rest : List Line) (line : Line) → first_line_fault layout above (line ∷ rest) ≡ None → line_fault layout above line ≡ None
unfolding first_line_fault
none_first layout above rest line h =
    unmapped (fault_on line.number) (line_fault layout above line)
    (nothing_first (option_map (fault_on line.number) (line_fault layout above line)) (first_line_fault layout (above ++ line ∷ []) rest) h).0

pub none_later : (layout : Layout) (above rest : List Line) (line : Line) → first_line_fault layout above (line ∷ rest) ≡ None
    → first_line_fault layout (above ++ line ∷ []) rest ≡ None
unfolding first_line_fault
none_later layout above rest line h =
    (nothing_first (option_map (fault_on line.number) (line_fault layout above line)) (first_line_fault layout (above ++ line ∷ []) rest) h).1

-- behind lines without fault the rest decides
pub first-append : (layout : Layout) (above lines rest : List Line) → first_line_fault layout above lines ≡ None
    → first_line_fault layout above (lines ++ rest) ≡ first_line_fault layout (above ++ lines) rest
unfolding first_line_fault
first-append layout above [] rest h = ap (λ l. first_line_fault layout l rest) (sym (append-nil above))
first-append layout above (line ∷ lines) rest h =
    let both = nothing_first (option_map (fault_on line.number) (line_fault layout above line)) (first_line_fault layout (above ++ line ∷ []) lines) h in
    behind_nothing (option_map (fault_on line.number) (line_fault layout above line)) (first_line_fault layout (above ++ line ∷ []) (lines ++ rest)) both.0
    ∙ first-append layout (above ++ line ∷ []) lines rest both.1
    ∙ ap (λ l. first_line_fault layout l rest) (append_assoc above (line ∷ []) lines)

pub first_here : (layout : Layout) (above rest : List Line) (line : Line) (kind : FaultKind) → line_fault layout above line ≡ Some kind
    → first_line_fault layout above (line ∷ rest) ≡ Some (fault_on line.number kind)
unfolding first_line_fault
first_here layout above rest line kind h =
    ap (λ o. option_or (option_map (fault_on line.number) o) (first_line_fault layout (above ++ line ∷ []) rest)) h

pub first_later : (layout : Layout) (above rest : List Line) (line : Line) → line_fault layout above line ≡ None
    → first_line_fault layout above (line ∷ rest) ≡ first_line_fault layout (above ++ line ∷ []) rest
unfolding first_line_fault
first_later layout above rest line h =
    ap (λ o. option_or (option_map (fault_on line.number) o) (first_line_fault layout (above ++ line ∷ []) rest)) h

pub first_of_none : (layout : Layout) (above : List Line) → first_line_fault layout above [] ≡ None
unfolding first_line_fault
first_of_none layout above = refl

-- one more line without fault
pub faultless_more : (layout : Layout) (above : List Line) (line : Line) → first_line_fault layout [] above ≡ None → line_fault layout above line ≡ None
    → first_line_fault layout [] (above ++ line ∷ []) ≡ None
faultless_more layout above line now h =
    first-append layout [] above (line ∷ []) now ∙ first_later layout above [] line h ∙ first_of_none layout (above ++ line ∷ [])

-- ---- a scan of the lines of a text

-- these lines stand above the others, and none of them is ENDATA
pub record IsScanned (lines above rest : List Line) : Type 0 where
  pub whole : above ++ rest ≡ lines
  pub unended : list_any (begins ENDATA) above ≡ false

pub scan_none : (lines : List Line) → IsScanned lines [] lines
scan_none lines = record { whole = refl; unended = refl }

pub scan_more : (lines above rest : List Line) (line : Line) → IsScanned lines above (line ∷ rest) → begins ENDATA line ≡ false → IsScanned lines (above ++ line ∷ []) rest
scan_more lines above rest line now h = record {
  whole = append_assoc above (line ∷ []) rest ∙ now.whole;
  unended = list_any-append (begins ENDATA) above (line ∷ []) ∙ or_from (list_any (begins ENDATA) above) (begins ENDATA line || false) now.unended (or_from (begins ENDATA line) false h refl);
}

-- the lines that are judged begin with those above and this one
judged_from : (lines above rest : List Line) (line : Line) → IsScanned lines above (line ∷ rest)
    → up_to (begins ENDATA) lines ≡ above ++ line ∷ cond (begins ENDATA line) [] (up_to (begins ENDATA) rest)
judged_from lines above rest line now =
    ap (up_to (begins ENDATA)) (sym now.whole)
    ∙ up_to-append (begins ENDATA) above (line ∷ rest) now.unended
    ∙ ap (λ l. above ++ l) (up_to-cons (begins ENDATA) line rest)

-- at a line with a fault
pub fault_found : (layout : Layout) (given : Option ℤ) (text : List ℕ) (above rest : List Line) (line : Line) (kind : FaultKind)
    → IsScanned (text_lines text) above (line ∷ rest) → first_line_fault layout [] above ≡ None → line_fault layout above line ≡ Some kind
    → fault_at layout given text ≡ Some (fault_on line.number kind)
unfolding fault_at
fault_found layout given text above rest line kind now faultless h =
    ap (λ lines. option_or (first_line_fault layout [] lines) (whole_fault layout given text)) (judged_from (text_lines text) above rest line now)
    ∙ ap (λ o. option_or o (whole_fault layout given text)) (first-append layout [] above _ faultless ∙ first_here layout above _ line kind h)

-- the lines of the model are those above ENDATA
pub model_lines_found : (text : List ℕ) (above rest : List Line) (line : Line) → IsScanned (text_lines text) above (line ∷ rest) → begins ENDATA line ≡ true
    → model_lines text ≡ above
model_lines_found text above rest line now ends =
    ap (before_first (begins ENDATA)) (sym now.whole)
    ∙ before-append (begins ENDATA) above (line ∷ rest) now.unended
    ∙ ap (λ l. above ++ l) (before-cons (begins ENDATA) line rest ∙ ap (λ b. cond b [] (line ∷ before_first (begins ENDATA) rest)) ends)
    ∙ append-nil above

-- at ENDATA, where no line has a fault: what stands behind it is not judged
pub end_found : (layout : Layout) (given : Option ℤ) (text : List ℕ) (above rest : List Line) (line : Line)
    → IsScanned (text_lines text) above (line ∷ rest) → first_line_fault layout [] above ≡ None → line_fault layout above line ≡ None → begins ENDATA line ≡ true
    → meaning layout given text ≡ unless_fault (stated given (tables_of layout above)) (first_column_fault given (tables_of layout above))
unfolding meaning fault_at means
end_found layout given text above rest line now faultless h ends =
    let lines = text_lines text in
    let judged = judged_from lines above rest line now ∙ ap (λ b. above ++ line ∷ cond b [] (up_to (begins ENDATA) rest)) ends in
    let clean = ap (first_line_fault layout []) judged ∙ faultless_more layout above line faultless h in
    let ended = ap (list_any (begins ENDATA)) (sym now.whole) ∙ list_any-append (begins ENDATA) above (line ∷ rest)
    ∙ or_right (list_any (begins ENDATA) above) (list_any (begins ENDATA) (line ∷ rest)) (or_left (begins ENDATA line) (list_any (begins ENDATA) rest) ends) in
    let model = model_lines_found text above rest line now ends in
    ap (λ o. unless_fault (means layout given text) (option_or o (whole_fault layout given text))) clean
    ∙ ap (λ b. unless_fault (means layout given text) (cond b (first_column_fault given (tables_of layout (model_lines text))) (Some (fault_on (length lines) faults.NoEnd)))) ended
    ∙ ap (λ l. unless_fault (stated given (tables_of layout l)) (first_column_fault given (tables_of layout l))) model

-- at the end, where ENDATA did not come
pub no_end_found : (layout : Layout) (given : Option ℤ) (text : List ℕ) (above : List Line)
    → IsScanned (text_lines text) above [] → first_line_fault layout [] above ≡ None
    → fault_at layout given text ≡ Some (fault_on (length above) faults.NoEnd)
unfolding fault_at
no_end_found layout given text above now faultless =
    let lines = text_lines text in
    let same = sym now.whole ∙ append-nil above in
    let judged = ap (up_to (begins ENDATA)) (sym now.whole) ∙ up_to-append (begins ENDATA) above [] now.unended ∙ append-nil above in
    ap (λ l. option_or (first_line_fault layout [] l) (whole_fault layout given text)) judged
    ∙ ap (λ o. option_or o (whole_fault layout given text)) faultless
    ∙ ap (λ l. cond (list_any (begins ENDATA) l) (first_column_fault given (tables_of layout (model_lines text))) (Some (fault_on (length l) faults.NoEnd))) same
    ∙ ap (λ b. cond b (first_column_fault given (tables_of layout (model_lines text))) (Some (fault_on (length above) faults.NoEnd))) now.unended

-- the fault of a text is what it means
pub fault_is_meaning : (layout : Layout) (given : Option ℤ) (text : List ℕ) (fault : TextFault) → fault_at layout given text ≡ Some fault → meaning layout given text ≡ Err fault
unfolding meaning
fault_is_meaning layout given text fault h = ap (unless_fault (means layout given text)) h
