-- A line passes to one place at most, has no fault where it passes, and has one kind of fault at most.
use Rattle.std.proofs.Common.{◌≡◌, ◌≢◌, ℕ, ◌*◌, ◌^◌, ◌<◌, ◌≤◌, ℤ, List, [], ◌∷◌, length, get_or, map, All, codes, Option, Some, None, refl, sym, ap, subst, ◌∙◌, arith, inl, inr}
use Rattle.std.specs.Fmt.{signed_decimal}
use Rattle.std.proofs.lemmas.List.Elements.{All-nil, All-cons, All-head, All-tail}
use Rattle.whole_rows.specs.WholeRows.{WholeRows, IsWithinLimits, span}
use Rattle.farkas_rows.specs.declared.line.CutUse.{CutUse}
use Rattle.farkas_rows.specs.declared.line.Line.{Line}
use Rattle.farkas_rows.specs.declared.path.Slice.{Slice}
use Rattle.farkas_rows.specs.Inequalities.{Inequality}
use Rattle.farkas_rows.specs.Refutes.{Refutes}
use Rattle.proof_tree.specs.declared.tree.Mark.{Mark}
use Rattle.proof_tree.specs.Trees.{IsOfSize, CutHolds}
use Rattle.proof_text.specs.declared.claim.Claim.{Claim}
use Rattle.proof_text.specs.declared.claim.Claim.TheVariants as claims
use Rattle.proof_text.specs.Spelling.{claim_line}
use Rattle.proof_text.specs.Shapes.{IsNumberWord, HasLineShape, HasSplitShape}
use Rattle.proof_text.specs.TokenLaws.{signed-number_word}
use Rattle.proof_text.specs.OneLine.{one_line}
use Rattle.proof_text.specs.OneSplit.{value_of_size, IsSmallSplit, same_split}
use Rattle.proof_text.specs.OneReading.{same_claim}
use Rattle.proof_text.specs.PrintedShapes.{spelled_line-shape, spelled_split-shape}
use Rattle.tree_checker.specs.declared.verdict.RejectKind.{RejectKind}
use Rattle.tree_checker.specs.declared.verdict.RejectKind.TheVariants as kinds
use Rattle.tree_checker.specs.Accepts.{IsClaim, last_of}
use Rattle.tree_checker.specs.Stages.{OpenSplit, Opening, Stage, at_head, at_claim, at_node, at_below, at_above, at_done, at_end, path_of}
use Rattle.tree_checker.specs.Lines.{SpellsLineOn, SpellsClosing, IsLight, MayUseCut, IsFaultOn}
use Rattle.tree_checker.specs.Passes.{opening_line, IsOpening, PassesTo}
use Rattle.tree_checker.specs.Faults.{IsPrintableOpening, IsTooDeep, IsSplitFault, IsNodeFault, IsFault}
use Rattle.tree_checker.specs.Written.{line_printable, claim_printable}
use Rattle.tree_checker.proofs.Completes.{HasRoom, length-path_of}
use Rattle.tree_checker.proofs.Unbroken.{opening_printable}

-- ---- a text opens one split at most

abbrev opening_with : Mark → List ℤ → ℤ → ℤ → Opening
opening_with mark form lo count = record { mark = mark; form = form; lo = lo; count = count }

abbrev AreSmall : List ℤ → Type 0
AreSmall form = All (IsOfSize (2 ^ 96)) form

number_words : (x : List ℤ) → AreSmall x → All IsNumberWord (map signed_decimal x)
number_words [] h = All-nil IsNumberWord
number_words (z ∷ x) h = All-cons IsNumberWord (signed_decimal z) (map signed_decimal x) (signed-number_word z (value_of_size z (All-head (IsOfSize (2 ^ 96)) z x h))) (number_words x (All-tail (IsOfSize (2 ^ 96)) z x h))

-- texts that begin with other bytes differ
begins : (byte other : ℕ) (text front back : List ℕ) → byte ≢ other → text ≡ byte ∷ front → text ≡ other ∷ back → ⊥
begins byte other text front back apart e d = apart (ap (λ t. get_or t 0 0) (sym e ∙ d))

-- the cut of a line that closes may be used
may_use : (last : Option ℤ) (cut : Option CutUse) → CutHolds last cut → MayUseCut last cut
may_use last None h = tt
may_use last (Some cut) h = h.0

module _ (rows : WholeRows) (limits : IsWithinLimits rows) where
  opening_same : (opening other : Opening) → IsPrintableOpening rows opening → IsPrintableOpening rows other → opening_line opening ≡ opening_line other → opening ≡ other
  opening_same opening other h k e =
      let small : (one : Opening) → IsPrintableOpening rows one → IsSmallSplit one.lo one.count one.form = λ one is. record { first = is.lo; slices = is.count; factors = is.factors; narrow = omega (arith, is.dense, limits.few_columns) } in
      let same = same_split opening.mark other.mark opening.lo other.lo opening.count other.count opening.form other.form (h.dense ∙ sym k.dense) (small opening h) (small other k) e in
      ap (λ (mark : Mark). opening_with mark opening.form opening.lo opening.count) same.0
      ∙ ap (λ (form : List ℤ). opening_with other.mark form opening.lo opening.count) same.3
      ∙ ap (λ (lo : ℤ). opening_with other.mark other.form lo opening.count) same.1
      ∙ ap (λ (count : ℤ). opening_with other.mark other.form other.lo count) same.2

  -- ---- a text claims one thing at most

  claim_same : (claim other : Claim) → IsClaim rows claim → IsClaim rows other → claim_line claim ≡ claim_line other → claim ≡ other
  claim_same claim other h k e = same_claim rows claim other (claim_printable rows claim limits h) (claim_printable rows other limits k) e

  -- ---- a line passes to one place at most

  pub passes_once : (stage next other : Stage) (line : List ℕ) → PassesTo rows stage line next → PassesTo rows stage line other → next ≡ other
  passes_once at_head next other line p q = p.1 ∙ sym q.1
  passes_once at_claim next other line p q = p.3 ∙ ap (λ (claim : Claim). at_node claim []) (claim_same p.0 q.0 p.2 q.2 (sym p.1 ∙ q.1)) ∙ sym q.3
  passes_once (at_node claimed splits) next other line (inl p) (inl q) = p.1 ∙ sym q.1
  passes_once (at_node claimed splits) next other line (inl p) (inr q) = absurd (begins 69 83 line _ _ (λ d. omega (arith, d)) p.0.1 q.1)
  passes_once (at_node claimed splits) next other line (inr p) (inl q) = absurd (begins 83 69 line _ _ (λ d. omega (arith, d)) p.1 q.0.1)
  passes_once (at_node claimed splits) next other line (inr p) (inr q) =
      p.3 ∙ ap (λ (opening : Opening). at_below claimed splits opening) (opening_same p.0 q.0 (opening_printable rows limits p.0 p.2) (opening_printable rows limits q.0 q.2) (sym p.1 ∙ q.1)) ∙ sym q.3
  passes_once (at_below claimed splits opening) next other line p q = p.1 ∙ sym q.1
  passes_once (at_above claimed splits opening) next other line p q = p.1 ∙ sym q.1
  passes_once (at_done claimed) next other line p q = p.1 ∙ sym q.1
  passes_once (at_end claimed) next other line p q = absurd p

  -- ---- a line of multipliers

  module _ (last : Option ℤ) (path : List Slice) (end : Option Inequality) (short : length path ≤ 2 * length rows.box) (first : ℕ) (text : List ℕ) where
    same_line : (line other : Line) → SpellsLineOn rows path end (first ∷ []) text line → SpellsLineOn rows path end (first ∷ []) text other → line ≡ other
    same_line line other s t = one_line rows path end first text line other limits.few_rows limits.few_columns (omega (arith, short, limits.few_columns)) s.1 t.1 s.0 t.0

    -- that closes has no fault
    closing_right : (kind : RejectKind) → SpellsClosing rows last path end (first ∷ []) text → IsFaultOn rows last path end (first ∷ []) text kind → ⊥
    closing_right kinds.Record closing h = h (spelled_line-shape rows path end (first ∷ []) text closing.0 closing.1 (line_printable rows last path end closing.0 closing.2))
    closing_right kinds.Number closing h = h.1 closing.0 (closing.1, line_printable rows last path end closing.0 closing.2)
    closing_right kinds.Weight closing h =
        let same = same_line closing.0 h.0 (closing.1, line_printable rows last path end closing.0 closing.2) h.1 in
        h.2 (subst (IsLight rows path end) same closing.2.refutes.light)
    closing_right kinds.Cut closing h =
        let same = same_line closing.0 h.0 (closing.1, line_printable rows last path end closing.0 closing.2) h.1 in
        h.3 (subst (λ (line : Line). MayUseCut last line.cut) same (may_use last closing.0.cut closing.2.cut))
    closing_right kinds.Refute closing h =
        let same = same_line closing.0 h.0 (closing.1, line_printable rows last path end closing.0 closing.2) h.1 in
        h.4 (subst (Refutes rows path end) same closing.2.refutes)
    closing_right _ closing h = absurd h

    -- has one kind of fault at most: later kinds have its shape, and its line
    shape_of : (kind : RejectKind) → kind ≢ kinds.Record → IsFaultOn rows last path end (first ∷ []) text kind → HasLineShape (first ∷ []) text
    shape_of kinds.Record other h = absurd (other refl)
    shape_of kinds.Number other h = h.0
    shape_of kinds.Weight other h = spelled_line-shape rows path end (first ∷ []) text h.0 h.1.0 h.1.1
    shape_of kinds.Cut other h = spelled_line-shape rows path end (first ∷ []) text h.0 h.1.0 h.1.1
    shape_of kinds.Refute other h = spelled_line-shape rows path end (first ∷ []) text h.0 h.1.0 h.1.1
    shape_of _ other h = absurd h

    abbrev Fault : RejectKind → Type 0
    Fault kind = IsFaultOn rows last path end (first ∷ []) text kind

    record_once : (kind : RejectKind) → Fault kinds.Record → Fault kind → kinds.Record ≡ kind
    record_once kinds.Record h k = refl
    record_once kinds.Number h k = absurd (h k.0)
    record_once kinds.Weight h k = absurd (h (shape_of kinds.Weight (λ e. absurd cc) k))
    record_once kinds.Cut h k = absurd (h (shape_of kinds.Cut (λ e. absurd cc) k))
    record_once kinds.Refute h k = absurd (h (shape_of kinds.Refute (λ e. absurd cc) k))
    record_once _ h k = absurd k

    number_once : (kind : RejectKind) → Fault kinds.Number → Fault kind → kinds.Number ≡ kind
    number_once kinds.Record h k = absurd (k h.0)
    number_once kinds.Number h k = refl
    number_once kinds.Weight h k = absurd (h.1 k.0 k.1)
    number_once kinds.Cut h k = absurd (h.1 k.0 k.1)
    number_once kinds.Refute h k = absurd (h.1 k.0 k.1)
    number_once _ h k = absurd k

    weight_once : (kind : RejectKind) → Fault kinds.Weight → Fault kind → kinds.Weight ≡ kind
    weight_once kinds.Record h k = sym (record_once kinds.Weight k h)
    weight_once kinds.Number h k = sym (number_once kinds.Weight k h)
    weight_once kinds.Weight h k = refl
    weight_once kinds.Cut h k = absurd (h.2 (subst (IsLight rows path end) (same_line k.0 h.0 k.1 h.1) k.2))
    weight_once kinds.Refute h k = absurd (h.2 (subst (IsLight rows path end) (same_line k.0 h.0 k.1 h.1) k.2))
    weight_once _ h k = absurd k

    cut_once : (kind : RejectKind) → Fault kinds.Cut → Fault kind → kinds.Cut ≡ kind
    cut_once kinds.Record h k = sym (record_once kinds.Cut k h)
    cut_once kinds.Number h k = sym (number_once kinds.Cut k h)
    cut_once kinds.Weight h k = sym (weight_once kinds.Cut k h)
    cut_once kinds.Cut h k = refl
    cut_once kinds.Refute h k = absurd (h.3 (subst (λ (line : Line). MayUseCut last line.cut) (same_line k.0 h.0 k.1 h.1) k.3))
    cut_once _ h k = absurd k

    refute_once : (kind : RejectKind) → Fault kinds.Refute → Fault kind → kinds.Refute ≡ kind
    refute_once kinds.Record h k = sym (record_once kinds.Refute k h)
    refute_once kinds.Number h k = sym (number_once kinds.Refute k h)
    refute_once kinds.Weight h k = sym (weight_once kinds.Refute k h)
    refute_once kinds.Cut h k = sym (cut_once kinds.Refute k h)
    refute_once kinds.Refute h k = refl
    refute_once _ h k = absurd k

    line_once : (kind other : RejectKind) → Fault kind → Fault other → kind ≡ other
    line_once kinds.Record other h k = record_once other h k
    line_once kinds.Number other h k = number_once other h k
    line_once kinds.Weight other h k = weight_once other h k
    line_once kinds.Cut other h k = cut_once other h k
    line_once kinds.Refute other h k = refute_once other h k
    line_once _ other h k = absurd h

  -- ---- the first line of a split

  -- that opens one has no fault
  opening_right : (splits : List OpenSplit) (opening : Opening) (text : List ℕ) (kind : RejectKind) → text ≡ opening_line opening → IsOpening rows splits opening → IsSplitFault rows splits text kind → ⊥
  opening_right splits opening text kinds.Number e is h = h opening (e, opening_printable rows limits opening is)
  opening_right splits opening text kinds.Depth e is h =
      let same = opening_same h.0 opening h.1.1 (opening_printable rows limits opening is) (sym h.1.0 ∙ e) in
      let deep : IsTooDeep rows splits opening = subst (IsTooDeep rows splits) same h.2 in
      omega (arith, deep.0, is.room deep.1)
  opening_right splits opening text kinds.Weight e is h =
      let same = opening_same h.0 opening h.1.1 (opening_printable rows limits opening is) (sym h.1.0 ∙ e) in
      let heavy : 2 ^ 96 < span opening.form rows.box = subst (λ (one : Opening). 2 ^ 96 < span one.form rows.box) same h.3 in
      omega (arith, heavy, is.form.light)
  opening_right splits opening text _ e is h = absurd h

  -- has one kind of fault at most
  deep_light : (splits : List OpenSplit) (text : List ℕ) → IsSplitFault rows splits text kinds.Depth → IsSplitFault rows splits text kinds.Weight → ⊥
  deep_light splits text h k = k.2 (subst (IsTooDeep rows splits) (opening_same h.0 k.0 h.1.1 k.1.1 (sym h.1.0 ∙ k.1.0)) h.2)

  split_once : (splits : List OpenSplit) (text : List ℕ) (kind other : RejectKind) → IsSplitFault rows splits text kind → IsSplitFault rows splits text other → kind ≡ other
  split_once splits text kinds.Number kinds.Number h k = refl
  split_once splits text kinds.Number kinds.Depth h k = absurd (h k.0 k.1)
  split_once splits text kinds.Number kinds.Weight h k = absurd (h k.0 k.1)
  split_once splits text kinds.Number _ h k = absurd k
  split_once splits text kinds.Depth kinds.Number h k = absurd (k h.0 h.1)
  split_once splits text kinds.Depth kinds.Depth h k = refl
  split_once splits text kinds.Depth kinds.Weight h k = absurd (deep_light splits text h k)
  split_once splits text kinds.Depth _ h k = absurd k
  split_once splits text kinds.Weight kinds.Number h k = absurd (k h.0 h.1)
  split_once splits text kinds.Weight kinds.Depth h k = absurd (deep_light splits text k h)
  split_once splits text kinds.Weight kinds.Weight h k = refl
  split_once splits text kinds.Weight _ h k = absurd k
  split_once splits text _ other h k = absurd h

  -- the shapes of a line and of a split exclude each other
  shapes_apart : (text : List ℕ) → HasLineShape (codes "E") text → HasSplitShape text → ⊥
  shapes_apart text line split = begins 69 83 text _ _ (λ d. omega (arith, d)) line.1 split.spelled

  -- a line that opens a split has the shape of one
  opening_shape : (opening : Opening) (text : List ℕ) → text ≡ opening_line opening → IsPrintableOpening rows opening → HasSplitShape text
  opening_shape opening text e h = spelled_split-shape opening.mark opening.lo opening.count opening.form text e h.some

  -- ---- a line at its place

  short_path : (splits : List OpenSplit) → length splits ≤ 2 * length rows.box → length (path_of splits) ≤ 2 * length rows.box
  short_path splits room = omega (arith, room, length-path_of splits)

  claim_right : (claim : Claim) (text : List ℕ) (kind : RejectKind) → text ≡ claim_line claim → IsClaim rows claim → IsFault rows at_claim text kind → ⊥
  claim_right claims.Infeasible text kinds.Claim e is h = h.0 e
  claim_right (claims.Optimal x) text kinds.Claim e is h = h.1 (map signed_decimal x, e, number_words x (claim_printable rows (claims.Optimal x) limits is).1)
  claim_right claims.Open text kinds.Claim e is h = absurd is
  claim_right claims.Infeasible text kinds.Point e is h = begins 73 79 text _ _ (λ d. omega (arith, d)) e h.0.1
  claim_right (claims.Optimal x) text kinds.Point e is h = h.1 x e is
  claim_right claims.Open text kinds.Point e is h = absurd is
  claim_right claim text _ e is h = absurd h

  claim_once : (text : List ℕ) (kind other : RejectKind) → IsFault rows at_claim text kind → IsFault rows at_claim text other → kind ≡ other
  claim_once text kinds.Claim kinds.Claim h k = refl
  claim_once text kinds.Claim kinds.Point h k = absurd (h.1 k.0)
  claim_once text kinds.Claim _ h k = absurd k
  claim_once text kinds.Point kinds.Claim h k = absurd (k.1 h.0)
  claim_once text kinds.Point kinds.Point h k = refl
  claim_once text kinds.Point _ h k = absurd k
  claim_once text _ other h k = absurd h

  module _ (claimed : Claim) (splits : List OpenSplit) (room : length splits ≤ 2 * length rows.box) (text : List ℕ) where
    abbrev Closing : Type 0
    Closing = SpellsClosing rows (last_of rows claimed) (path_of splits) None (codes "E") text

    closing_shape : Closing → HasLineShape (codes "E") text
    closing_shape closing = spelled_line-shape rows (path_of splits) None (codes "E") text closing.0 closing.1 (line_printable rows (last_of rows claimed) (path_of splits) None closing.0 closing.2)

    node_closed : (kind : RejectKind) → Closing → IsNodeFault rows claimed splits text kind → ⊥
    node_closed kind closing (inl h) = closing_right (last_of rows claimed) (path_of splits) None (short_path splits room) 69 text kind closing h.1
    node_closed kind closing (inr (inl h)) = shapes_apart text (closing_shape closing) h.0
    node_closed kind closing (inr (inr h)) = h.1 (closing_shape closing)

    node_opened : (kind : RejectKind) (opening : Opening) → text ≡ opening_line opening → IsOpening rows splits opening → IsNodeFault rows claimed splits text kind → ⊥
    node_opened kind opening e is (inl h) = shapes_apart text h.0 (opening_shape opening text e (opening_printable rows limits opening is))
    node_opened kind opening e is (inr (inl h)) = opening_right splits opening text kind e is h.1
    node_opened kind opening e is (inr (inr h)) = h.2 (opening_shape opening text e (opening_printable rows limits opening is))

    node_once : (kind other : RejectKind) → IsNodeFault rows claimed splits text kind → IsNodeFault rows claimed splits text other → kind ≡ other
    node_once kind other (inl h) (inl k) = line_once (last_of rows claimed) (path_of splits) None (short_path splits room) 69 text kind other h.1 k.1
    node_once kind other (inl h) (inr (inl k)) = absurd (shapes_apart text h.0 k.0)
    node_once kind other (inl h) (inr (inr k)) = absurd (k.1 h.0)
    node_once kind other (inr (inl h)) (inl k) = absurd (shapes_apart text k.0 h.0)
    node_once kind other (inr (inl h)) (inr (inl k)) = split_once splits text kind other h.1 k.1
    node_once kind other (inr (inl h)) (inr (inr k)) = absurd (k.2 h.0)
    node_once kind other (inr (inr h)) (inl k) = absurd (h.1 k.0)
    node_once kind other (inr (inr h)) (inr (inl k)) = absurd (h.2 k.0)
    node_once kind other (inr (inr h)) (inr (inr k)) = h.0 ∙ sym k.0

  -- where it passes it has no fault
  pub passes_right : (stage next : Stage) (line : List ℕ) (kind : RejectKind) → HasRoom rows stage → PassesTo rows stage line next → IsFault rows stage line kind → ⊥
  passes_right at_head next line kind room p h = h.1 p.0
  passes_right at_claim next line kind room p h = claim_right p.0 line kind p.1 p.2 h
  passes_right (at_node claimed splits) next line kind room (inl p) h = node_closed claimed splits room line kind p.0 h
  passes_right (at_node claimed splits) next line kind room (inr p) h = node_opened claimed splits room line kind p.0 p.1 p.2 h
  passes_right (at_below claimed splits opening) next line kind room p h = closing_right (last_of rows claimed) (path_of splits) _ (short_path splits room.0) 66 line kind p.0 h
  passes_right (at_above claimed splits opening) next line kind room p h = closing_right (last_of rows claimed) (path_of splits) _ (short_path splits room.0) 65 line kind p.0 h
  passes_right (at_done claimed) next line kind room p h = h.1 p.0
  passes_right (at_end claimed) next line kind room p h = p

  -- it has one kind of fault at most
  pub fault_once : (stage : Stage) (line : List ℕ) (kind other : RejectKind) → HasRoom rows stage → IsFault rows stage line kind → IsFault rows stage line other → kind ≡ other
  fault_once at_head line kind other room h k = h.0 ∙ sym k.0
  fault_once at_claim line kind other room h k = claim_once line kind other h k
  fault_once (at_node claimed splits) line kind other room h k = node_once claimed splits room line kind other h k
  fault_once (at_below claimed splits opening) line kind other room h k = line_once (last_of rows claimed) (path_of splits) _ (short_path splits room.0) 66 line kind other h k
  fault_once (at_above claimed splits opening) line kind other room h k = line_once (last_of rows claimed) (path_of splits) _ (short_path splits room.0) 65 line kind other h k
  fault_once (at_done claimed) line kind other room h k = h.0 ∙ sym k.0
  fault_once (at_end claimed) line kind other room h k = absurd h
