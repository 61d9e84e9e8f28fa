-- A text has one verdict at most.
use Rattle.std.proofs.Common.{◌≡◌, ◌≢◌, ℕ, suc, ◌<◌, ◌≤◌, List, [], ◌∷◌, ◌++◌, length, Option, Some, None, refl, sym, ap, subst, ◌∙◌, arith, append_assoc, append-nil, inl, inr, ◌⊎◌}
use Rattle.std.proofs.lemmas.List.Elements.{All-head, All-tail}
use Rattle.whole_rows.specs.WholeRows.{WholeRows, IsWithinLimits}
use Rattle.proof_text.specs.declared.claim.Claim.{Claim}
use Rattle.proof_text.specs.Spelling.{in_lines}
use Rattle.tree_checker.specs.declared.verdict.RejectKind.{RejectKind}
use Rattle.tree_checker.specs.declared.verdict.RejectKind.TheVariants as kinds
use Rattle.tree_checker.specs.declared.verdict.Reject.{Reject}
use Rattle.tree_checker.specs.declared.verdict.Verdict.{Verdict}
use Rattle.tree_checker.specs.declared.verdict.Verdict.TheVariants as verdicts
use Rattle.tree_checker.specs.Accepts.{longest, Accepts}
use Rattle.tree_checker.specs.Stages.{Stage, at_head, at_end}
use Rattle.tree_checker.specs.Passes.{PassesTo, PassTo}
use Rattle.tree_checker.specs.Faults.{IsFault}
use Rattle.tree_checker.specs.Rejects.{IsLine, IsTail, IsCutShort, IsRefused, RejectsAt}
use Rattle.tree_checker.specs.Verdicts.{IsVerdict}
use Rattle.tree_checker.proofs.Completes.{HasRoom, roomy}
use Rattle.tree_checker.proofs.Texts.{accepted_passes}
use Rattle.tree_checker.proofs.Unbroken.{unbroken}
use Rattle.tree_checker.proofs.OneStep.{passes_once, passes_right, fault_once}

-- ---- lines of a text

-- a line has no line feed
no_feed : (line more : List ℕ) → IsLine (line ++ 10 ∷ more) → ⊥
no_feed [] more h = All-head (λ byte. byte ≢ 10) 10 more h refl
no_feed (byte ∷ line) more h = no_feed line more (All-tail (λ other. other ≢ 10) byte (line ++ 10 ∷ more) h)

-- what stands in front of the first line feed, and behind it
same_front : (line other more rest : List ℕ) → IsLine line → IsLine other → line ++ 10 ∷ more ≡ other ++ 10 ∷ rest → (line ≡ other) × (more ≡ rest)
same_front [] [] more rest h k e = (refl, cc)
same_front [] (byte ∷ other) more rest h k e = absurd (All-head (λ b. b ≢ 10) byte other k (cc))
same_front (byte ∷ line) [] more rest h k e = absurd (All-head (λ b. b ≢ 10) byte line h (cc))
same_front (byte ∷ line) (next ∷ other) more rest h k e =
    let behind : line ++ 10 ∷ more ≡ other ++ 10 ∷ rest = cc in
    let same = same_front line other more rest (All-tail (λ b. b ≢ 10) byte line h) (All-tail (λ b. b ≢ 10) next other k) behind in
    let head : byte ≡ next = cc in
    (cc (head, same.0), same.1)

-- the first line of lines, and what is behind it
first_line : (line : List ℕ) (lines : List (List ℕ)) (rest : List ℕ) → in_lines (line ∷ lines) ++ rest ≡ line ++ 10 ∷ (in_lines lines ++ rest)
first_line line lines rest = append_assoc (line ++ 10 ∷ []) (in_lines lines) rest ∙ append_assoc line (10 ∷ []) (in_lines lines ++ rest)

-- ---- how a text ends

-- all lines pass, or what comes behind those that pass is refused
abbrev EndsWith : WholeRows → Stage → List ℕ → Option RejectKind → Type 0
EndsWith rows stage rest None = (claim : Claim) × (stage ≡ at_end claim) × (rest ≡ [])
EndsWith rows stage rest (Some kind) = ((claim : Claim) × (stage ≡ at_end claim) × (rest ≢ []) × IsTail rest kind)
    ⊎ (((claim : Claim) → stage ≢ at_end claim) × (IsCutShort rest kind ⊎ IsRefused rows stage rest kind))

-- the part of a text in front of its first line feed, or all of it
front_same : (line other more rest : List ℕ) → IsLine line → IsLine other → line ++ more ≡ other ++ rest → (more ≡ []) ⊎ ((next : List ℕ) × (more ≡ 10 ∷ next)) → (rest ≡ []) ⊎ ((next : List ℕ) × (rest ≡ 10 ∷ next)) → line ≡ other
front_same line other more rest h k e (inl p) (inl q) = sym (append-nil line) ∙ ap (λ t. line ++ t) (sym p) ∙ e ∙ ap (λ t. other ++ t) q ∙ append-nil other
front_same line other more rest h k e (inl p) (inr q) =
    let whole : line ≡ other ++ 10 ∷ q.0 = sym (append-nil line) ∙ ap (λ t. line ++ t) (sym p) ∙ e ∙ ap (λ t. other ++ t) q.1 in
    absurd (no_feed other q.0 (subst IsLine whole h))
front_same line other more rest h k e (inr p) (inl q) =
    let whole : other ≡ line ++ 10 ∷ p.0 = sym (append-nil other) ∙ ap (λ t. other ++ t) (sym q) ∙ sym e ∙ ap (λ t. line ++ t) p.1 in
    absurd (no_feed line p.0 (subst IsLine whole k))
front_same line other more rest h k e (inr p) (inr q) = (same_front line other p.0 q.0 h k (ap (λ t. line ++ t) (sym p.1) ∙ e ∙ ap (λ t. other ++ t) q.1)).0

-- a kind for lines that are too long, and one for others
by_length : (kind k j : RejectKind) (n m : ℕ) → n ≡ m → ((k ≡ kinds.LongLine) × (longest < n)) ⊎ ((k ≡ kind) × (n ≤ longest)) → ((j ≡ kinds.LongLine) × (longest < m)) ⊎ ((j ≡ kind) × (m ≤ longest)) → k ≡ j
by_length kind k j n m e (inl p) (inl q) = p.0 ∙ sym q.0
by_length kind k j n m e (inl p) (inr q) = absurd (omega (arith, e, p.1, q.1))
by_length kind k j n m e (inr p) (inl q) = absurd (omega (arith, e, p.1, q.1))
by_length kind k j n m e (inr p) (inr q) = p.0 ∙ sym q.0

tail_once : (rest : List ℕ) (kind other : RejectKind) → IsTail rest kind → IsTail rest other → kind ≡ other
tail_once rest kind other h k = by_length kinds.Tail kind other (length h.0) (length k.0) (ap length (front_same h.0 k.0 h.1 k.1 h.3 k.3 (sym h.2 ∙ k.2) h.4 k.4)) h.5 k.5

cut_once : (rest : List ℕ) (kind other : RejectKind) → IsCutShort rest kind → IsCutShort rest other → kind ≡ other
cut_once rest kind other h k = by_length kinds.Short kind other (length rest) (length rest) refl h.1 k.1

module _ (rows : WholeRows) (limits : IsWithinLimits rows) where
  refused_by : (stage : Stage) (line other : List ℕ) (kind j : RejectKind) → HasRoom rows stage → line ≡ other → ((kind ≡ kinds.LongLine) × (longest < length line)) ⊎ ((length line ≤ longest) × IsFault rows stage line kind) → ((j ≡ kinds.LongLine) × (longest < length other)) ⊎ ((length other ≤ longest) × IsFault rows stage other j) → kind ≡ j
  refused_by stage line other kind j room e (inl p) (inl q) = p.0 ∙ sym q.0
  refused_by stage line other kind j room e (inl p) (inr q) = absurd (omega (arith, ap length e, p.1, q.0))
  refused_by stage line other kind j room e (inr p) (inl q) = absurd (omega (arith, ap length e, p.0, q.1))
  refused_by stage line other kind j room e (inr p) (inr q) = fault_once rows limits stage other kind j room (subst (λ text. IsFault rows stage text kind) e p.1) q.1

  refused_once : (stage : Stage) (rest : List ℕ) (kind other : RejectKind) → HasRoom rows stage → IsRefused rows stage rest kind → IsRefused rows stage rest other → kind ≡ other
  refused_once stage rest kind other room h k = refused_by stage h.0 k.0 kind other room (same_front h.0 k.0 h.1 k.1 h.3 k.3 (sym h.2 ∙ k.2)).0 h.4 k.4

  -- what is cut short has no line feed, and what is refused has one
  cut_refused : (stage : Stage) (rest : List ℕ) (kind other : RejectKind) → IsCutShort rest kind → IsRefused rows stage rest other → ⊥
  cut_refused stage rest kind other h k = no_feed k.0 k.1 (subst IsLine k.2 h.0)

  fault_ends : (stage : Stage) (rest : List ℕ) (kind other : RejectKind) → HasRoom rows stage → IsCutShort rest kind ⊎ IsRefused rows stage rest kind → IsCutShort rest other ⊎ IsRefused rows stage rest other → kind ≡ other
  fault_ends stage rest kind other room (inl h) (inl k) = cut_once rest kind other h k
  fault_ends stage rest kind other room (inl h) (inr k) = absurd (cut_refused stage rest kind other h k)
  fault_ends stage rest kind other room (inr h) (inl k) = absurd (cut_refused stage rest other kind k h)
  fault_ends stage rest kind other room (inr h) (inr k) = refused_once stage rest kind other room h k

  -- a text ends in one way
  ends_once : (stage : Stage) (rest : List ℕ) (end other : Option RejectKind) → HasRoom rows stage → EndsWith rows stage rest end → EndsWith rows stage rest other → end ≡ other
  ends_once stage rest None None room h k = refl
  ends_once stage rest None (Some kind) room h (inl k) = absurd (k.2 h.2)
  ends_once stage rest None (Some kind) room h (inr k) = absurd (k.0 h.0 h.1)
  ends_once stage rest (Some kind) None room (inl h) k = absurd (h.2 k.2)
  ends_once stage rest (Some kind) None room (inr h) k = absurd (h.0 k.0 k.1)
  ends_once stage rest (Some kind) (Some other) room (inl h) (inl k) = ap Some (tail_once rest kind other h.3 k.3)
  ends_once stage rest (Some kind) (Some other) room (inl h) (inr k) = absurd (k.0 h.0 h.1)
  ends_once stage rest (Some kind) (Some other) room (inr h) (inl k) = absurd (h.0 k.0 k.1)
  ends_once stage rest (Some kind) (Some other) room (inr h) (inr k) = ap Some (fault_ends stage rest kind other room h.1 k.1)

  -- no line passes at the end
  none_passes : (stage next : Stage) (claim : Claim) (line : List ℕ) → stage ≡ at_end claim → PassesTo rows stage line next → ⊥
  none_passes stage next claim line e p = subst (λ (s : Stage). PassesTo rows s line next) e p

  -- nor where a text ends
  not_refused : (stage next : Stage) (line text : List ℕ) (kind : RejectKind) → HasRoom rows stage → length line ≤ longest → PassesTo rows stage line next → line ≡ text → ((kind ≡ kinds.LongLine) × (longest < length text)) ⊎ ((length text ≤ longest) × IsFault rows stage text kind) → ⊥
  not_refused stage next line text kind room short p e (inl h) = omega (arith, ap length e, h.1, short)
  not_refused stage next line text kind room short p e (inr h) = passes_right rows limits stage next line kind room p (subst (λ t. IsFault rows stage t kind) (sym e) h.1)

  goes_on : (stage next : Stage) (line rest more : List ℕ) (end : Option RejectKind) → HasRoom rows stage → length line ≤ longest → PassesTo rows stage line next → rest ≡ line ++ 10 ∷ more → EndsWith rows stage rest end → ⊥
  goes_on stage next line rest more None room short p e h = none_passes stage next h.0 line h.1 p
  goes_on stage next line rest more (Some kind) room short p e (inl h) = none_passes stage next h.0 line h.1 p
  goes_on stage next line rest more (Some kind) room short p e (inr h) = by h.1
    where
      by : IsCutShort rest kind ⊎ IsRefused rows stage rest kind → ⊥
      by (inl k) = no_feed line more (subst IsLine e k.0)
      by (inr k) = not_refused stage next line k.0 kind room short p (same_front line k.0 more k.1 (unbroken rows limits stage next line room p) k.3 (sym e ∙ k.2)).0 k.4

  -- ---- the lines of a text

  pub record AreSame (lines others : List (List ℕ)) (stage other : Stage) (end last : Option RejectKind) : Type 0 where
    pub count : length lines ≡ length others
    pub place : stage ≡ other
    pub outcome : end ≡ last

  lines_once : (from : Stage) (lines others : List (List ℕ)) (rest left : List ℕ) (stage other : Stage) (end last : Option RejectKind) → HasRoom rows from → in_lines lines ++ rest ≡ in_lines others ++ left → PassTo rows from lines stage → PassTo rows from others other → EndsWith rows stage rest end → EndsWith rows other left last
      → AreSame lines others stage other end last
  lines_once from [] [] rest left stage other end last room e p q h k = record {
    count = refl;
    place = sym p ∙ q;
    outcome = ends_once from left end last room (subst (λ t. EndsWith rows from t end) e (subst (λ (s : Stage). EndsWith rows s rest end) (sym p) h)) (subst (λ (s : Stage). EndsWith rows s left last) (sym q) k);
  }
  lines_once from [] (line ∷ others) rest left stage other end last room e p q h k =
      absurd (goes_on from q.1 line rest (in_lines others ++ left) end room q.0 q.2 (e ∙ first_line line others left) (subst (λ (s : Stage). EndsWith rows s rest end) (sym p) h))
  lines_once from (line ∷ lines) [] rest left stage other end last room e p q h k =
      absurd (goes_on from p.1 line left (in_lines lines ++ rest) last room p.0 p.2 (sym e ∙ first_line line lines rest) (subst (λ (s : Stage). EndsWith rows s left last) (sym q) k))
  lines_once from (line ∷ lines) (text ∷ others) rest left stage other end last room e p q h k =
      let fronts = same_front line text (in_lines lines ++ rest) (in_lines others ++ left) (unbroken rows limits from p.1 line room p.2) (unbroken rows limits from q.1 text room q.2) (sym (first_line line lines rest) ∙ e ∙ first_line text others left) in
      let next : p.1 ≡ q.1 = passes_once rows limits from p.1 q.1 text (subst (λ t. PassesTo rows from t p.1) fronts.0 p.2) q.2 in
      let same = lines_once p.1 lines others rest left stage other end last (roomy rows from p.1 line room p.2) fronts.1 p.3 (subst (λ (s : Stage). PassTo rows s others other) (sym next) q.3) h k in
      record { count = ap suc same.count; place = same.place; outcome = same.outcome }

  -- ---- the law

  -- what a verdict says of the lines
  record Lines (text : List ℕ) (stage : Stage) (end : Option RejectKind) : Type 0 where
    lines : List (List ℕ)
    rest : List ℕ
    whole : text ≡ in_lines lines ++ rest
    passed : PassTo rows at_head lines stage
    ends : EndsWith rows stage rest end

  both : (text : List ℕ) (stage other : Stage) (end last : Option RejectKind) (a : Lines text stage end) (b : Lines text other last) → AreSame a.lines b.lines stage other end last
  both text stage other end last a b = lines_once at_head a.lines b.lines a.rest b.rest stage other end last tt (sym a.whole ∙ b.whole) a.passed b.passed a.ends b.ends

  accepted_lines : (text : List ℕ) (claim : Claim) → Accepts rows text claim → Lines text (at_end claim) None
  accepted_lines text claim accepts =
      let passes = accepted_passes rows text claim accepts in
      record { lines = passes.0; rest = []; whole = passes.1 ∙ sym (append-nil (in_lines passes.0)); passed = passes.2; ends = (claim, refl, refl) }

  abbrev rejected_lines : (text : List ℕ) (reject : Reject) (rejects : RejectsAt rows text reject) → Lines text rejects.stage (Some reject.kind)
  rejected_lines text reject rejects = record { lines = rejects.lines; rest = rejects.rest; whole = rejects.whole; passed = rejects.passed; ends = rejects.refused }

  reject_same : (reject other : Reject) → reject.kind ≡ other.kind → reject.line ≡ other.line → reject ≡ other
  reject_same reject other e d =
      ap (λ (kind : RejectKind). let made : Reject = record { kind = kind; line = reject.line } in made) e ∙ ap (λ (line : ℕ). let made : Reject = record { kind = other.kind; line = line } in made) d

  pub verdict_once : (text : List ℕ) (verdict other : Verdict) → IsVerdict rows text verdict → IsVerdict rows text other → verdict ≡ other
  verdict_once text (verdicts.Accepted claim) (verdicts.Accepted other) h k =
      let place = (both text (at_end claim) (at_end other) None None (accepted_lines text claim h) (accepted_lines text other k)).place in
      let same : claim ≡ other = cc in
      ap verdicts.Accepted same
  verdict_once text (verdicts.Accepted claim) (verdicts.Rejected other) h k =
      let outcome = (both text (at_end claim) k.stage None (Some other.kind) (accepted_lines text claim h) (rejected_lines text other k)).outcome in
      absurd cc
  verdict_once text (verdicts.Rejected reject) (verdicts.Accepted other) h k =
      let outcome = (both text h.stage (at_end other) (Some reject.kind) None (rejected_lines text reject h) (accepted_lines text other k)).outcome in
      absurd cc
  verdict_once text (verdicts.Rejected reject) (verdicts.Rejected other) h k =
      let same = both text h.stage k.stage (Some reject.kind) (Some other.kind) (rejected_lines text reject h) (rejected_lines text other k) in
      let outcome = same.outcome in
      let count : length h.lines ≡ length k.lines = same.count in
      let kind : reject.kind ≡ other.kind = cc in
      ap verdicts.Rejected (reject_same reject other kind (omega (arith, h.number, k.number, count)))

-- a text has one verdict at most
pub one_verdict_of : (rows : WholeRows) (text : List ℕ) (verdict other : Verdict) → IsWithinLimits rows → IsVerdict rows text verdict → IsVerdict rows text other → verdict ≡ other
one_verdict_of rows text verdict other limits h k = verdict_once rows limits text verdict other h k
