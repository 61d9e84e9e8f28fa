-- A tree that holds leaves no better point.
use Rattle.std.proofs.Common.{◌≡◌, ℕ, ℤ, pos, ◌+ℤ◌, ◌≤ℤ◌, ◌<ℤ◌, ◌^◌, List, [], ◌∷◌, length, ◌⊎◌, inl, inr, ◌∙◌}
use Rattle.std.specs.Prelude.{Option, Some, None, IfSome, All}
use Rattle.std.specs.Option.{IsSomeAnd}
use Rattle.std.proofs.lemmas.List.Elements.{All-nil, All-cons, All-append}
use Rattle.exact_math.specs.Ring.{integers}
use Rattle.exact_math.specs.IntegerRing.{linear}
use Rattle.exact_math.specs.IntegerOrder.{le_or_lt}
use Rattle.exact_vectors.specs.Vectors.{dot}
use Rattle.whole_rows.specs.WholeRows.{WholeRows, Meets, IsWithinLimits, cut_value, HasLeastCutValue}
use Rattle.farkas_rows.specs.declared.line.CutUse.{CutUse}
use Rattle.farkas_rows.specs.declared.line.Line.{Line}
use Rattle.farkas_rows.specs.declared.path.Slice.{Slice}
use Rattle.farkas_rows.specs.Inequalities.{Inequality, IsMetBy, below, above}
use Rattle.farkas_rows.specs.Refutes.{HasForms, IsOnPath, IsDense}
use Rattle.farkas_rows.specs.NodeLaws.{Refutes-no_point, at_least-met, length-negate}
use Rattle.proof_tree.specs.declared.tree.Tree.{Tree, Empty, Split', Row_of-Tree, end_of-Tree, more_of-Tree}
use Rattle.proof_tree.specs.Trees.{on_slice, IsOfSize, Closes, IsSplit, Holds, HoldEach}

-- a point with this cut value is not better than the last one: there is one, and its value is no higher
abbrev pub IsNoBetter : Option ℤ → ℤ → Type 0
IsNoBetter last value = IsSomeAnd last (λ least. least ≤ℤ value)

-- of a point either is true: it is no better, or it is below each cut that is kept
no_better_or : (last : Option ℤ) (value : ℤ) → IsNoBetter last value ⊎ ((cut : Option CutUse) → IfSome cut (λ (cut : CutUse). IsSomeAnd last (λ least. least ≤ℤ cut.value) × IsOfSize (2 ^ 97) cut.value) → IfSome cut (λ (cut : CutUse). value <ℤ cut.value))
no_better_or None value = inr (elim [ None ↦ λ h. tt | Some cut ↦ λ h. absurd h.0 ])
no_better_or (Some least) value = elim (le_or_lt least value) [ inl h ↦ inl h | inr h ↦ inr (elim [ None ↦ λ k. tt | Some cut ↦ λ k. omega (linear, k.0) ]) ]

-- a fact of each slice of the longer path
pub on_slice-each : (P : Slice → Type 0) (path : List Slice) (form : List ℤ) (beta : ℤ) → All P path → P (record { form = form; beta = beta }) → All P (on_slice path form beta)
on_slice-each P path form beta h k = All-append P path (record { form = form; beta = beta } ∷ []) h (All-cons P (record { form = form; beta = beta }) [] k (All-nil P))

-- the forms of the longer path
pub on_slice-forms : (columns : ℕ) (path : List Slice) (form : List ℤ) (beta : ℤ) → HasForms columns path → length form ≡ columns → HasForms columns (on_slice path form beta)
on_slice-forms columns = on_slice-each (λ (slice : Slice). length slice.form ≡ columns)

-- the values that lie on the longer path
pub on_slice-on : (x : List ℤ) (path : List Slice) (form : List ℤ) (beta : ℤ) → IsOnPath path x → dot integers form x ≡ beta → IsOnPath (on_slice path form beta) x
on_slice-on x = on_slice-each (λ (slice : Slice). dot integers slice.form x ≡ slice.beta)

module _ (rows : WholeRows) (last : Option ℤ) (x : List ℤ) (limits : IsWithinLimits rows) (meets : Meets rows x) where
  -- what a line closes has no better point
  pub closing_is_sound : (path : List Slice) (end : Option Inequality) (line : Line) → HasForms (length rows.box) path → IfSome end (IsDense (length rows.box)) → Closes rows last path end line → IsOnPath path x → IfSome end (IsMetBy x) → IsNoBetter last (cut_value rows x)
  closing_is_sound path end line forms dense closes on met =
      elim (no_better_or last (cut_value rows x)) [
        | inl h ↦ h
        | inr h ↦ absurd (Refutes-no_point rows path end line x limits forms dense closes.refutes meets on met (h line.cut closes.cut))
      ]

  mutual
    -- no point on the path is better
    pub holding_is_sound : (path : List Slice) (tree : Tree) → HasForms (length rows.box) path → Holds rows last path tree → IsOnPath path x → IsNoBetter last (cut_value rows x)
    holding_is_sound path (Empty line) forms holds on = closing_is_sound path None line forms tt holds.1 on tt
    holding_is_sound path (Split' p cut shape children) forms holds on =
        let value : ℤ = dot integers cut.form x in
        let split : IsSplit rows last path cut = holds.1 in
        elim (le_or_lt cut.lo value) [
          | inr under ↦ closing_is_sound path (Some (below cut.form cut.lo)) cut.below forms split.form.dense split.below on (omega linear)
          | inl from ↦ elim (le_or_lt (cut.lo +ℤ cut.count) value) [
            | inl over ↦ closing_is_sound path (Some (above cut.form (cut.lo +ℤ cut.count))) cut.above forms (length-negate cut.form ∙ split.form.dense) split.above on (at_least-met cut.form (cut.lo +ℤ cut.count) x over)
            | inr within ↦ each_is_sound path cut.form cut.lo (cut.lo +ℤ cut.count) children forms split.form.dense holds.2 on from within
          ]
        ]

    -- no point on the slices of the children is better
    pub each_is_sound : (path : List Slice) (form : List ℤ) (from until : ℤ) {m : _} (children : Row_of-Tree m) → HasForms (length rows.box) path → length form ≡ length rows.box → HoldEach rows last path form from until children → IsOnPath path x → from ≤ℤ dot integers form x → dot integers form x <ℤ until → IsNoBetter last (cut_value rows x)
    each_is_sound path form from until end_of-Tree forms dense hold on low high = absurd (omega (linear, hold))
    each_is_sound path form from until (more_of-Tree child rest) forms dense hold on low high =
        elim (le_or_lt (dot integers form x) from) [
          | inl here ↦ holding_is_sound (on_slice path form from) child (on_slice-forms (length rows.box) path form from forms dense) hold.0 (on_slice-on x path form from on (omega linear))
          | inr later ↦ each_is_sound path form (from +ℤ pos 1) until rest forms dense hold.1 on (omega linear) high
        ]

-- a point that is known to be best: no point is better
pub best_is_shown : (rows : WholeRows) (x : List ℤ) (tree : Tree) → IsWithinLimits rows → Meets rows x → Holds rows (Some (cut_value rows x)) [] tree → HasLeastCutValue rows x
best_is_shown rows x tree limits meets holds = record {
  meets = meets;
  least = λ y met. holding_is_sound rows (Some (cut_value rows x)) y limits met [] tree (All-nil (λ (slice : Slice). length slice.form ≡ length rows.box)) holds (All-nil (λ (slice : Slice). dot integers slice.form y ≡ slice.beta));
}

-- no point is there at all
pub none_is_shown : (rows : WholeRows) (x : List ℤ) (tree : Tree) → IsWithinLimits rows → Holds rows None [] tree → Meets rows x → ⊥
none_is_shown rows x tree limits holds meets = holding_is_sound rows None x limits meets [] tree (All-nil (λ (slice : Slice). length slice.form ≡ length rows.box)) holds (All-nil (λ (slice : Slice). dot integers slice.form x ≡ slice.beta))
