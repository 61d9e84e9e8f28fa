-- What points of a node and lines that refute the ends of a form show of its slices there.
use Rattle.std.proofs.Common.{◌≡◌, ◌<◌, ℤ, pos, ◌+ℤ◌, ◌-ℤ◌, ◌*ℤ◌, List, [], ◌∷◌, length, subst, sym, arith}
use Rattle.std.specs.Prelude.{Option, Some, None, IfSome, Any}
use Rattle.std.proofs.lemmas.List.Elements.{All-nil, All-cons}
use Rattle.exact_math.specs.Ring.{integers}
use Rattle.exact_vectors.specs.Vectors.{dot}
use Rattle.whole_rows.specs.WholeRows.{WholeRow, WholeRows, IsWithinLimits}
use Rattle.farkas_rows.specs.declared.path.Slice.{Slice}
use Rattle.farkas_rows.specs.Refutes.{HasForms}
use Rattle.node_point.specs.NodePoints.{Fractions, LiesBetween, IsNodePoint}
use Rattle.node_point.specs.RationalPoints.{coordinates, form_value, IsWithin, IsRationalPoint}
use Rattle.node_point.specs.RationalPointLaws.{point-rational}
use Rattle.proof_tree.specs.declared.tree.Cut.{Cut}
use Rattle.proof_tree.specs.Moves.{SplitsUnder}
use Rattle.form_widths.specs.Slices.{AreSlices, ReachesEnds}
use Rattle.form_widths.specs.NodeLineLaws.{node_slices}
use Rattle.node_regions.specs.NodeFrames.{IsKeptForm}
use Rattle.slice_branch.specs.SeenPoints.{ArePoints, IsAtLeastAt, IsAtMostAt, ShowEnds}

module _ (rows : WholeRows) (path : List Slice) (cut : Option ℤ) where
  -- a point of the node is one over the rational numbers
  pub rational_of : (x : Fractions) → IsNodePoint rows path cut x → IsRationalPoint rows path cut (coordinates x)
  rational_of x point = point-rational rows path cut x.numerators x.denominator point

  -- and a form that lies between two sides there does so over the rational numbers
  pub between_at : (form : List ℤ) (low high : Option ℤ) (x : Fractions) → IsNodePoint rows path cut x → LiesBetween x.denominator low high (dot integers form x.numerators) → IsWithin low high (form_value form (coordinates x))
  between_at form low high x point between =
      let row : WholeRow = record { factors = form; low = low; high = high } in
      let alone : WholeRows = record { box = rows.box; rows = row ∷ []; cost = [] } in
      let there : 0 < length (row ∷ []) = omega arith in
      (point-rational alone [] None x.numerators x.denominator (record {
        positive = point.positive;
        in_box = point.in_box;
        in_rows = All-cons (λ (r : WholeRow). LiesBetween x.denominator r.low r.high (dot integers r.factors x.numerators)) row [] between (All-nil (λ (r : WholeRow). LiesBetween x.denominator r.low r.high (dot integers r.factors x.numerators)));
        on_path = All-nil (λ (slice : Slice). dot integers slice.form x.numerators ≡ slice.beta *ℤ x.denominator);
        below_cut = tt;
      })).in_rows 0 row there

  -- one of the points
  pub one_of : (P : Fractions → Type 0) (points : List Fractions) → ArePoints rows path cut points → (some : Any P points) → IsNodePoint rows path cut some.1
  one_of P points are some = subst (IsNodePoint rows path cut) some.3 (are some.0 some.1 some.2)

  -- the points reach the ends
  pub reaches_shown : (form : List ℤ) (lo count : ℤ) (points : List Fractions) → ArePoints rows path cut points → ShowEnds form lo count points → ReachesEnds (IsRationalPoint rows path cut) form lo count
  reaches_shown form lo count points are show some =
      let ends = show some in
      let last = (lo +ℤ count) -ℤ pos 1 in
      let low_point = one_of (IsAtMostAt form lo) points are ends.0 in
      let high_point = one_of (IsAtLeastAt form last) points are ends.1 in
      record {
        low_point = coordinates ends.0.1;
        high_point = coordinates ends.1.1;
        low_there = rational_of ends.0.1 low_point;
        high_there = rational_of ends.1.1 high_point;
        at_low = (between_at form None (Some lo) ends.0.1 low_point (tt, ends.0.4)).1;
        at_high = (between_at form (Some last) None ends.1.1 high_point (ends.1.4, tt)).0;
      }

  -- so the numbers between the closed ends are the slices
  pub slices_are_shown : (c : Cut) (points : List Fractions) → IsWithinLimits rows → HasForms (length rows.box) path → SplitsUnder rows cut path c → ArePoints rows path cut points → ShowEnds c.form c.lo c.count points → AreSlices (IsRationalPoint rows path cut) c.form c.lo c.count
  slices_are_shown c points limits forms splits are show =
      node_slices rows path cut c.form c.lo c.count c.below c.above
      (record {
        limits = limits;
        forms = forms;
        dense = splits.form.dense;
        below = record { refutes = splits.below.refutes; same_cut = splits.below.cut };
        above = record { refutes = splits.above.refutes; same_cut = splits.above.cut };
      })
      (reaches_shown c.form c.lo c.count points are show)

  -- and so it is for a split that has these slices
  pub slices_shown : (points : List Fractions) (form : List ℤ) (lo count : ℤ) (result : Option Cut) → IsWithinLimits rows → HasForms (length rows.box) path → ArePoints rows path cut points
      → ShowEnds form lo count points → IfSome result (SplitsUnder rows cut path)
      → IfSome result (λ (c : Cut). c.form ≡ form) → IfSome result (λ (c : Cut). c.lo ≡ lo) → IfSome result (λ (c : Cut). c.count ≡ count) → IfSome result (λ (c : Cut). AreSlices (IsRationalPoint rows path cut) c.form c.lo c.count)
  slices_shown points form lo count None limits forms are show splits is_form is_lo is_count = tt
  slices_shown points form lo count (Some c) limits forms are show splits is_form is_lo is_count =
      let same_form = subst (λ (f : List ℤ). ShowEnds f lo count points) (sym is_form) show in
      let same_lo = subst (λ (l : ℤ). ShowEnds c.form l count points) (sym is_lo) same_form in
      let show_here = subst (λ (n : ℤ). ShowEnds c.form c.lo n points) (sym is_count) same_lo in
      slices_are_shown c points limits forms splits are show_here

-- a form that is kept
pub kept_shown : (rows : WholeRows) (form : List ℤ) (result : Option Cut) → IsKeptForm rows.box form → IfSome result (λ (c : Cut). c.form ≡ form) → IfSome result (λ (c : Cut). IsKeptForm rows.box c.form)
kept_shown rows form None kept is_form = tt
kept_shown rows form (Some c) kept is_form = subst (IsKeptForm rows.box) (sym is_form) kept
