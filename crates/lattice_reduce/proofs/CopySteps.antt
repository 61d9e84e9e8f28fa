-- A basis copied row by row, and where its reduction begins.
use Rattle.std.proofs.Common.{◌≡◌, ◌≢◌, ◌⊎◌, ⊎_elim, ℕ, ◌+◌, ◌-◌, ◌*◌, ◌<◌, ◌≤◌, ℤ, pos, List, [], ◌++◌, length, get_or, set, take, replicate, sym, ap, ap₂, ◌∙◌, subst, subst₂, arith, below_more, get_or-set_other, get_or-set_same}
use Rattle.std.proofs.lemmas.List.{ext_get_or, drop-replicate, get_or-replicate, get_or_past, length-replicate, length-set, take-replicate}
use Rattle.exact_math.specs.Ring.{integers}
use Rattle.gram_minors.specs.IndependenceLaws.{independent_positive}
use Rattle.gram_minors.specs.Orthogonalisation.{IsIndependent, IsLovaszReduced, rational_rows}
use Rattle.gram_minors.specs.WholeMinors.{ArePositive}
use Rattle.lattice_reduce.proofs.LastSteps.{length-with_last, row_before, row_last}
use Rattle.lattice_reduce.proofs.StepLaws.{settled_none, settled_reduced}
use Rattle.lattice_reduce.specs.Beside.{with_last}
use Rattle.lattice_reduce.specs.Numbers.{items_of, IsTriangular}
use Rattle.lattice_reduce.specs.States.{SettledTo, Moved, Stopped, Leaves}
use Rattle.lattice_reduce.specs.Reductions.{Reduces, IsSettled, pair_behind}
use Rattle.lattice_reduce.specs.Stops.{Excused}
use Rattle.spaces.specs.TableLaws.{length-rows_in, row_ends, rows_in-at, rows_in-with_row}
use Rattle.unimodular_pair.specs.Gathering.{unit_vectors}
use Rattle.unimodular_pair.specs.Pairs.{Matrices}
use Rattle.unimodular_pair.specs.declared.step.Step.{Step}
use Rattle.spaces.specs.Tables.{Table, filled, row_at, rows_in, with_row}

-- one row more
pub copied_more : (t s : Table ℤ) (i : ℕ) (row : List ℤ) → length t.items ≡ t.rows * t.width → i < t.rows → i < s.rows → length row ≡ t.width → row ≡ row_at s i
    → ((j : ℕ) → j < i → get_or (rows_in t) j [] ≡ get_or (rows_in s) j []) → (j : ℕ) → j < i + 1 → get_or (rows_in (with_row t i row)) j [] ≡ get_or (rows_in s) j []
copied_more t s i row size below below' long is done =
    let long_rows = length-rows_in t in
    subst (λ (l : List (List ℤ)). (j : ℕ) → j < i + 1 → get_or l j [] ≡ get_or (rows_in s) j []) (sym (rows_in-with_row t i row size below long))
    (below_more _ _ (λ j lt. get_or-set_other (rows_in t) i j row [] (omega arith) ∙ done j lt) (get_or-set_same (rows_in t) i row [] (omega (arith, long_rows)) ∙ is ∙ sym (rows_in-at s i below')))

-- all rows
pub copied_all : (t s : Table ℤ) → t.rows ≡ s.rows → ((j : ℕ) → j < s.rows → get_or (rows_in t) j [] ≡ get_or (rows_in s) j []) → rows_in t ≡ rows_in s
copied_all t s same done =
    let long = length-rows_in t in
    ext_get_or [] (rows_in t) (rows_in s) (long ∙ same ∙ sym (length-rows_in s)) (λ j lt. done j (omega (arith, long, same)))

-- all rows and one more
pub copied_last : (t s : Table ℤ) (r : ℕ) (row last : List ℤ) → length t.items ≡ t.rows * t.width → r ≡ s.rows → t.rows ≡ s.rows + 1 → length row ≡ t.width → row ≡ last
    → ((j : ℕ) → j < s.rows → get_or (rows_in t) j [] ≡ get_or (rows_in s) j []) → rows_in (with_row t r row) ≡ with_last (rows_in s) last
copied_last t s r row last size end more long is done =
    let below : r < t.rows = omega arith in
    let count = length-rows_in s in
    let all = length-rows_in t in
    let wide : length (set (rows_in t) r row) ≡ length (with_last (rows_in s) last) = length-set (rows_in t) r row ∙ all ∙ more ∙ ap (λ m. m + 1) (sym count) ∙ sym (length-with_last (rows_in s) last) in
    rows_in-with_row t r row size below long
    ∙ ext_get_or [] (set (rows_in t) r row) (with_last (rows_in s) last) wide
    (λ j lt.
    ⊎_elim
    (λ (before : j < s.rows). let ne : j ≢ r = omega arith in get_or-set_other (rows_in t) r j row [] ne ∙ done j before ∙ sym (row_before (rows_in s) last j (omega (arith, count))))
    (λ (same : j ≡ s.rows). ap (λ m. get_or (set (rows_in t) r row) m []) (same ∙ sym end) ∙ get_or-set_same (rows_in t) r row [] (omega (arith, all)) ∙ is ∙ sym (ap (λ m. get_or (with_last (rows_in s) last) m []) (same ∙ sym count) ∙ row_last (rows_in s) last))
    (cases j s.rows (omega (arith, lt, wide, count, length-with_last (rows_in s) last))))
  where
    cases : (j r : ℕ) → j < r + 1 → (j < r) ⊎ (j ≡ r)
    cases j r lt = grind arith

-- an item of a matrix of zeros
zero_at : (h w i j : ℕ) → items_of (rows_in (filled h w (pos 0))) i j ≡ pos 0
zero_at h w i j =
    ⊎_elim
    (λ (below : i < h). ap (λ (l : List ℤ). get_or l j (pos 0)) (rows_in-at (filled h w (pos 0)) i below ∙ zero_row below) ∙ zero_item)
    (λ (past : h ≤ i). ap (λ (l : List ℤ). get_or l j (pos 0)) (get_or_past (rows_in (filled h w (pos 0))) i [] (let long = length-rows_in (filled h w (pos 0)) in omega (arith, long))))
    (sides i h)
  where
    sides : (i h : ℕ) → (i < h) ⊎ (h ≤ i)
    sides i h = grind arith

    zero_row : i < h → row_at (filled h w (pos 0)) i ≡ replicate w (pos 0)
    zero_row below =
        let ends = row_ends (filled h w (pos 0)) i below in
        ap (take w) (drop-replicate (i * w) (h * w) (pos 0)) ∙ take-replicate w (h * w - i * w) (pos 0) (omega arith)

    zero_item : get_or (replicate w (pos 0)) j (pos 0) ≡ pos 0
    zero_item =
        ⊎_elim
        (λ (below : j < w). get_or-replicate w j (pos 0) (pos 0) below)
        (λ (past : w ≤ j). get_or_past (replicate w (pos 0)) j (pos 0) (let long = length-replicate w (pos 0) in omega (arith, long)))
        (sides j w)

-- a copy of independent rows, before its first number
pub begun_settled : (t s numbers : Table ℤ) → t.rows ≡ s.rows → t.width ≡ s.width → rows_in t ≡ rows_in s → s.rows ≤ 256 → IsIndependent integers s.width (items_of (rows_in s)) s.rows → numbers ≡ filled (s.rows + 1) s.rows (pos 0) → SettledTo t numbers 0
begun_settled t s numbers rows width is few independent zero = record {
  stands = record {
    few = subst (λ r. r ≤ 256) (sym rows) few;
    height = ap (λ x. x.rows) zero ∙ ap (λ r. r + 1) (sym rows);
    width = ap (λ x. x.width) zero ∙ sym rows;
    size = subst (λ x. length x.items ≡ x.rows * x.width) (sym zero) (length-replicate _ _);
    triangular = subst IsTriangular (sym zero) (λ i j lt. zero_at (s.rows + 1) s.rows i j);
    positive = subst₂ (λ w r. ArePositive w (items_of (rows_in t)) r) (sym width) (sym rows) (subst (λ (l : List (List ℤ)). ArePositive s.width (items_of l) s.rows) (sym is) (independent_positive s.width (items_of (rows_in s)) s.rows independent));
    found = λ i j lt le. absurd (omega arith);
  };
  settled = settled_none t.width (items_of (rows_in t));
}

-- a reduction that has settled all rows has a reduced basis
pub reduced_end : (t s numbers : Table ℤ) (count : ℕ) → t.rows ≡ s.rows → t.width ≡ s.width → count ≡ s.rows → SettledTo t numbers count → IsLovaszReduced s.width (rational_rows (items_of (rows_in t))) s.rows
reduced_end t s numbers count rows width same h =
    let b = items_of (rows_in t) in
    let positive : ArePositive s.width b s.rows = subst₂ (λ w r. ArePositive w b r) width rows h.stands.positive in
    let settled : IsSettled s.width b s.rows = subst₂ (λ w r. IsSettled w b r) width same h.settled in
    settled_reduced s.width b s.rows positive settled

-- a reduction that has stopped has an excuse
pub excused_end : (t s : Table ℤ) (m : Matrices) (start steps : List Step) → t.width ≡ s.width → rows_in t ≡ rows_in s → m ≡ unit_vectors s.rows → start ≡ [] → Stopped t m start steps → Excused s.width (rows_in s) steps
excused_end t s m start steps width rows unit none stop =
    let listed : steps ≡ stop.continues.more = stop.continues.added ∙ ap (λ l. l ++ stop.continues.more) none in
    let count : length (rows_in s) ≡ s.rows = length-rows_in s in
    let pair : stop.end_pair ≡ pair_behind (unit_vectors (length (rows_in s))) steps = stop.continues.moved ∙ ap₂ pair_behind (unit ∙ ap unit_vectors (sym count)) (sym listed) in
    record {
      end = stop.end;
      reduces = subst (λ l. Reduces s.width (rows_in s) l stop.end) (sym listed) (subst₂ (λ w r. Reduces w r stop.continues.more stop.end) width rows stop.continues.legal);
      leaves = subst₂ (λ w p. Leaves w stop.end p) width pair stop.leaves;
    }

-- the steps of a reduction that has ended
pub moved_end : (t t' s : Table ℤ) (m m' : Matrices) (start steps : List Step) → m ≡ unit_vectors s.rows → start ≡ [] → Moved t m start t' m' steps → m' ≡ pair_behind (unit_vectors s.rows) steps
moved_end t t' s m m' start steps unit none h =
    let listed : steps ≡ h.continues.more = h.continues.added ∙ ap (λ l. l ++ h.continues.more) none in
    h.continues.moved ∙ ap₂ pair_behind unit (sym listed)

-- and its legality
pub reduces_end : (t t' s : Table ℤ) (m m' : Matrices) (start steps : List Step) → t.width ≡ s.width → rows_in t ≡ rows_in s → start ≡ [] → Moved t m start t' m' steps → Reduces s.width (rows_in s) steps (rows_in t')
reduces_end t t' s m m' start steps width rows none h =
    let listed : steps ≡ h.continues.more = h.continues.added ∙ ap (λ l. l ++ h.continues.more) none in
    subst (λ l. Reduces s.width (rows_in s) l (rows_in t')) (sym listed) (subst₂ (λ w r. Reduces w r h.continues.more (rows_in t')) width rows h.continues.legal)
