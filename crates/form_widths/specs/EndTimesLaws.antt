-- The multiplier of the end stands last in a line that refutes an end, where the line uses it.
use Rattle.std.proofs.Common.{◌≡◌, ◌≢◌, ℕ, zero, suc, ◌+◌, ◌-◌, ◌<◌, ◌==◌, true, false, ℤ, pos, List, [], ◌∷◌, ◌++◌, length, get_or, map, refl, ap, ◌∙◌, subst, arith, length-append}
use Rattle.std.specs.Prelude.{Option, Some, None, IsSome, All}
use Rattle.std.specs.List.Sorted.{IsStrictlyIncreasing}
use Rattle.std.proofs.Math.ListN.{get_or-append}
use Rattle.std.proofs.Math.Seq.{get_or-append_seam}
use Rattle.std.proofs.lemmas.Bool.{ne_eqb}
use Rattle.std.proofs.lemmas.List.{get_or-map, length-map, map-append}
use Rattle.std.proofs.lemmas.List.Elements.{All-head, All-tail}
use Rattle.exact_math.specs.IntegerRing.{linear}
use Rattle.exact_math.specs.Ring.{integers}
use Rattle.exact_vectors.specs.SumLaws.{sum-append}
use Rattle.exact_vectors.specs.Vectors.{sum}
use Rattle.whole_rows.specs.WholeRows.{WholeRows}
use Rattle.farkas_rows.specs.declared.line.Use.{Use}
use Rattle.farkas_rows.specs.declared.line.Line.{Line}
use Rattle.farkas_rows.specs.declared.path.Slice.{Slice}
use Rattle.farkas_rows.specs.Inequalities.{Inequality, inequalities, inequality_at}
use Rattle.farkas_rows.specs.Refutes.{Refutes}
use Rattle.form_widths.specs.NodeLineLaws.{length-inequalities}
use Rattle.form_widths.specs.NodeLines.{end_number, times_of}

-- numbers that rise: each later one is larger
rises : (xs : List ℕ) → IsStrictlyIncreasing xs → (i d : ℕ) → i + suc d < length xs → get_or xs i 0 < get_or xs (i + suc d) 0
rises xs h i zero lt = h i lt
rises xs h i (suc d) lt =
    let first : get_or xs i 0 < get_or xs (i + suc d) 0 = rises xs h i d (omega arith) in
    let step : get_or xs (i + suc d) 0 < get_or xs ((i + suc d) + 1) 0 = h (i + suc d) (omega arith) in
    let place : i + suc (suc d) ≡ (i + suc d) + 1 = omega arith in
    rw place (omega arith)

-- what is there is within the list
some-inside : {X : Type 0} (xs : List (Option X)) (i : ℕ) → IsSome (get_or xs i None) → i < length xs
some-inside [] i is = cc
some-inside (x ∷ xs) zero is = omega arith
some-inside (x ∷ xs) (suc i) is = omega (arith, some-inside xs i is)

-- an item with another number has no share
other_share : (number : ℕ) (item : Use) → item.index ≢ number → elim (item.index == number) [ true ↦ item.times | false ↦ pos 0 ] ≡ pos 0
other_share number item ne = ap (λ b. elim b [ true ↦ item.times | false ↦ pos 0 ]) (ne_eqb item.index number ne)

-- nor have items with other numbers
other_shares : (number : ℕ) (items : List Use) → All (λ (item : Use). item.index ≢ number) items → sum integers (map (λ (item : Use). elim (item.index == number) [ true ↦ item.times | false ↦ pos 0 ]) items) ≡ pos 0
other_shares number [] h = refl
other_shares number (item ∷ items) h =
    omega (linear, other_share number item (All-head (λ (item : Use). item.index ≢ number) item items h), other_shares number items (All-tail (λ (item : Use). item.index ≢ number) item items h))

-- The multiplier of the end is that of the last item, where that has its number, and else 0.
pub times_of-last : (rows : WholeRows) (path : List Slice) (end : Inequality) (line : Line) (front : List Use) (last : Use) → Refutes rows path (Some end) line → line.items ≡ front ++ last ∷ [] → times_of (end_number rows path) line ≡ elim (last.index == end_number rows path) [ true ↦ last.times | false ↦ pos 0 ]
times_of-last rows path end line front last refutes same =
    ap (λ (items : List Use). sum integers (map share items)) same
    ∙ ap (sum integers) (map-append share front (last ∷ []))
    ∙ sum-append integers (map share front) (share last ∷ [])
    ∙ omega (linear, other_shares (end_number rows path) front others)
  where
    share : Use → ℤ
    share item = elim (item.index == end_number rows path) [ true ↦ item.times | false ↦ pos 0 ]

    rising : IsStrictlyIncreasing (map (λ (item : Use). item.index) (front ++ last ∷ []))
    rising = subst (λ (items : List Use). IsStrictlyIncreasing (map (λ (item : Use). item.index) items)) same refutes.rising

    there : All (λ (item : Use). IsSome (inequality_at rows path (Some end) item.index)) (front ++ last ∷ [])
    there = subst (λ (items : List Use). All (λ (item : Use). IsSome (inequality_at rows path (Some end) item.index)) items) same refutes.there

    long : length (front ++ last ∷ []) ≡ suc (length front)
    long = omega (arith, length-append front (last ∷ []))

    last_is : get_or (front ++ last ∷ []) (length front) last ≡ last
    last_is = get_or-append_seam front last [] last

    last_small : last.index < suc (end_number rows path)
    last_small =
        let is = subst (λ (item : Use). IsSome (inequality_at rows path (Some end) item.index)) last_is (there (length front) last (omega (arith, long))) in
        omega (arith, some-inside (inequalities rows path (Some end)) last.index is, length-inequalities rows path (Some end))

    others : All (λ (item : Use). item.index ≢ end_number rows path) front
    others k d lt e =
        let indices = map (λ (item : Use). item.index) (front ++ last ∷ []) in
        let size : length indices ≡ suc (length front) = length-map (front ++ last ∷ []) (λ (item : Use). item.index) ∙ long in
        let at_k : get_or indices k 0 ≡ (get_or front k d).index = get_or-map (λ (item : Use). item.index) (front ++ last ∷ []) k d 0 (omega (arith, long)) ∙ ap (λ (item : Use). item.index) (get_or-append front (last ∷ []) d k lt) in
        let at_last : get_or indices (length front) 0 ≡ last.index = get_or-map (λ (item : Use). item.index) (front ++ last ∷ []) (length front) last 0 (omega (arith, long)) ∙ ap (λ (item : Use). item.index) last_is in
        let gap : k + suc (length front - suc k) ≡ length front = omega arith in
        let less : get_or indices k 0 < get_or indices (length front) 0 = subst (λ (j : ℕ). get_or indices k 0 < get_or indices j 0) gap (rises indices rising k (length front - suc k) (omega (arith, size, gap))) in
        omega (arith, less, at_k, at_last, last_small, e)
