-- How many coordinates frames have.
use Rattle.std.proofs.Common.{◌≡◌, ⊎_elim, ℕ, zero, suc, ◌<◌, ◌≤◌, ℤ, pos, List, [], ◌∷◌, ◌++◌, length, refl, sym, ap, subst, ◌∙◌, arith}
use Rattle.std.specs.List.{remove}
use Rattle.std.proofs.lemmas.Bool.{cases_lt}
use Rattle.std.proofs.lemmas.List.Edits.{length-remove}
use Rattle.exact_math.specs.Ring.{integers}
use Rattle.exact_vectors.specs.Vectors.{add, negate, zeros}
use Rattle.exact_vectors.specs.MatrixLaws as Matrix
use Rattle.spaces.specs.Tables.{rows_in}
use Rattle.unimodular_pair.specs.PairLaws as Pair
use Rattle.reformulate.proofs.ChartLaws.{IsChart, IsChart-gathers}
use Rattle.reformulate.proofs.FrameLaws.{FramesAll-chart, IsChart-gathered, IsChart-reduced, IsChart-takes_up, Reach-reached}
use Rattle.reformulate.specs.Charts.{Chart, chart_of}
use Rattle.reformulate.specs.Frames.{IsFrame, IsReachedFrame}
use Rattle.reformulate.specs.Framing.{FramesAll, Reach, TakesUp}
use Rattle.reformulate.specs.Framing.FramesAll.{begun, met, taken_up}
use Rattle.reformulate.specs.Framing.Reach.{at_once, stays, one_more}
use Rattle.reformulate.specs.Solutions.{Solves}
use Rattle.reformulate.specs.Substitutions.{Substitution, columns_of, coordinates_of, dimension_of, point_of}
use Rattle.reformulate.specs.declared.equality.Equality.{Equality}

-- ---- no more than columns

takes_fewer : (n : ℕ) (equalities : List Equality) (equality : Equality) (from to : Chart) (steps : _) → IsChart n (length from.pair.u) equalities from → TakesUp equality from steps to → length to.pair.u ≤ length from.pair.u
takes_fewer n equalities equality from to steps c h =
    let r = length from.pair.u in
    let last = IsChart-gathers n r equalities from.base equality.form from.pair h.gathered.last steps h.gathered.gathers c in
    let pair = IsChart-gathered n r equalities equality from.base from.pair steps h.place h.pair h.gathered c in
    let there : h.place < length h.pair.u = omega (arith, h.gathered.there, last.pair.height_u, pair.pair.height_u) in
    let left : length to.pair.u ≡ length (remove h.pair.u h.place) = ap (λ (chart : Chart). length chart.pair.u) h.left in
    omega (arith, left, length-remove h.pair.u h.place there, pair.pair.height_u)

frames_few : (n : ℕ) (equalities : List Equality) (c : Chart) → FramesAll n equalities c → length c.pair.u ≤ n
frames_few n [] c begun = omega (arith, Pair.length-identity n)
frames_few n equalities c (met before equality c' h is) = frames_few n before c h
frames_few n equalities c (taken_up before equality from to steps h takes) =
    let few = frames_few n before from h in
    let fewer = takes_fewer n before equality from c steps (FramesAll-chart n before from h) takes in
    omega (arith, few, fewer)

reach_few : (n : ℕ) (equalities : List Equality) (c : Chart) → Reach n equalities c → length c.pair.u ≤ n
reach_few n equalities c (at_once all from to steps h reduces) =
    let few = frames_few n equalities from h in
    let chart = IsChart-reduced n (length from.pair.u) equalities from c steps reduces (FramesAll-chart n equalities from h) in
    omega (arith, few, chart.pair.height_u)
reach_few n equalities c (stays before equality c' h is) = reach_few n before c h
reach_few n equalities c (one_more before equality from between to steps more h takes reduces) =
    let few = reach_few n before from h in
    let old = (Reach-reached n before from h).chart in
    let fewer = takes_fewer n before equality from between steps old takes in
    let all = before ++ equality ∷ [] in
    let chart = IsChart-reduced n (length between.pair.u) all between c more reduces (IsChart-takes_up n before equality from between steps takes old) in
    omega (arith, few, fewer, chart.pair.height_u)

-- V has a row for each coordinate
many_rows : (equalities : List Equality) (s : Substitution) → IsFrame equalities s → length (rows_in s.back) ≡ dimension_of s
many_rows equalities s frame =
    let r = dimension_of s in
    let y = zeros integers r in
    sym (Matrix.length-times_vector integers (rows_in s.back) (add integers (point_of s y) (negate integers s.to_work.base)))
    ∙ ap length (frame.back y (Matrix.length-zeros integers r)) ∙ Matrix.length-zeros integers r

-- a frame that is reached has at most a coordinate for each column
pub dimension_few : (n : ℕ) (equalities : List Equality) (s : Substitution) → IsReachedFrame n equalities s → dimension_of s ≤ n
dimension_few n equalities s h =
    let few = reach_few n equalities (chart_of s) h.reach in
    omega (arith, few, many_rows equalities s h.frame)

-- ---- two frames

no_items : {A : Type 0} (l : List A) → length l ≡ 0 → l ≡ []
no_items [] e = cc
no_items (a ∷ l) e = absurd (omega (arith, e))

-- where one frame of the equalities has a coordinate, so has each other one: else there were one solution alone
module _ (equalities : List Equality) (s t : Substitution) (of_s : IsFrame equalities s) (of_t : IsFrame equalities t) (same : columns_of t ≡ columns_of s) where
  only : dimension_of s ≡ 0 → (y : List ℤ) → length y ≡ dimension_of t → point_of t y ≡ point_of s []
  only none y long =
      let x = point_of t y in
      let solves : Solves (columns_of s) equalities x = subst (λ n. Solves n equalities x) same (of_t.into y long) in
      let rows : length (coordinates_of s x) ≡ 0 = Matrix.length-times_vector integers (rows_in s.back) (add integers x (negate integers s.to_work.base)) ∙ many_rows equalities s of_s ∙ none in
      sym (of_s.onto x solves) ∙ ap (point_of s) (no_items (coordinates_of s x) rows)

  apart : dimension_of s ≡ 0 → (k : ℕ) → dimension_of t ≡ suc k → zeros integers (suc k) ≡ pos 1 ∷ zeros integers k
  apart none k some =
      let y : List ℤ = zeros integers (suc k) in
      let z : List ℤ = pos 1 ∷ zeros integers k in
      let long_y : length y ≡ dimension_of t = Matrix.length-zeros integers (suc k) ∙ sym some in
      let long_z : length z ≡ dimension_of t = let e = Matrix.length-zeros integers k in omega (arith, e, some) in
      sym (of_t.back y long_y) ∙ ap (coordinates_of t) (only none y long_y ∙ sym (only none z long_z)) ∙ of_t.back z long_z

  differ : (k : ℕ) → zeros integers (suc k) ≡ pos 1 ∷ zeros integers k → ⊥
  differ k e = cc

  below_some : (r : ℕ) → 0 < r → (k : ℕ) × (r ≡ suc k)
  below_some zero h = absurd (omega (arith, h))
  below_some (suc k) h = (k, refl)

  pub some_coordinate : 0 < dimension_of t → 0 < dimension_of s
  some_coordinate some =
      ⊎_elim (λ (h : 0 < dimension_of s). h)
      (λ (h : dimension_of s ≤ 0). let k = below_some (dimension_of t) some in absurd (differ k.0 (apart (omega (arith, h)) k.0 k.1)))
      (cases_lt 0 (dimension_of s))
