-- A form with one value at all integer solutions of equalities is a rational combination of theirs.
use Rattle.std.proofs.Common.{◌≡◌, ◌≢◌, ℕ, zero, suc, ◌+◌, ◌<◌, ℤ, pos, neg_ℤ, ◌+ℤ◌, ◌-ℤ◌, ◌*ℤ◌, List, [], ◌∷◌, ◌++◌, length, get_or, set, refl, sym, ap, ap₂, subst, ◌∙◌, arith}
use Rattle.std.proofs.lemmas.List.{length-append, length-set, map-append, get_or-set_same, length-map}
use Rattle.std.proofs.lemmas.List.Elements.{All-nil}
use Rattle.exact_math.specs.IntegerLaws as Z
use Rattle.exact_math.specs.IntegerOrder.{zero_of_mul}
use Rattle.exact_math.specs.IntegerRing.{expand, linear}
use Rattle.exact_math.specs.Ring.{integers}
use Rattle.exact_vectors.specs.DotLaws as Dot
use Rattle.exact_vectors.specs.Matrices.{HasWidth, combination, times_vector}
use Rattle.exact_vectors.specs.MatrixLaws as Matrix
use Rattle.exact_vectors.specs.Vectors.{dot, add, scale, zeros}
use Rattle.unimodular_pair.specs.Gathering.{values_at}
use Rattle.unimodular_pair.specs.GatheringLaws.{length-values}
use Rattle.unimodular_pair.specs.Pairs.{Matrices}
use Rattle.unimodular_pair.specs.declared.step.Step.{Step}
use Rattle.reformulate.proofs.ChartLaws.{IsChart, IsInverse, length-coordinates, IsChart-met, Solves-push}
use Rattle.reformulate.proofs.FrameLaws.{IsSingled, IsSingled-gathered, IsChart-gathered, FramesAll-chart, Reach-reached}
use Rattle.reformulate.proofs.VectorSteps as VectorSteps
use Rattle.reformulate.specs.Charts.{Chart, point_at, coordinates_at}
use Rattle.reformulate.specs.Framing.{rest_of, FramesAll, IsMet, Reach, TakesUp}
use Rattle.reformulate.specs.Framing.FramesAll.{begun, met, taken_up}
use Rattle.reformulate.specs.Framing.Reach.{at_once, stays, one_more}
use Rattle.reformulate.specs.Gaps.{forms_of}
use Rattle.reformulate.specs.Solutions.{Meets, Solves}
use Rattle.reformulate.specs.declared.equality.Equality.{Equality}

-- the form has one value at all of them
abbrev pub IsConstant : ℕ → List Equality → List ℤ → Type 0
IsConstant n equalities w = (x z : List ℤ) → Solves n equalities x → Solves n equalities z → dot integers w x ≡ dot integers w z

-- whole times, one for each equality, sum up to a multiple of the form
pub record IsSpanned (n : ℕ) (equalities : List Equality) (w : List ℤ) : Type 0 where
  pub factor : ℤ
  pub nonzero : factor ≢ pos 0
  pub times : List ℤ
  pub as_many : length times ≡ length equalities
  pub sum : combination integers n times (forms_of equalities) ≡ scale integers factor w

-- each such form is spanned
abbrev pub Spans : ℕ → List Equality → Type 0
Spans n equalities = (w : List ℤ) → length w ≡ n → IsConstant n equalities w → IsSpanned n equalities w

-- ---- sums

add-comm : (u v : List ℤ) → add integers u v ≡ add integers v u
add-comm [] [] = refl
add-comm [] (b ∷ v) = refl
add-comm (a ∷ u) [] = refl
add-comm (a ∷ u) (b ∷ v) = ap₂ (λ (x : ℤ) (l : List ℤ). x ∷ l) (Z.add_comm a b) (add-comm u v)

add-assoc : (u v w : List ℤ) → add integers u (add integers v w) ≡ add integers (add integers u v) w
add-assoc [] v w = refl
add-assoc (a ∷ u) [] w = refl
add-assoc (a ∷ u) (b ∷ v) [] = refl
add-assoc (a ∷ u) (b ∷ v) (c ∷ w) = ap₂ (λ (x : ℤ) (l : List ℤ). x ∷ l) (sym (Z.add_assoc a b c)) (add-assoc u v w)

-- one row more
pub combination-push : (n : ℕ) (t : List ℤ) (rows : List (List ℤ)) (a : ℤ) (row : List ℤ) → length t ≡ length rows → combination integers n (t ++ a ∷ []) (rows ++ row ∷ []) ≡ add integers (combination integers n t rows) (scale integers a row)
combination-push n [] [] a row e = add-comm (scale integers a row) (zeros integers n)
combination-push n [] (r ∷ rows) a row e = absurd (omega arith)
combination-push n (k ∷ t) [] a row e = absurd (omega arith)
combination-push n (k ∷ t) (r ∷ rows) a row e =
    ap (add integers (scale integers k r)) (combination-push n t rows a row (omega arith)) ∙ add-assoc (scale integers k r) (combination integers n t rows) (scale integers a row)

scale-one : (w : List ℤ) → scale integers (pos 1) w ≡ w
scale-one [] = refl
scale-one (a ∷ w) = ap₂ (λ (x : ℤ) (l : List ℤ). x ∷ l) (Z.one_mul a) (scale-one w)

nothing-added : (u f : List ℤ) → length u ≡ length f → add integers u (scale integers (pos 0) f) ≡ u
nothing-added [] f e = refl
nothing-added (a ∷ u) [] e = absurd (omega arith)
nothing-added (a ∷ u) (b ∷ f) e = ap₂ (λ (x : ℤ) (l : List ℤ). x ∷ l) (ap (λ z. a +ℤ z) (Z.zero_mul b) ∙ Z.add_zero a) (nothing-added u f (omega arith))

-- what was taken off is added again
back_sum : (k g b : ℤ) (w f : List ℤ) → length w ≡ length f → add integers (scale integers k (add integers (scale integers g w) (scale integers (neg_ℤ b) f))) (scale integers (k *ℤ b) f) ≡ scale integers (k *ℤ g) w
back_sum k g b [] f e = refl
back_sum k g b (a ∷ w) [] e = absurd (omega arith)
back_sum k g b (a ∷ w) (c ∷ f) e = ap₂ (λ (x : ℤ) (l : List ℤ). x ∷ l) (item k g b a c) (back_sum k g b w f (omega arith))
  where
    item : (k g b a c : ℤ) → k *ℤ (g *ℤ a +ℤ neg_ℤ b *ℤ c) +ℤ (k *ℤ b) *ℤ c ≡ (k *ℤ g) *ℤ a
    item k g b a c = simp expand (omega linear)

-- the forms of equalities with one more
pub forms-push : (equalities : List Equality) (equality : Equality) → forms_of (equalities ++ equality ∷ []) ≡ forms_of equalities ++ equality.form ∷ []
forms-push equalities equality = map-append (λ (e : Equality). e.form) equalities (equality ∷ [])

-- the width of the first rows and of the last
wide_parts : (n : ℕ) (rows : List (List ℤ)) (row : List ℤ) → HasWidth n (rows ++ row ∷ []) → HasWidth n rows × (length row ≡ n)
wide_parts n [] row h = (tt, h.0)
wide_parts n (first ∷ rows) row h = let rest = wide_parts n rows row h.1 in ((h.0, rest.0), rest.1)

-- a sum with one equality more
spanned_more : (n : ℕ) (equalities : List Equality) (equality : Equality) (w u : List ℤ) (k factor a : ℤ) (times : List ℤ) → factor ≢ pos 0 → length times ≡ length equalities → combination integers n times (forms_of equalities) ≡ scale integers k u
    → add integers (scale integers k u) (scale integers a equality.form) ≡ scale integers factor w → IsSpanned n (equalities ++ equality ∷ []) w
spanned_more n equalities equality w u k factor a times ne many sum together = record {
  factor = factor;
  nonzero = ne;
  times = times ++ a ∷ [];
  as_many = length-append times (a ∷ []) ∙ ap (λ m. m + 1) many ∙ sym (length-append equalities (equality ∷ []));
  sum =
      ap (combination integers n (times ++ a ∷ [])) (forms-push equalities equality)
      ∙ combination-push n times (forms_of equalities) a equality.form (many ∙ sym (length-map equalities (λ (e : Equality). e.form)))
      ∙ ap (λ l. add integers l (scale integers a equality.form)) sum
      ∙ together;
}

-- ---- no equality

zero_form : (n : ℕ) (w : List ℤ) → length w ≡ n → ((x : List ℤ) → length x ≡ n → dot integers w x ≡ pos 0) → w ≡ zeros integers n
zero_form zero [] e h = refl
zero_form zero (a ∷ w) e h = absurd (omega arith)
zero_form (suc n) [] e h = absurd (omega arith)
zero_form (suc n) (a ∷ w) e h =
    ap₂ (λ (x : ℤ) (l : List ℤ). x ∷ l)
    (first a (dot integers w (zeros integers n)) (h (pos 1 ∷ zeros integers n) (ap suc (Matrix.length-zeros integers n))) (Dot.dot-zeros_right integers n w))
    (zero_form n w (omega arith) (λ x f. rest a (dot integers w x) (h (pos 0 ∷ x) (ap suc f))))
  where
    first : (a d : ℤ) → a *ℤ pos 1 +ℤ d ≡ pos 0 → d ≡ pos 0 → a ≡ pos 0
    first a d h e = omega (linear, h, e, Z.mul_one a)

    rest : (a d : ℤ) → a *ℤ pos 0 +ℤ d ≡ pos 0 → d ≡ pos 0
    rest a d h = omega (linear, h, Z.mul_zero a)

Spans-begun : (n : ℕ) → Spans n []
Spans-begun n w e h =
    let long = Matrix.length-zeros integers n in
    let none : w ≡ zeros integers n = zero_form n w e (λ x f. h x (zeros integers n) (record { size = f; meets = All-nil (Meets x) }) (record { size = long; meets = All-nil (Meets (zeros integers n)) }) ∙ Dot.dot-zeros_right integers n w) in
    record { factor = pos 1; nonzero = λ z. one z; times = []; as_many = refl; sum = sym none ∙ sym (scale-one w) }
  where
    one : pos 1 ≢ pos 0
    one z = cc

-- ---- one equality more

-- the value of a form at a point of a chart
pub value_at_point : (n r : ℕ) (c : Chart) (u y : List ℤ) → length c.base ≡ n → IsInverse n r c.pair → dot integers u (point_at c y) ≡ dot integers u c.base +ℤ dot integers (values_at u c.pair) y
value_at_point n r c u y e inverse =
    let wide : HasWidth (length c.pair.u) c.pair.v = subst (λ k. HasWidth k c.pair.v) (sym inverse.height_u) inverse.width_v in
    Dot.dot-add_right integers u c.base (times_vector integers c.pair.v y) (e ∙ sym (Matrix.length-times_vector integers c.pair.v y ∙ inverse.height_v))
    ∙ ap (λ t. dot integers u c.base +ℤ t) (Matrix.dot_times_vector integers (length c.pair.u) u c.pair.v y wide)

-- an equality that each solution meets
Spans-met : (n r : ℕ) (equalities : List Equality) (equality : Equality) (c : Chart) → IsMet equality c → IsChart n r equalities c → length equality.form ≡ n → Spans n equalities → Spans n (equalities ++ equality ∷ [])
Spans-met n r equalities equality c is chart long spans w e h =
    let all = IsChart-met n r equalities equality c is chart in
    let more = λ (x : List ℤ) (s : Solves n equalities x). subst (Solves n (equalities ++ equality ∷ [])) (chart.onto x s) (all.into (coordinates_at c x) (length-coordinates n r c x chart.pair)) in
    let got = spans w e (λ x z s t. h x z (more x s) (more z t)) in
    spanned_more n equalities equality w w got.factor got.factor (pos 0) got.times got.nonzero got.as_many got.sum
    (nothing-added (scale integers got.factor w) equality.form (Matrix.length-scale integers got.factor w ∙ e ∙ sym long))

-- the value at a solution by the value at the point beside it that meets the equality
beside : (g b wx fx wb by fb yp q wz side : ℤ) → wx ≡ wb +ℤ by → fx ≡ fb +ℤ g *ℤ yp → wz ≡ wb +ℤ (by +ℤ b *ℤ (q +ℤ neg_ℤ yp)) → side ≡ fb +ℤ g *ℤ q → g *ℤ wx +ℤ neg_ℤ b *ℤ fx ≡ g *ℤ wz -ℤ b *ℤ side
beside g b wx fx wb by fb yp q wz side e1 e2 e3 e4 =
    simp expand (omega (linear, simp expand at (ap (λ t. g *ℤ t) e1), simp expand at (ap (λ t. b *ℤ t) e2), simp expand at (ap (λ t. g *ℤ t) e3), simp expand at (ap (λ t. b *ℤ t) e4)))

-- an equality whose form has a value at one vector alone, where that value divides what is left of the side
module _ (n r : ℕ) (equalities : List Equality) (equality : Equality) (base : List ℤ) (m : Matrices) (place : ℕ) (quotient : ℤ) (singled : IsSingled n r equality place m) (chart : IsChart n r equalities (record { base = base; pair = m }))
    (divides : get_or (values_at equality.form m) place (pos 0) *ℤ quotient ≡ rest_of equality base) where
  here : Chart
  here = record { base = base; pair = m }

  value : ℤ
  value = get_or (values_at equality.form m) place (pos 0)

  -- the solution beside another, at which the equality holds
  near : List ℤ → List ℤ
  near x = set (coordinates_at here x) place quotient

  beside_it : List ℤ → List ℤ
  beside_it x = point_at here (near x)

  wide : HasWidth (length m.u) m.v
  wide = subst (λ k. HasWidth k m.v) (sym chart.pair.height_u) chart.pair.width_v

  many : (u : List ℤ) → length (values_at u m) ≡ r
  many u = length-values u m wide ∙ chart.pair.height_u

  long_at : (x : List ℤ) → length (coordinates_at here x) ≡ r
  unfolding here
  long_at x = length-coordinates n r here x chart.pair

  long_near : (x : List ℤ) → length (near x) ≡ r
  unfolding near
  long_near x = length-set (coordinates_at here x) place quotient ∙ long_at x

  form_at : (y : List ℤ) → length y ≡ r → dot integers equality.form (point_at here y) ≡ dot integers equality.form base +ℤ value *ℤ get_or y place (pos 0)
  unfolding here value
  form_at y e =
      value_at_point n r here equality.form y chart.base chart.pair
      ∙ ap (λ t. dot integers equality.form base +ℤ t) (VectorSteps.dot-only (values_at equality.form m) y place (many equality.form ∙ sym e) (let s = singled.there in let l = many equality.form in omega (arith, s, l)) singled.others)

  side_is : dot integers equality.form base +ℤ value *ℤ quotient ≡ equality.side
  unfolding value
  side_is = all_of equality.side (dot integers equality.form base) (get_or (values_at equality.form m) place (pos 0) *ℤ quotient) divides
    where
      all_of : (t s p : ℤ) → p ≡ t -ℤ s → s +ℤ p ≡ t
      all_of t s p e = omega (linear, e)

  meets : (x : List ℤ) → Solves n (equalities ++ equality ∷ []) (beside_it x)
  unfolding beside_it near here
  meets x =
      Solves-push n equalities equality (point_at here (near x)) (chart.into (near x) (long_near x))
      (form_at (near x) (long_near x) ∙ ap (λ t. dot integers equality.form base +ℤ value *ℤ t) (get_or-set_same (coordinates_at here x) place quotient (pos 0) (let s = singled.there in let l = long_at x in omega (arith, s, l))) ∙ side_is)

  at_solution : (w x : List ℤ) → length w ≡ length equality.form → Solves n equalities x
      → dot integers (add integers (scale integers value w) (scale integers (neg_ℤ (get_or (values_at w m) place (pos 0))) equality.form)) x ≡ value *ℤ dot integers w (beside_it x) -ℤ get_or (values_at w m) place (pos 0) *ℤ equality.side
  unfolding beside_it near here
  at_solution w x e s =
      let b = get_or (values_at w m) place (pos 0) in
      let y : List ℤ = coordinates_at here x in
      let back : point_at here y ≡ x = chart.onto x s in
      let there : place < length y = let s = singled.there in let l = long_at x in omega (arith, s, l) in
      Dot.dot-add_left integers (scale integers value w) (scale integers (neg_ℤ b) equality.form) x (Matrix.length-scale integers value w ∙ e ∙ sym (Matrix.length-scale integers (neg_ℤ b) equality.form))
      ∙ ap₂ ◌+ℤ◌ (Dot.dot-scale_left integers value w x) (Dot.dot-scale_left integers (neg_ℤ b) equality.form x)
      ∙ beside value b (dot integers w x) (dot integers equality.form x) (dot integers w base) (dot integers (values_at w m) y) (dot integers equality.form base) (get_or y place (pos 0)) quotient (dot integers w (beside_it x)) equality.side
      (ap (dot integers w) (sym back) ∙ value_at_point n r here w y chart.base chart.pair)
      (ap (dot integers equality.form) (sym back) ∙ form_at y (long_at x))
      (value_at_point n r here w (near x) chart.base chart.pair ∙ ap (λ t. dot integers w base +ℤ t) (Dot.dot-set_right integers (values_at w m) y place quotient (pos 0) there))
      (sym side_is)

  pub Spans-singled : length equality.form ≡ n → Spans n equalities → Spans n (equalities ++ equality ∷ [])
  unfolding value
  Spans-singled long spans w e constant =
      let f : List ℤ = equality.form in
      let b : ℤ = get_or (values_at w m) place (pos 0) in
      let u : List ℤ = add integers (scale integers value w) (scale integers (neg_ℤ b) f) in
      let got = spans u (Matrix.length-add integers n (scale integers value w) (scale integers (neg_ℤ b) f) (Matrix.length-scale integers value w ∙ e) (Matrix.length-scale integers (neg_ℤ b) f ∙ long))
      (λ x z s t. at_solution w x (e ∙ sym long) s ∙ ap (λ v. value *ℤ v -ℤ b *ℤ equality.side) (constant (beside_it x) (beside_it z) (meets x) (meets z)) ∙ sym (at_solution w z (e ∙ sym long) t)) in
      spanned_more n equalities equality w u got.factor (got.factor *ℤ value) (got.factor *ℤ b) got.times (λ z. singled.nonzero (zero_of_mul got.factor value got.nonzero z)) got.as_many got.sum
      (back_sum got.factor value b w f (e ∙ sym long))

Spans-takes_up : (n : ℕ) (equalities : List Equality) (equality : Equality) (from to : Chart) (steps : List Step) → TakesUp equality from steps to → IsChart n (length from.pair.u) equalities from → length equality.form ≡ n → Spans n equalities → Spans n (equalities ++ equality ∷ [])
Spans-takes_up n equalities equality from to steps h c =
    Spans-singled n (length from.pair.u) equalities equality from.base h.pair h.place h.quotient
    (IsSingled-gathered n (length from.pair.u) equality from.pair steps h.place h.pair c.pair h.gathered)
    (IsChart-gathered n (length from.pair.u) equalities equality from.base from.pair steps h.place h.pair h.gathered c)
    h.divides

-- ---- all of them

front : (n : ℕ) (equalities : List Equality) (equality : Equality) → HasWidth n (forms_of (equalities ++ equality ∷ [])) → HasWidth n (forms_of equalities) × (length equality.form ≡ n)
front n equalities equality h = wide_parts n (forms_of equalities) equality.form (subst (HasWidth n) (forms-push equalities equality) h)

FramesAll-spans : (n : ℕ) (equalities : List Equality) (c : Chart) → FramesAll n equalities c → HasWidth n (forms_of equalities) → Spans n equalities
FramesAll-spans n [] c begun widths = Spans-begun n
FramesAll-spans n equalities c (met before equality c' h is) widths =
    let parts = front n before equality widths in
    Spans-met n (length c.pair.u) before equality c is (FramesAll-chart n before c h) parts.1 (FramesAll-spans n before c h parts.0)
FramesAll-spans n equalities c (taken_up before equality from to steps h takes) widths =
    let parts = front n before equality widths in
    Spans-takes_up n before equality from c steps takes (FramesAll-chart n before from h) parts.1 (FramesAll-spans n before from h parts.0)

pub Reach-spans : (n : ℕ) (equalities : List Equality) (c : Chart) → Reach n equalities c → HasWidth n (forms_of equalities) → Spans n equalities
Reach-spans n equalities c (at_once all from to steps h reduces) widths = FramesAll-spans n equalities from h widths
Reach-spans n equalities c (stays before equality c' h is) widths =
    let parts = front n before equality widths in
    Spans-met n (length c.pair.u) before equality c is (Reach-reached n before c h).chart parts.1 (Reach-spans n before c h parts.0)
Reach-spans n equalities c (one_more before equality from between to steps more h takes reduces) widths =
    let parts = front n before equality widths in
    Spans-takes_up n before equality from between steps takes (Reach-reached n before from h).chart parts.1 (Reach-spans n before from h parts.0)
