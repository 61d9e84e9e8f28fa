-- A frame that is reached from equalities is reached, too, from those with the last one replaced by one that says the same at the solutions of the others.
use Rattle.std.proofs.Common.{◌≡◌, ℕ, ◌<◌, ℤ, pos, neg_ℤ, ◌+ℤ◌, ◌-ℤ◌, ◌*ℤ◌, List, [], ◌∷◌, ◌++◌, length, get_or, refl, sym, ap, ap₂, subst, ◌∙◌, arith}
use Rattle.std.proofs.lemmas.List.{ext_get_or, length-append}
use Rattle.exact_math.specs.Ring.{integers}
use Rattle.exact_math.specs.IntegerRing.{linear}
use Rattle.exact_vectors.specs.Vectors.{dot, add, negate, zeros}
use Rattle.exact_vectors.specs.Matrices.{HasWidth, combination}
use Rattle.exact_vectors.specs.DotLaws as Dot
use Rattle.exact_vectors.specs.MatrixLaws as Matrix
use Rattle.farkas_rows.specs.Inequalities.{unit}
use Rattle.farkas_rows.specs.NodeLaws.{dot-unit, length-negate, length-unit}
use Rattle.spaces.specs.Maps.{pulled_constant, pulled_form}
use Rattle.spaces.specs.Tables.{rows_in}
use Rattle.unimodular_pair.specs.Gathering.{after, values_at, Gathers, IsLegal}
use Rattle.unimodular_pair.specs.GatheringLaws.{length-values}
use Rattle.unimodular_pair.specs.Pairs.{Matrices}
use Rattle.unimodular_pair.specs.declared.step.Step.{Step}
use Rattle.reformulate.proofs.ChartLaws.{IsChart, IsChart-after, IsChart-gathers, Solves-front, Solves-push}
use Rattle.reformulate.proofs.FrameLaws.{FramesAll-chart, IsChart-gathered, Reach-reached}
use Rattle.reformulate.specs.Charts.{Chart, chart_of, point_at}
use Rattle.reformulate.specs.Frames.{IsReachedFrame}
use Rattle.reformulate.specs.Framing.{rest_of, FramesAll, IsMet, Reach, TakesUp}
use Rattle.reformulate.specs.Framing.FramesAll.{begun, met, taken_up}
use Rattle.reformulate.specs.Framing.Reach.{at_once, stays, one_more}
use Rattle.reformulate.specs.Slices.{slice_equality, IsSlice}
use Rattle.reformulate.specs.Solutions.{Solves}
use Rattle.reformulate.specs.Substitutions.{Substitution, columns_of, coordinates_of, dimension_of, point_of}
use Rattle.reformulate.specs.declared.equality.Equality.{Equality}
use Rattle.node_slices.proofs.FrameCharts.{chart_of_frame, value_at}

-- by how much the form is above the side
abbrev excess : Equality → List ℤ → ℤ
excess equality x = dot integers equality.form x -ℤ equality.side

-- two equalities say the same at the solutions of others
abbrev AgreeOn : ℕ → List Equality → Equality → Equality → Type 0
AgreeOn n equalities e f = (x : List ℤ) → Solves n equalities x → excess e x ≡ excess f x

-- lists with one more item that are the same
same_ends : {A : Type 0} (xs ys : List A) (x y : A) → xs ++ x ∷ [] ≡ ys ++ y ∷ [] → (xs ≡ ys) × (x ≡ y)
same_ends [] [] x y e = (refl, cc)
same_ends [] (b ∷ ys) x y e = absurd (omega (arith, ap length e, length-append ys (y ∷ [])))
same_ends (a ∷ xs) [] x y e = absurd (omega (arith, ap length e, length-append xs (x ∷ [])))
same_ends {A} (a ∷ xs) (b ∷ ys) x y e =
    let first : a ≡ b = cc in
    let others : xs ++ x ∷ [] ≡ ys ++ y ∷ [] = cc in
    let rest = same_ends xs ys x y others in
    (ap₂ (λ (z : A) (l : List A). z ∷ l) first rest.0, rest.1)

regroup : (b v s : ℤ) → (b +ℤ v) -ℤ s ≡ v -ℤ (s -ℤ b)
regroup b v s = omega linear

-- ---- at the points of a chart

module _ (n r : ℕ) (equalities : List Equality) (c : Chart) (chart : IsChart n r equalities c) where
  by_rows : IsChart n (length c.pair.u) equalities c
  by_rows = subst (λ k. IsChart n k equalities c) (sym chart.pair.height_u) chart

  many_values : (form : List ℤ) → length (values_at form c.pair) ≡ r
  many_values form = length-values form c.pair by_rows.pair.width_v ∙ chart.pair.height_u

  excess-point : (g : Equality) (y : List ℤ) → excess g (point_at c y) ≡ dot integers (values_at g.form c.pair) y -ℤ rest_of g c.base
  excess-point g y = ap (λ v. v -ℤ g.side) (value_at n (length c.pair.u) equalities c by_rows g.form y) ∙ regroup (dot integers g.form c.base) (dot integers (values_at g.form c.pair) y) g.side

  module _ (e f : Equality) (same : AgreeOn n equalities e f) where
    at : (y : List ℤ) → length y ≡ r → dot integers (values_at e.form c.pair) y -ℤ rest_of e c.base ≡ dot integers (values_at f.form c.pair) y -ℤ rest_of f c.base
    at y long = sym (excess-point e y) ∙ same (point_at c y) (chart.into y long) ∙ excess-point f y

    -- as much is left of both sides
    same_rest : rest_of e c.base ≡ rest_of f c.base
    same_rest =
        cancel (dot integers (values_at e.form c.pair) (zeros integers r)) (dot integers (values_at f.form c.pair) (zeros integers r)) (rest_of e c.base) (rest_of f c.base)
        (Dot.dot-zeros_right integers r (values_at e.form c.pair)) (Dot.dot-zeros_right integers r (values_at f.form c.pair)) (at (zeros integers r) (Matrix.length-zeros integers r))
      where
        cancel : (a b p q : ℤ) → a ≡ pos 0 → b ≡ pos 0 → a -ℤ p ≡ b -ℤ q → p ≡ q
        cancel a b p q ha hb h = omega (linear, ha, hb, h)

    -- and both forms have the same values at the vectors
    same_values : values_at e.form c.pair ≡ values_at f.form c.pair
    same_values =
        ext_get_or (pos 0) (values_at e.form c.pair) (values_at f.form c.pair) (many_values e.form ∙ sym (many_values f.form))
        (λ j lt.
        let below : j < r = omega (arith, many_values e.form) in
        item (values_at e.form c.pair) j (many_values e.form) below
        ∙ cancel (dot integers (values_at e.form c.pair) (unit r j)) (dot integers (values_at f.form c.pair) (unit r j)) (rest_of e c.base) (rest_of f c.base) same_rest (at (unit r j) (length-unit r j))
        ∙ sym (item (values_at f.form c.pair) j (many_values f.form) below))
      where
        item : (v : List ℤ) (j : ℕ) → length v ≡ r → j < r → get_or v j (pos 0) ≡ dot integers v (unit r j)
        item v j long below = sym (Dot.dot_comm integers v (unit r j) ∙ dot-unit r j v long below)

        cancel : (a b p q : ℤ) → p ≡ q → a -ℤ p ≡ b -ℤ q → a ≡ b
        cancel a b p q same h = omega (linear, same, h)

-- ---- steps

module _ (n : ℕ) (equalities : List Equality) (e f : Equality) (same : AgreeOn n equalities e f) where
  gathers_same : (r : ℕ) (base : List ℤ) (m last : Matrices) (steps : List Step) → IsChart n r equalities (record { base = base; pair = m }) → Gathers e.form m steps last → Gathers f.form m steps last
  gathers_same r base m last [] c g = g
  gathers_same r base m last (step ∷ steps) c g =
      let here : Chart = record { base = base; pair = m } in
      (subst (IsLegal step) (same_values n r equalities here c e f same) g.0, gathers_same r base (after step m) last steps (IsChart-after n r equalities base m (values_at e.form m) step (many_values n r equalities here c e.form) g.0 c) g.1)

  takes_up_same : (r : ℕ) (from to : Chart) (steps : List Step) → IsChart n r equalities from → TakesUp e from steps to → TakesUp f from steps to
  takes_up_same r from to steps c h =
      let g = h.gathered in
      let last : Chart = record { base = from.base; pair = g.last } in
      let last_chart = IsChart-gathers n r equalities from.base e.form from.pair g.last steps g.gathers c in
      let at_last = same_values n r equalities last last_chart e f same in
      let pair : Chart = record { base = from.base; pair = h.pair } in
      let pair_chart = IsChart-gathered n r equalities e from.base from.pair steps h.place h.pair g c in
      let at_pair = same_values n r equalities pair pair_chart e f same in
      record {
        place = h.place;
        quotient = h.quotient;
        pair = h.pair;
        gathered = record {
          last = g.last;
          gathers = gathers_same r from.base from.pair g.last steps c g.gathers;
          there = g.there;
          nonzero = λ z. g.nonzero (ap (λ l. get_or l h.place (pos 0)) at_last ∙ z);
          others = λ j ne. ap (λ l. get_or l j (pos 0)) (sym at_last) ∙ g.others j ne;
          sign = g.sign;
        };
        divides = ap (λ l. get_or l h.place (pos 0) *ℤ h.quotient) (sym at_pair) ∙ h.divides ∙ same_rest n r equalities from c e f same;
        left = h.left;
      }

  met_same : (r : ℕ) (c : Chart) → IsChart n r equalities c → IsMet e c → IsMet f c
  met_same r c chart h = record {
    values = sym (same_values n r equalities c chart e f same) ∙ h.values;
    rest = sym (same_rest n r equalities c chart e f same) ∙ h.rest;
  }

  frames_same : (all : List Equality) (c : Chart) → FramesAll n all c → all ≡ equalities ++ e ∷ [] → FramesAll n (equalities ++ f ∷ []) c
  frames_same [] c begun is = absurd (omega (arith, ap length is, length-append equalities (e ∷ [])))
  frames_same all c (met before equality c' h is) ends =
      let both = same_ends before equalities equality e ends in
      let old : FramesAll n equalities c = subst (λ l. FramesAll n l c) both.0 h in
      met equalities f c old (met_same (length c.pair.u) c (FramesAll-chart n equalities c old) (subst (λ q. IsMet q c) both.1 is))
  frames_same all c (taken_up before equality from to steps h takes) ends =
      let both = same_ends before equalities equality e ends in
      let old : FramesAll n equalities from = subst (λ l. FramesAll n l from) both.0 h in
      taken_up equalities f from c steps old (takes_up_same (length from.pair.u) from c steps (FramesAll-chart n equalities from old) (subst (λ q. TakesUp q from steps c) both.1 takes))

  reach_same : (all : List Equality) (c : Chart) → Reach n all c → all ≡ equalities ++ e ∷ [] → Reach n (equalities ++ f ∷ []) c
  reach_same all c (at_once whole from to steps h reduces) ends = at_once (equalities ++ f ∷ []) from c steps (frames_same all from h ends) reduces
  reach_same all c (stays before equality c' h is) ends =
      let both = same_ends before equalities equality e ends in
      let old : Reach n equalities c = subst (λ l. Reach n l c) both.0 h in
      stays equalities f c old (met_same (length c.pair.u) c (Reach-reached n equalities c old).chart (subst (λ q. IsMet q c) both.1 is))
  reach_same all c (one_more before equality from between to steps more h takes reduces) ends =
      let both = same_ends before equalities equality e ends in
      let old : Reach n equalities from = subst (λ l. Reach n l from) both.0 h in
      one_more equalities f from between c steps more old (takes_up_same (length from.pair.u) from between steps (Reach-reached n equalities from old).chart (subst (λ q. TakesUp q from steps between) both.1 takes)) reduces

-- ---- the frame of a slice

-- a solution of the one equality is a solution of the other
solves_same : (n : ℕ) (equalities : List Equality) (e f : Equality) (x : List ℤ) → AgreeOn n equalities e f → Solves n (equalities ++ e ∷ []) x → Solves n (equalities ++ f ∷ []) x
solves_same n equalities e f x same solves =
    let both = Solves-front n equalities e x solves in
    Solves-push n equalities f x both.0 (meets (dot integers e.form x) (dot integers f.form x) e.side f.side (same x both.0) both.1)
  where
    meets : (p q s t : ℤ) → p -ℤ s ≡ q -ℤ t → p ≡ s → q ≡ t
    meets p q s t same at = omega (linear, same, at)

module _ (n : ℕ) (equalities : List Equality) (s : Substitution) (w : List ℤ) (side value : ℤ) (reached : IsReachedFrame n equalities s) (is_value : value ≡ side -ℤ pulled_constant s.to_work w) where
  -- the slice of the frame along a form that was pulled back says what the form's own equality says
  same_slice : (x : List ℤ) → Solves n equalities x → excess (slice_equality s (pulled_form s.to_work w) value) x ≡ excess (record { form = w; side = side }) x
  same_slice x solves =
      let chart = chart_of_frame n equalities s reached in
      let y : List ℤ = coordinates_of s x in
      let base : List ℤ = s.to_work.base in
      let form : List ℤ = combination integers (columns_of s) (pulled_form s.to_work w) (rows_in s.back) in
      let at_w : dot integers w x ≡ dot integers w base +ℤ dot integers (pulled_form s.to_work w) y =
      ap (dot integers w) (sym (chart.onto x solves)) ∙ value_at n (dimension_of s) equalities (chart_of s) chart w y in
      let at_form : dot integers (pulled_form s.to_work w) y ≡ dot integers form x +ℤ dot integers form (negate integers base) =
      Matrix.dot_times_vector integers (columns_of s) (pulled_form s.to_work w) (rows_in s.back) (add integers x (negate integers base)) (subst (λ k. HasWidth k (rows_in s.back)) (sym reached.columns) chart.pair.width_u)
      ∙ Dot.dot-add_right integers form x (negate integers base) (solves.size ∙ sym (length-negate base ∙ chart.base)) in
      compare (dot integers w x) (dot integers w base) (dot integers (pulled_form s.to_work w) y) (dot integers form x) (dot integers form base) (dot integers form (negate integers base)) at_w at_form (Dot.dot-negate_right integers form base) is_value
    where
      compare : (wx wb dy fx fb fnb : ℤ) → wx ≡ wb +ℤ dy → dy ≡ fx +ℤ fnb → fnb ≡ neg_ℤ fb → value ≡ side -ℤ wb → fx -ℤ (value +ℤ fb) ≡ wx -ℤ side
      compare wx wb dy fx fb fnb a b c v = omega (linear, a, b, c, v)

  -- so it is a reduced frame of the equalities and of that one, which legal framing reaches
  pub slice_reached : (t : Substitution) → IsSlice s (pulled_form s.to_work w) value t → IsReachedFrame n (equalities ++ record { form = w; side = side } ∷ []) t
  slice_reached t h =
      let e : Equality = slice_equality s (pulled_form s.to_work w) value in
      let f : Equality = record { form = w; side = side } in
      let columns : columns_of t ≡ n = h.columns ∙ reached.columns in
      let reach : Reach n (equalities ++ f ∷ []) (chart_of t) = reach_same n equalities e f same_slice (equalities ++ e ∷ []) (chart_of t) (subst (λ k. Reach k (equalities ++ e ∷ []) (chart_of t)) reached.columns (h.reach equalities (subst (λ k. Reach k equalities (chart_of s)) (sym reached.columns) reached.reach))) refl in
      let sliced = h.frame equalities reached.frame in
      record {
        columns = columns;
        frame = record {
          into = λ y long. subst (λ k. Solves k (equalities ++ f ∷ []) (point_of t y)) (sym columns) (solves_same n equalities e f (point_of t y) same_slice (subst (λ k. Solves k (equalities ++ e ∷ []) (point_of t y)) columns (sliced.into y long)));
          back = sliced.back;
          onto = λ x solves. sliced.onto x (subst (λ k. Solves k (equalities ++ e ∷ []) x) (sym columns) (solves_same n equalities f e x (λ z at. sym (same_slice z at)) (subst (λ k. Solves k (equalities ++ f ∷ []) x) columns solves)));
        };
        reach = reach;
        reduced = (Reach-reached n (equalities ++ f ∷ []) (chart_of t) reach).reduced;
      }
