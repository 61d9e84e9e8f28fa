-- The loop that writes the system of a node.
use Rattle.std.proofs.Common.{◌≡◌, ℕ, ◌+◌, ◌*◌, ◌<◌, ◌≤◌, ℤ, ◌-ℤ◌, List, [], ◌∷◌, ◌++◌, length, get_or, map, take, drop, sym, ap, ap₂, subst, ◌∙◌, arith, All}
use Rattle.std.specs.Prelude.{Result, Ok, Err, IfErr, IsErrAnd}
use Rattle.std.proofs.lemmas.List.{get_or-map, length-map, take_all, take_more}
use Rattle.std.proofs.lemmas.List.Elements.{All-append, All-take, All-drop, All-get_or}
use Rattle.frac128.specs.Range.{IsNarrow}
use Rattle.spaces.specs.Maps.{AffineMap, pulled_form, pulled_constant, PullBackStays}
use Rattle.spaces.specs.Stops.{StopsUnless}
use Rattle.spaces.specs.Tables.{Table, with_row}
use Rattle.spaces.specs.declared.map_stop.MapStop.{MapStop}
use Rattle.spaces.specs.declared.map_stop.MapStop.TheVariants.{Wide, NoMemory}
use Rattle.farkas_rows.specs.Inequalities.{Inequality}
use Rattle.farkas_lift.specs.NodeSystem.{SideStays}

-- a stop for one reason is one for a stronger
pub stops-weaker : (Weak Strong : Type 0) (stop : MapStop) → (Strong → Weak) → StopsUnless Weak stop → StopsUnless Strong stop
stops-weaker Weak Strong Wide f h = λ s. h (f s)
stops-weaker Weak Strong NoMemory f h = tt

-- the stop of a call that is handed on
pub handed_on : {T : Type 0} (r : Result T MapStop) (stop : MapStop) (Stays : Type 0) → IsErrAnd r (λ other. other ≡ stop) → StopsUnless Stays stop → IfErr r (StopsUnless Stays)
handed_on (Ok x) stop Stays is h = tt
handed_on (Err other) stop Stays is h = subst (StopsUnless Stays) (sym is) h

-- ---- one inequality, whose parts are known by other names

module _ (map now : AffineMap) (inequality : Inequality) (factors : List ℤ) (m : now ≡ map) (f : factors ≡ inequality.factors) where
  pub form_is : pulled_form now factors ≡ pulled_form map inequality.factors
  form_is = ap₂ {C = List ℤ} (λ (x : AffineMap) (y : List ℤ). pulled_form x y) m f

  pub constant_is : pulled_constant now factors ≡ pulled_constant map inequality.factors
  constant_is = ap₂ {C = ℤ} (λ (x : AffineMap) (y : List ℤ). pulled_constant x y) m f

  pub products_stay : SideStays map inequality → PullBackStays now factors
  products_stay stays = subst (λ (x : AffineMap). PullBackStays x factors) (sym m) (subst (PullBackStays map) (sym f) stays.products)

  pub side_stays : (form : List ℤ) (limit constant : ℤ) → PullBackStays now factors → form ≡ pulled_form now factors → All IsNarrow form → limit ≡ inequality.limit → constant ≡ pulled_constant now factors → IsNarrow (limit -ℤ constant) → SideStays map inequality
  side_stays form limit constant p is narrow l k n = record {
    products = subst (λ (x : AffineMap). PullBackStays x inequality.factors) m (subst (PullBackStays now) f p);
    factors = subst (All IsNarrow) (is ∙ form_is) narrow;
    limit = subst IsNarrow (ap₂ (λ a b. a -ℤ b) l (k ∙ constant_is)) n;
  }

-- ---- the rows

-- what holds of each item holds of each with a row written over
pub with_row-All : (P : ℤ → Type 0) (t : Table ℤ) (i : ℕ) (row : List ℤ) → All P t.items → All P row → All P (with_row t i row).items
with_row-All P t i row h k =
    All-take P (length t.items) _
    (All-append P (take (i * t.width) t.items) (row ++ drop (length row) (drop (i * t.width) t.items)) (All-take P (i * t.width) t.items h)
    (All-append P row (drop (length row) (drop (i * t.width) t.items)) k (All-drop P (length row) (drop (i * t.width) t.items) (All-drop P (i * t.width) t.items h))))

module _ {X : Type 0} (inequality : X → Inequality) (sides : List X) (inequalities : List Inequality) (same : map inequality sides ≡ inequalities) (k : ℕ) (side : X) (h : k < length sides) (is : side ≡ get_or sides k side) where
  inside : k < length (map inequality sides)
  inside = omega (arith, length-map sides inequality)

  -- the row of a side
  pub system_row : (inequality side).factors ≡ get_or (map (λ (i : Inequality). i.factors) inequalities) k []
  system_row =
      ap (λ x. (inequality x).factors) is
      ∙ ap (λ (i : Inequality). i.factors) (sym (get_or-map inequality sides k side (inequality side) h))
      ∙ sym (get_or-map (λ (i : Inequality). i.factors) (map inequality sides) k (inequality side) [] inside)
      ∙ ap (λ l. get_or (map (λ (i : Inequality). i.factors) l) k []) same

  limit_at : (d : ℤ) → get_or (map (λ (i : Inequality). i.limit) (map inequality sides)) k d ≡ (inequality side).limit
  limit_at d =
      get_or-map (λ (i : Inequality). i.limit) (map inequality sides) k (inequality side) d inside
      ∙ ap (λ (i : Inequality). i.limit) (get_or-map inequality sides k side (inequality side) h)
      ∙ ap (λ x. (inequality x).limit) (sym is)

  -- its limit
  pub system_limit : (value : ℤ) (now new : List ℤ) → value ≡ (inequality side).limit → now ≡ take k (map (λ (i : Inequality). i.limit) inequalities) → new ≡ now ++ value ∷ [] → new ≡ take (k + 1) (map (λ (i : Inequality). i.limit) inequalities)
  system_limit value now new e f put =
      put
      ∙ ap₂ (λ (l : List ℤ) (z : ℤ). l ++ z ∷ []) (f ∙ ap (λ l. take k (map (λ (i : Inequality). i.limit) l)) (sym same)) (e ∙ sym (limit_at value))
      ∙ sym (take_more (map (λ (i : Inequality). i.limit) (map inequality sides)) k value (omega (arith, length-map (map inequality sides) (λ (i : Inequality). i.limit), length-map sides inequality)))
      ∙ ap (λ l. take (k + 1) (map (λ (i : Inequality). i.limit) l)) same

-- ---- the sides under two names

module _ {X : Type 0} (P : ℤ → X → Type 0) (v w : ℤ) (xs ys : List X) (k : ℕ) (e : v ≡ w) (same : xs ≡ ys) where
  pub at_side : (x : X) → k < length xs → x ≡ get_or xs k x → All (P w) ys → P v x
  at_side x h is all = subst (λ u. P u x) (sym e) (subst (P w) (sym is) (All-get_or (P w) xs k x h (subst (All (P w)) (sym same) all)))

  pub all_sides : length xs ≤ k → All (P v) (take k xs) → All (P w) ys
  all_sides h all = subst (λ u. All (P u) ys) e (subst (All (P v)) same (subst (All (P v)) (take_all k xs h) all))
