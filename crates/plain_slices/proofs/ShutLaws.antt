-- A node is shut exactly where an inequality is out of reach within its narrowed box.
use Rattle.std.proofs.Common.{◌≡◌, ◌⊎◌, inl, inr, ℕ, suc, ◌<◌, ◌≤◌, Bool, true, false, List, [], ◌∷◌, length, get_or, ℤ, pos, neg_ℤ, ◌+ℤ◌, ◌-ℤ◌, ◌*ℤ◌, ◌≤ℤ◌, ◌<ℤ◌, nat_abs, refl, sym, ap, ◌∙◌, subst, arith, mul-le-mul_left}
use Rattle.std.specs.Prelude.{Option, Some, None, IfSome, All, Any, int_lt}
use Rattle.std.specs.Option.{IsSomeAnd}
use Rattle.std.proofs.lemmas.Bool.{cond_both}
use Rattle.std.proofs.lemmas.List.{get_or_default}
use Rattle.std.proofs.lemmas.List.Elements.{All-head, All-tail}
use Rattle.exact_math.specs.Ring.{integers}
use Rattle.exact_math.specs.IntegerRing.{linear}
use Rattle.exact_vectors.specs.Vectors.{dot, negate}
use Rattle.whole_rows.specs.declared.bounds.Bounds.{Bounds}
use Rattle.whole_rows.specs.declared.ends.End.{End}
use Rattle.whole_rows.specs.declared.ends.End.TheVariants.{Least, Greatest}
use Rattle.whole_rows.specs.WholeRows.{WholeRow, WholeRows, LiesIn, bounds_at, reach, span, IsWithinLimits}
use Rattle.whole_rows.specs.Ends.{value_at, sum_at, ReachesSides}
use Rattle.whole_rows.specs.EndLaws.{least_sum}
use Rattle.farkas_rows.specs.declared.path.Slice.{Slice}
use Rattle.farkas_rows.specs.Inequalities.{at_most, at_least, cut_inequality}
use Rattle.farkas_rows.specs.NodeLaws.{length-negate, LiesIn-at}
use Rattle.farkas_rows.specs.Refutes.{HasForms}
use Rattle.plain_slices.specs.declared.node.Source.{Source}
use Rattle.plain_slices.specs.Shut.{LiesInNarrowed, CannotMeet, IsShutByRow, IsShutBySlice, Shut}
use Rattle.plain_slices.specs.Nodes.{narrowed_at, source_at, IsNarrowed, IsOpenBox, IsMeetable}
use Rattle.plain_slices.specs.declared.side.Side.{Side}
use Rattle.plain_slices.specs.declared.side.Side.TheVariants.{Upper, Lower}
use Rattle.plain_slices.specs.Sides.{side_factor, side_form, side_value, side_inequality, IsOutOfReach}
use Rattle.plain_slices.proofs.SideLaws.{sum_at-turned}

-- ---- sizes

-- a form spans no more over narrower bounds that do not cross
pub span-narrower : (form : List ℤ) (bounds box : List Bounds) (b : Bounds) → length bounds ≡ length box → ((j : ℕ) → j < length box → ((get_or box j b).low ≤ℤ (get_or bounds j b).low) × ((get_or bounds j b).low ≤ℤ (get_or bounds j b).high) × ((get_or bounds j b).high ≤ℤ (get_or box j b).high)) → span form bounds ≤ span form box
span-narrower [] bounds box b e within = omega arith
span-narrower (a ∷ form) [] [] b e within = omega arith
span-narrower (a ∷ form) [] (wide ∷ box) b e within = absurd (omega arith)
span-narrower (a ∷ form) (narrow ∷ bounds) [] b e within = absurd (omega arith)
span-narrower (a ∷ form) (narrow ∷ bounds) (wide ∷ box) b e within =
    let h = within 0 (omega arith) in
    let less : reach narrow ≤ reach wide = omega (linear, h.0, h.1, h.2) in
    omega (arith, mul-le-mul_left (nat_abs a) less, span-narrower form bounds box b (omega arith) (λ j lt. within (suc j) (omega arith)))

pub span-narrowed : (rows : WholeRows) (path : List Slice) (bounds : List Bounds) (sources : List Source) (form : List ℤ) → IsNarrowed rows path path bounds sources → IsOpenBox bounds → span form bounds ≤ span form rows.box
span-narrowed rows path bounds sources form narrowed open_box = span-narrower form bounds rows.box (record { low = pos 0; high = pos 0 }) narrowed.dense (λ j h. let t = narrowed.tight j h in (t.within_low, open_box j (record { low = pos 0; high = pos 0 }) (omega (arith, narrowed.dense)), t.within_high))

-- ---- out of reach

-- no values meet what is beyond the least sum
pub cannot-meet : (rows : WholeRows) (path : List Slice) (bounds : List Bounds) (sources : List Source) (form : List ℤ) (limit : ℤ) → IsNarrowed rows path path bounds sources → limit <ℤ sum_at Least form bounds → CannotMeet rows path (record { factors = form; limit = limit })
cannot-meet rows path bounds sources form limit narrowed beyond = λ x lies meets. absurd (omega (linear, least_sum form bounds x ((narrowed.points x).1 lies)))

-- ---- within reach

-- the corner of a box at which the sum is at this end
corner : End → List ℤ → List Bounds → List ℤ
corner end [] bounds = []
corner end (a ∷ form) [] = []
corner end (a ∷ form) (b ∷ bounds) = value_at end a b ∷ corner end form bounds

within : (end : End) (a : ℤ) (b : Bounds) → b.low ≤ℤ b.high → (b.low ≤ℤ value_at end a b) × (value_at end a b ≤ℤ b.high)
within Least a b h = cond_both (int_lt a (pos 0)) b.high b.low (λ v. (b.low ≤ℤ v) × (v ≤ℤ b.high)) (λ e. (h, omega linear)) (λ e. (omega linear, h))
within Greatest a b h = cond_both (int_lt a (pos 0)) b.low b.high (λ v. (b.low ≤ℤ v) × (v ≤ℤ b.high)) (λ e. (omega linear, h)) (λ e. (h, omega linear))

corner-lies : (end : End) (form : List ℤ) (bounds : List Bounds) → length form ≡ length bounds → IsOpenBox bounds → LiesIn bounds (corner end form bounds)
unfolding corner
corner-lies end [] [] e h = tt
corner-lies end [] (b ∷ bounds) e h = absurd (omega arith)
corner-lies end (a ∷ form) [] e h = absurd (omega arith)
corner-lies end (a ∷ form) (b ∷ bounds) e h = (within end a b (All-head (λ (b : Bounds). b.low ≤ℤ b.high) b bounds h), corner-lies end form bounds (omega arith) (All-tail (λ (b : Bounds). b.low ≤ℤ b.high) b bounds h))

corner-sum : (end : End) (form : List ℤ) (bounds : List Bounds) → dot integers form (corner end form bounds) ≡ sum_at end form bounds
unfolding corner
corner-sum end [] bounds = refl
corner-sum end (a ∷ form) [] = refl
corner-sum end (a ∷ form) (b ∷ bounds) = ap (λ t. a *ℤ value_at end a b +ℤ t) (corner-sum end form bounds)

-- some values meet what the least sum reaches
pub can-meet : (rows : WholeRows) (path : List Slice) (bounds : List Bounds) (sources : List Source) (form : List ℤ) (limit : ℤ) → IsNarrowed rows path path bounds sources → IsOpenBox bounds → length form ≡ length rows.box → sum_at Least form bounds ≤ℤ limit → CannotMeet rows path (record { factors = form; limit = limit }) → ⊥
can-meet rows path bounds sources form limit narrowed open_box wide reaches cannot = cannot (corner Least form bounds) ((narrowed.points (corner Least form bounds)).0 (corner-lies Least form bounds (wide ∙ sym narrowed.dense) open_box)) (omega (linear, corner-sum Least form bounds))

can-meet_lower : (rows : WholeRows) (path : List Slice) (bounds : List Bounds) (sources : List Source) (form : List ℤ) (side : ℤ) → IsNarrowed rows path path bounds sources → IsOpenBox bounds → length form ≡ length rows.box → side ≤ℤ sum_at Greatest form bounds → CannotMeet rows path (at_least form side) → ⊥
can-meet_lower rows path bounds sources form side narrowed open_box wide reaches = can-meet rows path bounds sources (negate integers form) (neg_ℤ side) narrowed open_box (length-negate form ∙ wide) (omega (linear, sum_at-turned form bounds))

-- neither side is shut
sides-open : (rows : WholeRows) (path : List Slice) (bounds : List Bounds) (sources : List Source) (form : List ℤ) (low high : Option ℤ) → IsNarrowed rows path path bounds sources → IsOpenBox bounds → length form ≡ length rows.box → ReachesSides form low high bounds → IsSomeAnd high (λ side. CannotMeet rows path (at_most form side)) ⊎ IsSomeAnd low (λ side. CannotMeet rows path (at_least form side)) → ⊥
sides-open rows path bounds sources form low None narrowed open_box wide reaches (inl h) = h
sides-open rows path bounds sources form low (Some side) narrowed open_box wide reaches (inl h) = can-meet rows path bounds sources form side narrowed open_box wide reaches.1 h
sides-open rows path bounds sources form None high narrowed open_box wide reaches (inr h) = h
sides-open rows path bounds sources form (Some side) high narrowed open_box wide reaches (inr h) = can-meet_lower rows path bounds sources form side narrowed open_box wide reaches.0 h

-- ---- the node

pub any-at : {X : Type 0} (P : X → Type 0) (xs : List X) (k : ℕ) (x : X) → k < length xs → P (get_or xs k x) → Any P xs
any-at P xs k x h here = (k, get_or xs k x, h, get_or_default xs k (get_or xs k x) x h, here)

all-any : {X : Type 0} (P Q : X → Type 0) (xs : List X) → All P xs → Any Q xs → ((x : X) → P x → Q x → ⊥) → ⊥
all-any P Q xs all some clash = clash some.1 (subst P some.3 (all some.0 some.1 some.2)) some.4

-- all of both
all-both : {X : Type 0} (P Q : X → Type 0) (xs : List X) → All P xs → All Q xs → All (λ x. P x × Q x) xs
all-both P Q xs p q = λ k d h. (p k d h, q k d h)

cut-open : (rows : WholeRows) (path : List Slice) (best : Option ℤ) (bounds : List Bounds) (sources : List Source) → IsNarrowed rows path path bounds sources → IsOpenBox bounds → length rows.cost ≡ length rows.box → IfSome best (λ value. sum_at Least rows.cost bounds <ℤ value) → IsSomeAnd best (λ value. CannotMeet rows path (cut_inequality rows value)) → ⊥
cut-open rows path None bounds sources narrowed open_box priced reaches h = h
cut-open rows path (Some value) bounds sources narrowed open_box priced reaches h = can-meet rows path bounds sources rows.cost (value -ℤ pos 1) narrowed open_box priced (omega linear) h

-- A node whose sides can all be reached within the narrowed box is not shut.
pub meetable-open : (rows : WholeRows) (path : List Slice) (best : Option ℤ) (bounds : List Bounds) (sources : List Source) → IsWithinLimits rows → HasForms (length rows.box) path → IsNarrowed rows path path bounds sources → IsMeetable rows path best bounds → Shut rows path best → ⊥
meetable-open rows path best bounds sources limits forms narrowed meetable (inl crosses) =
    let j = crosses.0 in
    let b : Bounds = record { low = pos 0; high = pos 0 } in
    let t = narrowed.tight j crosses.2 in
    let same : bounds_at rows j ≡ crosses.1 = get_or_default rows.box j b crosses.1 crosses.2 ∙ crosses.3 in
    absurd (omega (linear, t.within_low, t.within_high, meetable.open_box j b (omega (arith, narrowed.dense, crosses.2)), ap (λ (b : Bounds). b.low) same, ap (λ (b : Bounds). b.high) same, crosses.4))
meetable-open rows path best bounds sources limits forms narrowed meetable (inr (inl row)) = all-any (λ (row : WholeRow). (length row.factors ≡ length rows.box) × ReachesSides row.factors row.low row.high bounds) (IsShutByRow rows path) rows.rows (all-both (λ (row : WholeRow). length row.factors ≡ length rows.box) (λ (row : WholeRow). ReachesSides row.factors row.low row.high bounds) rows.rows limits.dense meetable.rows_reach) row (λ row both. sides-open rows path bounds sources row.factors row.low row.high narrowed meetable.open_box both.0 both.1)
meetable-open rows path best bounds sources limits forms narrowed meetable (inr (inr (inl slice))) = all-any (λ (slice : Slice). (length slice.form ≡ length rows.box) × ReachesSides slice.form (Some slice.beta) (Some slice.beta) bounds) (IsShutBySlice rows path) path (all-both (λ (slice : Slice). length slice.form ≡ length rows.box) (λ (slice : Slice). ReachesSides slice.form (Some slice.beta) (Some slice.beta) bounds) path forms meetable.slices_reach) slice (λ slice both. sides-open rows path bounds sources slice.form (Some slice.beta) (Some slice.beta) narrowed meetable.open_box both.0 both.1)
meetable-open rows path best bounds sources limits forms narrowed meetable (inr (inr (inr cut))) = cut-open rows path best bounds sources narrowed meetable.open_box limits.priced meetable.cut_reaches cut

-- A node in whose narrowed box bounds cross is shut.
pub crossing-shut : (rows : WholeRows) (path : List Slice) (best : Option ℤ) (bounds : List Bounds) (sources : List Source) (column : ℕ) → IsNarrowed rows path path bounds sources → column < length rows.box → (narrowed_at bounds column).high <ℤ (narrowed_at bounds column).low → Shut rows path best
crossing-shut rows path best bounds sources column narrowed h crosses = by_source (source_at sources column).is_fixed refl
  where
    none : (x : List ℤ) → LiesInNarrowed rows path x → ⊥
    none x lies =
        let between = LiesIn-at bounds x column (record { low = pos 0; high = pos 0 }) ((narrowed.points x).1 lies) (omega (arith, narrowed.dense)) in
        absurd (omega (linear, between.0, between.1))

    by_source : (fixed : Bool) → (source_at sources column).is_fixed ≡ fixed → Shut rows path best
    by_source true e =
        let some = (narrowed.tight column h).fixed.0 e in
        inr (inr (inl (some.0, some.1, some.2, some.3, inl (λ x lies meets. none x lies))))
    by_source false e =
        let same = (narrowed.tight column h).as_box e in
        inl (any-at (λ (bounds : Bounds). bounds.high <ℤ bounds.low) rows.box column (record { low = pos 0; high = pos 0 }) h (subst (λ (b : Bounds). b.high <ℤ b.low) same crosses))

-- a side out of reach cannot be met
some_weaker : (o : Option ℤ) (P Q : ℤ → Type 0) → ((v : ℤ) → P v → Q v) → IsSomeAnd o P → IsSomeAnd o Q
some_weaker None P Q f h = h
some_weaker (Some v) P Q f h = f v h

pub out-cannot : (rows : WholeRows) (path : List Slice) (bounds : List Bounds) (sources : List Source) (side : Side) (form : List ℤ) (low high : Option ℤ) → IsNarrowed rows path path bounds sources → IsOutOfReach side form low high bounds → IsSomeAnd (side_value side low high) (λ value. CannotMeet rows path (side_inequality side form value))
out-cannot rows path bounds sources side form low high narrowed out = some_weaker (side_value side low high) (λ value. side_factor side value <ℤ sum_at Least (side_form side form) bounds) (λ value. CannotMeet rows path (side_inequality side form value)) (λ value beyond. cannot-meet rows path bounds sources (side_form side form) (side_factor side value) narrowed beyond) out

-- the row or the slice of that side shuts the node
pub row-shut : (rows : WholeRows) (path : List Slice) (row : WholeRow) (side : Side) → IsSomeAnd (side_value side row.low row.high) (λ value. CannotMeet rows path (side_inequality side row.factors value)) → IsShutByRow rows path row
row-shut rows path row Upper h = inl h
row-shut rows path row Lower h = inr h

pub slice-shut : (rows : WholeRows) (path : List Slice) (slice : Slice) (side : Side) → IsSomeAnd (side_value side (Some slice.beta) (Some slice.beta)) (λ value. CannotMeet rows path (side_inequality side slice.form value)) → IsShutBySlice rows path slice
slice-shut rows path slice Upper h = inl h
slice-shut rows path slice Lower h = inr h
