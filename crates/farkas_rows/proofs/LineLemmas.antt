-- The sums of a line, item by item, and how large they get.
use Rattle.std.proofs.Common.{◌≡◌, ℕ, zero, suc, ◌+◌, ◌^◌, ◌<◌, ◌≤◌, List, [], ◌∷◌, ◌++◌, length, get_or, take, drop, map, ℤ, pos, negsuc, ◌+ℤ◌, ◌*ℤ◌, ◌≤ℤ◌, ◌<ℤ◌, nat_abs, refl, sym, ap, ◌∙◌, subst, arith, FitsSigned}
use Rattle.std.specs.Int.{w128}
use Rattle.std.proofs.lemmas.Int.{fits_signed_from_abs}
use Rattle.std.specs.Prelude.{Option, Some, None, IsSome, All, sum_by, unsigned_abs, option_map, unwrap_or}
use Rattle.std.proofs.lemmas.List.{append-nil, take_all, ext_get_or, append_assoc, map-append, take_more, take_at, drop_at, length-map, length-append, take-append-drop}
use Rattle.std.proofs.lemmas.List.Elements.{All-nil, All-cons, All-head, All-tail, All-append, All-take, All-drop, All-weaker, All-map, All-get_or, All-from_get_or}
use Rattle.std.proofs.lemmas.List.Sums.{sum_by-cons}
use Rattle.exact_math.specs.Ring.{integers}
use Rattle.exact_math.specs.IntegerRing.{linear, add_zero}
use Rattle.exact_math.specs.IntegerOrder.{mul_le, mul_le_right, abs_mul, abs_add_le}
use Rattle.exact_vectors.specs.Vectors.{dot, zeros}
use Rattle.exact_vectors.specs.Matrices.{combination, column}
use Rattle.exact_vectors.specs.Inequalities.{NotNegative}
use Rattle.exact_vectors.specs.DotLaws as Dot
use Rattle.exact_vectors.specs.MatrixLaws as Matrices
use Rattle.exact_vectors.specs.InequalityLaws.{dot_nonneg}
use Rattle.whole_rows.specs.WholeRows.{WholeRows}
use Rattle.farkas_rows.specs.declared.line.Use.{Use}
use Rattle.farkas_rows.specs.declared.line.CutUse.{CutUse}
use Rattle.farkas_rows.specs.declared.line.Line.{Line}
use Rattle.farkas_rows.specs.declared.path.Slice.{Slice}
use Rattle.farkas_rows.specs.Inequalities.{Inequality, inequality_at}
use Rattle.farkas_rows.specs.Refutes.{IsDense, IsMultiplier, ComesToNegative, nothing, cut_times, cut_inequalities, multipliers, used, weights, inequality_weight, line_weight}
use Rattle.farkas_rows.specs.NodeLaws.{width-of_each}
use Rattle.farkas_rows.specs.Sides.{factor_of, CanAdd, ComesTo}

-- ---- numbers of an inequality are at most its weight in size

-- a factor
pub factor-small : (j : ℕ) (inequality : Inequality) → nat_abs (factor_of j inequality) ≤ inequality_weight inequality
factor-small j inequality = omega (arith, go inequality.factors j)
  where
    go : (form : List ℤ) (j : ℕ) → nat_abs (get_or form j (pos 0)) ≤ sum_by unsigned_abs form
    go [] j = omega arith
    go (a ∷ form) zero = omega (arith, sum_by-cons unsigned_abs a form)
    go (a ∷ form) (suc j) = omega (arith, sum_by-cons unsigned_abs a form, go form j)

-- the limit
pub limit-small : (inequality : Inequality) → nat_abs inequality.limit ≤ inequality_weight inequality
limit-small inequality = omega arith

-- ---- one more product

-- a dot product with one more product at the end
pub dot-push : (v w : List ℤ) (a b : ℤ) → length v ≡ length w → dot integers (v ++ a ∷ []) (w ++ b ∷ []) ≡ dot integers v w +ℤ a *ℤ b
dot-push v w a b e = Dot.dot-append integers v (a ∷ []) w (b ∷ []) e ∙ ap (λ t. dot integers v w +ℤ t) (add_zero (a *ℤ b))

-- the same with the images of a list
pub dot_map-push : (f : Inequality → ℤ) (times : List ℤ) (inequalities : List Inequality) (m : ℤ) (q : Inequality) → length times ≡ length inequalities → dot integers (times ++ m ∷ []) (map f (inequalities ++ q ∷ [])) ≡ dot integers times (map f inequalities) +ℤ m *ℤ f q
dot_map-push f times inequalities m q e =
    ap (λ (t : List ℤ). dot integers (times ++ m ∷ []) t) (map-append f inequalities (q ∷ [])) ∙ dot-push times (map f inequalities) m (f q) (e ∙ sym (length-map inequalities f))

-- ---- sums are at most weights

-- a multiple's size is that of the number as often
abs_times : (m a : ℤ) → pos 0 ≤ℤ m → pos (nat_abs (m *ℤ a)) ≡ m *ℤ pos (nat_abs a)
abs_times (pos k) a h = ap pos (abs_mul (pos k) a)
abs_times (negsuc k) a h = absurd (omega linear)

-- one product
times_le : (m a : ℤ) (w : ℕ) → pos 0 ≤ℤ m → nat_abs a ≤ w → pos (nat_abs (m *ℤ a)) ≤ℤ (m *ℤ pos w)
times_le m a w h k = rw (abs_times m a h) (mul_le m (pos (nat_abs a)) (pos w) h (omega linear))

-- a sum of products whose numbers are at most the weights
pub dot_small : (f : Inequality → ℤ) → ((q : Inequality) → nat_abs (f q) ≤ inequality_weight q) → (times : List ℤ) (inequalities : List Inequality) → NotNegative times → pos (nat_abs (dot integers times (map f inequalities))) ≤ℤ dot integers times (weights inequalities)
dot_small f small [] inequalities h = omega linear
dot_small f small (m ∷ times) [] h = omega linear
dot_small f small (m ∷ times) (q ∷ inequalities) h =
    let here : pos (nat_abs (m *ℤ f q)) ≤ℤ (m *ℤ pos (inequality_weight q)) = times_le m (f q) (inequality_weight q) (All-head (λ a. pos 0 ≤ℤ a) m times h) (small q) in
    let rest : pos (nat_abs (dot integers times (map f inequalities))) ≤ℤ dot integers times (weights inequalities) = dot_small f small times inequalities (All-tail (λ a. pos 0 ≤ℤ a) m times h) in
    omega (linear, here, rest, abs_add_le (m *ℤ f q) (dot integers times (map f inequalities)))

-- no weight is negative
weights_nonneg : (inequalities : List Inequality) → NotNegative (weights inequalities)
weights_nonneg [] = All-nil (λ a. pos 0 ≤ℤ a)
weights_nonneg (q ∷ inequalities) = All-cons (λ a. pos 0 ≤ℤ a) (pos (inequality_weight q)) (weights inequalities) (omega linear) (weights_nonneg inequalities)

-- nor their sum
pub weight_nonneg : (times : List ℤ) (inequalities : List Inequality) → NotNegative times → pos 0 ≤ℤ dot integers times (weights inequalities)
weight_nonneg times inequalities h = dot_nonneg times (weights inequalities) h (weights_nonneg inequalities)

-- what one more inequality adds is small, where the weight with it is at most 2 to the power 126
pub can_add_one : (f : Inequality → ℤ) → ((q : Inequality) → nat_abs (f q) ≤ inequality_weight q) → (times : List ℤ) (inequalities : List Inequality) (m : ℤ) (q : Inequality) → length times ≡ length inequalities → NotNegative times → pos 1 ≤ℤ m → dot integers (times ++ m ∷ []) (weights (inequalities ++ q ∷ [])) ≤ℤ pos (2 ^ 126)
    → (nat_abs (m *ℤ f q) ≤ 2 ^ 126) × (nat_abs (dot integers times (map f inequalities) +ℤ m *ℤ f q) ≤ 2 ^ 126) × (nat_abs (f q) ≤ 2 ^ 126)
can_add_one f small times inequalities m q e h one light =
    let w : Inequality → ℤ = λ q. pos (inequality_weight q) in
    let total : dot integers (times ++ m ∷ []) (weights (inequalities ++ q ∷ [])) ≡ dot integers times (weights inequalities) +ℤ m *ℤ pos (inequality_weight q) = dot_map-push w times inequalities m q e in
    let past : pos (nat_abs (dot integers times (map f inequalities))) ≤ℤ dot integers times (weights inequalities) = dot_small f small times inequalities h in
    let here : pos (nat_abs (m *ℤ f q)) ≤ℤ (m *ℤ pos (inequality_weight q)) = times_le m (f q) (inequality_weight q) (omega linear) (small q) in
    let once : (pos 1 *ℤ pos (inequality_weight q)) ≤ℤ (m *ℤ pos (inequality_weight q)) = mul_le_right (pos (inequality_weight q)) (pos 1) m (omega linear) one in (
      omega (linear, total, past, here, light),
      omega (linear, total, past, here, light, abs_add_le (dot integers times (map f inequalities)) (m *ℤ f q)),
      omega (linear, total, past, once, light, small q),
    )

-- ---- the sums with one more inequality

-- before the first
pub ComesTo-none : (columns : ℕ) → ComesTo columns [] [] (zeros integers columns) (pos 0)
ComesTo-none columns = record { long = Matrices.length-zeros integers columns; sums = λ j lt. Matrices.zeros-at integers columns j; limit = refl }

-- no number leaves the range
pub ComesTo-room : (columns : ℕ) (times : List ℤ) (inequalities : List Inequality) (total : List ℤ) (bound m : ℤ) (q : Inequality) → ComesTo columns times inequalities total bound → length times ≡ length inequalities → NotNegative times → pos 1 ≤ℤ m → dot integers (times ++ m ∷ []) (weights (inequalities ++ q ∷ [])) ≤ℤ pos (2 ^ 126) → CanAdd total m q
ComesTo-room columns times inequalities total bound m q s e h one light =
    let at : (j : ℕ) → (nat_abs (m *ℤ factor_of j q) ≤ 2 ^ 126) × (nat_abs (dot integers times (map (factor_of j) inequalities) +ℤ m *ℤ factor_of j q) ≤ 2 ^ 126) × (nat_abs (factor_of j q) ≤ 2 ^ 126) = λ j. can_add_one (factor_of j) (factor-small j) times inequalities m q e h one light in
    let limits = can_add_one (λ (q : Inequality). q.limit) limit-small times inequalities m q e h one light in
    record {
      products = λ j lt. (at j).0;
      sums = λ j lt. rw (s.sums j (omega (arith, s.long))) (at j).1;
      limit = limits.2;
      product = limits.0;
    }

-- nor does the sum of the limits
pub ComesTo-limit : (columns : ℕ) (times : List ℤ) (inequalities : List Inequality) (total : List ℤ) (bound m : ℤ) (q : Inequality) → ComesTo columns times inequalities total bound → length times ≡ length inequalities → NotNegative times → pos 1 ≤ℤ m → dot integers (times ++ m ∷ []) (weights (inequalities ++ q ∷ [])) ≤ℤ pos (2 ^ 126) → nat_abs (bound +ℤ m *ℤ q.limit) ≤ 2 ^ 126
ComesTo-limit columns times inequalities total bound m q s e h one light = rw s.limit (can_add_one (λ (q : Inequality). q.limit) limit-small times inequalities m q e h one light).1

-- the sums with it
pub ComesTo-push : (columns : ℕ) (times : List ℤ) (inequalities : List Inequality) (total new : List ℤ) (bound m : ℤ) (q : Inequality) → ComesTo columns times inequalities total bound → length times ≡ length inequalities → length new ≡ length total → ((j : ℕ) → j < length total → get_or new j (pos 0) ≡ get_or total j (pos 0) +ℤ m *ℤ factor_of j q) → ComesTo columns (times ++ m ∷ []) (inequalities ++ q ∷ []) new (bound +ℤ m *ℤ q.limit)
ComesTo-push columns times inequalities total new bound m q s e long added = record {
  long = long ∙ s.long;
  sums = λ j lt. added j (omega (arith, s.long)) ∙ ap (λ t. t +ℤ m *ℤ factor_of j q) (s.sums j lt) ∙ sym (dot_map-push (factor_of j) times inequalities m q e);
  limit = ap (λ t. t +ℤ m *ℤ q.limit) s.limit ∙ sym (dot_map-push (λ (q : Inequality). q.limit) times inequalities m q e);
}

-- ---- the first items of a line

-- the line with so many of its items
abbrev pub upto : Line → ℕ → Line
upto line i = record { cut = line.cut; items = take i line.items }

-- the inequality that an item names
abbrev pub named : WholeRows → List Slice → Option Inequality → Use → Inequality
named rows path end item = unwrap_or (inequality_at rows path end item.index) nothing

-- the multiplier of an item
abbrev pub times_of : Use → ℤ
times_of item = item.times

-- as many multipliers as inequalities
pub length-multipliers : (rows : WholeRows) (path : List Slice) (end : Option Inequality) (line : Line) → length (multipliers line) ≡ length (used rows path end line)
length-multipliers rows path end line =
    length-append (cut_times line.cut) (map times_of line.items) ∙ omega (arith, cut_lengths line.cut, length-map line.items times_of, length-map line.items (named rows path end)) ∙ sym (length-append (cut_inequalities rows line.cut) (map (named rows path end) line.items))
  where
    cut_lengths : (cut : Option CutUse) → length (cut_times cut) ≡ length (cut_inequalities rows cut)
    cut_lengths None = refl
    cut_lengths (Some cut) = refl

-- a list of images with one more item
map-more : {Y : Type 0} (f : Use → Y) (front : List Y) (items : List Use) (i : ℕ) (d : Use) → i < length items → front ++ map f (take (i + 1) items) ≡ (front ++ map f (take i items)) ++ f (get_or items i d) ∷ []
map-more f front items i d h = rw (take_more items i d h, map-append f (take i items) (get_or items i d ∷ [])) (sym (append_assoc front (map f (take i items)) (f (get_or items i d) ∷ [])))

-- one more item
pub multipliers-more : (line : Line) (i : ℕ) (d : Use) → i < length line.items → multipliers (upto line (i + 1)) ≡ multipliers (upto line i) ++ (get_or line.items i d).times ∷ []
multipliers-more line i d h = map-more times_of (cut_times line.cut) line.items i d h

pub used-more : (rows : WholeRows) (path : List Slice) (end : Option Inequality) (line : Line) (i : ℕ) (d : Use) → i < length line.items → used rows path end (upto line (i + 1)) ≡ used rows path end (upto line i) ++ named rows path end (get_or line.items i d) ∷ []
used-more rows path end line i d h = map-more (named rows path end) (cut_inequalities rows line.cut) line.items i d h

-- the first items and the others
map-split : {Y : Type 0} (f : Use → Y) (front : List Y) (items : List Use) (i : ℕ) → front ++ map f items ≡ (front ++ map f (take i items)) ++ map f (drop i items)
map-split f front items i =
    ap (λ (t : List Use). front ++ map f t) (sym (take-append-drop i items)) ∙ ap (λ t. front ++ t) (map-append f (take i items) (drop i items)) ∙ sym (append_assoc front (map f (take i items)) (map f (drop i items)))

-- the multipliers of the first items are not negative where none is
pub upto_nonneg : (line : Line) (i : ℕ) → NotNegative (multipliers line) → NotNegative (multipliers (upto line i)) × NotNegative (map times_of (drop i line.items))
upto_nonneg line i h =
    let split = map-split times_of (cut_times line.cut) line.items i in
    let front = multipliers (upto line i) in
    let whole : NotNegative (front ++ map times_of (drop i line.items)) = subst NotNegative split h in (
      subst NotNegative (take_at front (map times_of (drop i line.items)) (length front) refl) (All-take (λ a. pos 0 ≤ℤ a) (length front) _ whole),
      subst NotNegative (drop_at front (map times_of (drop i line.items)) (length front) refl) (All-drop (λ a. pos 0 ≤ℤ a) (length front) _ whole),
    )

-- the first items weigh no more than all
pub upto_light : (rows : WholeRows) (path : List Slice) (end : Option Inequality) (line : Line) (i : ℕ) → NotNegative (multipliers line) → line_weight rows path end (upto line i) ≤ℤ line_weight rows path end line
upto_light rows path end line i h =
    let front = multipliers (upto line i) in
    let qs = used rows path end (upto line i) in
    let rest = map (named rows path end) (drop i line.items) in
    let w : Inequality → ℤ = λ q. pos (inequality_weight q) in
    let e : line_weight rows path end line ≡ dot integers (front ++ map times_of (drop i line.items)) (weights qs ++ weights rest) =
    ap (λ (t : List ℤ). dot integers t (weights (used rows path end line))) (map-split times_of (cut_times line.cut) line.items i)
    ∙ ap (λ (t : List Inequality). dot integers (front ++ map times_of (drop i line.items)) (weights t)) (map-split (named rows path end) (cut_inequalities rows line.cut) line.items i)
    ∙ ap (dot integers (front ++ map times_of (drop i line.items))) (map-append w qs rest)
    in
    let parts = Dot.dot-append integers front (map times_of (drop i line.items)) (weights qs) (weights rest) (length-multipliers rows path end (upto line i) ∙ sym (length-map qs w)) in
    omega (linear, e, parts, weight_nonneg (map times_of (drop i line.items)) rest (upto_nonneg line i h).1)

-- no items, and all of them
pub multipliers-none : (line : Line) → multipliers (upto line 0) ≡ cut_times line.cut
multipliers-none line = append-nil (cut_times line.cut)

pub used-none : (rows : WholeRows) (path : List Slice) (end : Option Inequality) (line : Line) → used rows path end (upto line 0) ≡ cut_inequalities rows line.cut
used-none rows path end line = append-nil (cut_inequalities rows line.cut)

pub line_weight-none : (rows : WholeRows) (path : List Slice) (end : Option Inequality) (line : Line) → line_weight rows path end (upto line 0) ≡ dot integers (cut_times line.cut) (weights (cut_inequalities rows line.cut))
line_weight-none rows path end line = rw (append-nil (cut_times line.cut), append-nil (cut_inequalities rows line.cut)) refl

pub upto_all : (line : Line) (i : ℕ) → length line.items ≤ i → upto line i ≡ line
upto_all line i h = ap (λ (items : List Use). let whole : Line = record { cut = line.cut; items = items } in whole) (take_all i line.items h)

-- one more item in the weight
pub line_weight-more : (rows : WholeRows) (path : List Slice) (end : Option Inequality) (line : Line) (i : ℕ) (d : Use) → i < length line.items → line_weight rows path end (upto line (i + 1)) ≡ line_weight rows path end (upto line i) +ℤ (get_or line.items i d).times *ℤ pos (inequality_weight (named rows path end (get_or line.items i d)))
line_weight-more rows path end line i d h =
    let w : Inequality → ℤ = λ q. pos (inequality_weight q) in
    rw (multipliers-more line i d h, used-more rows path end line i d h) (dot_map-push w (multipliers (upto line i)) (used rows path end (upto line i)) (get_or line.items i d).times (named rows path end (get_or line.items i d)) (length-multipliers rows path end (upto line i)))

-- the weight with one more item is at most that of the line
pub one_more_light : (rows : WholeRows) (path : List Slice) (end : Option Inequality) (line : Line) (i : ℕ) (d : Use) → i < length line.items → NotNegative (multipliers line) → line_weight rows path end line ≤ℤ pos (2 ^ 126) → dot integers (multipliers (upto line i) ++ (get_or line.items i d).times ∷ []) (weights (used rows path end (upto line i) ++ named rows path end (get_or line.items i d) ∷ [])) ≤ℤ pos (2 ^ 126)
one_more_light rows path end line i d h nonneg light =
    let w : line_weight rows path end (upto line (i + 1)) ≤ℤ pos (2 ^ 126) = omega (linear, upto_light rows path end line (i + 1) nonneg, light) in
    rw (multipliers-more line i d h, used-more rows path end line i d h) at w

-- ---- multipliers, one by one

-- of a fact of each image
unmap : (P : ℤ → Type 0) (items : List Use) → All P (map times_of items) → All (λ (item : Use). P item.times) items
unmap P [] h = All-nil _
unmap P (item ∷ items) h = All-cons (λ (item : Use). P item.times) item items (All-head P item.times (map times_of items) h) (unmap P items (All-tail P item.times (map times_of items) h))

-- of the cut and of each item
pub multipliers-parts : (P : ℤ → Type 0) (line : Line) → All P (multipliers line) → All P (cut_times line.cut) × All (λ (item : Use). P item.times) line.items
multipliers-parts P line h =
    let front = cut_times line.cut in (
      subst (All P) (take_at front (map times_of line.items) (length front) refl) (All-take P (length front) _ h),
      unmap P line.items (subst (All P) (drop_at front (map times_of line.items) (length front) refl) (All-drop P (length front) _ h)),
    )

pub multipliers-each : (P : ℤ → Type 0) (line : Line) → All P (cut_times line.cut) → All (λ (item : Use). P item.times) line.items → All P (multipliers line)
multipliers-each P line h k = All-append P (cut_times line.cut) (map times_of line.items) h (All-map P times_of line.items k)

-- no multiplier in range is negative
pub multipliers_nonneg : (times : List ℤ) → All IsMultiplier times → NotNegative times
multipliers_nonneg times h = All-weaker IsMultiplier (λ m. pos 0 ≤ℤ m) (λ m k. omega (linear, k.0)) times h

-- ---- numbers that rise

-- the number of an item
pub index-at : (items : List Use) (k : ℕ) (d : Use) → k < length items → get_or (map (λ (item : Use). item.index) items) k 0 ≡ (get_or items k d).index
index-at [] k d h = absurd (omega arith)
index-at (item ∷ items) zero d h = refl
index-at (item ∷ items) (suc k) d h = index-at items k d (omega arith)

-- what is there after a map is there before it
pub IsSome-mapped : {X Y : Type 0} (f : X → Y) (r : Option X) (o : Option Y) → option_map f r ≡ o → IsSome r → IsSome o
IsSome-mapped f None o e h = cc
IsSome-mapped f (Some x) o e h = subst IsSome e refl

-- ---- the sums with one more item

-- no number leaves the range
pub item_room : (columns : ℕ) (rows : WholeRows) (path : List Slice) (end : Option Inequality) (line : Line) (i : ℕ) (d : Use) (total : List ℤ) (bound : ℤ) → i < length line.items → All IsMultiplier (multipliers line) → line_weight rows path end line ≤ℤ pos (2 ^ 126) → ComesTo columns (multipliers (upto line i)) (used rows path end (upto line i)) total bound
    → CanAdd total (get_or line.items i d).times (named rows path end (get_or line.items i d)) × FitsSigned w128 (bound +ℤ (get_or line.items i d).times *ℤ (named rows path end (get_or line.items i d)).limit)
item_room columns rows path end line i d total bound h valid light s =
    let item = get_or line.items i d in
    let q = named rows path end item in
    let times = multipliers (upto line i) in
    let qs = used rows path end (upto line i) in
    let nonneg : NotNegative (multipliers line) = multipliers_nonneg (multipliers line) valid in
    let one : pos 1 ≤ℤ item.times = (All-get_or (λ (item : Use). IsMultiplier item.times) line.items i d h (multipliers-parts IsMultiplier line valid).1).0 in
    let small = one_more_light rows path end line i d h nonneg light in (
      ComesTo-room columns times qs total bound item.times q s (length-multipliers rows path end (upto line i)) (upto_nonneg line i nonneg).0 one small,
      fits_signed_from_abs w128 (bound +ℤ item.times *ℤ q.limit) (omega (arith, ComesTo-limit columns times qs total bound item.times q s (length-multipliers rows path end (upto line i)) (upto_nonneg line i nonneg).0 one small)),
    )

-- the sums with it
pub item_added : (columns : ℕ) (rows : WholeRows) (path : List Slice) (end : Option Inequality) (line : Line) (i : ℕ) (d : Use) (total new : List ℤ) (bound : ℤ) → i < length line.items → ComesTo columns (multipliers (upto line i)) (used rows path end (upto line i)) total bound → length new ≡ length total → ((j : ℕ) → j < length total → get_or new j (pos 0) ≡ get_or total j (pos 0) +ℤ (get_or line.items i d).times *ℤ factor_of j (named rows path end (get_or line.items i d)))
    → ComesTo columns (multipliers (upto line (i + 1))) (used rows path end (upto line (i + 1))) new (bound +ℤ (get_or line.items i d).times *ℤ (named rows path end (get_or line.items i d)).limit)
item_added columns rows path end line i d total new bound h s long added =
    let item = get_or line.items i d in
    rw (multipliers-more line i d h, used-more rows path end line i d h) (ComesTo-push columns (multipliers (upto line i)) (used rows path end (upto line i)) total new bound item.times (named rows path end item) s (length-multipliers rows path end (upto line i)) long added)

-- ---- the end

-- the column of the factors
column-factors : (j : ℕ) (inequalities : List Inequality) → column integers (map (λ (inequality : Inequality). inequality.factors) inequalities) j ≡ map (factor_of j) inequalities
column-factors j [] = refl
column-factors j (q ∷ inequalities) = ap {B = List ℤ} (λ t. factor_of j q ∷ t) (column-factors j inequalities)

-- what the sums say of the combination
combination-total : (columns : ℕ) (times : List ℤ) (inequalities : List Inequality) (total : List ℤ) (bound : ℤ) → All (IsDense columns) inequalities → ComesTo columns times inequalities total bound → (j : ℕ) → j < columns → get_or (combination integers columns times (map (λ (inequality : Inequality). inequality.factors) inequalities)) j (pos 0) ≡ get_or total j (pos 0)
combination-total columns times inequalities total bound dense s j lt =
    Matrices.combination-at integers columns times (map (λ (inequality : Inequality). inequality.factors) inequalities) j (width-of_each columns inequalities dense) ∙ ap (dot integers times) (column-factors j inequalities) ∙ sym (s.sums j lt)

-- sums that are 0 and a limit below it
pub ComesToNegative-of : (columns : ℕ) (times : List ℤ) (inequalities : List Inequality) (total : List ℤ) (bound : ℤ) → All (IsDense columns) inequalities → ComesTo columns times inequalities total bound → All (λ number. number ≡ pos 0) total → bound <ℤ pos 0 → ComesToNegative columns times inequalities
ComesToNegative-of columns times inequalities total bound dense s vanish negative =
    let rows = map (λ (inequality : Inequality). inequality.factors) inequalities in
    let long : length (combination integers columns times rows) ≡ columns = Matrices.length-combination integers columns times rows (width-of_each columns inequalities dense) in
    record {
      vanishes = ext_get_or (pos 0) (combination integers columns times rows) (zeros integers columns) (long ∙ sym (Matrices.length-zeros integers columns)) (λ j lt. combination-total columns times inequalities total bound dense s j (omega (arith, long)) ∙ vanish j (pos 0) (omega (arith, long, s.long)) ∙ sym (Matrices.zeros-at integers columns j));
      negative = subst (λ t. t <ℤ pos 0) s.limit negative;
    }

-- and back
pub ComesToNegative-zero : (columns : ℕ) (times : List ℤ) (inequalities : List Inequality) (total : List ℤ) (bound : ℤ) → All (IsDense columns) inequalities → ComesTo columns times inequalities total bound → ComesToNegative columns times inequalities → All (λ number. number ≡ pos 0) total × (bound <ℤ pos 0)
ComesToNegative-zero columns times inequalities total bound dense s refuted =
    let rows = map (λ (inequality : Inequality). inequality.factors) inequalities in (
      All-from_get_or (λ number. number ≡ pos 0) total (pos 0) (λ j lt. sym (combination-total columns times inequalities total bound dense s j (omega (arith, s.long))) ∙ ap (λ (t : List ℤ). get_or t j (pos 0)) refuted.vanishes ∙ Matrices.zeros-at integers columns j),
      subst (λ t. t <ℤ pos 0) (sym s.limit) refuted.negative,
    )

-- ---- a multiplier is at most the weight of its line

-- of multipliers that are at least 1
pub multipliers_within : (times : List ℤ) (inequalities : List Inequality) (bound : ℤ) → length times ≡ length inequalities → All (λ number. pos 1 ≤ℤ number) times → dot integers times (weights inequalities) ≤ℤ bound → All (λ number. number ≤ℤ bound) times
multipliers_within [] inequalities bound e h light = All-nil _
multipliers_within (m ∷ times) [] bound e h light = absurd (omega arith)
multipliers_within (m ∷ times) (q ∷ inequalities) bound e h light =
    let one : pos 1 ≤ℤ m = All-head (λ number. pos 1 ≤ℤ number) m times h in
    let rest = All-tail (λ number. pos 1 ≤ℤ number) m times h in
    let others : pos 0 ≤ℤ dot integers times (weights inequalities) = weight_nonneg times inequalities (All-weaker (λ number. pos 1 ≤ℤ number) (λ number. pos 0 ≤ℤ number) (λ number one. omega linear) times rest) in
    let once : (m *ℤ pos 1) ≤ℤ (m *ℤ pos (inequality_weight q)) = mul_le m (pos 1) (pos (inequality_weight q)) (omega linear) (omega linear) in
    All-cons (λ number. number ≤ℤ bound) m times (omega (linear, others, once, light)) (multipliers_within times inequalities bound (omega arith) rest (omega (linear, others, once, light, one)))
