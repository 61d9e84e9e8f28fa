-- Steps of the loops that add products.
use Rattle.std.proofs.Common.{◌≡◌, ◌↔◌, ℕ, zero, suc, ◌+◌, ◌*◌, ◌<◌, ◌≤◌, ℤ, pos, ◌+ℤ◌, ◌*ℤ◌, List, [], ◌∷◌, ◌++◌, length, get_or, take, drop, ◌⊎◌, ⊎_elim, FitsSigned, refl, sym, ap, ap₂, ◌∙◌, subst, subst₂, arith, add-one, drop-cons, append_assoc, length-append, Result, Ok, Err}
use Rattle.std.specs.Result.{IsErrAnd}
use Rattle.std.specs.Prelude.{IfErr}
use Rattle.std.proofs.lemmas.List.{take_more, take_all}
use Rattle.exact_math.specs.Ring.{integers}
use Rattle.exact_math.specs.IntegerLaws.{add_assoc, add_zero}
use Rattle.exact_vectors.specs.Range.{StaysInRange}
use Rattle.exact_vectors.specs.Vectors.{dot, add}
use Rattle.exact_vectors.specs.Matrices.{HasWidth, column, combination, rows_of, times_matrix, times_vector}
use Rattle.exact_vectors.specs.MatrixLaws as Matrix
use Rattle.spaces.specs.Stops.{StopsUnless}
use Rattle.spaces.specs.Tables.{Table, row_at, rows_in}
use Rattle.spaces.specs.declared.map_stop.MapStop.{MapStop}
use Rattle.spaces.specs.declared.map_stop.MapStop.TheVariants.{Wide, NoMemory}
use Rattle.spaces.specs.TableLaws as Tables
use mir.Syntax.{w128}

-- what is left to add, with the next two items taken off
pub left_range : (s p q : ℤ) (v w v' w' : List ℤ) → v ≡ p ∷ v' → w ≡ q ∷ w' → StaysInRange s v w ↔ (FitsSigned w128 (p *ℤ q) × FitsSigned w128 (s +ℤ p *ℤ q) × StaysInRange (s +ℤ p *ℤ q) v' w')
left_range s p q v w v' w' e f = (λ h. subst₂ (StaysInRange s) e f h, λ h. subst₂ (StaysInRange s) (sym e) (sym f) h)

-- with a product added, the rest stays in range where all does
pub next_range : (All : Type 0) (s p q t : ℤ) (v w v' w' : List ℤ) → v ≡ p ∷ v' → w ≡ q ∷ w' → FitsSigned w128 (p *ℤ q) × FitsSigned w128 (s +ℤ p *ℤ q) → t ≡ s +ℤ p *ℤ q → All ↔ StaysInRange s v w → All ↔ StaysInRange t v' w'
next_range All s p q t v w v' w' e f fits is same =
    let left = left_range s p q v w v' w' e f in
    (λ h. subst (λ z. StaysInRange z v' w') (sym is) (left.0 (same.0 h)).2, λ h. same.1 (left.1 (fits.0, fits.1, subst (λ z. StaysInRange z v' w') is h)))

-- with a product added, the sum and the rest are the whole
pub next_total : (s p q t d : ℤ) (v w v' w' : List ℤ) → v ≡ p ∷ v' → w ≡ q ∷ w' → t ≡ s +ℤ p *ℤ q → s +ℤ dot integers v w ≡ d → t +ℤ dot integers v' w' ≡ d
next_total s p q t d v w v' w' e f is total = rw (is, add_assoc) (subst₂ (λ l m. s +ℤ dot integers l m ≡ d) e f total)

-- past the last product nothing is left
pub end_range : (s : ℤ) (v w : List ℤ) → (v ≡ []) ⊎ (w ≡ []) → StaysInRange s v w
end_range s [] w e = tt
end_range s (a ∷ v) [] e = tt
end_range s (a ∷ v) (x ∷ w) e = ⊎_elim (λ h. cc) (λ h. cc) e

-- so the sum is the whole
pub end_total : (s d : ℤ) (v w : List ℤ) → (v ≡ []) ⊎ (w ≡ []) → s +ℤ dot integers v w ≡ d → s ≡ d
end_total s d [] w e total = sym (add_zero s) ∙ total
end_total s d (a ∷ v) [] e total = sym (add_zero s) ∙ total
end_total s d (a ∷ v) (x ∷ w) e total = ⊎_elim (λ h. cc) (λ h. cc) e

-- the next item of what is left of a list
pub rest_of : (v : List ℤ) (k : ℕ) → k < length v → drop k v ≡ get_or v k (pos 0) ∷ drop (k + 1) v
rest_of v k h = rw (add-one, drop-cons v k (pos 0))

-- the item of a column of a matrix in row order
pub column_item : (t : Table ℤ) (j k : ℕ) → k < t.rows → get_or (column integers (rows_in t) j) k (pos 0) ≡ get_or (row_at t k) j (pos 0)
column_item t j k h =
    let there : k < length (rows_in t) = omega (arith, Tables.length-rows_in t) in
    Matrix.column-at integers (rows_in t) j k [] (pos 0) there ∙ ap (λ l. get_or l j (pos 0)) (Tables.rows_in-at t k h)

-- how long it is
pub length-column : (rows : List (List ℤ)) (j : ℕ) → length (column integers rows j) ≡ length rows
length-column [] j = refl
length-column (row ∷ rows) j = ap suc (length-column rows j)

-- what is left of a column
pub rest_of_column : (t : Table ℤ) (j k : ℕ) (q : ℤ) → k < t.rows → q ≡ get_or (row_at t k) j (pos 0) → drop k (column integers (rows_in t) j) ≡ q ∷ drop (k + 1) (column integers (rows_in t) j)
rest_of_column t j k q h e =
    let there : k < length (column integers (rows_in t) j) = omega (arith, length-column (rows_in t) j, Tables.length-rows_in t) in
    rest_of (column integers (rows_in t) j) k there ∙ ap (λ z. z ∷ drop (k + 1) (column integers (rows_in t) j)) (column_item t j k h ∙ sym e)

-- past the end nothing is left
pub none_left : (v : List ℤ) (k : ℕ) → length v ≤ k → drop k v ≡ []
none_left [] zero h = refl
none_left [] (suc k) h = refl
none_left (x ∷ v) zero h = absurd (omega arith)
none_left (x ∷ v) (suc k) h = none_left v k (omega arith)

-- the item of an image
image-at : (base : List ℤ) (t : Table ℤ) (x : List ℤ) (i : ℕ) → length base ≡ t.rows → i < t.rows → get_or (add integers base (times_vector integers (rows_in t) x)) i (pos 0) ≡ get_or base i (pos 0) +ℤ dot integers (row_at t i) x
image-at base t x i e h =
    let there : i < length (rows_in t) = omega (arith, Tables.length-rows_in t) in
    Matrix.add-at integers base (times_vector integers (rows_in t) x) i (e ∙ sym (Tables.length-rows_in t) ∙ sym (Matrix.length-times_vector integers (rows_in t) x))
    ∙ ap (λ z. get_or base i (pos 0) +ℤ z) (Matrix.times_vector-at integers (rows_in t) x i (pos 0) [] there ∙ ap (λ l. dot integers l x) (Tables.rows_in-at t i h))

-- how many items it has
length-image : (base : List ℤ) (t : Table ℤ) (x : List ℤ) → length base ≡ t.rows → length (add integers base (times_vector integers (rows_in t) x)) ≡ t.rows
length-image base t x e = Matrix.length-add integers t.rows base (times_vector integers (rows_in t) x) e (Matrix.length-times_vector integers (rows_in t) x ∙ Tables.length-rows_in t)

-- an item more of an image
pub image_more : (base : List ℤ) (t : Table ℤ) (x items : List ℤ) (i : ℕ) (item : ℤ) → length base ≡ t.rows → i < t.rows → item ≡ get_or base i (pos 0) +ℤ dot integers (row_at t i) x
    → items ≡ take i (add integers base (times_vector integers (rows_in t) x)) → items ++ item ∷ [] ≡ take (i + 1) (add integers base (times_vector integers (rows_in t) x))
image_more base t x items i item e h is done =
    let there : i < length (add integers base (times_vector integers (rows_in t) x)) = omega (arith, length-image base t x e) in
    ap₂ (λ l z. l ++ z ∷ []) done (is ∙ sym (image-at base t x i e h)) ∙ sym (take_more (add integers base (times_vector integers (rows_in t) x)) i (pos 0) there)

-- all of them
pub image_all : (base : List ℤ) (t : Table ℤ) (x items : List ℤ) (i : ℕ) → length base ≡ t.rows → t.rows ≤ i → items ≡ take i (add integers base (times_vector integers (rows_in t) x)) → items ≡ add integers base (times_vector integers (rows_in t) x)
image_all base t x items i e past done =
    done ∙ take_all i (add integers base (times_vector integers (rows_in t) x)) (let few : length (add integers base (times_vector integers (rows_in t) x)) ≤ i = omega (arith, length-image base t x e) in few)

-- an item more of a row vector times a matrix
pub product_more : (t : Table ℤ) (factors before items : List ℤ) (j : ℕ) (item : ℤ) → length t.items ≡ t.rows * t.width → j < t.width → item ≡ dot integers factors (column integers (rows_in t) j)
    → items ≡ before ++ take j (combination integers t.width factors (rows_in t)) → items ++ item ∷ [] ≡ before ++ take (j + 1) (combination integers t.width factors (rows_in t))
product_more t factors before items j item size h is done =
    let product : List ℤ = combination integers t.width factors (rows_in t) in
    let wide = Tables.HasWidth-rows_in t size in
    let there : j < length product = omega (arith, Matrix.length-combination integers t.width factors (rows_in t) wide) in
    ap₂ (λ l z. l ++ z ∷ []) done (is ∙ sym (Matrix.combination-at integers t.width factors (rows_in t) j wide))
    ∙ append_assoc before (take j product) (get_or product j (pos 0) ∷ [])
    ∙ ap (λ l. before ++ l) (sym (take_more product j (pos 0) there))

-- all of them
pub product_all : (t : Table ℤ) (factors before items : List ℤ) (j : ℕ) → length t.items ≡ t.rows * t.width → t.width ≤ j → items ≡ before ++ take j (combination integers t.width factors (rows_in t)) → items ≡ before ++ combination integers t.width factors (rows_in t)
product_all t factors before items j size past done =
    done ∙ ap (λ l. before ++ l) (take_all j (combination integers t.width factors (rows_in t))
    (let few : length (combination integers t.width factors (rows_in t)) ≤ j = omega (arith, Matrix.length-combination integers t.width factors (rows_in t) (Tables.HasWidth-rows_in t size)) in few))

-- how many rows a product of matrices has
length-times_matrix : (n : ℕ) (left right : List (List ℤ)) → length (times_matrix integers n left right) ≡ length left
length-times_matrix n [] right = refl
length-times_matrix n (row ∷ left) right = ap suc (length-times_matrix n left right)

-- the row of one
times_matrix-at : (n : ℕ) (left right : List (List ℤ)) (i : ℕ) → i < length left → get_or (times_matrix integers n left right) i [] ≡ combination integers n (get_or left i []) right
times_matrix-at n [] right i h = absurd (omega arith)
times_matrix-at n (row ∷ left) right zero h = refl
times_matrix-at n (row ∷ left) right (suc i) h = times_matrix-at n left right i (omega arith)

-- a row more of a product of matrices
pub rows_more : (n : ℕ) (left : Table ℤ) (right : List (List ℤ)) (items new : List ℤ) (i : ℕ) → HasWidth n right → i < left.rows → length items ≡ i * n → new ≡ items ++ combination integers n (row_at left i) right
    → rows_of n i items ≡ take i (times_matrix integers n (rows_in left) right) → (length new ≡ (i + 1) * n) × (rows_of n (i + 1) new ≡ take (i + 1) (times_matrix integers n (rows_in left) right))
rows_more n left right items new i wide h size is done =
    let row : List ℤ = combination integers n (row_at left i) right in
    let width : length row ≡ n = Matrix.length-combination integers n (row_at left i) right wide in
    let there : i < length (rows_in left) = omega (arith, Tables.length-rows_in left) in
    let there_too : i < length (times_matrix integers n (rows_in left) right) = omega (arith, length-times_matrix n (rows_in left) right) in (
      ap length is ∙ simp length-append (omega arith),
      ap (rows_of n (i + 1)) is
          ∙ Tables.rows_of-push n i items row size width
          ∙ ap₂ (λ l r. l ++ r ∷ []) done (ap (λ l. combination integers n l right) (sym (Tables.rows_in-at left i h)) ∙ sym (times_matrix-at n (rows_in left) right i there))
          ∙ sym (take_more (times_matrix integers n (rows_in left) right) i [] there_too),
    )

-- all rows
pub rows_all : (n : ℕ) (left : Table ℤ) (right : List (List ℤ)) (items : List ℤ) (i : ℕ) → left.rows ≡ i → rows_of n i items ≡ take i (times_matrix integers n (rows_in left) right) → rows_of n left.rows items ≡ times_matrix integers n (rows_in left) right
rows_all n left right items i e done =
    ap (λ k. rows_of n k items) e ∙ done
    ∙ take_all i (times_matrix integers n (rows_in left) right) (let few : length (times_matrix integers n (rows_in left) right) ≤ i = omega (arith, length-times_matrix n (rows_in left) right, Tables.length-rows_in left) in few)

-- a stop because of a part is one because of the whole
pub stops_for_all : (Part All : Type 0) (stop : MapStop) → (All → Part) → StopsUnless Part stop → StopsUnless All stop
stops_for_all Part All Wide f h = λ all. h (f all)
stops_for_all Part All NoMemory f h = tt

-- the same, handed on
pub stop_handed_on : {A : Type 0} (Part All : Type 0) (stop : MapStop) (r : Result A MapStop) → IsErrAnd r (λ e. e ≡ stop) → (All → Part) → StopsUnless Part stop → IfErr r (StopsUnless All)
stop_handed_on Part All stop (Ok x) e f h = tt
stop_handed_on Part All stop (Err s) e f h = subst (StopsUnless All) (sym e) (stops_for_all Part All stop f h)
