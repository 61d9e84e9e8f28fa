-- The laws of matrices as lists of rows over any commutative ring.
use Rattle.std.proofs.Common.{◌≡◌, ℕ, zero, suc, ◌<◌, pos, List, [], ◌∷◌, length, get_or, set, replicate, refl, sym, ap, ap₂, ◌∙◌, arith, All}
use Rattle.exact_math.specs.Ring.{Ring}
use Rattle.exact_math.specs.RingLaws as Laws
use Rattle.exact_vectors.specs.Vectors.{dot, scale, add, zeros}
use Rattle.exact_vectors.specs.Matrices.{HasWidth, times_vector, combination, column, put_row, transpose, times_matrix}
use Rattle.exact_vectors.specs.DotLaws as Dot

module _ {A : Type 0} (r : Ring A) where
  -- a sum of lists of one length has that length
  pub length-add : (n : ℕ) (v w : List A) → length v ≡ n → length w ≡ n → length (add r v w) ≡ n
  length-add n [] w e f = e
  length-add n (a ∷ v) [] e f = f
  length-add zero (a ∷ v) (b ∷ w) e f = absurd (omega arith)
  length-add (suc n) (a ∷ v) (b ∷ w) e f = ap suc (length-add n v w (omega arith) (omega arith))

  -- a scaled list has the list's length
  pub length-scale : (k : A) (v : List A) → length (scale r k v) ≡ length v
  length-scale k [] = refl
  length-scale k (a ∷ v) = ap suc (length-scale k v)

  -- the number of zeros
  pub length-zeros : (n : ℕ) → length (zeros r n) ≡ n
  length-zeros zero = refl
  length-zeros (suc n) = ap suc (length-zeros n)

  -- a combination of rows has as many items as a row
  pub length-combination : (n : ℕ) (y : List A) (rows : List (List A)) → HasWidth n rows → length (combination r n y rows) ≡ n
  length-combination n [] rows h = length-zeros n
  length-combination n (k ∷ y) [] h = length-zeros n
  length-combination n (k ∷ y) (row ∷ rows) h = length-add n (scale r k row) (combination r n y rows) (length-scale k row ∙ h.0) (length-combination n y rows h.1)

  -- a product with a vector has as many items as there are rows
  pub length-times_vector : (rows : List (List A)) (x : List A) → length (times_vector r rows x) ≡ length rows
  length-times_vector [] x = refl
  length-times_vector (row ∷ rows) x = ap suc (length-times_vector rows x)

  -- the item of a product with a vector
  pub times_vector-at : (rows : List (List A)) (x : List A) (i : ℕ) (d : A) (e : List A) → i < length rows → get_or (times_vector r rows x) i d ≡ dot r (get_or rows i e) x
  times_vector-at [] x i d e h = absurd (omega arith)
  times_vector-at (row ∷ rows) x zero d e h = refl
  times_vector-at (row ∷ rows) x (suc i) d e h = times_vector-at rows x i d e (omega arith)

  -- a row replaced: one item of the product changes
  pub times_vector-set : (rows : List (List A)) (x : List A) (i : ℕ) (row : List A) → times_vector r (set rows i row) x ≡ set (times_vector r rows x) i (dot r row x)
  times_vector-set [] x i row = refl
  times_vector-set (first ∷ rows) x zero row = refl
  times_vector-set (first ∷ rows) x (suc i) row = ap {B = List A} (λ l. dot r first x ∷ l) (times_vector-set rows x i row)

  -- a replaced row of the width keeps the width
  pub HasWidth-set : (n : ℕ) (rows : List (List A)) (i : ℕ) (row : List A) → HasWidth n rows → length row ≡ n → HasWidth n (set rows i row)
  HasWidth-set n [] i row h e = h
  HasWidth-set n (first ∷ rows) zero row h e = (e, h.1)
  HasWidth-set n (first ∷ rows) (suc i) row h e = (h.0, HasWidth-set n rows i row h.1 e)

  -- the width of one row
  pub HasWidth-at : (n : ℕ) (rows : List (List A)) (i : ℕ) (e : List A) → HasWidth n rows → i < length rows → length (get_or rows i e) ≡ n
  HasWidth-at n [] i e h k = absurd (omega arith)
  HasWidth-at n (row ∷ rows) zero e h k = h.0
  HasWidth-at n (row ∷ rows) (suc i) e h k = HasWidth-at n rows i e h.1 (omega arith)

  -- the transposed product: y (A x) = (y A) x
  pub dot_times_vector : (n : ℕ) (y : List A) (rows : List (List A)) (x : List A) → HasWidth n rows → dot r y (times_vector r rows x) ≡ dot r (combination r n y rows) x
  dot_times_vector n [] rows x h = sym (Dot.dot-zeros_left r n x)
  dot_times_vector n (k ∷ y) [] x h = sym (Dot.dot-zeros_left r n x)
  dot_times_vector n (k ∷ y) (row ∷ rows) x h =
      ap (r.add _) (dot_times_vector n y rows x h.1)
      ∙ ap (λ z. r.add z (dot r (combination r n y rows) x)) (sym (Dot.dot-scale_left r k row x))
      ∙ sym (Dot.dot-add_left r (scale r k row) (combination r n y rows) x (length-scale k row ∙ h.0 ∙ sym (length-combination n y rows h.1)))

  -- the item of a sum of lists
  pub add-at : (v w : List A) (j : ℕ) → length v ≡ length w → get_or (add r v w) j (r.literal (pos 0)) ≡ r.add (get_or v j (r.literal (pos 0))) (get_or w j (r.literal (pos 0)))
  add-at [] [] j e = sym (r.add_zero _)
  add-at [] (b ∷ w) j e = absurd (omega arith)
  add-at (a ∷ v) [] j e = absurd (omega arith)
  add-at (a ∷ v) (b ∷ w) zero e = refl
  add-at (a ∷ v) (b ∷ w) (suc j) e = add-at v w j (omega arith)

  -- the item of a scaled list
  pub scale-at : (k : A) (v : List A) (j : ℕ) → get_or (scale r k v) j (r.literal (pos 0)) ≡ r.mul k (get_or v j (r.literal (pos 0)))
  scale-at k [] j = sym (Laws.mul_zero r k)
  scale-at k (a ∷ v) zero = refl
  scale-at k (a ∷ v) (suc j) = scale-at k v j

  -- the item of a list of zeros
  pub zeros-at : (n j : ℕ) → get_or (zeros r n) j (r.literal (pos 0)) ≡ r.literal (pos 0)
  zeros-at zero j = refl
  zeros-at (suc n) zero = refl
  zeros-at (suc n) (suc j) = zeros-at n j

  -- the item of a combination of rows is the dot product with the column
  pub combination-at : (n : ℕ) (y : List A) (rows : List (List A)) (j : ℕ) → HasWidth n rows → get_or (combination r n y rows) j (r.literal (pos 0)) ≡ dot r y (column r rows j)
  combination-at n [] rows j h = zeros-at n j
  combination-at n (k ∷ y) [] j h = zeros-at n j
  combination-at n (k ∷ y) (row ∷ rows) j h =
      add-at (scale r k row) (combination r n y rows) j (length-scale k row ∙ h.0 ∙ sym (length-combination n y rows h.1))
      ∙ ap (λ z. r.add z (get_or (combination r n y rows) j (r.literal (pos 0)))) (scale-at k row j)
      ∙ ap (r.add _) (combination-at n y rows j h.1)

  -- a first row in front of each column adds its multiple
  times-put_row : (row : List A) (columns : List (List A)) (k : A) (y : List A) → length row ≡ length columns → times_vector r (put_row row columns) (k ∷ y) ≡ add r (scale r k row) (times_vector r columns y)
  times-put_row [] columns k y e = refl
  times-put_row (a ∷ row) [] k y e = absurd (omega arith)
  times-put_row (a ∷ row) (c ∷ columns) k y e = ap₂ (λ (z : A) (l : List A). r.add z (dot r c y) ∷ l) (r.mul_comm a k) (times-put_row row columns k y (omega arith))

  -- empty columns give zeros
  times-empty_columns : (n : ℕ) (y : List A) → times_vector r (replicate n []) y ≡ zeros r n
  times-empty_columns zero y = refl
  times-empty_columns (suc n) y = ap {B = List A} (λ l. r.literal (pos 0) ∷ l) (times-empty_columns n y)

  -- there are `n` columns
  pub length-transpose : (n : ℕ) (rows : List (List A)) → HasWidth n rows → length (transpose n rows) ≡ n
  length-transpose n [] h = go n
    where
      go : (n : ℕ) → length (replicate {A = List A} n []) ≡ n
      go zero = refl
      go (suc n) = ap suc (go n)
  length-transpose n (row ∷ rows) h = go n row (transpose n rows) h.0 (length-transpose n rows h.1)
    where
      go : (n : ℕ) (row : List A) (columns : List (List A)) → length row ≡ n → length columns ≡ n → length (put_row row columns) ≡ n
      go n [] columns e f = e
      go n (a ∷ row) [] e f = f
      go zero (a ∷ row) (c ∷ columns) e f = absurd (omega arith)
      go (suc n) (a ∷ row) (c ∷ columns) e f = ap suc (go n row columns (omega arith) (omega arith))

  -- the product of the transpose with a vector is the combination of the rows
  pub times_transpose : (n : ℕ) (rows : List (List A)) (y : List A) → HasWidth n rows → length y ≡ length rows → times_vector r (transpose n rows) y ≡ combination r n y rows
  times_transpose n [] [] h e = times-empty_columns n []
  times_transpose n [] (k ∷ y) h e = absurd (omega arith)
  times_transpose n (row ∷ rows) [] h e = absurd (omega arith)
  times_transpose n (row ∷ rows) (k ∷ y) h e = times-put_row row (transpose n rows) k y (h.0 ∙ sym (length-transpose n rows h.1)) ∙ ap (add r (scale r k row)) (times_transpose n rows y h.1 (omega arith))

  -- a product of matrices times a vector: (A B) x = A (B x)
  pub times_matrix_vector : (n : ℕ) (left right : List (List A)) (x : List A) → HasWidth n right → times_vector r (times_matrix r n left right) x ≡ times_vector r left (times_vector r right x)
  times_matrix_vector n [] right x h = refl
  times_matrix_vector n (row ∷ left) right x h = ap₂ (λ (z : A) (l : List A). z ∷ l) (sym (dot_times_vector n row right x h)) (times_matrix_vector n left right x h)

  -- the item of a column
  pub column-at : (rows : List (List A)) (j i : ℕ) (e : List A) (d : A) → i < length rows → get_or (column r rows j) i d ≡ get_or (get_or rows i e) j (r.literal (pos 0))
  column-at [] j i e d h = absurd (omega arith)
  column-at (row ∷ rows) j zero e d h = refl
  column-at (row ∷ rows) j (suc i) e d h = column-at rows j i e d (omega arith)

  -- a row replaced: one item of the column changes
  pub column-set : (rows : List (List A)) (j i : ℕ) (row : List A) → column r (set rows i row) j ≡ set (column r rows j) i (get_or row j (r.literal (pos 0)))
  column-set [] j i row = refl
  column-set (first ∷ rows) j zero row = refl
  column-set (first ∷ rows) j (suc i) row = ap {B = List A} (λ l. get_or first j (r.literal (pos 0)) ∷ l) (column-set rows j i row)

  -- a sum of vectors of one length: A (x + y) = A x + A y
  pub times_vector-add : (rows : List (List A)) (x y : List A) → length x ≡ length y → times_vector r rows (add r x y) ≡ add r (times_vector r rows x) (times_vector r rows y)
  times_vector-add [] x y e = refl
  times_vector-add (row ∷ rows) x y e = ap₂ (λ (z : A) (l : List A). z ∷ l) (Dot.dot-add_right r row x y e) (times_vector-add rows x y e)

  -- a multiple of a vector: A (k x) = k (A x)
  pub times_vector-scale : (rows : List (List A)) (k : A) (x : List A) → times_vector r rows (scale r k x) ≡ scale r k (times_vector r rows x)
  times_vector-scale [] k x = refl
  times_vector-scale (row ∷ rows) k x = ap₂ (λ (z : A) (l : List A). z ∷ l) (Dot.dot-scale_right r k row x) (times_vector-scale rows k x)

-- the width of each row, said with std's word
pub HasWidth-of_all : {A : Type 0} (n : ℕ) (rows : List (List A)) → All (λ row. length row ≡ n) rows → HasWidth n rows
HasWidth-of_all n [] h = tt
HasWidth-of_all n (row ∷ rows) h = (h 0 [] (omega arith), HasWidth-of_all n rows (λ k d lt. h (suc k) d (omega arith)))
