-- What the weighted sides of a node and its equalities sum up to.
use Rattle.std.proofs.Common.{◌≡◌, ℕ, zero, suc, ◌<◌, ℤ, pos, List, [], ◌∷◌, length, get_or, map, refl, sym, ap, ap₂, subst, ◌∙◌, arith}
use Rattle.std.proofs.lemmas.List.{ext_get_or, length-map}
use Rattle.exact_math.specs.Ring.{Ring, integers}
use Rattle.exact_math.specs.Rational.{ℚ, whole, neg_ℚ, ◌+ℚ◌}
use Rattle.exact_math.specs.RationalRing.{rationals, whole_add, whole_mul}
use Rattle.exact_math.specs.RingSolver.{ring, reads}
use Rattle.exact_vectors.specs.Vectors.{dot, add, scale, negate, zeros}
use Rattle.exact_vectors.specs.Matrices.{HasWidth, column, times_vector, combination}
use Rattle.exact_vectors.specs.DotLaws as Dot
use Rattle.exact_vectors.specs.MatrixLaws as Matrix
use Rattle.spaces.specs.Tables.{rows_in}
use Rattle.spaces.specs.TableLaws as Tables
use Rattle.lp_dict.specs.Systems.{wholes, whole_rows}
use Rattle.row_lifting.specs.Lifting.{none, SumsTo}
use Rattle.reformulate.specs.Frames.{IsFrame}
use Rattle.reformulate.specs.Substitutions.{Substitution, dimension_of, columns_of, IsShaped}
use Rattle.reformulate.specs.declared.equality.Equality.{Equality}
use Rattle.farkas_lift.specs.NodeLifting.{with_multiple, with_multiples, weighted, left_side, back_form, rest_form}
use Rattle.farkas_lift.proofs.Lists as Lists
use Rattle.farkas_lift.proofs.RowSpace.{Sums, sums_where_orthogonal}
use Rattle.farkas_lift.proofs.FrameSpace.{forms_of, HasWidth-wholes, length-wholes, rational_kernel}

-- ---- matrices

module _ {A : Type 0} (r : Ring A) where
  -- lists of one length with the same items
  pub same_items : (n : ℕ) (u v : List A) → length u ≡ n → length v ≡ n → ((j : ℕ) → j < n → get_or u j (r.literal (pos 0)) ≡ get_or v j (r.literal (pos 0))) → u ≡ v
  same_items n u v e f h = ext_get_or (r.literal (pos 0)) u v (e ∙ sym f) (λ j lt. h j (omega (arith, e)))

  -- the column of the products with a matrix
  column_products : (m n : ℕ) (rows right : List (List A)) (j : ℕ) → HasWidth n right → column r (map (λ row. combination r n row right) rows) j ≡ times_vector r rows (column r right j)
  column_products m n [] right j h = refl
  column_products m n (row ∷ rows) right j h = ap₂ (λ (z : A) (l : List A). z ∷ l) (Matrix.combination-at r n row right j h) (column_products m n rows right j h)

  HasWidth-products : (n : ℕ) (rows right : List (List A)) → HasWidth n right → HasWidth n (map (λ row. combination r n row right) rows)
  HasWidth-products n [] right h = tt
  HasWidth-products n (row ∷ rows) right h = (Matrix.length-combination r n row right h, HasWidth-products n rows right h)

  -- (y A) B = y (A B)
  pub combination_twice : (m n : ℕ) (y : List A) (rows right : List (List A)) → HasWidth m rows → HasWidth n right
      → combination r n (combination r m y rows) right ≡ combination r n y (map (λ row. combination r n row right) rows)
  combination_twice m n y rows right h k =
      same_items n _ _ (Matrix.length-combination r n (combination r m y rows) right k) (Matrix.length-combination r n y (map (λ row. combination r n row right) rows) (HasWidth-products n rows right k))
      (λ j lt.
      Matrix.combination-at r n (combination r m y rows) right j k
      ∙ sym (Matrix.dot_times_vector r m y rows (column r right j) h)
      ∙ ap (dot r y) (sym (column_products m n rows right j k))
      ∙ sym (Matrix.combination-at r n y (map (λ row. combination r n row right) rows) j (HasWidth-products n rows right k)))

-- ---- whole numbers

pub scale-wholes : (k : ℤ) (v : List ℤ) → wholes (scale integers k v) ≡ scale rationals (whole k) (wholes v)
scale-wholes k [] = refl
scale-wholes k (a ∷ v) = ap₂ (λ (z : ℚ) (l : List ℚ). z ∷ l) (whole_mul k a) (scale-wholes k v)

pub sum-wholes : (u v : List ℤ) → wholes (add integers u v) ≡ add rationals (wholes u) (wholes v)
sum-wholes [] v = refl
sum-wholes (a ∷ u) [] = refl
sum-wholes (a ∷ u) (b ∷ v) = ap₂ (λ (z : ℚ) (l : List ℚ). z ∷ l) (whole_add a b) (sum-wholes u v)

pub zeros-wholes : (n : ℕ) → wholes (zeros integers n) ≡ zeros rationals n
zeros-wholes zero = refl
zeros-wholes (suc n) = ap (λ (l : List ℚ). whole (pos 0) ∷ l) (zeros-wholes n)

pub combination-wholes : (n : ℕ) (y : List ℤ) (rows : List (List ℤ)) → wholes (combination integers n y rows) ≡ combination rationals n (wholes y) (whole_rows rows)
combination-wholes n [] rows = zeros-wholes n
combination-wholes n (k ∷ y) [] = zeros-wholes n
combination-wholes n (k ∷ y) (row ∷ rows) =
    sum-wholes (scale integers k row) (combination integers n y rows) ∙ ap₂ (add rationals) (scale-wholes k row) (combination-wholes n y rows)

-- ---- multiples that are added one after another

pub with_multiples_is : (n : ℕ) (row times : List ℚ) (forms : List (List ℤ)) → length row ≡ n → HasWidth n forms → with_multiples row times forms ≡ add rationals row (combination rationals n times (whole_rows forms))
with_multiples_is n row [] forms e h = sym (Lists.add-zeros_right rationals n row e)
with_multiples_is n row (k ∷ times) [] e h = sym (Lists.add-zeros_right rationals n row e)
with_multiples_is n row (k ∷ times) (form ∷ forms) e h =
    with_multiples_is n (with_multiple row k form) times forms (Matrix.length-add rationals n row (scale rationals k (wholes form)) e (Matrix.length-scale rationals k (wholes form) ∙ length-wholes form ∙ h.0)) h.1
    ∙ Lists.add-again rationals row (scale rationals k (wholes form)) (combination rationals n times (whole_rows forms))

from_zeros : (n : ℕ) (times : List ℚ) (forms : List (List ℤ)) → HasWidth n forms → with_multiples (zeros rationals n) times forms ≡ combination rationals n times (whole_rows forms)
from_zeros n times forms h =
    with_multiples_is n (zeros rationals n) times forms (Matrix.length-zeros rationals n) h
    ∙ Lists.add-zeros_left rationals n (combination rationals n times (whole_rows forms)) (Matrix.length-combination rationals n times (whole_rows forms) (HasWidth-wholes n forms h))

cancels : (a : ℚ) → a +ℚ neg_ℚ a ≡ none
cancels a = rationals.add_neg a

module _ (s : Substitution) (shaped : IsShaped s) (forms : List (List ℤ)) (width : HasWidth (columns_of s) forms) (weights : List ℚ) where
  K : List (List ℚ)
  K = whole_rows (rows_in s.to_work.lines)

  V : List (List ℚ)
  V = whole_rows (rows_in s.back)

  pub wide_lines : HasWidth (dimension_of s) (rows_in s.to_work.lines)
  wide_lines = Tables.HasWidth-rows_in s.to_work.lines shaped.size_lines

  pub wide_back : HasWidth (columns_of s) (rows_in s.back)
  wide_back = subst (λ n. HasWidth n (rows_in s.back)) shaped.width (Tables.HasWidth-rows_in s.back shaped.size_back)

  weighted_is : weighted s forms weights ≡ combination rationals (columns_of s) weights (whole_rows forms)
  weighted_is = from_zeros (columns_of s) weights forms width

  left_is : left_side s forms weights ≡ combination rationals (dimension_of s) (weighted s forms weights) (whole_rows (rows_in s.to_work.lines))
  left_is = from_zeros (dimension_of s) (weighted s forms weights) (rows_in s.to_work.lines) wide_lines

  pub back_is : back_form s forms weights ≡ combination rationals (columns_of s) (left_side s forms weights) (whole_rows (rows_in s.back))
  back_is = from_zeros (columns_of s) (left_side s forms weights) (rows_in s.back) wide_back

  pub length-back_form : length (back_form s forms weights) ≡ columns_of s
  length-back_form = ap length back_is ∙ Matrix.length-combination rationals (columns_of s) (left_side s forms weights) (whole_rows (rows_in s.back)) (HasWidth-wholes (columns_of s) (rows_in s.back) wide_back)

  pub rest_is : rest_form s forms weights ≡ add rationals (back_form s forms weights) (combination rationals (columns_of s) (negate rationals weights) (whole_rows forms))
  rest_is = with_multiples_is (columns_of s) (back_form s forms weights) (negate rationals weights) forms length-back_form width

  length-turned : length (combination rationals (columns_of s) (negate rationals weights) (whole_rows forms)) ≡ columns_of s
  length-turned = Matrix.length-combination rationals (columns_of s) (negate rationals weights) (whole_rows forms) (HasWidth-wholes (columns_of s) forms width)

  pub length-rest : length (rest_form s forms weights) ≡ columns_of s
  length-rest = ap length rest_is ∙ Matrix.length-add rationals (columns_of s) (back_form s forms weights) _ length-back_form length-turned

  -- the left side in the coordinates of the frame is that of the system
  pub left_in_system : left_side s forms weights ≡ combination rationals (dimension_of s) weights (map (λ form. wholes (combination integers (dimension_of s) form (rows_in s.to_work.lines))) forms)
  left_in_system =
      left_is
      ∙ ap (λ l. combination rationals (dimension_of s) l (whole_rows (rows_in s.to_work.lines))) weighted_is
      ∙ combination_twice rationals (columns_of s) (dimension_of s) weights (whole_rows forms) (whole_rows (rows_in s.to_work.lines)) (HasWidth-wholes (columns_of s) forms width) (HasWidth-wholes (dimension_of s) (rows_in s.to_work.lines) wide_lines)
      ∙ ap (combination rationals (dimension_of s) weights) (products forms)
    where
      products : (rows : List (List ℤ)) → map (λ row. combination rationals (dimension_of s) row (whole_rows (rows_in s.to_work.lines))) (whole_rows rows) ≡ map (λ form. wholes (combination integers (dimension_of s) form (rows_in s.to_work.lines))) rows
      products [] = refl
      products (row ∷ rows) = ap₂ (λ (z : List ℚ) (l : List (List ℚ)). z ∷ l) (sym (combination-wholes (dimension_of s) row (rows_in s.to_work.lines))) (products rows)

  -- ---- the values of these forms at a vector

  -- the form that is carried back has the value of the left side at its coordinates
  back_value : (z : List ℚ) → times_vector rationals (whole_rows (rows_in s.to_work.lines)) (times_vector rationals (whole_rows (rows_in s.back)) z) ≡ z → dot rationals (back_form s forms weights) z ≡ dot rationals (weighted s forms weights) z
  back_value z kernel =
      ap (λ l. dot rationals l z) back_is
      ∙ sym (Matrix.dot_times_vector rationals (columns_of s) (left_side s forms weights) (whole_rows (rows_in s.back)) z (HasWidth-wholes (columns_of s) (rows_in s.back) wide_back))
      ∙ ap (λ l. dot rationals l (times_vector rationals (whole_rows (rows_in s.back)) z)) left_is
      ∙ sym (Matrix.dot_times_vector rationals (dimension_of s) (weighted s forms weights) (whole_rows (rows_in s.to_work.lines)) (times_vector rationals (whole_rows (rows_in s.back)) z) (HasWidth-wholes (dimension_of s) (rows_in s.to_work.lines) wide_lines))
      ∙ ap (dot rationals (weighted s forms weights)) kernel

  turned_value : (z : List ℚ) → dot rationals (combination rationals (columns_of s) (negate rationals weights) (whole_rows forms)) z ≡ neg_ℚ (dot rationals (weighted s forms weights) z)
  turned_value z =
      sym (Matrix.dot_times_vector rationals (columns_of s) (negate rationals weights) (whole_rows forms) z (HasWidth-wholes (columns_of s) forms width))
      ∙ Dot.dot-negate_left rationals weights (times_vector rationals (whole_rows forms) z)
      ∙ ap neg_ℚ (Matrix.dot_times_vector rationals (columns_of s) weights (whole_rows forms) z (HasWidth-wholes (columns_of s) forms width) ∙ ap (λ l. dot rationals l z) (sym weighted_is))

  pub rest_value : (z : List ℚ) → dot rationals (rest_form s forms weights) z ≡ dot rationals (back_form s forms weights) z +ℚ neg_ℚ (dot rationals (weighted s forms weights) z)
  rest_value z =
      ap (λ l. dot rationals l z) rest_is
      ∙ Dot.dot-add_left rationals (back_form s forms weights) _ z (length-back_form ∙ sym length-turned)
      ∙ ap (λ t. dot rationals (back_form s forms weights) z +ℚ t) (turned_value z)

  pub weighted_value : (z : List ℚ) → dot rationals (weighted s forms weights) z ≡ dot rationals weights (times_vector rationals (whole_rows forms) z)
  weighted_value z =
      ap (λ l. dot rationals l z) weighted_is ∙ sym (Matrix.dot_times_vector rationals (columns_of s) weights (whole_rows forms) z (HasWidth-wholes (columns_of s) forms width))

  -- an entry of the rest
  pub rest_entry : (k : ℕ) → get_or (rest_form s forms weights) k none ≡ get_or (back_form s forms weights) k none +ℚ neg_ℚ (dot rationals weights (column rationals (whole_rows forms) k))
  rest_entry k =
      ap (λ l. get_or l k none) rest_is
      ∙ Matrix.add-at rationals (back_form s forms weights) _ k (length-back_form ∙ sym length-turned)
      ∙ ap (λ t. get_or (back_form s forms weights) k none +ℚ t) (Matrix.combination-at rationals (columns_of s) (negate rationals weights) (whole_rows forms) k (HasWidth-wholes (columns_of s) forms width) ∙ Dot.dot-negate_left rationals weights (column rationals (whole_rows forms) k))

  module _ (equalities : List Equality) (frame : IsFrame equalities s) (dense : HasWidth (columns_of s) (forms_of equalities)) where
    long_forms : length (whole_rows (forms_of equalities)) ≡ length equalities
    long_forms = length-map (forms_of equalities) wholes ∙ length-map equalities (λ (equality : Equality). equality.form)

    -- the equalities sum up to the rest
    pub rest_is_sum : Sums (columns_of s) (whole_rows (forms_of equalities)) (rest_form s forms weights)
    rest_is_sum =
        sums_where_orthogonal (columns_of s) (whole_rows (forms_of equalities)) (rest_form s forms weights) (HasWidth-wholes (columns_of s) (forms_of equalities) dense) length-rest
        (λ z long kills.
        let kernel = rational_kernel equalities s shaped frame z long (kills ∙ ap (zeros rationals) long_forms) in
        rest_value z ∙ ap (λ t. t +ℚ neg_ℚ (dot rationals (weighted s forms weights) z)) (back_value z kernel) ∙ cancels (dot rationals (weighted s forms weights) z))

    pub rest_sums_to : (times : List ℚ) → ((m : List ℚ) → SumsTo (forms_of equalities) (rest_form s forms weights) m → SumsTo (forms_of equalities) (rest_form s forms weights) times) → SumsTo (forms_of equalities) (rest_form s forms weights) times
    rest_sums_to times f =
        let sums = rest_is_sum in
        f sums.multipliers (record {
          as_many = sums.as_many ∙ length-map (forms_of equalities) wholes;
          sum = ap (λ n. combination rationals n sums.multipliers (whole_rows (forms_of equalities))) length-rest ∙ sums.sum;
        })

    module _ (times : List ℚ) (sums : SumsTo (forms_of equalities) (rest_form s forms weights) times) where
      sum : combination rationals (columns_of s) times (whole_rows (forms_of equalities)) ≡ rest_form s forms weights
      sum = ap (λ n. combination rationals n times (whole_rows (forms_of equalities))) (sym length-rest) ∙ sums.sum

      together : (w b : ℚ) → w +ℚ (b +ℚ neg_ℚ w) ≡ b
      together w b = ring rationals (w ∷ b ∷ []) (search reads depth 30) (search reads depth 30) refl

      -- in each column the sides and the equalities come to the form that is carried back
      pub columns_together : (k : ℕ) → dot rationals weights (column rationals (whole_rows forms) k) +ℚ dot rationals times (column rationals (whole_rows (forms_of equalities)) k) ≡ get_or (back_form s forms weights) k none
      columns_together k =
          ap (λ t. dot rationals weights (column rationals (whole_rows forms) k) +ℚ t)
          (sym (Matrix.combination-at rationals (columns_of s) times (whole_rows (forms_of equalities)) k (HasWidth-wholes (columns_of s) (forms_of equalities) dense)) ∙ ap (λ l. get_or l k none) sum ∙ rest_entry k)
          ∙ together (dot rationals weights (column rationals (whole_rows forms) k)) (get_or (back_form s forms weights) k none)

      -- the values of the equalities at x0
      pub values_together : dot rationals weights (times_vector rationals (whole_rows forms) (wholes s.to_work.base)) +ℚ dot rationals times (times_vector rationals (whole_rows (forms_of equalities)) (wholes s.to_work.base)) ≡ dot rationals (back_form s forms weights) (wholes s.to_work.base)
      values_together =
          let x : List ℚ = wholes s.to_work.base in
          ap₂ (λ a b. a +ℚ b) (sym (weighted_value x))
          (Matrix.dot_times_vector rationals (columns_of s) times (whole_rows (forms_of equalities)) x (HasWidth-wholes (columns_of s) (forms_of equalities) dense) ∙ ap (λ l. dot rationals l x) sum ∙ rest_value x)
          ∙ together (dot rationals (weighted s forms weights) x) (dot rationals (back_form s forms weights) x)
