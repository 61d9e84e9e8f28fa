-- The normal form means what the expression means, so two expressions with one normal form are equal over any commutative ring. `ring` proves an identity in one line: it takes the ring, the list of the atoms, two calls of `search reads`, and `refl`.
use Rattle.std.proofs.Common.{◌≡◌, ℕ, zero, suc, ℤ, pos, negsuc, ◌+ℤ◌, ◌*ℤ◌, nat_abs, Bool, true, false, eqb, ltb, List, [], ◌∷◌, refl, sym, ap, ◌∙◌, subst, ap₂, eqb-true}
use Rattle.exact_math.specs.Ring.{Ring}
use Rattle.exact_math.specs.RingLaws as Laws
use Rattle.exact_math.specs.RingExpressions.{Expression, atom, number, plus, times, minus, atom_at, value, Term, product_of, term_value, sum_of, Place, earlier, same, later, place, join_factors, multiply_factors, put_term, join_terms, add_sums, multiply_terms, scale_sum, multiply_sums, normal}

-- what holds of both answers of a choice holds of the choice
of_choice : {X : Type 0} (P : X → Type 0) (b : Bool) (x y : X) → P x → P y → P (elim b [ true ↦ x | false ↦ y ])
of_choice P true x y p q = p
of_choice P false x y p q = q

-- a choice of two other places is not `same`
other_place : {X : Type 0} (b : Bool) → elim b [ true ↦ earlier | false ↦ later ] ≡ same → X
other_place true e = cc
other_place false e = cc

-- products at the same place have the same factors
same_factors : (m n : List ℕ) → place m n ≡ same → m ≡ n
same_factors [] [] e = refl
same_factors [] (j ∷ n) e = cc
same_factors (i ∷ m) [] e = cc
same_factors (i ∷ m) (j ∷ n) e = go (eqb i j) refl (same_factors m n) e
  where
    go : (b : Bool) → eqb i j ≡ b → (place m n ≡ same → m ≡ n) → elim b [ true ↦ place m n | false ↦ elim (ltb i j) [ true ↦ earlier | false ↦ later ] ] ≡ same → i ∷ m ≡ j ∷ n
    go true h ih e = let p : i ≡ j = eqb-true i j h in let q : m ≡ n = ih e in cc
    go false h ih e = other_place (ltb i j) e

module _ {A : Type 0} (r : Ring A) (atoms : List A) where
  -- joined factors mean the product
  join_factors_is : (i : ℕ) (m : List ℕ) (rest : List ℕ → List ℕ) → ((k : List ℕ) → product_of r atoms (rest k) ≡ r.mul (product_of r atoms m) (product_of r atoms k)) → (n : List ℕ) → product_of r atoms (join_factors i m rest n) ≡ r.mul (product_of r atoms (i ∷ m)) (product_of r atoms n)
  join_factors_is i m rest h [] = sym (r.mul_one _)
  join_factors_is i m rest h (j ∷ n) =
      of_choice (λ l. product_of r atoms l ≡ r.mul (product_of r atoms (i ∷ m)) (product_of r atoms (j ∷ n))) (ltb j i) _ _
      (ap (r.mul (atom_at r atoms j)) (join_factors_is i m rest h n) ∙ Laws.mul_left_comm r _ _ _)
      (ap (r.mul (atom_at r atoms i)) (h (j ∷ n)) ∙ sym (r.mul_assoc _ _ _))

  -- the factors of a product mean the product
  multiply_factors_is : (m n : List ℕ) → product_of r atoms (multiply_factors m n) ≡ r.mul (product_of r atoms m) (product_of r atoms n)
  multiply_factors_is [] n = sym (Laws.one_mul r _)
  multiply_factors_is (i ∷ m) n = join_factors_is i m (λ k. multiply_factors m k) (λ k. multiply_factors_is m k) n

  -- a term in front, or left out at zero, is added
  put_term_is : (c : ℤ) (m : List ℕ) (p : List Term) → sum_of r atoms (put_term c m p) ≡ r.add (r.mul (r.literal c) (product_of r atoms m)) (sum_of r atoms p)
  put_term_is (pos zero) m p = sym (ap (λ x. r.add x (sum_of r atoms p)) (Laws.zero_mul r _) ∙ Laws.zero_add r _)
  put_term_is (pos (suc n)) m p = refl
  put_term_is (negsuc n) m p = refl

  -- two terms with the same factors are added by their coefficients
  like_terms : (c d : ℤ) (x y s q : A) → x ≡ y → r.add (r.mul (r.literal (c +ℤ d)) x) (r.add s q) ≡ r.add (r.add (r.mul (r.literal c) x) s) (r.add (r.mul (r.literal d) y) q)
  like_terms c d x y s q e = subst (λ z. r.add (r.mul (r.literal (c +ℤ d)) x) (r.add s q) ≡ r.add (r.add (r.mul (r.literal c) x) s) (r.add (r.mul (r.literal d) z) q)) e
      (simp (r.literal_add, Laws.add_mul r, r.add_assoc, Laws.add_left_comm r))

  -- joined terms mean the sum
  join_terms_is : (t : Term) (p : List Term) (rest : List Term → List Term) → ((s : List Term) → sum_of r atoms (rest s) ≡ r.add (sum_of r atoms p) (sum_of r atoms s)) → (q : List Term) → sum_of r atoms (join_terms t p rest q) ≡ r.add (sum_of r atoms (t ∷ p)) (sum_of r atoms q)
  join_terms_is t p rest h [] = sym (r.add_zero _)
  join_terms_is t p rest h (s ∷ q) = go (place t.factors s.factors) refl (join_terms_is t p rest h q)
    where
      go : (k : Place) → place t.factors s.factors ≡ k → sum_of r atoms (join_terms t p rest q) ≡ r.add (sum_of r atoms (t ∷ p)) (sum_of r atoms q) → sum_of r atoms (elim k [
        | earlier ↦ t ∷ rest (s ∷ q)
        | same ↦ put_term (t.coefficient +ℤ s.coefficient) t.factors (rest q)
        | later ↦ s ∷ join_terms t p rest q
      ]) ≡ r.add (sum_of r atoms (t ∷ p)) (sum_of r atoms (s ∷ q))
      go earlier e ih = ap (r.add (term_value r atoms t)) (h (s ∷ q)) ∙ sym (r.add_assoc _ _ _)
      go same e ih =
          put_term_is (t.coefficient +ℤ s.coefficient) t.factors (rest q) ∙ ap (r.add _) (h q) ∙ like_terms t.coefficient s.coefficient _ _ _ _ (ap (product_of r atoms) (same_factors t.factors s.factors e))
      go later e ih = ap (r.add (term_value r atoms s)) ih ∙ Laws.add_left_comm r _ _ _

  -- the sum of two sums means the sum
  add_sums_is : (p q : List Term) → sum_of r atoms (add_sums p q) ≡ r.add (sum_of r atoms p) (sum_of r atoms q)
  add_sums_is [] q = sym (Laws.zero_add r _)
  add_sums_is (t ∷ p) q = join_terms_is t p (λ s. add_sums p s) (λ s. add_sums_is p s) q

  -- the coefficients of a product come together
  regroup : (c d : ℤ) (x y : A) → r.mul (r.literal (c *ℤ d)) (r.mul x y) ≡ r.mul (r.mul (r.literal c) x) (r.mul (r.literal d) y)
  regroup c d x y = simp (r.literal_mul, r.mul_assoc, Laws.mul_left_comm r)

  -- the product of two terms means the product
  multiply_terms_is : (t s : Term) → term_value r atoms (multiply_terms t s) ≡ r.mul (term_value r atoms t) (term_value r atoms s)
  multiply_terms_is t s = ap (r.mul _) (multiply_factors_is t.factors s.factors) ∙ regroup t.coefficient s.coefficient _ _

  -- a term times a sum means the product
  scale_sum_is : (t : Term) (q : List Term) → sum_of r atoms (scale_sum t q) ≡ r.mul (term_value r atoms t) (sum_of r atoms q)
  scale_sum_is t [] = sym (Laws.mul_zero r _)
  scale_sum_is t (s ∷ q) =
      ap (r.add _) (scale_sum_is t q) ∙ ap (λ x. r.add x (r.mul (term_value r atoms t) (sum_of r atoms q))) (multiply_terms_is t s) ∙ sym (r.mul_add _ _ _)

  -- the product of two sums means the product
  multiply_sums_is : (p q : List Term) → sum_of r atoms (multiply_sums p q) ≡ r.mul (sum_of r atoms p) (sum_of r atoms q)
  multiply_sums_is [] q = sym (Laws.zero_mul r _)
  multiply_sums_is (t ∷ p) q =
      add_sums_is (scale_sum t q) (multiply_sums p q) ∙ ap (λ x. r.add x (sum_of r atoms (multiply_sums p q))) (scale_sum_is t q) ∙ ap (r.add _) (multiply_sums_is p q) ∙ sym (Laws.add_mul r _ _ _)

  -- the normal form means what the expression means
  pub normal_is : (e : Expression) → value r atoms e ≡ sum_of r atoms (normal e)
  normal_is (atom i) = sym (r.add_zero _ ∙ Laws.one_mul r _ ∙ r.mul_one _)
  normal_is (number n) = sym (put_term_is n [] [] ∙ r.add_zero _ ∙ r.mul_one _)
  normal_is (plus e f) = ap (λ x. r.add x (value r atoms f)) (normal_is e) ∙ ap (r.add _) (normal_is f) ∙ sym (add_sums_is (normal e) (normal f))
  normal_is (times e f) = ap (λ x. r.mul x (value r atoms f)) (normal_is e) ∙ ap (r.mul _) (normal_is f) ∙ sym (multiply_sums_is (normal e) (normal f))
  normal_is (minus e) =
      ap r.neg (normal_is e) ∙ sym (scale_sum_is (record { coefficient = negsuc 0; factors = [] }) (normal e) ∙ ap (λ x. r.mul x (sum_of r atoms (normal e))) (r.mul_one _) ∙ Laws.minus_one_mul r _)

-- a number of the ring with an expression for it over the atoms
pub record Reading {A : Type 0} (r : Ring A) (atoms : List A) (z : A) : Type 0 where
  pub expression : Expression
  pub means : value r atoms expression ≡ z

-- where a number stands in the list of the atoms
pub record Position {A : Type 0} (r : Ring A) (atoms : List A) (z : A) : Type 0 where
  pub index : ℕ
  pub holds : atom_at r atoms index ≡ z

-- a sum is read by its parts
abbrev pub reads_add : {A : Type 0} {r : Ring A} {atoms : List A} {x y : A} → Reading r atoms x → Reading r atoms y → Reading r atoms (r.add x y)
reads_add {r = r} {y = y} e f = record {
  expression = plus e.expression f.expression;
  means = ap₂ r.add e.means f.means;
}

-- a product is read by its parts
abbrev pub reads_mul : {A : Type 0} {r : Ring A} {atoms : List A} {x y : A} → Reading r atoms x → Reading r atoms y → Reading r atoms (r.mul x y)
reads_mul {r = r} e f = record {
  expression = times e.expression f.expression;
  means = ap₂ r.mul e.means f.means;
}

-- a negation is read by its part
abbrev pub reads_neg : {A : Type 0} {r : Ring A} {atoms : List A} {x : A} → Reading r atoms x → Reading r atoms (r.neg x)
reads_neg {r = r} e = record { expression = minus e.expression; means = ap r.neg e.means }

-- an atom is read by its place
abbrev pub reads_atom : {A : Type 0} {r : Ring A} {atoms : List A} {x : A} → Position r atoms x → Reading r atoms x
reads_atom p = record { expression = atom p.index; means = p.holds }

-- a whole number that is written in digits: only there does the test compute
pub record Digits (n : ℤ) : Type 0 where
  pub computes : eqb (nat_abs n) (nat_abs n) ≡ true

-- digits without a sign
abbrev pub whole : (k : ℕ) → eqb k k ≡ true → Digits (pos k)
whole k e = record { computes = e }

-- digits with a sign
abbrev pub below_zero : (k : ℕ) → eqb (suc k) (suc k) ≡ true → Digits (negsuc k)
below_zero k e = record { computes = e }

-- a literal is read as itself
abbrev pub reads_literal : {A : Type 0} {r : Ring A} {atoms : List A} {n : ℤ} → Digits n → Reading r atoms (r.literal n)
reads_literal {n = n} d = record { expression = number n; means = refl }

-- the first atom
abbrev pub at_0 : {A : Type 0} {r : Ring A} {a : A} {l : List A} → Position r (a ∷ l) a
at_0 = record { index = 0; holds = refl }

-- the second atom
abbrev pub at_1 : {A : Type 0} {r : Ring A} {a b : A} {l : List A} → Position r (a ∷ b ∷ l) b
at_1 = record { index = 1; holds = refl }

-- the third atom
abbrev pub at_2 : {A : Type 0} {r : Ring A} {a b c : A} {l : List A} → Position r (a ∷ b ∷ c ∷ l) c
at_2 = record { index = 2; holds = refl }

-- the fourth atom
abbrev pub at_3 : {A : Type 0} {r : Ring A} {a b c d : A} {l : List A} → Position r (a ∷ b ∷ c ∷ d ∷ l) d
at_3 = record { index = 3; holds = refl }

-- the fifth atom
abbrev pub at_4 : {A : Type 0} {r : Ring A} {a b c d e : A} {l : List A} → Position r (a ∷ b ∷ c ∷ d ∷ e ∷ l) e
at_4 = record { index = 4; holds = refl }

-- the sixth atom
abbrev pub at_5 : {A : Type 0} {r : Ring A} {a b c d e f : A} {l : List A} → Position r (a ∷ b ∷ c ∷ d ∷ e ∷ f ∷ l) f
at_5 = record { index = 5; holds = refl }

-- an atom past the sixth
abbrev pub at_later : {A : Type 0} {r : Ring A} {a b c d e f x : A} {l : List A} → Position r l x → Position r (a ∷ b ∷ c ∷ d ∷ e ∷ f ∷ l) x
at_later p = record { index = suc (suc (suc (suc (suc (suc p.index))))); holds = p.holds }

-- reads a number of a ring as an expression over the atoms; a literal is one in digits
pub ruleset reads = (reads_add, reads_mul, reads_neg, reads_atom, at_0, at_1, at_2, at_3, at_4, at_5, at_later, reads_literal, whole, below_zero)

-- two numbers whose expressions have one normal form are equal
pub ring : {A : Type 0} (r : Ring A) (atoms : List A) {x y : A} (e : Reading r atoms x) (f : Reading r atoms y) → normal e.expression ≡ normal f.expression → x ≡ y
ring r atoms e f same_form = sym e.means ∙ normal_is r atoms e.expression ∙ ap (sum_of r atoms) same_form ∙ sym (normal_is r atoms f.expression) ∙ f.means

-- the same under an equation `u ≡ v`, of which a multiple by `c` is used: x ≡ y where x + c v and y + c u have one normal form
pub ring_with : {A : Type 0} (r : Ring A) (atoms : List A) {x y : A} (c u v : A) → u ≡ v → (e : Reading r atoms (r.add x (r.mul c v))) (f : Reading r atoms (r.add y (r.mul c u))) → normal e.expression ≡ normal f.expression → x ≡ y
ring_with r atoms {x = x} {y = y} c u v h e f same_form =
    let shifted : r.add (r.mul c v) x ≡ r.add (r.mul c v) y = r.add_comm _ x ∙ ring r atoms e f same_form ∙ ap (λ z. r.add y (r.mul c z)) h ∙ r.add_comm y _ in
    Laws.add_cancel r (r.mul c v) x y shifted
