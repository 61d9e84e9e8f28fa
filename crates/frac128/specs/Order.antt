-- The laws of the comparison of rational numbers, as `Ord` and its kin ask for them.
use Rattle.std.specs.Ordering.{eq_by_cmp, as_partial_cmp}
use Rattle.std.specs.Cmp.{IsPartialEquivalence, IsEquivalence, IsPartialOrder, partial_equiv_from_equiv, po}
use Rattle.std.proofs.lemmas.Cmp.{eq_by_cmp_equiv}
use Rattle.std.specs.Prelude.{refl}
use Rattle.exact_math.specs.Rational.{rational_cmp}
pub use Rattle.exact_math.specs.RationalOrder.{rational_cmp_total}

-- equality as the comparison tells it goes from a number to itself, back, and on to a third
pub rational_eq_equivalence : IsEquivalence (eq_by_cmp rational_cmp)
rational_eq_equivalence = eq_by_cmp_equiv rational_cmp_total

-- hence it meets the laws of `PartialEq`
pub rational_eq_laws : IsPartialEquivalence (eq_by_cmp rational_cmp)
rational_eq_laws = partial_equiv_from_equiv rational_eq_equivalence

-- the order that answers for each two numbers meets the laws of `PartialOrd`, and agrees with that equality
pub rational_order_laws : IsPartialOrder (eq_by_cmp rational_cmp) (as_partial_cmp rational_cmp)
rational_order_laws = po rational_cmp_total (λ x y. refl)
