use Rattle.exact_math.specs.GcdLaws.{gcd-is, dvd_from_product, same_lowest}
use Rattle.exact_math.specs.QuotientLaws.{floor_div_below, floor_div_above}
use Rattle.exact_math.proofs.rationals.divisors.Goals as goal

pub returns : goal.returns
returns c = record {
  greatest = gcd-is;
  euclid = dvd_from_product;
  lowest_terms = same_lowest;
  floor_below = floor_div_below;
  floor_above = floor_div_above;
}
