use Rattle.std.proofs.Common.{◌<◌, ◌*◌, ◌^◌, ◌∙◌, ◌+ℤ◌, sym, ap₂, subst, FitsSigned}
use Rattle.std.specs.Int.{w128}
use Rattle.std.proofs.lemmas.Int.{to_z-of_z}
use Rattle.exact_math.specs.Gcd.{gcd}
use Rattle.frac128.proofs.Lowering.{MakesSum, makes_sum}
use Rattle.frac128.proofs.Terms.{gcd_some, parts_are, word_sum_narrow, word_den_small, word_narrow, fits_from_narrow}
use Rattle.frac128.proofs.frac.Frac.add_words.Goals as goal

pub nonzero_div-left : goal.nonzero_div-left
nonzero_div-left c = gcd_some _ _ _ c.gcd_of_words-common.ensures c.divisor-right_den.ensures.positive

pub nonzero_div-right : goal.nonzero_div-right
nonzero_div-right c = gcd_some _ _ _ c.gcd_of_words-common.ensures c.divisor-right_den.ensures.positive

-- the four numbers fit, and make the sum
made : (c : goal.After-from-3) → MakesSum c.args.self.now c.args.other.now (c.word_multiple.result +ℤ c.word_multiple-2.result) (c.from.result * c.from-2.result) c.from-3.result
made c =
    let p = c.args.self.now in
    let q = c.args.other.now in
    let fits : FitsSigned w128 c.num.result = record { sfits = c.num.type_inv } in
    let fits' : FitsSigned w128 c.num-2.result = record { sfits = c.num-2.type_inv } in
    let parts = parts_are p q c.num.ensures.value c.num-2.ensures.value c.divisor-left_den.ensures.value c.divisor-right_den.ensures.value c.gcd_of_words-common.ensures in
    let first = simp to_z-of_z at c.word_multiple.ensures.value ∙ parts.0 in
    let second = simp to_z-of_z at c.word_multiple-2.ensures.value ∙ parts.1 in
    let den_is = ap₂ ◌*◌ c.from.ensures c.from-2.ensures in
    let left_small = subst (λ k. k < 2 ^ 63) (sym c.divisor-left_den.ensures.value) c.requires.left.den in
    let right_small = subst (λ k. k < 2 ^ 63) (sym c.divisor-right_den.ensures.value) c.requires.right.den in
    let common_is = c.from-3.ensures ∙ c.gcd_of_words-common.ensures ∙ ap₂ gcd c.divisor-left_den.ensures.value c.divisor-right_den.ensures.value in
    makes_sum p q first second (den_is ∙ parts.2) common_is (word_narrow c.word_multiple.result c.word_multiple.ensures.small) (word_narrow c.word_multiple-2.result c.word_multiple-2.ensures.small)
    (word_sum_narrow c.word_multiple.result c.word_multiple-2.result c.word_multiple.ensures.small c.word_multiple-2.ensures.small)
    (subst (λ k. k < 2 ^ 127) (sym den_is) (word_den_small _ _ c.gcd_of_words-common.result left_small right_small))

pub reduced-requires-clause-positive : goal.reduced-requires-clause-positive
reduced-requires-clause-positive c = (made c).positive

pub reduced-requires-clause-common_divisors : goal.reduced-requires-clause-common_divisors
reduced-requires-clause-common_divisors c =
    let m = made c in
    let fits : FitsSigned w128 c.word_multiple.result = record { sfits = c.word_multiple.type_inv } in
    let fits' : FitsSigned w128 c.word_multiple-2.result = record { sfits = c.word_multiple-2.type_inv } in
    let fits_sum : FitsSigned w128 (c.word_multiple.result +ℤ c.word_multiple-2.result) = fits_from_narrow _ m.narrow in
    simp to_z-of_z m.divisors

pub returns-clause-in_range : goal.returns-clause-in_range
returns-clause-in_range c = (made c.before).in_range

pub returns-clause-value : goal.returns-clause-value
returns-clause-value c =
    let m = made c.before in
    let fits : FitsSigned w128 c.word_multiple.result = record { sfits = c.word_multiple.type_inv } in
    let fits' : FitsSigned w128 c.word_multiple-2.result = record { sfits = c.word_multiple-2.type_inv } in
    let fits_sum : FitsSigned w128 (c.word_multiple.result +ℤ c.word_multiple-2.result) = fits_from_narrow _ m.narrow in
    simp to_z-of_z at c.reduced.ensures ∙ m.value
