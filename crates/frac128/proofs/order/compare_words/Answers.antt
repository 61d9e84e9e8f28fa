use Rattle.std.proofs.Common.{ap₂, ◌∙◌, pos, ◌*ℤ◌, int_cmp, FitsSigned}
use Rattle.std.specs.Int.{w128}
use Rattle.std.proofs.lemmas.Int.{to_z-of_z}
use Rattle.exact_math.specs.Rational.{rational_cmp}
use Rattle.frac128.proofs.order.compare_words.Goals as goal

pub returns : goal.returns
unfolding rational_cmp
returns c =
    let left_num : FitsSigned w128 c.num.result = record { sfits = c.num.type_inv } in
    let right_num : FitsSigned w128 c.num-2.result = record { sfits = c.num-2.type_inv } in
    let left_fits : FitsSigned w128 c.word_multiple-left.result = record { sfits = c.word_multiple-left.type_inv } in
    let right_fits : FitsSigned w128 c.word_multiple-right.result = record { sfits = c.word_multiple-right.type_inv } in
    let left = simp to_z-of_z at c.word_multiple-left.ensures.value ∙ ap₂ (λ n d. n *ℤ pos d) c.num.ensures.value c.divisor.ensures.value in
    let right = simp to_z-of_z at c.word_multiple-right.ensures.value ∙ ap₂ (λ n d. n *ℤ pos d) c.num-2.ensures.value c.divisor-2.ensures.value in
    simp to_z-of_z at c.cmp.ensures ∙ ap₂ int_cmp left right
