use Rattle.std.proofs.Common.{sym, ap, ◌∙◌, of_z, ne_eqb}
use Rattle.std.specs.Int.{w128}
use Rattle.frac128.proofs.Terms.{same_from_bits}
use Rattle.frac128.proofs.Comparisons.{eq_by_dens, ne_by_nums}
use Rattle.frac128.proofs.order.FracPartialEq.eq.Goals as goal

pub returns-then-num : goal.returns-then-num
returns-then-num c =
    eq_by_dens c.args.self.now c.args.other.now _ _ c.divisor.ensures.value c.divisor-then-num.ensures.value (sym c.num.ensures.value ∙ same_from_bits _ _ c.num.type_inv c.num-2.type_inv c.if-num.true ∙ c.num-2.ensures.value)

pub returns-else-num : goal.returns-else-num
returns-else-num c =
    ne_eqb _ _ c.if-num.false ∙ ne_by_nums c.args.self.now c.args.other.now (λ e. c.if-num.false (ap (of_z w128) (c.num.ensures.value ∙ e ∙ sym c.num-2.ensures.value)))
