use Rattle.std.proofs.Common.{◌^◌, sym, ap, ◌∙◌, div-le_self, lt_of_le_of_lt}
use Rattle.std.specs.Int.{w64, trailing_zeros}
use Rattle.exact_math.specs.Gcd.{gcd}
use Rattle.exact_math.specs.GcdLaws.{gcd_self}
use Rattle.frac128.proofs.BinaryGcd.{step_is}
use Rattle.frac128.proofs.euclid.gcd_of_odd.Goals as goal

pub loop-x-preserved : goal.loop-x-preserved
loop-x-preserved c =
    let i = c.loop-x.invariant in
    let s = step_is w64 c.loop-x.x c.loop-x.y _ _ i.x_odd i.y_odd c.loop-x-test.true i.x_fits i.y_fits c.abs_diff-rest.ensures c.min-x.ensures in
    record {
      x_odd = s.0;
      y_odd = s.1;
      x_fits = c.min-x.type_inv;
      y_fits = lt_of_le_of_lt (div-le_self c.abs_diff-rest.result (2 ^ trailing_zeros w64 c.abs_diff-rest.result)) c.abs_diff-rest.type_inv;
      same = s.2 ∙ i.same;
    }

pub returns : goal.returns
returns c =
    sym (gcd_self c.loop-x.x) ∙ ap (gcd c.loop-x.x) c.loop-x-test.false ∙ c.loop-x.invariant.same
