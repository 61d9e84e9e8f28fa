use Rattle.std.proofs.Common.{◌≢◌, [], ◌∙◌, sym, ap, get_or}
use Rattle.exact_math.specs.Rational.{neg_ℚ}
use Rattle.exact_math.specs.RationalRing.{rationals}
use Rattle.exact_vectors.specs.Vectors.{negate}
use Rattle.lp_dict.specs.Dictionaries.{one}
use Rattle.lp_solve.proofs.ValueLaws.{value_of-other, value_of-negate}
use Rattle.lp_solve.proofs.finish.row_multiplier.Goals as goal

pub returns : goal.returns
returns c =
    let d = c.args.dict.now in
    let apart : get_or d.basic c.args.row 0 ≢ c.args.variable = λ e. c.if-basic-variable.false (c.basic.ensures ∙ e) in
    c.neg.ensures ∙ ap neg_ℚ c.outside_entry.ensures ∙ sym (value_of-negate d.outside (get_or d.rows c.args.row []) c.args.variable) ∙ sym (value_of-other (get_or d.basic c.args.row 0) one d.outside (negate rationals (get_or d.rows c.args.row [])) c.args.variable apart)
