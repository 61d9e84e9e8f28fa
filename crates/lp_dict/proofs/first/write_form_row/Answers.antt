use Rattle.std.proofs.Common.{◌≡◌, refl, pos, rules, get_or, to_z-of_z}
use Rattle.std.specs.Int.{w128}
use Rattle.std.proofs.Common.{SFits}
use Rattle.exact_math.specs.Rational.{whole}
use Rattle.lp_dict.specs.Dictionaries.{none}
use Rattle.lp_dict.proofs.FirstSteps.{factor_more, last_written}
use Rattle.lp_dict.proofs.first.write_form_row.Goals as goal

pub loop-j-preserved : goal.loop-j-preserved
loop-j-preserved c =
    let factors = c.args.factors.now in
    let fits : SFits w128 (get_or factors c.loop-j.j (pos 0)) = search rules in
    let value : c.whole.result ≡ whole (get_or factors c.loop-j.j (pos 0)) = simp to_z-of_z at c.whole.ensures in
    factor_more whole factors none c.args.row.now c.requires.size c.loop-j.row c.loop-j.j c.whole.result (get_or factors c.loop-j.j (pos 0)) c.loop-j-test.true refl value c.loop-j.invariant

pub returns : goal.returns
returns c = last_written whole c.args.factors.now none c.args.row.now c.requires.size c.loop-j.row c.loop-j.j c.whole-2.result c.loop-j-test.false c.loop-j.auto.j-end c.whole-2.ensures c.loop-j.invariant
