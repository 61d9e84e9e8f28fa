use Rattle.std.proofs.Common.{sym, ap, ◌∙◌}
use Rattle.std.specs.Result.{is_ok}
use Rattle.std.specs.Int.{w128}
use Rattle.std.proofs.lemmas.Int.{to_z_pos}
use Rattle.exact_math.specs.RationalLaws.{pos-ne-zero}
use Rattle.mps_fields.proofs.FractionLaws.{passed, is_made}
use Rattle.mps_fields.proofs.decimal_value.fraction.Goals as goal

pub new-requires : goal.new-requires
new-requires c = λ zero. pos-ne-zero c.args.divisor c.requires.positive (sym (to_z_pos w128 c.args.divisor c.requires.divisor) ∙ zero)

pub unwrap-requires : goal.unwrap-requires
unwrap-requires c =
    ap is_ok (is_made c.new.result _ _ c.args.is_negative c.args.size c.args.divisor c.new.ensures
    (passed c.signed.result c.args.is_negative c.args.size c.requires.size c.signed.ensures) (to_z_pos w128 c.args.divisor c.requires.divisor) c.requires.size c.requires.positive c.requires.divisor)

pub returns : goal.returns
returns c =
    let made = is_made c.new.result _ _ c.args.is_negative c.args.size c.args.divisor c.new.ensures
    (passed c.signed.result c.args.is_negative c.args.size c.requires.size c.signed.ensures) (to_z_pos w128 c.args.divisor c.requires.divisor) c.requires.size c.requires.positive c.requires.divisor in
    cc (made, c.unwrap.ensures)
