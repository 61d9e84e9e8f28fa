use Rattle.std.proofs.Common.{◌<◌, ◌+◌, length, sym, ◌∙◌, arith}
use Rattle.std.proofs.lemmas.Bool.{eqb-true}
use Rattle.mps_fields.specs.BooleanLaws.{above_zero}
use Rattle.mps_fields.proofs.DecimalPartLaws.{are_cut, no_decimal, no_exponent, parts_are}
use Rattle.mps_fields.proofs.decimal_parts.cut_parts.Goals as goal
use Rattle.mps_fields.proofs.decimal_parts.cut_parts.Goals.{else-is_empty-via-then-is_empty+else-is_empty-2, else-is_empty-via-else-is_empty}

pub returns-then-is_empty-2 : goal.returns-then-is_empty-2
returns-then-is_empty-2 c =
    no_decimal c.args.text.now _ _ _ (are_cut c.args.text.now _ _ _ _ _ c.cut_sign-is_negative.ensures.rest c.cut_digits.ensures.front c.cut_digits.ensures.back c.cut_fraction.ensures.fraction c.cut_fraction.ensures.rest)
    (eqb-true _ _ (sym c.is_empty.ensures ∙ c.if-is_empty.true)) (eqb-true _ _ (sym c.is_empty-then-is_empty.ensures ∙ c.if-is_empty-2.true))

pub returns-in_err-power : goal.returns-in_err-power
returns-in_err-power c =
    rw c.from_residual.ensures
    (no_exponent c.args.text.now _ _ _ (are_cut c.args.text.now _ _ _ _ _ c.cut_sign-is_negative.ensures.rest c.cut_digits.ensures.front c.cut_digits.ensures.back c.cut_fraction.ensures.fraction c.cut_fraction.ensures.rest) c.in_err-power.ensures)

some_digit : (c : goal.In_ok-power) → 0 < length c.cut_digits.result.0.now + length c.cut_fraction.result.0.now
some_digit c =
    elim c.else-is_empty.branch [
      | else-is_empty-via-then-is_empty+else-is_empty-2 w ↦ omega (arith, above_zero _ (sym w.is_empty-then-is_empty.ensures ∙ w.if-is_empty-2.false))
      | else-is_empty-via-else-is_empty w ↦ omega (arith, above_zero _ (sym c.is_empty.ensures ∙ w.if-is_empty.false))
    ]

pub returns : goal.returns
returns c =
    parts_are _ c.args.text.now _ c.cut_sign-is_negative.ensures.sign
    (are_cut c.args.text.now _ _ _ _ _ c.cut_sign-is_negative.ensures.rest c.cut_digits.ensures.front c.cut_digits.ensures.back c.cut_fraction.ensures.fraction c.cut_fraction.ensures.rest)
    c.in_ok-power.ensures (some_digit c)
