use Rattle.std.proofs.Common.{◌≡◌, ◌+◌, ◌*◌, ◌/◌, ◌<◌, pos, neg_ℤ, ◌-ℤ◌, get_or, length, FitsSigned, sym, ap, ◌∙◌, arith, List, ℤ}
use Rattle.std.specs.Int.{w128}
use Rattle.std.proofs.lemmas.Int.{ints, to_z-of_z}
use Rattle.exact_math.specs.Rational.{whole}
use Rattle.exact_math.specs.IntegerRing.{linear}
use Rattle.whole_rows.specs.WholeRows.{row_at}
use Rattle.presolve_map.proofs.NumberedLaws.{upper-factor, lower-factor, past-factor}
use Rattle.presolve_map.proofs.line.factor_of.Goals as goal

pub returns-then-at-rows-clause-value : goal.returns-then-at-rows-clause-value
returns-then-at-rows-clause-value c = ap whole (sym (past-factor c.args.rows.now c.args.column c.args.number c.requires.number c.requires.column c.requires.removed (omega (arith, c.if-at-rows.true, c.rows.ensures.count))))

pub returns-then-number-eq1-clause-value : goal.returns-then-number-eq1-clause-value
returns-then-number-eq1-clause-value c =
    let fits : FitsSigned w128 c.light_factor-factor.result = omega (arith, ints, c.light_factor-factor.ensures.small) in
    let turned_fits : FitsSigned w128 (pos 0 -ℤ c.light_factor-factor.result) = omega (arith, ints, c.light_factor-factor.ensures.small) in
    let i = c.args.number / 2 in
    let inside : c.args.number / 2 < length c.args.rows.now.rows = omega (arith, c.if-at-rows.false, c.rows.ensures.count) in
    let odd : c.args.number ≡ 2 * (c.args.number / 2) + 1 = omega arith in
    let value : c.light_factor-factor.result ≡ get_or (row_at c.args.rows.now (c.args.number / 2)).factors c.args.column (pos 0) = c.light_factor-factor.ensures.value ∙ ap (λ (l : List ℤ). get_or l c.args.column (pos 0)) c.row.ensures.factors in
    let turned : pos 0 -ℤ c.light_factor-factor.result ≡ neg_ℤ (get_or (row_at c.args.rows.now (c.args.number / 2)).factors c.args.column (pos 0)) = omega (linear, value) in
    simp to_z-of_z (ap whole (turned ∙ sym (lower-factor c.args.rows.now c.args.column c.args.number c.requires.number (c.args.number / 2) inside odd)))

pub returns-else-number-eq1-clause-value : goal.returns-else-number-eq1-clause-value
returns-else-number-eq1-clause-value c =
    let fits : FitsSigned w128 c.light_factor-factor.result = omega (arith, ints, c.light_factor-factor.ensures.small) in
    let inside : c.args.number / 2 < length c.args.rows.now.rows = omega (arith, c.if-at-rows.false, c.rows.ensures.count) in
    let even : c.args.number ≡ 2 * (c.args.number / 2) = omega arith in
    let value : c.light_factor-factor.result ≡ get_or (row_at c.args.rows.now (c.args.number / 2)).factors c.args.column (pos 0) = c.light_factor-factor.ensures.value ∙ ap (λ (l : List ℤ). get_or l c.args.column (pos 0)) c.row.ensures.factors in
    simp to_z-of_z (ap whole (value ∙ sym (upper-factor c.args.rows.now c.args.column c.args.number c.requires.number (c.args.number / 2) inside even)))
