use Rattle.std.proofs.Common.{◌≡◌, ◌≢◌, SFits, arith, pos, rules, to_z-of_z}
use Rattle.std.specs.Int.{w128}
use Rattle.std.proofs.lemmas.Int.{ints}
use Rattle.thin_forms.proofs.PartSteps.{divisor_common, part_narrow, part_of_quotients, zero_divisor}
use Rattle.thin_forms.proofs.parts.primitive_part.Goals as goal

pub returns-then-divisor-eq0-clause-none : goal.returns-then-divisor-eq0-clause-none
returns-then-divisor-eq0-clause-none c =
    let fits : SFits w128 c.divisor_of-divisor.result = search rules in
    let none : c.divisor_of-divisor.result ≡ pos 0 = omega (arith, ints, to_z-of_z fits, c.if-divisor-eq0.true) in
    zero_divisor c.args.factors.now c.divisor_of-divisor.result c.divisor_of-divisor.ensures none

pub quotients-requires-clause-common : goal.quotients-requires-clause-common
quotients-requires-clause-common c =
    let fits : SFits w128 c.divisor_of-divisor.result = search rules in
    simp to_z-of_z (divisor_common c.args.factors.now c.divisor_of-divisor.result c.divisor_of-divisor.ensures)

pub returns-clause-part : goal.returns-clause-part
returns-clause-part c =
    let fits : SFits w128 c.divisor_of-divisor.result = search rules in
    let some : c.divisor_of-divisor.result ≢ pos 0 = omega (arith, ints, to_z-of_z fits, c.if-divisor-eq0.false) in
    part_of_quotients c.args.factors.now c.in_ok-form.form c.divisor_of-divisor.result c.divisor_of-divisor.ensures some (simp to_z-of_z at c.in_ok-form.ensures)

pub returns-clause-narrow : goal.returns-clause-narrow
returns-clause-narrow c =
    let fits : SFits w128 c.divisor_of-divisor.result = search rules in
    let some : c.divisor_of-divisor.result ≢ pos 0 = omega (arith, ints, to_z-of_z fits, c.if-divisor-eq0.false) in
    part_narrow c.args.factors.now c.in_ok-form.form (part_of_quotients c.args.factors.now c.in_ok-form.form c.divisor_of-divisor.result c.divisor_of-divisor.ensures some (simp to_z-of_z at c.in_ok-form.ensures)) c.requires
