use Rattle.std.proofs.Common.{rules, nat_abs, FitsSigned, map}
use Rattle.std.specs.Int.{w128}
use Rattle.std.proofs.lemmas.Int.{to_z-of_z}
use Rattle.exact_math.specs.IntegerRing.{linear}
use Rattle.exact_math.specs.Rational.{◌/ℚ◌}
use Rattle.std.proofs.lemmas.Result.{err_from_is_err_and}
use Rattle.farkas_rows.proofs.RatioLemmas.{IsCommon-le}
use Rattle.farkas_rows.specs.declared.fracs.FracUse.{FracUse}
use Rattle.farkas_rows.specs.declared.line.Use.{Use}
use Rattle.farkas_rows.specs.LeastLine.{first_of}
use Rattle.farkas_rows.proofs.LeastLemmas.{num_nonzero}
use Rattle.farkas_rows.proofs.LeastRatioLemmas.{first_positive, items_positive, ratios_positive, narrow_ratios, quotients_narrow, IsLeastLine-of}
use Rattle.farkas_rows.proofs.fracs.least_line.Goals as goal

pub common_multiple-requires : goal.common_multiple-requires
common_multiple-requires c = rw c.first_times-first.ensures (num_nonzero (first_of c.args.cut.now c.args.items.now) (first_positive c.args.cut.now c.args.items.now c.requires.some c.requires.positive))

pub returns-in_default-clause-heavy : goal.returns-in_default-clause-heavy
returns-in_default-clause-heavy c =
    let first = first_of c.args.cut.now c.args.items.now in
    let none = rw c.first_times-first.ensures at c.in_default.ensures.none in
    λ e line least small.
    let m = narrow_ratios c.args.cut.now c.args.items.now line c.requires.some c.requires.positive least small in
    let quotients = quotients_narrow first c.args.items.now (map (λ (item : Use). item.times) line.items) m.0 (first_positive c.args.cut.now c.args.items.now c.requires.some c.requires.positive) (items_positive c.args.cut.now c.args.items.now c.requires.positive) m.1 in
    none (nat_abs m.0) (omega (linear, m.1.one)) (omega (linear, m.1.one, m.1.small)) quotients.0 quotients.1

pub whole_items-requires-clause-first : goal.whole_items-requires-clause-first
whole_items-requires-clause-first c = rw c.first_times-first.ensures (num_nonzero (first_of c.args.cut.now c.args.items.now) (first_positive c.args.cut.now c.args.items.now c.requires.some c.requires.positive))

pub whole_items-requires-clause-positive : goal.whole_items-requires-clause-positive
whole_items-requires-clause-positive c =
    rw c.first_times-first.ensures (ratios_positive (first_of c.args.cut.now c.args.items.now) c.args.items.now (first_positive c.args.cut.now c.args.items.now c.requires.some c.requires.positive) (items_positive c.args.cut.now c.args.items.now c.requires.positive))

pub whole_items-requires-clause-multiple : goal.whole_items-requires-clause-multiple
whole_items-requires-clause-multiple c =
    let fits : FitsSigned w128 c.in-Some.common = search rules in
    simp to_z-of_z c.in-Some.ensures.common.multiple

pub returns-in_err-whole_items-clause-heavy : goal.returns-in_err-whole_items-clause-heavy
returns-in_err-whole_items-clause-heavy c =
    let p = err_from_is_err_and c.from_residual.result c.from_residual.ensures.1 in
    let first = first_of c.args.cut.now c.args.items.now in
    let fits : FitsSigned w128 c.in-Some.common = search rules in
    let refused = rw c.first_times-first.ensures at (simp to_z-of_z at c.in_err-whole_items.ensures.heavy) in
    let common = rw c.first_times-first.ensures at c.in-Some.ensures.common in
    λ e line least small.
    let m = narrow_ratios c.args.cut.now c.args.items.now line c.requires.some c.requires.positive least small in
    let quotients = quotients_narrow first c.args.items.now (map (λ (item : Use). item.times) line.items) m.0 (first_positive c.args.cut.now c.args.items.now c.requires.some c.requires.positive) (items_positive c.args.cut.now c.args.items.now c.requires.positive) m.1 in
    refused (cc) m.0 (map (λ (item : Use). item.times) line.items) (IsCommon-le (λ (item : FracUse). (item.times /ℚ first).den) c.args.items.now c.in-Some.common m.0 common m.1.one quotients.1) m.1.ratios

pub returns-clause-line : goal.returns-clause-line
returns-clause-line c =
    let fits : FitsSigned w128 c.in-Some.common = search rules in
    let ratios = rw c.first_times-first.ensures at (simp to_z-of_z at c.in_ok-whole_items.ensures.ratios) in
    let common = rw c.first_times-first.ensures at c.in-Some.ensures.common in
    let cut = simp to_z-of_z at c.whole_cut.ensures in
    rw cut (IsLeastLine-of c.args.cut.now c.args.items.now c.in-Some.common c.in_ok-whole_items.field-0 c.requires.some c.requires.positive common c.in_ok-whole_items.ensures.numbers ratios)
