use Rattle.std.proofs.Common.{rules, length, FitsSigned, refl}
use Rattle.std.specs.Int.{w128}
use Rattle.std.proofs.lemmas.Int.{to_z-of_z}
use Rattle.farkas_rows.specs.Sides.{form_in}
use Rattle.farkas_rows.proofs.SideLemmas.{times-bounded}
use Rattle.farkas_rows.proofs.side.Side.add_to.Goals as goal

pub add_to-requires-clause-products : goal.add_to-requires-clause-products
add_to-requires-clause-products c =
    let times_fits : FitsSigned w128 c.args.times = search rules in
    let signed_fits : FitsSigned w128 c.signed.result = search rules in
    let signed = simp to_z-of_z at c.signed.ensures in
    simp to_z-of_z (λ j lt. rw (signed, ← times-bounded (form_in (length c.args.sums.now) c.args.self.now.factors) c.args.self.now.bound c.args.times j) (c.requires.room.products j lt))

pub add_to-requires-clause-sums : goal.add_to-requires-clause-sums
add_to-requires-clause-sums c =
    let times_fits : FitsSigned w128 c.args.times = search rules in
    let signed_fits : FitsSigned w128 c.signed.result = search rules in
    let signed = simp to_z-of_z at c.signed.ensures in
    simp to_z-of_z (λ j lt. rw (signed, ← times-bounded (form_in (length c.args.sums.now) c.args.self.now.factors) c.args.self.now.bound c.args.times j) (c.requires.room.sums j lt))

pub returns-clause-sums : goal.returns-clause-sums
returns-clause-sums c =
    let times_fits : FitsSigned w128 c.args.times = search rules in
    let signed_fits : FitsSigned w128 c.signed.result = search rules in
    let signed = simp to_z-of_z at c.signed.ensures in
    let added = simp to_z-of_z at c.add_to.ensures in
    λ j lt. rw (added j lt, signed, times-bounded (form_in (length c.args.sums.now) c.args.self.now.factors) c.args.self.now.bound c.args.times j) refl
