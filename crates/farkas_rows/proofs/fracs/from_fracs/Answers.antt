use Rattle.std.proofs.Common.{ℕ, pos, ◌^◌, ◌<ℤ◌, subst}
use Rattle.std.specs.Prelude.{IsSome}
use Rattle.std.proofs.lemmas.Result.{err_from_is_err_and}
use Rattle.farkas_rows.specs.Ends.{inequality_of}
use Rattle.farkas_rows.specs.Inequalities.{inequality_at}
use Rattle.farkas_rows.proofs.LeastLineLemmas.{IsLeastLine-same_weight, least_nonneg, least_heavy, least_there}
use Rattle.farkas_rows.proofs.fracs.from_fracs.Goals as goal

pub returns-in_err-line-clause-heavy : goal.returns-in_err-line-clause-heavy
returns-in_err-line-clause-heavy c =
    let p = err_from_is_err_and c.from_residual.result c.from_residual.ensures.1 in
    let refused = rw c.items.ensures at c.in_err-line.ensures.heavy in
    λ e line least. least_heavy c.args.rows.now c.args.path.now (inequality_of c.args.end.now) c.args.cut.now c.args.times.now line c.requires.positive least (refused (cc) line least)

pub weigh-requires-clause-there : goal.weigh-requires-clause-there
weigh-requires-clause-there c =
    let least = rw c.items.ensures at c.in_ok-line.ensures.line in
    least_there (λ (number : ℕ). IsSome (inequality_at c.args.rows.now c.args.path.now (inequality_of c.args.end.now) number)) c.args.times.now c.in_ok-line.line.items least.same_numbers c.requires.there

pub weigh-requires-clause-not_negative : goal.weigh-requires-clause-not_negative
weigh-requires-clause-not_negative c =
    let least = rw c.items.ensures at c.in_ok-line.ensures.line in
    least_nonneg c.args.cut.now c.args.times.now c.in_ok-line.line c.requires.positive least

pub returns-in-Above-clause-heavy : goal.returns-in-Above-clause-heavy
returns-in-Above-clause-heavy c =
    let least = rw c.items.ensures at c.in_ok-line.ensures.line in
    λ e line other.
    subst (λ z. pos (2 ^ 126) <ℤ z) (IsLeastLine-same_weight c.args.rows.now c.args.path.now (inequality_of c.args.end.now) c.args.cut.now c.args.times.now c.in_ok-line.line line c.requires.some c.requires.positive least other) c.in-Above.ensures
