use Rattle.std.proofs.Common.{◌≡◌, ◌≤◌, ◌<◌, ◌+◌, List, take, get_or, length, sym, subst}
use Rattle.std.specs.Prelude.{IfErr, IfOk}
use Rattle.std.proofs.lemmas.List.{take_all}
use Rattle.reformulate.proofs.FrameLaws.{Reach-reached}
use Rattle.reformulate.proofs.FramingSteps.{columns-begun, columns-more, excused_on, misses_at, reached_frame, row_columns, Reach-begun, Reach-met, Reach-more}
use Rattle.reformulate.specs.Charts.{chart_of}
use Rattle.reformulate.specs.Excuses.{ExcusedOn, StopsSo}
use Rattle.reformulate.specs.Frames.{IsFramed}
use Rattle.reformulate.specs.Framing.{Reach}
use Rattle.reformulate.specs.Misses.{MissesAt}
use Rattle.reformulate.specs.Settling.{IsTakenUp}
use Rattle.reformulate.specs.Substitutions.{Substitution, columns_of, IsSubstitution}
use Rattle.reformulate.specs.declared.equality.Equality.{Equality}
use Rattle.reformulate.proofs.frame.Frame.of.Goals as goal
use Rattle.reformulate.proofs.frame.Frame.of.Goals.{in-Met, in-Framed}

pub loop-at-init : goal.loop-at-init
loop-at-init c = record { shaped = c.in_ok-frame.ensures.shaped; columns = columns-begun c.args.width c.in_ok-frame.frame c.in_ok-frame.ensures.chart; reach = Reach-begun c.args.width _ c.in_ok-frame.ensures.chart }

pub returns-in_err-take_up-clause-stop : goal.returns-in_err-take_up-clause-stop
returns-in_err-take_up-clause-stop c =
    let i = c.loop-at.at in
    let e = c.index-items-at.result in
    let lt = subst (λ (l : List Equality). i < length l) c.items-items.ensures c.loop-at-test.true in
    let is = subst (λ (l : List Equality). e ≡ get_or l i e) c.items-items.ensures c.index-items-at.is in
    excused_on c.args.width c.args.equalities.now i e (chart_of c.loop-at.frame) c.in_err-take_up.field-0.0 c.from_residual-in_err-take_up.result lt is c.loop-at.invariant.reach c.in_err-take_up.ensures.stop c.from_residual-in_err-take_up.ensures.1

pub missed-requires-clause-narrow : goal.missed-requires-clause-narrow
missed-requires-clause-narrow c =
    let s = c.loop-at.frame in
    let e = c.index-items-at.result in
    let reached = Reach-reached c.args.width (take c.loop-at.at c.args.equalities.now) (chart_of s) c.loop-at.invariant.reach in
    let missed = subst (IsTakenUp e (chart_of s)) c.in-Missed.is c.in_ok-take_up.ensures.ok in
    subst (λ k. k ≤ 256) (sym (row_columns c.args.width e (chart_of s) c.in-Missed.miss reached.chart.pair missed)) c.requires.narrow

pub missed-requires-clause-misses : goal.missed-requires-clause-misses
missed-requires-clause-misses c =
    let s = c.loop-at.frame in
    let i = c.loop-at.at in
    let e = c.index-items-at.result in
    let lt = subst (λ (l : List Equality). i < length l) c.items-items.ensures c.loop-at-test.true in
    let is = subst (λ (l : List Equality). e ≡ get_or l i e) c.items-items.ensures c.index-items-at.is in
    let reached = Reach-reached c.args.width (take i c.args.equalities.now) (chart_of s) c.loop-at.invariant.reach in
    let missed = subst (IsTakenUp e (chart_of s)) c.in-Missed.is c.in_ok-take_up.ensures.ok in
    let at = misses_at c.args.width c.args.equalities.now i e (chart_of s) c.in-Missed.miss c.requires.sizes lt is c.loop-at.invariant.reach missed in
    subst (λ (l : List Equality). MissesAt (length c.in-Missed.miss.row) l i c.in-Missed.miss) (sym c.items-items.ensures)
    (subst (λ k. MissesAt k c.args.equalities.now i c.in-Missed.miss) (sym (row_columns c.args.width e (chart_of s) c.in-Missed.miss reached.chart.pair missed)) at)

pub returns-in-Missed-clause-ok : goal.returns-in-Missed-clause-ok
returns-in-Missed-clause-ok c =
    let s = c.loop-at.frame in
    let e = c.index-items-at.result in
    let reached = Reach-reached c.args.width (take c.loop-at.at c.args.equalities.now) (chart_of s) c.loop-at.invariant.reach in
    let missed = subst (IsTakenUp e (chart_of s)) c.in-Missed.is c.in_ok-take_up.ensures.ok in
    let columns = row_columns c.args.width e (chart_of s) c.in-Missed.miss reached.chart.pair missed in
    subst (λ (l : List Equality). IfOk c.missed.result (IsFramed c.args.width l)) c.items-items.ensures
    (subst (λ k. IfOk c.missed.result (IsFramed k c.items-items.result.now)) columns c.missed.ensures.ok)

pub returns-in-Missed-clause-stop : goal.returns-in-Missed-clause-stop
returns-in-Missed-clause-stop c =
    let s = c.loop-at.frame in
    let e = c.index-items-at.result in
    let reached = Reach-reached c.args.width (take c.loop-at.at c.args.equalities.now) (chart_of s) c.loop-at.invariant.reach in
    let missed = subst (IsTakenUp e (chart_of s)) c.in-Missed.is c.in_ok-take_up.ensures.ok in
    let columns = row_columns c.args.width e (chart_of s) c.in-Missed.miss reached.chart.pair missed in
    subst (λ (l : List Equality). IfErr c.missed.result (StopsSo (ExcusedOn c.args.width l))) c.items-items.ensures
    (subst (λ k. IfErr c.missed.result (StopsSo (ExcusedOn k c.items-items.result.now))) columns c.missed.ensures.stop)

pub loop-at-preserved : goal.loop-at-preserved
loop-at-preserved c =
    let n = c.args.width in
    let s = c.loop-at.frame in
    let e = c.index-items-at.result in
    let i = c.loop-at.at in
    let lt = subst (λ (l : List Equality). i < length l) c.items-items.ensures c.loop-at-test.true in
    let is = subst (λ (l : List Equality). e ≡ get_or l i e) c.items-items.ensures c.index-items-at.is in
    let inv = c.loop-at.invariant in
    let reached = Reach-reached n (take i c.args.equalities.now) (chart_of s) inv.reach in
    elim c.match-branch-3.branch [
      | in-Met w ↦
          subst (λ (t : Substitution). record { shaped : IsSubstitution t; columns : columns_of t ≡ c.args.width; reach : Reach c.args.width (take (c.loop-at.at + 1) c.args.equalities.now) (chart_of t) }) (sym w.frame-is)
          (record { shaped = inv.shaped; columns = inv.columns; reach = Reach-met n c.args.equalities.now i e (chart_of s) lt is inv.reach (subst (IsTakenUp e (chart_of s)) w.in-Met.is c.in_ok-take_up.ensures.ok) })
      | in-Framed w ↦
          let more = subst (IsTakenUp e (chart_of s)) w.in-Framed.is c.in_ok-take_up.ensures.ok in
          subst (λ (t : Substitution). record { shaped : IsSubstitution t; columns : columns_of t ≡ c.args.width; reach : Reach c.args.width (take (c.loop-at.at + 1) c.args.equalities.now) (chart_of t) }) (sym w.frame-is)
          (record { shaped = more.reduction.shaped; columns = columns-more n e (chart_of s) w.in-Framed.next reached.chart.base reached.chart.pair more; reach = Reach-more n c.args.equalities.now i e (chart_of s) w.in-Framed.next lt is inv.reach more })
    ]

pub returns-clause-ok : goal.returns-clause-ok
returns-clause-ok c =
    let inv = c.loop-at.invariant in
    let all : take c.loop-at.at c.args.equalities.now ≡ c.args.equalities.now = take_all c.loop-at.at c.args.equalities.now (subst (λ (l : List Equality). length l ≤ c.loop-at.at) c.items-items.ensures c.loop-at-test.false) in
    reached_frame c.args.width c.args.equalities.now c.loop-at.frame inv.columns (subst (λ l. Reach c.args.width l (chart_of c.loop-at.frame)) all inv.reach) inv.shaped
