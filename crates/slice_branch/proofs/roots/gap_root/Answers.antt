use Rattle.std.proofs.Common.{subst}
use Rattle.std.specs.Prelude.{None}
use Rattle.root_gaps.specs.GapMoves.{IsGapMove}
use Rattle.slice_branch.proofs.PlainPlaceLaws.{plain_root}
use Rattle.slice_branch.proofs.roots.gap_root.Goals as goal

pub returns-in-Split : goal.returns-in-Split
returns-in-Split c = λ best. subst (IsGapMove c.args.model.now.rows.now best) c.in-Split.is (c.in_ok-cut.ensures best)

pub returns-in-Excused : goal.returns-in-Excused
returns-in-Excused c =
    let rows = c.args.model.now.rows.now in
    plain_root rows c.in-Excused.excuse c.plain_place.result (subst (IsGapMove rows None) c.in-Excused.is (c.in_ok-cut.ensures None)) c.plain_place.ensures
