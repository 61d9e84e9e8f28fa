use Rattle.std.proofs.Common.{refl, ap, sym, ◌∙◌}
use Rattle.tree_checker.specs.Claims.{claim_of}
use Rattle.tree_checker.specs.Judging.{Judged, stage_of}
use Rattle.tree_checker.proofs.judge.Judge.is_at_end.Goals as goal

pub returns-in-End : goal.returns-in-End
returns-in-End c =
    let s = c.self.inside in
    (λ t. (claim_of s.point.items s.last, sym (ap (λ (j : Judged). j.stage) c.self.view_is) ∙ ap (λ step. stage_of step (claim_of s.point.items s.last) s.splits.splits s.form) c.in-End.is), λ at. refl)
