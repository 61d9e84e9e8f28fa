use Rattle.std.proofs.Common.{ℕ, List, refl, subst, subst₂}
use Rattle.exact_nodes.specs.PathExcuses.IsExcused.{root}
use Rattle.exact_nodes.specs.declared.excuse.Excuse.TheVariants.{Frame}
use Rattle.reformulate.specs.Excuses.{ExcusedOn, StopsSo}
use Rattle.reformulate.specs.declared.equality.Equality.{Equality}
use Rattle.slice_branch.proofs.PlainPlaceLaws.{plain_root}
use Rattle.slice_branch.proofs.roots.open_root.Goals as goal

pub returns-in-Err-Excuse : goal.returns-in-Err-Excuse
returns-in-Err-Excuse c =
    let model = c.args.model.now in
    let stop = c.in-Err-Excuse.excuse in
    let stops = subst (StopsSo (ExcusedOn c.columns.result c.in_ok-equalities.equalities)) c.in-Err-Excuse.field-0-is c.in-Err-Excuse.ensures.stop in
    let excused = subst₂ (λ (n : ℕ) (l : List Equality). ExcusedOn n l stop) c.columns.ensures.count c.in_ok-equalities.ensures.value stops in
    plain_root model.rows.now (Frame stop) c.plain_place.result (root stop refl (record { root = refl; work = model.work; presolved = model.presolved; excused = excused })) c.plain_place.ensures
