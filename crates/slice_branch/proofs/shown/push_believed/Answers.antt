use Rattle.std.proofs.Common.{rules, ◌≡◌, [], ◌∷◌, ◌++◌, sym, subst}
use Rattle.std.proofs.lemmas.List.Elements.{All-nil, All-cons, All-append}
use Rattle.node_point.specs.NodePoints.{Fractions, IsNodePoint}
use Rattle.slice_branch.specs.SeenPoints.{ArePoints}
use Rattle.slice_branch.proofs.shown.push_believed.Goals as goal

pub returns-in_ok-push : goal.returns-in_ok-push
returns-in_ok-push c =
    let task = c.args.task in
    let P = λ (x : Fractions). IsNodePoint task.rows.now task.path.now task.best x in
    let point = c.in-Some.point in
    let old = c.args.points.now.items in
    let is_point : IsNodePoint task.rows.now task.path.now task.best point = search rules in
    let more : c.push.new.self.items ≡ old ++ point ∷ [] = search rules in
    subst (ArePoints task.rows.now task.path.now task.best) (sym more)
    (All-append P old (point ∷ []) c.requires.points (All-cons P point [] is_point (All-nil P)))
