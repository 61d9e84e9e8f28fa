use Rattle.std.proofs.Common.{rules, ◌≡◌, ◌∙◌, ◌+ℤ◌, ℤ, List, sym, ap, subst, subst₂, inl, inr, Err, FitsSigned, to_z-of_z}
use Rattle.std.specs.Prelude.{Some}
use Rattle.std.specs.Int.{w128}
use Rattle.exact_math.specs.Rational.{ℚ}
use Rattle.farkas_rows.specs.Inequalities.{below}
use Rattle.lp_solve.specs.declared.answer.Solved.TheVariants.{Least}
use Rattle.node_lines.specs.NodeLines.{IsHeavyLine}
use Rattle.node_lines.specs.NodeSystems.{IsPastEnd}
use Rattle.node_lines.specs.declared.halt.LineHalt.{LineHalt}
use Rattle.node_lines.specs.declared.halt.LineHalt.TheVariants as halts
use Rattle.node_regions.specs.NodeRegions.{node_polytope}
use Rattle.exact_nodes.specs.ExactMoves.{HaltsSo}
use Rattle.exact_nodes.specs.NodeExcuses.{IsWideMap}
use Rattle.exact_nodes.specs.Regions.{IsFirstValue}
use Rattle.exact_nodes.proofs.EndFacts.{first_value, past_lower, refuted_lower, wide_lower}
use Rattle.exact_nodes.proofs.LineHalts.{line_halts}
use Rattle.exact_nodes.proofs.NodeFacts.{node_framed}
use Rattle.exact_nodes.proofs.lines.lower_end.Goals as goal

pub returns-in_default-clause-halt : goal.returns-in_default-clause-halt
returns-in_default-clause-halt c =
    let ceil_fits : FitsSigned w128 c.ceil.result = search rules in
    let constant_fits : FitsSigned w128 c.args.moved.now.constant = search rules in
    let refused = simp to_z-of_z at c.in_default.ensures in
    let optimum = c.in_ok-optimum.optimum in
    let p = node_polytope c.args.node.now.frame.now c.args.node.now.work.now c.args.node.now.cut in
    subst (IsWideMap c.args.node.now.cut c.args.node.now.frame.now c.args.node.now.work.now p) (sym c.in_ok-copied.ensures)
    (wide_lower c.args.node.now.cut c.args.node.now.work.now c.args.node.now.frame.now p c.args.form.now c.args.moved.now.constant c.requires.constant c.requires.chosen optimum.value optimum.pivots optimum.multipliers c.in_ok-optimum.ensures.optimum
    (λ fits. refused (subst (λ (z : ℤ). FitsSigned w128 (z +ℤ c.args.moved.now.constant)) (sym c.ceil.ensures) fits)))

pub end_line-requires-clause-node : goal.end_line-requires-clause-node
end_line-requires-clause-node c = node_framed c.args.node.now.model.now c.args.node.now.work.now c.args.node.now.frame.now c.args.node.now.path.now c.requires.node

pub end_line-requires-clause-past : goal.end_line-requires-clause-past
end_line-requires-clause-past c =
    let ceil_fits : FitsSigned w128 c.ceil.result = search rules in
    let constant_fits : FitsSigned w128 c.args.moved.now.constant = search rules in
    let lo_fits : FitsSigned w128 c.in-Some.lo = search rules in
    let sum = simp to_z-of_z at c.in-Some.ensures in
    let optimum = c.in_ok-optimum.optimum in
    let shown = c.in_ok-optimum.ensures.optimum in
    subst₂ (λ (w : List ℚ) (z : ℤ). IsPastEnd c.args.node.now.model.now c.args.node.now.work.now c.args.node.now.frame.now c.args.node.now.cut w (below c.args.moved.now.form z)) (sym c.items.ensures) (sym (to_z-of_z lo_fits))
    (past_lower c.args.node.now.model.now c.args.node.now.work.now c.args.node.now.frame.now c.args.node.now.cut c.args.form.now c.args.moved.now.form c.requires.form shown.point optimum.value optimum.multipliers c.args.moved.now.constant c.in-Some.lo shown.least
    c.requires.constant (sum.1 ∙ ap (λ (z : ℤ). z +ℤ c.args.moved.now.constant) c.ceil.ensures))

pub returns-in-Ok-clause-first : goal.returns-in-Ok-clause-first
returns-in-Ok-clause-first c =
    let ceil_fits : FitsSigned w128 c.ceil.result = search rules in
    let constant_fits : FitsSigned w128 c.args.moved.now.constant = search rules in
    let lo_fits : FitsSigned w128 c.in-Some.lo = search rules in
    let sum = simp to_z-of_z at c.in-Some.ensures in
    let optimum = c.in_ok-optimum.optimum in
    let p = node_polytope c.args.node.now.frame.now c.args.node.now.work.now c.args.node.now.cut in
    subst (IsFirstValue p c.args.form.now c.args.moved.now.constant) (sym (to_z-of_z lo_fits))
    (first_value p c.args.form.now optimum.pivots optimum.value optimum.multipliers c.args.moved.now.constant c.in-Some.lo c.in_ok-optimum.ensures.optimum (sum.1 ∙ ap (λ (z : ℤ). z +ℤ c.args.moved.now.constant) c.ceil.ensures))

pub returns-in-Err-clause-halt : goal.returns-in-Err-clause-halt
returns-in-Err-clause-halt c =
    let ceil_fits : FitsSigned w128 c.ceil.result = search rules in
    let constant_fits : FitsSigned w128 c.args.moved.now.constant = search rules in
    let lo_fits : FitsSigned w128 c.in-Some.lo = search rules in
    let sum = simp to_z-of_z at c.in-Some.ensures in
    let optimum = c.in_ok-optimum.optimum in
    let shown = c.in_ok-optimum.ensures.optimum in
    let wide = rw c.items.ensures at c.in-Err.ensures.wide in
    let heavy = λ (e : c.in-Err.halt ≡ halts.Heavy).
    subst₂ (λ (w : List ℚ) (z : ℤ). IsHeavyLine c.args.node.now.model.now c.args.node.now.work.now c.args.node.now.frame.now c.args.node.now.path.now (Some (below c.args.moved.now.form z)) c.args.node.now.cut w) c.items.ensures (to_z-of_z lo_fits)
    (c.in-Err.ensures.heavy (ap (λ (h : LineHalt). Err h) e)) in
    subst (HaltsSo c.args.node.now.model.now c.args.node.now.work.now c.args.node.now.frame.now c.args.node.now.path.now c.args.node.now.cut) (sym c.no_line.ensures)
    (line_halts c.args.node.now.model.now c.args.node.now.path.now c.args.node.now.cut c.args.node.now.frame.now c.args.node.now.work.now optimum.pivots c.args.form.now (Least shown.point optimum.value optimum.multipliers) (Some (below c.args.moved.now.form c.in-Some.lo)) c.in-Err.halt
    (inr (inl c.requires.chosen.1)) shown.ends
    (refuted_lower c.args.node.now.model.now c.args.node.now.work.now c.args.node.now.frame.now c.args.node.now.cut c.args.form.now c.args.moved.now.form c.requires.form shown.point optimum.value optimum.multipliers c.args.moved.now.constant c.in-Some.lo c.requires.constant
    (sum.1 ∙ ap (λ (z : ℤ). z +ℤ c.args.moved.now.constant) c.ceil.ensures))
    (λ e. wide (ap (λ (h : LineHalt). Err h) e)) heavy)
