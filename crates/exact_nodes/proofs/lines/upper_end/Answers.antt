use Rattle.std.proofs.Common.{rules, ◌≡◌, ◌∙◌, ◌+ℤ◌, ◌-ℤ◌, ℤ, pos, List, refl, sym, ap, subst, subst₂, inr, Err, FitsSigned, to_z, of_z, to_z-of_z}
use Rattle.std.specs.Prelude.{Some}
use Rattle.std.specs.Int.{w128}
use Rattle.exact_math.specs.IntegerRing.{linear}
use Rattle.exact_math.specs.Rational.{ℚ, floor}
use Rattle.exact_math.specs.Ring.{integers}
use Rattle.exact_vectors.specs.Vectors.{negate}
use Rattle.farkas_rows.specs.Inequalities.{above}
use Rattle.lp_solve.specs.declared.answer.Solved.TheVariants.{Least}
use Rattle.node_lines.specs.NodeLines.{IsHeavyLine}
use Rattle.node_lines.specs.NodeSystems.{IsPastEnd}
use Rattle.node_lines.specs.declared.halt.LineHalt.{LineHalt}
use Rattle.node_lines.specs.declared.halt.LineHalt.TheVariants as halts
use Rattle.node_regions.specs.NodeRegions.{node_polytope}
use Rattle.proof_tree.specs.Moves.{ClosesUnder}
use Rattle.exact_nodes.specs.ExactMoves.{HaltsSo}
use Rattle.exact_nodes.specs.NodeExcuses.{IsWideMap}
use Rattle.exact_nodes.specs.Regions.{IsLastValue, IsOptimum}
use Rattle.exact_nodes.proofs.EndFacts.{last_value, past_upper, refuted_upper, wide_upper}
use Rattle.exact_nodes.proofs.LineHalts.{line_halts}
use Rattle.exact_nodes.proofs.NodeFacts.{node_framed}
use Rattle.exact_nodes.proofs.lines.upper_end.Goals as goal

-- ---- the number before that from which on there is no value

before : (from greatest constant : ℤ) → from ≡ (greatest +ℤ constant) +ℤ pos 1 → from -ℤ pos 1 ≡ greatest +ℤ constant
before from greatest constant e = omega (linear, e)

next : (from : ℤ) → (from -ℤ pos 1) +ℤ pos 1 ≡ from
next from = omega linear

last_is : (from : ℤ) → FitsSigned w128 from → FitsSigned w128 (from -ℤ pos 1) → to_z w128 (of_z w128 (to_z w128 (of_z w128 from) -ℤ pos 1)) ≡ from -ℤ pos 1
last_is from fits last_fits = ap (λ (z : ℤ). to_z w128 (of_z w128 (z -ℤ pos 1))) (to_z-of_z fits) ∙ to_z-of_z last_fits

-- ---- the end

pub returns-in_default-clause-halt : goal.returns-in_default-clause-halt
returns-in_default-clause-halt c =
    let floor_fits : FitsSigned w128 c.floor.result = search rules in
    let constant_fits : FitsSigned w128 c.args.moved.now.constant = search rules in
    let refused = simp to_z-of_z at c.in_default.ensures in
    let optimum = c.in_ok-optimum.optimum in
    let p = node_polytope c.args.node.now.frame.now c.args.node.now.work.now c.args.node.now.cut in
    let shown = subst (λ (form : List ℤ). IsOptimum p form optimum.pivots optimum.value optimum.multipliers) c.in_ok-other.ensures.value c.in_ok-optimum.ensures.optimum in
    let greatest = c.floor.ensures ∙ ap floor c.neg.ensures in
    subst (IsWideMap c.args.node.now.cut c.args.node.now.frame.now c.args.node.now.work.now p) (sym c.in_ok-copied.ensures)
    (wide_upper c.args.node.now.cut c.args.node.now.work.now c.args.node.now.frame.now p c.args.form.now c.args.moved.now.constant c.requires.constant c.requires.chosen optimum.value optimum.pivots optimum.multipliers shown
    (λ fit. refused (subst (λ (z : ℤ). FitsSigned w128 (z +ℤ c.args.moved.now.constant) × FitsSigned w128 ((z +ℤ c.args.moved.now.constant) +ℤ pos 1)) (sym greatest) fit)))

pub end_line-requires-clause-node : goal.end_line-requires-clause-node
end_line-requires-clause-node c = node_framed c.args.node.now.model.now c.args.node.now.work.now c.args.node.now.frame.now c.args.node.now.path.now c.requires.node

pub end_line-requires-clause-past : goal.end_line-requires-clause-past
end_line-requires-clause-past c =
    let floor_fits : FitsSigned w128 c.floor.result = search rules in
    let constant_fits : FitsSigned w128 c.args.moved.now.constant = search rules in
    let from_fits : FitsSigned w128 c.in-Some.from = search rules in
    let sum = simp to_z-of_z at c.in-Some.ensures in
    let optimum = c.in_ok-optimum.optimum in
    let p = node_polytope c.args.node.now.frame.now c.args.node.now.work.now c.args.node.now.cut in
    let shown = subst (λ (form : List ℤ). IsOptimum p form optimum.pivots optimum.value optimum.multipliers) c.in_ok-other.ensures.value c.in_ok-optimum.ensures.optimum in
    let greatest = c.floor.ensures ∙ ap floor c.neg.ensures in
    subst₂ (λ (w : List ℚ) (z : ℤ). IsPastEnd c.args.node.now.model.now c.args.node.now.work.now c.args.node.now.frame.now c.args.node.now.cut w (above c.args.moved.now.form z)) (sym c.items.ensures) (sym (to_z-of_z from_fits))
    (past_upper c.args.node.now.model.now c.args.node.now.work.now c.args.node.now.frame.now c.args.node.now.cut c.args.form.now c.args.moved.now.form c.requires.form c.args.moved.now.constant c.requires.constant shown.point optimum.value optimum.multipliers c.in-Some.from shown.least
    (sum.1 ∙ ap (λ (z : ℤ). (z +ℤ c.args.moved.now.constant) +ℤ pos 1) greatest))

pub returns-in-Ok-clause-last : goal.returns-in-Ok-clause-last
returns-in-Ok-clause-last c =
    let floor_fits : FitsSigned w128 c.floor.result = search rules in
    let constant_fits : FitsSigned w128 c.args.moved.now.constant = search rules in
    let from_fits : FitsSigned w128 c.in-Some.from = search rules in
    let sum = simp to_z-of_z at c.in-Some.ensures in
    let optimum = c.in_ok-optimum.optimum in
    let p = node_polytope c.args.node.now.frame.now c.args.node.now.work.now c.args.node.now.cut in
    let shown = subst (λ (form : List ℤ). IsOptimum p form optimum.pivots optimum.value optimum.multipliers) c.in_ok-other.ensures.value c.in_ok-optimum.ensures.optimum in
    let greatest = c.floor.ensures ∙ ap floor c.neg.ensures in
    let last = before c.in-Some.from c.floor.result c.args.moved.now.constant sum.1 in
    let last_fits = subst (FitsSigned w128) (sym last) sum.0.0 in
    subst (IsLastValue p c.args.form.now c.args.moved.now.constant) (sym (last_is c.in-Some.from from_fits last_fits))
    (last_value p c.args.form.now optimum.pivots optimum.value optimum.multipliers c.args.moved.now.constant (c.in-Some.from -ℤ pos 1) shown (last ∙ ap (λ (z : ℤ). z +ℤ c.args.moved.now.constant) greatest))

pub returns-in-Ok-clause-line : goal.returns-in-Ok-clause-line
returns-in-Ok-clause-line c =
    let floor_fits : FitsSigned w128 c.floor.result = search rules in
    let constant_fits : FitsSigned w128 c.args.moved.now.constant = search rules in
    let from_fits : FitsSigned w128 c.in-Some.from = search rules in
    let sum = simp to_z-of_z at c.in-Some.ensures in
    let last_fits = subst (FitsSigned w128) (sym (before c.in-Some.from c.floor.result c.args.moved.now.constant sum.1)) sum.0.0 in
    subst (λ (z : ℤ). ClosesUnder c.args.node.now.model.now c.args.node.now.cut c.args.node.now.path.now (Some (above c.args.moved.now.form z)) c.in-Ok.line)
    (to_z-of_z from_fits ∙ sym (next c.in-Some.from) ∙ ap (λ (z : ℤ). z +ℤ pos 1) (sym (last_is c.in-Some.from from_fits last_fits)))
    c.in-Ok.ensures.line

pub returns-clause-halt : goal.returns-clause-halt
returns-clause-halt c =
    let floor_fits : FitsSigned w128 c.floor.result = search rules in
    let constant_fits : FitsSigned w128 c.args.moved.now.constant = search rules in
    let from_fits : FitsSigned w128 c.in-Some.from = search rules in
    let sum = simp to_z-of_z at c.in-Some.ensures in
    let optimum = c.in_ok-optimum.optimum in
    let p = node_polytope c.args.node.now.frame.now c.args.node.now.work.now c.args.node.now.cut in
    let shown = subst (λ (form : List ℤ). IsOptimum p form optimum.pivots optimum.value optimum.multipliers) c.in_ok-other.ensures.value c.in_ok-optimum.ensures.optimum in
    let greatest = c.floor.ensures ∙ ap floor c.neg.ensures in
    let wide = rw c.items.ensures at c.in-Err.ensures.wide in
    let heavy = λ (e : c.in-Err.halt ≡ halts.Heavy).
    subst₂ (λ (w : List ℚ) (z : ℤ). IsHeavyLine c.args.node.now.model.now c.args.node.now.work.now c.args.node.now.frame.now c.args.node.now.path.now (Some (above c.args.moved.now.form z)) c.args.node.now.cut w) c.items.ensures (to_z-of_z from_fits)
    (c.in-Err.ensures.heavy (ap (λ (h : LineHalt). Err h) e)) in
    subst (HaltsSo c.args.node.now.model.now c.args.node.now.work.now c.args.node.now.frame.now c.args.node.now.path.now c.args.node.now.cut) (sym c.no_line.ensures)
    (line_halts c.args.node.now.model.now c.args.node.now.path.now c.args.node.now.cut c.args.node.now.frame.now c.args.node.now.work.now optimum.pivots (negate integers c.args.form.now) (Least shown.point optimum.value optimum.multipliers) (Some (above c.args.moved.now.form c.in-Some.from)) c.in-Err.halt
    (inr (inr (c.args.form.now, c.requires.chosen.1, refl))) shown.ends
    (refuted_upper c.args.node.now.model.now c.args.node.now.work.now c.args.node.now.frame.now c.args.node.now.cut c.args.form.now c.args.moved.now.form c.requires.form c.args.moved.now.constant c.requires.constant shown.point optimum.value optimum.multipliers c.in-Some.from
    (sum.1 ∙ ap (λ (z : ℤ). (z +ℤ c.args.moved.now.constant) +ℤ pos 1) greatest))
    (λ e. wide (ap (λ (h : LineHalt). Err h) e)) heavy)
