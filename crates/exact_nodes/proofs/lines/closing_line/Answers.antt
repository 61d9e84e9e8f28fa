use Rattle.std.proofs.Common.{refl, ap, subst, sym, inl, Err}
use Rattle.std.specs.Prelude.{None}
use Rattle.exact_math.specs.Ring.{integers}
use Rattle.exact_vectors.specs.Vectors.{zeros}
use Rattle.lp_solve.specs.declared.answer.Solved.TheVariants as answers
use Rattle.reformulate.specs.Substitutions.{dimension_of}
use Rattle.node_lines.specs.declared.halt.LineHalt.{LineHalt}
use Rattle.exact_nodes.specs.ExactMoves.{HaltsSo}
use Rattle.exact_nodes.proofs.LineHalts.{line_halts}
use Rattle.exact_nodes.proofs.NodeFacts.{node_framed}
use Rattle.exact_nodes.proofs.lines.closing_line.Goals as goal

pub empty_line-requires-clause-node : goal.empty_line-requires-clause-node
empty_line-requires-clause-node c = node_framed c.args.node.now.model.now c.args.node.now.work.now c.args.node.now.frame.now c.args.node.now.path.now c.requires.node

pub returns-clause-halt : goal.returns-clause-halt
returns-clause-halt c =
    let wide = rw c.items.ensures at c.in-Err.ensures.wide in
    let heavy = rw c.items.ensures at c.in-Err.ensures.heavy in
    subst (HaltsSo c.args.node.now.model.now c.args.node.now.work.now c.args.node.now.frame.now c.args.node.now.path.now c.args.node.now.cut) (sym c.no_line.ensures)
    (line_halts c.args.node.now.model.now c.args.node.now.path.now c.args.node.now.cut c.args.node.now.frame.now c.args.node.now.work.now c.args.pivots (zeros integers (dimension_of c.args.node.now.frame.now)) (answers.Empty c.args.multipliers) None c.in-Err.halt (inl refl) c.requires.ends refl (λ e. wide (ap (λ (h : LineHalt). Err h) e)) (λ e. heavy (ap (λ (h : LineHalt). Err h) e)))
