use Rattle.std.proofs.Common.{◌≡◌, ◌<◌, None, false, length, ◌∙◌, arith}
use Rattle.std.proofs.lemmas.List.{get_or_default}
use Rattle.plain_slices.specs.Nodes.{narrowed_at, source_at}
use Rattle.plain_slices.proofs.RefuteLaws.{pair-differ, refutes-pair}
use Rattle.plain_slices.proofs.ShutLaws.{crossing-shut}
use Rattle.plain_slices.proofs.BitLaws.{sized_abs}
use Rattle.plain_slices.proofs.node.Node.line_of_crossing.Goals as goal

pub line_of_pair-requires : goal.line_of_pair-requires
line_of_pair-requires c =
    let node = c.args.self.now in
    let found = rw c.deref.ensures.value at c.in-Some.ensures.some in
    let h : c.in-Some.column < length node.rows.now.box = omega (arith, found.0, c.requires.node.dense) in
    let in_sources : c.in-Some.column < length node.sources.items = omega (arith, c.requires.node.sourced) in
    let source : c.index-source.result.now ≡ source_at node.sources.items c.in-Some.column = c.index-source.ensures ∙ get_or_default node.sources.items c.in-Some.column c.index-source.result.now (record { above = 0; below = 0; is_fixed = false }) in_sources in
    let t = c.requires.node.tight c.in-Some.column h in
    rw source (pair-differ node.rows.now node.path.now None c.in-Some.column (source_at node.sources.items c.in-Some.column).above (source_at node.sources.items c.in-Some.column).below (narrowed_at node.bounds.items c.in-Some.column).high (narrowed_at node.bounds.items c.in-Some.column).low h t.above t.below)

pub returns-clause-some : goal.returns-clause-some
returns-clause-some c =
    let node = c.args.self.now in
    let found = rw c.deref.ensures.value at c.in-Some.ensures.some in
    λ best. crossing-shut node.rows.now node.path.now best node.bounds.items node.sources.items c.in-Some.column c.requires.node (omega (arith, found.0, c.requires.node.dense)) found.1

pub returns-clause-refutes : goal.returns-clause-refutes
returns-clause-refutes c =
    let node = c.args.self.now in
    let found = rw c.deref.ensures.value at c.in-Some.ensures.some in
    let h : c.in-Some.column < length node.rows.now.box = omega (arith, found.0, c.requires.node.dense) in
    let in_sources : c.in-Some.column < length node.sources.items = omega (arith, c.requires.node.sourced) in
    let source : c.index-source.result.now ≡ source_at node.sources.items c.in-Some.column = c.index-source.ensures ∙ get_or_default node.sources.items c.in-Some.column c.index-source.result.now (record { above = 0; below = 0; is_fixed = false }) in_sources in
    let t = c.requires.node.tight c.in-Some.column h in
    refutes-pair node.rows.now node.path.now None c.in-Some.column (source_at node.sources.items c.in-Some.column).above (source_at node.sources.items c.in-Some.column).below (narrowed_at node.bounds.items c.in-Some.column).high (narrowed_at node.bounds.items c.in-Some.column).low c.in_ok-line.line h t.above t.below found.1 (sized_abs _ t.small_high) (sized_abs _ t.small_low) c.in_ok-line.ensures.cut (rw source at c.in_ok-line.ensures.items) c.in_ok-line.ensures.rising
