use Rattle.std.proofs.Common.{◌++◌, length, arith}
use Rattle.std.proofs.lemmas.Bool.{iff_false}
use Rattle.proof_tree.specs.declared.tree.Tree.{Tree}
use Rattle.proof_text.specs.declared.claim.Claim.{Claim}
use Rattle.proof_text.specs.Spelling.{tree_lines}
use Rattle.proof_text.specs.Printable.{Spells}
use Rattle.proof_text.specs.Lines.{parts_of}
use Rattle.proof_text.specs.OneReading.{one_reading}
use Rattle.proof_text.specs.Reads.{SpellsHead}
use Rattle.proof_text.proofs.TextReads.{last_parts, head_of, tree_of, few_rest, end_of, whole_read}
use Rattle.proof_text.proofs.read.read_proof.Goals as goal

pub returns-in_default : goal.returns-in_default
returns-in_default c =
    let no_head = rw c.in_default.is at c.in_ok-claim.ensures in
    let none : (claim : Claim) (tree : Tree) → Spells c.args.rows.now c.args.text.now claim tree → ⊥ =
    λ claim tree s. no_head claim (tree_lines tree ++ last_parts) (rw (c.of-lines.ensures, c.columns.ensures.count) (head_of c.args.rows.now c.args.text.now claim tree s)) in
    record { read = none; again = λ claim tree s. absurd (none claim tree s) }

pub read_tree-requires-clause-room : goal.read_tree-requires-clause-room
read_tree-requires-clause-room c =
    let head : SpellsHead (length c.args.rows.now.box) (parts_of c.args.text.now) c.read_head.new.lines c.in-Some.claim = rw (← c.of-lines.ensures, ← c.columns.ensures.count) (rw c.in-Some.is at c.in_ok-claim.ensures) in
    omega (arith, few_rest c.args.rows.now c.args.text.now c.in-Some.claim c.read_head.new.lines head c.requires)

pub returns-in_default-2 : goal.returns-in_default-2
returns-in_default-2 c =
    let head : SpellsHead (length c.args.rows.now.box) (parts_of c.args.text.now) c.read_head.new.lines c.in-Some.claim = rw (← c.of-lines.ensures, ← c.columns.ensures.count) (rw c.in-Some.is at c.in_ok-claim.ensures) in
    let no_tree = rw c.in_default-2.is at c.in_ok-tree.ensures in
    let none : (claim : Claim) (tree : Tree) → Spells c.args.rows.now c.args.text.now claim tree → ⊥ =
    λ claim tree s. no_tree tree last_parts (tree_of c.args.rows.now c.args.text.now c.in-Some.claim c.read_head.new.lines head claim tree s) in
    record { read = none; again = λ claim tree s. absurd (none claim tree s) }

pub returns-then-not-ends : goal.returns-then-not-ends
returns-then-not-ends c =
    let head : SpellsHead (length c.args.rows.now.box) (parts_of c.args.text.now) c.read_head.new.lines c.in-Some.claim = rw (← c.of-lines.ensures, ← c.columns.ensures.count) (rw c.in-Some.is at c.in_ok-claim.ensures) in
    let none : (claim : Claim) (tree : Tree) → Spells c.args.rows.now c.args.text.now claim tree → ⊥ =
    λ claim tree s.
    iff_false c.ends.ensures c.if-not-ends.true
    (end_of c.args.rows.now c.args.text.now c.in-Some.claim c.read_head.new.lines head c.columns.ensures.limits c.requires c.in-Some-2.tree c.read_tree.new.lines (rw c.in-Some-2.is at c.in_ok-tree.ensures) claim tree s) in
    record { read = none; again = λ claim tree s. absurd (none claim tree s) }

pub returns : goal.returns
returns c =
    let head : SpellsHead (length c.args.rows.now.box) (parts_of c.args.text.now) c.read_head.new.lines c.in-Some.claim = rw (← c.of-lines.ensures, ← c.columns.ensures.count) (rw c.in-Some.is at c.in_ok-claim.ensures) in
    let read : Spells c.args.rows.now c.args.text.now c.in-Some.claim c.in-Some-2.tree =
    whole_read c.args.rows.now c.args.text.now c.in-Some.claim c.read_head.new.lines head c.in-Some-2.tree c.read_tree.new.lines (rw c.in-Some-2.is at c.in_ok-tree.ensures) (c.ends.ensures.0 c.if-not-ends.false) in
    record { read = read; again = λ claim tree s. one_reading c.args.rows.now c.args.text.now c.in-Some.claim claim c.in-Some-2.tree tree c.columns.ensures.limits (omega (arith, c.requires)) read s }
