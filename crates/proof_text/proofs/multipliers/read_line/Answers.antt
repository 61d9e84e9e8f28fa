use Rattle.std.proofs.Common.{◌≡◌, [], ◌∷◌}
use Rattle.std.proofs.lemmas.Bool.{iff_false}
use Rattle.proof_text.specs.PrintedShapes.{spelled_line-shape}
use Rattle.proof_text.specs.Reads.{some_path, some_end}
use Rattle.proof_text.proofs.LineReads.{rest_is, items_are, line_read}
use Rattle.proof_text.proofs.multipliers.read_line.Goals as goal
use Rattle.proof_text.proofs.multipliers.read_line.Goals.{then-not-do_rise-via-then-not-do_rise, then-not-do_rise-via-else-not-do_rise+then-not-have_sides}

pub returns-in_default : goal.returns-in_default
returns-in_default c = λ line s. c.in_default.ensures (spelled_line-shape c.args.rows.now (some_path c.args.depth) (some_end c.args.has_end) (c.args.first ∷ []) c.args.text.now line s.spelled s.printable)

pub returns-in_default-2 : goal.returns-in_default-2
returns-in_default-2 c = λ line s.
    let at = rest_is c.args.rows.now c.requires.limits c.args.depth c.requires.depth c.args.has_end c.args.first c.args.text.now line c.in-Some.words c.take_cut-cut.new.words c.take_cut-cut.result s c.in-Some.ensures c.take_cut-cut.ensures in
    let none = rw c.in_default-2.is at c.in_ok-items.ensures in
    none line.items at.0 at.1

pub returns-then-not-do_rise : goal.returns-then-not-do_rise
returns-then-not-do_rise c = λ line s.
    let read = rw c.in-Some-2.is at c.in_ok-items.ensures in
    let same : line.items ≡ c.in-Some-2.items =
    items_are c.args.rows.now c.requires.limits c.args.depth c.requires.depth c.args.has_end c.args.first c.args.text.now line c.in-Some-2.items c.in-Some.words c.take_cut-cut.new.words c.take_cut-cut.result s c.in-Some.ensures c.take_cut-cut.ensures read in
    elim c.then-not-do_rise.branch [
      | then-not-do_rise-via-then-not-do_rise w ↦ iff_false c.do_rise.ensures w.if-not-do_rise.true (rw (c.items-2.ensures, ← same) s.printable.rising)
      | then-not-do_rise-via-else-not-do_rise+then-not-have_sides w ↦ iff_false w.have_sides.ensures w.if-not-have_sides.true (rw (w.items-else-not-do_rise.ensures, ← same) s.printable.there)
    ]

pub returns : goal.returns
returns c =
    line_read c.args.rows.now c.args.depth c.args.has_end c.args.first c.args.text.now c.take_cut-cut.result c.in-Some-2.items c.in-Some.words c.take_cut-cut.new.words c.in-Some.ensures c.take_cut-cut.ensures
    (rw c.in-Some-2.is at c.in_ok-items.ensures)
    (rw c.items-2.ensures at (c.do_rise.ensures.0 c.if-not-do_rise.false))
    (rw c.items-else-not-do_rise.ensures at (c.have_sides.ensures.0 c.if-not-have_sides.false))
