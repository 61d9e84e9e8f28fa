use Rattle.std.proofs.Common.{[], ◌∷◌, length}
use Rattle.proof_text.specs.declared.splits.Opening.{Opening}
use Rattle.proof_text.specs.Spelling.{in_words, line_words, above_line}
use Rattle.proof_text.specs.Reads.{SpellsOpening}
use Rattle.proof_text.proofs.SplitReads.{opening_of, below_of, above_of, cut_read, lo_same, count_same}
use Rattle.proof_text.proofs.splits.read_cut.Goals as goal

pub returns-in_default : goal.returns-in_default
returns-in_default c = λ cut rest s.
    let none = rw c.in_default.is at c.in_ok-opening.ensures in
    let opening : Opening = record { mark = cut.mark; lo = cut.lo; count = cut.count; form = cut.form } in
    none opening (rw c.columns.ensures.count (opening_of c.args.rows.now c.args.depth c.args.text.now c.args.lines.now cut rest s))

pub returns-in_default-2 : goal.returns-in_default-2
returns-in_default-2 c = λ cut rest s.
    let none = rw c.in_default-2.is at c.in_ok-below.ensures in
    none cut.below (above_line cut ∷ rest) (below_of c.args.rows.now c.args.depth c.args.text.now c.args.lines.now cut rest s)

pub returns-in_default-3 : goal.returns-in_default-3
returns-in_default-3 c = λ cut rest s.
    let none = rw c.in_default-3.is at c.in_ok-above.ensures in
    let lower = rw c.in-Some-2.is at c.in_ok-below.ensures in
    none cut.above rest (above_of c.args.rows.now c.args.depth c.args.text.now c.args.lines.now cut rest c.read_end.new.lines (in_words ((66 ∷ []) ∷ line_words c.in-Some-2.below)) s lower.spelled)

pub returns : goal.returns
returns c =
    let read : SpellsOpening (length c.args.rows.now.box) c.args.text.now c.in-Some.opening = rw (← c.columns.ensures.count) (rw c.in-Some.is at c.in_ok-opening.ensures) in
    rw (lo_same c.in-Some.opening.lo read.lo, count_same c.in-Some.opening.count read.count)
    (cut_read c.args.rows.now c.args.depth c.args.text.now c.args.lines.now c.in-Some.opening c.in-Some-2.below c.in-Some-3.above c.read_end.new.lines c.read_end-2.new.lines read (rw c.in-Some-2.is at c.in_ok-below.ensures) (rw c.in-Some-3.is at c.in_ok-above.ensures))
