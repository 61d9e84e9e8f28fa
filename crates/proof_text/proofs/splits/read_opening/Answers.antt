use Rattle.proof_text.specs.PrintedShapes.{spelled_split-shape}
use Rattle.proof_text.proofs.SplitReads.{opening_words, opening_read, lo_same, count_same}
use Rattle.proof_text.proofs.splits.read_opening.Goals as goal

pub returns-in_default : goal.returns-in_default
returns-in_default c = λ opening s. c.in_default.ensures (spelled_split-shape opening.mark opening.lo opening.count opening.form c.args.text.now s.spelled s.some)

pub returns-in_default-read_between : goal.returns-in_default-read_between
returns-in_default-read_between c = λ opening s.
    let words = opening_words c.args.columns c.requires c.args.text.now c.in-Some.words opening c.in-Some.ensures s in
    c.in_default-read_between.ensures opening.lo (words.0, s.lo.0, s.lo.1)

pub returns-in_default-read_between-2 : goal.returns-in_default-read_between-2
returns-in_default-read_between-2 c = λ opening s.
    let words = opening_words c.args.columns c.requires c.args.text.now c.in-Some.words opening c.in-Some.ensures s in
    c.in_default-read_between-2.ensures opening.count (words.1, s.count.0, s.count.1)

pub returns-in_default-2 : goal.returns-in_default-2
returns-in_default-2 c = λ opening s.
    let words = opening_words c.args.columns c.requires c.args.text.now c.in-Some.words opening c.in-Some.ensures s in
    let none = rw c.in_default-2.is at c.in_ok-form.ensures in
    none opening.form (record { spelled = words.2; dense = s.dense; factors = s.factors })

pub returns : goal.returns
returns c =
    let lo = c.in-Some-read_between.ensures in
    let count = c.in-Some-read_between-2.ensures in
    rw (lo_same c.in-Some-read_between.lo (lo.1, lo.2), count_same c.in-Some-read_between-2.count (count.1, count.2))
    (opening_read c.args.columns c.requires c.args.text.now c.in-Some.words c.in-Some-read_between.lo c.in-Some-read_between-2.count c.in-Some-2.form c.in-Some.ensures (lo.0, (lo.1, lo.2)) (count.0, (count.1, count.2)) (rw c.in-Some-2.is at c.in_ok-form.ensures))
