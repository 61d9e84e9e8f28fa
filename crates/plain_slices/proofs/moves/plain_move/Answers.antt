use Rattle.std.proofs.Common.{◌≡◌, ap, ◌∙◌}
use Rattle.whole_rows.specs.Ends.{lows}
use Rattle.plain_slices.proofs.ShutLaws.{meetable-open}
use Rattle.plain_slices.proofs.SplitLaws.{plain-split, improves-lows, fixed-columns}
use Rattle.plain_slices.proofs.moves.plain_move.Goals as goal

pub returns-in-Some : goal.returns-in-Some
returns-in-Some c =
    let rows = c.in_ok-node.ensures.rows in
    let path = c.in_ok-node.ensures.path in
    (rw (c.in-Some.is, rows, path) at c.in_ok-line.ensures.shut, rw (c.in-Some.is, rows, path) at c.in_ok-line.ensures.closes)

pub returns-in-Some-first_free : goal.returns-in-Some-first_free
returns-in-Some-first_free c =
    let node = c.in_ok-node.node in
    let rows = c.in_ok-node.ensures.rows in
    let path = c.in_ok-node.ensures.path in
    let found = c.in-Some-first_free.ensures in
    let sources = c.deref.ensures.value in
    let cut = c.in_ok-cut-in-Some-first_free.ensures in
    let meetable = rw (c.in_default.is, rows, path) at c.in_ok-line.ensures.none in
    (plain-split c.args.rows.now c.args.path.now c.args.best node.bounds.items node.sources.items c.in-Some-first_free.column c.in_ok-cut-in-Some-first_free.cut c.in_ok-node.ensures.limits c.requires.forms c.in_ok-node.ensures.narrowed meetable (rw sources at found.within) (rw sources at found.free) (rw sources at found.first) (rw rows at cut.form) (rw rows at cut.lo) (rw rows at cut.last) cut.mark, rw (rows, path) at (cut.splits c.args.best))

pub returns : goal.returns
returns c =
    let node = c.in_ok-node.node in
    let rows = c.in_ok-node.ensures.rows in
    let path = c.in_ok-node.ensures.path in
    let sources = c.deref.ensures.value in
    let fixed = rw sources at c.in-None.ensures.none in
    let meetable = rw (c.in_default.is, rows, path) at c.in_ok-line.ensures.none in
    let point : c.of-in-None.result ≡ lows node.bounds.items = c.of-in-None.ensures ∙ c.in_ok-values-in-None.ensures ∙ ap lows c.deref-in-None.ensures.value in (
      meetable-open c.args.rows.now c.args.path.now c.args.best node.bounds.items node.sources.items c.in_ok-node.ensures.limits c.requires.forms c.in_ok-node.ensures.narrowed meetable,
      fixed-columns c.args.rows.now c.args.path.now node.bounds.items node.sources.items c.in_ok-node.ensures.narrowed fixed,
      rw point (improves-lows c.args.rows.now c.args.path.now c.args.best node.bounds.items node.sources.items c.in_ok-node.ensures.narrowed meetable fixed),
    )
