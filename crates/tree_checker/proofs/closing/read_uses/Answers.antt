use Rattle.std.proofs.Common.{◌+◌, ◌<◌, List, length, sym, subst, arith}
use Rattle.std.proofs.lemmas.List.{take_more_set, length-set}
use Rattle.farkas_rows.specs.Ends.{inequality_of}
use Rattle.farkas_rows.specs.declared.line.Use.{Use}
use Rattle.tree_checker.proofs.LineLaws.{side_below}
use Rattle.tree_checker.proofs.Reading.{UsesSoFar, so_far-more, so_far-stop, so_far-all, uses_of_words, words_of_uses}
use Rattle.tree_checker.proofs.closing.read_uses.Goals as goal

pub returns-in_err-item : goal.returns-in_err-item
returns-in_err-item c =
    let rows = c.args.rows.now in
    let path = c.args.path.now in
    let end = inequality_of c.args.end.now in
    rw c.from_residual.ensures
    (λ uses h. so_far-stop rows path end c.args.words _ _ c.in-Some.word.now _ c.loop-word.least c.in-Some.ensures c.in_err-item.ensures c.loop-word.invariant.so_far uses (uses_of_words rows path end c.requires.limits c.requires.short 0 c.args.words uses (λ lt. omega arith) h))

pub bounds-items-count : goal.bounds-items-count
bounds-items-count c =
    omega (arith, c.loop-word.invariant.few, c.in_ok-item.ensures.1, side_below c.args.rows.now c.args.path.now (inequality_of c.args.end.now) c.in_ok-item.item.index c.in_ok-item.ensures.2, c.requires.short, c.requires.room)

pub loop-word-preserved : goal.loop-word-preserved
loop-word-preserved c =
    let rows = c.args.rows.now in
    let path = c.args.path.now in
    let end = inequality_of c.args.end.now in
    let item = c.in_ok-item.item in
    let room : c.loop-word.count < length c.loop-word.items = omega (arith, c.loop-word.invariant.few, c.in_ok-item.ensures.1, side_below rows path end item.index c.in_ok-item.ensures.2, c.requires.short, c.requires.room) in
    record {
      so_far = subst (λ (front : List Use). UsesSoFar rows path end c.args.words c.next.new.self front (item.index + 1)) (sym (take_more_set c.loop-word.items c.loop-word.count item room))
          (so_far-more rows path end c.args.words _ _ c.in-Some.word.now _ c.loop-word.least item c.in-Some.ensures c.in_ok-item.ensures c.loop-word.invariant.so_far);
      few = omega (arith, c.loop-word.invariant.few, c.in_ok-item.ensures.1);
      within = omega (arith, room, length-set {A = Use});
    }

pub returns : goal.returns
returns c =
    let rows = c.args.rows.now in
    let path = c.args.path.now in
    let end = inequality_of c.args.end.now in (
      omega (arith, c.loop-word.invariant.within),
      words_of_uses rows path end 0 c.args.words _ (so_far-all rows path end c.args.words _ _ c.loop-word.least c.in_default.ensures.0 c.loop-word.invariant.so_far),
    )
