use Rattle.std.proofs.Common.{◌≤◌, take, length}
use Rattle.farkas_rows.specs.Ends.{inequality_of}
use Rattle.tree_checker.proofs.Reading.{UsesSoFar}
use Rattle.tree_checker.proofs.closing.read_uses.Given as goal

abbrev pub invariant-loop-word : goal.invariant-loop-word
invariant-loop-word l = record {
  so_far : UsesSoFar l.rows l.path (inequality_of l.end) l.fn.words l.words (take l.count l.items) l.least;
  few : l.count ≤ l.least;
  within : l.count ≤ length l.items;
}

abbrev pub decreases-loop-word : goal.decreases-loop-word
decreases-loop-word l = length l.words
