use Rattle.std.proofs.Common.{◌<◌, length}
use Rattle.shown_widths.proofs.columns.ends_of.Given as goal

abbrev pub invariant-loop-i : goal.invariant-loop-i
invariant-loop-i l = record {
  high : l.ends.high < length l.points;
  low : l.ends.low < length l.points;
}
