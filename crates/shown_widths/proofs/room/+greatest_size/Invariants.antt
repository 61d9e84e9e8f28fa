use Rattle.std.proofs.Common.{length}
use Rattle.shown_widths.proofs.room.+greatest_size.Given as goal

abbrev pub decreases-greatest_size : goal.decreases-greatest_size
decreases-greatest_size l = length l.entries.now
