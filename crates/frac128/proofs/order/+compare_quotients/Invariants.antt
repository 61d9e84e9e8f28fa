use Rattle.std.proofs.Common.{◌+◌}
use Rattle.frac128.proofs.order.+compare_quotients.Given as goal

abbrev pub decreases-compare_quotients : goal.decreases-compare_quotients
decreases-compare_quotients l = l.b + l.d
