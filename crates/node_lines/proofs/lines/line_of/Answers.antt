use Rattle.std.proofs.Common.{◌≡◌, [], subst}
use Rattle.std.specs.Prelude.{Option}
use Rattle.farkas_rows.specs.Ends.{inequality_of}
use Rattle.farkas_rows.specs.LeastLine.{fractions, IsLeastLine}
use Rattle.farkas_rows.specs.declared.fracs.CutFrac.{CutFrac}
use Rattle.node_lines.specs.NodeLines.{cut_part}
use Rattle.node_lines.proofs.FractionLaws.{closes-of, some-combined}
use Rattle.node_lines.proofs.lines.line_of.Goals as goal

pub from_fracs-requires-clause-some : goal.from_fracs-requires-clause-some
from_fracs-requires-clause-some c = λ e.
    some-combined c.args.rows.now c.args.path.now (inequality_of c.args.end.now) (cut_part c.args.cut c.args.times.now.cut) c.args.times.now.items c.requires.refuted (subst (λ (cut : Option CutFrac). fractions cut c.args.times.now.items ≡ []) c.cut_part-cut.ensures e)

pub returns-clause-line : goal.returns-clause-line
returns-clause-line c =
    closes-of c.args.rows.now c.args.path.now (inequality_of c.args.end.now) c.args.cut c.args.times.now.cut c.args.times.now.items c.in_ok-from_fracs.field-0 c.requires.limits c.requires.path c.requires.end c.requires.refuted
    (subst (λ (cut : Option CutFrac). IsLeastLine cut c.args.times.now.items c.in_ok-from_fracs.field-0) c.cut_part-cut.ensures c.in_ok-from_fracs.ensures.line) c.in_ok-from_fracs.ensures.light
