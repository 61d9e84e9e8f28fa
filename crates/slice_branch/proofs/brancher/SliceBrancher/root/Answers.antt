use Rattle.std.proofs.Common.{[]}
use Rattle.std.specs.Prelude.{None}
use Rattle.slice_branch.specs.Places.{IsRootPlace, StandsFor}
use Rattle.slice_branch.proofs.PlaceLaws.{on_ok, root_stands}
use Rattle.slice_branch.proofs.brancher.SliceBrancher.root.Goals as goal

pub returns : goal.returns
returns c = on_ok (IsRootPlace c.args.self.now.rows.now) (λ place. StandsFor c.args.self.now.rows.now place [] None) c.root_place.result (root_stands c.args.self.now.rows.now c.columns-columns.ensures.limits) c.root_place.ensures
