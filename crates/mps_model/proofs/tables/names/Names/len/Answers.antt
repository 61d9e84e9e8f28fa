use Rattle.std.proofs.Common.{subst, bytes_eq}
use Rattle.std.specs.List.{IsDistinct}
use Rattle.mps_model.proofs.OnLists.NamePlaceLaws.{distinct-map}
use Rattle.mps_model.proofs.tables.names.Names.len.Goals as goal

pub returns-clause-distinct : goal.returns-clause-distinct
returns-clause-distinct c = subst (IsDistinct bytes_eq) c.self.view_is (distinct-map bytes_eq (λ key. key.items) c.self.inside.set.keys c.self.invariant)
