use Rattle.std.proofs.Common.{sym, ap, subst, ◌∙◌, position, bytes_eq}
use Rattle.std.specs.List.{IsDistinct}
use Rattle.mps_model.specs.FaultRules.{is_among}
use Rattle.mps_model.proofs.OnLists.NamePlaceLaws.{list_any-map, position-map, distinct-map}
use Rattle.mps_model.proofs.tables.names.Names.find.Goals as goal

pub returns-clause-place : goal.returns-clause-place
returns-clause-place c =
    c.get_index_of.ensures.index ∙ sym (position-map (bytes_eq c.args.name.now) (λ key. key.items) c.self.inside.set.keys) ∙ ap (position (bytes_eq c.args.name.now)) c.self.view_is

pub returns-clause-distinct : goal.returns-clause-distinct
returns-clause-distinct c = subst (IsDistinct bytes_eq) c.self.view_is (distinct-map bytes_eq (λ key. key.items) c.self.inside.set.keys c.self.invariant)

pub returns-clause-found : goal.returns-clause-found
returns-clause-found c =
    c.get_index_of.ensures.found ∙ sym (list_any-map (bytes_eq c.args.name.now) (λ key. key.items) c.self.inside.set.keys)
    ∙ ap (λ names. is_among names c.args.name.now) c.self.view_is
