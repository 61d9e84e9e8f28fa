use Rattle.mps_model.proofs.OnLists.NamePlaceLaws.{key_added}
use Rattle.mps_model.proofs.tables.names.Names.add.Goals as goal

pub returns-clause-ok : goal.returns-clause-ok
returns-clause-ok c =
    key_added (λ key. key.items) c.self.inside.set.keys c.insert.new.self.keys c.in_ok-name.name c.args.self.now c.args.name.now c.in_ok-insert.ensures.keys
    c.self.view_is c.in_ok-name.ensures.items c.requires
