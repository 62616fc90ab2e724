use Rattle.std.proofs.Common.{refl}
use Rattle.conf_check.proofs.Names.{key_joins}
use Rattle.conf_check.proofs.declare.declare.Goals as goal

pub returns-clause-others : goal.returns-clause-others
returns-clause-others c = key_joins c.args.scope.now.others.keys c.insert.new.self.keys c.in_ok-key.key c.args.name.now c.in_ok-key.ensures.items c.requires c.in_ok-insert.ensures.keys

pub returns-clause-stays : goal.returns-clause-stays
returns-clause-stays c = record { constants = refl; functions = refl }
