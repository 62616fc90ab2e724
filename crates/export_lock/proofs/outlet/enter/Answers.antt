use Rattle.std.proofs.Common.{sym, subst}
use Rattle.table_shared.specs.Answers.{MayMake}
use Rattle.export_lock.proofs.Putting.{may_put}
use Rattle.export_lock.proofs.outlet.enter.Goals as goal

pub change_of-requires : goal.change_of-requires
change_of-requires g c = c.requires.sources.all c.args.sending.now.key.num c.requires.source

pub update-requires-clause-change : goal.update-requires-clause-change
update-requires-clause-change g c = subst (λ z. MayMake c.args.port.now.1 z) (sym c.in_ok-change.ensures) (may_put c.args.sources.now c.args.sending.now c.args.port.now.1 c.requires.sources c.requires.source c.requires.family)
