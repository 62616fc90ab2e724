use Rattle.filt_meaning.specs.Seen.{val_of_fixed}
use Rattle.conf_check.proofs.Names.{absent, entry_joins}
use Rattle.conf_check.proofs.declare.declare_constant.Goals as goal

pub returns-clause-constants : goal.returns-clause-constants
returns-clause-constants c = entry_joins c.args.scope.now.constants.entries c.insert.new.self.entries c.in_ok-key.key c.args.value c.args.name.now c.in_ok-key.ensures.items
    (absent val_of_fixed c.args.name.now c.args.scope.now.constants.entries c.requires) c.in_ok-insert.ensures.entries
