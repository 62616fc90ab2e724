use Rattle.filt_types.specs.Seen.{signature_of}
use Rattle.conf_check.proofs.Names.{absent, entry_joins}
use Rattle.conf_check.proofs.declare.declare_function.Goals as goal

pub returns-clause-functions : goal.returns-clause-functions
returns-clause-functions c = entry_joins c.args.scope.now.functions.entries c.insert.new.self.entries c.in_ok-key.key c.args.function c.args.name.now c.in_ok-key.ensures.items
    (absent signature_of c.args.name.now c.args.scope.now.functions.entries c.requires) c.in_ok-insert.ensures.entries
