use Rattle.std.proofs.Common.{[]}
use Rattle.conf_names.specs.Seen.{known_of}
use Rattle.conf_check.proofs.Allowed.{is_free}
use Rattle.conf_check.proofs.Growing.{filter_known}
use Rattle.conf_check.proofs.Names.{key_joins}
use Rattle.conf_check.proofs.declare.declare_filter.Goals as goal

pub declare-requires : goal.declare-requires
declare-requires c = (is_free (known_of [] c.args.declared.now) c.args.name.now c.requires.free).others

pub returns-clause-known : goal.returns-clause-known
returns-clause-known c = λ text. filter_known text c.args.declared.now c.declare.new.scope c.args.name.now c.insert.new.self.keys c.in_ok-declare.ensures.stays c.in_ok-declare.ensures.others
    (key_joins c.args.declared.now.filters.keys c.insert.new.self.keys c.in_ok-key.key c.args.name.now c.in_ok-key.ensures.items
    (c.requires.named c.args.name.now (is_free (known_of [] c.args.declared.now) c.args.name.now c.requires.free).others).1 c.in_ok-insert.ensures.keys)

pub returns-clause-stays : goal.returns-clause-stays
returns-clause-stays c = c.in_ok-declare.ensures.stays
