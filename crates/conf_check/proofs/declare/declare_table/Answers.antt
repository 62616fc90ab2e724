use Rattle.std.proofs.Common.{[]}
use Rattle.bits_ip.specs.declared.address.Family.{Family}
use Rattle.conf_names.specs.Seen.{known_of}
use Rattle.conf_check.proofs.Allowed.{is_free}
use Rattle.conf_check.proofs.Growing.{table_known}
use Rattle.conf_check.proofs.Names.{absent_in, entry_joins}
use Rattle.conf_check.proofs.declare.declare_table.Goals as goal

pub declare-requires : goal.declare-requires
declare-requires c = (is_free (known_of [] c.args.declared.now) c.args.name.now c.requires.free).others

pub returns-clause-known : goal.returns-clause-known
returns-clause-known c = λ text. table_known text c.args.declared.now c.declare.new.scope c.args.name.now c.args.family c.insert.new.self.entries c.in_ok-declare.ensures.stays c.in_ok-declare.ensures.others
    (entry_joins c.args.declared.now.tables.entries c.insert.new.self.entries c.in_ok-key.key c.args.family c.args.name.now c.in_ok-key.ensures.items
    (absent_in (λ (f : Family). f) c.args.name.now c.args.declared.now.tables.entries (c.requires.named c.args.name.now (is_free (known_of [] c.args.declared.now) c.args.name.now c.requires.free).others).0) c.in_ok-insert.ensures.entries)

pub returns-clause-stays : goal.returns-clause-stays
returns-clause-stays c = c.in_ok-declare.ensures.stays
