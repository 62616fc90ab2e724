use Rattle.std.proofs.Common.{◌∙◌, sym}
use Rattle.conf_names.proofs.Places.{entry_is, entry_none}
use Rattle.conf_names.proofs.declared.table_number.Goals as goal

pub returns-in-Some : goal.returns-in-Some
returns-in-Some c = λ text. entry_is c.args.name.now c.args.declared.now.tables.entries c.in-Some.number (sym c.in-Some.is ∙ c.get_index_of.ensures.index)

pub returns-in-None : goal.returns-in-None
returns-in-None c = λ text. entry_none c.args.name.now c.args.declared.now.tables.entries c.len.result (sym c.in-None.is ∙ c.get_index_of.ensures.index) c.len.ensures.len
