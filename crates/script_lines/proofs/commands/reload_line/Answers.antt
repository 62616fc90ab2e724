use Rattle.std.proofs.Common.{subst}
use Rattle.import_core.specs.declared.operation.Op.{Op}
use Rattle.text.specs.Lines.{behind_word, words_of}
use Rattle.script_lines.specs.Inside.{IsNamedLine}
use Rattle.script_lines.proofs.CommandParts.{no_reload, reload_acts}
use Rattle.script_lines.proofs.commands.reload_line.Goals as goal

pub returns-in-Some : goal.returns-in-Some
returns-in-Some c =
    let P : Op → Type 0 = λ op. IsNamedLine c.args.named.now c.in-Some.name.now op c.named_line.result in
    reload_acts (behind_word c.args.rest.now) c.args.named.now c.args.actor.now c.in-Some.name.now (words_of c.args.rest.now) c.in-Some.reload c.named_line.result c.in-Some.ensures (subst P c.op_of.ensures c.named_line.ensures)

pub returns-in-None : goal.returns-in-None
returns-in-None c = no_reload (behind_word c.args.rest.now) (words_of c.args.rest.now) c.in-None.ensures
