use Rattle.text.specs.Lines.{behind_word, words_of}
use Rattle.script_lines.proofs.CommandParts.{disable_acts}
use Rattle.script_lines.proofs.commands.disable_line.Goals as goal

pub returns-in-Some : goal.returns-in-Some
returns-in-Some c = disable_acts (behind_word c.args.rest.now) c.args.named.now c.args.actor.now c.in-Some.name.now (words_of c.args.rest.now) c.named_line.result c.in-Some.ensures c.named_line.ensures
