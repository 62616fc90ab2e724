use Rattle.text.specs.Lines.{behind_word, words_of}
use Rattle.script_lines.proofs.CommandParts.{open_acts}
use Rattle.script_lines.proofs.commands.open_line.Goals as goal

pub returns-in-Some : goal.returns-in-Some
returns-in-Some c = open_acts (behind_word c.args.rest.now) c.args.named.now c.args.actor.now (words_of c.args.rest.now) c.in-Some.id c.session_line.result c.in-Some.ensures c.session_line.ensures
