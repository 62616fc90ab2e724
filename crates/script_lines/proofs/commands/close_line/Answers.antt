use Rattle.text.specs.Lines.{behind_word, words_of}
use Rattle.script_lines.proofs.CommandParts.{close_acts}
use Rattle.script_lines.proofs.commands.close_line.Goals as goal

pub returns-then-is_end : goal.returns-then-is_end
returns-then-is_end c =
    close_acts (behind_word c.args.rest.now) c.args.named.now c.args.actor.now (words_of c.args.rest.now) c.session_line.result (c.is_end.ensures.0 c.if-is_end.true) c.session_line.ensures
