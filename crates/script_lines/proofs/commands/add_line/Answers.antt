use Rattle.text.specs.Lines.{behind_word, words_of}
use Rattle.script_lines.proofs.commands.add_line.Goals as goal

pub returns : goal.returns
returns c = c.judge_add.ensures (behind_word c.args.rest.now) (words_of c.args.rest.now) c.in_ok-said.ensures
