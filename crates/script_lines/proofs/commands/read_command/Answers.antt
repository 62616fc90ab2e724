use Rattle.text.specs.Lines.{behind_words, words_of}
use Rattle.script_lines.proofs.CommandParts.{no_verb}
use Rattle.script_lines.proofs.commands.read_command.Goals as goal

pub returns-in_default-verb_of : goal.returns-in_default-verb_of
returns-in_default-verb_of c = no_verb (behind_words 2 c.args.words.now) (words_of c.args.words.now) (words_of c.in-Some.rest.now) c.in-Some.word.now c.in-Some.ensures.word c.in_default-verb_of.ensures
