use Rattle.std.proofs.Common.{refl}
use Rattle.text.specs.Lines.{behind_words, words_of}
use Rattle.script_lines.proofs.LineParts.{no_mark}
use Rattle.script_lines.proofs.reading.work.Goals as goal

pub returns-in-None : goal.returns-in-None
returns-in-None c = (refl, no_mark (behind_words 2 c.args.rest.now) c.args.word.now (words_of c.args.rest.now) c.in-None.ensures c.requires.spoken)
