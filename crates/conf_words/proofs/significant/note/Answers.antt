use Rattle.conf_words.proofs.SpotSteps.{marks_pushed}
use Rattle.conf_words.proofs.significant.note.Goals as goal

pub returns-then-len-mark : goal.returns-then-len-mark
returns-then-len-mark c = λ text mark all. marks_pushed text c.args.marks.now.items c.push.new.self.items c.args.mark _ c.push.ensures.items mark all

pub returns-else-len-mark : goal.returns-else-len-mark
returns-else-len-mark c = λ text mark all. all
