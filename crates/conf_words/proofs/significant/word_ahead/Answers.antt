use Rattle.conf_words.proofs.SpotSteps.{never_stuck}
use Rattle.conf_words.proofs.significant.word_ahead.Goals as goal

pub returns-in-Err : goal.returns-in-Err
returns-in-Err c = never_stuck c.args.text.now c.args.spot c.in-Err.field-0 c.in-Err.ensures.bad c.requires.lexed
