use Rattle.conf_tree.proofs.TextRefusals.{stuck_fault, stuck_within}
use Rattle.conf_tree.proofs.read.answer.Goals as goal

pub config_of_words-requires-clause-words : goal.config_of_words-requires-clause-words
config_of_words-requires-clause-words c = c.in-Ok.ensures.words

pub config_of_words-requires-clause-marks : goal.config_of_words-requires-clause-marks
config_of_words-requires-clause-marks c = c.in-Ok.ensures.marks

pub returns-in-Err-Bad-clause-fault : goal.returns-in-Err-Bad-clause-fault
returns-in-Err-Bad-clause-fault c = stuck_fault c.args.text.now c.in-Err-Bad.field-0 c.in-Err-Bad.at _ c.in-Err-Bad.field-0-is c.in-Err-Bad.at-is c.in-Err-Bad.ensures.bad

pub returns-in-Err-Bad-clause-within : goal.returns-in-Err-Bad-clause-within
returns-in-Err-Bad-clause-within c = stuck_within c.args.text.now c.in-Err-Bad.field-0 c.in-Err-Bad.at _ c.in-Err-Bad.field-0-is c.in-Err-Bad.at-is c.texts_are_refused_within.ensures c.in-Err-Bad.ensures.bad
