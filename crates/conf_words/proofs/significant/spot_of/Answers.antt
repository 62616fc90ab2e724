use Rattle.std.proofs.Common.{sym, ◌∙◌}
use Rattle.conf_words.proofs.SpotSteps.{more_ahead, sought_more, sought_here, sought_end}
use Rattle.conf_words.proofs.significant.spot_of.Goals as goal

pub loop-word-init : goal.loop-word-init
loop-word-init c = c.requires.mark.passed c.args.place c.requires.before

pub word_ahead-requires-clause-lexed : goal.word_ahead-requires-clause-lexed
word_ahead-requires-clause-lexed c = more_ahead c.args.text.now c.args.place c.loop-word.left c.loop-word.region c.loop-word.spot c.loop-word.invariant c.requires.lexed

pub loop-word-preserved : goal.loop-word-preserved
loop-word-preserved c =
    rw c.behind-region.ensures
    (sought_more c.args.text.now c.args.place c.loop-word.left c.in-Some-words_left.fewer c.loop-word.region c.loop-word.spot c.in-Some.end c.in-Some.word
    (rw c.is_significant.ensures at c.in-Some-words_left.ensures) c.in-Some.ensures c.loop-word.invariant)

pub returns-in_default-words_left-clause-tokens : goal.returns-in_default-words_left-clause-tokens
returns-in_default-words_left-clause-tokens c =
    sought_here c.args.text.now c.args.place c.loop-word.left c.loop-word.region c.loop-word.spot c.in-Some.end c.in-Some.word
    (sym c.is_significant.ensures ∙ c.in_default-words_left.ensures.0) c.in_default-words_left.ensures.1 c.in-Some.ensures c.loop-word.invariant

pub returns-clause-tokens : goal.returns-clause-tokens
returns-clause-tokens c = sought_end c.args.text.now c.args.place c.loop-word.left c.loop-word.region c.loop-word.spot c.in_default.ensures c.loop-word.invariant
