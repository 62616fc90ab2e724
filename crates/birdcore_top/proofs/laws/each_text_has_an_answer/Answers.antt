use Rattle.birdcore_top.proofs.AnsweredOnce.{answer_told}
use Rattle.birdcore_top.proofs.laws.each_text_has_an_answer.Goals as goal

pub returns : goal.returns
returns c =
    answer_told c.each_text_has_an_answer.ensures c.conditions_are_short.ensures.accepted c.conditions_are_short.ensures.refused
    c.each_text_is_a_condition_or_is_refused.ensures
