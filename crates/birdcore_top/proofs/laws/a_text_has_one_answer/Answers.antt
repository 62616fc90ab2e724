use Rattle.birdcore_top.proofs.AnsweredOnce.{answers_agree}
use Rattle.birdcore_top.proofs.laws.a_text_has_one_answer.Goals as goal

pub returns : goal.returns
returns c =
    answers_agree c.a_text_has_one_answer.ensures c.conditions_ask_for_one_thing.ensures.condition
    c.conditions_ask_for_one_thing.ensures.condition_or_refused
