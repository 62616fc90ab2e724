use Rattle.birdcore_top.proofs.Outcomes.{SaysOnce, accepted_not_required, one_outcome}
use Rattle.birdcore_top.proofs.laws.files_have_one_outcome.Goals as goal

once : goal.After-a_text_has_one_answer → SaysOnce
once c = record {
  configurations_agree = c.texts_say_one_thing.ensures.accepted;
  accepted_or_refused = c.texts_say_one_thing.ensures.accepted_or_refused;
  refusals_agree = c.texts_say_one_thing.ensures.refused;
  answers_agree = c.a_text_has_one_answer.ensures;
}

pub returns-clause-accepted : goal.returns-clause-accepted
returns-clause-accepted c = accepted_not_required (once c)

pub returns-clause-one : goal.returns-clause-one
returns-clause-one c = one_outcome (once c)
