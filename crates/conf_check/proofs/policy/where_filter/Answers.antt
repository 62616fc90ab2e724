use Rattle.conf_check.proofs.policy.where_filter.Goals as goal

pub returns : goal.returns
returns c = record {
  does = λ around attrs. c.in_ok-filter.ensures.meaning around attrs;
  constants = c.in_ok-filter.ensures.sees.0;
  functions = c.in_ok-filter.ensures.sees.1;
  steps = λ more. c.in_ok-filter.ensures.steps more;
}
