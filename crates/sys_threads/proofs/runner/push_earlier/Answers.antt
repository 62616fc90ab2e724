use Rattle.sys_threads.proofs.runner.push_earlier.Goals as goal

pub returns : goal.returns
returns g c = record {
  phase = record { lines = c.of.result; made = c.of-2.result };
  new_is = c.in_ok-push.ensures.items;
  lines_are = c.of.ensures;
  made_is = c.of-2.ensures;
}
