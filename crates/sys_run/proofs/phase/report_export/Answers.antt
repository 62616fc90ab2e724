use Rattle.sys_run.proofs.phase.report_export.Goals as goal

pub returns : goal.returns
returns g c = record {
  name = c.in_ok-name.ensures;
  pipe = c.is_pipe.ensures;
  values = c.in_ok-values.values;
  told = c.in_ok-values.ensures;
  standing = c.in_ok-standing.ensures;
}
