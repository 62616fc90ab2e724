use Rattle.filt_check.proofs.Gathered.{pushed}
use Rattle.filt_check.proofs.collect.push_declared.Goals as goal

pub returns : goal.returns
returns c = pushed c.args.text.now c.args.out.now.items c.push.new.self.items _ c.args.variable_type c.args.name.now c.in_ok-push.ensures.items c.bytes.ensures c.type_sort.ensures
