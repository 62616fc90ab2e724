use Rattle.std.proofs.Common.{None, ◌∙◌}
use Rattle.import_lock.proofs.Beginning.{begun}
use Rattle.import_lock.proofs.state.ImportState.begin.Goals as goal

pub returns : goal.returns
returns g c = λ key source terms b. begun g.J.Judge.verdict key source
    (record {
      importer = c.args.importer;
      port = c.args.port;
      ops = c.new.result;
      backlog = c.from_vec.result;
      sent = 0;
      turns = c.args.turns;
      stamp = c.args.stamp;
      fault = None;
    })
    terms b c.new.ensures.items (c.from_vec.ensures ∙ c.new-2.ensures.items)
