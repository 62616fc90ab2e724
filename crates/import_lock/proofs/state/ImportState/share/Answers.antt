use Rattle.std.proofs.Common.{◌∙◌, ap}
use Rattle.import_lock.proofs.Sharing.{seen_of}
use Rattle.import_lock.proofs.state.ImportState.share.Goals as goal

pub returns-clause-same : goal.returns-clause-same
returns-clause-same g c = ap (λ z. record {
  importer = c.args.self.now.importer;
  port = z;
  ops = c.args.self.now.ops;
  backlog = c.args.self.now.backlog;
  sent = c.args.self.now.sent;
  turns = c.args.self.now.turns;
  stamp = c.args.self.now.stamp;
  fault = c.args.self.now.fault;
}) c.share.ensures.same.0

pub returns-clause-seen : goal.returns-clause-seen
returns-clause-seen g c = λ key made room hand o rest is same.
    seen_of g.J.Judge.verdict key made c.args.self.now room hand c.share.new.pass o rest is same
    (c.share.ensures.same.1 ∙ c.requires) c.share.ensures.shared
