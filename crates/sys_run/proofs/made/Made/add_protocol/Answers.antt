use Rattle.std.proofs.Common.{refl, arith}
use Rattle.sys_run.proofs.made.Made.add_protocol.Goals as goal

pub returns-clause-protocols : goal.returns-clause-protocols
returns-clause-protocols g c = (
  record { body = c.args.body; from = c.args.from; upto = c.len.result; done = c.new.result },
  c.in_ok-push.ensures.items,
  refl,
  refl,
  omega (arith, c.len.ensures, c.args.self.now.channels.ok.0),
  c.new.ensures.items,
)
