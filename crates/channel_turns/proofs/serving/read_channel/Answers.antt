use Rattle.std.proofs.Common.{false}
use Rattle.export_lock.specs.Locks.{terms_of}
use Rattle.channel_turns.proofs.serving.read_channel.Goals as goal

pub unlock-requires-clause-value : goal.unlock-requires-clause-value
unlock-requires-clause-value g c = c.take_often-busy.ensures.goes false (terms_of g.P.Sends.exports c.args.channel.now.1) c.lock-held.ensures.value
