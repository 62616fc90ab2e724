use Rattle.std.proofs.Common.{◌∙◌, ◌++◌, ap, ℕ, List}
use Rattle.conf_system.specs.Seen.{body_seen, protocol_seen}
use Rattle.sys_build.specs.Names.{channels_of}
use Rattle.sys_build.proofs.Turns.{channels_turn}
use Rattle.sys_build.proofs.names.channels.Goals as goal

pub loop-def-preserved : goal.loop-def-preserved
loop-def-preserved c scope filters names =
    channels_turn (protocol_seen scope filters names) c.args.defs.now c.loop-def.def-index c.def-item.result c.loop-def.channels.items c.push_channels.new.channels.items c.loop-def-test.true c.def-item.is
    (c.loop-def.invariant scope filters names)
    (c.in_ok-push_channels.ensures scope filters names
    ∙ ap (λ (n : List ℕ). c.loop-def.channels.items ++ channels_of n (body_seen scope filters names c.def-item.result.body)) c.as_slice.ensures)
