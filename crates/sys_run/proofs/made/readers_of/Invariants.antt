use Rattle.std.proofs.Common.{◌≡◌, length, take}
use Rattle.sys_run.specs.Made.{AreLists, readers_in}
use Rattle.sys_run.proofs.made.readers_of.Given as goal

abbrev pub invariant-loop-channel : goal.invariant-loop-channel
invariant-loop-channel g l =
    (length l.readers.items ≡ l.tables) × (l.number ≡ l.channel-index)
    × AreLists l.readers.items (readers_in (take l.channel-index l.channels))
