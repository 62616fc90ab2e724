use Rattle.std.proofs.Common.{◌≡◌, ◌+◌, ◌≤◌, ℕ, List, length, map, take}
use Rattle.bits_ip.specs.declared.address.Family.{Family}
use Rattle.core_setup.specs.Channels.{channels_from}
use Rattle.sys_run.specs.Parts.{protocol_seen}
use Rattle.room_first.proofs.counts.count_channels.Given as goal

abbrev pub invariant-loop-protocol : goal.invariant-loop-protocol
invariant-loop-protocol g l =
    (l.count ≤ l.protocol-index + l.protocol-index)
    × ((tables : List (List ℕ × Family)) → l.count ≡ length (channels_from tables 0 (map (protocol_seen g.J.Judge.verdict) (take l.protocol-index l.protocols))))
