-- Keys: what a channel sends values for. A channel of BGP has a key for each net, with the number 0
-- (`key_of`), a pipe's direction one for each net and source. Their order (`key_cmp`) is by net,
-- and then by source.
-- From: own; the order of nets is that of bits_ip.
-- Example: 10.0.0.0/8 of the source 2 stands before 10.0.0.0/8 of the source 3, and both stand
-- before 11.0.0.0/8 of the source 1.
use Rattle.std.specs.Prelude.{◌==◌, ◌&&◌, Bool}
use Rattle.std.specs.declared.cmp.Ordering.{Ordering}
use Rattle.bits_ip.specs.Prefix.{Net, same_net}
use Rattle.export_core.specs.declared.log.Key.{Key}
use Rattle.export_core.specs.contracts.log.KeyOrd.TheImpl as key_ord

abbrev pub key_cmp : Key → Key → Ordering
key_cmp = key_ord.ghosts.cmp

abbrev pub same_key : Key → Key → Bool
same_key a b = same_net a.net b.net && (a.num == b.num)

-- the key of a net where sources have none of their own
abbrev pub key_of : Net → Key
key_of net = record { net = net; num = 0 }
