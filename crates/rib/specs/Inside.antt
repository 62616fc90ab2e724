-- For private contracts alone: how a table is kept.
use Rattle.std.specs.Prelude.{◌≡◌, ◌<◌, ◌+◌, ◌^◌, IfSome, IsSomeAnd}
use Rattle.bits_ip.specs.Prefix.{Net}
use Rattle.rib.specs.declared.rib.Rib.TheInside.{Inside}
use Rattle.rib.specs.Entries.{AreNets, HasRoomAt, IsEmptyAt}

-- Only the net for which there is room may be there without routes.
pub record IsRib (rib : Inside) : Type 0 where
  pub nets : AreNets rib.family rib.nets rib.total
  pub counts : IfSome rib.room (λ key. rib.total + 1 < 2 ^ 64)
  pub room : IfSome rib.room (λ key. HasRoomAt key.0 rib.nets)
  pub empty : (net : Net) → IsEmptyAt net rib.nets → IsSomeAnd rib.room (λ key. key.0 ≡ net)
