-- The sources of what is played, by number (`AreSourcesOf`): those of its protocols, of which each
-- tells the number of its protocol.
-- Not modelled: how sources are kept.
-- From: own.
-- Example: a pipe has a source too, which has no route.
use Rattle.std.specs.Prelude.{◌≡◌, ℕ, List, length, Some, slice_get}
use Rattle.attrs.specs.declared.route.Src.{Src}
use Rattle.core_setup.specs.Protocols.{protocol_at, src_at}
use Rattle.core_setup.specs.Setup.{Setup}

pub record AreSourcesOf (setup : Setup) (sources : List Src) : Type 0 where
  pub count : length sources ≡ length setup.protocols
  pub each :
      (number : ℕ) (src : Src) → slice_get sources number ≡ Some src
      → src ≡ src_at number (protocol_at setup number)
