-- Pipes that are bridges (`IsBridgeOf`), as each pipe of a forest is, and that a direction keeps what
-- comes by its own pipe (`KeepsItsOwn`).
-- From: BIRD User's Guide, "Pipe"; own.
-- Example: of a chain of two pipes each is a bridge.
use Rattle.std.specs.Prelude.{◌≡◌, ◌≢◌, ℕ, Bool, not, Option, Some, None, option_and_then, slice_get}
use Rattle.core_machine.specs.Bridges.{comes_but_by}
use Rattle.core_machine.specs.Pipes.{passes}
use Rattle.core_setup.specs.Protocols.{rules_of}
use Rattle.core_setup.specs.Setup.{Body, IsPipe, IsSource, Pipe, Protocol, Setup}

abbrev pub pipe_in : Body → Option Pipe
pipe_in (IsSource p) = None
pipe_in (IsPipe p) = Some p

-- the pipe that the protocol of a number is
abbrev pub pipe_at : Setup → ℕ → Option Pipe
pipe_at setup number =
    option_and_then (λ (p : Protocol). pipe_in p.body) (slice_get setup.protocols number)

-- The pipe of this number leads from one side of the tables to the other, and no other pipe does.
pub record IsBridgeOf (setup : Setup) (number : ℕ) (p : Pipe) : Type 0 where
  pub side : ℕ → Bool
  pub across : side p.primary ≡ not (side p.peer)
  pub along :
      (i : ℕ) (q : Pipe) → i ≢ number → pipe_at setup i ≡ Some q
      → side q.primary ≡ side q.peer

-- Of the routes that come to the table that it reads, the direction d of a pipe passes a source's
-- exactly where they don't come there by the pipe's other direction e.
abbrev pub KeepsItsOwn : Setup → (d e num : ℕ) → Type 0
KeepsItsOwn setup d e num =
    passes (rules_of setup) d num
    ≡ comes_but_by (rules_of setup) e ((rules_of setup).reads d) num
