use Rattle.std.proofs.Common.{◌≡◌}
use mathlib.Core.List.{IsPrefix}
use Rattle.jour.specs.Seats.{front, journal}
use Rattle.channel_turns.proofs.helping.pass_by.Given as goal

abbrev pub invariant-loop : goal.invariant-loop
invariant-loop l = (journal l.cursor.0 ≡ journal l.fn.cursor.0) × (l.cursor.1 ≡ l.fn.cursor.1) × IsPrefix (front l.fn.cursor.0.1) (front l.cursor.0.1)
