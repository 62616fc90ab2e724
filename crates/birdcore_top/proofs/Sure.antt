-- Where nothing fails, no fault stands in the way of an outcome.
use Rattle.std.proofs.Common.{ℕ, List, Option, Some, None, arith}
use Rattle.std.specs.Prelude.{slice_index_or}
use Rattle.outside_io.specs.Faults.{Rose}
use Rattle.birdcore_top.specs.Answer.{NoneFailed, SinkTakes}
use Rattle.birdcore_top.specs.Command.{Command}
use Rattle.birdcore_top.specs.Outcome.{Outcome, Misused, OverLimit, Refused, BadLine, Played, Accepted, files_read}

-- a counter that counts nothing hasn't risen
pub none_rose : Rose 0 0 → ⊥
none_rose rose = omega (arith, rose)

pub sink_takes : (o : Outcome) (before now : ℕ) → (Rose before now → ⊥) → SinkTakes o before now
sink_takes Misused before now none = tt
sink_takes (OverLimit word) before now none = tt
sink_takes (Refused l c k) before now none = tt
sink_takes (BadLine n k) before now none = tt
sink_takes (Played setup actors phases) before now none = none
sink_takes Accepted before now none = none

pub none_failed : (command : Option Command) (o : Outcome) (before now : List ℕ → ℕ) → ((name : List ℕ) → Rose (before name) (now name) → ⊥) → NoneFailed command o before now
none_failed None o before now none = tt
none_failed (Some c) o before now none = λ i d within. none (slice_index_or (files_read c o) i d)
