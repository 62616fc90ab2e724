-- What the program owes (`Answered`), whatever its words, its files and its output are: eleven
-- promises over what a shelf and a sink tell before and after (`ShelfSeen`, `SinkSeen`).
-- Not modelled: what a shelf or a sink doesn't tell; when memory is refused, which may come in place
-- of any answer.
-- From: own.
-- Example: the table of statuses in the README, for each command.
use Rattle.std.specs.Prelude.{◌≡◌, ◌⊎◌, ◌↔◌, ℕ, Bool, false, List, Option, None, IsSomeAnd}
use Rattle.std.specs.Io.KnownBytes.{Appends, Keeps}
use Rattle.std.specs.List.{flat_map}
use Rattle.outside_io.specs.Faults.{Rose}
use Rattle.outside_io.specs.Whole.{WritesFront}
use Rattle.phases_out.specs.Written.{text_so_far}
use Rattle.report.specs.Report.{report_text, text_in}
use Rattle.birdcore_top.specs.Answer.{Answers, FindsLacked, HasCause, MissesInTurn, NoneFailed, SinkTakes, writes}
use Rattle.birdcore_top.specs.Command.{Command, form_of}
use Rattle.birdcore_top.specs.Outcome.{Held, Outcome, IsPossible, IsRequired}
use Rattle.birdcore_top.specs.Written.{IfAccepted, IfBegun, IfPlayed, accepted_text}
use Rattle.birdcore_top.specs.declared.status.Status.{Status}
use Rattle.birdcore_top.specs.declared.status.Status.TheVariants.{Ok, Usage, ReadFault, WriteFault, OutOfMemory}

-- what a shelf tells: the bytes under each name, where nothing is held, and how often calls have
-- failed under a name and in all
pub record ShelfSeen : Type 0 where
  pub held : Held
  pub lacks : List ℕ → Bool
  pub missed : List ℕ → ℕ
  pub faults : ℕ

abbrev pub shelf_of : Held → (List ℕ → Bool) → (List ℕ → ℕ) → ℕ → ShelfSeen
shelf_of held lacks missed faults = record {
  held = held;
  lacks = lacks;
  missed = missed;
  faults = faults;
}

-- what a sink tells: the bytes written so far, and how often calls have failed
pub record SinkSeen : Type 0 where
  pub contents : Option (List ℕ)
  pub faults : ℕ

abbrev pub sink_of : Option (List ℕ) → ℕ → SinkSeen
sink_of contents faults = record { contents = contents; faults = faults }

-- The command (none where the words are misused), the shelf and the sink before and after, and how
-- the program ended.
pub record Answered
    (command : Option Command) (shelf shelf_after : ShelfSeen) (sink sink_after : SinkSeen)
    (status : Status) : Type 0 where
  -- Misused words are told so, and no others.
  pub usage : (status ≡ Usage) ↔ (command ≡ None)
  -- What is said of the files is so, as far as they are told: a refusal, a limit or a report comes
  -- only of files that give it.
  pub cause : HasCause (IsPossible command shelf.held) status
  -- A read fault is answered only where a read failed,
  pub read : status ≡ ReadFault → Rose shelf.faults shelf_after.faults
  -- and only of a file that was to be read: the configuration, or the script once that is accepted.
  pub in_turn : status ≡ ReadFault
      → IsSomeAnd command (λ c. MissesInTurn c shelf.held shelf.missed shelf_after.missed)
  -- A write fault is answered only where the output failed.
  pub write : status ≡ WriteFault → Rose sink.faults sink_after.faults
  -- With the status 0 the report is written, of all phases and to its end, in the form that the
  -- words ask for: of a play the one to which the machine comes, of a run that of some legal phases,
  -- one for each of the script; of a check `ok` and a newline.
  pub report : status ≡ Ok
      → IfPlayed command shelf.held
      (λ reports.
      Appends sink.contents sink_after.contents (report_text (form_of command) reports))
      ⊎ IfAccepted command shelf.held
      (Appends sink.contents sink_after.contents accepted_text)
  -- After a write fault a front of the report is written; its last line, `end`, was begun only
  -- where the reports of all phases stand before it. Of a check it is a front of what that writes.
  pub front : status ≡ WriteFault
      → IfBegun command shelf.held
      (λ more reports. WritesFront sink.contents sink_after.contents
      (text_so_far (form_of command) more reports))
      ⊎ IfAccepted command shelf.held
      (WritesFront sink.contents sink_after.contents accepted_text)
  -- Where memory was refused, the reports of the first phases are written, each whole, or nothing.
  pub begun : status ≡ OutOfMemory
      → Keeps sink.contents sink_after.contents
      ⊎ IfBegun command shelf.held
      (λ more reports. Appends sink.contents sink_after.contents
      (flat_map (text_in (form_of command)) reports))
  -- With any other status nothing is written.
  pub nothing_else : writes status ≡ false → Keeps sink.contents sink_after.contents
  -- What the told files require is answered, or want of memory, unless one of the files that
  -- decide it failed, or the output where there is something to write.
  pub exact : (o : Outcome) → IsRequired command shelf.held o
      → NoneFailed command o shelf.missed shelf_after.missed
      → SinkTakes o sink.faults sink_after.faults
      → Answers o status ⊎ (status ≡ OutOfMemory)
  -- A file that the shelf tells it doesn't hold is never taken for an empty one.
  pub absent : FindsLacked command shelf.lacks shelf.held status
