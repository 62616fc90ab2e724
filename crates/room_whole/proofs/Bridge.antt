-- What is known of a phase and of what is chosen to be printed of it is all that is asked of both.
use Rattle.std.proofs.Common.{◌≡◌, ℕ, List}
use Rattle.attrs.specs.declared.journal.JEntry.{JEntry}
use Rattle.rec_words.specs.Entries.{Spells}
use Rattle.core_machine.specs.Legal.{IsLegal, join}
use Rattle.core_machine.specs.Lines.{Line, Turn}
use Rattle.core_setup.specs.Setup.{Exports}
use Rattle.import_lock.specs.Terms.{PhaseTerms}
use Rattle.room_open.specs.Standing.{Stands}
use Rattle.room_open.specs.declared.standing.Standing.{Standing}
use Rattle.room_ends.specs.After.{StandsAfter}
use Rattle.room_whole.specs.Past.{HasPast}
use Rattle.room_ends.specs.Prints.{Prints}
use Rattle.room_whole.proofs.Behind.{stands_behind}
use Rattle.room_whole.proofs.Chosen.{printed}
use Rattle.room_whole.proofs.Given.{Given, exports_of, lines_of, rules_in, setup_of}
use Rattle.room_whole.proofs.Pasts.{past_behind}
use Rattle.room_whole.proofs.Printing.{prints}

module _ {J P : Type 0} (g : Given J P) (behind : Standing J) (after : StandsAfter g.old g.made behind) where
  pub printed_is : ((words : List ℕ) (a b : JEntry) → Spells a words → Spells b words → a ≡ b) → Prints (setup_of g) (lines_of g) g.past (printed g) g.made
  printed_is one = prints g one

  module _ (first : ℕ → List Turn) (lines : List Line) (legal : IsLegal (rules_in g) first g.past lines (printed g)) where
    pub past_is : HasPast (setup_of g) (join g.past (printed g)) behind
    past_is = past_behind g behind after first lines legal

    pub behind_is : (next : PhaseTerms) (exports : ℕ → Exports) → next.setup ≡ setup_of g → exports ≡ exports_of g → next.past ≡ (join g.past (printed g)).ops → Stands g.verdict next exports behind
    behind_is next exports setup passes past = stands_behind g behind after first lines legal next exports setup passes past
