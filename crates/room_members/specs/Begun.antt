-- A room as a phase begins (`IsBegun`): its members, and by actor a hand of each of them, which has
-- seen nothing yet.
-- From: own.
-- Example: with two actors a member has three hands, of which the last one is for starts.
use Rattle.std.specs.Prelude.{ℕ}
use Rattle.core_machine.specs.Rules.{Rules}
use Rattle.core_setup.specs.Setup.{Exports}
use Rattle.import_lock.specs.Terms.{PhaseTerms}
use Rattle.phase_room.specs.Begun.{IsNewHand}
use Rattle.phase_room.specs.Opened.{AreOfEach}
use Rattle.room_members.specs.Members.{IsRoom, room_seen}
use Rattle.room_members.specs.declared.begun.Begun.{Begun}

module _ {J P : Type 0} (terms : P → PhaseTerms) (exports : P → ℕ → Exports) (rules : P → Rules) where
  pub record IsBegun (begun : Begun J P) : Type 0 where
    pub room : IsRoom terms exports rules begun.room
    pub hands : AreOfEach IsNewHand (room_seen terms begun.room).turns begun.hands.items
