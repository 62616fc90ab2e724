-- What threads leave of a phase (`HasLeft`), once all have returned, locks are open, tables closed
-- and channels settled: what each protocol's port has made of its table (`MakesAll`), or that it
-- made nothing (`IsIdle`); what each direction of a pipe has entered (`HasEntered`); the marks of
-- each channel under its protocol's stamp (`IsMarked`); and what each actor was told (`WasTold`).
-- Lists of entries, records, receipts and of what was made are in their order; all others are read
-- backwards, but for the room's lines.
-- Not modelled: phases that were cut off.
-- From: own.
-- Example: a phase of one `add` leaves one turn, one entry that p1's port made, and no mark.
use Rattle.std.specs.Prelude.{◌≡◌, ◌⊎◌, ℕ, ◌≤◌, ◌<◌, List, [], ◌++◌, length, map, reverse, Some}
use Rattle.std.specs.Prelude.{None, IsSome, slice_get}
use mathlib.Core.List.{IsPrefix}
use Rattle.atomic_table.specs.Seated.{TableId}
use Rattle.attrs.specs.declared.journal.JEntry.{JEntry}
use Rattle.attrs.specs.declared.route.Change.{Change}
use Rattle.bits_ip.specs.Prefix.{Net}
use Rattle.export_core.specs.Logs.{Follows, Settled, stretch}
use Rattle.export_core.specs.declared.log.LogItem.{LogItem}
use Rattle.import_core.specs.declared.operation.Op.{Op}
use Rattle.jour_rule.specs.Journal.{receipts}
use Rattle.jour_rule.specs.declared.views.Entry.{Entry}
use Rattle.jour_rule.specs.declared.views.Terms.{Terms}
use Rattle.jour.specs.Seats.{front}
use Rattle.core_machine.specs.Enters.{enters}
use Rattle.core_machine.specs.Histories.{AreReal, content_of, of_those, own}
use Rattle.core_machine.specs.Legal.{Joined, Printed, join}
use Rattle.core_machine.specs.Lines.{ops_of}
use Rattle.core_machine.specs.Pipes.{course_of, passes}
use Rattle.core_machine.specs.Replies.{questions, replies_to}
use Rattle.core_machine.specs.Signals.{AreSignals, notices, without_sends}
use Rattle.table_shared.specs.Opening.{TableOpening}
use Rattle.table_shared.specs.Records.{at_first, change_of}
use Rattle.phase_legal.specs.Changes.{AreMade, IsAlone, changes_in, given}
use Rattle.phase_legal.specs.Ended.{HasEnded}
use Rattle.phase_legal.specs.Shown.{AreTold, HandView, PassView, Room}
use Rattle.phase_legal.specs.Stamps.{AreFrom, AreStamps, AreUpTo, HasPort, notices_from}
use Rattle.phase_legal.specs.Turns.{AreOfActors, AreTurnsOf, turns_told}
use Rattle.phase_ends.specs.Ends.{AreShown}

-- all before the phase: the histories of tables, the turns of protocols and the logs of channels
abbrev pub past_in : Room → (ℕ → List Change) → (ℕ → List LogItem) → Joined
past_in room history logs = record { history = history; ops = room.past; logs = logs }

module _ (room : Room) (history : ℕ → List Change) (logs : ℕ → List LogItem)
    (entries : ℕ → List Entry) (said : ℕ → List JEntry) (p : Printed) where
  -- all phases with this one
  abbrev pub joined : Joined
  joined = join (past_in room history logs) p

  -- a protocol's operations before the phase
  abbrev pub past_ops : ℕ → List Op
  past_ops i = ops_of (room.past i)

  -- the protocol has a port of its table, which made what its operations gave
  pub record MakesAll (i : ℕ) (made : List (ℕ × Change)) : Type 0 where
    pub port : ℕ
    pub table : TableId × Terms TableOpening
    pub port_is : slice_get room.ports i ≡ Some port
    pub table_is : slice_get room.tables (room.rules.table i) ≡ Some table
    pub says : AreMade (receipts table.1.start port (entries (room.rules.table i))) made
    pub gave :
        given room.rules i (past_ops i) (ops_of (p.ops i)) ≡ reverse (changes_in made)

  -- its operations gave nothing, and its table has no change of it
  pub record IsIdle (i : ℕ) : Type 0 where
    pub none : own i (reverse (map change_of (said (room.rules.table i)))) ≡ []
    pub gave : given room.rules i (past_ops i) (ops_of (p.ops i)) ≡ []

  -- The direction's port alone has the sources that it passes, and has made what its log says;
  -- before the phase the table had of these what the log had said.
  pub record HasEntered (d table : ℕ) : Type 0 where
    pub port : ℕ
    pub terms : TableId × Terms TableOpening
    pub terms_is : slice_get room.tables table ≡ Some terms
    pub alone : IsAlone (passes room.rules d) terms.1.opening port
    pub made : List (ℕ × Change)
    pub says : AreMade (receipts terms.1.start port (entries table)) made
    pub log :
        reverse (changes_in made) ++ enters room.rules (logs d)
        ≡ enters room.rules (p.items d ++ logs d)
    pub before :
        of_those (passes room.rules d) (history table) ≡ enters room.rules (logs d)

  -- Marks of the phase are those of the protocol's stamp, and those of before are signals of the
  -- operations before. `made` is what the protocol's port has made.
  pub record IsMarked (c : ℕ) (made : List (ℕ × Change)) : Type 0 where
    pub opening : TableOpening
    pub port :
        room.rules.target c ≡ None
        → HasPort room.rules c (past_ops (room.rules.owner c))
        (history (room.rules.reads c)) opening (entries (room.rules.reads c))
        (said (room.rules.reads c)) made
    pub behind : AreFrom (length (history (room.rules.reads c))) (without_sends (p.items c))
    pub stamps :
        AreStamps room.rules (room.rules.owner c) (past_ops (room.rules.owner c))
        (room.rules.target c) made (without_sends (p.items c))
        (notices_from room.rules (room.rules.owner c) (past_ops (room.rules.owner c))
        (ops_of (p.ops (room.rules.owner c))))
    pub within : AreUpTo (length (history (room.rules.reads c))) (without_sends (logs c))
    pub before :
        AreSignals room.rules (history (room.rules.reads c)) c (without_sends (logs c))
        (notices room.rules (room.rules.owner c) (past_ops (room.rules.owner c)))

  -- an actor's hands and passes have seen fronts of what there is, and it was told what they had
  -- seen
  pub record WasTold (turns : ℕ → List Entry) (actor : ℕ) : Type 0 where
    pub hands : List HandView
    pub passes : List PassView
    pub turns_seen :
        (i : ℕ) (hand : HandView) → slice_get hands i ≡ Some hand
        → IsPrefix (front hand.1) (turns i)
    pub tables_seen :
        (t : ℕ) (pass : PassView) → slice_get passes t ≡ Some pass
        → IsPrefix (front pass.1) (entries t)
    pub told :
        AreTold room actor hands passes (questions actor (reverse room.lines))
        (replies_to actor p.replies)

  -- By protocol its turns, of which `begun` are starts, and what its port has made; by table its
  -- entries and their records.
  pub record HasLeft
      (starter : ℕ) (begun rest : ℕ → List Entry) (made : ℕ → List (ℕ × Change)) : Type 0 where
    pub ended : HasEnded room starter begun rest entries said history
    pub actors : AreOfActors starter room.lines
    pub turned :
        (i actor : ℕ) → actor < starter
        → AreTurnsOf actor i (reverse room.lines)
        (receipts (ended.turns i).start actor (begun i ++ rest i))
    pub ops_are : (i : ℕ) → p.ops i ≡ turns_told room.lines (begun i ++ rest i)
    -- tables
    pub entries_are : (t : ℕ) → p.entries t ≡ reverse (map change_of (said t))
    pub opening :
        (t : ℕ) (table : TableId × Terms TableOpening) → slice_get room.tables t ≡ Some table
        → (net : Net) (num : ℕ) → at_first table.1.opening net num
        ≡ content_of (history t) net num
    pub real : (t : ℕ) → AreReal (history t)
    pub no_more : (t : ℕ) → slice_get room.tables t ≡ None → said t ≡ []
    pub strangers :
        (t i : ℕ) → room.rules.hops t i ≡ None
        → (own i (reverse (map change_of (said t))) ≡ []) × (own i (history t) ≡ [])
    -- protocols and channels
    pub makes : (i : ℕ) → MakesAll i (made i) ⊎ IsIdle i
    pub entered : (d table : ℕ) → room.rules.target d ≡ Some table → HasEntered d table
    pub marked : (c : ℕ) → IsMarked c (made (room.rules.owner c))
    pub follows :
        (c : ℕ) → Follows (room.rules.value c)
        (course_of room.rules c (joined.history (room.rules.reads c))) (joined.logs c)
    pub settled :
        (c : ℕ) → IsSome (stretch (joined.logs c))
        → Settled (room.rules.value c)
        (course_of room.rules c (joined.history (room.rules.reads c))) (joined.logs c)
    -- actors, and what is printed of the state
    pub told : (actor : ℕ) → actor < starter → WasTold (λ i. begun i ++ rest i) actor
    pub nobody :
        (actor : ℕ) → starter ≤ actor
        → (questions actor (reverse room.lines) ≡ []) × (replies_to actor p.replies ≡ [])
    pub shown : AreShown room.rules joined p.shown
