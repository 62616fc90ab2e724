-- What a protocol's port has made, and what its channel's marks say, as a phase owes it.
use Rattle.std.proofs.Common.{◌≡◌, ℕ, List, ◌++◌, length, reverse, Some, None, sym, ap, subst, ◌∙◌}
use Rattle.std.specs.Prelude.{Option, slice_get}
use Rattle.std.proofs.lemmas.List.{append_cancel_right}
use Rattle.atomic_table.specs.Seated.{TableId}
use Rattle.attrs.specs.declared.journal.JEntry.{JEntry}
use Rattle.attrs.specs.declared.judge.Verdict.{Verdict}
use Rattle.attrs.specs.declared.route.Change.{Change}
use Rattle.attrs.specs.declared.route.Route.{Route}
use Rattle.bits_ip.specs.Prefix.{Net}
use Rattle.export_core.specs.declared.log.LogItem.{LogItem}
use Rattle.import_core.specs.Importers.{Importing}
use Rattle.import_core.specs.declared.operation.Op.{Op}
use Rattle.jour_rule.specs.Journal.{receipts}
use Rattle.jour_rule.specs.declared.views.Entry.{Entry}
use Rattle.jour_rule.specs.declared.views.View.{View as Seat}
use Rattle.jour.specs.Seats.{front}
use Rattle.core_machine.specs.Legal.{Printed}
use Rattle.core_machine.specs.Lines.{Turn, ops_of}
use Rattle.core_machine.specs.Rules.{Rules}
use Rattle.core_machine.specs.Signals.{AreSignals, notices, without_sends}
use Rattle.table_shared.specs.Opening.{TableOpening}
use Rattle.table_shared.specs.Phases.{IsRetired as IsPortRetired}
use Rattle.phase_legal.specs.Changes.{AreMade, given}
use Rattle.phase_legal.specs.Shown.{HandView, Room}
use Rattle.phase_legal.specs.Stamps.{AreFrom, AreStamps, AreUpTo, HasPort, items_in, notices_from}
use Rattle.phase_legal.specs.Turns.{turns_told}
use Rattle.import_lock.specs.Calls.{IsRoomOf}
use Rattle.import_lock.specs.Terms.{ImportTerms, ops_told, past_ops, rules_in}
use Rattle.import_lock.specs.declared.state.OpRecord.{OpRecord}
use Rattle.export_lock.specs.Terms.{ExportTerms}
use Rattle.export_lock.specs.declared.state.ExportState.{ExportState}
use Rattle.phase_ends.specs.Leaves.{IsMarked, MakesAll}
use Rattle.phase_ends.proofs.Leaving.{sends_append}
use Rattle.phase_close.specs.Left.{IsChannelLeft, IsImportLeft}

module _ {J : Type 0} (verdict : J → Net → Route → Verdict) (room : Room) (history : ℕ → List Change) (logs : ℕ → List LogItem) (entries : ℕ → List Entry) (said : ℕ → List JEntry) (p : Printed) (key : ImportTerms) (of : IsRoomOf key.phase room) where
  pub makes_all : (hands : List HandView) (importer : Importing J) (ops : List OpRecord) (port : TableId × Seat TableOpening) (list : List Entry) (made : List (ℕ × Change)) → IsImportLeft verdict key hands importer ops port list made
      → slice_get room.ports key.number ≡ Some key.port_number → slice_get room.tables (room.rules.table key.number) ≡ Some key.port → p.ops key.number ≡ turns_told room.lines list → IsPortRetired key.port.1 (entries (room.rules.table key.number)) port
      → MakesAll room history logs entries said p key.number made
  makes_all hands importer ops port list made i port_at table_at told ended =
      let es = entries (room.rules.table key.number) in
      let n = key.number in
      record {
        port = key.port_number;
        table = key.port;
        port_is = port_at;
        table_is = table_at;
        says = subst (λ z. AreMade z made) (sym (ap (λ k. receipts key.port.1.start k es) (sym i.port_number) ∙ ended.receipts)) i.says;
        gave =
            ap (λ r. given r n (ops_of (room.past n)) (ops_of (p.ops n))) of.rules
            ∙ ap (λ (q : ℕ → List Turn). given (rules_in key) n (ops_of (q n)) (ops_of (p.ops n))) of.past
            ∙ ap (λ z. given (rules_in key) n (past_ops key) (ops_of z)) told
            ∙ ap (λ l. given (rules_in key) n (past_ops key) (ops_of (turns_told l list))) of.lines
            ∙ i.gave;
      }

  module _ (list : List Entry) (made : List (ℕ × Change)) (channel : ExportTerms) (state : ExportState J) (c : ℕ) (left : IsChannelLeft verdict key list made channel state) (owner : room.rules.owner c ≡ key.number) (target : room.rules.target c ≡ None)
      (told : p.ops (room.rules.owner c) ≡ turns_told room.lines list) (log : p.items c ++ logs c ≡ reverse state.exporter.log) (before : logs c ≡ channel.log) where
    items : items_in (front state.marks.1) ≡ without_sends (p.items c)
    items = let marks = items_in (front state.marks.1) in
        sym
        (append_cancel_right (without_sends (p.items c)) marks (without_sends (logs c))
        (sym (sends_append (p.items c) (logs c))
        ∙ ap without_sends log
        ∙ left.exports.marked
        ∙ ap (λ z. marks ++ without_sends z) (sym before)))

    past : past_ops key ≡ ops_of (room.past (room.rules.owner c))
    past = ap (λ (q : ℕ → List Turn). ops_of (q key.number)) (sym of.past) ∙ ap (λ n. ops_of (room.past n)) (sym owner)

    ops : ops_told key list ≡ ops_of (p.ops (room.rules.owner c))
    ops = ap (λ l. ops_of (turns_told l list)) (sym of.lines) ∙ ap ops_of (sym told)

    pub is_marked : (opening : TableOpening) → key.port.1.start ≡ length (history (room.rules.reads c)) → HasPort room.rules c (past_ops key) (history (room.rules.reads c)) opening (entries (room.rules.reads c)) (said (room.rules.reads c)) made
        → AreUpTo (length (history (room.rules.reads c))) (without_sends (logs c)) → AreSignals room.rules (history (room.rules.reads c)) c (without_sends (logs c)) (notices room.rules (room.rules.owner c) (past_ops key)) → IsMarked room history logs entries said p c made
    is_marked opening start port within signals = record {
      opening = opening;
      port = λ _. subst (λ z. HasPort room.rules c z (history (room.rules.reads c)) opening (entries (room.rules.reads c)) (said (room.rules.reads c)) made) past port;
      behind = subst (λ (z : ℕ × List LogItem). AreFrom z.0 z.1) (λ j. (start j, items j)) left.are.behind;
      stamps =
          subst (λ (z : Rules × ℕ × List Op × Option ℕ × List LogItem × List Op). AreStamps z.0 z.1 z.2 z.3 made z.4 (notices_from z.0 z.1 z.2 z.5))
          (λ j. (sym of.rules j, sym owner j, past j, sym target j, items j, ops j)) left.are.are;
      within = within;
      before = subst (λ z. AreSignals room.rules (history (room.rules.reads c)) c (without_sends (logs c)) (notices room.rules (room.rules.owner c) z)) past signals;
    }
