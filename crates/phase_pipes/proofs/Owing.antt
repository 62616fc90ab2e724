-- What a pipe's direction has entered and marked, as a phase owes it.
use Rattle.std.proofs.Common.{◌≡◌, ℕ, List, [], ◌∷◌, ◌++◌, length, reverse, Some, refl, sym, ap, subst, ◌∙◌}
use Rattle.std.specs.Prelude.{Option, None, slice_get}
use Rattle.std.proofs.lemmas.List.{append_cancel_right}
use Rattle.atomic_table.specs.Seated.{TableId}
use Rattle.attrs.specs.declared.journal.JEntry.{JEntry}
use Rattle.attrs.specs.declared.judge.Verdict.{Verdict}
use Rattle.attrs.specs.declared.route.Change.{Change}
use Rattle.attrs.specs.declared.route.Route.{Route}
use Rattle.bits_ip.specs.Prefix.{Net}
use Rattle.core_machine.specs.Enters.{enters, withdrawn}
use Rattle.core_machine.specs.Histories.{of_those}
use Rattle.core_machine.specs.Legal.{Printed}
use Rattle.core_machine.specs.Lines.{Turn, ops_of}
use Rattle.core_machine.specs.Pipes.{passes}
use Rattle.core_machine.specs.Rules.{Rules}
use Rattle.core_machine.specs.Signals.{AreSignals, Notice, notices, without_sends}
use Rattle.core_setup.proofs.Numbered.{none_some}
use Rattle.export_core.specs.declared.log.LogItem.{LogItem}
use Rattle.export_core.specs.declared.log.LogItem.TheVariants.{Up, Down, Reload, Sent}
use Rattle.export_core.specs.declared.log.Key.{Key}
use Rattle.export_lock.specs.Lanes.{LaneTerms}
use Rattle.export_lock.specs.declared.lane.PipeLane.{PipeLane}
use Rattle.import_core.specs.declared.operation.Op.{Op}
use Rattle.import_lock.specs.Calls.{IsRoomOf}
use Rattle.import_lock.specs.Kept.{items_of_stamp}
use Rattle.jour_rule.specs.Journal.{receipts}
use Rattle.jour_rule.specs.declared.views.Entry.{Entry}
use Rattle.jour_rule.specs.declared.views.Terms.{Terms}
use Rattle.jour_rule.specs.declared.views.View.{View as Seat}
use Rattle.phase_legal.specs.Changes.{AreMade, IsAlone, changes_in}
use Rattle.phase_legal.specs.Shown.{Room}
use Rattle.phase_legal.specs.Stamps.{AreFrom, AreStamps, AreUpTo, IsStamp, notices_from}
use Rattle.phase_ends.specs.Leaves.{HasEntered, IsMarked}
use Rattle.phase_ends.proofs.Leaving.{sends_append}
use Rattle.pipe_lock.specs.Terms.{DirectionTerms, PipeTerms, past_ops, rules_in}
use Rattle.table_shared.specs.Opening.{TableOpening}
use Rattle.phase_pipes.specs.Left.{IsDirectionLeft}
use Rattle.phase_pipes.specs.Sessions.{IsDirectionIn}

-- ---- what a port makes doesn't matter to the marks of a direction

module _ (rules : Rules) (i : ℕ) (past : List Op) (table : ℕ) (made others : List (ℕ × Change)) where
  one_stamp : (x : LogItem) (n : Notice) → IsStamp rules i past (Some table) made x n → IsStamp rules i past (Some table) others x n
  one_stamp (Up h) n is = is
  one_stamp Down n is = is
  one_stamp Reload n is = is
  one_stamp (Sent x) n is = is

  any_made : (items : List LogItem) (ns : List Notice) → AreStamps rules i past (Some table) made items ns → AreStamps rules i past (Some table) others items ns
  any_made [] [] are = tt
  any_made [] (n ∷ ns) are = absurd are
  any_made (x ∷ items) [] are = absurd are
  any_made (x ∷ items) (n ∷ ns) are = (one_stamp x n are.0, any_made items ns are.1)

module _ {J : Type 0} (verdict : J → Net → Route → Verdict) (room : Room) (history : ℕ → List Change) (logs : ℕ → List LogItem) (entries : ℕ → List Entry) (said : ℕ → List JEntry) (p : Printed) (key : PipeTerms) (of : IsRoomOf key.phase room)
    (reads writes : ℕ) (direction : DirectionTerms) (lane : LaneTerms) (d : IsDirectionIn key room.tables reads writes direction lane) (ops : List Op) (stamp : TableId × Seat ℕ) (state : PipeLane J) (left : IsDirectionLeft verdict key direction lane ops stamp (entries writes) state)
    (log : p.items direction.number ++ logs direction.number ≡ reverse state.state.exporter.log) (before : logs direction.number ≡ lane.exports.log) where
  same_rules : lane.rules ≡ room.rules
  same_rules = d.rules_are ∙ sym of.rules

  nothing_withdrawn : (done : List Key) (h : List Change) → done ≡ [] → withdrawn done h ≡ h
  nothing_withdrawn done h e = ap (λ ks. withdrawn ks h) e

  pub has_entered : of_those (passes room.rules direction.number) (history writes) ≡ enters room.rules (logs direction.number) → HasEntered room history logs entries said p direction.number writes
  has_entered stood =
      let o = left.lane_is.1 in
      record {
        port = lane.port_number;
        terms = lane.target;
        terms_is = d.written;
        alone =
            subst (λ r. IsAlone (passes r direction.number) lane.target.1.opening lane.port_number) same_rules
            (subst (λ n. IsAlone (passes lane.rules n) lane.target.1.opening lane.port_number) d.number_is o.terms.alone);
        made = o.made;
        says = subst (λ z. AreMade z o.made) (sym (ap (λ k. receipts lane.target.1.start k (entries writes)) (sym o.port_number) ∙ left.retired.receipts)) o.says;
        log =
            ap (λ r. reverse (changes_in o.made) ++ enters r (logs direction.number)) (sym same_rules)
            ∙ ap (λ l. reverse (changes_in o.made) ++ enters lane.rules l) before
            ∙ o.entered
            ∙ nothing_withdrawn left.lane_is.0 (enters lane.rules (reverse state.state.exporter.log)) (o.direction.none left.rest)
            ∙ ap (enters lane.rules) (sym log)
            ∙ ap (λ r. enters r (p.items direction.number ++ logs direction.number)) same_rules;
        before = stood;
      }

  module _ (tells : without_sends (reverse state.state.exporter.log) ≡ items_of_stamp stamp ++ without_sends lane.exports.log) (owner : room.rules.owner direction.number ≡ key.number) (told : ops_of (p.ops (room.rules.owner direction.number)) ≡ ops) where
    items : items_of_stamp stamp ≡ without_sends (p.items direction.number)
    items =
        sym
        (append_cancel_right (without_sends (p.items direction.number)) (items_of_stamp stamp) (without_sends (logs direction.number))
        (sym (sends_append (p.items direction.number) (logs direction.number))
        ∙ ap without_sends log
        ∙ tells
        ∙ ap (λ z. items_of_stamp stamp ++ without_sends z) (sym before)))

    past : past_ops key ≡ ops_of (room.past (room.rules.owner direction.number))
    past = ap (λ (q : ℕ → List Turn). ops_of (q key.number)) (sym of.past) ∙ ap (λ n. ops_of (room.past n)) (sym owner)

    target : room.rules.target direction.number ≡ Some writes
    target = ap (λ (r : Rules). r.target direction.number) of.rules ∙ d.writes_is

    reads_there : room.rules.reads direction.number ≡ reads
    reads_there = ap (λ (r : Rules). r.reads direction.number) of.rules ∙ d.reads_is

    stamps_any : (made : List (ℕ × Change)) → AreStamps (rules_in key) key.number (past_ops key) (Some writes) made (items_of_stamp stamp) (notices_from (rules_in key) key.number (past_ops key) ops)
    stamps_any made =
        any_made (rules_in key) key.number (past_ops key) writes [] made (items_of_stamp stamp) (notices_from (rules_in key) key.number (past_ops key) ops)
        (subst (λ z. AreStamps (rules_in key) key.number (past_ops key) z [] (items_of_stamp stamp) (notices_from (rules_in key) key.number (past_ops key) ops)) d.writes_is left.marked.are)

    pub is_marked : (made : List (ℕ × Change)) (opening : TableOpening) → direction.table.1.start ≡ length (history (room.rules.reads direction.number)) → AreUpTo (length (history (room.rules.reads direction.number))) (without_sends (logs direction.number))
        → AreSignals room.rules (history (room.rules.reads direction.number)) direction.number (without_sends (logs direction.number)) (notices room.rules (room.rules.owner direction.number) (past_ops key)) → IsMarked room history logs entries said p direction.number made
    is_marked made opening start within signals = record {
      opening = opening;
      port = λ none. none_some (sym none ∙ target);
      behind = subst (λ (z : ℕ × List LogItem). AreFrom z.0 z.1) (λ j. (start j, items j)) left.marked.behind;
      stamps =
          subst (λ (z : Rules × ℕ × List Op × Option ℕ × List LogItem × List Op). AreStamps z.0 z.1 z.2 z.3 made z.4 (notices_from z.0 z.1 z.2 z.5))
          (λ j. (sym of.rules j, sym owner j, past j, sym target j, items j, sym told j)) (stamps_any made);
      within = within;
      before = subst (λ z. AreSignals room.rules (history (room.rules.reads direction.number)) direction.number (without_sends (logs direction.number)) (notices room.rules (room.rules.owner direction.number) z)) past signals;
    }
