-- A phase that was played leaves what makes it legal, as it is printed.
use Rattle.std.proofs.Common.{◌≡◌, ℕ, List, ◌++◌, length, reverse, refl, sym, ap, subst}
use Rattle.std.proofs.Math.Path.{fun_ext}
use Rattle.export_core.specs.declared.log.LogItem.{LogItem}
use Rattle.attrs.specs.declared.journal.JEntry.{JEntry}
use Rattle.attrs.specs.declared.route.Change.{Change}
use Rattle.core_machine.specs.Legal.{IsLegal, IsLegalIn, Joined, Printed, started}
use Rattle.core_machine.specs.Lines.{Turn, ops_of}
use Rattle.core_machine.specs.Rules.{IsRules}
use Rattle.jour_rule.specs.declared.views.Entry.{Entry}
use Rattle.phase_legal.specs.Shown.{Room}
use Rattle.phase_legal.specs.Turns.{turns_told}
use Rattle.phase_ends.specs.Leaves.{HasLeft, past_in}
use Rattle.room_whole.specs.Past.{with_logs}
use Rattle.room_whole.proofs.Answering.{nobody, was_told}
use Rattle.room_whole.proofs.Chosen.{all_of, begun, joined, made_of, printed, printed_more, rest, turns_of}
use Rattle.room_whole.proofs.EndedTurns.{has_ended, turned_by, turns_at}
use Rattle.room_whole.proofs.Following.{follows, settled}
use Rattle.room_whole.proofs.Given.{Given, entries_of, lines_of, logs_of, phase_of, rules_in, said_of, seen_of}
use Rattle.room_whole.proofs.Making.{makes}
use Rattle.room_whole.proofs.Marking.{entered, marked}
use Rattle.room_whole.proofs.Tabled.{known_table, no_strangers, said_none, table_opening}

module _ {J P : Type 0} (g : Given J P) where
  pub has_left : HasLeft (seen_of g) g.past.history (logs_of g) (entries_of g) (said_of g) (printed_more g) (phase_of g).starter (begun g) (rest g) (made_of g)
  has_left = record {
    ended = has_ended g;
    actors = g.few.acts;
    turned = turned_by g;
    ops_are = λ i. refl;
    entries_are = λ t. refl;
    opening = λ t table at. table_opening g t table (known_table g t table at);
    real = g.was.sound.real;
    no_more = said_none g;
    strangers = λ t i none. (no_strangers g t i none, g.was.sound.strangers t i none);
    makes = makes g;
    entered = entered g;
    marked = marked g;
    follows = follows g;
    settled = settled g;
    told = was_told g;
    nobody = nobody g;
    shown = record {
      rows = λ t net num. refl;
      modes = λ i. ap (λ (f : ℕ → List Turn). (rules_in g).mode i (ops_of (turns_of g i ++ f i))) (sym g.same_past);
      accepted = λ i. ap (λ (f : ℕ → List Turn). length ((rules_in g).accepted i (ops_of (turns_of g i ++ f i)))) (sym g.same_past);
      up = λ c. refl;
      standing = λ c k. refl;
    };
  }

  -- the logs that stood, in place of those that were printed
  abbrev stood : Joined
  stood = with_logs g.past (logs_of g)

  -- what is legal behind the logs that stood is so behind those that were printed
  legal_behind : IsLegalIn (rules_in g) (started g.starts) stood (all_of g) (reverse (lines_of g)) (printed_more g) → IsLegalIn (rules_in g) (started g.starts) g.past (all_of g) (reverse (lines_of g)) (printed g)
  legal_behind l = record {
    others = l.others;
    merge = l.merge;
    real = l.real;
    exact = l.exact;
    entered = l.entered;
    no_others = l.no_others;
    signalled = l.signalled;
    follows = l.follows;
    answers = l.answers;
    state = l.state;
    settled = l.settled;
  }

  -- what threads leave is legal: a law of phases that have ended
  module _ (leaves : (room : Room) (history : ℕ → List Change) (logs : ℕ → List LogItem) (entries : ℕ → List Entry) (said : ℕ → List JEntry) (p : Printed) (starter : ℕ) (begun rest : ℕ → List Entry) (made : ℕ → List (ℕ × Change))
      → IsRules room.rules → HasLeft room history logs entries said p starter begun rest made → IsLegal room.rules (λ i. turns_told room.lines (begun i)) (past_in room history logs) (reverse room.lines) p) where
    legal_more : IsLegal (rules_in g) (started g.starts) stood (reverse (lines_of g)) (printed_more g)
    legal_more =
        let past : past_in (seen_of g) g.past.history (logs_of g) ≡ stood = ap (λ (f : ℕ → List Turn). record { history = g.past.history; ops = f; logs = logs_of g }) g.same_past in
        let first : (λ i. turns_told (lines_of g) (begun g i)) ≡ started g.starts = fun_ext (λ i. (turns_at g i).starts) in
        subst (λ (z : (ℕ → List Turn) × Joined). IsLegal (rules_in g) z.0 z.1 (reverse (lines_of g)) (printed_more g)) (λ j. (first j, past j))
        (leaves (seen_of g) g.past.history (logs_of g) (entries_of g) (said_of g) (printed_more g) (phase_of g).starter (begun g) (rest g) (made_of g) g.ruled has_left)

    pub is_legal : IsLegal (rules_in g) (started g.starts) g.past (reverse (lines_of g)) (printed g)
    is_legal = subst (λ (all : Joined). IsLegalIn (rules_in g) (started g.starts) g.past all (reverse (lines_of g)) (printed g)) (sym (joined g)) (legal_behind legal_more)
