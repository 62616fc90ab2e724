use Rattle.std.proofs.Common.{◌≡◌, ◌∙◌, ◌++◌, ℕ, inl, inr, List, [], map, reverse, length, sym, ap, subst}
use Rattle.std.specs.Prelude.{◌==◌, slice_get}
use Rattle.std.proofs.Math.Path.{fun_ext}
use Rattle.std.proofs.lemmas.Bool.{cases_lt}
use Rattle.core_machine.specs.Enters.{enters}
use Rattle.core_machine.specs.Histories.{AreReal, of_those, own}
use Rattle.core_machine.specs.Lines.{Reply, ops_of}
use Rattle.core_machine.specs.Merges.{IsMerge}
use Rattle.core_machine.specs.Pipes.{passes}
use Rattle.core_machine.specs.Replies.{Answers, Question, questions, replies_to}
use Rattle.core_machine.specs.Rules.{changes}
use Rattle.core_machine.specs.Signals.{AreSignals, notices, without_sends}
use Rattle.core_machine.proofs.PhaseEnds.{ops_append}
use Rattle.table_shared.specs.Records.{at_first, change_of}
use Rattle.phase_legal.specs.Changes.{changes_in}
use Rattle.phase_legal.specs.Ended.{histories}
use Rattle.phase_legal.specs.Turns.{turns_told}
use Rattle.phase_legal.proofs.Made.{given_on}
use Rattle.phase_ends.specs.Leaves.{past_in}
use Rattle.phase_ends.proofs.Leaving.{by_option, sends_append, those_append}
use Rattle.phase_ends.proofs.laws.what_threads_leave_is_legal.Goals as goal

pub returns : goal.returns
returns c = λ room history logs entries said p starter begun rest made ok left.
    let g = room.rules in
    let new = λ (t : ℕ). reverse (map change_of (said t)) in
    let past = λ (i : ℕ). ops_of (room.past i) in
    let ops = λ (i : ℕ). ops_of (p.ops i) in
    let all_ops = λ (i : ℕ). ops_append (p.ops i) (room.past i) in
    c.settled_phases_are_legal.ensures g (λ i. turns_told room.lines (begun i)) (past_in room history logs) (reverse room.lines) p ok (record {
      others = λ i. turns_told room.lines (rest i);
      merge = λ i. let turns = left.ended.turns i in
          subst (IsMerge (reverse room.lines) i (turns_told room.lines (rest i)) (turns_told room.lines (begun i))) (sym (left.ops_are i))
          (c.turns_merge_the_lines.ensures.merge room.lines starter turns.start i (begun i) (rest i) turns.hands turns.starts turns.ended left.actors (left.turned i));
      real = λ t.
          subst (λ e. AreReal (e ++ history t)) (sym (left.entries_are t))
          (by_option (slice_get room.tables t) (AreReal (new t ++ history t))
          (λ table is. c.histories_stay_real.ensures table.1.opening (entries t) (said t) (history t) (left.ended.records t table is) (left.opening t table is) (left.real t))
          (λ none. subst (λ l. AreReal (reverse (map change_of l) ++ history t)) (sym (left.no_more t none)) (left.real t)));
      exact = λ i. let t = g.table i in
          subst (λ e. own i (e ++ history t) ≡ changes g i (ops_of (p.ops i ++ room.past i))) (sym (left.entries_are t))
          (elim (left.makes i) [
            | inl m ↦ c.tables_have_what_operations_give.ensures g i (past i) (ops i) (history t) m.table.1.opening m.table.1.start m.port (entries t) (said t) (made i) (left.ended.exact i) (left.ended.records t m.table m.table_is) (left.ended.alone i m.port m.table m.port_is m.table_is) m.says m.gave
            | inr q ↦ those_append (λ num. num == i) (new t) (history t) ∙ ap (λ l. l ++ own i (history t)) q.none ∙ left.ended.exact i
                ∙ sym (given_on g i (past i) (ops i) ∙ ap (λ l. l ++ changes g i (past i)) q.gave)
          ] ∙ ap (changes g i) (sym (all_ops i)));
      entered = λ d t e. let h = left.entered d t e in
          subst (λ l. of_those (passes g d) (l ++ history t) ≡ enters g (p.items d ++ logs d)) (sym (left.entries_are t))
          (those_append (passes g d) (new t) (history t)
          ∙ ap (λ l. l ++ of_those (passes g d) (history t)) (c.tables_have_what_ports_made.ensures.made (passes g d) h.terms.1.opening (at_first h.terms.1.opening) h.terms.1.start h.port (entries t) (said t) h.made (left.ended.records t h.terms h.terms_is) h.alone h.says)
          ∙ ap (λ l. reverse (changes_in h.made) ++ l) h.before ∙ h.log);
      no_others = λ t i e. let none = left.strangers t i e in
          subst (λ l. own i (l ++ history t) ≡ []) (sym (left.entries_are t)) (those_append (λ num. num == i) (new t) (history t) ∙ ap (λ l. l ++ own i (history t)) none.0 ∙ none.1);
      signalled = λ x. let o = g.owner x in let r = g.reads x in let m = left.marked x in
          subst (λ l. AreSignals g (l ++ history r) x (without_sends (p.items x ++ logs x)) (notices g o (ops_of (p.ops o ++ room.past o)))) (sym (left.entries_are r))
          (subst (λ l. AreSignals g (new r ++ history r) x l (notices g o (ops_of (p.ops o ++ room.past o)))) (sym (sends_append (p.items x) (logs x)))
          (subst (λ l. AreSignals g (new r ++ history r) x (without_sends (p.items x) ++ without_sends (logs x)) (notices g o l)) (sym (all_ops o))
          (c.marks_become_signals.ensures g x (past o) (ops o) (history r) m.opening (entries r) (said r) (made o) (without_sends (p.items x)) (without_sends (logs x)) m.port m.behind m.stamps m.within m.before)));
      follows = left.follows;
      answers = λ a.
          subst (λ h. Answers g (λ t. length (history t)) (λ i. ops_of (turns_told room.lines (begun i) ++ room.past i)) h (λ i. turns_told room.lines (rest i)) a (questions a (reverse room.lines)) (replies_to a p.replies)) (sym (fun_ext (λ t. ap (λ l. l ++ history t) (left.entries_are t))))
          (elim (cases_lt a starter) [
            | inl w ↦ let told = left.told a w in c.what_was_told_is_right.ensures room starter a w told.hands told.passes begun rest entries said history left.ended told.turns_seen told.tables_seen (questions a (reverse room.lines)) (replies_to a p.replies) told.told
            | inr w ↦ let none = left.nobody a w in
                subst (λ (qs : List Question). Answers g (λ t. length (history t)) (λ i. ops_of (turns_told room.lines (begun i) ++ room.past i)) (histories said history) (λ i. turns_told room.lines (rest i)) a qs (replies_to a p.replies)) (sym none.0)
                (subst (λ (rs : List Reply). Answers g (λ t. length (history t)) (λ i. ops_of (turns_told room.lines (begun i) ++ room.past i)) (histories said history) (λ i. turns_told room.lines (rest i)) a [] rs) (sym none.1) tt)
          ]);
      settled = left.settled;
      shown = left.shown;
    })
