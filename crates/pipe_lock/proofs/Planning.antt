-- An operation that is recorded keeps what the lock keeps.
use Rattle.std.proofs.Common.{◌≡◌, ℕ, List, [], ◌∷◌, ◌++◌, false, map, reverse, sym, ap, subst, ◌∙◌}
use Rattle.std.proofs.lemmas.List.{map-append, reverse-append}
use Rattle.import_core.specs.declared.operation.Op.{Op}
use Rattle.import_core.specs.declared.step.Mark.{Mark}
use Rattle.import_lock.specs.declared.state.OpRecord.{OpRecord}
use Rattle.jour_rule.specs.declared.views.Entry.{Entry}
use Rattle.jour_rule.specs.Moves.{entry}
use Rattle.jour.specs.Seats.{front, journal}
use Rattle.core_machine.specs.Lines.{Line, ops_of}
use Rattle.core_machine.specs.Rules.{signalled}
use Rattle.core_setup.specs.Protocols.{effect_at, effect_in, only_tells, pipe_is_up, pipe_signal, signal_of}
use Rattle.core_setup.specs.Reports.{dones}
use Rattle.phase_legal.specs.Turns.{AreByHands, hand_in, line_at, place_of, told, turn_words}
use Rattle.phase_legal.proofs.Merging.{turns_both}
use Rattle.pipe_lock.specs.Calls.{OnlyPlans}
use Rattle.pipe_lock.specs.Kept.{IsPiping}
use Rattle.pipe_lock.specs.Terms.{AreTerms, IsLineOf, PipeTerms, ops_told, past_ops, rules_in}
use Rattle.pipe_lock.specs.declared.state.PipeState.{PipeState}

-- one turn more
ops_more : (key : PipeTerms) (es : List Entry) (e : Entry) → ops_told key (es ++ e ∷ []) ≡ (told key.phase.lines e).op ∷ ops_told key es
ops_more key es e = ap ops_of (turns_both key.phase.lines es (e ∷ []))

by_hands_more : (lines : List Line) (starter : ℕ) (es : List Entry) (e : Entry) → AreByHands lines starter es → e.maker ≡ hand_in starter (line_at lines (place_of e)) → AreByHands lines starter (es ++ e ∷ [])
by_hands_more lines starter [] e are is = (is, tt)
by_hands_more lines starter (x ∷ es) e are is = (are.0, by_hands_more lines starter es e are.1 is)

-- an operation of the pipe tells its directions a signal, and does nothing else
pub effect_is : (key : PipeTerms) (ops : List Op) (op : Op) → AreTerms key → (rules_in key).gives key.number ops op ≡ only_tells (pipe_signal (pipe_is_up ops) op)
effect_is key ops op terms = ap (λ z. effect_at z ops op) terms.protocol_is ∙ ap (λ z. effect_in z ops op) terms.body

-- what the calls of `plan_turn` tell
pub record Plans (hand place : ℕ) (op : Op) (mark : Mark) (a b : PipeState) : Type 0 where
  pub signal : signal_of mark ≡ pipe_signal a.up op
  pub up : b.up ≡ signalled (signal_of mark) a.up
  pub turns : journal b.turns ≡ journal a.turns
  pub list : front b.turns.1 ≡ front a.turns.1 ++ entry hand (turn_words place) ∷ []
  pub ops : b.ops.items ≡ a.ops.items ++ record { line = place; over = false } ∷ []
  pub only : OnlyPlans a b

module _ (key : PipeTerms) (hand place : ℕ) (op : Op) (mark : Mark) (a b : PipeState) (p : Plans hand place op mark a b) (line : IsLineOf key hand place op) (o : IsPiping key a) where
  pub told_more : ops_told key (front b.turns.1) ≡ op ∷ ops_told key (front a.turns.1)
  told_more = ap (ops_told key) p.list ∙ ops_more key (front a.turns.1) (entry hand (turn_words place)) ∙ ap (λ z. z ∷ ops_told key (front a.turns.1)) line.op_is

  pub planned : IsPiping key b
  planned =
      let rules = rules_in key in
      let past = past_ops key in
      let ops = ops_told key (front a.turns.1) in
      record {
        terms = o.terms;
        up =
            p.up
            ∙ ap (λ s. signalled s a.up) p.signal
            ∙ ap (λ u. signalled (pipe_signal u op) u) o.up
            ∙ ap (λ z. pipe_is_up (z ++ past)) (sym told_more);
        turns = p.turns ∙ o.turns;
        out = ap journal p.only.out ∙ o.out;
        back = ap journal p.only.back ∙ o.back;
        hands = subst (AreByHands key.phase.lines key.phase.starter) (sym p.list) (by_hands_more key.phase.lines key.phase.starter (front a.turns.1) (entry hand (turn_words place)) o.hands line.hand_is);
        lines =
            ap (map (λ (r : OpRecord). r.line)) p.ops ∙ map-append (λ (r : OpRecord). r.line) a.ops.items (record { line = place; over = false } ∷ [])
            ∙ ap (λ z. z ++ place ∷ []) o.lines
            ∙ sym (map-append place_of (front a.turns.1) (entry hand (turn_words place) ∷ []))
            ∙ ap (map place_of) (sym p.list);
        over =
            ap (map (λ (r : OpRecord). r.over)) p.ops ∙ map-append (λ (r : OpRecord). r.over) a.ops.items (record { line = place; over = false } ∷ [])
            ∙ ap (λ z. z ++ false ∷ []) o.over
            ∙ ap (λ z. reverse (map (λ d. d.over) (dones rules key.number past ops)) ++ z ∷ []) (sym (ap (λ z. z.over) (effect_is key (ops ++ past) op o.terms)))
            ∙ sym (reverse-append ((rules.gives key.number (ops ++ past) op).over ∷ []) (map (λ d. d.over) (dones rules key.number past ops)))
            ∙ ap (λ z. reverse (map (λ d. d.over) (dones rules key.number past z))) (sym told_more);
      }
