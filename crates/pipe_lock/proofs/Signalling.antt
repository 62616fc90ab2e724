-- What a pipe's operations signal fits its directions, and they give nothing.
use Rattle.std.proofs.Common.{◌≡◌, ℕ, suc, ◌+◌, ◌<◌, ◌≤◌, ◌^◌, arith, List, [], ◌∷◌, ◌++◌, length, map, Option, refl, sym, ap, subst, ◌∙◌}
use Rattle.std.proofs.lemmas.List.{length-map, length-reverse}
use Rattle.attrs.specs.declared.route.Change.{Change}
use Rattle.export_core.specs.declared.log.LogItem.{LogItem}
use Rattle.export_lock.specs.Lanes.{LaneTerms}
use Rattle.import_core.specs.declared.operation.Op.{Op}
use Rattle.import_lock.specs.Kept.{items_of_stamp}
use Rattle.import_lock.specs.declared.state.OpRecord.{OpRecord}
use Rattle.jour_rule.specs.declared.views.View.{View as Seat}
use Rattle.jour.specs.Seats.{front, journal}
use Rattle.atomic_table.specs.Seated.{TableId}
use Rattle.core_machine.specs.Lines.{Turn}
use Rattle.core_machine.specs.Rules.{Fits, Rules, Signal, Stay, Rise, Fall, Renew, is_up, signalled}
use Rattle.core_machine.specs.Signals.{with_signal}
use Rattle.core_setup.specs.Protocols.{first_at, is_pipe, only_tells, pipe_is_up, pipe_signal}
use Rattle.core_setup.proofs.Signalled.{pipe_fits}
use Rattle.phase_legal.specs.Changes.{given}
use Rattle.phase_legal.specs.Stamps.{AreStamps, notices_from, opens}
use Rattle.phase_legal.specs.Turns.{place_of, told, turns_told}
use Rattle.phase_legal.proofs.Stamping.{stamps_open}
use Rattle.pipe_lock.specs.Doors.{IsLaneOf, MayPass}
use Rattle.pipe_lock.specs.Kept.{IsMarked, IsPiping}
use Rattle.pipe_lock.specs.Terms.{AreTerms, DirectionTerms, PipeTerms, ops_told, past_ops, rules_in}
use Rattle.pipe_lock.specs.declared.state.PipeState.{PipeState}
use Rattle.pipe_lock.proofs.Planning.{effect_is}

pub gives_none : (key : PipeTerms) (past ops : List Op) → AreTerms key → given (rules_in key) key.number past ops ≡ []
gives_none key past [] terms = refl
gives_none key past (op ∷ ops) terms = ap (λ z. z.changes ++ given (rules_in key) key.number past ops) (effect_is key (ops ++ past) op terms) ∙ gives_none key past ops terms

pub signals : (key : PipeTerms) (a : PipeState) (op : Op) → IsPiping key a → (rules_in key).gives key.number (ops_told key (front a.turns.1) ++ past_ops key) op ≡ only_tells (pipe_signal a.up op)
signals key a op o = effect_is key (ops_told key (front a.turns.1) ++ past_ops key) op o.terms ∙ ap (λ u. only_tells (pipe_signal u op)) (sym o.up)

-- the pipe is up where its directions are
up_is : (key : PipeTerms) (ops : List Op) → AreTerms key → pipe_is_up ops ≡ is_up (rules_in key) key.number ops
up_is key [] terms = sym (ap first_at terms.protocol_is ∙ ap is_pipe terms.body)
up_is key (op ∷ ops) terms =
    ap (λ u. signalled (pipe_signal (pipe_is_up ops) op) u) (up_is key ops terms)
    ∙ ap (λ z. signalled z.signal (is_up (rules_in key) key.number ops)) (sym (effect_is key ops op terms))

module _ (key : PipeTerms) (d : DirectionTerms) (ops : List Op) (s : TableId × Seat ℕ) (is : IsMarked key d ops s) where
  up_by_marks : AreTerms key → opens (is_up (rules_in key) key.number (past_ops key)) (items_of_stamp s) ≡ pipe_is_up (ops ++ past_ops key)
  up_by_marks terms = stamps_open (rules_in key) key.number (past_ops key) ops ((rules_in key).target d.number) [] (items_of_stamp s) is.are ∙ sym (up_is key (ops ++ past_ops key) terms)

-- there are no more marks than operations
stamps_few : (rules : Rules) (i : ℕ) (past ops : List Op) (target : Option ℕ) (made : List (ℕ × Change)) (items : List LogItem) → AreStamps rules i past target made items (notices_from rules i past ops) → length items ≤ length ops
stamps_few rules i past [] target made [] are = omega arith
stamps_few rules i past [] target made (x ∷ items) are = absurd are
stamps_few rules i past (op ∷ ops) target made items are = step (λ ys more. stamps_few rules i past ops target made ys more) (rules.gives i (ops ++ past) op).signal (op ∷ ops) items are
  where
    more : (x : LogItem) (ys : List LogItem) → length ys ≤ length ops → length (x ∷ ys) ≤ suc (length ops)
    more x ys few = omega (arith, few)

    step : ((ys : List LogItem) → AreStamps rules i past target made ys (notices_from rules i past ops) → length ys ≤ length ops) → (s : Signal) (all : List Op) (items : List LogItem)
        → AreStamps rules i past target made items (with_signal s all (notices_from rules i past ops)) → length items ≤ suc (length ops)
    step ih Stay all xs are = let few = ih xs are in omega (arith, few)
    step ih Rise all [] are = absurd are
    step ih Rise all (x ∷ xs) are = more x xs (ih xs are.1)
    step ih Fall all [] are = absurd are
    step ih Fall all (x ∷ xs) are = more x xs (ih xs are.1)
    step ih Renew all [] are = absurd are
    step ih Renew all (x ∷ xs) are = more x xs (ih xs are.1)

module _ (key : PipeTerms) (a : PipeState) (o : IsPiping key a) where
  told_long : length (ops_told key (front a.turns.1)) ≡ length a.ops.items
  told_long =
      length-map (turns_told key.phase.lines (front a.turns.1)) (λ (t : Turn). t.op)
      ∙ length-reverse (map (told key.phase.lines) (front a.turns.1))
      ∙ length-map (front a.turns.1) (told key.phase.lines)
      ∙ sym (length-map (front a.turns.1) place_of) ∙ ap length (sym o.lines) ∙ length-map a.ops.items (λ (r : OpRecord). r.line)

  module _ (d : DirectionTerms) (s : TableId × Seat ℕ) (is : IsMarked key d (ops_told key (front a.turns.1)) s) where
    marks_few : length (items_of_stamp s) ≤ length a.ops.items
    marks_few =
        let few = stamps_few (rules_in key) key.number (past_ops key) (ops_told key (front a.turns.1)) ((rules_in key).target d.number) [] (items_of_stamp s) is.are in
        let long = told_long in
        omega (arith, few, long)

    fits_next : (op : Op) → Fits (pipe_signal a.up op) (opens (is_up (rules_in key) key.number (past_ops key)) (items_of_stamp s))
    fits_next op = subst (Fits (pipe_signal a.up op)) (o.up ∙ sym (up_by_marks key d (ops_told key (front a.turns.1)) s is o.terms)) (pipe_fits a.up op)

    pub passes_next : (lane : LaneTerms) (op : Op) → journal s ≡ d.marks → IsLaneOf key d lane → length a.ops.items + 1 < 2 ^ 63 → MayPass lane (pipe_signal a.up op) s
    passes_next lane op here of room = record {
      here = here ∙ sym of.marks;
      number = is.number;
      few = (let few = marks_few in omega (arith, few, room));
      fits = subst (λ u. Fits (pipe_signal a.up op) (opens u (items_of_stamp s))) (sym of.up) (fits_next op);
    }
