-- An operation that is applied and recorded keeps what the lock keeps.
use Rattle.std.proofs.Common.{◌≡◌, ℕ, List, [], ◌∷◌, ◌++◌, map, reverse, drop, sym, ap, subst, ◌∙◌, append-nil}
use Rattle.std.specs.Prelude.{option_map}
use Rattle.std.specs.List.{AllByRecursion}
use Rattle.std.proofs.lemmas.List.{map-append, reverse-append, reverse-reverse}
use Rattle.attrs.specs.declared.judge.Verdict.{Verdict}
use Rattle.attrs.specs.declared.route.Change.{Change}
use Rattle.attrs.specs.declared.route.Route.{Route}
use Rattle.bits_ip.specs.Prefix.{Net}
use Rattle.import_core.specs.Changes.{IsStep}
use Rattle.import_core.specs.Importers.{Importing, IsNext, KeepsSpec}
use Rattle.import_core.specs.Operations.{done}
use Rattle.import_core.specs.declared.operation.Op.{Op}
use Rattle.import_core.specs.declared.step.Step.{Step}
use Rattle.import_core.proofs.Differences.{difference_one}
use Rattle.jour_rule.specs.declared.views.Entry.{Entry}
use Rattle.jour_rule.specs.Moves.{entry}
use Rattle.jour.specs.Seats.{front, journal, number_of, own}
use Rattle.core_machine.specs.Lines.{Line, ops_of}
use Rattle.core_setup.specs.Announced.{IsOfFamily}
use Rattle.core_setup.specs.Differences.{differences}
use Rattle.core_setup.specs.Protocols.{effect_after, effect_at, effect_in, imports_after, signal_of}
use Rattle.core_setup.specs.Reports.{dones}
use Rattle.core_setup.specs.Setup.{Source}
use Rattle.core_setup.proofs.Differing.{differences_are}
use Rattle.phase_legal.specs.Changes.{AreMade, changes_in, given}
use Rattle.phase_legal.specs.Turns.{AreByHands, hand_in, line_at, place_of, told, turn_words}
use Rattle.phase_legal.proofs.Merging.{turns_both}
use Rattle.import_lock.specs.Calls.{IsTold}
use Rattle.import_lock.specs.Kept.{IsImporter, IsImporting, left}
use Rattle.import_lock.specs.Terms.{AreTerms, ImportTerms, IsLineOf, ops_told, past_ops, rules_in}
use Rattle.import_lock.specs.declared.state.ImportState.{ImportState}
use Rattle.import_lock.specs.declared.state.OpRecord.{OpRecord}

-- one turn more
pub ops_more : (key : ImportTerms) (es : List Entry) (e : Entry) → ops_told key (es ++ e ∷ []) ≡ (told key.phase.lines e).op ∷ ops_told key es
ops_more key es e = ap ops_of (turns_both key.phase.lines es (e ∷ []))

by_hands_more : (lines : List Line) (starter : ℕ) (es : List Entry) (e : Entry) → AreByHands lines starter es → e.maker ≡ hand_in starter (line_at lines (place_of e)) → AreByHands lines starter (es ++ e ∷ [])
by_hands_more lines starter [] e are is = (is, tt)
by_hands_more lines starter (x ∷ es) e are is = (are.0, by_hands_more lines starter es e are.1 is)

-- what an operation of the protocol does
effect_is : (key : ImportTerms) (source : Source) (ops : List Op) (op : Op) → AreTerms key source → (rules_in key).gives key.number ops op ≡ effect_after source ops op
effect_is key source ops op terms = ap (λ z. effect_at z ops op) terms.protocol_is ∙ ap (λ z. effect_in z ops op) terms.body

module _ {J : Type 0} (verdict : J → Net → Route → Verdict) where
  step_is : (source : Source) (ops : List Op) (op : Op) (held next : Importing J) (step : Step) → IsImporter verdict source ops held → IsNext held (done held.spec (verdict held.judge) op held.imports) next step
      → IsStep source.spec (imports_after source ops) (done source.spec source.filter op (imports_after source ops)) next.imports step
  step_is source ops op held next step is got =
      subst (λ z. IsStep source.spec z (done source.spec source.filter op z) next.imports step) is.imports
      (subst (λ f. IsStep source.spec held.imports (done source.spec f op held.imports) next.imports step) is.judge
      (subst (λ sp. IsStep sp held.imports (done sp (verdict held.judge) op held.imports) next.imports step) is.spec got))

  -- what the calls of `plan_turn` tell
  pub record Plans (hand place : ℕ) (op : Op) (step : Step) (a b : ImportState J) : Type 0 where
    pub next : IsNext a.importer (done a.importer.spec (verdict a.importer.judge) op a.importer.imports) b.importer step
    pub kept : KeepsSpec a.importer b.importer
    pub turns : journal b.turns ≡ journal a.turns
    pub list : front b.turns.1 ≡ front a.turns.1 ++ entry hand (turn_words place) ∷ []
    pub ops : b.ops.items ≡ a.ops.items ++ record { line = place; over = step.over } ∷ []
    pub backlog : b.backlog ≡ step.changes
    pub sent : b.sent ≡ 0
    pub port : b.port ≡ a.port
    pub stamp : b.stamp ≡ a.stamp

  module _ (key : ImportTerms) (made : List (ℕ × Change)) (hand place : ℕ) (op : Op) (step : Step) (a b : ImportState J)
      (p : Plans hand place op step a b) (line : IsLineOf key hand place op) (empty : left a ≡ []) (o : IsImporting verdict key made a) where
    more : ops_told key (front b.turns.1) ≡ op ∷ ops_told key (front a.turns.1)
    more = ap (ops_told key) p.list ∙ ops_more key (front a.turns.1) (entry hand (turn_words place)) ∙ ap (λ z. z ∷ ops_told key (front a.turns.1)) line.op_is

    st : IsStep o.source.spec (imports_after o.source (ops_told key (front a.turns.1) ++ past_ops key)) (done o.source.spec o.source.filter op (imports_after o.source (ops_told key (front a.turns.1) ++ past_ops key))) b.importer.imports step
    st = step_is o.source (ops_told key (front a.turns.1) ++ past_ops key) op a.importer b.importer step o.importer p.next

    gives : (rules_in key).gives key.number (ops_told key (front a.turns.1) ++ past_ops key) op ≡ effect_after o.source (ops_told key (front a.turns.1) ++ past_ops key) op
    gives = effect_is key o.source (ops_told key (front a.turns.1) ++ past_ops key) op o.terms

    -- its changes, in their order
    changes_are : reverse ((rules_in key).gives key.number (ops_told key (front a.turns.1) ++ past_ops key) op).changes ≡ step.changes
    changes_are =
        let before = imports_after o.source (ops_told key (front a.turns.1) ++ past_ops key) in
        let after = done o.source.spec o.source.filter op before in
        let num : ℕ = o.source.spec.src.num in
        ap (λ z. reverse z.changes) gives
        ∙ reverse-reverse (differences num before.accepted after.imports.accepted)
        ∙ sym (difference_one num before.accepted after.imports.accepted step.changes (differences num before.accepted after.imports.accepted) st.changes
        (differences_are num before.accepted after.imports.accepted))

    pub planned : IsImporting verdict key made b
    planned = record {
      source = o.source;
      terms = o.terms;
      importer = record {
        spec = p.kept.spec ∙ o.importer.spec;
        judge = ap verdict p.kept.judge ∙ o.importer.judge;
        imports = st.imports ∙ ap (λ z. imports_after o.source (z ++ past_ops key)) (sym more);
      };
      port = ap journal p.port ∙ o.port;
      port_number = ap (λ z. number_of z.1.role) p.port ∙ o.port_number;
      turns = p.turns ∙ o.turns;
      marks = ap (option_map journal) p.stamp ∙ o.marks;
      hands = subst (AreByHands key.phase.lines key.phase.starter) (sym p.list) (by_hands_more key.phase.lines key.phase.starter (front a.turns.1) (entry hand (turn_words place)) o.hands line.hand_is);
      lines =
          ap (map (λ (r : OpRecord). r.line)) p.ops ∙ map-append (λ (r : OpRecord). r.line) a.ops.items (record { line = place; over = step.over } ∷ [])
          ∙ ap (λ z. z ++ place ∷ []) o.lines
          ∙ sym (map-append place_of (front a.turns.1) (entry hand (turn_words place) ∷ []))
          ∙ ap (map place_of) (sym p.list);
      over =
          let rules = rules_in key in
          let past = past_ops key in
          let ops = ops_told key (front a.turns.1) in
          let told = st.over ∙ sym (ap (λ z. z.over) gives) in
          ap (map (λ (r : OpRecord). r.over)) p.ops ∙ map-append (λ (r : OpRecord). r.over) a.ops.items (record { line = place; over = step.over } ∷ [])
          ∙ ap (λ z. z ++ step.over ∷ []) o.over
          ∙ ap (λ z. reverse (map (λ d. d.over) (dones rules key.number past ops)) ++ z ∷ []) told
          ∙ sym (reverse-append ((rules.gives key.number (ops ++ past) op).over ∷ []) (map (λ d. d.over) (dones rules key.number past ops)))
          ∙ ap (λ z. reverse (map (λ d. d.over) (dones rules key.number past z))) (sym more);
      family = subst (AllByRecursion (IsOfFamily key.port.1.opening.family)) (sym more) (line.family, o.family);
      says = subst (λ z. AreMade (own z.1) made) (sym p.port) o.says;
      sent =
          let rules = rules_in key in
          let past = past_ops key in
          let ops = ops_told key (front a.turns.1) in
          let cs = (rules.gives key.number (ops ++ past) op).changes in
          let waits : left b ≡ step.changes = ap (λ z. drop z b.backlog) p.sent ∙ p.backlog in
          ap (λ z. changes_in made ++ z) (waits ∙ sym changes_are)
          ∙ ap (λ z. z ++ reverse cs) (sym (append-nil (changes_in made)) ∙ ap (λ z. changes_in made ++ z) (sym empty) ∙ o.sent)
          ∙ sym (reverse-append cs (given rules key.number past ops))
          ∙ ap (λ z. reverse (given rules key.number past z)) (sym more);
    }

    pub told_by : IsTold key op step.mark step.over a b
    told_by = record {
      ops = more;
      tells = record {
        signal = ap signal_of st.mark ∙ sym (ap (λ z. z.signal) gives);
        over_is = st.over ∙ sym (ap (λ z. z.over) gives);
      };
    }
