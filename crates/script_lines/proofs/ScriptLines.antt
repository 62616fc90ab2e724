-- The lines of a script that are read so far.
use Rattle.std.proofs.Common.{◌≡◌, ◌∙◌, sym, ap, refl, subst, ℕ, ◌+◌, ◌-◌, ◌^◌, ◌<◌, ◌≤◌, Bool, true, false, cond, List, [], ◌∷◌, ◌++◌, length, map, length-append, arith, inl, inr, None, Result, Ok, Err}
use Rattle.std.specs.Prelude.{not, MatchResult}
use Rattle.std.proofs.lemmas.List.{append_assoc, append-nil}
use Rattle.std.proofs.lemmas.List.Elements.{filter-append}
use Rattle.text.specs.Lines.{lines_of, behind_words, words_of}
use Rattle.script_lines.specs.declared.named.Named.{Named}
use Rattle.script_lines.specs.declared.faults.ScriptFault.{ScriptFault}
use Rattle.script_lines.specs.declared.refusal.LineFault.{LineFault}
use Rattle.script_lines.specs.declared.refusal.LineFault.TheVariants as line_faults
use Rattle.script_lines.specs.declared.reading.Reading.{Reading}
use Rattle.script_lines.specs.declared.script.Script.{Script}
use Rattle.script_lines.specs.Grammar.{Form, HasForm}
use Rattle.script_lines.specs.Kinds.{least_kind}
use Rattle.script_lines.specs.Script.{AreForms, IsRefusedAs, Answers, Accepted, Tells, numbered, is_passed, without_comments, with_actor, actors_of, queries_of, conditions_of}
use Rattle.script_lines.specs.Inside.{State, start, state_of, after, fault_at, HasRoom, IsRead, ReadsOne, Finishes}
use Rattle.script_lines.proofs.LineParts.{least_fine}
use Rattle.script_lines.proofs.Places.{actors_stay}
use Rattle.script_lines.proofs.States.{state_past, past_push, past_actors, past_queries, past_conditions, one_query_more, one_condition_more, all_phases}

pub line_passed : (number : ℕ) (line : List ℕ) (more : List (ℕ × List ℕ)) → is_passed line ≡ true → without_comments ((number, line) ∷ more) ≡ without_comments more
line_passed number line more is = ap (λ (b : Bool). cond (not b) ((number, line) ∷ without_comments more) (without_comments more)) is

pub line_counted : (number : ℕ) (line : List ℕ) (more : List (ℕ × List ℕ)) → is_passed line ≡ false → without_comments ((number, line) ∷ more) ≡ (number, line) ∷ without_comments more
line_counted number line more is = ap (λ (b : Bool). cond (not b) ((number, line) ∷ without_comments more) (without_comments more)) is

numbered_joined : (number : ℕ) (front back : List (List ℕ)) → numbered number (front ++ back) ≡ numbered number front ++ numbered (number + length front) back
numbered_joined number [] back = let same : number ≡ number + 0 = omega arith in ap (λ (n : ℕ). numbered n back) same
numbered_joined number (line ∷ front) back =
    let places : number + 1 + length front ≡ number + length (line ∷ front) = omega arith in
    ap (λ (l : List (ℕ × List ℕ)). (number, line) ∷ l) (numbered_joined (number + 1) front back)
    ∙ ap (λ (n : ℕ). (number, line) ∷ (numbered (number + 1) front ++ numbered n back)) places

pub lines_joined : (number : ℕ) (front back : List (List ℕ))
    → without_comments (numbered number (front ++ back)) ≡ without_comments (numbered number front) ++ without_comments (numbered (number + length front) back)
lines_joined number front back =
    ap without_comments (numbered_joined number front back)
    ∙ filter-append (λ (line : ℕ × List ℕ). not (is_passed line.1)) (numbered number front) (numbered (number + length front) back)

-- The text begins with so many lines, which come to this, and goes on with the rest.
pub record HaveLines (named : Named) (text : List ℕ) (state : State) (count : ℕ) (rest : List ℕ) : Type 0 where
  pub front : List (List ℕ)
  pub forms : List (ℕ × Form)
  pub whole : lines_of text ≡ front ++ lines_of rest
  pub forms_are : AreForms named [] (without_comments (numbered 1 front)) forms
  pub state_is : state ≡ state_past named start forms
  pub few : length state.actors ≤ 64
  pub few_queries : length state.queries ≤ count
  pub few_conditions : length state.conditions ≤ count
  pub counted : count ≡ length front
  pub within : count + length rest ≤ length text

pub have_no_line : (named : Named) (text : List ℕ) (state : State) → state ≡ start → HaveLines named text state 0 text
have_no_line named text state none = record {
  front = [];
  forms = [];
  whole = refl;
  forms_are = tt;
  state_is = none;
  few = omega (arith, ap (λ (s : State). length s.actors) none);
  few_queries = omega (arith, ap (λ (s : State). length s.queries) none);
  few_conditions = omega (arith, ap (λ (s : State). length s.conditions) none);
  counted = refl;
  within = omega arith;
}

-- there is room for the next line
pub have_room : (named : Named) (text : List ℕ) (state : State) (count number : ℕ) (rest behind : List ℕ) → HaveLines named text state count rest → number ≡ count + 1 → length behind < length rest
    → length named.filters + length text < 2 ^ 32 - 1 → HasRoom named number state
have_room named text state count number rest behind have next shorter short = record {
  actors = have.few;
  queries = omega (arith, have.few_queries, next);
  conditions = omega (arith, have.few_conditions, have.within, shorter, short);
}

pub forms_push : (named : Named) (actors : List (List ℕ)) (front : List (ℕ × List ℕ)) (forms : List (ℕ × Form)) (number : ℕ) (line : List ℕ) (form : Form) → AreForms named actors front forms
    → HasForm line form → least_kind named (actors_of actors forms) form ≡ None → AreForms named actors (front ++ (number, line) ∷ []) (forms ++ (number, form) ∷ [])
forms_push named actors [] [] number line form are is fine = (refl, is, fine, tt)
forms_push named actors [] (f ∷ forms) number line form are is fine = absurd are
forms_push named actors (w ∷ front) [] number line form are is fine = absurd are
forms_push named actors (w ∷ front) (f ∷ forms) number line form are is fine =
    (are.0, are.1, are.2, forms_push named (with_actor actors f.1) front forms number line form are.3 is fine)

-- the actors of a state are those of its lines
actors_are : (named : Named) (state : State) (forms : List (ℕ × Form)) → state ≡ state_past named start forms → state.actors ≡ actors_of [] forms
actors_are named state forms is = ap (λ (s : State). s.actors) is ∙ past_actors named start forms

conditions_are : (named : Named) (state : State) (forms : List (ℕ × Form)) → state ≡ state_past named start forms → state.conditions ≡ conditions_of forms
conditions_are named state forms is = ap (λ (s : State). s.conditions) is ∙ past_conditions named start forms

queries_are : (named : Named) (state : State) (forms : List (ℕ × Form)) → state ≡ state_past named start forms → state.queries ≡ queries_of named 0 forms
queries_are named state forms is = ap (λ (s : State). s.queries) is ∙ past_queries named start forms

actors_push : (actors : List (List ℕ)) (forms : List (ℕ × Form)) (said : ℕ × Form) → actors_of actors (forms ++ said ∷ []) ≡ with_actor (actors_of actors forms) said.1
actors_push actors [] said = refl
actors_push actors (one ∷ forms) said = actors_push (with_actor actors one.1) forms said

-- a line more
passed_more : (named : Named) (text : List ℕ) (state : State) (count number : ℕ) (rest line behind : List ℕ) → HaveLines named text state count rest → number ≡ count + 1
    → lines_of rest ≡ line ∷ lines_of behind → length behind < length rest → is_passed line ≡ true → HaveLines named text state number behind
passed_more named text state count number rest line behind have next cut shorter passed =
    let same : without_comments (numbered 1 (have.front ++ line ∷ [])) ≡ without_comments (numbered 1 have.front) =
    lines_joined 1 have.front (line ∷ [])
    ∙ ap (λ (l : List (ℕ × List ℕ)). without_comments (numbered 1 have.front) ++ l) (line_passed (1 + length have.front) line [] passed)
    ∙ append-nil (without_comments (numbered 1 have.front)) in
    record {
      front = have.front ++ line ∷ [];
      forms = have.forms;
      whole = have.whole ∙ ap (λ (l : List (List ℕ)). have.front ++ l) cut ∙ sym (append_assoc have.front (line ∷ []) (lines_of behind));
      forms_are = subst (λ (l : List (ℕ × List ℕ)). AreForms named [] l have.forms) (sym same) have.forms_are;
      state_is = have.state_is;
      few = have.few;
      few_queries = omega (arith, have.few_queries, next);
      few_conditions = omega (arith, have.few_conditions, next);
      counted = omega (arith, have.counted, next, length-append have.front (line ∷ []));
      within = omega (arith, have.within, next, shorter);
    }

read_more : (named : Named) (text : List ℕ) (state new : State) (count number : ℕ) (rest line behind : List ℕ) → HaveLines named text state count rest → number ≡ count + 1
    → lines_of rest ≡ line ∷ lines_of behind → length behind < length rest → is_passed line ≡ false → IsRead named number (behind_words 3 line) (words_of line) state new
    → HaveLines named text new number behind
read_more named text state new count number rest line behind have next cut shorter counts is =
    let place : 1 + length have.front ≡ number = omega (arith, have.counted, next) in
    let same : without_comments (numbered 1 (have.front ++ line ∷ [])) ≡ without_comments (numbered 1 have.front) ++ (number, line) ∷ [] =
    lines_joined 1 have.front (line ∷ [])
    ∙ ap (λ (l : List (ℕ × List ℕ)). without_comments (numbered 1 have.front) ++ l) (line_counted (1 + length have.front) line [] counts)
    ∙ ap (λ (n : ℕ). without_comments (numbered 1 have.front) ++ (n, line) ∷ []) place in
    let fine = ap (λ (l : List (List ℕ)). least_kind named l is.form) (sym (actors_are named state have.forms have.state_is)) ∙ is.fine in
    let new_is : new ≡ state_past named start (have.forms ++ (number, is.form) ∷ []) =
    is.new_is ∙ ap (after named number is.form) have.state_is ∙ sym (past_push named start have.forms (number, is.form)) in
    let new_actors : new.actors ≡ with_actor state.actors is.form =
    actors_are named new (have.forms ++ (number, is.form) ∷ []) new_is ∙ actors_push [] have.forms (number, is.form)
    ∙ ap (λ (l : List (List ℕ)). with_actor l is.form) (sym (actors_are named state have.forms have.state_is)) in
    record {
      front = have.front ++ line ∷ [];
      forms = have.forms ++ (number, is.form) ∷ [];
      whole = have.whole ∙ ap (λ (l : List (List ℕ)). have.front ++ l) cut ∙ sym (append_assoc have.front (line ∷ []) (lines_of behind));
      forms_are = subst (λ (l : List (ℕ × List ℕ)). AreForms named [] l (have.forms ++ (number, is.form) ∷ [])) (sym same)
          (forms_push named [] (without_comments (numbered 1 have.front)) have.forms number line is.form have.forms_are is.form_is fine);
      state_is = new_is;
      few = omega (arith, ap length new_actors, actors_stay state.actors is.form have.few (least_fine (behind_words 3 line) named state.actors is.form is.fine));
      few_queries = omega (arith, ap (λ (s : State). length s.queries) is.new_is, one_query_more named number is.form state, have.few_queries, next);
      few_conditions = omega (arith, ap (λ (s : State). length s.conditions) is.new_is, one_condition_more named number is.form state, have.few_conditions, next);
      counted = omega (arith, have.counted, next, length-append have.front (line ∷ []));
      within = omega (arith, have.within, next, shorter);
    }

pub have_one_more : (named : Named) (text : List ℕ) (state new : State) (count number : ℕ) (rest line behind : List ℕ) → HaveLines named text state count rest → number ≡ count + 1
    → lines_of rest ≡ line ∷ lines_of behind → length behind < length rest → ReadsOne named number line state (Ok tt) new → HaveLines named text new number behind
have_one_more named text state new count number rest line behind have next cut shorter (inl passed) =
    subst (λ (s : State). HaveLines named text s number behind) (sym passed.1) (passed_more named text state count number rest line behind have next cut shorter passed.0)
have_one_more named text state new count number rest line behind have next cut shorter (inr read) =
    read_more named text state new count number rest line behind have next cut shorter read.0 read.1

ok_not_err : {A B : Type 0} (x : A) (e : B) → Err e ≡ Ok x → ⊥
ok_not_err x e same = cc

pub refused_here : (named : Named) (text : List ℕ) (state : State) (reading : Reading) (count number : ℕ) (rest line behind : List ℕ) (fault : LineFault) → HaveLines named text state count rest
    → number ≡ count + 1 → lines_of rest ≡ line ∷ lines_of behind → ReadsOne named number line state (Err fault) (state_of reading) → Tells named text (fault_at number fault reading)
refused_here named text state reading count number rest line behind line_faults.Memory have next cut reads = tt
refused_here named text state reading count number rest line behind (line_faults.Refused kind) have next cut (inl passed) = absurd (ok_not_err _ _ passed.2)
refused_here named text state reading count number rest line behind (line_faults.Refused kind) have next cut (inr read) =
    let P : List (List ℕ) → Type 0 = λ l. IsRefusedAs named l (HasForm line) kind in
    record {
      front = have.front;
      bad = line;
      rest = lines_of behind;
      forms = have.forms;
      whole = have.whole ∙ ap (λ (l : List (List ℕ)). have.front ++ l) cut;
      front_is = have.forms_are;
      bad_counts = read.0;
      bad_is = subst P (actors_are named state have.forms have.state_is) read.1.1;
      number_is = omega (arith, have.counted, next);
      conditions_are = read.1.0 ∙ conditions_are named state have.forms have.state_is;
    }

-- all lines
all_forms : (named : Named) (text : List ℕ) (state : State) (count : ℕ) (rest : List ℕ) → (have : HaveLines named text state count rest) → rest ≡ []
    → AreForms named [] (without_comments (numbered 1 (lines_of text))) have.forms
all_forms named text state count rest have none =
    let same : have.front ≡ lines_of text = sym (have.whole ∙ ap (λ (l : List ℕ). have.front ++ lines_of l) none ∙ append-nil have.front) in
    let P : List (List ℕ) → Type 0 = λ f. AreForms named [] (without_comments (numbered 1 f)) have.forms in
    subst P same have.forms_are

pub answered : (named : Named) (text : List ℕ) (reading : Reading) (count : ℕ) (rest : List ℕ) (r : Result Script ScriptFault) → HaveLines named text (state_of reading) count rest → rest ≡ []
    → Finishes reading r
    → MatchResult r (λ script. Answers named text (Accepted (map (λ phase. phase.items) script.phases.items) script.actors.items script.queries.items script.conditions.items)) (Tells named text)
answered named text reading count rest (Ok script) have none is = record {
  forms = have.forms;
  forms_are = all_forms named text (state_of reading) count rest have none;
  phases_are = is.1 ∙ ap (λ (s : State). s.phases ++ s.lines ∷ []) have.state_is ∙ all_phases named have.forms;
  actors_are = is.0 ∙ actors_are named (state_of reading) have.forms have.state_is;
  queries_are = is.2 ∙ queries_are named (state_of reading) have.forms have.state_is;
  conditions_are = is.3 ∙ conditions_are named (state_of reading) have.forms have.state_is;
}
answered named text reading count rest (Err fault) have none is = subst (Tells named text) (sym is) tt
