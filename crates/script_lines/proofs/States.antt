-- What the lines read come to, as the definitions say it from the front.
use Rattle.std.proofs.Common.{◌≡◌, ◌∙◌, sym, ap, refl, ℕ, ◌+◌, ◌≤◌, List, [], ◌∷◌, ◌++◌, length, length-append, arith, Option, Some, None, unwrap_or}
use Rattle.std.specs.Prelude.{option_to_list, option_and_then}
use Rattle.std.proofs.lemmas.List.{append_assoc, append-nil}
use Rattle.show_route.specs.declared.query.Query.{Query}
use Rattle.queries.specs.Question.{Asked}
use Rattle.script_lines.specs.declared.named.Named.{Named}
use Rattle.script_lines.specs.declared.commands.Act.{Act}
use Rattle.script_lines.specs.declared.commands.Act.TheVariants as acts
use Rattle.script_lines.specs.declared.script.Condition.{Condition}
use Rattle.script_lines.specs.declared.script.Line.{Line}
use Rattle.script_lines.specs.declared.script.Line.TheVariants as lines
use Rattle.script_lines.specs.Grammar.{Command, Open, Close, Add, Del, Disable, Enable, Reload, ReloadIn, ReloadOut, ShowRoute, Form, Sync, Take, Push, Says}
use Rattle.script_lines.specs.Kinds.{place_of, channel_of, filter_of}
use Rattle.script_lines.specs.Script.{with_actor, actors_of, spoken, onto_first, with_line, phases_of, asked_in, condition_in, condition_at, conditions_of, choice_by, query_of, query_at, queries_of}
use Rattle.script_lines.specs.Inside.{State, start, acted, act_of, choice_after, chosen, plain_query, with_actors, after}

-- what more lines come to behind these
abbrev pub state_past : Named → State → List (ℕ × Form) → State
state_past named state [] = state
state_past named state (said ∷ more) = state_past named (after named said.0 said.1 state) more

pub past_push : (named : Named) (state : State) (forms : List (ℕ × Form)) (said : ℕ × Form) → state_past named state (forms ++ said ∷ []) ≡ after named said.0 said.1 (state_past named state forms)
past_push named state [] said = refl
past_push named state (one ∷ forms) said = past_push named (after named one.0 one.1 state) forms said

-- actors
acted_actors : (named : Named) (number actor : ℕ) (act : Act) (state : State) → (acted named number actor act state).actors ≡ state.actors
acted_actors named number actor (acts.Apply protocol op) state = refl
acted_actors named number actor (acts.Show query condition) state = refl

after_actors : (named : Named) (number : ℕ) (form : Form) (state : State) → (after named number form state).actors ≡ with_actor state.actors form
after_actors named number Sync state = refl
after_actors named number (Take channel count) state = refl
after_actors named number (Push channel count) state = refl
after_actors named number (Says actor command) state = acted_actors named number _ (act_of named actor command) (with_actors (with_actor state.actors (Says actor command)) state)

pub past_actors : (named : Named) (state : State) (forms : List (ℕ × Form)) → (state_past named state forms).actors ≡ actors_of state.actors forms
past_actors named state [] = refl
past_actors named state (said ∷ forms) =
    past_actors named (after named said.0 said.1 state) forms ∙ ap (λ (l : List (List ℕ)). actors_of l forms) (after_actors named said.0 said.1 state)

-- conditions
says_conditions : (named : Named) (number place : ℕ) (actor : List ℕ) (command : Command) (state : State)
    → (acted named number place (act_of named actor command) state).conditions ≡ state.conditions ++ condition_at number (condition_in (Says actor command))
says_conditions named number place actor (ShowRoute asked) state = refl
says_conditions named number place actor _ state = sym (append-nil state.conditions)

after_conditions : (named : Named) (number : ℕ) (form : Form) (state : State) → (after named number form state).conditions ≡ state.conditions ++ condition_at number (condition_in form)
after_conditions named number Sync state = sym (append-nil state.conditions)
after_conditions named number (Take channel count) state = sym (append-nil state.conditions)
after_conditions named number (Push channel count) state = sym (append-nil state.conditions)
after_conditions named number (Says actor command) state = says_conditions named number _ actor command (with_actors (with_actor state.actors (Says actor command)) state)

pub past_conditions : (named : Named) (state : State) (forms : List (ℕ × Form)) → (state_past named state forms).conditions ≡ state.conditions ++ conditions_of forms
past_conditions named state [] = sym (append-nil state.conditions)
past_conditions named state (said ∷ forms) =
    past_conditions named (after named said.0 said.1 state) forms
    ∙ ap (λ (l : List Condition). l ++ conditions_of forms) (after_conditions named said.0 said.1 state)
    ∙ append_assoc state.conditions (condition_at said.0 (condition_in said.1)) (conditions_of forms)

-- queries
choice_same : (named : Named) (before : ℕ) (condition filter : Option (List ℕ)) → choice_after named before condition (option_and_then (filter_of named) filter) ≡ choice_by named before condition filter
choice_same named before None filter = refl
choice_same named before (Some text) filter = refl

with_choice : Query → Option ℕ → Query
with_choice query choice = record query { choice = choice }

chosen_is : (named : Named) (before : ℕ) (asked : Asked) → chosen named before asked.condition (plain_query named asked) ≡ query_of named before asked
unfolding with_choice
chosen_is named before asked = ap (λ (c : Option ℕ). with_choice (plain_query named asked) c) (choice_same named before asked.condition asked.filter)

says_queries : (named : Named) (number place : ℕ) (actor : List ℕ) (command : Command) (state : State)
    → (acted named number place (act_of named actor command) state).queries ≡ state.queries ++ query_at named (length state.conditions) (asked_in (Says actor command))
says_queries named number place actor (ShowRoute asked) state = ap (λ (q : Query). state.queries ++ q ∷ []) (chosen_is named (length state.conditions) asked)
says_queries named number place actor _ state = sym (append-nil state.queries)

after_queries : (named : Named) (number : ℕ) (form : Form) (state : State) → (after named number form state).queries ≡ state.queries ++ query_at named (length state.conditions) (asked_in form)
after_queries named number Sync state = sym (append-nil state.queries)
after_queries named number (Take channel count) state = sym (append-nil state.queries)
after_queries named number (Push channel count) state = sym (append-nil state.queries)
after_queries named number (Says actor command) state = says_queries named number _ actor command (with_actors (with_actor state.actors (Says actor command)) state)

pub condition_counts : (number : ℕ) (condition : Option (List ℕ)) → length (condition_at number condition) ≡ length (option_to_list condition)
condition_counts number None = refl
condition_counts number (Some text) = refl

more_conditions : (named : Named) (number : ℕ) (form : Form) (state : State)
    → length (after named number form state).conditions ≡ length state.conditions + length (option_to_list (condition_in form))
more_conditions named number form state =
    ap length (after_conditions named number form state) ∙ length-append state.conditions (condition_at number (condition_in form))
    ∙ ap (λ (n : ℕ). length state.conditions + n) (condition_counts number (condition_in form))

pub past_queries : (named : Named) (state : State) (forms : List (ℕ × Form)) → (state_past named state forms).queries ≡ state.queries ++ queries_of named (length state.conditions) forms
past_queries named state [] = sym (append-nil state.queries)
past_queries named state (said ∷ forms) =
    let next = after named said.0 said.1 state in
    let here = query_at named (length state.conditions) (asked_in said.1) in
    past_queries named next forms
    ∙ ap (λ (l : List Query). l ++ queries_of named (length next.conditions) forms) (after_queries named said.0 said.1 state)
    ∙ ap (λ (n : ℕ). (state.queries ++ here) ++ queries_of named n forms) (more_conditions named said.0 said.1 state)
    ∙ append_assoc state.queries here (queries_of named (length state.conditions + length (option_to_list (condition_in said.1))) forms)

pub query_counts : (named : Named) (before : ℕ) (asked : Option Asked) → length (query_at named before asked) ≡ length (option_to_list asked)
query_counts named before None = refl
query_counts named before (Some asked) = refl

more_queries : (named : Named) (number : ℕ) (form : Form) (state : State) → length (after named number form state).queries ≡ length state.queries + length (option_to_list (asked_in form))
more_queries named number form state =
    ap length (after_queries named number form state) ∙ length-append state.queries (query_at named (length state.conditions) (asked_in form))
    ∙ ap (λ (n : ℕ). length state.queries + n) (query_counts named (length state.conditions) (asked_in form))

-- a line puts at most one query and at most one condition
most_one : {X : Type 0} (o : Option X) → length (option_to_list o) ≤ 1
most_one None = omega arith
most_one (Some x) = omega arith

pub one_query_more : (named : Named) (number : ℕ) (form : Form) (state : State) → length (after named number form state).queries ≤ length state.queries + 1
one_query_more named number form state = omega (arith, more_queries named number form state, most_one (asked_in form))

pub one_condition_more : (named : Named) (number : ℕ) (form : Form) (state : State) → length (after named number form state).conditions ≤ length state.conditions + 1
one_condition_more named number form state = omega (arith, more_conditions named number form state, most_one (condition_in form))

-- phases
glue : List Line → List (List Line) → List (List Line)
glue lines [] = lines ∷ []
glue lines (phase ∷ phases) = (lines ++ phase) ∷ phases

act_line : ℕ → ℕ → ℕ → Act → Line
act_line place number queries (acts.Apply protocol op) = lines.Apply place number protocol op
act_line place number queries (acts.Show query condition) = lines.Show place queries

spoken_line : (named : Named) (actors : List (List ℕ)) (queries number : ℕ) (actor : List ℕ) (command : Command)
    → spoken named actors queries number actor command ≡ act_line (unwrap_or (place_of actors actor) 0) number queries (act_of named actor command)
unfolding act_line
spoken_line named actors queries number actor (Open id) = refl
spoken_line named actors queries number actor Close = refl
spoken_line named actors queries number actor (Add net given) = refl
spoken_line named actors queries number actor (Del net) = refl
spoken_line named actors queries number actor (Disable name) = refl
spoken_line named actors queries number actor (Enable name) = refl
spoken_line named actors queries number actor (Reload name) = refl
spoken_line named actors queries number actor (ReloadIn name) = refl
spoken_line named actors queries number actor (ReloadOut name) = refl
spoken_line named actors queries number actor (ShowRoute asked) = refl

-- with a line more in the phase that hasn't ended
one_more : (done : List (List Line)) (lines : List Line) (line : Line) (phase : List Line) (phases : List (List Line))
    → done ++ glue (lines ++ line ∷ []) (phase ∷ phases) ≡ done ++ glue lines ((line ∷ phase) ∷ phases)
unfolding glue
one_more done lines line phase phases = ap (λ (l : List Line). done ++ l ∷ phases) (append_assoc lines (line ∷ []) phase)

acted_phases : (named : Named) (number place : ℕ) (act : Act) (state : State) (phase : List Line) (phases : List (List Line))
    → (acted named number place act state).phases ++ glue (acted named number place act state).lines (phase ∷ phases)
    ≡ state.phases ++ glue state.lines (onto_first (act_line place number (length state.queries) act) (phase ∷ phases))
unfolding act_line
acted_phases named number place (acts.Apply protocol op) state phase phases = one_more state.phases state.lines (lines.Apply place number protocol op) phase phases
acted_phases named number place (acts.Show query condition) state phase phases = one_more state.phases state.lines (lines.Show place (length state.queries)) phase phases

sync_phases : (done : List (List Line)) (lines phase : List Line) (phases : List (List Line)) → (done ++ lines ∷ []) ++ glue [] (phase ∷ phases) ≡ done ++ glue lines ([] ∷ phase ∷ phases)
unfolding glue
sync_phases done lines phase phases = append_assoc done (lines ∷ []) (phase ∷ phases) ∙ ap (λ (l : List Line). done ++ l ∷ phase ∷ phases) (sym (append-nil lines))

after_phases : (named : Named) (number : ℕ) (form : Form) (state : State) (phase : List Line) (phases : List (List Line))
    → (after named number form state).phases ++ glue (after named number form state).lines (phase ∷ phases)
    ≡ state.phases ++ glue state.lines (with_line named (with_actor state.actors form) (length state.queries) number form (phase ∷ phases))
after_phases named number Sync state phase phases = sync_phases state.phases state.lines phase phases
after_phases named number (Take channel count) state phase phases = one_more state.phases state.lines _ phase phases
after_phases named number (Push channel count) state phase phases = one_more state.phases state.lines _ phase phases
after_phases named number (Says actor command) state phase phases =
    let actors = with_actor state.actors (Says actor command) in
    acted_phases named number (unwrap_or (place_of actors actor) 0) (act_of named actor command) (with_actors actors state) phase phases
    ∙ ap (λ (o : Line). state.phases ++ glue state.lines (onto_first o (phase ∷ phases))) (sym (spoken_line named actors (length state.queries) number actor command))

-- there is a phase
abbrev SomePhase : List (List Line) → Type 0
SomePhase phases = (phase : List Line) × (more : List (List Line)) × (phases ≡ phase ∷ more)

some_onto : (line : Line) (phase : List Line) (phases : List (List Line)) → SomePhase (onto_first line (phase ∷ phases))
some_onto line phase phases = (line ∷ phase, phases, refl)

some_with : (named : Named) (actors : List (List ℕ)) (queries number : ℕ) (form : Form) (phase : List Line) (phases : List (List Line)) → SomePhase (with_line named actors queries number form (phase ∷ phases))
some_with named actors queries number Sync phase phases = ([], phase ∷ phases, refl)
some_with named actors queries number (Take channel count) phase phases = some_onto (lines.Take (unwrap_or (channel_of named channel) 0) count) phase phases
some_with named actors queries number (Push channel count) phase phases = some_onto (lines.Push (unwrap_or (channel_of named channel) 0) count) phase phases
some_with named actors queries number (Says actor command) phase phases = some_onto (spoken named actors queries number actor command) phase phases

some_phase : (named : Named) (actors : List (List ℕ)) (queries : ℕ) (forms : List (ℕ × Form)) → SomePhase (phases_of named actors queries forms)
some_phase named actors queries [] = ([], [], refl)
some_phase named actors queries (said ∷ forms) =
    let now = with_actor actors said.1 in
    let behind = some_phase named now (queries + length (option_to_list (asked_in said.1))) forms in
    let first = some_with named now queries said.0 said.1 behind.0 behind.1 in
    (first.0, first.1, ap (with_line named now queries said.0 said.1) behind.2 ∙ first.2)

past_phases : (named : Named) (state : State) (forms : List (ℕ × Form))
    → (state_past named state forms).phases ++ (state_past named state forms).lines ∷ [] ≡ state.phases ++ glue state.lines (phases_of named state.actors (length state.queries) forms)
unfolding glue
past_phases named state [] = ap (λ (l : List Line). state.phases ++ l ∷ []) (sym (append-nil state.lines))
past_phases named state (said ∷ forms) =
    let next = after named said.0 said.1 state in
    let now = with_actor state.actors said.1 in
    let counted = length state.queries + length (option_to_list (asked_in said.1)) in
    let behind = some_phase named now counted forms in
    past_phases named next forms
    ∙ ap (λ (l : List (List ℕ)). next.phases ++ glue next.lines (phases_of named l (length next.queries) forms)) (after_actors named said.0 said.1 state)
    ∙ ap (λ (n : ℕ). next.phases ++ glue next.lines (phases_of named now n forms)) (more_queries named said.0 said.1 state)
    ∙ ap (λ (l : List (List Line)). next.phases ++ glue next.lines l) behind.2
    ∙ after_phases named said.0 said.1 state behind.0 behind.1
    ∙ ap (λ (l : List (List Line)). state.phases ++ glue state.lines (with_line named now (length state.queries) said.0 said.1 l)) (sym behind.2)

no_phase : (phase : List Line) (phases : List (List Line)) → [] ≡ phase ∷ phases → ⊥
no_phase phase phases same = cc

glue_none : (phases : List (List Line)) → SomePhase phases → glue [] phases ≡ phases
unfolding glue
glue_none [] some = absurd (no_phase some.0 some.1 some.2)
glue_none (phase ∷ phases) some = refl

pub all_phases : (named : Named) (forms : List (ℕ × Form)) → (state_past named start forms).phases ++ (state_past named start forms).lines ∷ [] ≡ phases_of named [] 0 forms
all_phases named forms = past_phases named start forms ∙ glue_none (phases_of named [] 0 forms) (some_phase named [] 0 forms)
