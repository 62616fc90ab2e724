-- What the words of a line leave open once their front is read, and which kind applies.
use Rattle.std.proofs.Common.{◌≡◌, ◌∙◌, sym, ap, refl, subst, ℕ, Bool, true, false, cond, List, [], ◌∷◌, ◌++◌, length, arith, Option, Some, None, Result, Ok, Err}
use Rattle.std.specs.Prelude.{codes, is_none, not, unwrap_or}
use Rattle.std.specs.Option.{option_or}
use Rattle.script_lines.specs.declared.named.Named.{Named}
use Rattle.script_lines.specs.declared.faults.ScriptKind.{ScriptKind}
use Rattle.script_lines.specs.declared.faults.ScriptKind.TheVariants as why
use Rattle.script_lines.specs.declared.refusal.LineFault.{LineFault}
use Rattle.script_lines.specs.declared.refusal.LineFault.TheVariants as line_faults
use Rattle.script_lines.specs.declared.commands.Act.{Act}
use Rattle.script_lines.specs.declared.commands.Act.TheVariants as acts
use Rattle.script_lines.specs.declared.reading.Mark.{Mark}
use Rattle.script_lines.specs.declared.reading.Mark.TheVariants as marks
use Rattle.script_lines.specs.declared.script.Condition.{Condition}
use Rattle.script_lines.specs.declared.script.Line.{Line}
use Rattle.show_route.specs.declared.query.Query.{Query}
use Rattle.script_lines.specs.declared.script.Line.TheVariants as lines
use Rattle.queries.specs.Question.{Asked, IsQuestion}
use Rattle.script_lines.specs.Grammar.{Command, Close, ShowRoute, IsCommand, IsStep, IsSpoken, IsActor, Form, Sync, Take, Push, Says, AreForm}
use Rattle.script_lines.specs.Kinds.{place_of, channel_of, has_wrong_actor, has_unknown_name, has_other_family, is_over_limit, is_barred_step, is_actor_too_many, least_kind}
use Rattle.announcements.specs.Limits.{fits}
use Rattle.script_lines.specs.Script.{with_actor, condition_at, IsRefusedAs}
use Rattle.script_lines.specs.Inside.{IfRefused, AreStep, IsNoStep, IsStepOf, mark_text, first_kind, IsActed, IsNoAct, State, and_line, with_actors, acted, choice_after, chosen, IsRead, ReadsLine, Refuses, Does}
use Rattle.announcements.proofs.Words.{first_byte, heads_same, words_behind}

-- the words of a line in which nobody speaks
pub sync_not_take : codes "sync" ≡ codes "!take" → ⊥
sync_not_take e = omega (arith, first_byte 115 33 _ _ e)

pub sync_not_push : codes "sync" ≡ codes "!push" → ⊥
sync_not_push e = omega (arith, first_byte 115 33 _ _ e)

second_byte : (x y a b : ℕ) (xs ys : List ℕ) → x ∷ a ∷ xs ≡ y ∷ b ∷ ys → a ≡ b
second_byte x y a b xs ys same = cc

pub take_not_push : codes "!take" ≡ codes "!push" → ⊥
take_not_push e = omega (arith, second_byte 33 33 116 112 _ _ e)

pub sync_not_spoken : (actor : List ℕ) → codes "sync" ≡ 64 ∷ actor → ⊥
sync_not_spoken actor e = omega (arith, first_byte 115 64 _ _ e)

pub take_not_spoken : (actor : List ℕ) → codes "!take" ≡ 64 ∷ actor → ⊥
take_not_spoken actor e = omega (arith, first_byte 33 64 _ _ e)

pub push_not_spoken : (actor : List ℕ) → codes "!push" ≡ 64 ∷ actor → ⊥
push_not_spoken actor e = omega (arith, first_byte 33 64 _ _ e)

module _ (bytes : List ℕ) where
  pub no_mark : (word : List ℕ) (rest : List (List ℕ)) → ((mark : Mark) → word ≡ mark_text mark → ⊥) → ((actor : List ℕ) → word ≡ 64 ∷ actor → ⊥) → (form : Form) → AreForm bytes (word ∷ rest) form → ⊥
  no_mark word rest none silent Sync is = none marks.Sync (heads_same _ _ _ _ is)
  no_mark word rest none silent (Take channel count) is = none marks.Take (heads_same _ _ _ _ is.whole)
  no_mark word rest none silent (Push channel count) is = none marks.Push (heads_same _ _ _ _ is.whole)
  no_mark word rest none silent (Says actor command) is = silent actor (heads_same _ _ _ _ is.whole)

  pub no_sync : (rest : List (List ℕ)) → (rest ≡ [] → ⊥) → (form : Form) → AreForm bytes (codes "sync" ∷ rest) form → ⊥
  no_sync rest filled Sync is = filled (words_behind _ _ _ _ is)
  no_sync rest filled (Take channel count) is = sync_not_take (heads_same _ _ _ _ is.whole)
  no_sync rest filled (Push channel count) is = sync_not_push (heads_same _ _ _ _ is.whole)
  no_sync rest filled (Says actor command) is = sync_not_spoken actor (heads_same _ _ _ _ is.whole)

  -- what stands behind a label
  step_behind : (label : List ℕ) (rest : List (List ℕ)) (channel : List ℕ) (count : ℕ) → IsStep label (label ∷ rest) channel count → AreStep rest channel count
  step_behind label rest channel count is = record { number = is.number; whole = words_behind _ _ _ _ is.whole; name_is = is.channel_is; count_is = is.count_is }

  pub step_made : (label : List ℕ) (rest : List (List ℕ)) (channel : List ℕ) (count : ℕ) → AreStep rest channel count → IsStep label (label ∷ rest) channel count
  step_made label rest channel count is = record { number = is.number; whole = ap (λ (l : List (List ℕ)). label ∷ l) is.whole; channel_is = is.name_is; count_is = is.count_is }

  pub no_take : (rest : List (List ℕ)) → ((name : List ℕ) (count : ℕ) → AreStep rest name count → ⊥) → (form : Form) → AreForm bytes (codes "!take" ∷ rest) form → ⊥
  no_take rest none Sync is = sync_not_take (sym (heads_same _ _ _ _ is))
  no_take rest none (Take channel count) is = none channel count (step_behind (codes "!take") rest channel count is)
  no_take rest none (Push channel count) is = take_not_push (heads_same _ _ _ _ is.whole)
  no_take rest none (Says actor command) is = take_not_spoken actor (heads_same _ _ _ _ is.whole)

  pub no_push : (rest : List (List ℕ)) → ((name : List ℕ) (count : ℕ) → AreStep rest name count → ⊥) → (form : Form) → AreForm bytes (codes "!push" ∷ rest) form → ⊥
  no_push rest none Sync is = sync_not_push (sym (heads_same _ _ _ _ is))
  no_push rest none (Take channel count) is = take_not_push (sym (heads_same _ _ _ _ is.whole))
  no_push rest none (Push channel count) is = none channel count (step_behind (codes "!push") rest channel count is)
  no_push rest none (Says actor command) is = push_not_spoken actor (heads_same _ _ _ _ is.whole)

  -- the kinds of a step, by whether the channel is known, the number fits, and scripts may schedule
  step_kinds : Bool → Bool → Bool → Option ScriptKind
  step_kinds unknown fit schedule = cond unknown (Some why.UnknownName) (cond (not fit) (Some why.AttrLimit) (cond (not schedule) (Some why.ScheduleInRun) None))

  step_kinds_are : (unknown fit schedule a b c : Bool) → a ≡ unknown → b ≡ fit → c ≡ schedule → step_kinds a b c ≡ step_kinds unknown fit schedule
  step_kinds_are unknown fit schedule a b c one other third =
      ap (λ (x : Bool). step_kinds x b c) one ∙ ap (λ (x : Bool). step_kinds unknown x c) other ∙ ap (λ (x : Bool). step_kinds unknown fit x) third

  take_kind : (named : Named) (actors : List (List ℕ)) (name : List ℕ) (count : ℕ) (unknown fit schedule : Bool) → is_none (channel_of named name) ≡ unknown → fits count ≡ fit → named.schedule ≡ schedule
      → least_kind named actors (Take name count) ≡ step_kinds unknown fit schedule
  unfolding step_kinds
  take_kind named actors name count unknown fit schedule one other third = step_kinds_are unknown fit schedule (is_none (channel_of named name)) (fits count) named.schedule one other third

  push_kind : (named : Named) (actors : List (List ℕ)) (name : List ℕ) (count : ℕ) (unknown fit schedule : Bool) → is_none (channel_of named name) ≡ unknown → fits count ≡ fit → named.schedule ≡ schedule
      → least_kind named actors (Push name count) ≡ step_kinds unknown fit schedule
  unfolding step_kinds
  push_kind named actors name count unknown fit schedule one other third = step_kinds_are unknown fit schedule (is_none (channel_of named name)) (fits count) named.schedule one other third

  known : (o : Option ℕ) (n : ℕ) → o ≡ Some n → (is_none o ≡ false) × (n ≡ unwrap_or o 0)
  known o n is = (ap is_none is, ap (λ (p : Option ℕ). unwrap_or p 0) (sym is))

  unknown_fits : (b c : Bool) → step_kinds true b c ≡ Some why.UnknownName
  unfolding step_kinds
  unknown_fits b c = refl

  over_limit : (c : Bool) → step_kinds false false c ≡ Some why.AttrLimit
  unfolding step_kinds
  over_limit c = refl

  barred : step_kinds false true false ≡ Some why.ScheduleInRun
  unfolding step_kinds
  barred = refl

  all_fine : step_kinds false true true ≡ None
  unfolding step_kinds
  all_fine = refl

  make_state : List (List ℕ) → List (List Line) → List Line → List Query → List Condition → State
  make_state actors phases said queries conditions = record { actors = actors; phases = phases; lines = said; queries = queries; conditions = conditions }

  -- a line more in the phase that hasn't ended
  pub line_put : (old new : State) (line : Line) → new.actors ≡ old.actors → new.phases ≡ old.phases → new.lines ≡ old.lines ++ line ∷ [] → new.queries ≡ old.queries → new.conditions ≡ old.conditions
      → new ≡ and_line line old
  unfolding make_state
  line_put old new line actors phases lines_are queries conditions =
      ap (λ (x : List (List ℕ)). make_state x new.phases new.lines new.queries new.conditions) actors ∙ ap (λ (x : List (List Line)). make_state old.actors x new.lines new.queries new.conditions) phases
      ∙ ap (λ (x : List Line). make_state old.actors old.phases x new.queries new.conditions) lines_are
      ∙ ap (λ (x : List Query). make_state old.actors old.phases (old.lines ++ line ∷ []) x new.conditions) queries
      ∙ ap (λ (x : List Condition). make_state old.actors old.phases (old.lines ++ line ∷ []) old.queries x) conditions

  -- a query more, and the line that asks it
  pub query_put : (named : Named) (number actor place before : ℕ) (query : Query) (choice : Option ℕ) (condition : Option (List ℕ)) (old new : State) → new.actors ≡ old.actors → new.phases ≡ old.phases
      → new.lines ≡ old.lines ++ lines.Show actor place ∷ [] → new.queries ≡ old.queries ++ record query { choice = choice } ∷ [] → new.conditions ≡ old.conditions ++ condition_at number condition
      → place ≡ length old.queries → before ≡ length old.conditions → choice ≡ choice_after named before condition query.choice → new ≡ acted named number actor (acts.Show query condition) old
  unfolding make_state
  query_put named number actor place before query choice condition old new actors phases lines_are queries conditions place_is before_is choice_is =
      let said = lines_are ∙ ap (λ (n : ℕ). old.lines ++ lines.Show actor n ∷ []) place_is in
      let number_is = choice_is ∙ ap (λ (n : ℕ). choice_after named n condition query.choice) before_is in
      let asked = queries ∙ ap (λ (c : Option ℕ). old.queries ++ record query { choice = c } ∷ []) number_is in
      ap (λ (x : List (List ℕ)). make_state x new.phases new.lines new.queries new.conditions) actors ∙ ap (λ (x : List (List Line)). make_state old.actors x new.lines new.queries new.conditions) phases
      ∙ ap (λ (x : List Line). make_state old.actors old.phases x new.queries new.conditions) said
      ∙ ap (λ (x : List Query). make_state old.actors old.phases (old.lines ++ lines.Show actor (length old.queries) ∷ []) x new.conditions) asked
      ∙ ap (λ (x : List Condition). make_state old.actors old.phases (old.lines ++ lines.Show actor (length old.queries) ∷ [])
      (old.queries ++ chosen named (length old.conditions) condition query ∷ []) x) conditions

  -- a refused line leaves the conditions
  pub refuses : (named : Named) (words : List (List ℕ)) (old new : State) (fault : LineFault) → new.conditions ≡ old.conditions → IfRefused (IsRefusedAs named old.actors (AreForm bytes words)) fault
      → Refuses named bytes words old new fault
  refuses named words old new (line_faults.Refused kind) stay is = (stay, is)
  refuses named words old new line_faults.Memory stay is = tt

  pub take_read : (named : Named) (number : ℕ) (rest : List (List ℕ)) (old new : State) (channel count : ℕ) → IsStepOf named rest channel count → new ≡ and_line (lines.Take channel count) old
      → IsRead named number bytes (codes "!take" ∷ rest) old new
  take_read named number rest old new channel count is put =
      let place = known (channel_of named is.name) channel is.channel_is in
      record {
        form = Take is.name count;
        form_is = step_made (codes "!take") rest is.name count is.is;
        fine = take_kind named old.actors is.name count false true true place.0 is.fine is.allowed ∙ all_fine;
        new_is = put ∙ ap (λ (n : ℕ). and_line (lines.Take n count) old) place.1;
      }

  pub push_read : (named : Named) (number : ℕ) (rest : List (List ℕ)) (old new : State) (channel count : ℕ) → IsStepOf named rest channel count → new ≡ and_line (lines.Push channel count) old
      → IsRead named number bytes (codes "!push" ∷ rest) old new
  push_read named number rest old new channel count is put =
      let place = known (channel_of named is.name) channel is.channel_is in
      record {
        form = Push is.name count;
        form_is = step_made (codes "!push") rest is.name count is.is;
        fine = push_kind named old.actors is.name count false true true place.0 is.fine is.allowed ∙ all_fine;
        new_is = put ∙ ap (λ (n : ℕ). and_line (lines.Push n count) old) place.1;
      }

  pub take_refused : (named : Named) (actors rest : List (List ℕ)) (fault : LineFault) → IfRefused (IsNoStep named rest) fault → IfRefused (IsRefusedAs named actors (AreForm bytes (codes "!take" ∷ rest))) fault
  take_refused named actors rest line_faults.Memory is = tt
  take_refused named actors rest (line_faults.Refused why.Syntax) is = no_take rest is
  take_refused named actors rest (line_faults.Refused why.UnknownActor) is = absurd is
  take_refused named actors rest (line_faults.Refused why.UnknownName) is =
      (Take is.0 is.1, step_made (codes "!take") rest is.0 is.1 is.2, take_kind named actors is.0 is.1 true (fits is.1) named.schedule is.3 refl refl ∙ unknown_fits (fits is.1) named.schedule)
  take_refused named actors rest (line_faults.Refused why.Nettype) is = absurd is
  take_refused named actors rest (line_faults.Refused why.AttrLimit) is =
      (Take is.0 is.1, step_made (codes "!take") rest is.0 is.1 is.2, take_kind named actors is.0 is.1 false false named.schedule is.3 is.4 refl ∙ over_limit named.schedule)
  take_refused named actors rest (line_faults.Refused why.ScheduleInRun) is =
      (Take is.0 is.1, step_made (codes "!take") rest is.0 is.1 is.2, take_kind named actors is.0 is.1 false true false is.3 is.4 is.5 ∙ barred)
  take_refused named actors rest (line_faults.Refused why.Actors) is = absurd is
  take_refused named actors rest (line_faults.Refused why.Expression) is = absurd is

  pub push_refused : (named : Named) (actors rest : List (List ℕ)) (fault : LineFault) → IfRefused (IsNoStep named rest) fault → IfRefused (IsRefusedAs named actors (AreForm bytes (codes "!push" ∷ rest))) fault
  push_refused named actors rest line_faults.Memory is = tt
  push_refused named actors rest (line_faults.Refused why.Syntax) is = no_push rest is
  push_refused named actors rest (line_faults.Refused why.UnknownActor) is = absurd is
  push_refused named actors rest (line_faults.Refused why.UnknownName) is =
      (Push is.0 is.1, step_made (codes "!push") rest is.0 is.1 is.2, push_kind named actors is.0 is.1 true (fits is.1) named.schedule is.3 refl refl ∙ unknown_fits (fits is.1) named.schedule)
  push_refused named actors rest (line_faults.Refused why.Nettype) is = absurd is
  push_refused named actors rest (line_faults.Refused why.AttrLimit) is =
      (Push is.0 is.1, step_made (codes "!push") rest is.0 is.1 is.2, push_kind named actors is.0 is.1 false false named.schedule is.3 is.4 refl ∙ over_limit named.schedule)
  push_refused named actors rest (line_faults.Refused why.ScheduleInRun) is =
      (Push is.0 is.1, step_made (codes "!push") rest is.0 is.1 is.2, push_kind named actors is.0 is.1 false true false is.3 is.4 is.5 ∙ barred)
  push_refused named actors rest (line_faults.Refused why.Actors) is = absurd is
  push_refused named actors rest (line_faults.Refused why.Expression) is = absurd is

  -- what somebody says
  pub spoken_behind : (actor : List ℕ) (rest : List (List ℕ)) (other : List ℕ) (command : Command) → IsSpoken bytes ((64 ∷ actor) ∷ rest) other command → (other ≡ actor) × IsActor other × IsCommand bytes rest command
  spoken_behind actor rest other command is =
      let word : 64 ∷ actor ≡ 64 ∷ other = heads_same _ _ _ _ is.whole in
      let same : other ≡ actor = cc in
      (same, is.actor_is, subst (λ (l : List (List ℕ)). IsCommand bytes l command) (sym (words_behind _ _ _ _ is.whole)) is.command_is)

  pub spoken_made : (actor : List ℕ) (rest : List (List ℕ)) (command : Command) → IsActor actor → IsCommand bytes rest command → IsSpoken bytes ((64 ∷ actor) ∷ rest) actor command
  spoken_made actor rest command is command_is = record { rest = rest; whole = refl; actor_is = is; command_is = command_is }

  -- what `show route` asks
  pub said_question : (words : List (List ℕ)) (actor : List ℕ) (asked : Asked) → IsSpoken bytes words actor (ShowRoute asked) → IsQuestion bytes asked
  said_question words actor asked is = is.command_is.rest_is.2

  pub no_speaker : (actor : List ℕ) (rest : List (List ℕ)) → (IsActor actor → ⊥) → (form : Form) → AreForm bytes ((64 ∷ actor) ∷ rest) form → ⊥
  no_speaker actor rest none Sync is = sync_not_spoken actor (sym (heads_same _ _ _ _ is))
  no_speaker actor rest none (Take channel count) is = take_not_spoken actor (sym (heads_same _ _ _ _ is.whole))
  no_speaker actor rest none (Push channel count) is = push_not_spoken actor (sym (heads_same _ _ _ _ is.whole))
  no_speaker actor rest none (Says other command) is = let at = spoken_behind actor rest other command is in none (subst IsActor at.0 at.1)

  pub no_spoken : (actor : List ℕ) (rest : List (List ℕ)) → ((command : Command) → IsCommand bytes rest command → ⊥) → (form : Form) → AreForm bytes ((64 ∷ actor) ∷ rest) form → ⊥
  no_spoken actor rest none Sync is = sync_not_spoken actor (sym (heads_same _ _ _ _ is))
  no_spoken actor rest none (Take channel count) is = take_not_spoken actor (sym (heads_same _ _ _ _ is.whole))
  no_spoken actor rest none (Push channel count) is = push_not_spoken actor (sym (heads_same _ _ _ _ is.whole))
  no_spoken actor rest none (Says other command) is = none command (spoken_behind actor rest other command is).2

  -- the least kind is the least of those that don't rest on who has spoken, or else the last
  chain : Bool → Bool → Bool → Bool → Bool → Option ScriptKind → Option ScriptKind
  chain a b c d e last = cond a (Some why.UnknownActor) (cond b (Some why.UnknownName) (cond c (Some why.Nettype) (cond d (Some why.AttrLimit) (cond e (Some why.ScheduleInRun) last))))

  chain_last : (a b c d e : Bool) (last : Option ScriptKind) → chain a b c d e last ≡ option_or (chain a b c d e None) last
  unfolding chain
  chain_last true b c d e last = refl
  chain_last false true c d e last = refl
  chain_last false false true d e last = refl
  chain_last false false false true e last = refl
  chain_last false false false false true last = refl
  chain_last false false false false false last = refl

  pub least_from_first : (named : Named) (actors : List (List ℕ)) (form : Form)
      → least_kind named actors form ≡ option_or (first_kind named form) (cond (is_actor_too_many actors form) (Some why.Actors) None)
  unfolding chain
  least_from_first named actors form =
      chain_last (has_wrong_actor named form) (has_unknown_name named form) (has_other_family named form) (is_over_limit form) (is_barred_step named form) (cond (is_actor_too_many actors form) (Some why.Actors) None)

  least_some : (named : Named) (actors : List (List ℕ)) (form : Form) (kind : ScriptKind) → first_kind named form ≡ Some kind → least_kind named actors form ≡ Some kind
  least_some named actors form kind is =
      least_from_first named actors form ∙ ap (λ (o : Option ScriptKind). option_or o (cond (is_actor_too_many actors form) (Some why.Actors) None)) is

  least_last : (named : Named) (actors : List (List ℕ)) (form : Form) (many : Bool) → first_kind named form ≡ None → is_actor_too_many actors form ≡ many
      → least_kind named actors form ≡ cond many (Some why.Actors) None
  least_last named actors form many is other =
      least_from_first named actors form ∙ ap (λ (o : Option ScriptKind). option_or o (cond (is_actor_too_many actors form) (Some why.Actors) None)) is
      ∙ ap (λ (b : Bool). cond b (Some why.Actors) None) other

  none_or : (first : Option ScriptKind) (many : Bool) → option_or first (cond many (Some why.Actors) None) ≡ None → many ≡ false
  none_or None true is = cc
  none_or None false is = refl
  none_or (Some kind) many is = cc

  -- the last kind applies only where nothing else does
  pub least_fine : (named : Named) (actors : List (List ℕ)) (form : Form) → least_kind named actors form ≡ None → is_actor_too_many actors form ≡ false
  least_fine named actors form fine = none_or (first_kind named form) (is_actor_too_many actors form) (sym (least_from_first named actors form) ∙ fine)

  act_refused : (named : Named) (actors : List (List ℕ)) (actor : List ℕ) (rest : List (List ℕ)) (kind : ScriptKind) → IsActor actor
      → (command : Command) × IsCommand bytes rest command × (first_kind named (Says actor command) ≡ Some kind)
      → (form : Form) × AreForm bytes ((64 ∷ actor) ∷ rest) form × (least_kind named actors form ≡ Some kind)
  act_refused named actors actor rest kind speaks is = (Says actor is.0, spoken_made actor rest is.0 speaks is.1, least_some named actors (Says actor is.0) kind is.2)

  pub command_refused : (named : Named) (actors : List (List ℕ)) (actor : List ℕ) (rest : List (List ℕ)) (fault : LineFault) → IsActor actor → IfRefused (IsNoAct named actor bytes rest) fault
      → IfRefused (IsRefusedAs named actors (AreForm bytes ((64 ∷ actor) ∷ rest))) fault
  command_refused named actors actor rest line_faults.Memory speaks is = tt
  command_refused named actors actor rest (line_faults.Refused why.Syntax) speaks is = no_spoken actor rest is
  command_refused named actors actor rest (line_faults.Refused why.UnknownActor) speaks is = act_refused named actors actor rest why.UnknownActor speaks is
  command_refused named actors actor rest (line_faults.Refused why.UnknownName) speaks is = act_refused named actors actor rest why.UnknownName speaks is
  command_refused named actors actor rest (line_faults.Refused why.Nettype) speaks is = act_refused named actors actor rest why.Nettype speaks is
  command_refused named actors actor rest (line_faults.Refused why.AttrLimit) speaks is = act_refused named actors actor rest why.AttrLimit speaks is
  command_refused named actors actor rest (line_faults.Refused why.ScheduleInRun) speaks is = act_refused named actors actor rest why.ScheduleInRun speaks is
  command_refused named actors actor rest (line_faults.Refused why.Actors) speaks is = act_refused named actors actor rest why.Actors speaks is
  command_refused named actors actor rest (line_faults.Refused why.Expression) speaks is = act_refused named actors actor rest why.Expression speaks is

  actors_refused : (named : Named) (actors : List (List ℕ)) (actor : List ℕ) (rest : List (List ℕ)) (act : Act) (kind : ScriptKind) → IsActor actor → IsActed named actor bytes rest act
      → (kind ≡ why.Actors) × (is_actor_too_many actors (Says actor Close) ≡ true) → IsRefusedAs named actors (AreForm bytes ((64 ∷ actor) ∷ rest)) kind
  actors_refused named actors actor rest act kind speaks is many =
      subst (IsRefusedAs named actors (AreForm bytes ((64 ∷ actor) ∷ rest))) (sym many.0)
      (Says actor is.command, spoken_made actor rest is.command speaks is.command_is, least_last named actors (Says actor is.command) true is.fine many.1)

  pub number_refused : (named : Named) (actors : List (List ℕ)) (actor : List ℕ) (rest : List (List ℕ)) (act : Act) (fault : LineFault) → IsActor actor → IsActed named actor bytes rest act
      → IfRefused (λ kind. (kind ≡ why.Actors) × (is_actor_too_many actors (Says actor Close) ≡ true)) fault → IfRefused (IsRefusedAs named actors (AreForm bytes ((64 ∷ actor) ∷ rest))) fault
  number_refused named actors actor rest act line_faults.Memory speaks is many = tt
  number_refused named actors actor rest act (line_faults.Refused kind) speaks is many = actors_refused named actors actor rest act kind speaks is many

  -- what was said is put behind what was said before
  pub spoken_read : (named : Named) (number : ℕ) (actor : List ℕ) (rest : List (List ℕ)) (act : Act) (place : ℕ) (old middle new : State) → IsActor actor → IsActed named actor bytes rest act
      → (middle.actors ≡ with_actor old.actors (Says actor Close)) → is_actor_too_many old.actors (Says actor Close) ≡ false → place_of middle.actors actor ≡ Some place
      → middle ≡ with_actors middle.actors old → new ≡ acted named number place act middle → IsRead named number bytes ((64 ∷ actor) ∷ rest) old new
  spoken_read named number actor rest act place old middle new speaks is actors fine place_is kept_rest put =
      let now = with_actor old.actors (Says actor Close) in
      let middle_is : middle ≡ with_actors now old = kept_rest ∙ ap (λ (l : List (List ℕ)). with_actors l old) actors in
      let number_is = known (place_of now actor) place (ap (λ (l : List (List ℕ)). place_of l actor) (sym actors) ∙ place_is) in
      record {
        form = Says actor is.command;
        form_is = spoken_made actor rest is.command speaks is.command_is;
        fine = least_last named old.actors (Says actor is.command) false is.fine fine;
        new_is = put ∙ ap (λ (s : State). acted named number place act s) middle_is
            ∙ ap (λ (n : ℕ). acted named number n act (with_actors now old)) number_is.1
            ∙ ap (λ (a : Act). acted named number (unwrap_or (place_of now actor) 0) a (with_actors now old)) is.act_is;
      }

  pub put_result : (named : Named) (number : ℕ) (actor : List ℕ) (rest : List (List ℕ)) (act : Act) (place : ℕ) (old middle new : State) (r : Result (Unit {0}) LineFault) → IsActor actor
      → IsActed named actor bytes rest act → (middle.actors ≡ with_actor old.actors (Says actor Close)) → is_actor_too_many old.actors (Says actor Close) ≡ false → place_of middle.actors actor ≡ Some place
      → middle ≡ with_actors middle.actors old → Does named number place act middle r new → ReadsLine named number bytes ((64 ∷ actor) ∷ rest) old r new
  put_result named number actor rest act place old middle new (Ok done) speaks is actors fine place_is kept_rest does =
      spoken_read named number actor rest act place old middle new speaks is actors fine place_is kept_rest does
  put_result named number actor rest act place old middle new (Err fault) speaks is actors fine place_is kept_rest does =
      subst (Refuses named bytes ((64 ∷ actor) ∷ rest) old new) (sym does) tt
