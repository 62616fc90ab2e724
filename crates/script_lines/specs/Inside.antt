-- For private contracts alone: the parts of a line as they are read one after the other, and what
-- the lines so far come to.
-- Not modelled: where in the line a word stands.
use Rattle.std.specs.Prelude.{◌≡◌, ℕ, ◌+◌, ◌<◌, ◌≤◌, ◌^◌, Bool, true, false, ◌&&◌, ◌⊎◌}
use Rattle.std.specs.Prelude.{is_none, IsTrue, List, [], ◌∷◌, ◌++◌}
use Rattle.std.specs.Prelude.{length, map, codes, Option, None, Some, unwrap_or, Result, Ok, Err, ⊤}
use Rattle.std.specs.Prelude.{MatchResult, option_and_then}
use Rattle.std.specs.List.{position, find}
use Rattle.bits_ip.specs.Address.{family_of}
use Rattle.bits_ip.specs.Prefix.{Net}
use Rattle.bits_ip.specs.declared.address.Addr.{Addr}
use Rattle.queries.specs.Name.{is_name}
use Rattle.queries.specs.Question.{Asked}
use Rattle.show_route.specs.declared.query.Query.{Query}
use Rattle.text.specs.Lines.{behind_words, words_of}
use Rattle.import_core.specs.declared.operation.Op.{Op}
use Rattle.import_core.specs.declared.operation.Op.TheVariants as ops
use Rattle.announcements.specs.declared.refusal.Refusal.{Refusal}
use Rattle.announcements.specs.declared.refusal.Refusal.TheVariants as refusals
use Rattle.script_lines.specs.declared.refusal.LineFault.{LineFault}
use Rattle.script_lines.specs.declared.refusal.LineFault.TheVariants as line_faults
use Rattle.script_lines.specs.declared.faults.ScriptKind.{ScriptKind}
use Rattle.script_lines.specs.declared.faults.ScriptKind.TheVariants as why
use Rattle.script_lines.specs.declared.faults.ScriptFault.{ScriptFault}
use Rattle.script_lines.specs.declared.faults.ScriptFault.TheVariants as faults
use Rattle.script_lines.specs.declared.named.Named.{Named}
use Rattle.script_lines.specs.declared.named.NamedProtocol.{NamedProtocol}
use Rattle.script_lines.specs.declared.named.NamedTable.{NamedTable}
use Rattle.script_lines.specs.declared.commands.Act.{Act}
use Rattle.script_lines.specs.declared.commands.Act.TheVariants as acts
use Rattle.script_lines.specs.declared.commands.Verb.{Verb}
use Rattle.script_lines.specs.declared.commands.Verb.TheVariants as verbs
use Rattle.script_lines.specs.declared.commands.Reload.{Reload}
use Rattle.script_lines.specs.declared.commands.Reload.TheVariants as reloads
use Rattle.script_lines.specs.declared.reading.Mark.{Mark}
use Rattle.script_lines.specs.declared.reading.Mark.TheVariants as marks
use Rattle.script_lines.specs.declared.reading.Reading.{Reading}
use Rattle.script_lines.specs.declared.script.Condition.{Condition}
use Rattle.script_lines.specs.declared.script.Line.{Line}
use Rattle.script_lines.specs.declared.script.Line.TheVariants as lines
use Rattle.script_lines.specs.declared.script.Script.{Script}
use Rattle.announcements.specs.Grammar.{IsDecimal}
use Rattle.script_lines.specs.Grammar.{AreName}
use Rattle.script_lines.specs.Grammar.{AreWordAndName, IsCommand, AreForm}
use Rattle.script_lines.specs.Grammar.{Command, Open, Close, Add, Del, Disable, Enable}
use Rattle.script_lines.specs.Grammar.{ReloadIn, ReloadOut, ShowRoute, Form, Sync, Take}
use Rattle.script_lines.specs.Grammar.{Push, Says}
use Rattle.script_lines.specs.Grammar as grammar
use Rattle.script_lines.specs.Kinds.{place_of, channel_of, protocol_of, session_of, is_called}
use Rattle.script_lines.specs.Kinds.{is_session_of, is_of_family}
use Rattle.announcements.specs.Limits.{fits}
use Rattle.script_lines.specs.Kinds.{applies, least_kind}
use Rattle.script_lines.specs.Kinds.{is_actor_too_many, is_table, filter_of, asked_table}
use Rattle.script_lines.specs.Kinds.{asks_unknown, asks_other_family}
use Rattle.script_lines.specs.Script.{is_passed, with_actor, condition_at, IsRefusedAs}

abbrev pub protocol_place : List NamedProtocol → List ℕ → Option ℕ
protocol_place protocols name = position (is_called name) protocols

abbrev pub table_place : List NamedTable → List ℕ → Option ℕ
table_place tables name = position (is_table name) tables

abbrev pub session_place : List NamedProtocol → List ℕ → Option ℕ
session_place protocols name = position (is_session_of name) protocols

-- why a line isn't read, of which a part isn't
abbrev pub fault_of : Refusal → LineFault
fault_of refusals.Form = line_faults.Refused why.Syntax
fault_of refusals.Memory = line_faults.Memory

-- the fault of the line of this number, behind those that were read
abbrev pub fault_at : ℕ → LineFault → Reading → ScriptFault
fault_at line (line_faults.Refused kind) reading = faults.Refused line kind reading.conditions
fault_at line line_faults.Memory reading = faults.Memory

-- what holds where a line is refused
abbrev pub IfRefused : (ScriptKind → Type 0) → LineFault → Type 0
IfRefused P (line_faults.Refused kind) = P kind
IfRefused P line_faults.Memory = ⊤

-- the first word of a command
abbrev pub verb_text : Verb → List ℕ
verb_text verbs.Open = codes "open"
verb_text verbs.Close = codes "close"
verb_text verbs.Add = codes "add"
verb_text verbs.Del = codes "del"
verb_text verbs.Disable = codes "disable"
verb_text verbs.Enable = codes "enable"
verb_text verbs.Reload = codes "reload"
verb_text verbs.Show = codes "show"

-- the query of what is asked, with the number of the filter if that has a name
abbrev pub plain_query : Named → Asked → Query
plain_query named asked = record {
  table = unwrap_or (asked_table named asked) 0;
  pick = asked.pick;
  choice = option_and_then (filter_of named) asked.filter;
  source = option_and_then (protocol_of named) asked.protocol;
  export = option_and_then (session_of named) asked.export;
  primary = asked.primary;
  all = asked.all;
  count = asked.count;
}

-- what a command comes to, where no kind applies
abbrev pub act_of : Named → List ℕ → Command → Act
act_of named actor (Open id) = acts.Apply (unwrap_or (session_of named actor) 0) (ops.SessionUp id)
act_of named actor Close = acts.Apply (unwrap_or (session_of named actor) 0) ops.SessionDown
act_of named actor (Add net given) =
    acts.Apply (unwrap_or (session_of named actor) 0) (ops.Add net given)
act_of named actor (Del net) = acts.Apply (unwrap_or (session_of named actor) 0) (ops.Del net)
act_of named actor (Disable name) = acts.Apply (unwrap_or (protocol_of named name) 0) ops.Disable
act_of named actor (Enable name) = acts.Apply (unwrap_or (protocol_of named name) 0) ops.Enable
act_of named actor (grammar.Reload name) =
    acts.Apply (unwrap_or (protocol_of named name) 0) ops.Reload
act_of named actor (ReloadIn name) = acts.Apply (unwrap_or (protocol_of named name) 0) ops.ReloadIn
act_of named actor (ReloadOut name) =
    acts.Apply (unwrap_or (protocol_of named name) 0) ops.ReloadOut
act_of named actor (ShowRoute asked) = acts.Show (plain_query named asked) asked.condition

-- the kinds that don't rest on who has spoken before
abbrev pub first_kinds : List ScriptKind
first_kinds =
    why.Syntax ∷ why.UnknownActor ∷ why.UnknownName ∷ why.Nettype ∷ why.AttrLimit
    ∷ why.ScheduleInRun ∷ []

abbrev pub first_kind : Named → Form → Option ScriptKind
first_kind named form = find (applies named [] form) first_kinds

-- These words, with these bytes behind the second, are a command that comes to this.
pub record IsActed (named : Named) (actor bytes : List ℕ) (words : List (List ℕ)) (act : Act)
    : Type 0 where
  pub command : Command
  pub command_is : IsCommand bytes words command
  pub fine : first_kind named (Says actor command) ≡ None
  pub act_is : act ≡ act_of named actor command

-- these words are no command, or one that is refused so
abbrev pub IsNoAct : Named → List ℕ → List ℕ → List (List ℕ) → ScriptKind → Type 0
IsNoAct named actor bytes words why.Syntax =
    (command : Command) → IsCommand bytes words command → ⊥
IsNoAct named actor bytes words kind =
    (command : Command) × IsCommand bytes words command
    × (first_kind named (Says actor command) ≡ Some kind)

abbrev pub Acts : Named → List ℕ → List ℕ → List (List ℕ) → Result Act LineFault → Type 0
Acts named actor bytes words result =
    MatchResult result (IsActed named actor bytes words)
    (IfRefused (IsNoAct named actor bytes words))

-- what is asked is refused so
abbrev pub IsUnfit : Named → Asked → ScriptKind → Type 0
IsUnfit named asked why.UnknownName = asks_unknown named asked ≡ true
IsUnfit named asked why.Nettype =
    (asks_unknown named asked ≡ false) × (asks_other_family named asked ≡ true)
IsUnfit named asked kind = ⊥

-- what is asked comes to this, or is refused so
abbrev pub Judges : Named → Asked → Result Act LineFault → Type 0
Judges named asked result =
    MatchResult result
    (λ act. (asks_unknown named asked ≡ false) × (asks_other_family named asked ≡ false)
    × (act ≡ acts.Show (plain_query named asked) asked.condition))
    (IfRefused (IsUnfit named asked))

-- an operation of the actor's own session
abbrev pub IsSessionLine : Named → List ℕ → Op → Result Act LineFault → Type 0
IsSessionLine named actor op (Ok act) =
    (is_none (session_of named actor) ≡ false)
    × (act ≡ acts.Apply (unwrap_or (session_of named actor) 0) op)
IsSessionLine named actor op (Err fault) =
    (is_none (session_of named actor) ≡ true) × (fault ≡ line_faults.Refused why.UnknownActor)

-- an operation on the protocol of this name
abbrev pub IsNamedLine : Named → List ℕ → Op → Result Act LineFault → Type 0
IsNamedLine named name op (Ok act) =
    (is_none (protocol_of named name) ≡ false)
    × (act ≡ acts.Apply (unwrap_or (protocol_of named name) 0) op)
IsNamedLine named name op (Err fault) =
    (is_none (protocol_of named name) ≡ true) × (fault ≡ line_faults.Refused why.UnknownName)

abbrev pub are_of_family : Named → List ℕ → Net → Addr → Bool
are_of_family named actor net gateway =
    is_of_family named actor (family_of net.addr) && is_of_family named actor (family_of gateway)

abbrev pub reload_op : Reload → Op
reload_op reloads.Both = ops.Reload
reload_op reloads.In = ops.ReloadIn
reload_op reloads.Out = ops.ReloadOut

-- what stands behind `reload`
abbrev pub IsReload : List (List ℕ) → Reload → List ℕ → Type 0
IsReload words reloads.Both name = AreName words name
IsReload words reloads.In name = AreWordAndName (codes "in") words name
IsReload words reloads.Out name = AreWordAndName (codes "out") words name

abbrev pub IsReloadWord : Reload → List ℕ → Type 0
IsReloadWord reloads.Both word = ⊥
IsReloadWord reloads.In word = word ≡ codes "in"
IsReloadWord reloads.Out word = word ≡ codes "out"

-- the first word of a line in which nobody speaks
abbrev pub mark_text : Mark → List ℕ
mark_text marks.Sync = codes "sync"
mark_text marks.Take = codes "!take"
mark_text marks.Push = codes "!push"

-- a channel's name and a number
pub record AreStep (words : List (List ℕ)) (name : List ℕ) (count : ℕ) : Type 0 where
  pub number : List ℕ
  pub whole : words ≡ name ∷ number ∷ []
  pub name_is : IsTrue (is_name name)
  pub count_is : IsDecimal number count

-- a channel's name and a number that are refused so, if no label is wrong
abbrev pub IsNoStep : Named → List (List ℕ) → ScriptKind → Type 0
IsNoStep named words why.Syntax = (name : List ℕ) (count : ℕ) → AreStep words name count → ⊥
IsNoStep named words why.UnknownName =
    (name : List ℕ) × (count : ℕ) × AreStep words name count
    × (is_none (channel_of named name) ≡ true)
IsNoStep named words why.AttrLimit =
    (name : List ℕ) × (count : ℕ) × AreStep words name count
    × (is_none (channel_of named name) ≡ false) × (fits count ≡ false)
IsNoStep named words why.ScheduleInRun =
    (name : List ℕ) × (count : ℕ) × AreStep words name count
    × (is_none (channel_of named name) ≡ false) × (fits count ≡ true) × (named.schedule ≡ false)
IsNoStep named words kind = ⊥

-- a channel's name and a number that are refused nowhere
pub record IsStepOf (named : Named) (words : List (List ℕ)) (channel count : ℕ) : Type 0 where
  pub name : List ℕ
  pub is : AreStep words name count
  pub channel_is : channel_of named name ≡ Some channel
  pub fine : fits count ≡ true
  pub allowed : named.schedule ≡ true

abbrev pub Steps : Named → List (List ℕ) → Result (ℕ × ℕ) LineFault → Type 0
Steps named words result =
    MatchResult result (λ found. IsStepOf named words found.0 found.1)
    (IfRefused (IsNoStep named words))

-- What the lines so far come to.
pub record State : Type 0 where
  pub actors : List (List ℕ)
  pub phases : List (List Line)
  pub lines : List Line
  pub queries : List Query
  pub conditions : List Condition

abbrev pub state_of : Reading → State
state_of reading = record {
  actors = reading.actors.items;
  phases = map (λ phase. phase.items) reading.phases.items;
  lines = reading.lines.items;
  queries = reading.queries.items;
  conditions = reading.conditions.items;
}

-- nothing is read
abbrev pub start : State
start = record { actors = []; phases = []; lines = []; queries = []; conditions = [] }

-- There is room for the line of this number: for its actor, its query and its condition.
pub record HasRoom (named : Named) (number : ℕ) (state : State) : Type 0 where
  pub actors : length state.actors ≤ 64
  pub queries : length state.queries < number
  pub conditions : length named.filters + length state.conditions < 2 ^ 32

-- a line more in the phase that hasn't ended
abbrev pub and_line : Line → State → State
and_line line state = record {
  actors = state.actors;
  phases = state.phases;
  lines = state.lines ++ line ∷ [];
  queries = state.queries;
  conditions = state.conditions;
}

-- the number of the filter: of a condition, behind so many others, its place behind all filters
abbrev pub choice_after : Named → ℕ → Option (List ℕ) → Option ℕ → Option ℕ
choice_after named before None choice = choice
choice_after named before (Some condition) choice = Some (length named.filters + before)

-- the query with the choice of its condition
abbrev pub chosen : Named → ℕ → Option (List ℕ) → Query → Query
chosen named before condition query =
    record query { choice = choice_after named before condition query.choice }

-- what the actor of this number does in the line of this number
abbrev pub acted : Named → ℕ → ℕ → Act → State → State
acted named number actor (acts.Apply protocol op) state =
    and_line (lines.Apply actor number protocol op) state
acted named number actor (acts.Show query condition) state = record {
  actors = state.actors;
  phases = state.phases;
  lines = state.lines ++ lines.Show actor (length state.queries) ∷ [];
  queries = state.queries ++ chosen named (length state.conditions) condition query ∷ [];
  conditions = state.conditions ++ condition_at number condition;
}

abbrev pub with_actors : List (List ℕ) → State → State
with_actors actors state = record {
  actors = actors;
  phases = state.phases;
  lines = state.lines;
  queries = state.queries;
  conditions = state.conditions;
}

-- what the lines come to with one more
abbrev pub after : Named → ℕ → Form → State → State
after named number Sync state = record {
  actors = state.actors;
  phases = state.phases ++ state.lines ∷ [];
  lines = [];
  queries = state.queries;
  conditions = state.conditions;
}
after named number (Take channel count) state =
    and_line (lines.Take (unwrap_or (channel_of named channel) 0) count) state
after named number (Push channel count) state =
    and_line (lines.Push (unwrap_or (channel_of named channel) 0) count) state
after named number (Says actor command) state =
    let actors = with_actor state.actors (Says actor command) in
    acted named number (unwrap_or (place_of actors actor) 0) (act_of named actor command)
    (with_actors actors state)

-- a line of this form is read
pub record IsRead (named : Named) (number : ℕ) (bytes : List ℕ) (words : List (List ℕ))
    (old new : State) : Type 0 where
  pub form : Form
  pub form_is : AreForm bytes words form
  pub fine : least_kind named old.actors form ≡ None
  pub new_is : new ≡ after named number form old

-- a line is refused, and the conditions stay
abbrev pub Refuses :
    Named → List ℕ → List (List ℕ) → State → State → LineFault → Type 0
Refuses named bytes words old new =
    IfRefused (λ kind. (new.conditions ≡ old.conditions)
    × IsRefusedAs named old.actors (AreForm bytes words) kind)

abbrev pub ReadsLine :
    Named → ℕ → List ℕ → List (List ℕ) → State → Result (Unit {0}) LineFault → State → Type 0
ReadsLine named number bytes words old result new =
    MatchResult result (λ _. IsRead named number bytes words old new)
    (Refuses named bytes words old new)

-- a line is read, or passed over
abbrev pub ReadsOne :
    Named → ℕ → List ℕ → State → Result (Unit {0}) LineFault → State → Type 0
ReadsOne named number line old result new =
    ((is_passed line ≡ true) × (new ≡ old) × (result ≡ Ok tt))
    ⊎ ((is_passed line ≡ false)
    × ReadsLine named number (behind_words 3 line) (words_of line) old result new)

-- the actor's number, and those who have spoken
abbrev pub Numbers : List ℕ → List (List ℕ) → Result ℕ LineFault → List (List ℕ) → Type 0
Numbers actor old result new =
    MatchResult result (λ number. (new ≡ with_actor old (Says actor Close))
    × (is_actor_too_many old (Says actor Close) ≡ false) × (place_of new actor ≡ Some number))
    (IfRefused (λ kind. (kind ≡ why.Actors) × (is_actor_too_many old (Says actor Close) ≡ true)))

-- what was said is put behind what was said before
abbrev pub Does :
    Named → ℕ → ℕ → Act → State → Result (Unit {0}) LineFault → State → Type 0
Does named number actor act old result new =
    MatchResult result (λ _. new ≡ acted named number actor act old)
    (λ fault. fault ≡ line_faults.Memory)

-- so is a condition
abbrev pub PutsCondition :
    ℕ → Option (List ℕ) → List Condition → Result (Unit {0}) LineFault → List Condition → Type 0
PutsCondition number condition old result new =
    MatchResult result (λ _. new ≡ old ++ condition_at number condition)
    (λ fault. fault ≡ line_faults.Memory)

-- all lines are read
abbrev pub Finishes : Reading → Result Script ScriptFault → Type 0
Finishes reading (Ok script) =
    (script.actors.items ≡ reading.actors.items)
    × (map (λ phase. phase.items) script.phases.items
    ≡ map (λ phase. phase.items) reading.phases.items ++ reading.lines.items ∷ [])
    × (script.queries.items ≡ reading.queries.items)
    × (script.conditions.items ≡ reading.conditions.items)
Finishes reading (Err fault) = fault ≡ faults.Memory
