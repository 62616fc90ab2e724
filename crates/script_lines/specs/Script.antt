-- What a text says as a script, or at which line it is refused (`Answers`: `IsScript`,
-- `IsRefused`): its lines numbered from 1, what each says (`AreForms`, by Grammar) and why one is
-- refused (Kinds), who has spoken (`actors_of`), what is asked (`queries_of`) over which conditions
-- (`conditions_of`), and phases cut at `sync` (`phases_of`).
-- Not modelled: what a line does, and what a condition says.
-- From: own, this program's format of scripts.
-- Example: `sync` alone makes two phases; over two filters the second `show route where ..` of a
-- script asks for what passes the filter 3.
use Rattle.std.specs.Prelude.{◌≡◌, ℕ, ◌+◌, Bool, true, false, not, is_some, if◌then◌else◌, List}
use Rattle.std.specs.Prelude.{[], ◌∷◌, ◌++◌, length, filter, Option, None, Some, unwrap_or, ⊤}
use Rattle.std.specs.Prelude.{◌<◌, ◌≤◌, ◌^◌, IfSome, option_and_then, option_to_list}
use Rattle.std.specs.List.{All, slice_get}
use Rattle.bits_ip.specs.Address.{family_of}
use Rattle.text.specs.Lines.{lines_of, words_of, begins_with}
use Rattle.import_core.specs.declared.operation.Op.{Op}
use Rattle.import_core.specs.declared.operation.Op.TheVariants as ops
use Rattle.show_route.specs.declared.query.Query.{Query}
use Rattle.queries.specs.Question.{Asked}
use Rattle.script_lines.specs.declared.named.Named.{Named}
use Rattle.script_lines.specs.declared.named.NamedProtocol.{NamedProtocol}
use Rattle.script_lines.specs.declared.named.ProtocolKind.{ProtocolKind}
use Rattle.script_lines.specs.declared.named.ProtocolKind.TheVariants.{Bgp}
use Rattle.script_lines.specs.declared.script.Condition.{Condition}
use Rattle.script_lines.specs.declared.faults.ScriptKind.{ScriptKind}
use Rattle.script_lines.specs.declared.faults.ScriptKind.TheVariants.{Syntax}
use Rattle.script_lines.specs.declared.faults.ScriptFault.{ScriptFault}
use Rattle.script_lines.specs.declared.faults.ScriptFault.TheVariants as faults
use Rattle.script_lines.specs.declared.script.Line.{Line}
use Rattle.script_lines.specs.declared.script.Line.TheVariants as lines
use Rattle.script_lines.specs.Grammar.{Command, Open, Close, Add, Del, Disable, Enable, Reload}
use Rattle.script_lines.specs.Grammar.{ReloadIn, ReloadOut, ShowRoute}
use Rattle.script_lines.specs.Grammar.{Form, Sync, Take, Push, Says, HasForm}
use Rattle.script_lines.specs.Kinds.{place_of, channel_of, protocol_of, session_of, filter_of}
use Rattle.script_lines.specs.Kinds.{asked_table, least_kind, is_bgp}

-- ---- lines

-- each line's number, from this one on, and the line
abbrev pub numbered : ℕ → List (List ℕ) → List (ℕ × List ℕ)
numbered number [] = []
numbered number (line ∷ more) = (number, line) ∷ numbered (number + 1) more

-- A line without words, and one whose first word begins with `#`, is passed over.
abbrev pub are_passed : List (List ℕ) → Bool
are_passed [] = true
are_passed (word ∷ words) = begins_with 35 word

abbrev pub is_passed : List ℕ → Bool
is_passed line = are_passed (words_of line)

-- the lines that aren't passed over
abbrev pub without_comments : List (ℕ × List ℕ) → List (ℕ × List ℕ)
without_comments lines = filter (λ line. not (is_passed line.1)) lines

-- who has spoken when this line is read too: who speaks for the first time is put last
abbrev pub with_actor : List (List ℕ) → Form → List (List ℕ)
with_actor actors (Says actor command) =
    if is_some (place_of actors actor) then actors else actors ++ actor ∷ []
with_actor actors _ = actors

-- who has spoken when these lines are read too, in the order of their first lines
abbrev pub actors_of : List (List ℕ) → List (ℕ × Form) → List (List ℕ)
actors_of actors [] = actors
actors_of actors (said ∷ more) = actors_of (with_actor actors said.1) more

-- Each of these lines has this form, with its number, and no kind applies to it, behind lines of
-- these actors.
abbrev pub AreForms : Named → List (List ℕ) → List (ℕ × List ℕ) → List (ℕ × Form) → Type 0
AreForms named actors [] [] = ⊤
AreForms named actors (line ∷ more) (said ∷ forms) =
    (said.0 ≡ line.0) × HasForm line.1 said.1 × (least_kind named actors said.1 ≡ None)
    × AreForms named (with_actor actors said.1) more forms
AreForms named actors _ _ = ⊥

-- ---- what is asked

-- what a line asks
abbrev pub asked_in : Form → Option Asked
asked_in (Says actor (ShowRoute asked)) = Some asked
asked_in _ = None

-- the condition of a line
abbrev pub condition_in : Form → Option (List ℕ)
condition_in form = option_and_then (λ asked. asked.condition) (asked_in form)

-- the condition of this line, which has this number
abbrev pub condition_at : ℕ → Option (List ℕ) → List Condition
condition_at number None = []
condition_at number (Some text) = record { line = number; text = text } ∷ []

-- the conditions of these lines
abbrev pub conditions_of : List (ℕ × Form) → List Condition
conditions_of [] = []
conditions_of (said ∷ more) = condition_at said.0 (condition_in said.1) ++ conditions_of more

-- The number of the filter that chooses: of a condition, behind so many others, its place among
-- them behind all filters that have names.
abbrev pub choice_by : Named → ℕ → Option (List ℕ) → Option (List ℕ) → Option ℕ
choice_by named before (Some condition) filter = Some (length named.filters + before)
choice_by named before None filter = option_and_then (filter_of named) filter

-- the query of what is asked, behind so many conditions
abbrev pub query_of : Named → ℕ → Asked → Query
query_of named before asked = record {
  table = unwrap_or (asked_table named asked) 0;
  pick = asked.pick;
  choice = choice_by named before asked.condition asked.filter;
  source = option_and_then (protocol_of named) asked.protocol;
  export = option_and_then (session_of named) asked.export;
  primary = asked.primary;
  all = asked.all;
  count = asked.count;
}

-- the query of a line, behind so many conditions
abbrev pub query_at : Named → ℕ → Option Asked → List Query
query_at named before None = []
query_at named before (Some asked) = query_of named before asked ∷ []

-- the queries of these lines, behind so many conditions
abbrev pub queries_of : Named → ℕ → List (ℕ × Form) → List Query
queries_of named before [] = []
queries_of named before (said ∷ more) =
    query_at named before (asked_in said.1)
    ++ queries_of named (before + length (option_to_list (condition_in said.1))) more

-- ---- phases

-- the line of this number, by which this actor does this to a protocol
abbrev pub applied : List (List ℕ) → List ℕ → ℕ → Option ℕ → Op → Line
applied actors actor number protocol op =
    lines.Apply (unwrap_or (place_of actors actor) 0) number (unwrap_or protocol 0) op

-- what the actor's command comes to, where no kind applies, behind so many queries
abbrev pub spoken : Named → List (List ℕ) → ℕ → ℕ → List ℕ → Command → Line
spoken named actors queries number actor (Open id) =
    applied actors actor number (session_of named actor) (ops.SessionUp id)
spoken named actors queries number actor Close =
    applied actors actor number (session_of named actor) ops.SessionDown
spoken named actors queries number actor (Add net given) =
    applied actors actor number (session_of named actor) (ops.Add net given)
spoken named actors queries number actor (Del net) =
    applied actors actor number (session_of named actor) (ops.Del net)
spoken named actors queries number actor (Disable name) =
    applied actors actor number (protocol_of named name) ops.Disable
spoken named actors queries number actor (Enable name) =
    applied actors actor number (protocol_of named name) ops.Enable
spoken named actors queries number actor (Reload name) =
    applied actors actor number (protocol_of named name) ops.Reload
spoken named actors queries number actor (ReloadIn name) =
    applied actors actor number (protocol_of named name) ops.ReloadIn
spoken named actors queries number actor (ReloadOut name) =
    applied actors actor number (protocol_of named name) ops.ReloadOut
spoken named actors queries number actor (ShowRoute asked) =
    lines.Show (unwrap_or (place_of actors actor) 0) queries

-- a line at the front of the first phase
abbrev pub onto_first : Line → List (List Line) → List (List Line)
onto_first line [] = (line ∷ []) ∷ []
onto_first line (phase ∷ phases) = (line ∷ phase) ∷ phases

-- these phases, and a line before them; `sync` begins a phase behind it
abbrev pub with_line :
    Named → List (List ℕ) → ℕ → ℕ → Form → List (List Line) → List (List Line)
with_line named actors queries number Sync phases = [] ∷ phases
with_line named actors queries number (Take channel count) phases =
    onto_first (lines.Take (unwrap_or (channel_of named channel) 0) count) phases
with_line named actors queries number (Push channel count) phases =
    onto_first (lines.Push (unwrap_or (channel_of named channel) 0) count) phases
with_line named actors queries number (Says actor command) phases =
    onto_first (spoken named actors queries number actor command) phases

-- The phases that these lines make, behind lines of these actors with so many queries. An actor's
-- number is its place among those who have spoken, a query's its place among queries.
abbrev pub phases_of : Named → List (List ℕ) → ℕ → List (ℕ × Form) → List (List Line)
phases_of named actors queries [] = [] ∷ []
phases_of named actors queries (said ∷ more) =
    with_line named (with_actor actors said.1) queries said.0 said.1
    (phases_of named (with_actor actors said.1)
    (queries + length (option_to_list (asked_in said.1))) more)

-- ---- answers

-- The text is a script of these phases, actors, queries and conditions.
pub record IsScript (named : Named) (text : List ℕ) (phases : List (List Line))
    (actors : List (List ℕ)) (queries : List Query) (conditions : List Condition) : Type 0 where
  pub forms : List (ℕ × Form)
  pub forms_are : AreForms named [] (without_comments (numbered 1 (lines_of text))) forms
  pub phases_are : phases ≡ phases_of named [] 0 forms
  pub actors_are : actors ≡ actors_of [] forms
  pub queries_are : queries ≡ queries_of named 0 forms
  pub conditions_are : conditions ≡ conditions_of forms

-- A line that says this is refused so, behind lines of these actors: it says nothing by the
-- grammar, or this is the least kind that applies.
abbrev pub IsRefusedAs : Named → List (List ℕ) → (Form → Type 0) → ScriptKind → Type 0
IsRefusedAs named actors Is Syntax = (form : Form) → Is form → ⊥
IsRefusedAs named actors Is kind =
    (form : Form) × Is form × (least_kind named actors form ≡ Some kind)

-- The line of this number is refused, and it is the first; the lines before it have these
-- conditions. All lines are counted, from 1, those passed over too.
pub record IsRefused (named : Named) (text : List ℕ) (number : ℕ) (kind : ScriptKind)
    (conditions : List Condition) : Type 0 where
  pub front : List (List ℕ)
  pub bad : List ℕ
  pub rest : List (List ℕ)
  pub forms : List (ℕ × Form)
  pub whole : lines_of text ≡ front ++ bad ∷ rest
  pub front_is : AreForms named [] (without_comments (numbered 1 front)) forms
  pub bad_counts : is_passed bad ≡ false
  pub bad_is : IsRefusedAs named (actors_of [] forms) (HasForm bad) kind
  pub number_is : number ≡ length front + 1
  pub conditions_are : conditions ≡ conditions_of forms

-- What is answered of a text.
pub data Answer : Type 0 where
  Accepted : (phases : List (List Line)) → (actors : List (List ℕ)) → (queries : List Query)
      → (conditions : List Condition) → Answer
  Refused : (number : ℕ) → (kind : ScriptKind) → (conditions : List Condition) → Answer

-- This is the answer.
abbrev pub Answers : Named → List ℕ → Answer → Type 0
Answers named text (Accepted phases actors queries conditions) =
    IsScript named text phases actors queries conditions
Answers named text (Refused number kind conditions) = IsRefused named text number kind conditions

-- The fault tells the answer, but for want of memory.
abbrev pub Tells : Named → List ℕ → ScriptFault → Type 0
Tells named text (faults.Refused number kind conditions) =
    Answers named text (Refused number kind conditions.items)
Tells named text faults.Memory = ⊤

-- ---- names

-- The tables master4 and master6 are there, and each protocol's table is.
pub record HasTables (named : Named) : Type 0 where
  pub masters : 2 ≤ length named.tables
  pub protocols : All (λ (protocol : NamedProtocol). protocol.table < length named.tables) named.protocols

-- An operation of a script suits a protocol of this kind: what a session does, a bgp one alone has,
-- with nets and gateways of its channel's family, and no script starts a protocol.
abbrev pub Suits : ProtocolKind → Op → Type 0
Suits kind ops.Start = ⊥
Suits kind (ops.SessionUp id) = is_bgp kind ≡ true
Suits kind (ops.Add net given) =
    (kind ≡ Bgp (family_of net.addr)) × (kind ≡ Bgp (family_of given.gw))
Suits kind (ops.Del net) = kind ≡ Bgp (family_of net.addr)
Suits kind ops.SessionDown = is_bgp kind ≡ true
Suits kind _ = ⊤

-- The line names what there is: a channel and a protocol that are declared, an actor that has
-- spoken, one of so many queries; and its operation suits the protocol.
abbrev pub NamesWhatIs : Named → List (List ℕ) → ℕ → Line → Type 0
NamesWhatIs named actors queries (lines.Take channel count) =
    (channel < length named.channels) × (count < 2 ^ 32)
NamesWhatIs named actors queries (lines.Push channel count) =
    (channel < length named.channels) × (count < 2 ^ 32)
NamesWhatIs named actors queries (lines.Apply actor number protocol op) =
    (actor < length actors) × (protocol < length named.protocols)
    × (declared : NamedProtocol) × (slice_get named.protocols protocol ≡ Some declared)
    × Suits declared.kind op
NamesWhatIs named actors queries (lines.Show actor query) =
    (actor < length actors) × (query < queries)

-- The query asks for what there is, with so many conditions: a table, a filter or a condition, a
-- protocol; and for the exports of a bgp protocol that reads its table.
pub record AsksWhatIs (named : Named) (conditions : ℕ) (query : Query) : Type 0 where
  pub table : query.table < length named.tables
  pub choice : IfSome query.choice (λ number. number < length named.filters + conditions)
  pub source : IfSome query.source (λ number. number < length named.protocols)
  pub export : IfSome query.export (λ number.
      (number < length named.protocols) × (declared : NamedProtocol)
      × (slice_get named.protocols number ≡ Some declared) × (is_bgp declared.kind ≡ true)
      × (query.table ≡ declared.table))
