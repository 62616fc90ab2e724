-- The machine: what the lines of a script do, in their order, to tables, protocols and channels
-- (`Applies`, `Steps`, `Plays`). A history for each table, the operations of each protocol with who
-- asked for them, channels, and the replies.
-- Not modelled: memory, threads and a largest position.
-- From: BIRD User's Guide, "Remote control" and "Pipe"; RFC 4271, section 9; scripts and phases are
-- own.
-- Example: with a journal of one change each channel takes one before the next change comes.
use Rattle.std.specs.Prelude.{◌≡◌, ◌==◌, ℕ, Bool, true, false, List, [], ◌∷◌, length, Option, Some, None, if◌then◌else◌}
use Rattle.attrs.specs.declared.attributes.Attrs.{Attrs}
use Rattle.attrs.specs.declared.route.Change.{Change}
use Rattle.export_core.specs.declared.log.Key.{Key}
use Rattle.core_machine.specs.Channels.{Channel, IsFed, answer, closed, is_open, new_channel, opened, push_one, renewed, take_one, times, value_at}
use Rattle.core_machine.specs.Enters.{change_to, standing_keys, withdrawal}
use Rattle.core_machine.specs.Lines.{Act, Line, Apply, Take, Push, Show, Reply, Turn, ops_of, turn_of}
use Rattle.core_machine.specs.Marks.{Marked}
use Rattle.core_machine.specs.Room.{in_room}
use Rattle.core_machine.specs.Rules.{Rules, Signal, Stay, Rise, Fall, Renew}

-- What a protocol has come to is what its operations say. All lists are read backwards.
pub record State : Type 0 where
  pub history : ℕ → List Change
  pub ops : ℕ → List Turn
  pub channels : ℕ → Channel
  pub replies : List Reply

-- a function with another value at one number
abbrev pub set : {X : Type 0} → ℕ → X → (ℕ → X) → ℕ → X
set i x old j = if i == j then x else old j

abbrev pub with_channel : ℕ → Channel → State → State
with_channel c ch s = record s { channels = set c ch s.channels }

abbrev pub with_turn : ℕ → Turn → State → State
with_turn i t s = record s { ops = set i (t ∷ s.ops i) s.ops }

-- a channel that is down does nothing
abbrev pub if_open : ℕ → (State → State) → State → State
if_open c f s = if is_open (s.channels c) then f s else s

-- ---- changes come to a table one by one, and before each one room is made in the table

abbrev pub added : Rules → ℕ → Change → State → State
added rules table x s = record s {
  history = set table (x ∷ s.history table) s.history;
  channels = in_room rules table (s.history table) s.channels;
}

abbrev pub appended : Rules → ℕ → List Change → State → State
appended rules table [] s = s
appended rules table (x ∷ earlier) s = added rules table x (appended rules table earlier s)

-- ---- takes and pushes

abbrev pub takes : Rules → ℕ → ℕ → State → State
takes rules c n s =
    with_channel c (times n (take_one rules c (s.history (rules.reads c))) (s.channels c)) s

-- the change that a direction of a pipe makes when it pushes a mark: none where it sends nothing,
-- or only again what stands
abbrev pub gain : Rules → Option Bool → Marked → Option Attrs → Option Change
gain rules None m v = None
gain rules (Some true) m v = None
gain rules (Some false) m v = Some (change_to rules m.key v)

abbrev pub gained : Rules → ℕ → List Change → List Marked → Channel → Option Change
gained rules c history [] ch = None
gained rules c history (m ∷ more) ch =
    gain rules (answer rules c history m ch) m (value_at rules c history m)

abbrev pub arrived : Rules → Option ℕ → Option Change → State → State
arrived rules None change s = s
arrived rules (Some table) None s = s
arrived rules (Some table) (Some x) s = added rules table x s

-- A push: what a direction of a pipe sends comes to the table that it writes.
abbrev pub push_at : Rules → ℕ → State → State
push_at rules c s =
    let history = s.history (rules.reads c) in
    let ch = s.channels c in
    with_channel c (push_one rules c history ch)
    (arrived rules (rules.target c) (gained rules c history ch.marks ch) s)

-- ---- signals

-- the withdrawals of these keys come to a table, in their order
abbrev pub flushed : Rules → ℕ → List Key → State → State
flushed rules table [] s = s
flushed rules table (k ∷ keys) s =
    flushed rules table keys (added rules table (withdrawal k) s)

-- they come to the table that a direction of a pipe writes
abbrev pub left_by : Rules → Option ℕ → List Key → State → State
left_by rules None keys s = s
left_by rules (Some table) keys s = flushed rules table keys s

abbrev pub Feeds : Rules → ℕ → Bool → Channel → State → State → Type 0
Feeds rules c due ch s t =
    (new : Channel) × IsFed rules c (s.history (rules.reads c)) due ch new
    × (t ≡ with_channel c new s)

-- What a signal does to a channel: a feed follows a rise, and after a refresh its marks are due. A
-- direction of a pipe that goes down withdraws first what stands as sent.
abbrev pub Obeys : Signal → Rules → ℕ → State → State → Type 0
Obeys Stay rules c s t = t ≡ s
Obeys Rise rules c s t =
    Feeds rules c false (opened (length (s.history (rules.reads c))) (s.channels c)) s t
Obeys Fall rules c s t =
    let u = left_by rules (rules.target c) (standing_keys (s.channels c).log) s in
    t ≡ with_channel c (closed (u.channels c)) u
Obeys Renew rules c s t = Feeds rules c true (renewed (s.channels c)) s t

-- and to some channels, one after another
abbrev pub AllObey : Signal → Rules → List ℕ → State → State → Type 0
AllObey signal rules [] s t = t ≡ s
AllObey signal rules (c ∷ more) s t =
    (between : State) × Obeys signal rules c s between × AllObey signal rules more between t

-- An operation: its changes come, and then its protocol's channels obey its signal.
abbrev pub Applies : Rules → Act → State → State → Type 0
Applies rules a s t =
    let i = a.protocol in
    let effect = rules.gives i (ops_of (s.ops i)) a.op in
    AllObey effect.signal rules (rules.belong i)
    (with_turn i (turn_of a) (appended rules (rules.table i) effect.changes s)) t

-- ---- lines

-- what a line does
abbrev pub Steps : Rules → Line → State → State → Type 0
Steps rules (Apply a) s t = Applies rules a s t
Steps rules (Take n) s t = t ≡ if_open n.channel (takes rules n.channel n.number) s
Steps rules (Push n) s t = t ≡ if_open n.channel (times n.number (push_at rules n.channel)) s
Steps rules (Show q) s t =
    t ≡ record s {
      replies = record {
        actor = q.actor;
        table = q.table;
        at = length (s.history q.table);
        query = q.query;
      } ∷ s.replies;
    }

-- what lines do, one after another
abbrev pub Plays : Rules → List Line → State → State → Type 0
Plays rules [] s t = t ≡ s
Plays rules (line ∷ earlier) s t =
    (between : State) × Plays rules earlier s between × Steps rules line between t

-- operations that no actor asks for, one after another
abbrev pub Begins : Rules → List Act → State → State → Type 0
Begins rules [] s t = t ≡ s
Begins rules (a ∷ earlier) s t =
    (between : State) × Begins rules earlier s between × Applies rules a between t

-- The state before the first phase. The directions of pipes are up.
abbrev pub start : Rules → State
start rules = record {
  history = λ table. [];
  ops = λ i. [];
  channels = λ c. if rules.first (rules.owner c) then opened 0 new_channel else new_channel;
  replies = [];
}
