-- A channel of the machine (`Channel`), and what each step does to it (`take_one`, `push_one`,
-- `fed`, `IsFed`, `opened`, `closed`, `renewed`): up to where it has read its table, what of it is
-- marked, and its log. Values that stand as sent, and whether the channel is up, are what the log
-- says (specs/Logs of export_core). What a direction of a pipe does to the table that it writes is
-- specs/Machine's.
-- Not modelled: a feed in parts, here it comes as a whole.
-- From: BIRD User's Guide, "Channel options"; RFC 4271, section 9.2; RFC 2918; the order of marks
-- and `due` are own.
-- Example: a refresh sends again what stands; three changes of a net that are taken before a push
-- are sent as one.
use Rattle.std.specs.Prelude.{◌≡◌, ◌&&◌, ◌||◌, ℕ, zero, suc, ◌+◌, nat_lt, Bool, true, false, List, [], ◌∷◌, length, Option, Some, None, is_some, if◌then◌else◌}
use Rattle.std.specs.Option.{option_eq}
use Rattle.std.specs.List.Sorted.{IsStrictlySortedBy}
use Rattle.attrs.specs.declared.attributes.Attrs.{Attrs}
use Rattle.attrs.specs.declared.route.Change.{Change}
use Rattle.attrs.specs.contracts.attributes.AttrsPartialEq.TheImpl as attributes
use Rattle.export_core.specs.declared.log.Key.{Key}
use Rattle.export_core.specs.declared.log.LogItem.{LogItem}
use Rattle.export_core.specs.declared.log.LogItem.TheVariants.{Up, Down, Reload, Sent}
use Rattle.export_core.specs.Keys.{key_cmp}
use Rattle.export_core.specs.Logs.{stretch, account, value_of}
use Rattle.export_core.specs.Marks.{holds}
use Rattle.export_core.specs.Passing.{passed}
use Rattle.core_machine.specs.Histories.{entry, front}
use Rattle.core_machine.specs.Marks.{Marked, find, put, put_all}
use Rattle.core_machine.specs.Pipes.{candidate, heeds, key_of}
use Rattle.core_machine.specs.Rules.{Rules}

pub record Channel : Type 0 where
  -- how many changes of the table it has taken
  pub position : ℕ
  -- the position of the last feed: changes up to there mark nothing when they are taken
  pub floor : ℕ
  pub marks : List Marked
  -- read backwards
  pub log : List LogItem

-- one that never was up
abbrev pub new_channel : Channel
new_channel = record { position = 0; floor = 0; marks = []; log = [] }

abbrev pub is_open : Channel → Bool
is_open ch = is_some (stretch ch.log)

-- a step, so many times
abbrev pub times : {X : Type 0} → ℕ → (X → X) → X → X
times zero f x = x
times (suc n) f x = f (times n f x)

-- ---- takes

-- The channel reads one change further. Above the floor the change's key is marked, where the
-- change means anything to the channel.
abbrev pub taken : Rules → ℕ → Option Change → Channel → Channel
taken rules c None ch = ch
taken rules c (Some x) ch = record ch {
  position = ch.position + 1;
  marks = (if nat_lt ch.floor (ch.position + 1) && heeds rules c x.num
      then put (record { key = key_of rules c x; at = ch.position + 1; due = false }) ch.marks
      else ch.marks);
}

abbrev pub take_one : Rules → ℕ → List Change → Channel → Channel
take_one rules c history ch = taken rules c (entry ch.position history) ch

-- ---- pushes

-- the same attributes in each field, or none
abbrev pub same_value : Option Attrs → Option Attrs → Bool
same_value a b = option_eq (attributes.ghosts).eq a b

-- Whether a push sends, and then whether it sends again what stands: by whether the value stands
-- already, whether a refresh is due, and whether there is a value.
abbrev pub send_of : Bool → Bool → Bool → Option Bool
send_of false due some = Some false
send_of true due some = if due && some then Some true else None

abbrev pub logged : Option Bool → Marked → Option Attrs → List LogItem → List LogItem
logged None m v log = log
logged (Some again) m v log =
    Sent (record { at = m.at; key = m.key; value = v; again = again }) ∷ log

-- what the channel makes of a marked key's candidate at the mark's position
abbrev pub value_at : Rules → ℕ → List Change → Marked → Option Attrs
value_at rules c history m =
    passed (rules.value c) m.key (candidate rules c m.key (front m.at history))

-- what a push of a mark does: it sends its value unless that stands already and none is due
abbrev pub answer : Rules → ℕ → List Change → Marked → Channel → Option Bool
answer rules c history m ch =
    let v = value_at rules c history m in
    send_of (same_value v (value_of (account m.key ch.log))) m.due (is_some v)

-- the first mark is taken out, and sent or not
abbrev pub pushed : Rules → ℕ → List Change → List Marked → Channel → Channel
pushed rules c history [] ch = ch
pushed rules c history (m ∷ more) ch = record ch {
  marks = more;
  log = logged (answer rules c history m ch) m (value_at rules c history m) ch.log;
}

abbrev pub push_one : Rules → ℕ → List Change → Channel → Channel
push_one rules c history ch = pushed rules c history ch.marks ch

-- ---- feeds, and the ends of stretches

-- a feed at the table's head marks these keys
abbrev pub fed : List Key → Bool → ℕ → Channel → Channel
fed keys due head ch = record ch { floor = head; marks = put_all keys head due ch.marks }

-- The keys of a feed, in their order: those that have a candidate, are marked, or stand as sent.
pub record IsFeed
    (rules : Rules) (c : ℕ) (history : List Change) (ch : Channel) (keys : List Key)
    : Type 0 where
  pub ascend : IsStrictlySortedBy key_cmp keys
  pub are :
      (k : Key) → holds k keys
      ≡ (is_some (candidate rules c k history)
      || (is_some (find k ch.marks) || is_some (value_of (account k ch.log))))

abbrev pub opened : ℕ → Channel → Channel
opened head ch = record { position = head; floor = head; marks = []; log = Up head ∷ ch.log }

abbrev pub closed : Channel → Channel
closed ch = record ch { marks = []; log = Down ∷ ch.log }

abbrev pub renewed : Channel → Channel
renewed ch = record ch { log = Reload ∷ ch.log }

-- the channel is fed, all of it
abbrev pub IsFed : Rules → ℕ → List Change → Bool → Channel → Channel → Type 0
IsFed rules c history due ch new =
    (keys : List Key) × IsFeed rules c history ch keys × (new ≡ fed keys due (length history) ch)
