-- What a line says by the grammar alone, with numbers of any size (`HasForm`, `IsCommand`, `IsDel`,
-- `IsStep`, `IsSpoken`, `IsActor`): `sync`, `!take`, `!push`, and by whom a command is given: `open`,
-- `close`, `add`, `del`, `disable`, `enable`, `reload` with its two kinds, and `show route` with what
-- is asked. A line is its words; of `@NAME show route` what stands behind the third word is bytes
-- too, since a condition goes on to the line's end as it is written.
-- Not modelled: what an `add` says (specs/Grammar of announcements), what is asked (specs/Question
-- of queries), which names there are, limits of numbers, whether a condition is one.
-- From: own, this program's format of scripts; `show route`, `disable`, `enable` and `reload` are
-- those of BIRD's client (BIRD User's Guide, "Remote control").
-- Example: `!take p1 007` says 7; `!take p$ 1`, `@ show route`, `sync # x`, `@x show route where(1)`
-- say nothing; `@x reload in` is of a protocol called in; `@x show route where` asks for what
-- passes a condition without bytes.
use Rattle.std.specs.Prelude.{◌≡◌, ℕ, ◌^◌, ◌<◌, ◌≤◌, IsTrue}
use Rattle.std.specs.Prelude.{List, [], ◌∷◌, length, codes}
use Rattle.bits_ip.specs.Prefix.{Net}
use Rattle.bits_ip.specs.Text.{IsNetText, v4_text}
use Rattle.import_core.specs.declared.operation.Given.{Given}
use Rattle.queries.specs.Name.{is_name}
use Rattle.queries.specs.Question.{Asked, IsQuestion}
use Rattle.text.specs.Lines.{behind_words, words_of}
use Rattle.announcements.specs.Grammar.{IsDecimal, IsAdd}

-- a net alone
pub record IsDel (words : List (List ℕ)) (net : Net) : Type 0 where
  pub word : List ℕ
  pub whole : words ≡ word ∷ []
  pub net_is : IsNetText word net

-- What somebody says. An operation of a session is on the protocol that has the speaker's name.
pub data Command : Type 0 where
  Open : (id : ℕ) → Command
  Close : Command
  Add : (net : Net) → (given : Given) → Command
  Del : (net : Net) → Command
  -- of the protocol of this name
  Disable : (protocol : List ℕ) → Command
  Enable : (protocol : List ℕ) → Command
  Reload : (protocol : List ℕ) → Command
  ReloadIn : (protocol : List ℕ) → Command
  ReloadOut : (protocol : List ℕ) → Command
  -- `show route` and what is asked
  ShowRoute : (asked : Asked) → Command

-- a command's first word
abbrev pub first_word : Command → List ℕ
first_word (Open id) = codes "open"
first_word Close = codes "close"
first_word (Add net given) = codes "add"
first_word (Del net) = codes "del"
first_word (Disable protocol) = codes "disable"
first_word (Enable protocol) = codes "enable"
first_word (Reload protocol) = codes "reload"
first_word (ReloadIn protocol) = codes "reload"
first_word (ReloadOut protocol) = codes "reload"
first_word (ShowRoute asked) = codes "show"

-- these words are this name
abbrev pub AreName : List (List ℕ) → List ℕ → Type 0
AreName words name = (words ≡ name ∷ []) × IsTrue (is_name name)

-- a word and a name
abbrev pub AreWordAndName : List ℕ → List (List ℕ) → List ℕ → Type 0
AreWordAndName word words name = (words ≡ word ∷ name ∷ []) × IsTrue (is_name name)

-- What stands behind it: these words, and behind the first of them these bytes.
abbrev pub IsBehind : List ℕ → Command → List (List ℕ) → Type 0
IsBehind bytes (Open id) words = (words ≡ v4_text id ∷ []) × (id < 2 ^ 32)
IsBehind bytes Close words = words ≡ []
IsBehind bytes (Add net given) words = IsAdd words net given
IsBehind bytes (Del net) words = IsDel words net
IsBehind bytes (Disable protocol) words = AreName words protocol
IsBehind bytes (Enable protocol) words = AreName words protocol
IsBehind bytes (Reload protocol) words = AreName words protocol
IsBehind bytes (ReloadIn protocol) words = AreWordAndName (codes "in") words protocol
IsBehind bytes (ReloadOut protocol) words = AreWordAndName (codes "out") words protocol
IsBehind bytes (ShowRoute asked) words =
    (more : List (List ℕ)) × (words ≡ codes "route" ∷ more) × IsQuestion bytes asked

-- these words, with these bytes behind the second, are this command
pub record IsCommand (bytes : List ℕ) (words : List (List ℕ)) (command : Command) : Type 0 where
  pub rest : List (List ℕ)
  pub whole : words ≡ first_word command ∷ rest
  pub rest_is : IsBehind bytes command rest

-- What a line says by the grammar.
pub data Form : Type 0 where
  -- a phase ends
  Sync : Form
  -- so many takes, or pushes, of the channel of this name
  Take : (channel : List ℕ) → (count : ℕ) → Form
  Push : (channel : List ℕ) → (count : ℕ) → Form
  -- somebody gives a command
  Says : (actor : List ℕ) → (command : Command) → Form

-- a label, a channel's name and a number
pub record IsStep (label : List ℕ) (words : List (List ℕ)) (channel : List ℕ) (count : ℕ) : Type 0
  where
    pub number : List ℕ
    pub whole : words ≡ label ∷ channel ∷ number ∷ []
    pub channel_is : IsTrue (is_name channel)
    pub count_is : IsDecimal number count

-- who speaks has a name of at most 64 bytes
abbrev pub IsActor : List ℕ → Type 0
IsActor actor = IsTrue (is_name actor) × (length actor ≤ 64)

-- @NAME and a command
pub record IsSpoken (bytes : List ℕ) (words : List (List ℕ)) (actor : List ℕ) (command : Command)
    : Type 0 where
  pub rest : List (List ℕ)
  pub whole : words ≡ (64 ∷ actor) ∷ rest
  pub actor_is : IsActor actor
  pub command_is : IsCommand bytes rest command

-- these words, with these bytes behind the third, say this
abbrev pub AreForm : List ℕ → List (List ℕ) → Form → Type 0
AreForm bytes words Sync = words ≡ codes "sync" ∷ []
AreForm bytes words (Take channel count) = IsStep (codes "!take") words channel count
AreForm bytes words (Push channel count) = IsStep (codes "!push") words channel count
AreForm bytes words (Says actor command) = IsSpoken bytes words actor command

-- this line says this
abbrev pub HasForm : List ℕ → Form → Type 0
HasForm line form = AreForm (behind_words 3 line) (words_of line) form
