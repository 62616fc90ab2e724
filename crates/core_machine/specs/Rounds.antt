-- The rounds of a sync (`round`): in the order of channels, each one that is up takes to the head
-- of its table, and then pushes until nothing is marked. With pipes a push changes a table, so more
-- than one round may be needed: rounds go on until all channels that are up are settled
-- (`HasRounds`).
-- From: own.
-- Example: where all channels are settled there is no round, and without pipes at most one.
use Rattle.std.specs.Prelude.{◌≡◌, ◌<◌, ◌-◌, ℕ, zero, suc, true, List, [], ◌∷◌, length}
use Rattle.attrs.specs.declared.route.Change.{Change}
use Rattle.core_machine.specs.Channels.{Channel, is_open, times}
use Rattle.core_machine.specs.Lines.{Line, Take, Push}
use Rattle.core_machine.specs.Machine.{State, if_open, push_at, takes}
use Rattle.core_machine.specs.Rules.{Rules}

-- a channel takes all that it hasn't taken of its table
abbrev pub taken_up : Rules → ℕ → State → State
taken_up rules c s =
    takes rules c (length (s.history (rules.reads c)) - (s.channels c).position) s

-- it pushes each of its marks
abbrev pub pushed_out : Rules → ℕ → State → State
pushed_out rules c s = times (length (s.channels c).marks) (push_at rules c) s

-- its turn
abbrev pub turned : Rules → ℕ → State → State
turned rules c s = if_open c (λ open_s. pushed_out rules c (taken_up rules c open_s)) s

-- the same as lines, with any number of pushes
abbrev pub turn_lines : Rules → ℕ → ℕ → State → List Line
turn_lines rules c pushes s =
    Push (record { channel = c; number = pushes })
    ∷ Take (record {
      channel = c;
      number = length (s.history (rules.reads c)) - (s.channels c).position;
    })
    ∷ []

-- the turns of the channels below a number, in their order
abbrev pub turns_to : Rules → ℕ → State → State
turns_to rules zero s = s
turns_to rules (suc c) s = turned rules c (turns_to rules c s)

abbrev pub round : Rules → State → State
round rules s = turns_to rules rules.channels s

-- It has taken all changes of its table, and nothing of it is marked.
pub record IsSettled (history : List Change) (ch : Channel) : Type 0 where
  pub position : ch.position ≡ length history
  pub marks : ch.marks ≡ []

-- each channel that is up
abbrev pub AreSettled : Rules → State → Type 0
AreSettled rules s =
    (c : ℕ) → is_open (s.channels c) ≡ true
    → IsSettled (s.history (rules.reads c)) (s.channels c)

-- A round begins only while not all are settled, and so many come to an end.
pub record HasRounds (rules : Rules) (s : State) (rounds : ℕ) : Type 0 where
  pub end : AreSettled rules (times rounds (round rules) s)
  pub each : (earlier : ℕ) → earlier < rounds
      → AreSettled rules (times earlier (round rules) s) → ⊥
