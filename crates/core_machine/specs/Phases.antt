-- A phase with its sync (`IsPhase`, `Comes`), and what is printed of it (`Prints`, `IsShown`).
-- Not modelled: texts.
-- From: own.
-- Example: of a second phase the changes, operations and items of logs are printed that came behind
-- the first.
use Rattle.std.specs.Prelude.{◌≡◌, ℕ, List, [], ◌∷◌, ◌++◌, length, ⊤}
use Rattle.bits_ip.specs.Prefix.{Net}
use Rattle.export_core.specs.declared.log.Key.{Key}
use Rattle.export_core.specs.Logs.{account, value_of}
use Rattle.core_machine.specs.Channels.{is_open, times}
use Rattle.core_machine.specs.Histories.{content_of}
use Rattle.core_machine.specs.Legal.{Joined, Printed, join}
use Rattle.core_machine.specs.Lines.{Act, Line, ops_of}
use Rattle.core_machine.specs.Machine.{Begins, Plays, State, start}
use Rattle.core_machine.specs.Rounds.{HasRounds, round}
use Rattle.core_machine.specs.Rules.{Rules}
use Rattle.core_machine.specs.SyncState.{Shown}

-- A phase begins where the one before it ended: operations that no actor asks for, the lines of the
-- script up to a `sync`, and the sync.
pub record IsPhase (rules : Rules) (starts : List Act) (lines : List Line) (s t : State)
    : Type 0 where
  pub begun : State
  pub played : State
  pub rounds : ℕ
  pub begins : Begins rules starts (record s { replies = [] }) begun
  pub plays : Plays rules lines begun played
  pub sync : HasRounds rules played rounds
  pub end : t ≡ times rounds (round rules) played

-- A state that phases come to: of each the operations before its lines, and its lines. The newest
-- phase stands first.
abbrev pub Comes : Rules → List (List Act × List Line) → State → Type 0
Comes rules [] s = s ≡ start rules
Comes rules (phase ∷ earlier) s =
    (between : State) × Comes rules earlier between × IsPhase rules phase.0 phase.1 between s

-- the state, printed
pub record IsShown (rules : Rules) (s : State) (shown : Shown) : Type 0 where
  pub rows :
      (table : ℕ) (net : Net) (num : ℕ)
      → shown.rows table net num ≡ content_of (s.history table) net num
  pub modes : (i : ℕ) → shown.modes i ≡ rules.mode i (ops_of (s.ops i))
  pub accepted :
      (i : ℕ) → shown.accepted i ≡ length (rules.accepted i (ops_of (s.ops i)))
  pub up : (c : ℕ) → shown.up c ≡ is_open (s.channels c)
  pub standing :
      (c : ℕ) (k : Key) → shown.standing c k ≡ value_of (account k (s.channels c).log)

-- What is printed of a phase that ends in a state: what that has more than all phases before it
-- printed, its replies, and itself. So the opening of pipes is printed in the first phase.
pub record Prints (rules : Rules) (past : Joined) (t : State) (p : Printed) : Type 0 where
  pub entries : (table : ℕ) → t.history table ≡ p.entries table ++ past.history table
  pub ops : (i : ℕ) → t.ops i ≡ p.ops i ++ past.ops i
  pub items : (c : ℕ) → (t.channels c).log ≡ p.items c ++ past.logs c
  pub replies : t.replies ≡ p.replies
  pub shown : IsShown rules t p.shown

-- the phases of scripts, one after another, and what is printed of them
abbrev pub PlaysAll :
    Rules → List Act → Joined → State → List (List Line) → List Printed → Type 0
PlaysAll rules starts past s [] [] = ⊤
PlaysAll rules starts past s [] (p ∷ phases) = ⊥
PlaysAll rules starts past s (lines ∷ more) [] = ⊥
PlaysAll rules starts past s (lines ∷ more) (p ∷ phases) =
    (t : State) × IsPhase rules starts lines s t × Prints rules past t p
    × PlaysAll rules [] (join past p) t more phases
