-- When a list of printed phases is legal (`IsLegal`, `AreLegal`). It speaks of what is printed
-- alone, and not of how it came to be: operations, changes, logs, replies and the state; all that a
-- report prints but for names, headings and the order of its blocks. Lists are read backwards.
-- Not modelled: phases that were cut off.
-- From: own; RFC 4271, section 9.2, and RFC 2918, for what may be sent; BIRD User's Guide, "Pipe".
-- Example: the worked run of docs/DEFINITIONS.md is legal, and isn't without its entry at position
-- 1.
use Rattle.std.specs.Prelude.{◌≡◌, ◌==◌, ℕ, List, [], ◌∷◌, ◌++◌, length, Some, None, IsSome, if◌then◌else◌, ⊤}
use Rattle.attrs.specs.declared.route.Change.{Change}
use Rattle.export_core.specs.declared.log.LogItem.{LogItem}
use Rattle.export_core.specs.Logs.{Follows, Settled, stretch}
use Rattle.core_machine.specs.Enters.{enters}
use Rattle.core_machine.specs.Histories.{AreReal, of_those, own}
use Rattle.core_machine.specs.Lines.{Act, Line, Reply, Turn, ops_of, turn_of}
use Rattle.core_machine.specs.Merges.{IsMerge}
use Rattle.core_machine.specs.Pipes.{course_of, passes}
use Rattle.core_machine.specs.Replies.{Answers, questions, replies_to}
use Rattle.core_machine.specs.Rules.{Rules, changes}
use Rattle.core_machine.specs.Signals.{AreSignals, notices, without_sends}
use Rattle.core_machine.specs.SyncState.{IsSyncState, Shown}

-- what is printed of a phase: the changes of each table, the operations of each protocol with who
-- asked for them, the items of each channel's log, the replies, and the state at the end
pub record Printed : Type 0 where
  pub entries : ℕ → List Change
  pub ops : ℕ → List Turn
  pub items : ℕ → List LogItem
  pub replies : List Reply
  pub shown : Shown

-- all phases so far, joined
pub record Joined : Type 0 where
  pub history : ℕ → List Change
  pub ops : ℕ → List Turn
  pub logs : ℕ → List LogItem

abbrev pub nothing : Joined
nothing = record { history = λ table. []; ops = λ i. []; logs = λ c. [] }

-- with one more phase
abbrev pub join : Joined → Printed → Joined
join past p = record {
  history = λ table. p.entries table ++ past.history table;
  ops = λ i. p.ops i ++ past.ops i;
  logs = λ c. p.items c ++ past.logs c;
}

-- A phase is legal, with all phases joined into `all`, those before it into `past`, and the
-- operations `first` done before its lines.
pub record IsLegalIn
    (rules : Rules) (first : ℕ → List Turn) (past all : Joined) (lines : List Line) (p : Printed)
    : Type 0 where
  -- each protocol's operations are a merge of the actors' lines
  pub others : ℕ → List Turn
  pub merge : (i : ℕ) → IsMerge lines i (others i) (first i) (p.ops i)
  -- Each change of a table is one. Those of a protocol in its own table are what its operations
  -- give, in order; those that come by a direction of a pipe are what its log says, in order; and
  -- there are no others.
  pub real : (table : ℕ) → AreReal (all.history table)
  pub exact :
      (i : ℕ) → own i (all.history (rules.table i)) ≡ changes rules i (ops_of (all.ops i))
  pub entered :
      (d table : ℕ) → rules.target d ≡ Some table
      → of_those (passes rules d) (all.history table) ≡ enters rules (all.logs d)
  pub no_others :
      (table i : ℕ) → rules.hops table i ≡ None → own i (all.history table) ≡ []
  -- a channel's log has the signals of the protocol's operations, and sends what it may
  pub signalled :
      (c : ℕ) → AreSignals rules (all.history (rules.reads c)) c (without_sends (all.logs c))
      (notices rules (rules.owner c) (ops_of (all.ops (rules.owner c))))
  pub follows :
      (c : ℕ) → Follows (rules.value c) (course_of rules c (all.history (rules.reads c)))
      (all.logs c)
  -- each actor's questions are answered
  pub answers :
      (actor : ℕ)
      → Answers rules (λ table. length (past.history table)) (λ i. ops_of (first i ++ past.ops i))
      all.history others actor (questions actor lines) (replies_to actor p.replies)
  -- the state at the end is that of the operations, and what is up has sent all
  pub state : IsSyncState rules (λ i. ops_of (all.ops i)) p.shown
  pub settled :
      (c : ℕ) → IsSome (stretch (all.logs c))
      → Settled (rules.value c) (course_of rules c (all.history (rules.reads c))) (all.logs c)

abbrev pub IsLegal : Rules → (ℕ → List Turn) → Joined → List Line → Printed → Type 0
IsLegal rules first past lines p = IsLegalIn rules first past (join past p) lines p

-- the operations on a protocol that no actor asks for
abbrev pub started : List Act → ℕ → List Turn
started [] i = []
started (a ∷ earlier) i =
    if a.protocol == i then turn_of a ∷ started earlier i else started earlier i

-- Phases are legal, one after another: a phase for each script. What no actor asks for is done at
-- the beginning of the first.
abbrev pub AreLegal : Rules → List Act → Joined → List (List Line) → List Printed → Type 0
AreLegal rules starts past [] [] = ⊤
AreLegal rules starts past [] (p ∷ phases) = ⊥
AreLegal rules starts past (lines ∷ more) [] = ⊥
AreLegal rules starts past (lines ∷ more) (p ∷ phases) =
    IsLegal rules (started starts) past lines p × AreLegal rules [] (join past p) more phases
