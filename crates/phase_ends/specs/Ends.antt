-- What is known of a phase that has ended (`Ends`): all that makes it legal but for the state, and
-- that the state is printed as tables, operations and logs have it (`AreShown`).
-- All lists are read backwards.
-- Not modelled: phases that were cut off.
-- From: own.
-- Example: a table's rows are printed as its history leaves them.
use Rattle.std.specs.Prelude.{◌≡◌, ℕ, List, [], ◌∷◌, ◌++◌, length, Some, None, IfSome, IsSome}
use Rattle.std.specs.Prelude.{is_some, ⊤}
use Rattle.attrs.specs.declared.route.Change.{Change}
use Rattle.bits_ip.specs.Prefix.{Net}
use Rattle.export_core.specs.Logs.{Follows, Settled, account, stretch, value_of}
use Rattle.export_core.specs.declared.log.Key.{Key}
use Rattle.core_machine.specs.Enters.{enters}
use Rattle.core_machine.specs.Histories.{AreReal, content_of, of_those, own}
use Rattle.core_machine.specs.Legal.{Joined, Printed, join}
use Rattle.core_machine.specs.Lines.{Line, Turn, ops_of}
use Rattle.core_machine.specs.Merges.{IsMerge}
use Rattle.core_machine.specs.Pipes.{course_of, passes}
use Rattle.core_machine.specs.Replies.{Answers, questions, replies_to}
use Rattle.core_machine.specs.Rules.{Rules, changes}
use Rattle.core_machine.specs.Signals.{AreSignals, notices, without_sends}
use Rattle.core_machine.specs.SyncState.{Shown}

-- each change's new route is of its source
abbrev pub AreSourced : List Change → Type 0
AreSourced [] = ⊤
AreSourced (c ∷ earlier) = IfSome c.new (λ route. route.src.num ≡ c.num) × AreSourced earlier

-- rows as histories leave them, modes and counts of accepted routes as operations say, and channels
-- and what stands as logs say
pub record AreShown (rules : Rules) (all : Joined) (shown : Shown) : Type 0 where
  pub rows :
      (table : ℕ) (net : Net) (num : ℕ)
      → shown.rows table net num ≡ content_of (all.history table) net num
  pub modes : (i : ℕ) → shown.modes i ≡ rules.mode i (ops_of (all.ops i))
  pub accepted :
      (i : ℕ) → shown.accepted i ≡ length (rules.accepted i (ops_of (all.ops i)))
  pub up : (c : ℕ) → shown.up c ≡ is_some (stretch (all.logs c))
  pub standing :
      (c : ℕ) (k : Key) → shown.standing c k ≡ value_of (account k (all.logs c))

-- the phase has ended, with all phases joined into `all`
pub record EndsIn
    (rules : Rules) (first : ℕ → List Turn) (past all : Joined) (lines : List Line) (p : Printed)
    : Type 0 where
  pub others : ℕ → List Turn
  pub merge : (i : ℕ) → IsMerge lines i (others i) (first i) (p.ops i)
  pub real : (table : ℕ) → AreReal (all.history table)
  pub exact :
      (i : ℕ) → own i (all.history (rules.table i)) ≡ changes rules i (ops_of (all.ops i))
  pub entered :
      (d table : ℕ) → rules.target d ≡ Some table
      → of_those (passes rules d) (all.history table) ≡ enters rules (all.logs d)
  pub no_others :
      (table i : ℕ) → rules.hops table i ≡ None → own i (all.history table) ≡ []
  pub signalled :
      (c : ℕ) → AreSignals rules (all.history (rules.reads c)) c (without_sends (all.logs c))
      (notices rules (rules.owner c) (ops_of (all.ops (rules.owner c))))
  pub follows :
      (c : ℕ) → Follows (rules.value c) (course_of rules c (all.history (rules.reads c)))
      (all.logs c)
  pub answers :
      (actor : ℕ)
      → Answers rules (λ table. length (past.history table)) (λ i. ops_of (first i ++ past.ops i))
      all.history others actor (questions actor lines) (replies_to actor p.replies)
  pub settled :
      (c : ℕ) → IsSome (stretch (all.logs c))
      → Settled (rules.value c) (course_of rules c (all.history (rules.reads c))) (all.logs c)
  pub shown : AreShown rules all p.shown

abbrev pub Ends : Rules → (ℕ → List Turn) → Joined → List Line → Printed → Type 0
Ends rules first past lines p = EndsIn rules first past (join past p) lines p
