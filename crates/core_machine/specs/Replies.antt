-- What actors may be shown of tables (`Answers`, `needed`). A reply tells a table as it stood at
-- one position: not before what the actor was shown of it earlier, and not before what the actor
-- itself has done there. Lists are read backwards.
-- Not modelled: the texts, which are functions of the table's content at that position.
-- From: BIRD User's Guide, "Remote control" (`show route`); the positions are own.
-- Example: `@p1 show route` behind p1's `add`, which made the change at position 1, is answered at
-- position 1 or later.
use Rattle.std.specs.Prelude.{◌≡◌, ◌==◌, ◌&&◌, ℕ, ◌≤◌, nat_lt, not, Bool, true, false, List, [], ◌∷◌, ◌++◌, length, if◌then◌else◌, ⊤}
use Rattle.import_core.specs.declared.operation.Op.{Op}
use Rattle.attrs.specs.declared.route.Change.{Change}
use Rattle.core_machine.specs.Histories.{front, own}
use Rattle.core_machine.specs.Lines.{Ask, Line, Apply, Take, Push, Show, Reply, Turn, ops_of}
use Rattle.core_machine.specs.Merges.{asked, picked}
use Rattle.core_machine.specs.Rules.{Rules, changes}

-- what an actor asks, and the lines before that
pub record Question : Type 0 where
  pub ask : Ask
  pub lines : List Line

-- the questions of an actor
abbrev pub questions : ℕ → List Line → List Question
questions actor [] = []
questions actor (Apply x ∷ earlier) = questions actor earlier
questions actor (Take n ∷ earlier) = questions actor earlier
questions actor (Push n ∷ earlier) = questions actor earlier
questions actor (Show q ∷ earlier) =
    if q.actor == actor
    then record { ask = q; lines = earlier } ∷ questions actor earlier
    else questions actor earlier

-- the replies to an actor
abbrev pub replies_to : ℕ → List Reply → List Reply
replies_to actor [] = []
replies_to actor (r ∷ earlier) =
    if r.actor == actor then r ∷ replies_to actor earlier else replies_to actor earlier

abbrev pub is_nil : List Change → Bool
is_nil [] = true
is_nil (c ∷ earlier) = false

-- How many changes of a protocol must be shown to an actor behind its first n turns: all up to
-- those of the last of these turns that changes anything. `base` are the operations before all
-- turns.
abbrev pub needed : Rules → ℕ → List Op → ℕ → ℕ → List Turn → ℕ
needed rules i base actor n [] = 0
needed rules i base actor n (t ∷ earlier) =
    let before = ops_of earlier ++ base in
    if ((t.actor == actor) && nat_lt (length (picked actor earlier)) n)
    && not (is_nil (rules.gives i before t.op).changes)
    then length (changes rules i (t.op ∷ before))
    else needed rules i base actor n earlier

-- the position of the last of these replies on a table, and the table's head before the phase where
-- there is none
abbrev pub latest : ℕ → ℕ → List Reply → ℕ
latest table head [] = head
latest table head (r ∷ earlier) = if r.table == table then r.at else latest table head earlier

-- A reply answers a question of an actor. `history` are the tables' histories after the phase, and
-- the actor was shown the asked table up to the position `before`.
pub record IsReply
    (rules : Rules) (base : ℕ → List Op) (history : ℕ → List Change) (turns : ℕ → List Turn)
    (actor : ℕ) (q : Question) (before : ℕ) (r : Reply) : Type 0 where
  pub table : r.table ≡ q.ask.table
  pub query : r.query ≡ q.ask.query
  pub within : r.at ≤ length (history q.ask.table)
  pub later : before ≤ r.at
  pub seen :
      (i : ℕ) → rules.table i ≡ q.ask.table
      → needed rules i (base i) actor (length (asked actor i q.lines)) (turns i)
      ≤ length (own i (front r.at (history q.ask.table)))

-- The replies answer the questions, one by one. `heads` are the tables' heads before the phase.
abbrev pub Answers :
    Rules → (ℕ → ℕ) → (ℕ → List Op) → (ℕ → List Change) → (ℕ → List Turn) → ℕ → List Question
    → List Reply → Type 0
Answers rules heads base history turns actor [] [] = ⊤
Answers rules heads base history turns actor [] (r ∷ replies) = ⊥
Answers rules heads base history turns actor (q ∷ more) [] = ⊥
Answers rules heads base history turns actor (q ∷ more) (r ∷ replies) =
    IsReply rules base history turns actor q
    (latest q.ask.table (heads q.ask.table) replies) r
    × Answers rules heads base history turns actor more replies
