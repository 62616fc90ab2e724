-- What an actor has seen, line by line (`IsActing`), and what it was told of tables: a reply's
-- position is how far the actor's pass of the table had seen when the lines before the question
-- were done (`IsTold`). What the actor did shows in its hands, and what it has seen in its passes;
-- both only grow (`AreGrown`).
-- Lists of lines, questions and replies are read backwards, but for the room's lines.
-- Not modelled: texts of replies.
-- From: own.
-- Example: behind `@p1 add ..` p1's pass of the table has seen the route's entry, so that a later
-- `@p1 show route` tells of it.
use Rattle.std.specs.Prelude.{◌≡◌, ℕ, ◌≤◌, List, [], ◌∷◌, length, Option, Some, None, slice_get, ⊤}
use mathlib.Core.List.{IsPrefix}
use Rattle.atomic_table.specs.Seated.{TableId}
use Rattle.jour_rule.specs.declared.views.Terms.{Terms}
use Rattle.jour_rule.specs.declared.views.View.{View as Seat}
use Rattle.jour_rule.specs.Journal.{receipts}
use Rattle.jour.specs.Seats.{front, head_of, journal, number_of, own}
use Rattle.table_shared.specs.Opening.{TableOpening}
use Rattle.core_machine.specs.Lines.{Line, Reply, Turn, ops_of}
use Rattle.core_machine.specs.Replies.{Question, latest}
use Rattle.core_machine.specs.Rules.{Rules}
use Rattle.phase_legal.specs.Changes.{given}
use Rattle.phase_legal.specs.Turns.{AreTurnsOf, turns_told}

-- each item beside its partner at the same place
pub record AreBeside {X Y : Type 0} (P : X → Y → Type 0) (xs : List X) (ys : List Y) : Type 0 where
  pub count : length ys ≡ length xs
  pub each :
      (i : ℕ) (x : X) (y : Y) → slice_get xs i ≡ Some x → slice_get ys i ≡ Some y → P x y

-- a hand of a protocol's turns, and a pass of a table
abbrev pub HandView : Type 0
HandView = TableId × Seat ℕ

abbrev pub PassView : Type 0
PassView = TableId × Seat TableOpening

-- What threads share in a phase: its lines, in their order, and the turns of each protocol before
-- it; by protocol the journal of its turns, and the number of its port among those of its table;
-- and by table its journal.
pub record Room : Type 0 where
  pub rules : Rules
  pub lines : List Line
  pub past : ℕ → List Turn
  pub turns : List (TableId × Terms ℕ)
  pub ports : List ℕ
  pub tables : List (TableId × Terms TableOpening)

-- a seat of the same journal that has seen no less
abbrev pub IsGrown : {O : Type 0} → TableId × Seat O → TableId × Seat O → Type 0
IsGrown old new = (journal new ≡ journal old) × IsPrefix (front old.1) (front new.1)

abbrev pub AreGrown : {O : Type 0} → List (TableId × Seat O) → List (TableId × Seat O) → Type 0
AreGrown {O} old new = AreBeside (λ (a b : TableId × Seat O). IsGrown a b) old new

-- where the positions of a table begin in the phase
abbrev pub start_of : Option (TableId × Terms TableOpening) → ℕ
start_of None = 0
start_of (Some table) = table.1.start

module _ (room : Room) where
  -- What the turns give that a hand has seen is no more than what a pass has seen of the
  -- protocol's port.
  abbrev pub IsSeen : ℕ → (port : ℕ) → HandView → PassView → Type 0
  IsSeen i port hand pass =
      length (given room.rules i (ops_of (room.past i))
      (ops_of (turns_told room.lines (front hand.1))))
      ≤ length (receipts pass.1.seen.terms.start port (front pass.1))

  module _ (actor : ℕ) where
    abbrev pub IsHandOf : TableId × Terms ℕ → HandView → Type 0
    IsHandOf turns hand = (journal hand ≡ turns) × (number_of hand.1.role ≡ actor)

    -- An actor between two of its lines: it has a hand for each protocol and a pass of each table,
    -- its hands have recorded just its lines so far, and what these gave its passes have seen.
    pub record IsActing (done : List Line) (hands : List HandView) (passes : List PassView)
        : Type 0 where
      pub hands_are : AreBeside IsHandOf room.turns hands
      pub passes_are :
          AreBeside (λ (t : TableId × Terms TableOpening) (p : PassView). journal p ≡ t)
          room.tables passes
      pub said :
          (i : ℕ) (hand : HandView) → slice_get hands i ≡ Some hand
          → AreTurnsOf actor i done (own hand.1)
      pub seen :
          (i port : ℕ) (hand : HandView) (pass : PassView) → slice_get room.ports i ≡ Some port
          → slice_get hands i ≡ Some hand → slice_get passes (room.rules.table i) ≡ Some pass
          → IsSeen i port hand pass

    -- The actor was told a table once the lines before a question were done: it stood so then, the
    -- position is how far its pass of the table had seen, and it has only seen more since.
    pub record IsTold
        (hands : List HandView) (passes : List PassView) (q : Question) (r : Reply) : Type 0 where
      pub who : r.actor ≡ actor
      pub table : r.table ≡ q.ask.table
      pub query : r.query ≡ q.ask.query
      pub hands_then : List HandView
      pub passes_then : List PassView
      pub acting : IsActing q.lines hands_then passes_then
      pub hands_grown : AreGrown hands_then hands
      pub passes_grown : AreGrown passes_then passes
      pub pass : PassView
      pub pass_at : slice_get passes_then q.ask.table ≡ Some pass
      pub position : r.at ≡ head_of pass.1

    -- the questions are answered one by one, and the positions on a table don't fall
    abbrev pub AreTold :
        List HandView → List PassView → List Question → List Reply → Type 0
    AreTold hands passes [] [] = ⊤
    AreTold hands passes [] (r ∷ replies) = ⊥
    AreTold hands passes (q ∷ more) [] = ⊥
    AreTold hands passes (q ∷ more) (r ∷ replies) =
        IsTold hands passes q r
        × (latest q.ask.table (start_of (slice_get room.tables q.ask.table)) replies ≤ r.at)
        × AreTold hands passes more replies
