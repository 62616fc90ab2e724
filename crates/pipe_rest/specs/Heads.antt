-- The heads that ports have seen, by table (`AreHeads`), and a protocol whose channel or directions
-- have read and sent all up to these, as far as they are up (`HasRead`).
-- Not modelled: that each head is one that a port has seen, which rounds need to come to an end.
-- From: own.
-- Example: of a table two ports have seen 5 and 7, so its head is 7. A channel that is up and at rest
-- at 6 has not read all, and one at rest at 7 has.
use Rattle.std.specs.Prelude.{◌≡◌, ◌<◌, ◌≤◌, ℕ, true, List, length, Option, Some, None, IfSome, slice_get}
use Rattle.std.specs.List.{AllByRecursion}
use Rattle.export_core.specs.Calls.{IsAtRest}
use Rattle.export_core.specs.Standing.{is_open}
use Rattle.jour.specs.Seats.{head_of, known}
use Rattle.export_lock.specs.declared.state.ExportState.{ExportState}
use Rattle.pipe_close.specs.declared.close.PipeLeft.{PipeLeft}
use Rattle.pipe_rest.specs.declared.member.MemberLeft.{MemberLeft}
use Rattle.pipe_rest.specs.declared.member.MemberLeft.TheVariants.{Own, Pipe}

abbrev pub head_in : Option ℕ → ℕ
head_in None = 0
head_in (Some head) = head

-- the head of the table of a number, 0 where there is none
abbrev pub head_at : List ℕ → ℕ → ℕ
head_at heads table = head_in (slice_get heads table)

module _ {J : Type 0} where
  -- ---- what ports have seen

  -- the tables that it writes are among so many
  abbrev pub PipeIsAmong : ℕ → PipeLeft J → Type 0
  PipeIsAmong tables pipe = (pipe.primary < tables) × (pipe.peer < tables)

  abbrev pub IsAmong : ℕ → MemberLeft J → Type 0
  IsAmong tables (Own session) = session.table < tables
  IsAmong tables (Pipe pipe) = PipeIsAmong tables pipe

  -- its ports have seen no more than the heads of their tables
  abbrev pub PipeIsBelow : List ℕ → PipeLeft J → Type 0
  PipeIsBelow heads pipe =
      (head_of pipe.out.port.1 ≤ head_at heads pipe.peer)
      × (head_of pipe.back.port.1 ≤ head_at heads pipe.primary)

  abbrev pub IsBelow : List ℕ → MemberLeft J → Type 0
  IsBelow heads (Own session) = head_of session.port.1 ≤ head_at heads session.table
  IsBelow heads (Pipe pipe) = PipeIsBelow heads pipe

  pub record AreHeads (tables : ℕ) (members : List (MemberLeft J)) (heads : List ℕ)
      : Type 0 where
    pub count : length heads ≡ tables
    pub below : AllByRecursion (IsBelow heads) members

  -- ---- what was read

  -- it has read and sent all up to the head that its cursor knows, which is no less than this one
  pub record HasReadTo (head : ℕ) (state : ExportState J) : Type 0 where
    pub rests : IsAtRest state.exporter (known state.cursor.0.1)
    pub told : head ≤ known state.cursor.0.1

  -- where it is up
  abbrev pub RestsAt : ℕ → ExportState J → Type 0
  RestsAt head state = is_open state.exporter.log ≡ true → HasReadTo head state

  -- the channel of this table, where there is one
  abbrev pub HasReadOf : List ℕ → ℕ → Option (ExportState J) → Type 0
  HasReadOf heads table channel = IfSome channel (RestsAt (head_at heads table))

  -- both directions of a pipe, each of the table that it reads
  abbrev pub PipeHasRead : List ℕ → PipeLeft J → Type 0
  PipeHasRead heads pipe =
      RestsAt (head_at heads pipe.primary) pipe.out.state
      × RestsAt (head_at heads pipe.peer) pipe.back.state

  abbrev pub HasRead : List ℕ → MemberLeft J → Type 0
  HasRead heads (Own session) = HasReadOf heads session.table session.channel
  HasRead heads (Pipe pipe) = PipeHasRead heads pipe
