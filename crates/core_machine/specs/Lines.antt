-- The lines of a script, read (`Line`): who applies which operation to which protocol, how far a
-- channel is driven by hand, and what is asked of a table. An operation that was done is a turn
-- (`Turn`), which keeps who asked for it and in which line.
-- Not modelled: names and texts; actors, protocols, channels and tables have numbers, and so has
-- what a question asks besides.
-- From: own.
-- Example: `@p1 open 10.0.0.1` in line 3 is an `Act` of actor 0 on protocol 0, where p1 is the
-- first of both.
use Rattle.std.specs.Prelude.{ℕ, List, map}
use Rattle.import_core.specs.declared.operation.Op.{Op}

-- An actor applies an operation to a protocol. Lines count from 1; where no actor asks for the
-- operation, as where a protocol starts, its line is 0.
pub record Act : Type 0 where
  pub actor : ℕ
  pub line : ℕ
  pub protocol : ℕ
  pub op : Op

-- an operation, where it stands among those of its protocol
pub record Turn : Type 0 where
  pub actor : ℕ
  pub line : ℕ
  pub op : Op

abbrev pub turn_of : Act → Turn
turn_of a = record { actor = a.actor; line = a.line; op = a.op }

abbrev pub ops_of : List Turn → List Op
ops_of turns = map (λ t. t.op) turns

-- a channel is to take or to push so many times
pub record Count : Type 0 where
  pub channel : ℕ
  pub number : ℕ

-- an actor asks for a table; the query is the place of what it asks besides among the script's
-- queries
pub record Ask : Type 0 where
  pub actor : ℕ
  pub table : ℕ
  pub query : ℕ

pub data Line : Type 0 where
  Apply : Act → Line
  Take : Count → Line
  Push : Count → Line
  Show : Ask → Line

-- what an actor asked of a table, and at which of its positions it was answered
pub record Reply : Type 0 where
  pub actor : ℕ
  pub table : ℕ
  pub at : ℕ
  pub query : ℕ
