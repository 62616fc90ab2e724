-- Which tables the pipes of a configuration join (`pipes_of`), by their numbers, in their order.
-- From: BIRD User's Guide, "Pipe".
-- Example: a pipe `protocol pipe { peer table t; }` over `ipv4 table t;` joins the tables 0 and 2.
use Rattle.std.specs.Prelude.{List, [], ◌∷◌, ◌++◌}
use Rattle.conf_names.specs.declared.joints.Joint.{Joint}
use Rattle.conf_system.specs.System.{Body, IsBgp, IsPipe, IsStatic, Protocol}

abbrev pub pipe_of : Body → List Joint
pipe_of (IsStatic p) = []
pipe_of (IsBgp p) = []
pipe_of (IsPipe p) = record { table = p.table; peer = p.peer } ∷ []

abbrev pub pipes_of : List Protocol → List Joint
pipes_of [] = []
pipes_of (p ∷ more) = pipe_of p.body ++ pipes_of more
