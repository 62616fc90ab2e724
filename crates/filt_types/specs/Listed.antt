-- Variables in memory, as the definitions see them (`variables_of`).
-- From: own.
-- Example: the bytes of a name stand in the source, and the definitions see the name.
use Rattle.std.specs.Prelude.{List, map}
use Rattle.filt_types.specs.Scenes as scenes
use Rattle.filt_types.specs.Scenes.{Variables}
use Rattle.filt_types.specs.declared.variable_list.Variable.{Variable}

abbrev pub variable_seen : Variable → scenes.Variable
variable_seen v = record { name = v.name.now; sort = v.sort; of_loop = v.of_loop }

abbrev pub variables_of : List Variable → Variables
variables_of vs = map variable_seen vs
