use Rattle.filt_laws.proofs.Typing.{function_sound}
use Rattle.filt_laws.proofs.laws.typed_functions_keep_their_signatures.Goals as goal

pub returns : goal.returns
returns c = function_sound c.operators_are_typed.ensures
