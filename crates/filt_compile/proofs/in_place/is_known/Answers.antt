use Rattle.filt_compile.proofs.InPlace as i
use Rattle.filt_compile.proofs.in_place.is_known.Goals as goal

pub returns-in-Value : goal.returns-in-Value
returns-in-Value c = λ holds. i.known_value c.args.e.now _ c.in-Value.is
