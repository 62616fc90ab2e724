use Rattle.std.proofs.Common.{sym}
use Rattle.filt_values.proofs.Elements.{cuts_is}
use Rattle.filt_values.proofs.members.matches.Goals as goal

pub returns : goal.returns
returns c = cuts_is c.args.mask.now c.args.path.now _ (rw (sym c.as_slice.ensures.value) c.matches.ensures)
