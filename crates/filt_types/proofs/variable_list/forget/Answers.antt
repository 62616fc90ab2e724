use Rattle.std.proofs.Common.{sym}
use Rattle.filt_types.proofs.FirstPlaces.{forgot_last, forgot_other}
use Rattle.filt_types.proofs.variable_list.forget.Goals as goal

pub returns-then-stands_at : goal.returns-then-stands_at
returns-then-stands_at c = forgot_last c.args.name.now c.args.place c.args.places.now.entries c.swap_remove.new.self.entries (sym c.if-stands_at.ensures) (λ asked. c.swap_remove.ensures.updates.0 asked)

pub returns-else-stands_at : goal.returns-else-stands_at
returns-else-stands_at c = forgot_other c.args.name.now c.args.place c.args.places.now.entries (sym c.if-stands_at.ensures)
