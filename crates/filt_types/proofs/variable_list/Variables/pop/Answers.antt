use Rattle.std.proofs.Common.{arith}
use Rattle.filt_types.proofs.FirstPlaces.{forgotten_in}
use Rattle.filt_types.proofs.variable_list.Variables.pop.Goals as goal

pub invariant_of-self-in-Some : goal.invariant_of-self-in-Some
invariant_of-self-in-Some c =
    forgotten_in c.self.inside.list.items c.pop.new.self.items c.in-Some.variable c.len.result c.self.inside.places.entries c.forget.new.places.entries c.in-Some.ensures.items (omega (arith, c.len.ensures, c.pop.new.self.ok))
    c.self.invariant c.forget.ensures
