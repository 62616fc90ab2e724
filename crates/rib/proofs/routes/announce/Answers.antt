use Rattle.std.proofs.Common.{◌∙◌, ap, sym, arith, subst, length, Some}
use Rattle.rib.specs.Steps.{Replaces, placed}
use Rattle.rib.proofs.OneNet.{Replaces-announced, moved-announced, length-without}
use Rattle.rib.proofs.routes.announce.Goals as goal

pub put_in-leads-requires : goal.put_in-leads-requires
put_in-leads-requires c =
    omega (arith, c.requires.room, c.take_out-led.ensures.capacity, c.args.routes.now.ok, c.take_out-led.new.routes.ok, ap length c.take_out-led.ensures.routes, length-without c.args.route.src.num c.args.routes.now.items)

pub returns-clause-routes : goal.returns-clause-routes
returns-clause-routes c =
    let r = c.args.route in
    let xs = c.args.routes.now.items in
    subst (Replaces r.src.num (Some r) xs) (sym (c.put_in-leads.ensures.routes ∙ ap (placed r) c.take_out-led.ensures.routes)) (Replaces-announced r xs c.requires.are)

pub returns-clause-moved : goal.returns-clause-moved
returns-clause-moved c =
    rw (c.put_in-leads.ensures.routes, c.put_in-leads.ensures.best, c.take_out-led.ensures.best, c.take_out-led.ensures.routes) (moved-announced c.args.route c.args.routes.now.items c.requires.are.sources c.requires.real)
