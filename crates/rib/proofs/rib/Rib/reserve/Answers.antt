use Rattle.std.proofs.Common.{◌∙◌, ap, List, Some, Result, Ok, Err, OnErr}
use Rattle.attrs.specs.declared.route.Row.{Row}
use Rattle.rib.specs.Rib.{Table}
use Rattle.rib.proofs.NetSteps.{rows-same}
use Rattle.rib.proofs.rib.Rib.reserve.Goals as goal

on-err : {T E : Type 0} (r : Result T E) (P : Type 0) → P → OnErr r P
on-err (Ok x) P p = tt
on-err (Err e) P p = p

pub returns-in_err-make_room-clause-refused : goal.returns-in_err-make_room-clause-refused
returns-in_err-make_room-clause-refused c =
    let nets = c.self.invariant.nets in
    let same = rows-same c.self.inside.nets c.make_room.new.self nets.keys c.make_room.ensures.keys nets.routes c.make_room.ensures.routes in
    on-err c.from_residual.result _ (ap (λ (rows : List Row). record { family = c.self.inside.family; rows = rows; room = c.self.inside.room }) same ∙ c.self.view_is)

pub returns-clause-made : goal.returns-clause-made
returns-clause-made c =
    let nets = c.self.invariant.nets in
    let same = rows-same c.self.inside.nets c.drop_room.new.self nets.keys c.drop_room.ensures.keys nets.routes (λ q. c.drop_room.ensures.routes q ∙ c.make_room.ensures.routes q) in
    let key = Some (c.args.change.now.net, c.args.change.now.num) in
    ap (λ (rows : List Row). record { family = c.self.inside.family; rows = rows; room = key }) same ∙ ap (λ (table : Table). record table { room = key }) c.self.view_is
