use Rattle.std.proofs.Common.{◌≡◌, ◌≢◌, ◌↔◌, ◌∙◌, IsTrue, arith, refl, sym, subst, List}
use Rattle.bits_ip.specs.Address.{family_of}
use Rattle.attrs.specs.declared.route.Route.{Route}
use Rattle.attrs.specs.Table.{route_of, routes_of}
use Rattle.rib.specs.declared.rib.Outcome.TheVariants.{Same}
use Rattle.rib.specs.Entries.{routes_at, rows_of}
use Rattle.rib.specs.Outcome.{IfChanged}
use Rattle.rib.specs.Rib.{first_of}
use Rattle.rib.proofs.NetRows.{rows-routes_at}
use Rattle.rib.proofs.NetSteps.{change-empty, change-nets, change-rows, count-within}
use Rattle.rib.proofs.nets.Nets.change.Goals as goal

pub change_at-outcome-requires-clause-within : goal.change_at-outcome-requires-clause-within
change_at-outcome-requires-clause-within c = omega (arith, count-within c.args.change.net c.args.self.now, c.requires.nets.total)

pub returns-clause-nets : goal.returns-clause-nets
returns-clause-nets c =
    let done = c.change_at-outcome.ensures in
    let dropped = c.drop_if.ensures in
    change-nets (family_of c.args.change.net.addr) c.args.change.net c.args.self.now c.change_at-outcome.new.self c.drop_if.new.self _ _
    c.requires.nets refl c.addr-addr.ensures.prefix done.others done.routes.are dropped.routes dropped.keys done.total dropped.count

pub returns-clause-empty : goal.returns-clause-empty
returns-clause-empty c =
    change-empty c.args.change.net c.args.self.now c.change_at-outcome.new.self c.drop_if.new.self c.change_at-outcome.ensures.others c.drop_if.ensures.others c.drop_if.ensures.gone

pub returns-clause-changes : goal.returns-clause-changes
returns-clause-changes c =
    change-rows c.args.change c.args.self.now c.change_at-outcome.new.self c.drop_if.new.self c.requires.nets.keys c.drop_if.ensures.keys
    c.change_at-outcome.ensures.routes c.change_at-outcome.ensures.others c.drop_if.ensures.routes

pub returns-clause-same : goal.returns-clause-same
returns-clause-same c =
    subst (λ (l : List Route). (c.change_at-outcome.result.0 ≡ Same) ↔ (route_of c.args.change.num l ≡ c.args.change.new))
    (sym (rows-routes_at c.args.change.net c.args.self.now c.requires.nets.keys)) c.change_at-outcome.ensures.same

pub returns-clause-moved : goal.returns-clause-moved
returns-clause-moved c =
    let net = c.args.change.net in
    let mid = c.change_at-outcome.new.self in
    let new = c.drop_if.new.self in
    let had = rows-routes_at net c.args.self.now c.requires.nets.keys in
    let has = rows-routes_at net new c.drop_if.ensures.keys ∙ c.drop_if.ensures.routes net in
    subst (λ (l : List Route). IfChanged c.change_at-outcome.result.0 (λ moved. IsTrue moved ↔ (first_of l ≢ first_of (routes_of net (rows_of c.args.self.now))))) (sym has)
    (subst (λ (l : List Route). IfChanged c.change_at-outcome.result.0 (λ moved. IsTrue moved ↔ (first_of (routes_at net mid) ≢ first_of l))) (sym had) c.change_at-outcome.ensures.moved)
