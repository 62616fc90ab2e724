use Rattle.std.proofs.Common.{◌≡◌, ℕ, Some, refl, subst, arith}
use Rattle.std.proofs.lemmas.Result.{on_ok_weaker}
use Rattle.core_machine.specs.Channels.{take_one, times}
use Rattle.core_setup.specs.Protocols.{rules_of}
use Rattle.run_tables.specs.Channels.{IsChannel, if_up}
use Rattle.run_tables.proofs.Reading.{found, reads, within_tables}
use Rattle.run_tables.proofs.Routing.{as_state, channel_is, table_of}
use Rattle.run_tables.proofs.RouteSteps.{took}
use Rattle.run_tables.proofs.routes.Routes.take.Goals as goal

pub index-requires-2 : goal.index-requires-2
index-requires-2 g c =
    let h = c.requires.holds in
    omega (arith, within_tables g.J.Judge.verdict h.0 h.1 c.args.self.now c.args.number h.2 c.requires.there c.index.result.now c.index.ensures, c.args.self.now.tables.ok.0)

pub take_many-requires : goal.take_many-requires
take_many-requires g c =
    let v = g.J.Judge.verdict in
    let h = c.requires.holds in
    let f = found v h.0 h.1 c.args.self.now c.args.number h.2 c.requires.there c.index.result.now c.index_mut.result.now c.index-2.result.now c.index.ensures c.index_mut.ensures.value c.index-2.ensures in
    reads v h.0 h.1 c.args.self.now c.args.number h.2 c.requires.there c.index_mut.result.now c.index-2.result.now f.read

pub returns : goal.returns
returns g c = on_ok_weaker c.take_many.result (λ made setup s are.
    let v = g.J.Judge.verdict in
    let r = c.args.self.now in
    let i = c.args.number in
    let held = c.index_mut.result.now in
    let f = found v setup s r i are c.requires.there c.index.result.now held c.index-2.result.now c.index.ensures c.index_mut.ensures.value c.index-2.ensures in
    let is = made (rules_of setup) i f.read.family (s.history held.table) (s.channels i) f.read.is f.read.channel in
    let at = table_of v setup s r are i held f.there in
    let count : c.from.result ≡ c.args.count = omega arith in
    let new = if_up (times c.args.count (take_one (rules_of setup) i (s.history ((rules_of setup).reads i)))) (s.channels i) in
    as_state v setup (took (rules_of setup) i c.args.count s)
    (channel_is v setup s r _ i held c.take_many.new.self c.index-2.result.now f.read f.there (record { cells = refl; readers = refl; sources = refl }) refl refl new
    (subst (λ (m : ℕ). IsChannel v (rules_of setup) i (Some f.read.family) (s.history held.table) c.take_many.new.self (if_up (times m (take_one (rules_of setup) i (s.history ((rules_of setup).reads i)))) (s.channels i))) count
    (subst (λ (n : ℕ). IsChannel v (rules_of setup) i (Some f.read.family) (s.history held.table) c.take_many.new.self (if_up (times c.from.result (take_one (rules_of setup) i (s.history n))) (s.channels i))) at is)) are)) c.take_many.ensures
