use Rattle.std.proofs.Common.{refl, arith, true}
use Rattle.std.proofs.lemmas.Result.{on_ok_weaker}
use Rattle.core_machine.specs.Channels.{renewed}
use Rattle.core_setup.specs.Protocols.{rules_of}
use Rattle.run_tables.proofs.Obeying.{fed_state}
use Rattle.run_tables.proofs.Reading.{found, reads_up, within_tables}
use Rattle.run_tables.proofs.routes.Routes.renew.Goals as goal

pub index-requires-2 : goal.index-requires-2
index-requires-2 g c =
    let h = c.requires.holds in
    omega (arith, within_tables g.J.Judge.verdict h.0 h.1 c.args.self.now c.args.number h.2 c.requires.there c.index.result.now c.index.ensures, c.args.self.now.tables.ok.0)

pub renew-requires : goal.renew-requires
renew-requires g c =
    let v = g.J.Judge.verdict in
    let h = c.requires.holds in
    let f = found v h.0 h.1 c.args.self.now c.args.number h.2 c.requires.there c.index.result.now c.index_mut.result.now c.index-2.result.now c.index.ensures c.index_mut.ensures.value c.index-2.ensures in
    reads_up v h.0 h.1 c.args.self.now c.args.number h.2 c.requires.there c.index_mut.result.now c.index-2.result.now true h.3 f.read

pub returns : goal.returns
returns g c = on_ok_weaker c.renew.result (λ made setup s are fits.
    let v = g.J.Judge.verdict in
    let r = c.args.self.now in
    let i = c.args.number in
    let held = c.index_mut.result.now in
    let f = found v setup s r i are c.requires.there c.index.result.now held c.index-2.result.now c.index.ensures c.index_mut.ensures.value c.index-2.ensures in
    fed_state v setup s r i are held c.renew.new.self c.index-2.result.now f.read f.there _ (record { cells = refl; readers = refl; sources = refl }) refl refl true (λ n. renewed (s.channels c.args.number))
    (made (rules_of setup) i f.read.family (s.history held.table) (s.channels i) are.rules_are f.read.is fits f.read.channel)) c.renew.ensures
