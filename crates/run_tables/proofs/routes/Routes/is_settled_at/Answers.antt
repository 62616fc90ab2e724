use Rattle.std.proofs.Common.{◌≡◌, ◌↔◌, Some, IsTrue, true, subst, ◌∙◌, arith}
use Rattle.core_machine.specs.Channels.{is_open}
use Rattle.core_machine.specs.Rounds.{IsSettled}
use Rattle.core_setup.specs.Protocols.{rules_of}
use Rattle.run_tables.proofs.Journals.{head_is}
use Rattle.run_tables.proofs.Routing.{table_of}
use Rattle.run_tables.proofs.Reading.{found, within_tables}
use Rattle.run_tables.proofs.routes.Routes.is_settled_at.Goals as goal

pub index-requires-3 : goal.index-requires-3
index-requires-3 g c =
    let h = c.requires.holds in
    omega (arith, within_tables g.J.Judge.verdict h.0 h.1 c.args.self.now c.args.number h.2 c.requires.there c.index.result.now c.index.ensures, c.args.self.now.tables.ok.0)

pub returns : goal.returns
returns g c = λ setup s are.
    let v = g.J.Judge.verdict in
    let i = c.args.number in
    let held = c.index-2.result.now in
    let f = found v setup s c.args.self.now i are c.requires.there c.index.result.now held c.index-3.result.now c.index.ensures c.index-2.ensures c.index-3.ensures in
    subst (λ n. IsTrue c.is_settled.result ↔ (is_open (s.channels i) ≡ true → IsSettled (s.history n) (s.channels i))) (table_of v setup s c.args.self.now are i held f.there)
    (c.is_settled.ensures (rules_of setup) i (Some f.read.family) (s.history held.table) (s.channels i)
    (c.head.ensures ∙ head_is (rules_of setup) f.read.family (s.history held.table) c.index-3.result.now f.read.is) f.read.channel)
