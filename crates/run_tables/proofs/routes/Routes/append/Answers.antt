use Rattle.std.proofs.Common.{refl, sym, ◌∙◌, arith}
use Rattle.std.proofs.lemmas.Result.{on_ok_weaker}
use Rattle.core_setup.specs.Protocols.{rules_of}
use Rattle.core_setup.proofs.PairLemmas.{one_here}
use Rattle.run_tables.specs.Routes.{with_room}
use Rattle.run_tables.proofs.Routing.{TableIs, admits_still, item_read, table_changed, tables_length}
use Rattle.run_tables.proofs.routes.Routes.append.Goals as goal

pub index_mut-requires : goal.index_mut-requires
index_mut-requires g c =
    let v = g.J.Judge.verdict in
    let h = c.requires.holds in
    let there = c.requires.there in
    let before = tables_length v h.0 h.1 c.args.self.now h.2 in
    let after = tables_length v h.0 (with_room (rules_of h.0) c.args.table h.1) c.make_room.new.self (c.in_ok-make_room.ensures h.0 h.1 h.2) in
    omega (arith, there, before, after, c.make_room.new.self.tables.ok.0)

pub append-requires-clause-family : goal.append-requires-clause-family
append-requires-clause-family g c =
    let v = g.J.Judge.verdict in
    let h = c.requires.holds in
    let there = c.requires.there in
    let r = c.make_room.new.self in
    let s = with_room (rules_of h.0) c.args.table h.1 in
    let are = c.in_ok-make_room.ensures h.0 h.1 h.2 in
    let e = item_read r.tables.items c.args.table c.index_mut.result.now
    (omega (arith, there, tables_length v h.0 h.1 c.args.self.now h.2, tables_length v h.0 s r are)) c.index_mut.ensures.value in
    let is = one_here (TableIs h.0 s) h.0.tables r.tables.items are.tables c.args.table c.index_mut.result.now e in
    is.2.family_is ∙ sym is.2.rib_family

pub append-requires-clause-admitted : goal.append-requires-clause-admitted
append-requires-clause-admitted g c =
    let v = g.J.Judge.verdict in
    let h = c.requires.holds in
    let there = c.requires.there in
    let r = c.make_room.new.self in
    let s = with_room (rules_of h.0) c.args.table h.1 in
    let are = c.in_ok-make_room.ensures h.0 h.1 h.2 in
    let e = item_read r.tables.items c.args.table c.index_mut.result.now
    (omega (arith, there, tables_length v h.0 h.1 c.args.self.now h.2, tables_length v h.0 s r are)) c.index_mut.ensures.value in
    admits_still v h.0 h.1 s c.args.self.now r h.2 are c.args.table there c.args.change c.requires.admitted c.index_mut.result.now e

pub returns : goal.returns
returns g c = on_ok_weaker c.append.result (λ appended setup s are.
    let v = g.J.Judge.verdict in
    let there = c.requires.there in
    let source = c.requires.source in
    let old = c.args.self.now in
    let r = c.make_room.new.self in
    let t = with_room (rules_of setup) c.args.table s in
    let now = c.in_ok-make_room.ensures setup s are in
    let e = item_read r.tables.items c.args.table c.index_mut.result.now
    (omega (arith, there, tables_length v setup s old are, tables_length v setup t r now)) c.index_mut.ensures.value in
    table_changed v setup t r _ c.args.table c.args.change c.index_mut.result.now c.append.new.self e (record { cells = refl; readers = refl; sources = refl }) refl refl
    (λ family is. appended (rules_of setup) family (s.history c.args.table) are.rules_are (λ some. let low = source some in omega (arith, low, are.sources.count)) is) now) c.append.ensures
