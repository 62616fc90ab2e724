use Rattle.std.proofs.Common.{◌≡◌, ◌<◌, ℕ, List, map, Option, Some, is_some, refl, sym, ap, subst, ◌∙◌, arith}
use Rattle.std.specs.Prelude.{option_copied, option_map, slice_get}
use denote.Bor.{Bor}
use Rattle.attrs.specs.Table.{Shows}
use Rattle.attrs.specs.declared.route.Row.{Row}
use Rattle.export_core.specs.declared.passing.Through.{Through}
use Rattle.rib.specs.Rib.{Table}
use Rattle.run_tables.proofs.Routing.{item_read}
use Rattle.show_route.specs.Senders.{sender_of}
use Rattle.show_route.specs.declared.query.Query.{Query}
use Rattle.sys_run.specs.Scripts.{asked_table}
use Rattle.sys_run.proofs.Answering.{answered, choice_there, export_there, some_copied}
use Rattle.sys_run.proofs.Ending.{parts_held, query_held, table_held}
use Rattle.sys_run.proofs.player.Core.answer.Goals as goal

pub index-table-requires : goal.index-table-requires
index-table-requires g c =
    let v = g.J.Judge.verdict in
    let h = c.requires.holds in
    let core = c.args.self.now in
    let q = c.index-query.result.now in
    let e = item_read core.queries.items c.args.number q c.requires.there c.index-query.ensures in
    let w = table_held v h.0 h.1 h.2 core h.3 q (query_held v h.0 h.1 h.2 core h.3 c.args.number q e) in
    omega (arith, core.routes.tables.ok.0, w)

pub index-requires : goal.index-requires
index-requires g c =
    let v = g.J.Judge.verdict in
    let h = c.requires.holds in
    let core = c.args.self.now in
    let q = c.index-query.result.now in
    let e = item_read core.queries.items c.args.number q c.requires.there c.index-query.ensures in
    let w = parts_held v h.0 h.1 h.2 core h.3 q (query_held v h.0 h.1 h.2 core h.3 c.args.number q e) in
    omega (arith, core.tables.ok.0, w)

pub answer_table-requires-clause-choice : goal.answer_table-requires-clause-choice
answer_table-requires-clause-choice g c =
    let v = g.J.Judge.verdict in
    let h = c.requires.holds in
    let core = c.args.self.now in
    let q = c.index-query.result.now in
    let e = item_read core.queries.items c.args.number q c.requires.there c.index-query.ensures in
    choice_there v h.0 h.1 h.2 core h.3 q (query_held v h.0 h.1 h.2 core h.3 c.args.number q e)
    ∙ sym (ap (λ (o : Option g.row.J.Denot). is_some o) c.choice.ensures) ∙ some_copied c.choice.result

pub answer_table-requires-clause-export : goal.answer_table-requires-clause-export
answer_table-requires-clause-export g c =
    let v = g.J.Judge.verdict in
    let h = c.requires.holds in
    let core = c.args.self.now in
    let q = c.index-query.result.now in
    let e = item_read core.queries.items c.args.number q c.requires.there c.index-query.ensures in
    export_there v h.0 h.1 h.2 core h.3 q (query_held v h.0 h.1 h.2 core h.3 c.args.number q e)
    ∙ sym (ap (λ (o : Option (Through g.row.J.Denot)). is_some o) c.export.ensures) ∙ some_copied c.export.result

pub returns : goal.returns
returns g c = λ setup past s reply are number table at.
    let v = g.J.Judge.verdict in
    let core = c.args.self.now in
    let n = c.args.number in
    let q = c.index-query.result.now in
    let e = item_read core.queries.items n q c.requires.there c.index-query.ensures in
    let fits = query_held v setup past s core are n q e in
    let asked : slice_get setup.queries reply.query ≡ Some q = ap (slice_get setup.queries) number ∙ ap (λ (qs : List Query). slice_get qs n) (sym are.queries) ∙ e in
    answered v setup past s core are q fits (record { table = q.table; at = c.head.result; text = c.in_ok-text.text }) reply c.index-table.result.now c.index.result.now
    (map (λ (name : Bor (List ℕ)). name.now) c.deref-2.result.now) c.as_slice.result.now (option_map v (option_copied c.choice.result))
    (option_map (λ (through : Through g.row.J.Denot). sender_of through.spec (v through.judge)) (option_copied c.export.result))
    asked (table ∙ ap (asked_table setup.queries) (sym number)) at
    (item_read core.routes.tables.items q.table c.index-table.result.now (table_held v setup past s core are q fits) c.index-table.ensures)
    (item_read core.tables.items q.table c.index.result.now (parts_held v setup past s core are q fits) c.index.ensures)
    (ap (λ (l : List (Bor (List ℕ))). map (λ (name : Bor (List ℕ)). name.now) l) c.deref-2.ensures.value ∙ c.in_ok-names.ensures ∙ c.deref.ensures.value)
    c.as_slice.ensures (ap (option_map v) c.choice.ensures)
    (ap (option_map (λ (through : Through g.row.J.Denot). sender_of through.spec (v through.judge))) c.export.ensures)
    refl c.head.ensures
    (λ content shows. c.in_ok-text.ensures content (subst (λ (rows : List Row). Shows rows content) (sym (ap (λ (rib : Table). rib.rows) c.rib.ensures)) shows))
