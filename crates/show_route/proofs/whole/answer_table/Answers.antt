use Rattle.std.proofs.Common.{◌∙◌, map}
use Rattle.std.specs.Prelude.{option_copied, option_map}
use Rattle.show_route.specs.Senders.{sender_of}
use Rattle.show_route.proofs.Answering.{table-ok, view-some}
use Rattle.show_route.proofs.whole.answer_table.Goals as goal

pub answer_query-requires-clause-view : goal.answer_query-requires-clause-view
answer_query-requires-clause-view g c =
    view-some c.args.query.now.pick c.args.rib.now.rows c.as_slice.result.now c.total-total.result c.total-total.ensures.are_rows (c.as_slice.ensures.value ∙ c.in_ok-rows.ensures.rows) c.total-total.ensures.count

pub returns : goal.returns
returns g c =
    table-ok c.answer_query.result (map (λ name. name.now) c.args.names.now) c.args.table.now c.args.query.now (option_map g.J.Judge.verdict (option_copied c.args.choice))
    (option_map (λ through. sender_of through.spec (g.E.Judge.verdict through.judge)) (option_copied c.args.export)) c.args.rib.now.rows c.as_slice.result.now c.total-total.result
    (c.as_slice.ensures.value ∙ c.in_ok-rows.ensures.rows) c.total-total.ensures.count c.answer_query.ensures
