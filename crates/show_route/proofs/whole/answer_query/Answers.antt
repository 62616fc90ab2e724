use Rattle.std.proofs.Common.{map}
use Rattle.std.specs.Prelude.{option_copied, option_map}
use Rattle.show_route.specs.Senders.{sender_of}
use Rattle.show_route.proofs.Answering.{reply-ok, view-count}
use Rattle.show_route.proofs.whole.answer_query.Goals as goal

pub reply_rows-requires : goal.reply_rows-requires
reply_rows-requires g c = view-count c.args.query.now.pick c.args.rows.now c.args.total c.requires.view.0 c.requires.view.1

pub returns : goal.returns
returns g c =
    reply-ok c.reply_rows.result (map (λ name. name.now) c.args.names.now) c.args.table.now c.args.query.now (option_map g.J.Judge.verdict (option_copied c.args.choice))
    (option_map (λ through. sender_of through.spec (g.E.Judge.verdict through.judge)) (option_copied c.args.export)) c.args.rows.now c.args.total c.reply_rows.ensures
