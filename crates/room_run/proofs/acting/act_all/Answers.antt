use denote.Exit.{no}
use denote.Param.{param}
use denote.Param.Send.{arg_sync, param_sync}
use denote.Ref.{NamedLft}
use mir.Syntax.{named}
use Rattle.room_run.proofs.Rooms.{all_acted, all_ready}
use Rattle.room_run.proofs.Sharing.{help_sync}
use Rattle.room_run.proofs.acting.act_all.Goals as goal

pub act_and_serve-requires-clause-ready : goal.act_and_serve-requires-clause-ready
act_and_serve-requires-clause-ready g c κs within =
    all_ready g.P.Phase.terms g.P.Sends.exports g.P.Sends.rules c.args.room.now (g.A.Answers.setup c.args.answers.now) c.args.queries.now.items c.args.lines.now.items c.args.actors.items c.requires.room c.requires.script c.requires.setup
    c.requires.actors

pub act_and_serve-requires-sync-H : goal.act_and_serve-requires-sync-H
act_and_serve-requires-sync-H g c κs within =
    let κ : NamedLft = record { mir = named 10; lft = κs.1.1.1.1.1.1.1.1.1.1.0 } in
    param_sync 2 _ (arg_sync _ no _ (help_sync κ (param 3 g.row.J) (param 4 g.row.P) g.J.Judge g.P.Phase g.P.Sends c.type_bounds.send-J))

pub returns : goal.returns
returns g c =
    all_acted g.P.Phase.terms g.P.Sends.exports g.P.Sends.rules c.args.room.now c.args.actors.items c.in_ok-all.all.items c.requires.actors c.in_ok-all.ensures
