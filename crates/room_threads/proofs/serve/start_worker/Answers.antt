use mathlib.Core.List.{[], ◌∷◌}
use Rattle.std.proofs.Common.{codes}
use denote.Exit.{no}
use denote.Param.{param}
use denote.Param.Send.{arg_send, param_send, shr_send}
use mir.Syntax.{named}
use Rattle.std.proofs.Crossing.{send}
use Rattle.room_workers.proofs.channels.Channels.TheSendSync as channels
use Rattle.room_workers.proofs.bell.Bell.TheSendSync as bell
use Rattle.room_threads.proofs.Sharing.{number_send, room_sync, tuple_send}
use Rattle.room_threads.proofs.serve.start_worker.Goals as goal

-- the closure by its name, its references by their lifetimes: with less told the room is unfolded
pub spawn-requires-send-F : goal.spawn-requires-send-F
spawn-requires-send-F g c κs within =
    let room = room_sync (param 3 g.row.J) (param 4 g.row.P) g.J.Judge g.P.Phase g.P.Sends c.type_bounds.send-J in
    param_send 1 _ (arg_send _ no _ (tuple_send (codes "room_threads::serve::fn::start_worker::spawn+Self") (_ ∷ _ ∷ _ ∷ _ ∷ _ ∷ _ ∷ _ ∷ []) (
      send,
      (
        shr_send (named 5) κs.1.1.1.1.1.0 _ c.type_bounds.sync-R,
        (
          shr_send (named 6) κs.1.1.1.1.1.1.0 _ c.type_bounds.sync-G,
          (
            shr_send (named 7) κs.1.1.1.1.1.1.1.0 _ room,
            (
              shr_send (named 8) κs.1.1.1.1.1.1.1.1.0 _ channels.the_sync,
              (
                number_send,
                (
                  shr_send (named 9) κs.1.1.1.1.1.1.1.1.1.0 _ bell.the_sync,
                  tt,
                ),
              ),
            ),
          ),
        ),
      ),
    )))
