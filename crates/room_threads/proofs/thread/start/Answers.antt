use mathlib.Core.List.{[], ◌∷◌}
use Rattle.std.proofs.Common.{codes}
use denote.Exit.{no}
use denote.Param.{param}
use denote.Param.Send.{arg_send, param_send, shr_send}
use mir.Syntax.{named}
use Rattle.phase_actors.proofs.actor.Actor.TheSendSync as actor
use Rattle.room_threads.proofs.Sharing.{lines_sync, queries_sync, room_sync, tuple_send}
use Rattle.room_threads.proofs.thread.start.Goals as goal

-- the closure by its name, its references by their lifetimes: with less told the room is unfolded
pub spawn_with-requires-send-F : goal.spawn_with-requires-send-F
spawn_with-requires-send-F g c κs within =
    let room = room_sync (param 5 g.row.J) (param 6 g.row.P) g.J.Judge g.P.Phase g.P.Sends c.type_bounds.send-J in
    param_send 2 _ (arg_send _ no _ (tuple_send (codes "room_threads::thread::fn::start::spawn_with+Self") (_ ∷ _ ∷ _ ∷ _ ∷ _ ∷ _ ∷ _ ∷ _ ∷ []) (
      shr_send (named 6) κs.1.1.1.1.1.1.0 _ c.type_bounds.sync-R,
      (
        shr_send (named 7) κs.1.1.1.1.1.1.1.0 _ c.type_bounds.sync-G,
        (
          shr_send (named 8) κs.1.1.1.1.1.1.1.1.0 _ c.type_bounds.sync-H,
          (
            shr_send (named 9) κs.1.1.1.1.1.1.1.1.1.0 _ c.type_bounds.sync-A,
            (
              shr_send (named 10) κs.1.1.1.1.1.1.1.1.1.1.0 _ room,
              (
                shr_send (named 11) κs.1.1.1.1.1.1.1.1.1.1.1.0 _ queries_sync,
                (
                  shr_send (named 12) κs.1.1.1.1.1.1.1.1.1.1.1.1.0 _ lines_sync,
                  (
                    actor.the_send,
                    tt,
                  ),
                ),
              ),
            ),
          ),
        ),
      ),
    )))
