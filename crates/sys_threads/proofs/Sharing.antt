-- What the locks of a phase know of the run may go to a thread.
use denote.Param.Send.{IsSend, IsSync, recorded_send, sendable, struct_send}
use denote.RattleType.{RattleType}
use denote.Ref.{NamedLft}
use denote.Struct.Declared.{shape}
use Rattle.std.proofs.Crossing.{crosses}
use Rattle.attrs.specs.declared.judge.Judge as judge
use Rattle.sys_threads.specs.contracts.playing.Playing as playing
use Rattle.sys_threads.proofs.parts.LentParts.TheSendSync as parts

pub playing_send : (κ : NamedLft) (J : RattleType) (j : judge.Ghosts J.Denot) → IsSync J → IsSend (playing.the_row κ J j)
playing_send κ J j sync =
    let T = playing.the_type κ J j in
    recorded_send _ _ _ T.to_one (struct_send (shape T) (parts.the_field_send κ J sync, (search sendable, (search crosses, (search crosses, tt)))))
