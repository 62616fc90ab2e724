-- Who helps the actors of a room may be shared by threads.
use denote.Param.Send.{IsSend, IsSync, recorded_sync, sendable, shr_sync, struct_sync}
use denote.RattleType.{RattleType}
use denote.Ref.{NamedLft}
use denote.Struct.Declared.{shape}
use Rattle.std.proofs.Crossing.{crosses}
use Rattle.attrs.specs.declared.judge.Judge as judge
use Rattle.import_lock.specs.declared.key.Phase as phase
use Rattle.export_lock.specs.declared.key.Sends as sends
use Rattle.room_workers.specs.contracts.helping.Help as help
use Rattle.room_workers.proofs.channels.Channels.TheSendSync as channels
use Rattle.room_threads.proofs.Sharing.{room_sync}

pub help_sync : (κ : NamedLft) (J P : RattleType) (j : judge.Ghosts J.Denot) (p : phase.Ghosts P.Denot) (s : sends.Ghosts P.Denot) → IsSend J → IsSync (help.the_row κ J P j p s)
help_sync κ J P j p s send =
    let T = help.the_type κ J P j p s in
    recorded_sync _ _ _ T.to_one (struct_sync (shape T) (search (sendable, crosses), (shr_sync _ _ _ (room_sync J P j p s send), (shr_sync _ _ _ channels.the_sync, tt))))
