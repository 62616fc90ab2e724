-- A room may be shared by threads, and so a closure may go to one. One search over a
-- closure with a room would be too long.
use mathlib.Core.List.{List, [], ◌∷◌}
use mir.Syntax.{Sym, w64}
use denote.Param.Send.{AllSend, IsSend, IsSync, recorded_send, recorded_sync, sendable, struct_send, struct_sync}
use denote.Plain.{UInt}
use denote.RattleType.{RattleType}
use denote.Struct.Declared.{shape}
use denote.Struct.Field.{rows}
use denote.Struct.Tuple.{TupleAt, parts, type_at}
use Rattle.std.proofs.Crossing.{crosses, Vec-sync}
use Rattle.std.specs.contracts.alloc.Global as heap
use Rattle.std.specs.contracts.impls.GlobalAllocator.TheImpl.{ghosts}
use Rattle.std.specs.contracts.vec.Vec as vec
use Rattle.attrs.specs.declared.judge.Judge as judge
use Rattle.attrs.proofs.route.Src.TheSendSync as source
use Rattle.import_lock.specs.declared.key.Phase as phase
use Rattle.export_lock.specs.declared.key.Sends as sends
use Rattle.room_members.specs.contracts.room.Room as room
use Rattle.room_members.proofs.member.Member.TheSendSync as member
use Rattle.script_lines.specs.contracts.script.Line as line
use Rattle.script_lines.proofs.script.Line.TheSendSync as line_shared
use Rattle.show_route.specs.contracts.query.Query as query
use Rattle.show_route.proofs.query.Query.TheSendSync as query_shared
use Rattle.table_shared.proofs.table.Table.TheSendSync as table

pub room_sync : (J P : RattleType) (j : judge.Ghosts J.Denot) (p : phase.Ghosts P.Denot) (s : sends.Ghosts P.Denot) → IsSend J → IsSync (room.the_row J P j p s)
room_sync J P j p s send =
    let T = room.the_type J P j p s in
    recorded_sync _ _ _ T.to_one (struct_sync (shape T) (search crosses, (search (sendable, crosses, source.the_sync), (search (sendable, crosses, table.the_sync), (Vec-sync _ (member.the_sync J P j p s send), tt)))))

pub queries_sync : IsSync (vec.the_row query.the_row heap.the_row ghosts)
queries_sync = Vec-sync _ query_shared.the_sync

pub lines_sync : IsSync (vec.the_row line.the_row heap.the_row ghosts)
lines_sync = Vec-sync _ line_shared.the_sync

pub number_send : IsSend (UInt w64)
number_send = search sendable

parts_send : (Ts : List RattleType) → AllSend Ts → AllSend (rows (parts Ts))
parts_send [] all = tt
parts_send (T ∷ Ts) all = (all.0, parts_send Ts all.1)

-- the row of a closure is its tuple's, under the closure's own name
pub tuple_send : (name : Sym) (Ts : List RattleType) → AllSend Ts → IsSend (TupleAt name Ts)
tuple_send name Ts all =
    let T = type_at name Ts in
    recorded_send _ _ _ T.to_one (struct_send (shape T) (parts_send Ts all))
