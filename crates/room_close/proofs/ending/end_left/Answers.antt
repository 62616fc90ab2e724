use Rattle.std.proofs.Common.{subst, sym}
use Rattle.std.specs.List.{AllByRecursion}
use Rattle.phase_legal.specs.Shown.{AreBeside}
use Rattle.pipe_rest.specs.Later.{CanSettle, IsLaterMember}
use Rattle.room_close.proofs.Going.{all_still_settle}
use Rattle.room_close.proofs.ending.end_left.Goals as goal

pub settle_members-requires : goal.settle_members-requires
settle_members-requires g c =
    let left = c.args.left in
    subst (λ z. AllByRecursion (CanSettle g.J.Judge.verdict left.tables.items z) left.members.items) (sym c.as_slice-sources.ensures.value) c.requires.members

pub end_room-requires-clause-members : goal.end_room-requires-clause-members
end_room-requires-clause-members g c =
    let left = c.args.left in
    let settled = c.in_ok-settled in
    let goes =
    subst (λ z. AreBeside (IsLaterMember g.J.Judge.verdict z) left.members.items settled.settled.items) c.as_slice-sources.ensures.value settled.ensures.later
    in
    (left.sources.items, all_still_settle g.J.Judge.verdict left.tables.items left.sources.items left.members.items settled.settled.items c.requires.members goes)

pub returns-in-Ok : goal.returns-in-Ok
returns-in-Ok g c =
    let left = c.args.left in
    let settled = c.in_ok-settled in
    record {
      later = settled.settled.items;
      goes = subst (λ z. AreBeside (IsLaterMember g.J.Judge.verdict z) left.members.items settled.settled.items) c.as_slice-sources.ensures.value settled.ensures.later;
      heads = settled.ensures.rests.0;
      heads_are = settled.ensures.rests.1;
      read = settled.ensures.rests.2;
      over = c.in-Ok.ensures;
    }
