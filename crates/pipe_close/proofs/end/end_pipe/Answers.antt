use Rattle.jour.specs.Seats.{journal}
use Rattle.phase_close.specs.Closed.{all_lists}
use Rattle.pipe_lock.specs.Terms.{ops_told}
use Rattle.pipe_close.proofs.Ending.{ends_pipe, reads_at, still_at, writes_at}
use Rattle.pipe_close.proofs.end.end_pipe.Goals as goal

pub end_lane-out-requires-clause-read : goal.end_lane-out-requires-clause-read
end_lane-out-requires-clause-read g c =
    let r = c.requires in
    let l = r.over.left_is in
    reads_at g.J.Judge.verdict r.key.pipe r.key.pipe.out r.key.out (ops_told r.key.pipe l.list) c.args.left.out l.out r.tables (all_lists c.args.closings.now.items) r.lists_are c.args.left.primary c.args.left.peer r.over.out_is

pub end_lane-out-requires-clause-written : goal.end_lane-out-requires-clause-written
end_lane-out-requires-clause-written g c =
    let r = c.requires in
    let l = r.over.left_is in
    writes_at g.J.Judge.verdict r.key.pipe r.key.pipe.out r.key.out (ops_told r.key.pipe l.list) c.args.left.out l.out r.tables (all_lists c.args.closings.now.items) r.lists_are c.args.left.primary c.args.left.peer r.over.out_is

pub end_lane-back-requires-clause-read : goal.end_lane-back-requires-clause-read
end_lane-back-requires-clause-read g c =
    let r = c.requires in
    let l = r.over.left_is in
    still_at (all_lists c.args.closings.now.items) (all_lists c.end_lane-out.new.closings.items) c.end_lane-out.ensures.same c.args.left.peer (journal c.args.left.back.state.cursor.0)
    (reads_at g.J.Judge.verdict r.key.pipe r.key.pipe.back r.key.back (ops_told r.key.pipe l.list) c.args.left.back l.back r.tables (all_lists c.args.closings.now.items) r.lists_are c.args.left.peer c.args.left.primary r.over.back_is)

pub end_lane-back-requires-clause-written : goal.end_lane-back-requires-clause-written
end_lane-back-requires-clause-written g c =
    let r = c.requires in
    let l = r.over.left_is in
    still_at (all_lists c.args.closings.now.items) (all_lists c.end_lane-out.new.closings.items) c.end_lane-out.ensures.same c.args.left.primary (journal c.args.left.back.port)
    (writes_at g.J.Judge.verdict r.key.pipe r.key.pipe.back r.key.back (ops_told r.key.pipe l.list) c.args.left.back l.back r.tables (all_lists c.args.closings.now.items) r.lists_are c.args.left.peer c.args.left.primary r.over.back_is)

pub returns-clause-ended : goal.returns-clause-ended
returns-clause-ended g c =
    let out = c.end_lane-out in
    let back = c.end_lane-back in
    ends_pipe g.J.Judge.verdict c.args.left (all_lists c.args.closings.now.items) (all_lists out.new.closings.items) out.ensures.same out.result back.result out.ensures.heard out.ensures.ended out.ensures.retired back.ensures.heard back.ensures.ended back.ensures.retired
