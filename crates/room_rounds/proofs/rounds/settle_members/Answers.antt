use Rattle.std.proofs.Common.{◌∙◌, length}
use Rattle.room_rounds.proofs.Turning.{are_among, at_rest, begun, one_more}
use Rattle.room_rounds.proofs.rounds.settle_members.Goals as goal

pub loop-init : goal.loop-init
loop-init g c = begun g.J.Judge.verdict c.args.tables.now.items c.args.sources.now c.args.members.items c.requires

pub one_round-requires : goal.one_round-requires
one_round-requires g c = c.loop.invariant.can

pub have_rested-requires : goal.have_rested-requires
have_rested-requires g c =
    let tables = c.args.tables.now in
    let first = c.args.members.items in
    let now = c.in_ok-members.members.items in
    are_among g.J.Judge.verdict tables.items c.args.sources.now first now c.deref.result.now c.len.result
    (one_more g.J.Judge.verdict tables.items c.args.sources.now first c.loop.members.items now c.loop.invariant c.in_ok-members.ensures) (c.len.ensures ∙ tables.ok.0) c.deref.ensures.value

pub loop-preserved : goal.loop-preserved
loop-preserved g c =
    one_more g.J.Judge.verdict c.args.tables.now.items c.args.sources.now c.args.members.items c.loop.members.items c.in_ok-members.members.items c.loop.invariant c.in_ok-members.ensures

pub returns-then-branch-clause-later : goal.returns-then-branch-clause-later
returns-then-branch-clause-later g c =
    (one_more g.J.Judge.verdict c.args.tables.now.items c.args.sources.now c.args.members.items c.loop.members.items c.in_ok-members.members.items c.loop.invariant c.in_ok-members.ensures).later

pub returns-then-branch-clause-rests : goal.returns-then-branch-clause-rests
returns-then-branch-clause-rests g c =
    let tables = c.args.tables.now in
    at_rest c.len.result (length tables.items) c.deref.result.now c.in_ok-members.members.items (c.len.ensures ∙ tables.ok.0) c.deref.ensures.value (c.in_ok-have_rested.ensures c.if-branch.true)
