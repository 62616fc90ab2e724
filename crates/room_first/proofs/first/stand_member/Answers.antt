use Rattle.std.proofs.Common.{◌+◌, map, sym, subst}
use Rattle.room_open.specs.declared.standing.StandingMember.TheVariants as members
use Rattle.sys_run.specs.Made.{Left}
use Rattle.sys_run.specs.Parts.{table_seen}
use Rattle.sys_run.specs.declared.parts.BodyParts.{BodyParts}
use Rattle.room_first.specs.Inside.{IsFirstProtocol, own_channels}
use Rattle.room_first.proofs.first.stand_member.Goals as goal

pub returns-in_ok-held-in-Pipe-clause-first : goal.returns-in_ok-held-in-Pipe-clause-first
returns-in_ok-held-in-Pipe-clause-first g c = λ lists left.
    subst (λ (b : BodyParts g.row.J.Denot). IsFirstProtocol g.J.Judge.verdict (map table_seen c.args.tables.now) lists c.args.number c.args.channel b (members.Pipe c.in_ok-held-in-Pipe.held)) (sym c.in-Pipe.is)
    (c.in_ok-held-in-Pipe.ensures.first lists left)

pub returns-in_ok-held-in-Pipe-clause-left : goal.returns-in_ok-held-in-Pipe-clause-left
returns-in_ok-held-in-Pipe-clause-left g c = λ lists left.
    subst (λ (b : BodyParts g.row.J.Denot). Left (c.args.channel + own_channels b) c.stand_pipe.new.passed.items lists) (sym c.in-Pipe.is)
    (c.in_ok-held-in-Pipe.ensures.left lists left)
