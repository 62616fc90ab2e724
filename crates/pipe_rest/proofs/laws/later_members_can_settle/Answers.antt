use Rattle.pipe_rest.proofs.Goes.{member_among, member_can, member_then}
use Rattle.pipe_rest.proofs.laws.later_members_can_settle.Goals as goal

pub returns-clause-can : goal.returns-clause-can
returns-clause-can g c = λ tables sources old new later can. member_can g.J.Judge.verdict sources tables old new later can

pub returns-clause-twice : goal.returns-clause-twice
returns-clause-twice g c = λ sources first second third one two. member_then g.J.Judge.verdict sources first second third one two

pub returns-clause-among : goal.returns-clause-among
returns-clause-among g c = λ tables sources member can. member_among g.J.Judge.verdict sources tables member can
