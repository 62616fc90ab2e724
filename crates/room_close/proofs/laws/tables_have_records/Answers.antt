use Rattle.room_close.proofs.Recorded.{has_records, has_seen, pipe_has_ended, says_none, session_done}
use Rattle.room_close.proofs.laws.tables_have_records.Goals as goal

pub returns-clause-records : goal.returns-clause-records
returns-clause-records g c = λ tables left actors ended is t table at. has_records g.J.Judge.verdict tables left actors ended is t table at

pub returns-clause-none : goal.returns-clause-none
returns-clause-none g c = λ tables left actors ended is t none. says_none g.J.Judge.verdict tables left actors ended is t none

pub returns-clause-seen : goal.returns-clause-seen
returns-clause-seen g c = λ tables left actors ended is actor passes at t pass there. has_seen g.J.Judge.verdict tables left actors ended is actor passes at t pass there

pub returns-clause-sessions : goal.returns-clause-sessions
returns-clause-sessions g c = λ tables left actors ended is number session at key over. session_done g.J.Judge.verdict tables left actors ended is number session at key over

pub returns-clause-pipes : goal.returns-clause-pipes
returns-clause-pipes g c = λ tables left actors ended is number pipe at key hands over. pipe_has_ended g.J.Judge.verdict tables left actors ended is number pipe at key hands over
