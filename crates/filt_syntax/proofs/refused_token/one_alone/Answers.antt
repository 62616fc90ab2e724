use Rattle.filt_syntax.proofs.RefusedTokens.{alone_not, alone_by}
use Rattle.filt_syntax.proofs.refused_token.one_alone.Goals as goal

pub returns-then-not-can : goal.returns-then-not-can
returns-then-not-can g c = alone_not g.S.Sentences.form c.args.before.now.items c.args.one c.args.other c.in_ok-can.can c.if-not-can.true c.in_ok-can.ensures.can

pub returns : goal.returns
returns g c = alone_by g.S.Sentences.form c.args.before.now.items c.can_follow.new.before.items c.args.one c.args.other c.in_ok-can.can c.in_ok-other_can.other_can c.if-not-can.false c.in_ok-can.ensures.same c.in_ok-can.ensures.can c.in_ok-other_can.ensures.can
