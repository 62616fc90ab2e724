use Rattle.std.proofs.Common.{arith, ◌-◌}
use Rattle.conf_words.proofs.TokenSteps.{passed_none, passed_more, passed_here, passed_end}
use Rattle.conf_words.proofs.tokens.byte_past.Goals as goal

pub loop-token-init : goal.loop-token-init
loop-token-init c = passed_none c.args.text.now c.args.spot c.args.past c.requires

pub token_ahead-requires : goal.token_ahead-requires
token_ahead-requires c = c.loop-token.invariant.spot

pub returns-then-left-eq0-clause-is : goal.returns-then-left-eq0-clause-is
returns-then-left-eq0-clause-is c = passed_here c.args.text.now c.args.spot c.loop-token.here c.in-Some.behind c.args.past c.loop-token.left c.in-Some.token c.if-left-eq0.true c.in-Some.ensures c.loop-token.invariant

pub returns-then-left-eq0-clause-within : goal.returns-then-left-eq0-clause-within
returns-then-left-eq0-clause-within c = omega (arith, c.in-Some.ensures.inside.ends)

pub loop-token-preserved : goal.loop-token-preserved
loop-token-preserved c = passed_more c.args.text.now c.args.spot c.loop-token.here c.in-Some.behind c.args.past c.loop-token.left (c.loop-token.left - 1) c.in-Some.token (omega (arith, c.if-left-eq0.false)) c.in-Some.ensures c.loop-token.invariant

pub returns-clause-is : goal.returns-clause-is
returns-clause-is c = passed_end c.args.text.now c.args.spot c.loop-token.here c.args.past c.loop-token.left c.in_default.ensures c.loop-token.invariant
