use Rattle.conf_scan.specs.Lex.{IsBadAt, IsLexFault}
use Rattle.conf_scan.proofs.Readings.{lexes_once, lexes_or_stops}
use Rattle.conf_scan.proofs.Spots.{read_more, read_all, stepped_on, stuck_bad, stuck_only, stuck_exact, handed, handed_on}
use Rattle.conf_scan.proofs.lexer.lex.Goals as goal

pub returns-in_err-token-clause-bad : goal.returns-in_err-token-clause-bad
returns-in_err-token-clause-bad c =
    handed c.from_residual.result c.in_err-token.field-0.0 (λ fault. IsLexFault c.args.text.now fault) c.from_residual.ensures.1
    (stuck_bad c.args.text.now c.loop-found.found.items c.loop-found.spot c.in_err-token.field-0.0 c.loop-found.invariant c.in_err-token.ensures.bad)

pub returns-in_err-token-clause-only : goal.returns-in_err-token-clause-only
returns-in_err-token-clause-only c = λ tokens lexes.
    stuck_only c.args.text.now c.loop-found.found.items c.loop-found.spot c.in_err-token.field-0.0 c.loop-found.invariant c.in_err-token.ensures.bad tokens lexes

pub returns-in_err-token-clause-exact : goal.returns-in_err-token-clause-exact
returns-in_err-token-clause-exact c = λ tokens place stops.
    handed_on c.from_residual.result c.in_err-token.field-0.0 (λ found. ⊥) (λ fault. IsBadAt fault place) c.from_residual.ensures.1
    (stuck_exact c.args.text.now c.loop-found.found.items c.loop-found.spot c.in_err-token.field-0.0 c.loop-found.invariant c.in_err-token.ensures.bad tokens place stops)

pub loop-found-preserved : goal.loop-found-preserved
loop-found-preserved c =
    rw c.in_ok-push.ensures.items (read_more c.args.text.now c.loop-found.found.items c.loop-found.spot c.in-Some.behind c.in-Some.token
    (stepped_on c.args.text.now c.loop-found.spot c.in-Some.behind c.in-Some.token c.in_ok-token.field-0 c.in-Some.is c.in_ok-token.ensures.token) c.loop-found.invariant)

pub returns-clause-tokens : goal.returns-clause-tokens
returns-clause-tokens c = read_all c.args.text.now c.loop-found.found.items c.loop-found.spot c.loop-found.invariant (rw c.in_default.is at c.in_ok-token.ensures.token)

pub returns-clause-only : goal.returns-clause-only
returns-clause-only c = λ tokens lexes.
    lexes_once 0 c.args.text.now c.loop-found.found.items tokens (read_all c.args.text.now c.loop-found.found.items c.loop-found.spot c.loop-found.invariant (rw c.in_default.is at c.in_ok-token.ensures.token)) lexes

pub returns-clause-exact : goal.returns-clause-exact
returns-clause-exact c = λ tokens place stops.
    lexes_or_stops 0 c.args.text.now c.loop-found.found.items tokens place (read_all c.args.text.now c.loop-found.found.items c.loop-found.spot c.loop-found.invariant (rw c.in_default.is at c.in_ok-token.ensures.token)) stops
