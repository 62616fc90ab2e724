use Rattle.std.proofs.Common.{◌≡◌, refl, [], length, arith}
use Rattle.script_lines.specs.Inside.{state_of}
use Rattle.script_lines.proofs.LineParts.{query_put}
use Rattle.script_lines.proofs.reading.put_query.Goals as goal

pub returns : goal.returns
returns c =
    let old = c.args.reading.now in
    let place : c.len-place.result ≡ length old.queries.items = omega (arith, c.len-place.ensures, old.queries.ok) in
    let before : c.len.result ≡ length old.conditions.items = omega (arith, c.len.ensures, old.conditions.ok) in
    query_put [] c.args.named.now c.args.number c.args.actor c.len-place.result c.len.result c.args.query c.choice_after-choice.result c.args.condition (state_of old) _ refl refl
    c.in_ok-push-2.ensures.items c.in_ok-push.ensures.items c.in_ok-put_condition.ensures place before c.choice_after-choice.ensures
