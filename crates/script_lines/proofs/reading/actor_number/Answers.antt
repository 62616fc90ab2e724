use Rattle.std.proofs.Common.{◌≡◌, length, arith}
use Rattle.script_lines.specs.Grammar.{Close}
use Rattle.script_lines.proofs.Places.{new_actor}
use Rattle.script_lines.proofs.reading.actor_number.Goals as goal

pub returns : goal.returns
returns c =
    let none = rw c.deref.ensures.value at c.in_default.ensures in
    let place_is : c.len-place.result ≡ length c.args.actors.now.items = omega (arith, c.len-place.ensures, c.args.actors.now.ok) in
    new_actor c.args.actors.now.items c.push.new.self.items c.args.actor.now c.in_ok-new.field-0 Close c.len-place.result none
    (λ many. omega (arith, many, c.if-len-ge-MAX_ACTORS.false, c.len.ensures, c.args.actors.now.ok)) c.in_ok-new.ensures c.in_ok-push.ensures.items place_is
