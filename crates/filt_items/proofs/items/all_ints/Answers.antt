use Rattle.std.proofs.Common.{List, ap, ◌∙◌}
use Rattle.filt_meaning.specs.Scopes.{context_of}
use Rattle.filt_items.specs.Seen.{int_of}
use Rattle.filt_items.proofs.Sets.{at_stuck, at_turn, at_end, at_start, rest_of, next_item}
use Rattle.filt_items.proofs.items.all_ints.Goals as goal

pub loop-item-init : goal.loop-item-init
loop-item-init c = λ around variables. ap (λ (done : List _). rest_of (int_of (context_of c.args.text.now around c.args.scope.now variables)) done c.args.items.now) c.new-all.ensures.items ∙ at_start (int_of (context_of c.args.text.now around c.args.scope.now variables)) c.args.items.now

pub returns-in-None : goal.returns-in-None
returns-in-None c = λ around variables. at_stuck (int_of (context_of c.args.text.now around c.args.scope.now variables)) c.loop-item.all.items c.args.items.now c.loop-item.item-index c.item-item.result (next_item c.args.items.now c.loop-item.item-index c.item-item.result c.loop-item-test.true c.item-item.is) (c.in-None.ensures around variables) (c.loop-item.invariant around variables)

pub loop-item-preserved : goal.loop-item-preserved
loop-item-preserved c = λ around variables. at_turn (int_of (context_of c.args.text.now around c.args.scope.now variables)) c.loop-item.all.items c.push.new.self.items c.args.items.now c.loop-item.item-index c.item-item.result c.in-Some.range (next_item c.args.items.now c.loop-item.item-index c.item-item.result c.loop-item-test.true c.item-item.is) (c.in-Some.ensures around variables) c.in_ok-push-in-Some.ensures.items (c.loop-item.invariant around variables)

pub returns : goal.returns
returns c = λ around variables. at_end (int_of (context_of c.args.text.now around c.args.scope.now variables)) c.loop-item.all.items c.args.items.now c.loop-item.item-index c.loop-item-test.false (c.loop-item.invariant around variables)
