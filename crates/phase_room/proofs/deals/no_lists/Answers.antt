use Rattle.std.proofs.Common.{◌≡◌, [], ap, length}
use Rattle.std.specs.declared.alloc.Global.{Global}
use Rattle.std.specs.declared.vec.Vec.{Vec}
use Rattle.phase_room.proofs.Dealing.{all_more, all_none, longer_by_one}
use Rattle.phase_room.proofs.deals.no_lists.Goals as goal

pub loop-init : goal.loop-init
loop-init g c = (ap length c.new-lists.ensures.items, all_none (λ (v : Vec g.row.T.Denot Global). v.items ≡ []) c.new-lists.result.items c.new-lists.ensures.items)

pub loop-preserved : goal.loop-preserved
loop-preserved g c = (
  longer_by_one c.loop.lists.items c.push.new.self.items c.new.result c.loop.counter c.loop.invariant.0 c.in_ok-push.ensures.items,
  all_more (λ (v : Vec g.row.T.Denot Global). v.items ≡ []) c.loop.lists.items c.push.new.self.items c.new.result c.loop.invariant.1 c.new.ensures.items c.in_ok-push.ensures.items,
)
