use Rattle.std.proofs.Common.{◌≡◌, refl, ap, length, ◌∙◌}
use Rattle.jour.specs.Seats.{journal}
use Rattle.phase_legal.specs.Shown.{PassView}
use Rattle.phase_room.proofs.Dealing.{all_more, all_none, longer_by_one}
use Rattle.phase_room.proofs.deals.split_pass.Goals as goal

pub loop-init : goal.loop-init
loop-init c = (
  ap length c.new-passes.ensures.items,
  refl,
  all_none (λ (p : PassView). journal p ≡ journal c.args.pass.now) c.new-passes.result.items c.new-passes.ensures.items,
)

pub loop-preserved : goal.loop-preserved
loop-preserved c =
    let i = c.loop.invariant in (
      longer_by_one c.loop.passes.items c.push.new.self.items c.in_ok-other.other c.loop.counter i.0 c.in_ok-push.ensures.items,
      ap journal c.split.ensures.same ∙ i.1,
      all_more (λ (p : PassView). journal p ≡ journal c.args.pass.now) c.loop.passes.items c.push.new.self.items c.in_ok-other.other i.2 (c.in_ok-other.ensures.new.0 ∙ i.1) c.in_ok-push.ensures.items,
    )
