use Rattle.std.proofs.Common.{◌+◌, drop, List, ap, ◌∙◌}
use Rattle.conf_ast.specs.declared.filters.Arm.{Arm}
use Rattle.conf_ast.specs.declared.filters.Item.{Item}
use Rattle.conf_ast.specs.declared.filters.Stmt.{Stmt}
use Rattle.filt_types.specs.Items.{all_items, common, sorts_of_items}
use Rattle.filt_types.specs.Refusals.{first_in}
use Rattle.filt_types.specs.Seen.{scene_in}
use Rattle.filt_types.specs.Statements.{labels}
use Rattle.filt_types.specs.Walk.{arms_of, common_seen}
use Rattle.filt_rules.proofs.Checking as g
use Rattle.filt_rules.proofs.statements.all_labels.Goals as goal

pub loop-arm-preserved : goal.loop-arm-preserved
loop-arm-preserved c =
    let e = g.next_item c.args.arms.now c.loop-arm.arm-index c.arm-item.result c.loop-arm-test.true c.arm-item.is in
    let more = drop (c.loop-arm.arm-index + 1) c.args.arms.now in
    record {
      sorts = c.loop-arm.invariant.sorts ∙ ap (λ (xs : List (Arm Stmt)). common (common_seen c.loop-arm.common) (sorts_of_items (scene_in c.args.seen) (labels (arms_of xs)))) e
          ∙ g.sorts_of_arm (scene_in c.args.seen) c.arm-item.result more (common_seen c.loop-arm.common) (common_seen c.all_items-common.result.common) (c.all_items-common.ensures.common ∙ ap (λ (xs : List Item). common (common_seen c.loop-arm.common) (sorts_of_items (scene_in c.args.seen) xs)) c.deref.ensures.value);
      refusals = c.loop-arm.invariant.refusals ∙ ap (λ (xs : List (Arm Stmt)). first_in c.loop-arm.first (all_items (scene_in c.args.seen) (labels (arms_of xs)))) e
          ∙ g.items_of_arm (scene_in c.args.seen) c.arm-item.result more c.loop-arm.first c.all_items-common.new.first (c.all_items-common.ensures.first ∙ ap (λ (xs : List Item). first_in c.loop-arm.first (all_items (scene_in c.args.seen) xs)) c.deref.ensures.value);
    }
