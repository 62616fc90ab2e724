use Rattle.std.proofs.Common.{◌+◌, ◌&&◌, List, drop, ap, ◌∙◌}
use Rattle.conf_ast.specs.declared.filters.Item.{Item}
use Rattle.filt_types.specs.Items as of
use Rattle.filt_types.specs.Items.{sorts_of_items}
use Rattle.filt_types.specs.Refusals.{first_in}
use Rattle.filt_types.specs.Seen.{scene_in}
use Rattle.filt_types.specs.Walk.{common_seen}
use Rattle.filt_types.proofs.Gathered.{common_more, all_known_more, items_more}
use Rattle.filt_types.proofs.Lookups.{next_item}
use Rattle.filt_types.proofs.items.all_items.Goals as goal

pub loop-x-preserved : goal.loop-x-preserved
loop-x-preserved c =
    let e = next_item c.args.items.now c.loop-x.x-index c.x-item.result c.loop-x-test.true c.x-item.is in
    let rest = drop (c.loop-x.x-index + 1) c.args.items.now in
    record {
      common = common_more (scene_in c.args.seen) c.args.items.now rest c.x-item.result (common_seen c.args.before) (common_seen c.loop-x.common) (common_seen c.with_sort-common.result) c.item-sort.result
          (c.loop-x.invariant.common ∙ ap (λ (xs : List Item). of.common (common_seen c.loop-x.common) (sorts_of_items (scene_in c.args.seen) xs)) e) c.item-sort.ensures.sort c.with_sort-common.ensures;
      known = all_known_more (scene_in c.args.seen) c.args.items.now rest c.x-item.result c.loop-x.all_known c.is_some-all_known.result c.item-sort.result
          (c.loop-x.invariant.known ∙ ap (λ (xs : List Item). c.loop-x.all_known && of.all_known (sorts_of_items (scene_in c.args.seen) xs)) e) c.item-sort.ensures.sort c.is_some-all_known.ensures;
      first = items_more (scene_in c.args.seen) c.args.items.now rest c.x-item.result c.args.first.now c.loop-x.first c.item-sort.new.first
          (c.loop-x.invariant.first ∙ ap (λ (xs : List Item). first_in c.loop-x.first (of.all_items (scene_in c.args.seen) xs)) e) c.item-sort.ensures.first;
    }
