use Rattle.std.proofs.Common.{◌+◌, ◌&&◌, false, List, drop, get_or, ap, ◌∙◌}
use Rattle.conf_ast.specs.declared.filters.MaskAtom.TheVariants as mask_atoms
use Rattle.conf_ast.specs.declared.filters.MaskItem.{MaskItem}
use Rattle.filt_types.specs.Items as of
use Rattle.filt_types.specs.Items.{is_known}
use Rattle.filt_types.specs.Refusals.{first_in}
use Rattle.filt_types.specs.Seen.{scene_in}
use Rattle.filt_types.proofs.Gathered.{atoms_known_more, atoms_more}
use Rattle.filt_types.proofs.Lookups.{next_got}
use Rattle.filt_types.proofs.items.all_atoms.Goals as goal

abbrev nothing : MaskItem
nothing = record { atom = mask_atoms.One; many = false }

pub loop-x-preserved : goal.loop-x-preserved
loop-x-preserved c =
    let e = next_got c.args.elements.now c.loop-x.x-index nothing c.loop-x-test.true in
    let x = get_or c.args.elements.now c.loop-x.x-index nothing in
    let rest = drop (c.loop-x.x-index + 1) c.args.elements.now in
    record {
      known = atoms_known_more (scene_in c.args.seen) c.args.elements.now rest x c.loop-x.all_known c.mask_item-is_known.result
          (c.loop-x.invariant.known ∙ ap (λ (xs : List MaskItem). c.loop-x.all_known && is_known (of.names_in_mask (scene_in c.args.seen) xs)) e) c.mask_item-is_known.ensures.known;
      first = atoms_more (scene_in c.args.seen) c.args.elements.now rest x c.args.first.now c.loop-x.first c.mask_item-is_known.new.first
          (c.loop-x.invariant.first ∙ ap (λ (xs : List MaskItem). first_in c.loop-x.first (of.all_atoms (scene_in c.args.seen) xs)) e) c.mask_item-is_known.ensures.first;
    }
