use Rattle.std.proofs.Common.{◌∙◌}
use Rattle.filt_sets.proofs.Cuts.{cuts_decide}
use Rattle.filt_sets.proofs.mask.Mask.matches.Goals as goal

pub returns-then-path-lt-PLACES : goal.returns-then-path-lt-PLACES
returns-then-path-lt-PLACES c =
    cuts_decide c.args.self.now c.as_slice.result.now c.args.path.now c.matches_by_places.result c.matches_by_places.ensures (c.as_slice.ensures.value ∙ c.self.view_is)

pub returns-else-path-lt-PLACES : goal.returns-else-path-lt-PLACES
returns-else-path-lt-PLACES c =
    cuts_decide c.args.self.now c.as_slice-else-path-lt-PLACES.result.now c.args.path.now c.matches_by_pieces.result c.matches_by_pieces.ensures (c.as_slice-else-path-lt-PLACES.ensures.value ∙ c.self.view_is)
