use Rattle.std.proofs.Common.{◌≡◌, ◌∙◌, ⊎_elim, get_or, length, sym, true, false}
use Rattle.std.proofs.lemmas.Bool.{cases_lt}
use Rattle.filt_sets.proofs.NetOrder.{covers_shared, covers_upto}
use Rattle.filt_sets.proofs.covering.left_before.Goals as goal

pub returns-in-Some-clause-held : goal.returns-in-Some-clause-held
returns-in-Some-clause-held c = λ rising behind k d within covers.
    let net = (get_or c.args.before.now k d).net in
    let shared = covers_shared net c.args.item.now.net c.args.net.now c.in-Some.both (rising.each k d within) covers (behind.before k d within) behind.upto c.in-Some.ensures in
    ⊎_elim (λ low. low)
    (λ high.
    let wrong : true ≡ false = sym ((c.up_to.ensures.at rising).1 k d high within) ∙ covers_upto net c.in-Some.both (rising.each k d within) shared in
    absurd (cc))
    (cases_lt k (length c.up_to.result.now))
