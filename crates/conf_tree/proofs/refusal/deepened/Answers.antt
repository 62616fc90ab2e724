use Rattle.std.proofs.Common.{List, sym, subst}
use Rattle.conf_words.specs.Marks.{AreMarks}
use Rattle.conf_words.specs.declared.significant.Mark.{Mark}
use Rattle.conf_tree.proofs.TextRefusals.{deepened_fault}
use Rattle.conf_tree.proofs.refusal.deepened.Goals as goal

pub spot_of-spot-requires-clause-lexed : goal.spot_of-spot-requires-clause-lexed
spot_of-spot-requires-clause-lexed c = (c.requires.words.0, c.requires.words.1)

pub spot_of-spot-requires-clause-mark : goal.spot_of-spot-requires-clause-mark
spot_of-spot-requires-clause-mark c = c.mark_before.ensures.mark c.args.text.now (subst (λ (u : List Mark). AreMarks c.args.text.now u) (sym c.deref.ensures.value) c.requires.marks)

pub returns-clause-fault : goal.returns-clause-fault
returns-clause-fault c =
    let words = c.requires.words in
    let deep = c.requires.deep in
    let lexes = c.spot_of-spot.ensures.tokens words.0 words.1 in
    deepened_fault c.args.text.now words.0 words.1 c.args.walked.now.words.items words.2 deep.0 c.args.place deep.1 deep.2 c.told.result (c.told.ensures.is _ lexes)
