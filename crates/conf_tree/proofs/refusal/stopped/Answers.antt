use Rattle.std.proofs.Common.{◌-◌, ◌≤◌, List, length, take, drop, IsSomeAnd, sym, subst}
use Rattle.conf_lex.specs.declared.word.Word.{Word}
use Rattle.conf_lex.specs.Sentences.{IsBegunWithin}
use Rattle.expr_syntax.specs.Syntax.{rule}
use Rattle.conf_syntax.specs.Syntax.{config}
use Rattle.conf_words.specs.Marks.{AreMarks}
use Rattle.conf_tree.specs.Sentence.{word_bytes, IsUnsupported, Refuses}
use Rattle.conf_words.specs.Significant.{token_of}
use Rattle.conf_words.specs.declared.significant.Mark.{Mark}
use Rattle.conf_tree.proofs.LastStatement.{from_within, place_last, begun_last, refuses_last}
use Rattle.conf_tree.proofs.TextRefusals.{stopped_fault}
use Rattle.conf_tree.proofs.refusal.stopped.Goals as goal

pub spot_of-spot-requires-clause-lexed : goal.spot_of-spot-requires-clause-lexed
spot_of-spot-requires-clause-lexed c = (c.requires.words.0, c.requires.words.1)

pub spot_of-spot-requires-clause-mark : goal.spot_of-spot-requires-clause-mark
spot_of-spot-requires-clause-mark c = c.mark_before.ensures.mark c.args.text.now (subst (λ (u : List Mark). AreMarks c.args.text.now u) (sym c.deref.ensures.value) c.requires.marks)

pub leave_last-requires : goal.leave_last-requires
leave_last-requires c = from_within c.args.walked.now.words.items c.args.from c.args.place c.requires.stops

pub refusal-requires-clause-within : goal.refusal-requires-clause-within
refusal-requires-clause-within c = subst (λ (u : List Word). c.args.place - c.args.from ≤ length u) (sym c.leave_last.ensures) (place_last c.args.walked.now.words.items c.args.from c.args.place c.requires.stops)

pub refusal-requires-clause-begun : goal.refusal-requires-clause-begun
refusal-requires-clause-begun c =
    subst (λ (u : List Word). IsBegunWithin rule 64 config (take (c.args.place - c.args.from) u)) (sym c.leave_last.ensures) (begun_last c.args.walked.now.words.items c.args.from c.args.place c.requires.stops)

pub returns-clause-fault : goal.returns-clause-fault
returns-clause-fault c =
    let ws = c.args.walked.now.words.items in
    let text = c.args.text.now in
    let words = c.requires.words in
    let stops = c.requires.stops in
    let place = c.args.place in
    let at = place - c.args.from in
    let e = c.refusal.result in
    let here = drop (token_of text words.0 place) words.0 in
    let lexes = c.spot_of-spot.ensures.tokens words.0 words.1 in
    stopped_fault text words.0 words.1 ws words.2 stops.rest place stops.at stops.stop e c.told.result
    (refuses_last ws c.args.from place stops text here e
    (subst (λ (u : List Word). Refuses (IsSomeAnd (word_bytes (drop at u) text here) (IsUnsupported (take at u))) u at 0 e) c.leave_last.ensures (c.refusal.ensures here lexes)))
    (c.told.ensures.is here lexes)
