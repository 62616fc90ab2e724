use Rattle.std.proofs.Common.{◌≡◌, ℕ, [], length, subst, sym, arith, rules}
use Rattle.conf_scan.specs.Lex.{IsLexFault}
use Rattle.conf_scan.proofs.Spots.{handed}
use Rattle.conf_words.specs.Marks.{IsMark}
use Rattle.conf_words.specs.Significant.{is_significant}
use Rattle.conf_words.proofs.SpotSteps.{first_is, mark_more, kept_count, no_marks}
use Rattle.conf_words.proofs.SignificantWalks.{walk_none, walk_more, walk_ends, walk_stuck, walked_on, no_memory}
use Rattle.conf_words.proofs.significant.walked_words.Goals as goal

pub loop-marks-init : goal.loop-marks-init
loop-marks-init c =
    let none : c.new-found.result.items ≡ [] = search rules in
    let unmarked : c.new-marks.result.items ≡ [] = search rules in
    rw (none, unmarked) (walk_none c.args.text.now, first_is c.args.text.now, no_marks c.args.text.now)

pub loop-marks-preserved : goal.loop-marks-preserved
loop-marks-preserved c =
    let text = c.args.text.now in
    let found = c.loop-marks.found.items in
    let region = c.loop-marks.region in
    let spot = c.loop-marks.spot in
    let word = c.in-Some.word in
    let kept = c.loop-marks.invariant in
    let step = walked_on text spot c.in-Some.end word c.in_ok-word.field-0 c.in-Some.is c.in_ok-word.ensures.word in
    let count : c.len.result ≡ length found = omega (arith, c.len.ensures, c.loop-marks.found.ok) in
    let marked : IsMark text (record { count = c.len.result; region = region; spot = spot }) = subst (λ (n : ℕ). IsMark text (record { count = n; region = region; spot = spot })) (sym count) kept.1 in
    rw (c.behind-region.ensures, c.in_ok-keep.ensures.words) (
      walk_more text found region spot c.in-Some.end word step kept.0,
      mark_more text (length found) _ region spot c.in-Some.end word (kept_count found (is_significant region word) word) step kept.1,
      c.note.ensures text marked kept.2,
    )

pub returns-clause-words : goal.returns-clause-words
returns-clause-words c = walk_ends c.args.text.now c.loop-marks.found.items c.loop-marks.region c.loop-marks.spot c.loop-marks.invariant.0 (rw c.in_default.is at c.in_ok-word.ensures.word)

pub returns-clause-marks : goal.returns-clause-marks
returns-clause-marks c = c.loop-marks.invariant.2

pub returns-in_err-word-clause-bad : goal.returns-in_err-word-clause-bad
returns-in_err-word-clause-bad c =
    handed c.from_residual.result c.in_err-word.field-0.0 (λ fault. IsLexFault c.args.text.now fault) c.from_residual.ensures.1
    (walk_stuck c.args.text.now c.loop-marks.found.items c.loop-marks.region c.loop-marks.spot c.in_err-word.field-0.0 c.loop-marks.invariant.0 c.in_err-word.ensures.bad)

pub returns-in_err-keep-clause-bad : goal.returns-in_err-keep-clause-bad
returns-in_err-keep-clause-bad c =
    handed c.from_residual-in_err-keep.result c.in_err-keep.field-0.0 (λ fault. IsLexFault c.args.text.now fault) c.from_residual-in_err-keep.ensures.1
    (no_memory c.args.text.now c.in_err-keep.field-0.0 c.in_err-keep.ensures.memory)
