use Rattle.std.proofs.Common.{◌≡◌, ◌∙◌, ap, ℕ, take, drop}
use Rattle.std.specs.List.{take_while}
use Rattle.std.proofs.lemmas.List.{nil_from_length}
use Rattle.announcements.specs.Reading.{is_no_colon}
use Rattle.text.specs.Cut.{behind}
use Rattle.announcements.proofs.CommunityWords.{cut_none, cut_some}
use Rattle.announcements.proofs.communities.cut_at_colon.Goals as goal

pub returns-in_err-back : goal.returns-in_err-back
returns-in_err-back c =
    let word = c.args.word.now in
    let back : c.split_at.result.1.now ≡ behind is_no_colon word = c.split_at.ensures.back ∙ ap (λ (n : ℕ). drop n word) c.front_len.ensures.len in
    rw c.from_residual.ensures (cut_none word c.split_at.result.1.now back (nil_from_length _ c.in_err-back.ensures.cases))

pub returns : goal.returns
returns c =
    let word = c.args.word.now in
    let front : c.split_at.result.0.now ≡ take_while is_no_colon word = c.split_at.ensures.front ∙ ap (λ (n : ℕ). take n word) c.front_len.ensures.len in
    let back : c.split_at.result.1.now ≡ behind is_no_colon word = c.split_at.ensures.back ∙ ap (λ (n : ℕ). drop n word) c.front_len.ensures.len in
    cut_some word c.split_at.result.0.now c.split_at.result.1.now c.in_ok-back.back.now _ front back (c.in_ok-back.ensures.cases).0
