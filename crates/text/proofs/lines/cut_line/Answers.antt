use Rattle.std.proofs.Common.{◌≡◌, ◌∙◌, ap, ℕ, take, drop}
use Rattle.std.specs.List.{take_while}
use Rattle.std.proofs.lemmas.List.{nil_from_length}
use Rattle.text.specs.Cut.{behind, is_line_byte}
use Rattle.text.proofs.LineCuts.{cut_at_newline, cut_at_end, filled_from_test}
use Rattle.text.proofs.lines.cut_line.Goals as goal

pub returns-in-Some-clause-line : goal.returns-in-Some-clause-line
returns-in-Some-clause-line c =
    let rest = c.args.rest.now in
    let front : c.split_at.result.0.now ≡ take_while is_line_byte rest = c.split_at.ensures.front ∙ ap (λ (n : ℕ). take n rest) c.line_len.ensures.len in
    let back : c.split_at.result.1.now ≡ behind is_line_byte rest = c.split_at.ensures.back ∙ ap (λ (n : ℕ). drop n rest) c.line_len.ensures.len in
    let cut = cut_at_newline rest c.split_at.result.0.now c.split_at.result.1.now c.in-Some.after.now _ front back (c.in-Some.ensures.cases).0 in
    rw c.without_return.ensures cut

pub returns-in-None-clause-line : goal.returns-in-None-clause-line
returns-in-None-clause-line c =
    let rest = c.args.rest.now in
    let front : c.split_at.result.0.now ≡ take_while is_line_byte rest = c.split_at.ensures.front ∙ ap (λ (n : ℕ). take n rest) c.line_len.ensures.len in
    let back : c.split_at.result.1.now ≡ behind is_line_byte rest = c.split_at.ensures.back ∙ ap (λ (n : ℕ). drop n rest) c.line_len.ensures.len in
    cut_at_end rest c.split_at.result.0.now c.split_at.result.1.now front back (nil_from_length _ c.in-None.ensures.cases) (filled_from_test rest c.if-is_empty.ensures)
