use Rattle.std.proofs.Common.{◌≡◌, ◌∙◌, sym, ap, ℕ, take, drop}
use Rattle.std.specs.List.{take_while}
use Rattle.std.proofs.lemmas.Bool.{eqb-true}
use Rattle.std.proofs.lemmas.List.{nil_from_length}
use Rattle.text.specs.Lines.{is_blank}
use Rattle.text.specs.Cut.{behind, is_word_byte}
use Rattle.text.proofs.LineCuts.{filled_from_test}
use Rattle.text.proofs.WordCuts.{words_cut_none, words_cut, words_cut_shorter, behind_cut}
use Rattle.text.proofs.words.next_word.Goals as goal

pub returns-then-is_empty-clause-word : goal.returns-then-is_empty-clause-word
returns-then-is_empty-clause-word c =
    let rest = c.args.rest.now in
    let text : c.split_at.result.1.now ≡ behind is_blank rest = c.split_at.ensures.back ∙ ap (λ (n : ℕ). drop n rest) c.blank_len.ensures.len in
    words_cut_none rest c.split_at.result.1.now text (nil_from_length _ (eqb-true _ 0 (sym c.if-is_empty.ensures)))

pub returns-clause-word : goal.returns-clause-word
returns-clause-word c =
    let rest = c.args.rest.now in
    let behind_blanks = c.split_at.result.1.now in
    let text : behind_blanks ≡ behind is_blank rest = c.split_at.ensures.back ∙ ap (λ (n : ℕ). drop n rest) c.blank_len.ensures.len in
    let word : c.split_at-2.result.0.now ≡ take_while is_word_byte behind_blanks = c.split_at-2.ensures.front ∙ ap (λ (n : ℕ). take n behind_blanks) c.word_len.ensures.len in
    let after : c.split_at-2.result.1.now ≡ behind is_word_byte behind_blanks = c.split_at-2.ensures.back ∙ ap (λ (n : ℕ). drop n behind_blanks) c.word_len.ensures.len in
    words_cut rest behind_blanks _ _ text (filled_from_test behind_blanks c.if-is_empty.ensures) word after

pub returns-clause-shorter : goal.returns-clause-shorter
returns-clause-shorter c =
    let rest = c.args.rest.now in
    let behind_blanks = c.split_at.result.1.now in
    let text : behind_blanks ≡ behind is_blank rest = c.split_at.ensures.back ∙ ap (λ (n : ℕ). drop n rest) c.blank_len.ensures.len in
    let after : c.split_at-2.result.1.now ≡ behind is_word_byte behind_blanks = c.split_at-2.ensures.back ∙ ap (λ (n : ℕ). drop n behind_blanks) c.word_len.ensures.len in
    words_cut_shorter rest behind_blanks _ text (filled_from_test behind_blanks c.if-is_empty.ensures) after

pub returns-clause-behind : goal.returns-clause-behind
returns-clause-behind c =
    let rest = c.args.rest.now in
    let behind_blanks = c.split_at.result.1.now in
    let text : behind_blanks ≡ behind is_blank rest = c.split_at.ensures.back ∙ ap (λ (n : ℕ). drop n rest) c.blank_len.ensures.len in
    let after : c.split_at-2.result.1.now ≡ behind is_word_byte behind_blanks = c.split_at-2.ensures.back ∙ ap (λ (n : ℕ). drop n behind_blanks) c.word_len.ensures.len in
    behind_cut rest behind_blanks _ text (filled_from_test behind_blanks c.if-is_empty.ensures) after
