use Rattle.std.proofs.Common.{◌≡◌, ℕ, List, [], ◌∷◌, length, drop, refl, sym, subst, ◌∙◌, ap, arith}
use Rattle.conf_scan.specs.declared.token.Token.{Token}
use Rattle.conf_scan.specs.Lex.{Lexes}
use Rattle.conf_lex.specs.Words.{words_from}
use Rattle.conf_scan.specs.Spans.{AreWithin}
use Rattle.conf_lex.proofs.Folded.{next_words, words_reach}
use Rattle.conf_scan.proofs.Within.{within_drop, lexed_within}
use Rattle.conf_lex.proofs.token_words.word_at.Goals as goal

-- the tokens that are left stand within the text
left : (text : List ℕ) (tokens : List Token) (at : ℕ) (t : Token) (behind : List Token) → Lexes 0 text tokens → drop at tokens ≡ t ∷ behind → AreWithin text (t ∷ behind)
left text tokens at t behind lexes cut = let P : List Token → Type 0 = λ l. AreWithin text l in subst P cut (within_drop text at tokens (lexed_within text tokens lexes))

nothing : (l : List Token) → length l ≡ 0 → l ≡ []
nothing [] none = refl
nothing (t ∷ ts) none = absurd (omega (arith, none))

pub first_word-word-requires-clause-first : goal.first_word-word-requires-clause-first
first_word-word-requires-clause-first c = (left c.args.text.now c.args.tokens.now c.args.at c.in-Some.token.now c.in-Some.behind.now c.requires.lexed (sym c.tokens_from.ensures ∙ c.in-Some.ensures.cases.0)).0

pub first_word-word-requires-clause-behind : goal.first_word-word-requires-clause-behind
first_word-word-requires-clause-behind c = (left c.args.text.now c.args.tokens.now c.args.at c.in-Some.token.now c.in-Some.behind.now c.requires.lexed (sym c.tokens_from.ensures ∙ c.in-Some.ensures.cases.0)).1

pub overflow_add-result : goal.overflow_add-result
overflow_add-result c = omega (arith, words_reach c.args.text.now c.args.tokens.now c.args.at c.in-Some.token.now c.in-Some.behind.now c.first_word-word.result c.requires.within (sym c.tokens_from.ensures ∙ c.in-Some.ensures.cases.0) c.first_word-word.ensures)

pub returns-in-Some-clause-word : goal.returns-in-Some-clause-word
returns-in-Some-clause-word c = next_words c.args.text.now c.args.tokens.now c.args.at c.in-Some.token.now c.in-Some.behind.now c.first_word-word.result (sym c.tokens_from.ensures ∙ c.in-Some.ensures.cases.0) c.first_word-word.ensures

pub returns-in-Some-clause-rises : goal.returns-in-Some-clause-rises
returns-in-Some-clause-rises c =
    let reach = words_reach c.args.text.now c.args.tokens.now c.args.at c.in-Some.token.now c.in-Some.behind.now c.first_word-word.result c.requires.within (sym c.tokens_from.ensures ∙ c.in-Some.ensures.cases.0) c.first_word-word.ensures in
    (omega (arith, reach.0), reach.1)

pub returns-in-None-clause-word : goal.returns-in-None-clause-word
returns-in-None-clause-word c = ap (λ (l : List Token). words_from c.args.text.now c.args.at 0 l) (sym c.tokens_from.ensures ∙ nothing _ c.in-None.ensures.cases)
