use Rattle.std.proofs.Common.{◌≡◌, ◌≤◌, ◌-◌, ◌++◌, length, map, drop}
use Rattle.conf_lex.specs.Words.{words_from}
use Rattle.conf_lex.proofs.token_words.words_from.Given as goal

-- What was found and the words from this token on are the words of the text.
abbrev pub invariant-loop-word : goal.invariant-loop-word
invariant-loop-word l = record {
  within : l.at ≤ length l.tokens;
  words : map (λ word. word.1) (words_from l.text l.from 0 (drop l.from l.tokens)) ≡ l.words.items ++ map (λ word. word.1) (words_from l.text l.at 0 (drop l.at l.tokens));
  starts : map (λ word. word.0) (words_from l.text l.from 0 (drop l.from l.tokens)) ≡ l.starts.items ++ map (λ word. word.0) (words_from l.text l.at 0 (drop l.at l.tokens));
}

abbrev pub decreases-loop-word : goal.decreases-loop-word
decreases-loop-word l = length l.tokens - l.at
