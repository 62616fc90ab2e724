use Rattle.std.proofs.Common.{◌≡◌, [], ◌∷◌, ◌++◌, drop, rules}
use Rattle.conf_lex.specs.Words.{words_from}
use Rattle.conf_lex.proofs.Folded.{words_more}
use Rattle.conf_lex.proofs.token_words.words_from.Goals as goal

pub loop-word-preserved : goal.loop-word-preserved
loop-word-preserved c =
    let all = words_from c.args.text.now c.args.from 0 (drop c.args.from c.args.tokens.now) in
    let pairs = words_from c.args.text.now c.loop-word.at 0 (drop c.loop-word.at c.args.tokens.now) in
    let rest = words_from c.args.text.now c.in-Some.next 0 (drop c.in-Some.next c.args.tokens.now) in
    let words : c.push.new.self.items ≡ c.loop-word.words.items ++ c.in-Some.word ∷ [] = search rules in
    let starts : c.push-in-Some.new.self.items ≡ c.loop-word.starts.items ++ c.loop-word.at ∷ [] = search rules in
    record {
      within = c.in-Some.ensures.rises.1;
      words = rw words (words_more (λ w. w.1) all pairs (c.loop-word.at, c.in-Some.word) rest c.loop-word.words.items c.in-Some.ensures.word c.loop-word.invariant.words);
      starts = rw starts (words_more (λ w. w.0) all pairs (c.loop-word.at, c.in-Some.word) rest c.loop-word.starts.items c.in-Some.ensures.word c.loop-word.invariant.starts);
    }
