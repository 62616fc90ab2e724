-- The words before a refused one begin a sentence.
use Rattle.std.proofs.Common.{ℕ, List, take, subst}
use Rattle.conf_scan.specs.declared.token.Token.{Token}
use Rattle.conf_lex.specs.declared.word.Word.{Word}
use Rattle.conf_lex.specs.Sentences.{IsBegunWithin}
use Rattle.expr_syntax.specs.Syntax.{rule}
use Rattle.conf_syntax.specs.Syntax.{config}
use Rattle.conf_words.specs.Significant.{significant_words}
use Rattle.conf_tree.specs.Sentence.{StopsAt}
use Rattle.syntax_laws.proofs.Pasts.{front_is}

pub config_before : (text : List ℕ) (tokens : List Token) (place at : ℕ) → StopsAt text tokens place at → IsBegunWithin rule 64 config (take place (significant_words text tokens))
config_before text tokens place at s =
    subst (λ (u : List Word). IsBegunWithin rule 64 config u) (front_is (significant_words text tokens) s.stop.before place s.within s.stop.front) s.stop.begun
