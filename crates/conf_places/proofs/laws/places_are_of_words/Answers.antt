use Rattle.std.proofs.Common.{◌<◌, ℕ, length, Contains}
use Rattle.conf_lex.specs.Grammar.{yield}
use Rattle.conf_tree.specs.View.{statement_tree}
use Rattle.conf_ast.specs.Configurations.{Declaration, configuration_of, declaration_of}
use Rattle.conf_places.specs.Configurations.{places}
use Rattle.conf_places.specs.Words.{IsTokenPlace, of_words}
use Rattle.conf_places.proofs.Every.{Every, all_of, all_of_all, members, weaker}
use Rattle.conf_places.proofs.Statements.{declaration_on}
use Rattle.conf_places.proofs.Texts.{at_tokens, within}
use Rattle.conf_places.proofs.Trees.{on_tree}
use Rattle.conf_places.proofs.laws.places_are_of_words.Goals as goal

pub returns-clause-words : goal.returns-clause-words
returns-clause-words c s fits =
    let words = of_words (yield (statement_tree s)) in
    all_of (Contains words) (places (declaration_of s))
    (declaration_on (Contains words) s fits (on_tree (Contains words) (statement_tree s) (members words)))

pub returns-clause-tokens : goal.returns-clause-tokens
returns-clause-tokens c text ss h =
    all_of_all (IsTokenPlace text) places (configuration_of ss) (at_tokens text ss h)

pub returns-clause-bytes : goal.returns-clause-bytes
returns-clause-bytes c text ss h =
    all_of_all (λ (at : ℕ). at < length text) places (configuration_of ss)
    (weaker (λ (d : Declaration). Every (IsTokenPlace text) (places d)) (λ (d : Declaration). Every (λ (at : ℕ). at < length text) (places d))
    (λ d is. weaker (IsTokenPlace text) (λ (at : ℕ). at < length text) (within c.tokens_are_slices.ensures text) (places d) is)
    (configuration_of ss) (at_tokens text ss h))
