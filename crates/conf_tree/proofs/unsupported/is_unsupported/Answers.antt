use Rattle.std.proofs.Common.{List, refl, sym as flip, subst}
use Rattle.conf_lex.specs.declared.symbol.Symbol.TheVariants as symbols
use Rattle.conf_lex.specs.declared.word.Word.{Word}
use Rattle.conf_tree.specs.Sentence.{EndsIn, a_kind}
use Rattle.conf_tree.proofs.Known.{not_both}
use Rattle.conf_tree.proofs.unsupported.is_unsupported.Goals as goal

pub returns-then-ends_in-clause-found : goal.returns-then-ends_in-clause-found
returns-then-ends_in-clause-found c =
    (λ yes. a_kind (subst (λ (u : List Word). EndsIn symbols.Protocol u (λ front. Unit {0})) c.deref.ensures.value (c.ends_in.ensures.0 c.if-ends_in.true)), λ known. refl)

pub is_unsupported_option-requires-clause-no_kind : goal.is_unsupported_option-requires-clause-no_kind
is_unsupported_option-requires-clause-no_kind c = λ ends.
    not_both c.ends_in.result (c.ends_in.ensures.1 (subst (λ (u : List Word). EndsIn symbols.Protocol u (λ front. Unit {0})) (flip c.deref.ensures.value) ends)) c.if-ends_in.false
