use Rattle.std.proofs.Common.{List, [], ◌∷◌, ◌++◌, sym as flip, ◌∙◌, ap, arith}
use Rattle.conf_lex.specs.declared.symbol.Symbol.TheVariants as symbols
use Rattle.conf_lex.specs.declared.word.Word.{Word}
use Rattle.filt_syntax.proofs.Follows.{begun_before}
use Rattle.conf_syntax.specs.Syntax.{config}
use Rattle.conf_tree.specs.Sentence.{CanStand}
use Rattle.conf_tree.proofs.Known.{export_is}
use Rattle.conf_tree.proofs.LastWord.{nothing_ends}
use Rattle.conf_tree.proofs.unsupported.is_export_limit.Goals as goal

pub stands_for-requires : goal.stands_for-requires
stands_for-requires c = begun_before config c.args.before.now.items c.pop.new.self.items c.in-Some.last c.in-Some.ensures.items c.requires

pub returns-in_ok-push-in-Some-clause-found : goal.returns-in_ok-push-in-Some-clause-found
returns-in_ok-push-in-Some-clause-found c =
    export_is c.args.before.now.items c.pop.new.self.items c.in-Some.last c.args.word.now c.as_slice.result.now _ _ _ _ c.in-Some.ensures.items c.is_symbol.ensures c.eq.ensures c.as_slice.ensures c.in_ok-found-in-Some.ensures.found

pub returns-in_ok-push-in-Some-clause-same : goal.returns-in_ok-push-in-Some-clause-same
returns-in_ok-push-in-Some-clause-same c =
    c.in_ok-push-in-Some.ensures.items ∙ ap (λ (u : List Word). u ++ c.in-Some.last ∷ []) c.in_ok-found-in-Some.ensures.same ∙ flip c.in-Some.ensures.items

pub returns-in-None-clause-found : goal.returns-in-None-clause-found
returns-in-None-clause-found c =
    let none = nothing_ends c.args.before.now.items symbols.Export (CanStand symbols.Next) (omega (arith, c.in-None.ensures.cases.0, c.args.before.now.ok)) in
    (λ yes. absurd cc, λ limit. none.1 limit.1)
