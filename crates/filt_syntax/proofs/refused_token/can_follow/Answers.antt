use Rattle.std.proofs.Common.{◌↔◌, IsTrue, length, List, [], ◌∷◌, ap, subst, ◌∙◌, arith}
use Rattle.std.proofs.lemmas.List.{length-append}
use Rattle.std.specs.Prelude.{IfOk}
use Rattle.conf_lex.specs.declared.word.Word.{Word}
use Rattle.conf_lex.specs.Sentences.{IsBegun}
use Rattle.expr_syntax.specs.Syntax.{rule}
use Rattle.filt_syntax.proofs.Follows.{gone_again}
use Rattle.filt_syntax.proofs.refused_token.can_follow.Goals as goal

pub is_begun-begun-requires : goal.is_begun-begun-requires
is_begun-begun-requires g c = (c.args.before.now.items, c.args.word, c.deref.ensures.value ∙ c.in_ok-push.ensures.items, c.requires)

pub returns-clause-can : goal.returns-clause-can
returns-clause-can g c =
    subst (λ (u : List Word). IfOk c.is_begun-begun.result (λ can. IsTrue can ↔ IsBegun rule g.S.Sentences.form u)) (c.deref.ensures.value ∙ c.in_ok-push.ensures.items) c.is_begun-begun.ensures

pub returns-clause-same : goal.returns-clause-same
returns-clause-same g c =
    gone_again c.args.before.now.items c.push.new.self.items c.pop.new.self.items c.args.word _ c.in_ok-push.ensures.items (omega (arith, c.push.new.self.ok, ap (λ (u : List Word). length u) c.in_ok-push.ensures.items, length-append c.args.before.now.items (c.args.word ∷ []))) c.pop.ensures.rest
