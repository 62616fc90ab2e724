use Rattle.std.proofs.Common.{sym, ◌∙◌}
use Rattle.std.proofs.lemmas.Result.{IfOk-weaker}
use Rattle.filt_syntax.proofs.RefusedTokens.{place_is, no_place}
use Rattle.filt_syntax.proofs.refused_token.is_prefix_place.Goals as goal

pub returns-then-is_address_word : goal.returns-then-is_address_word
returns-then-is_address_word g c =
    IfOk-weaker c.can_follow.result _ _ (λ found told. place_is g.S.Sentences.form c.args.before.now.items c.args.last c.some_prefix.result found (sym c.is_address_word.ensures ∙ c.if-is_address_word.true) c.some_prefix.ensures told) c.can_follow.ensures.can

pub returns : goal.returns
returns g c = no_place g.S.Sentences.form c.args.before.now.items c.args.last (sym c.is_address_word.ensures ∙ c.if-is_address_word.false)
