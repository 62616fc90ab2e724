use Rattle.filt_syntax.proofs.RefusedTokens.{prefix_past, address_past}
use Rattle.filt_syntax.proofs.refused_token.past.Goals as goal

pub returns-in_ok-one_alone-in-Prefix-clause-past : goal.returns-in_ok-one_alone-in-Prefix-clause-past
returns-in_ok-one_alone-in-Prefix-clause-past g c =
    prefix_past g.S.Sentences.form c.args.before.now.items c.args.torn c.args.slash _ _ _ c.count.result c.in-Prefix.is c.some_address-address.ensures c.some_prefix-prefix.ensures c.in_ok-one_alone-in-Prefix.ensures c.count.ensures

pub returns-in_ok-found-in-Address-clause-past : goal.returns-in_ok-found-in-Address-clause-past
returns-in_ok-found-in-Address-clause-past g c =
    address_past g.S.Sentences.form c.args.before.now.items c.args.torn c.args.slash _ _ _ c.torn_tokens.result c.count-in-Address.result c.in-Address.is c.some_prefix-prefix.ensures c.some_address-address.ensures c.in_ok-found-in-Address.ensures c.torn_tokens.ensures c.count-in-Address.ensures
