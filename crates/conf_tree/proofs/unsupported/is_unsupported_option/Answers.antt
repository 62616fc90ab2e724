use Rattle.std.proofs.Common.{◌∙◌}
use Rattle.conf_lex.specs.declared.symbol.Symbol.TheVariants as symbols
use Rattle.conf_tree.proofs.Known.{one_of, text_and, stands_again, export_again, option_is}
use Rattle.conf_tree.proofs.unsupported.is_unsupported_option.Goals as goal

pub returns-clause-found : goal.returns-clause-found
returns-clause-found c =
    let before = c.args.before.now.items in
    let one = c.in_ok-statement.ensures.same in
    let two = c.in_ok-bgp_option.ensures.same ∙ one in
    let three = c.in_ok-channel_option.ensures.same ∙ two in
    let four = c.in_ok-import.ensures.same ∙ three in
    let five = c.in_ok-export.ensures.same ∙ four in
    let six = c.in_ok-action.ensures.same ∙ five in
    option_is before c.args.word.now c.requires.no_kind _ _ _ _ _ _ _
    (one_of _ c.is_statement_word.result _ _ c.is_statement_word.ensures c.in_ok-statement.ensures.found)
    (one_of _ c.is_bgp_word.result _ _ c.is_bgp_word.ensures (stands_again before _ symbols.Neighbor _ _ one c.in_ok-bgp_option.ensures.found))
    (one_of _ c.is_channel_word.result _ _ c.is_channel_word.ensures (stands_again before _ symbols.Next _ _ two c.in_ok-channel_option.ensures.found))
    (one_of _ c.is_import_word.result _ _ c.is_import_word.ensures (stands_again before _ symbols.Limit _ _ three c.in_ok-import.ensures.found))
    (export_again before _ _ _ four c.in_ok-export.ensures.found)
    (text_and _ c.eq.result c.args.word.now c.as_slice.result.now _ _ c.eq.ensures c.as_slice.ensures (stands_again before _ symbols.Warn _ _ five c.in_ok-action.ensures.found))
    (text_and _ c.eq-2.result c.args.word.now c.as_slice-2.result.now _ _ c.eq-2.ensures c.as_slice-2.ensures (stands_again before _ symbols.Blackhole _ _ six c.in_ok-route.ensures.found))

pub returns-clause-same : goal.returns-clause-same
returns-clause-same c =
    c.in_ok-route.ensures.same ∙ c.in_ok-action.ensures.same ∙ c.in_ok-export.ensures.same ∙ c.in_ok-import.ensures.same ∙ c.in_ok-channel_option.ensures.same ∙ c.in_ok-bgp_option.ensures.same ∙ c.in_ok-statement.ensures.same
