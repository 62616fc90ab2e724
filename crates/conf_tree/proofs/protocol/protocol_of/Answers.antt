use Rattle.std.proofs.lemmas.Result.{err_from_is_err_and}
use Rattle.conf_tree.proofs.ProtocolSteps.{protocol_brace_fails, protocol_options_fail, protocol_got}
use Rattle.conf_tree.proofs.protocol.protocol_of.Goals as goal

pub returns-in_err-rest : goal.returns-in_err-rest
returns-in_err-rest g c =
    let p = err_from_is_err_and c.from_residual.result c.from_residual.ensures.1 in
    rw (p.1, p.2) (λ kind placed. protocol_brace_fails kind placed g.O.ProtocolOption.form c.args.depth_left c.args.at c.args.behind.now _ _ c.optional_name-name.ensures _ c.in_err-rest.ensures.gives)

pub returns-in_err-options : goal.returns-in_err-options
returns-in_err-options g c =
    let p = err_from_is_err_and c.from_residual-in_err-options.result c.from_residual-in_err-options.ensures.1 in
    rw (p.1, p.2) (λ kind placed. protocol_options_fail kind placed g.O.ProtocolOption.form c.args.depth_left c.args.at c.args.behind.now _ _ c.optional_name-name.ensures _ _ c.in_ok-rest.ensures.gives c.in_err-options.ensures)

pub returns : goal.returns
returns g c =
    λ kind placed. protocol_got kind placed g.O.ProtocolOption.form c.args.depth_left c.args.at c.args.behind.now _ _ c.optional_name-name.ensures _ _ _ _ _ _ c.in_ok-rest.ensures.gives c.in_ok-options.ensures c.optional_semicolon-semicolon.ensures
