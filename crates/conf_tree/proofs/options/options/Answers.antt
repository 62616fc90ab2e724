use Rattle.std.proofs.Common.{◌≡◌, [], ◌∷◌, ◌++◌, rules}
use Rattle.std.proofs.lemmas.Result.{err_from_is_err_and}
use Rattle.conf_syntax.specs.View.{ended_row}
use Rattle.conf_tree.proofs.OptionSteps.{row_start, row_closed, row_option_fails, row_semicolon_fails, option_shorter, row_next}
use Rattle.conf_tree.proofs.options.options.Goals as goal

pub loop-end-init : goal.loop-end-init
loop-end-init g c =
    let none : c.new-options.result.items ≡ [] = search rules in
    rw none (row_start g.O.ProtocolOption.form c.args.depth_left c.args.words.now)

pub returns-in-Some : goal.returns-in-Some
returns-in-Some g c =
    row_closed g.O.ProtocolOption.form g.met.O.ProtocolOption.is_option c.args.depth_left c.args.words.now (ended_row g.O.ProtocolOption.tree c.loop-end.options.items) c.loop-end.rest.now c.in-Some.end.now c.loop-end.invariant c.in-Some.ensures

pub returns-in_err-option : goal.returns-in_err-option
returns-in_err-option g c =
    let p = err_from_is_err_and c.from_residual.result c.from_residual.ensures.1 in
    rw (p.1, p.2) (row_option_fails g.O.ProtocolOption.form g.met.O.ProtocolOption.is_option c.args.depth_left c.args.words.now (ended_row g.O.ProtocolOption.tree c.loop-end.options.items) c.loop-end.rest.now _ c.loop-end.invariant c.in_default.ensures c.in_err-option.ensures)

pub returns-in_err-rest : goal.returns-in_err-rest
returns-in_err-rest g c =
    let p = err_from_is_err_and c.from_residual-in_err-rest.result c.from_residual-in_err-rest.ensures.1 in
    rw (p.1, p.2) (row_semicolon_fails g.O.ProtocolOption.form g.met.O.ProtocolOption.is_option c.args.depth_left c.args.words.now (ended_row g.O.ProtocolOption.tree c.loop-end.options.items) c.loop-end.rest.now _ c.in_ok-option.end.now _ c.loop-end.invariant c.in_ok-option.ensures c.in_err-rest.ensures.gives)

pub loop-end-smaller : goal.loop-end-smaller
loop-end-smaller g c =
    option_shorter g.O.ProtocolOption.form g.met.O.ProtocolOption.is_option c.args.depth_left c.loop-end.rest.now _ c.in_ok-option.end.now c.in_ok-rest.rest.now c.in_ok-option.ensures c.in_ok-rest.ensures.gives

pub loop-end-preserved : goal.loop-end-preserved
loop-end-preserved g c =
    let pushed : c.push_tight.new.list.items ≡ c.loop-end.options.items ++ c.in_ok-option.option ∷ [] = search rules in
    row_next g.O.ProtocolOption.tree g.O.ProtocolOption.form g.met.O.ProtocolOption.is_option c.args.depth_left c.args.words.now c.loop-end.options.items c.loop-end.rest.now c.in_ok-option.option c.in_ok-option.end.now c.in_ok-rest.rest.now _ pushed c.loop-end.invariant c.in_ok-option.ensures c.in_ok-rest.ensures.gives
