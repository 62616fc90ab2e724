use Rattle.std.proofs.Common.{arith, sym, drop}
use Rattle.std.proofs.lemmas.List.{length-take}
use Rattle.conf_scan.proofs.Tokens.{front_token}
use Rattle.conf_scan.proofs.Readings.{no_tokens, no_value, tells}
use Rattle.conf_scan.proofs.lexer.token_at.Goals as goal

pub returns-in_err-sort : goal.returns-in_err-sort
returns-in_err-sort c = rw c.from_residual.ensures (no_tokens c.args.text.now (sym c.in_err-sort.ensures))

pub slice_bounds-kind_of-end : goal.slice_bounds-kind_of-end
slice_bounds-kind_of-end c =
    let token = front_token c.args.text.now c.in_ok-sort.sort c.in_ok-sort.len (sym c.in_ok-sort.ensures) in
    omega (arith, token.1, length-take c.in_ok-sort.len c.args.text.now)

pub kind_of-requires : goal.kind_of-requires
kind_of-requires c =
    let token = front_token c.args.text.now c.in_ok-sort.sort c.in_ok-sort.len (sym c.in_ok-sort.ensures) in
    (drop c.in_ok-sort.len c.args.text.now, token.2.shape)

pub returns-in_err-kind : goal.returns-in_err-kind
returns-in_err-kind c = rw c.from_residual-in_err-kind.ensures (no_value c.args.text.now c.in_ok-sort.sort c.in_ok-sort.len (sym c.in_ok-sort.ensures) c.in_err-kind.ensures)

pub returns : goal.returns
returns c = tells c.args.text.now c.in_ok-sort.sort c.in_ok-sort.len c.in_ok-kind.kind (sym c.in_ok-sort.ensures) c.in_ok-kind.ensures
