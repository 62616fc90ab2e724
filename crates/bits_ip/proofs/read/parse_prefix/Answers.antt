use Rattle.std.proofs.Common.{sym, ◌∙◌}
use Rattle.std.proofs.lemmas.Option.{none-some}
use Rattle.bits_ip.proofs.Slashed.{net_split, net_parts, net_made}
use Rattle.bits_ip.proofs.read.parse_prefix.Goals as goal

pub returns-in_err-front : goal.returns-in_err-front
returns-in_err-front c = rw c.from_residual.ensures (λ net is. none-some _ (sym c.in_err-front.ensures ∙ net_split c.args.text.now net is))

pub returns-in_err-addr : goal.returns-in_err-addr
returns-in_err-addr c = rw c.from_residual-in_err-addr.ensures (λ net is.
    c.in_err-addr.ensures net.addr (net_parts c.args.text.now _ _ net c.in_ok-front.ensures is).0)

pub returns-in_err-len : goal.returns-in_err-len
returns-in_err-len c = rw c.from_residual-in_err-len.ensures (λ net is.
    c.in_err-len.ensures net.len (net_parts c.args.text.now _ _ net c.in_ok-front.ensures is).1)

pub returns : goal.returns
returns c = rw c.ok.ensures.value (net_made c.args.text.now _ _ c.in_ok-addr.addr c.in_ok-len.len c.make.result
    c.in_ok-front.ensures c.in_ok-addr.ensures c.in_ok-len.ensures c.make.ensures.made c.make.ensures.is c.make.ensures.refused)
