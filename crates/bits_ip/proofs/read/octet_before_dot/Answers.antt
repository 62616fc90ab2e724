use Rattle.std.proofs.Common.{◌∷◌, ◌++◌, ap, sym, ◌∙◌}
use Rattle.std.proofs.lemmas.Option.{none-some, some_pair_parts}
use Rattle.bits_ip.proofs.Dotted.{octet_split}
use Rattle.bits_ip.proofs.Splits.{joined_parts}
use Rattle.bits_ip.proofs.read.octet_before_dot.Goals as goal

pub returns-in_err-digits : goal.returns-in_err-digits
returns-in_err-digits c = rw c.from_residual.ensures (λ n rest is. none-some _ (sym c.in_err-digits.ensures ∙ octet_split c.args.text.now n rest is))

pub returns-in_err-octet : goal.returns-in_err-octet
returns-in_err-octet c = rw c.from_residual-in_err-octet.ensures (λ n rest is.
    let same = some_pair_parts _ _ _ _ (sym c.in_ok-digits.ensures ∙ octet_split c.args.text.now n rest is) in
    c.in_err-octet.ensures n (is.0, same.0))

pub returns : goal.returns
returns c =
    let joined = joined_parts 46 c.args.text.now _ _ c.in_ok-digits.ensures in
    (c.in_ok-octet.ensures.0, joined ∙ ap (λ d. d ++ 46 ∷ c.in_ok-digits.rest.now) c.in_ok-octet.ensures.1)
