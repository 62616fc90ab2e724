use Rattle.std.proofs.Common.{◌≡◌, ◌∷◌, ◌∙◌, ap, sym}
use Rattle.conf_scan.specs.Fronts.{sign_at, sign_len}
use Rattle.conf_scan.proofs.Signs.{sign_first}
use Rattle.conf_scan.proofs.scan.sign_len.Goals as goal

pub returns : goal.returns
returns c =
    let first = c.in_ok-first.first.now in
    let behind = c.in_ok-first.behind.now in
    let cut : c.args.text.now ≡ first ∷ behind = c.in_ok-first.ensures.cases.0 in
    c.sign_at.ensures ∙ ap (sign_at first behind) cut ∙ sym (sign_first first behind) ∙ ap sign_len (sym cut)
