use Rattle.std.proofs.Common.{ℕ, List, ◌==◌, false, ap, sym, ◌∙◌, arith}
use Rattle.conf_scan.specs.Shapes.{first_passes}
use Rattle.conf_scan.proofs.Decimals.{decimal_tells}
use Rattle.conf_scan.proofs.number.number_token.Goals as goal

pub returns : goal.returns
returns c =
    let found = c.digits-found.result in
    let told = c.digits-found.ensures in
    decimal_tells c.args.text.now found.len found.value c.requires told.len (omega (arith, c.if-found-eq0.false)) told.within
    (ap (λ (l : List ℕ). first_passes (λ b. b == 46) l) (sym c.tail.ensures) ∙ sym c.begins_with.ensures ∙ c.if-begins_with.false)
    (sym c.begins_hexadecimal.ensures ∙ c.if-begins_hexadecimal.false)
    (omega (arith, c.if-found-gt4294967295.false))
    (told.value (omega (arith, c.if-found-gt4294967295.false)))
