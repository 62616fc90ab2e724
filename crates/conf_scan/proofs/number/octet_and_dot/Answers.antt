use Rattle.std.proofs.Common.{ℕ, List, ◌==◌, ap, sym, ◌∙◌}
use Rattle.conf_scan.specs.Shapes.{first_passes}
use Rattle.conf_scan.proofs.Decimals.{octet_dot}
use Rattle.conf_scan.proofs.number.octet_and_dot.Goals as goal

pub returns-then-begins_with : goal.returns-then-begins_with
returns-then-begins_with c =
    octet_dot c.args.text.now c.in_ok-found.found c.in_ok-found.ensures
    (ap (λ (l : List ℕ). first_passes (λ b. b == 46) l) (sym c.tail.ensures) ∙ sym c.begins_with.ensures ∙ c.if-begins_with.true)
