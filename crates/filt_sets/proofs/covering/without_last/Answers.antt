use Rattle.std.proofs.Common.{◌-◌, ap, ◌∙◌, bit_and}
use Rattle.std.proofs.lemmas.Nat.{and_mask, one_shl}
use Rattle.filt_sets.proofs.covering.without_last.Goals as goal

pub returns-in-Some : goal.returns-in-Some
returns-in-Some c =
    let unit = c.in-Some.ensures.1 ∙ one_shl c.args.bits 128 c.in-Some.ensures.0 in
    ap (λ m. c.args.number - m) (ap (λ u. bit_and c.args.number (u - 1)) unit ∙ and_mask c.args.number c.args.bits)
