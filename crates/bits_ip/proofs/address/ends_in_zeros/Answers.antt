-- The mask keeps what the number leaves over the power of two.
use Rattle.std.proofs.Common.{◌-◌, ◌≡◌, ◌^◌, ◌%◌, bit_and, ap, ◌∙◌, rules, tests}
use Rattle.std.proofs.lemmas.Nat.{and_mask, one_shl}
use Rattle.bits_ip.proofs.address.ends_in_zeros.Goals as goal

pub returns-in-Some : goal.returns-in-Some
returns-in-Some c =
    let unit = c.in-Some.ensures.1 ∙ one_shl c.args.bits 128 c.in-Some.ensures.0 in
    let masked : bit_and c.args.number (c.in-Some.unit - 1) ≡ c.args.number % 2 ^ c.args.bits =
    ap (λ u. bit_and c.args.number (u - 1)) unit ∙ and_mask c.args.number c.args.bits in
    rw masked (search (rules, tests))
