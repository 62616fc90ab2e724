use Rattle.std.proofs.Common.{◌≡◌, ◌∙◌, ◌≤◌, ◌-◌, ◌/◌, ◌%◌, ◌^◌, ap, arith, rules, subst, sym}
use Rattle.bits_ip.specs.declared.address.Addr.TheVariants.{V4}
use Rattle.filt_sets.specs.Search.{IsShared}
use Rattle.filt_sets.proofs.NetOrder.{four_alike, made, shared_four}
use Rattle.filt_sets.proofs.covering.shared_v4.Goals as goal

pub overflow_sub-bits : goal.overflow_sub-bits
overflow_sub-bits c = omega (arith, c.unlike_bits-bits.ensures.least 32 (four_alike _ _ (search rules) (search rules)))

pub returns : goal.returns
returns c =
    let bits = c.unlike_bits-bits.result in
    let few : bits ≤ 32 = omega (arith, c.unlike_bits-bits.ensures.least 32 (four_alike _ _ (search rules) (search rules))) in
    let same : c.args.a / 2 ^ bits ≡ c.args.b / 2 ^ bits =
    ap (λ n. n / 2 ^ bits) (sym c.from.ensures) ∙ c.unlike_bits-bits.ensures.same ∙ ap (λ n. n / 2 ^ bits) c.from-2.ensures in
    let shared = shared_four c.args.a c.args.b bits few same
    (λ k e. c.unlike_bits-bits.ensures.least k (ap (λ n. n / 2 ^ k) c.from.ensures ∙ e ∙ ap (λ n. n / 2 ^ k) (sym c.from-2.ensures))) in
    let number = c.without_last-number.ensures ∙ ap (λ n. n - n % 2 ^ bits) c.from-3.ensures in
    made c.make.result c.ok.result (V4 c.args.a) (V4 c.args.b) (V4 c.without_last-number.result) (32 - bits)
    (subst (λ n. IsShared (V4 c.args.a) (V4 c.args.b) (record { addr = V4 n; len = 32 - bits })) (sym number) shared)
    c.make.ensures.made c.make.ensures.refused c.ok.ensures.value
