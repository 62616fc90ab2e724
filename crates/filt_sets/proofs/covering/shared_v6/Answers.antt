use Rattle.std.proofs.Common.{◌-◌, subst, sym}
use Rattle.bits_ip.specs.declared.address.Addr.TheVariants.{V6}
use Rattle.filt_sets.specs.Search.{IsShared}
use Rattle.filt_sets.proofs.NetOrder.{made, shared_six}
use Rattle.filt_sets.proofs.covering.shared_v6.Goals as goal

pub returns : goal.returns
returns c =
    let bits = c.unlike_bits-bits.result in
    let shared = shared_six c.args.a c.args.b bits c.unlike_bits-bits.ensures.within c.unlike_bits-bits.ensures.same c.unlike_bits-bits.ensures.least in
    made c.make.result c.ok.result (V6 c.args.a) (V6 c.args.b) (V6 c.without_last.result) (128 - bits)
    (subst (λ n. IsShared (V6 c.args.a) (V6 c.args.b) (record { addr = V6 n; len = 128 - bits })) (sym c.without_last.ensures) shared)
    c.make.ensures.made c.make.ensures.refused c.ok.ensures.value
