use Rattle.std.proofs.Common.{◌≡◌, ap, ◌∙◌, slice_index}
use Rattle.bits_ip.proofs.Colons.{group_read}
use Rattle.bits_ip.proofs.read_v6.group_of.Goals as goal

pub returns : goal.returns
returns c =
    let plain : slice_index c.args.word.now 0 ≡ 43 → ⊥ = λ e.
    let plus = c.begins_with_plus.ensures.1 (ap (λ w. slice_index w 0) c.as_bytes.ensures.value ∙ e) in cc in
    rw c.ok.ensures.value (group_read c.args.word.now c.from_str_radix.result plain c.if-word-gt4.false c.from_str_radix.ensures.value)
