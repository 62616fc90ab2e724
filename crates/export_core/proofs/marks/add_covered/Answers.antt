use Rattle.std.proofs.Common.{◌≡◌, ◌+◌, ◌-◌, ℕ, arith, subst, sym}
use Rattle.export_core.proofs.Covered.{Covers, covers_more, covers_none}
use Rattle.export_core.proofs.marks.add_covered.Goals as goal

pub loop-left-init : goal.loop-left-init
loop-left-init c =
    let len = c.len-left.ensures.len in
    let from = c.requires in (
      omega (arith, len, from),
      omega (arith, len),
      subst (λ (n : ℕ). Covers c.args.range.now n c.args.map.now.entries c.args.candidates.now.entries c.args.candidates.now.entries) (sym len)
          (covers_none c.args.range.now c.args.map.now.entries c.args.candidates.now.entries),
    )

pub loop-left-preserved-in-Continue-1 : goal.loop-left-preserved-in-Continue-1
loop-left-preserved-in-Continue-1 c =
    let from = c.loop-left.invariant.0 in
    let within = c.loop-left.invariant.1 in
    let more = c.loop-left-test.true in
    let next : c.loop-left.left ≡ c.loop-left.left - 1 + 1 = omega (arith, more) in (
      omega (arith, from, more),
      omega (arith, within),
      covers_more c.args.range.now (c.loop-left.left - 1) c.in-Some.key.now c.in-Some.field-0-1.now c.args.map.now.entries _ c.loop-left.candidates.entries _ (sym c.in-Some.ensures.entry)
          (subst (λ (n : ℕ). Covers c.args.range.now n c.args.map.now.entries c.args.candidates.now.entries c.loop-left.candidates.entries) next c.loop-left.invariant.2)
          (rw (sym c.covers.ensures) c.in_ok-add_none.ensures),
    )

pub returns : goal.returns
returns c =
    let from = c.loop-left.invariant.0 in
    let more = c.loop-left-test.false in
    let end : c.loop-left.left ≡ c.args.from = omega (arith, from, more) in
    subst (λ (n : ℕ). Covers c.args.range.now n c.args.map.now.entries c.args.candidates.now.entries c.loop-left.candidates.entries) end c.loop-left.invariant.2
