use Rattle.std.proofs.Common.{List, length, slice_get, sym, ap, ◌∙◌, arith}
use Rattle.jour.specs.Seats.{journal}
use Rattle.table_shared.specs.Phases.{Seated}
use Rattle.table_shared.proofs.table.Table.make.Goals as goal

pub returns-clause-ports : goal.returns-clause-ports
returns-clause-ports c =
    let here = ap (λ s. journal s.value) c.in_ok-lock.ensures ∙ ap journal c.of-key.ensures in
    let e = c.in_ok-writer.ensures.makers in
    let same = c.in_ok-ports.ensures in
    let ports = c.in_ok-ports.ports.ok.0 in
    let makers = c.in_ok-writer.makers.ok.0 in
    let long = ap length same in
    let all = e.0 in
    let given = c.len-makers.ensures in
    let sources = c.args.ports.ok.0 in
    let few = c.requires.ports in (
      omega arith,
      λ k m at. let h = e.1 k m (ap (λ (l : List Seated). slice_get l k) (sym same) ∙ at) in (h.0 ∙ sym here, h.1, h.2, h.3),
    )

pub returns-clause-cursors : goal.returns-clause-cursors
returns-clause-cursors c =
    let here = ap (λ s. journal s.value) c.in_ok-lock.ensures ∙ ap journal c.of-key.ensures in
    let e = c.in_ok-writer.ensures.cursors in
    (e.0, λ k m at. let h = e.1 k m at in (h.0 ∙ sym here, h.1, h.2, h.3))
