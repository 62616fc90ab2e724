use Rattle.std.proofs.Common.{◌≡◌, Bool, List, ap, ◌∙◌, subst}
use Rattle.std.specs.List.{AllByRecursion}
use Rattle.atomic_table.specs.Seated.{TableId}
use Rattle.jour_rule.specs.declared.views.Entry.{Entry}
use Rattle.jour_rule.specs.declared.views.Terms.{Terms}
use Rattle.jour.specs.Seats.{front, journal}
use Rattle.table_shared.specs.Opening.{TableOpening}
use Rattle.table_shared.specs.Phases.{IsHeard, IsPhase, IsRetired, Seated}
use Rattle.table_shared.proofs.table.Table.close_phase.Goals as goal

pub returns : goal.returns
returns g c =
    let here = c.close-closing.ensures in
    let retired = c.retire_all.ensures in let passed = c.hear_passes.ensures in let read = c.hear_cursors.ensures in
    let named : journal c.hear_cursors.new.closing ≡ c.args.self = read.same.0 ∙ passed.same.0 ∙ retired.same.0 ∙ here in
    let list : front c.hear_passes.new.closing.1 ≡ front c.close-closing.result.1 = passed.same.1 ∙ retired.same.1 in
    record {
      list = front c.close-closing.result.1;
      phase = subst (λ (z : Terms TableOpening × List Entry). IsPhase z.0 z.1 c.phase.result) (λ i. ((named i).1, (read.same.1 ∙ list) i)) c.phase.ensures;
      retired = subst (λ (t : Terms TableOpening). AllByRecursion (IsRetired t (front c.close-closing.result.1)) c.args.ports.items) (ap (λ (j : TableId × Terms TableOpening). j.1) here) retired.retired;
      passed = subst (λ (z : Terms TableOpening × List Entry). AllByRecursion (λ (x : Seated). IsHeard z.0 z.1 x.1) c.args.passes.items)
          (λ i. (((retired.same.0 ∙ here) i).1, retired.same.1 i)) passed.heard;
      read = subst (λ (z : Terms TableOpening × List Entry). AllByRecursion (λ (x : Seated × Bool). IsHeard z.0 z.1 x.0.1) c.args.cursors.items)
          (λ i. (((passed.same.0 ∙ retired.same.0 ∙ here) i).1, list i)) read.heard;
    }
