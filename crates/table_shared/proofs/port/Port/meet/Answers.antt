use mathlib.Core.List.{IsPrefix}
use Rattle.std.proofs.Common.{ℕ, sym, ap, subst}
use Rattle.jour_rule.specs.Journal.{receipts}
use Rattle.jour.specs.Seats.{front, number_of, own}
use Rattle.table_shared.specs.Phases.{Seated}
use Rattle.table_shared.proofs.Receipts.{receipts_prefix}
use Rattle.table_shared.proofs.port.Port.meet.Goals as goal

pub returns-clause-receipts : goal.returns-clause-receipts
returns-clause-receipts c =
    let m = c.meet.ensures in let old = c.self.inside.maker in
    let start = ap (λ j. j.1.start) m.same.0 in
    subst (λ (v : Seated). IsPrefix (own v.1) (own c.meet.new.self.1)) c.self.view_is
    (subst (λ (z : ℕ × ℕ). IsPrefix (own old.1) (receipts z.0 z.1 (front c.meet.new.self.1))) (λ i. (sym start i, sym m.same.1 i))
    (receipts_prefix old.1.seen.terms.start (number_of old.1.role) (front old.1) (front c.meet.new.self.1) m.prefix))
