use Rattle.std.proofs.Common.{refl, subst}
use Rattle.jour.specs.Seats.{front}
use Rattle.table_shared.specs.declared.close.Phase.{Phase}
use Rattle.table_shared.specs.Phases.{IsPhase, Seated}
use Rattle.table_shared.proofs.Keeping.{phase_is}
use Rattle.table_shared.proofs.close.Closing.phase.Goals as goal

pub returns : goal.returns
returns c =
    let made : Phase = record { from = c.self.inside.desk.start; entries = c.from_vec.result; ports = c.from_vec-2.result; rib = c.self.inside.desk.rib } in
    subst (λ (w : Seated). IsPhase w.1.seen.terms (front w.1) made) c.self.view_is
    (phase_is c.self.inside.desk made c.self.invariant refl c.from_vec.ensures c.from_vec-2.ensures refl)
