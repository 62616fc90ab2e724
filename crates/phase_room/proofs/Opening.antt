-- A lock keeps its fact as a phase begins.
use Rattle.std.proofs.Common.{◌≡◌, ℕ, [], Some, None, ap, subst, sym, ◌∙◌}
use Rattle.std.specs.Prelude.{Option}
use Rattle.atomic_table.specs.Seated.{TableId}
use Rattle.attrs.specs.declared.judge.Verdict.{Verdict}
use Rattle.attrs.specs.declared.route.Route.{Route}
use Rattle.bits_ip.specs.Prefix.{Net}
use Rattle.jour_rule.specs.declared.views.View.{View as Seat}
use Rattle.table_shared.specs.Opening.{TableOpening}
use Rattle.import_lock.specs.Kept.{IsFree, IsImports, IsUnlessLost}
use Rattle.import_lock.specs.Locks.{terms_of}
use Rattle.import_lock.specs.Terms.{PhaseTerms}
use Rattle.import_lock.specs.declared.key.ImportKey.{ImportKey}
use Rattle.import_lock.specs.declared.state.ImportState.{ImportState}
use Rattle.import_lock.specs.declared.state.OpFault.{OpFault}
use Rattle.import_lock.specs.declared.state.OpFault.TheVariants.{Ended, Memory}
use Rattle.phase_room.specs.Locks.{import_terms}

pub unless_lost : (fault : Option OpFault) (P : Type 0) → P → IsUnlessLost fault P
unless_lost None P p = p
unless_lost (Some (Ended head)) P p = p
unless_lost (Some Memory) P p = tt

seats_are : {P : Type 0} (terms : P → PhaseTerms) (key : ImportKey P) (phase : P) (port : TableId × Seat TableOpening) (turns : TableId × Seat ℕ) (stamp : Option (TableId × Seat ℕ))
    → key.phase.value ≡ phase → key.port.value ≡ port → key.turns.value ≡ turns → key.stamp.value ≡ stamp → terms_of terms key ≡ import_terms (terms phase) key.number port turns stamp
seats_are terms key phase port turns stamp a b c d =
    ap (λ z. import_terms (terms z) key.number key.port.value key.turns.value key.stamp.value) a
    ∙ ap (λ z. import_terms (terms phase) key.number z key.turns.value key.stamp.value) b
    ∙ ap (λ z. import_terms (terms phase) key.number port z key.stamp.value) c
    ∙ ap (λ z. import_terms (terms phase) key.number port turns z) d

pub kept_first : {J P : Type 0} (verdict : J → Net → Route → Verdict) (terms : P → PhaseTerms) (key : ImportKey P) (phase : P) (port : TableId × Seat TableOpening) (turns : TableId × Seat ℕ) (stamp : Option (TableId × Seat ℕ)) (state : ImportState J)
    → key.phase.value ≡ phase → key.port.value ≡ port → key.turns.value ≡ turns → key.stamp.value ≡ stamp → IsFree verdict (import_terms (terms phase) key.number port turns stamp) [] state → IsImports verdict (terms_of terms key) state
kept_first verdict terms key phase port turns stamp state a b c d free =
    subst (λ z. IsImports verdict z state) (sym (seats_are terms key phase port turns stamp a b c d)) (unless_lost state.fault _ ([], free))
