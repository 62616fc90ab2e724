-- What a protocol's part gives as a phase begins, and what its lock then says of its hands.
use Rattle.std.proofs.Common.{◌≡◌, ℕ, ◌+◌, [], List, Option, ap, subst, sym, ◌∙◌}
use Rattle.std.specs.Prelude.{IfSome}
use Rattle.atomic_table.specs.Seated.{TableId}
use Rattle.attrs.specs.declared.judge.Verdict.{Verdict}
use Rattle.attrs.specs.declared.route.Route.{Route}
use Rattle.bits_ip.specs.Prefix.{Net}
use Rattle.jour_rule.specs.declared.views.Terms.{Terms}
use Rattle.jour_rule.specs.declared.views.View.{View as Seat}
use Rattle.jour.specs.Seats.{AreMakers, front, journal, number_of}
use Rattle.table_shared.specs.Opening.{TableOpening}
use Rattle.import_lock.specs.Begun.{IsUnused}
use Rattle.import_lock.specs.Terms.{ImportTerms, PhaseTerms}
use Rattle.phase_room.specs.Journals.{turns_terms}
use Rattle.phase_room.specs.Locks.{CanImport, import_terms}
use Rattle.phase_room.specs.Parts.{IsProtocolPart}
use Rattle.phase_room.specs.Rooms.{TableTerms}
use Rattle.phase_room.specs.declared.parts.ProtocolPart.{ProtocolPart}
use Rattle.phase_room.proofs.Standing.{can_import, source_seats}

-- with turns that have no entry yet, and a stamp that has marked nothing
pub part_can_import : {J : Type 0} (verdict : J → Net → Route → Verdict) (phase : PhaseTerms) (stood : TableTerms) (here : TableId × Terms TableOpening) (part : ProtocolPart J) → IsProtocolPart verdict phase stood here part
    → (hands : ℕ) (turns : TableId × Seat ℕ) (stamp : Option (TableId × Seat ℕ)) → turns.1.seen.terms ≡ turns_terms hands → hands ≡ phase.starter + 1 → front turns.1 ≡ [] → IfSome stamp IsUnused → CanImport verdict phase part.number part.importer part.port turns stamp
part_can_import verdict phase stood here part p hands turns stamp terms many unturned unused =
    can_import verdict phase part.number p.source stood part.importer p.stands here part.port turns stamp
    (source_seats phase part.number stood here p.begins p.own_port hands part.port turns stamp p.port p.port_number p.unmade terms many unturned unused)

pub hands_given : (key : ImportTerms) (phase : PhaseTerms) (number : ℕ) (port : TableId × Seat TableOpening) (turns : TableId × Seat ℕ) (stamp : Option (TableId × Seat ℕ)) (hands : List (TableId × Seat ℕ)) → key ≡ import_terms phase number port turns stamp → AreMakers (journal turns) hands → AreMakers key.turns hands
hands_given key phase number port turns stamp hands e are = subst (λ z. AreMakers z hands) (sym (ap (λ (z : ImportTerms). z.turns) e)) are

pub new_terms : (key : ImportTerms) (phase : PhaseTerms) (number hands : ℕ) (port : TableId × Seat TableOpening) (turns : TableId × Seat ℕ) (stamp : Option (TableId × Seat ℕ)) → key ≡ import_terms phase number port turns stamp → number_of port.1.role ≡ number → turns.1.seen.terms ≡ turns_terms hands → hands ≡ phase.starter + 1
    → (key.port_number ≡ number) × (key.turns.1 ≡ turns_terms (phase.starter + 1))
new_terms key phase number hands port turns stamp e is terms many = (
  ap (λ (z : ImportTerms). z.port_number) e ∙ is,
  ap (λ (z : ImportTerms). z.turns.1) e ∙ terms ∙ ap turns_terms many,
)
