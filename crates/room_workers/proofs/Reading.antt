-- The channel of a protocol with routes of its own reads the protocol's table.
use Rattle.std.proofs.Common.{◌≡◌, ℕ, Some, subst, ◌∙◌}
use Rattle.std.specs.Prelude.{Option, option_map, slice_get}
use Rattle.atomic_table.specs.Seated.{TableId}
use Rattle.core_machine.specs.Rules.{Rules}
use Rattle.core_setup.specs.Setup.{Exports}
use Rattle.jour_rule.specs.declared.views.Terms.{Terms}
use Rattle.table_shared.specs.Opening.{TableOpening}
use Rattle.import_lock.specs.Terms.{ImportTerms, PhaseTerms}
use Rattle.export_lock.specs.Locks.{terms_of}
use Rattle.export_lock.specs.declared.key.ExportKey.{ExportKey}
use Rattle.phase_room.specs.Sessions.{IsChannelOf, protocol_terms}
use Rattle.phase_room.specs.declared.session.Session.{Session}
use Rattle.room_members.specs.Members.{IsRoom}
use Rattle.room_members.specs.declared.member.Member.TheVariants.{Own}
use Rattle.room_members.specs.declared.room.Room.{Room}
use Rattle.room_members.proofs.Rooms.{channel_here}

channel_reads : {P : Type 0} (exports : P → ℕ → Exports) (protocol : ImportTerms) (export : Option (TableId × ExportKey P)) (lock : TableId × ExportKey P) → export ≡ Some lock → IsChannelOf protocol (option_map (λ l. terms_of exports l.1) export)
    → (terms_of exports lock.1).table ≡ protocol.port
channel_reads exports protocol export lock e is =
    (subst (λ z. IsChannelOf protocol (option_map (λ l. terms_of exports l.1) z)) e is).table

module _ {J P : Type 0} (terms : P → PhaseTerms) (exports : P → ℕ → Exports) (rules : P → Rules) (room : Room J P) (is : IsRoom terms exports rules room) (number : ℕ) (session : Session J P) (at : slice_get room.members.items number ≡ Some (Own session)) where
  pub reads_here : (lock : TableId × ExportKey P) (table : TableId × Terms TableOpening) → session.export ≡ Some lock → (protocol_terms terms session).port ≡ table → (terms_of exports lock.1).table ≡ table
  reads_here lock table e here = channel_reads exports (protocol_terms terms session) session.export lock e (channel_here terms exports rules room is number session at) ∙ here
