-- A member at its place in a room: its journals are those that the room has there. Protocols are
-- added one by one.
use Rattle.std.proofs.Common.{◌≡◌, ℕ, ◌<◌, List, [], ◌∷◌, ◌++◌, length, map, get_or, Some, arith, sym, ap, subst, ◌∙◌}
use Rattle.std.specs.Prelude.{IfOk, option_map, slice_get, vec_len}
use Rattle.std.specs.declared.result.Result.{Result}
use Rattle.std.specs.declared.result.Result.TheVariants.{Ok, Err}
use Rattle.std.proofs.lemmas.Option.{get_or_from_slice_get, slice_get-map, slice_get_within}
use Rattle.atomic_table.specs.Seated.{TableId}
use Rattle.core_machine.specs.Rules.{Rules}
use Rattle.core_setup.specs.Protocols.{rules_of}
use Rattle.core_setup.specs.Setup.{Exports}
use Rattle.core_setup.proofs.Numbered.{none_some, some_same}
use Rattle.import_lock.specs.Calls.{IsRoomOf}
use Rattle.import_lock.specs.Terms.{PhaseTerms}
use Rattle.jour_rule.specs.declared.views.Terms.{Terms}
use Rattle.jour.specs.Seats.{journal}
use Rattle.phase_legal.specs.Shown.{HandView, IsSeen, PassView, Room as Journals}
use Rattle.phase_room.specs.Sessions.{IsChannelOf, IsSession, channel_terms, protocol_terms}
use Rattle.phase_room.specs.declared.session.Session.{Session}
use Rattle.phase_room.proofs.Dealing.{last_or_before}
use Rattle.table_shared.specs.Opening.{TableOpening}
use Rattle.room_members.specs.Members.{ArePasses, IsMember, IsRoom, port_of, room_seen, turns_of}
use Rattle.room_members.specs.declared.member.Member.{Member}
use Rattle.room_members.specs.declared.member.Member.TheVariants.{Own, Pipe}
use Rattle.room_members.specs.declared.room.Room.{Room}

mapped_at : {A B : Type 0} (f : A → B) (xs : List A) (i : ℕ) (x : A) (y : B) → slice_get xs i ≡ Some x → slice_get (map f xs) i ≡ Some y → y ≡ f x
mapped_at f xs i x y here there = some_same (sym there ∙ slice_get-map f xs i ∙ ap (option_map f) here)

-- the turns of a member, and its ports, stand at its number
pub turns_here : {J P : Type 0} (terms : P → PhaseTerms) (room : Room J P) (number : ℕ) (member : Member J P) (hand : TableId × Terms ℕ) → slice_get room.members.items number ≡ Some member
    → slice_get (room_seen terms room).turns number ≡ Some hand → hand ≡ turns_of terms member
turns_here terms room number member hand at e = mapped_at (turns_of terms) room.members.items number member hand at e

pub port_here : {J P : Type 0} (terms : P → PhaseTerms) (room : Room J P) (number : ℕ) (member : Member J P) (port : ℕ) → slice_get room.members.items number ≡ Some member
    → slice_get (room_seen terms room).ports number ≡ Some port → port ≡ port_of terms member
port_here terms room number member port at e = mapped_at (port_of terms) room.members.items number member port at e

-- ---- a protocol with routes of its own

module _ {J P : Type 0} (terms : P → PhaseTerms) (exports : P → ℕ → Exports) (rules : P → Rules) (room : Room J P) (is : IsRoom terms exports rules room) (number : ℕ) (session : Session J P) (at : slice_get room.members.items number ≡ Some (Own session)) where
  here : IsSession (terms room.played.value) room.tables.items number session.table (protocol_terms terms session) (channel_terms exports session)
  here = is.members number (Own session) at

  pub home_here : (rules_of (terms room.played.value).setup).table number ≡ session.table
  home_here = here.home_is

  pub table_there : session.table < vec_len room.tables
  table_there = subst (λ n. session.table < n) (sym room.tables.ok.0) (slice_get_within room.tables.items session.table (protocol_terms terms session).port here.table)

  pub table_here : (table : TableId × Terms TableOpening) → table ≡ get_or room.tables.items session.table table → (protocol_terms terms session).port ≡ table
  table_here table e = sym (e ∙ get_or_from_slice_get room.tables.items session.table (protocol_terms terms session).port table here.table)

  pub channel_here : IsChannelOf (protocol_terms terms session) (channel_terms exports session)
  channel_here = here.channel_is

  module _ (passes : List PassView) (are : ArePasses room.tables.items passes) where
    pub pass_there : session.table < length passes
    pass_there =
        let w = slice_get_within room.tables.items session.table (protocol_terms terms session).port here.table in
        let c = are.count in
        omega (arith, w, c)

    pub pass_here : (pass : PassView) → slice_get passes session.table ≡ Some pass → journal pass ≡ (protocol_terms terms session).port
    pass_here pass there = are.each session.table (protocol_terms terms session).port pass here.table there

  room_of : IsRoomOf (protocol_terms terms session).phase (room_seen terms room)
  room_of = record {
    rules = ap (λ (z : PhaseTerms). rules_of z.setup) (sym here.phase_is);
    lines = ap (λ (z : PhaseTerms). z.lines) (sym here.phase_is);
    past = ap (λ (z : PhaseTerms). z.past) (sym here.phase_is);
  }

  -- what is seen of the session is seen of its number
  pub seen_here : (hand : HandView) (pass : PassView) (port : ℕ)
      → ((journals : Journals) → IsRoomOf (protocol_terms terms session).phase journals → IsSeen journals (protocol_terms terms session).number (protocol_terms terms session).port_number hand pass)
      → slice_get (room_seen terms room).ports number ≡ Some port → IsSeen (room_seen terms room) number port hand pass
  seen_here hand pass port seen e =
      subst (λ z. IsSeen (room_seen terms room) z port hand pass) here.number_is
      (subst (λ z. IsSeen (room_seen terms room) (protocol_terms terms session).number z hand pass)
      (sym (port_here terms room number (Own session) port at e)) (seen (room_seen terms room) room_of))

-- ---- one protocol more

module _ {J P : Type 0} (terms : P → PhaseTerms) (exports : P → ℕ → Exports) (rules : P → Rules) where
  -- the members are those of protocols from 0 on
  abbrev AreMembers : PhaseTerms → List (TableId × Terms TableOpening) → List (Member J P) → Type 0
  AreMembers phase tables members =
      (number : ℕ) (member : Member J P) → slice_get members number ≡ Some member → IsMember terms exports rules phase tables number member

  pub members_more : (phase : PhaseTerms) (tables : List (TableId × Terms TableOpening)) (members more : List (Member J P)) (member : Member J P) (n : ℕ) → AreMembers phase tables members → n ≡ length members
      → IsMember terms exports rules phase tables n member → more ≡ members ++ member ∷ [] → AreMembers phase tables more
  members_more phase tables members more member n are many last e number found at =
      last_or_before (λ k m. IsMember terms exports rules phase tables k m) members member found number are (subst (λ k. IsMember terms exports rules phase tables k member) many last)
      (ap (λ z. slice_get z number) (sym e) ∙ at)

  pub no_members : (phase : PhaseTerms) (tables : List (TableId × Terms TableOpening)) (members : List (Member J P)) → members ≡ [] → AreMembers phase tables members
  no_members phase tables members none number member at = none_some (ap (λ z. slice_get z number) (sym none) ∙ at)
