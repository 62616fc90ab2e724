-- All protocols, one after another.
use Rattle.std.proofs.Common.{◌≡◌, ℕ, ◌<◌, ◌≤◌, arith, inl, inr, List, [], ◌∷◌, ◌++◌, length, Some, refl, sym, ap, subst, ◌∙◌}
use Rattle.std.specs.Prelude.{◌^◌, slice_get}
use Rattle.std.specs.declared.alloc.Global.{Global}
use Rattle.std.specs.declared.vec.Vec.{Vec}
use Rattle.attrs.specs.declared.journal.JEntry.{JEntry}
use Rattle.attrs.specs.declared.judge.Verdict.{Verdict}
use Rattle.attrs.specs.declared.route.Route.{Route}
use Rattle.bits_ip.specs.Prefix.{Net}
use Rattle.core_machine.specs.Rules.{Rules}
use Rattle.core_setup.specs.Channels.{Channel, channel_at, channels}
use Rattle.core_setup.specs.Setup.{Exports, Setup}
use Rattle.core_setup.proofs.Numbered.{some_same}
use Rattle.core_setup.proofs.PairLemmas.{get_here, get_within, pairs_length}
use Rattle.import_lock.specs.Terms.{PhaseTerms}
use Rattle.phase_legal.specs.Shown.{AreBeside}
use Rattle.phase_open.specs.declared.standing.StandingTable.{StandingTable}
use Rattle.phase_room.specs.Opened.{IsCursorOf, IsPortOf}
use Rattle.room_members.specs.Begun.{IsBegun}
use Rattle.room_members.specs.declared.begun.Begun.{Begun}
use Rattle.room_members.specs.declared.member.Member.{Member}
use Rattle.room_open.specs.Laid.{AreEntered, AreLaid, AreLaterCursors, CanEnter, CanEnterAll, CursorView, HasCursors, HasNumber, PortView, TableView}
use Rattle.room_open.specs.Lists.{AreLater}
use Rattle.room_open.specs.Opening.{IsOpenMember}
use Rattle.room_open.specs.Standing.{IsStandingMember}
use Rattle.room_open.specs.declared.standing.StandingMember.{StandingMember}
use Rattle.room_open.specs.declared.standing.StandingMember.TheVariants.{Own, Pipe}
use Rattle.room_open.proofs.Entering.{channel_stands}
use Rattle.room_open.proofs.Places.{one_longer, pairs_longer}

-- whose a member's channels are
pub channel_there : {J : Type 0} (verdict : J → Net → Route → Verdict) (phase : PhaseTerms) (exports : ℕ → Exports) (stood : List StandingTable) (number : ℕ) (held : StandingMember J) → IsStandingMember verdict phase exports stood number held → (n : ℕ) → HasNumber held n
    → (there : Channel) × (channel_at phase.setup n ≡ Some there) × (there.owner ≡ number)
channel_there verdict phase exports stood number (Own held) is n has =
    let s = (channel_stands verdict phase exports stood number held is has.0 has.1).1 in
    (s.channel, ap (channel_at phase.setup) (sym has.2) ∙ s.channel_is, s.owner)
channel_there verdict phase exports stood number (Pipe held) is n has = elim has [
  | inl e ↦ (is.out.of.channel, ap (channel_at phase.setup) (sym e) ∙ is.out.of.channel_is, is.out.of.owner)
  | inr e ↦ (is.back.of.channel, ap (channel_at phase.setup) (sym e) ∙ is.back.of.channel_is, is.back.of.owner)
]

module _ {J P : Type 0} (verdict : J → Net → Route → Verdict) (terms : P → PhaseTerms) (exports : P → ℕ → Exports) (rules : P → Rules) (played : P) (stood : List StandingTable) (tables : List TableView) (before : List (Vec JEntry Global)) (cursors : List (Vec CursorView Global)) (ports : List (Vec PortView Global)) (members : List (StandingMember J))
    (can : CanEnterAll verdict (terms played) (exports played) stood tables before cursors ports members) where
  abbrev setup : Setup
  setup = (terms played).setup

  module _ (done : List (StandingMember J)) (begun : Begun J P) (entered : AreEntered terms exports rules played stood tables done begun) where
    pub entered_count : length begun.room.members.items ≡ length done
    entered_count = sym (pairs_length (IsOpenMember terms exports rules played stood) 0 done begun.room.members.items entered.members_are)

    -- the next one
    module _ (held : StandingMember J) (at : slice_get members (length done) ≡ Some held) where
      pub few_entered : length members ≤ 1024 → length begun.room.members.items < 2 ^ 32
      few_entered few =
          let inside = get_within members (length done) held at in
          let many = entered_count in
          let wide : 1024 ≤ 2 ^ 32 = omega arith in
          omega (arith, inside, many, few, wide)

      pub ports_next : (now : List (Vec PortView Global)) (own : Vec PortView Global) → AreLater (length done) ports now → slice_get now (length done) ≡ Some own → AreBeside (IsPortOf (length begun.room.members.items)) begun.room.tables.items own.items
      ports_next now own later there =
          let before_it = sym (later.each (length done) (let least : length done ≤ length done = omega arith in least)) ∙ there in
          subst (λ n. AreBeside (IsPortOf n) begun.room.tables.items own.items) (sym entered_count)
          (subst (λ z. AreBeside (IsPortOf (length done)) z own.items) (sym entered.tables_are) (can.ports_are (length done) own before_it))

      channel_here : (n : ℕ) → HasNumber held n → (there : Channel) × (channel_at setup n ≡ Some there) × (there.owner ≡ length done)
      channel_here = channel_there verdict (terms played) (exports played) stood (length done) held (can.held (length done) held at)

      cursors_next : (now : List (Vec CursorView Global)) → AreLaterCursors setup (length done) cursors now → (n : ℕ) → HasNumber held n → HasCursors begun.room.tables.items now n
      cursors_next now later n has =
          let there = channel_here n has in
          let owner = there.2 in
          let least : length done ≤ there.0.owner = omega (arith, owner) in
          let inside = get_within (channels setup) n there.0 there.1 in
          let list = get_here cursors n (subst (λ k. n < k) (sym can.cursors_count) inside) in
          (list.0, later.each n there.0 there.1 least ∙ list.1, subst (λ z. AreBeside (IsCursorOf n) z list.0.items) (sym entered.tables_are) (can.cursors_are n list.0 list.1))

      pub can_next : (now : List (Vec CursorView Global)) → AreLaterCursors setup (length done) cursors now → CanEnter verdict (terms played) (exports played) stood begun.room.tables.items before now (length begun.room.members.items) held
      can_next now later = record {
        laid = subst (λ z. AreLaid (terms played) stood z before) (sym entered.tables_are) can.laid;
        held_is = subst (λ n. IsStandingMember verdict (terms played) (exports played) stood n held) (sym entered_count) (can.held (length done) held at);
        cursors_are = cursors_next now later;
      }

      pub cursors_later : (now new : List (Vec CursorView Global)) → AreLaterCursors setup (length done) cursors now → length new ≡ length now → ((place : ℕ) → (HasNumber held place → ⊥) → slice_get new place ≡ slice_get now place)
          → AreLaterCursors setup (length (done ++ held ∷ [])) cursors new
      cursors_later now new later count others = record {
        count = count ∙ later.count;
        each = λ place channel at_place least.
            let more = one_longer done held in
            let less : length done ≤ channel.owner = omega (arith, least, more) in
            others place (λ has.
            let there = channel_here place has in
            let one : there.0 ≡ channel = some_same (sym there.1 ∙ at_place) in
            let owner : channel.owner ≡ length done = ap (λ (z : Channel). z.owner) (sym one) ∙ there.2 in
            let bad : 1 ≤ 0 = omega (arith, least, more, owner) in
            omega (arith, bad)) ∙ later.each place channel at_place less;
      }

      pub one_entered : (new : Begun J P) (member : Member J P) → IsBegun terms exports rules new → new.room.played ≡ begun.room.played → new.room.tables.items ≡ begun.room.tables.items → length new.hands.items ≡ length begun.hands.items → new.room.members.items ≡ begun.room.members.items ++ member ∷ []
          → IsOpenMember terms exports rules played stood (length begun.room.members.items) held member → AreEntered terms exports rules played stood tables (done ++ held ∷ []) new
      one_entered new member is same_played same_tables same_hands added is_open = record {
        begun_is = is;
        played_is = ap (λ z. z.value) same_played ∙ entered.played_is;
        tables_are = same_tables ∙ entered.tables_are;
        hands = same_hands ∙ entered.hands;
        members_are = pairs_longer (IsOpenMember terms exports rules played stood) done begun.room.members.items new.room.members.items held member entered.members_are is_open added;
      }

pub all_cursors_later : (s : Setup) (cursors : List (Vec CursorView Global)) → AreLaterCursors s 0 cursors cursors
all_cursors_later s cursors = record { count = refl; each = λ place channel at least. refl }
