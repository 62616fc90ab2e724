-- What a report and what stands behind a phase need to be told (`IsDescribed`, `IsPlayedOver`).
use Rattle.std.proofs.Common.{◌≡◌, ℕ, ◌+◌, false, List, [], ◌∷◌, length, map, Option, Some, None, IfSome, is_some, refl, sym, ap, ◌∙◌, arith}
use Rattle.std.specs.Prelude.{slice_get}
use Rattle.std.specs.declared.alloc.Global.{Global}
use Rattle.std.specs.declared.vec.Vec.{Vec}
use Rattle.std.proofs.lemmas.Bool.{false≢true}
use Rattle.attrs.specs.declared.journal.JEntry.{JEntry}
use Rattle.attrs.specs.declared.judge.Verdict.{Verdict}
use Rattle.attrs.specs.declared.route.Route.{Route}
use Rattle.bits_ip.specs.Prefix.{Net}
use Rattle.bits_ip.specs.declared.address.Family.{Family}
use Rattle.export_core.specs.States.{State}
use Rattle.core_machine.specs.Legal.{Joined}
use Rattle.core_setup.specs.Pairs.{Pairs}
use Rattle.core_setup.specs.Reports.{protocol_names}
use Rattle.core_setup.specs.Setup.{Exports, Protocol}
use Rattle.core_setup.proofs.PairLemmas.{get_here, get_one, get_within, pairs_all}
use Rattle.import_lock.specs.Terms.{PhaseTerms}
use Rattle.sys_run.specs.Parts.{table_seen}
use Rattle.sys_run.specs.declared.parts.TableParts.{TableParts}
use Rattle.phase_room.specs.Rooms.{TableTerms}
use Rattle.phase_close.specs.declared.seats.SessionEnded.{SessionEnded}
use Rattle.phase_open.specs.Standing.{AreStandingChannels, IsStandingProtocol, table_stood}
use Rattle.phase_open.specs.declared.standing.StandingChannel.{StandingChannel}
use Rattle.phase_open.specs.declared.standing.StandingProtocol.{StandingProtocol}
use Rattle.phase_open.specs.declared.standing.StandingTable.{StandingTable}
use Rattle.pipe_close.specs.declared.end.PipeEnded.{PipeEnded}
use Rattle.room_ends.specs.declared.ended.MemberEnded.{MemberEnded}
use Rattle.room_ends.specs.declared.ended.MemberEnded.TheVariants as ended
use Rattle.room_open.specs.Standing.{IsStandingDirection, IsStandingMember, IsStandingPipe, Stands}
use Rattle.room_open.specs.declared.standing.Standing.{Standing}
use Rattle.room_open.specs.declared.standing.StandingMember.{StandingMember}
use Rattle.room_open.specs.declared.standing.StandingMember.TheVariants as standing
use Rattle.room_open.specs.declared.standing.StandingPipe.{StandingPipe}
use Rattle.room_report.specs.Behind.{IsPlayedOver, numbers_in}
use Rattle.room_report.specs.Described.{AreLogged, IsDescribed, IsMemberOf, IsPipeOf, IsSessionOf, MayStand}
use Rattle.room_report.specs.declared.numbers.ChannelNumbers.{ChannelNumbers}
use Rattle.room_ends.specs.declared.played.PlayedRoom.{PlayedRoom}
use Rattle.room_ends.specs.After.{IsChannelAfter, IsExporterAfter, IsMadeOver, IsMemberAfter, IsMemberOver, IsPipeAfter, IsProtocolAfter, IsSessionOver, StandsAfter}

same_maps : {X Y Z : Type 0} (f : X → Z) (g : Y → Z) (n : ℕ) (xs : List X) (ys : List Y) → Pairs (λ k x y. f x ≡ g y) n xs ys → map f xs ≡ map g ys
same_maps f g n [] [] ps = refl
same_maps f g n [] (y ∷ ys) ps = absurd ps
same_maps f g n (x ∷ xs) [] ps = absurd ps
same_maps f g n (x ∷ xs) (y ∷ ys) ps = ap (λ z. z ∷ map f xs) ps.0 ∙ ap (λ z. g y ∷ z) (same_maps f g (n + 1) xs ys ps.1)

map_twice : {X Y Z : Type 0} (f : Y → Z) (g : X → Y) (xs : List X) → map f (map g xs) ≡ map (λ x. f (g x)) xs
map_twice f g [] = refl
map_twice f g (x ∷ xs) = ap (λ z. f (g x) ∷ z) (map_twice f g xs)

module _ {J : Type 0} (verdict : J → Net → Route → Verdict) (phase : PhaseTerms) (exports : ℕ → Exports) where
  -- ---- tables

  families_are : (old : Standing J) → Stands verdict phase exports old → map (λ (table : List ℕ × Family). table.1) phase.setup.tables ≡ map (λ (stood : StandingTable). stood.family) old.tables.items
  families_are old stands = same_maps (λ (table : List ℕ × Family). table.1) (λ (stood : StandingTable). stood.family) 0 phase.setup.tables old.tables.items
      (pairs_all (λ k (table : List ℕ × Family) (stood : StandingTable). table.1 ≡ stood.family) phase.setup.tables old.tables.items (sym stands.tables.count)
      (λ k table stood at there. sym (stands.tables.each k table stood at there).family))

  -- ---- what was played over what stood

  pub played_over : (old : Standing J) → Stands verdict phase exports old → (tables : List TableParts) (numbers : List ChannelNumbers) (before : List (Vec JEntry Global)) (actors : ℕ) (made : PlayedRoom J)
      → map table_seen tables ≡ phase.setup.tables → numbers ≡ map numbers_in old.members.items
      → map (λ (list : Vec JEntry Global). list.items) before ≡ map (λ (stood : StandingTable). stood.before.items) old.tables.items → IsMadeOver old actors made → IsPlayedOver old tables numbers before made
  played_over old stands tables numbers before actors made seen numbers_are before_are over = record {
    families = sym (map_twice (λ (table : List ℕ × Family). table.1) table_seen tables) ∙ ap (map (λ (table : List ℕ × Family). table.1)) seen ∙ families_are old stands;
    before_are = before_are;
    numbers_are = numbers_are;
    tables_count = over.tables_count;
    members_count = over.members_count;
    members = over.members;
  }

  -- ---- what stands isn't being withdrawn

  some_channel : (number : ℕ) (table : TableTerms) (mine : Option Exports) (stood : Option (StandingChannel J)) → AreStandingChannels verdict phase exports number table mine stood → is_some stood ≡ is_some mine
  some_channel number table None None are = refl
  some_channel number table None (Some held) bad = absurd bad
  some_channel number table (Some mine) None bad = absurd bad
  some_channel number table (Some mine) (Some held) is = refl

  channel_rests : (number : ℕ) (table : TableTerms) (mine : Option Exports) (stood : Option (StandingChannel J)) → AreStandingChannels verdict phase exports number table mine stood → (old : Option (StandingChannel J)) (exporter : Option (State J))
      → is_some exporter ≡ is_some old → IsChannelAfter old exporter stood → IfSome exporter MayStand
  channel_rests number table mine stood are old None same behind = tt
  channel_rests number table mine stood are None (Some exporter) bad behind = absurd (false≢true (sym bad))
  channel_rests number table mine None are (Some old) (Some exporter) same bad = absurd bad
  channel_rests number table None (Some held) bad (Some old) (Some exporter) same behind = absurd bad
  channel_rests number table (Some mine) (Some held) is (Some old) (Some exporter) same behind = λ up. sym (ap (λ (state : State J). state.flushing) behind.exporter_is) ∙ is.stands.rest

  direction_rests : (number reads writes : ℕ) (read written : TableTerms) (old held : StandingChannel J) (exporter : State J) → IsStandingDirection verdict phase exports number reads writes read written held
      → IsExporterAfter old exporter held → MayStand exporter
  direction_rests number reads writes read written old held exporter is behind = λ up. sym (ap (λ (state : State J). state.flushing) behind.exporter_is) ∙ is.stands.rest

-- ---- members

module _ {J : Type 0} (verdict : J → Net → Route → Verdict) (phase next : PhaseTerms) (exports others : ℕ → Exports) (i : ℕ) (protocol : Protocol) (here : slice_get phase.setup.protocols i ≡ Some protocol) where
  session_is : (old new : List StandingTable) (held holds : StandingProtocol J) (session : SessionEnded J) → IsStandingProtocol verdict phase exports old i held → IsStandingProtocol verdict next others new i holds
      → IsSessionOver held session → IsProtocolAfter held session holds → IsSessionOf protocol session
  session_is old new held holds session is will over behind =
      let same : is.stands.protocol ≡ protocol = get_one phase.setup.protocols i is.stands.protocol protocol is.stands.protocol_is here in
      record {
        source = is.source;
        body = sym (ap (λ (p : Protocol). p.body) same) ∙ is.stands.body;
        channel = over.channel ∙ some_channel verdict phase exports i (table_stood is.stood) is.source.exports held.channel is.channels;
        standing = channel_rests verdict next others i (table_stood will.stood) will.source.exports holds.channel will.channels held.channel session.exporter over.channel behind.channel;
      }

  pipe_is : (old new : List StandingTable) (held holds : StandingPipe J) (pipe : PipeEnded J) → IsStandingPipe verdict phase exports old i held → IsStandingPipe verdict next others new i holds → IsPipeAfter held pipe holds → IsPipeOf protocol pipe
  pipe_is old new held holds pipe is will behind =
      let same : is.stands.protocol ≡ protocol = get_one phase.setup.protocols i is.stands.protocol protocol is.stands.protocol_is here in
      record {
        played = is.pipe;
        body = sym (ap (λ (p : Protocol). p.body) same) ∙ is.stands.body;
        out = direction_rests verdict next others i will.pipe.primary will.pipe.peer (table_stood will.primary) (table_stood will.peer) held.out holds.out pipe.out will.out behind.out;
        back = direction_rests verdict next others i will.pipe.peer will.pipe.primary (table_stood will.peer) (table_stood will.primary) held.back holds.back pipe.back will.back behind.back;
      }

  member_of : (old new : List StandingTable) (held holds : StandingMember J) (member : MemberEnded J) → IsStandingMember verdict phase exports old i held → IsStandingMember verdict next others new i holds
      → IsMemberOver held member → IsMemberAfter held member holds → IsMemberOf protocol member
  member_of old new (standing.Own held) (standing.Own holds) (ended.Own session) is will over behind = session_is old new held holds session is will over behind
  member_of old new (standing.Own held) (standing.Pipe holds) (ended.Own session) is will over bad = absurd bad
  member_of old new (standing.Own held) holds (ended.Pipe pipe) is will bad behind = absurd bad
  member_of old new (standing.Pipe held) holds (ended.Own session) is will bad behind = absurd bad
  member_of old new (standing.Pipe held) (standing.Own holds) (ended.Pipe pipe) is will over bad = absurd bad
  member_of old new (standing.Pipe held) (standing.Pipe holds) (ended.Pipe pipe) is will over behind = pipe_is old new held holds pipe is will behind

module _ {J : Type 0} (verdict : J → Net → Route → Verdict) (phase next : PhaseTerms) (exports others : ℕ → Exports) (old new : Standing J) (stands : Stands verdict phase exports old) (stands_next : Stands verdict next others new) where
  member_is : (actors : ℕ) (made : PlayedRoom J) → IsMadeOver old actors made → StandsAfter old made new → (i : ℕ) (protocol : Protocol) (member : MemberEnded J) → slice_get phase.setup.protocols i ≡ Some protocol
      → slice_get made.ended.members.items i ≡ Some member → IsMemberOf protocol member
  member_is actors made over behind i protocol member protocol_at member_at =
      let inside = get_within phase.setup.protocols i protocol protocol_at in
      let count = stands.count in
      let many = behind.members_count in
      let held = get_here old.members.items i (omega (arith, inside, count)) in
      let holds = get_here new.members.items i (omega (arith, inside, count, many)) in
      member_of verdict phase next exports others i protocol protocol_at old.tables.items new.tables.items held.0 holds.0 member (stands.members i held.0 held.1) (stands_next.members i holds.0 holds.1)
      (over.members i held.0 member held.1 member_at) (behind.members i held.0 member holds.0 held.1 member_at holds.1)

  pub described : (tables : List TableParts) (names actors : List (List ℕ)) (logged : List ℕ) (past : Joined) (made : PlayedRoom J) → map table_seen tables ≡ phase.setup.tables → names ≡ protocol_names phase.setup → AreLogged phase.setup past logged
      → IsMadeOver old (length actors) made → StandsAfter old made new → IsDescribed phase.setup tables names actors logged past made
  described tables names actors logged past made tables_are names_are logged_are over behind = record {
    tables_are = tables_are;
    names_are = names_are;
    actors_count = over.told_count;
    members = member_is (length actors) made over behind;
    logged_are = logged_are;
  }
