-- What stands behind a phase, and lists that loops by value take from.
use Rattle.std.proofs.Common.{◌≡◌, ◌++◌, List, Option, Some, None, is_some, refl, sym, ap, subst, ◌∙◌}
use Rattle.std.specs.Prelude.{option_map, slice_get}
use Rattle.std.specs.declared.alloc.Global.{Global}
use Rattle.std.specs.declared.vec.Vec.{Vec}
use Rattle.std.proofs.lemmas.Bool.{false≢true}
use Rattle.std.proofs.lemmas.Option.{none-some, same_Some, slice_get-map}
use Rattle.attrs.specs.declared.journal.JEntry.{JEntry}
use Rattle.bits_ip.specs.declared.address.Family.{Family}
use Rattle.export_core.specs.States.{State}
use Rattle.core_setup.specs.Channels.{family_or_first}
use Rattle.core_setup.specs.Pairs.{Pairs}
use Rattle.core_setup.proofs.PairLemmas.{pairs_here, pairs_length}
use Rattle.sys_run.specs.declared.parts.TableParts.{TableParts}
use Rattle.table_shared.specs.declared.close.Phase.{Phase}
use Rattle.phase_open.specs.declared.standing.StandingChannel.{StandingChannel}
use Rattle.phase_open.specs.declared.standing.StandingTable.{StandingTable}
use Rattle.room_ends.specs.declared.ended.MemberEnded.{MemberEnded}
use Rattle.room_ends.specs.declared.ended.MemberEnded.TheVariants as ended
use Rattle.room_open.specs.declared.standing.Standing.{Standing}
use Rattle.room_open.specs.declared.standing.StandingMember.{StandingMember}
use Rattle.room_open.specs.declared.standing.StandingMember.TheVariants as standing
use Rattle.room_ends.specs.declared.played.PlayedRoom.{PlayedRoom}
use Rattle.room_ends.specs.After.{IsChannelAfter, IsMemberAfter, IsMemberOver, StandsAfter}
use Rattle.room_report.specs.Behind.{IsPlayedOver, numbers_in}
use Rattle.room_report.specs.Inside.{IsMemberBehind, IsTableBehind, IsTableOf, channel_of, list_in, member_behind, numbers_or_none}
use Rattle.room_report.specs.declared.numbers.ChannelNumbers.{ChannelNumbers}

items_in : (o : Option (Vec JEntry Global)) (items : List JEntry) → option_map (λ (list : Vec JEntry Global). list.items) o ≡ Some items → list_in o ≡ items
items_in None items e = absurd (none-some items e)
items_in (Some list) items e = same_Some list.items items e

-- a table whose family and earlier entries are told in other words
pub table_as : (f g : Family) (xs ys : List JEntry) (phase : Phase) (stands : StandingTable) → f ≡ g → xs ≡ ys → IsTableOf f xs phase stands → IsTableOf g ys phase stands
table_as f g xs ys phase stands ef ex is = record {
  family_is = is.family_is ∙ ef;
  rows = is.rows;
  before = is.before ∙ ap (λ (l : List JEntry). l ++ phase.entries) ex;
}

module _ {J : Type 0} where
  channel_after : (c : Option (StandingChannel J)) (e : Option (State J)) → is_some e ≡ is_some c → IsChannelAfter c e (channel_of (option_map (λ (channel : StandingChannel J). channel.number) c) e)
  channel_after None None same = tt
  channel_after None (Some e) same = absurd (false≢true (sym same))
  channel_after (Some c) None same = absurd (false≢true same)
  channel_after (Some c) (Some e) same = record { number = refl; exporter_is = refl }

  member_after : (held : StandingMember J) (member : MemberEnded J) → IsMemberOver held member → IsMemberAfter held member (member_behind (numbers_in held) member)
  member_after (standing.Own held) (ended.Own session) over = record {
    table = over.table;
    importer = refl;
    channel = channel_after held.channel session.exporter over.channel;
  }
  member_after (standing.Pipe held) (ended.Pipe pipe) over = record {
    primary = over.primary;
    peer = over.peer;
    up = refl;
    out = record { number = refl; exporter_is = refl };
    back = record { number = refl; exporter_is = refl };
  }
  member_after (standing.Own held) (ended.Pipe pipe) over = absurd over
  member_after (standing.Pipe held) (ended.Own session) over = absurd over

  pub stands_after : (old : Standing J) (tables : List TableParts) (numbers : List ChannelNumbers) (before : List (Vec JEntry Global)) (made : PlayedRoom J) (new : Standing J)
      → IsPlayedOver old tables numbers before made → Pairs (IsTableBehind tables before) 0 made.ended.phases.items new.tables.items
      → Pairs (IsMemberBehind numbers) 0 made.ended.members.items new.members.items → StandsAfter old made new
  stands_after old tables numbers before made new over ts ps = record {
    tables_count = sym (pairs_length (IsTableBehind tables before) 0 made.ended.phases.items new.tables.items ts) ∙ over.tables_count;
    tables = λ t stood phase stands eo ep en.
        let b = pairs_here (IsTableBehind tables before) made.ended.phases.items new.tables.items ts t phase stands ep en in
        let family : option_map (λ (table : TableParts). table.family) (slice_get tables t) ≡ Some stood.family =
        sym (slice_get-map (λ (table : TableParts). table.family) tables t) ∙ ap (λ (l : List Family). slice_get l t) over.families
        ∙ slice_get-map (λ (s : StandingTable). s.family) old.tables.items t ∙ ap (option_map (λ (s : StandingTable). s.family)) eo in
        let list : option_map (λ (l : Vec JEntry Global). l.items) (slice_get before t) ≡ Some stood.before.items =
        sym (slice_get-map (λ (l : Vec JEntry Global). l.items) before t) ∙ ap (λ (l : List (List JEntry)). slice_get l t) over.before_are
        ∙ slice_get-map (λ (s : StandingTable). s.before.items) old.tables.items t ∙ ap (option_map (λ (s : StandingTable). s.before.items)) eo in
        record {
          family = b.family_is ∙ ap family_or_first family;
          rows = b.rows;
          before = b.before ∙ ap (λ (l : List JEntry). l ++ phase.entries) (items_in (slice_get before t) stood.before.items list);
        };
    members_count = sym (pairs_length (IsMemberBehind numbers) 0 made.ended.members.items new.members.items ps) ∙ over.members_count;
    members = λ i held member holds eh em en.
        let b = pairs_here (IsMemberBehind numbers) made.ended.members.items new.members.items ps i member holds em en in
        let told : slice_get numbers i ≡ Some (numbers_in held) =
        ap (λ (l : List ChannelNumbers). slice_get l i) over.numbers_are ∙ slice_get-map numbers_in old.members.items i ∙ ap (option_map numbers_in) eh in
        subst (IsMemberAfter held member) (sym (b ∙ ap (λ (m : Option ChannelNumbers). member_behind (numbers_or_none m) member) told))
        (member_after held member (over.members i held member eh em));
  }
