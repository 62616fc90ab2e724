-- A phase that was played over what stood (`IsPlayedOver`): it has made something of each table and
-- each protocol that stood, and these families, entries before the phase and numbers of channels
-- are theirs.
-- Not modelled: how it was played (room_run).
-- From: own.
-- Example: before the first phase there are no entries; of a protocol of BGP and then a pipe the
-- one channel has number 0, and the directions have numbers 1 and 2.
use Rattle.std.specs.Prelude.{◌≡◌, ℕ, List, length, map, option_map, Some, slice_get}
use Rattle.std.specs.declared.alloc.Global.{Global}
use Rattle.std.specs.declared.vec.Vec.{Vec}
use Rattle.attrs.specs.declared.journal.JEntry.{JEntry}
use Rattle.sys_run.specs.declared.parts.TableParts.{TableParts}
use Rattle.phase_open.specs.declared.standing.StandingChannel.{StandingChannel}
use Rattle.phase_open.specs.declared.standing.StandingTable.{StandingTable}
use Rattle.room_ends.specs.declared.ended.MemberEnded.{MemberEnded}
use Rattle.room_open.specs.declared.standing.Standing.{Standing}
use Rattle.room_open.specs.declared.standing.StandingMember.{StandingMember}
use Rattle.room_open.specs.declared.standing.StandingMember.TheVariants.{Own, Pipe}
use Rattle.room_ends.specs.declared.played.PlayedRoom.{PlayedRoom}
use Rattle.room_ends.specs.After.{IsMemberOver}
use Rattle.room_report.specs.declared.numbers.ChannelNumbers.{ChannelNumbers}
use Rattle.room_report.specs.declared.numbers.ChannelNumbers.TheVariants as kinds

module _ {J : Type 0} where
  abbrev pub numbers_in : StandingMember J → ChannelNumbers
  numbers_in (Own held) =
      kinds.Own (option_map (λ (channel : StandingChannel J). channel.number) held.channel)
  numbers_in (Pipe held) = kinds.Pipe held.out.number held.back.number

  pub record IsPlayedOver
      (old : Standing J) (tables : List TableParts) (numbers : List ChannelNumbers)
      (before : List (Vec JEntry Global)) (made : PlayedRoom J) : Type 0 where
    pub families :
        map (λ (table : TableParts). table.family) tables
        ≡ map (λ (stood : StandingTable). stood.family) old.tables.items
    pub before_are :
        map (λ (list : Vec JEntry Global). list.items) before
        ≡ map (λ (stood : StandingTable). stood.before.items) old.tables.items
    pub numbers_are : numbers ≡ map numbers_in old.members.items
    pub tables_count : length made.ended.phases.items ≡ length old.tables.items
    pub members_count : length made.ended.members.items ≡ length old.members.items
    pub members :
        (i : ℕ) (held : StandingMember J) (member : MemberEnded J)
        → slice_get old.members.items i ≡ Some held
        → slice_get made.ended.members.items i ≡ Some member → IsMemberOver held member
