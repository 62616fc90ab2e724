-- Of each member that a phase has ended with what is known (`KnownOwn`, `KnownPipe`), and what is
-- printed of it.
use Rattle.std.proofs.Common.{◌≡◌, ℕ, inl, inr, List, [], ◌++◌, length, reverse, Option, Some, None, refl, sym, ap, subst, ◌∙◌, arith}
use Rattle.std.specs.Prelude.{slice_get}
use Rattle.export_core.specs.States.{State}
use Rattle.export_core.specs.declared.log.LogItem.{LogItem}
use Rattle.core_setup.specs.Channels.{Channel, channel_at}
use Rattle.core_setup.specs.Setup.{Exports}
use Rattle.core_setup.proofs.PairLemmas.{get_here, get_one, get_within}
use Rattle.phase_legal.specs.Turns.{turns_told}
use Rattle.phase_room.specs.Rooms.{TableTerms}
use Rattle.phase_close.specs.declared.seats.SessionEnded.{SessionEnded}
use Rattle.phase_open.specs.Standing.{AreStandingChannels}
use Rattle.phase_open.specs.declared.standing.StandingChannel.{StandingChannel}
use Rattle.phase_open.specs.declared.standing.StandingProtocol.{StandingProtocol}
use Rattle.pipe_close.specs.declared.end.PipeEnded.{PipeEnded}
use Rattle.room_open.specs.declared.standing.StandingMember.{StandingMember}
use Rattle.room_open.specs.declared.standing.StandingMember.TheVariants as standing
use Rattle.room_open.specs.declared.standing.StandingPipe.{StandingPipe}
use Rattle.room_ends.specs.declared.ended.MemberEnded.{MemberEnded}
use Rattle.room_ends.specs.declared.ended.MemberEnded.TheVariants as ends
use Rattle.room_whole.specs.Past.{IsChannelOf}
use Rattle.room_whole.proofs.Channelled.{EndsWith}
use Rattle.room_whole.proofs.Choose.{chosen_none}
use Rattle.room_whole.proofs.Chosen.{Choice, IsChoice, choose, items_at, items_of, log_is, no_choice, own_choice, pipe_choice, pipe_turns_are, printed, turns_are}
use Rattle.room_whole.proofs.Given.{Given, exports_of, lines_of, phase_of, setup_of}
use Rattle.room_whole.proofs.Over.{members_made}
use Rattle.room_whole.proofs.Protocolled.{IsOfPipe, IsOfProtocol, known, known_pipe}

module _ {J P : Type 0} (g : Given J P) where
  pub many_ended : length g.made.ended.members.items ≡ length g.old.members.items
  many_ended = members_made g.verdict g.terms g.exports g.rules g.opening.room.played.value g.old g.opening g.starts g.made g.opens g.played

  -- what stood of it
  held_here : (i : ℕ) (ended : MemberEnded J) → slice_get g.made.ended.members.items i ≡ Some ended → (held : StandingMember J) × (slice_get g.old.members.items i ≡ Some held)
  held_here i ended at =
      let inside = get_within g.made.ended.members.items i ended at in
      let many = many_ended in
      get_here g.old.members.items i (omega (arith, inside, many))

  pub record KnownOwn (i : ℕ) (ended : SessionEnded J) : Type 0 where
    pub held : StandingProtocol J
    pub held_at : slice_get g.old.members.items i ≡ Some (standing.Own held)
    pub facts : IsOfProtocol g i held
    pub same : facts.ended ≡ ended
    pub told : (printed g).ops i ≡ turns_told (lines_of g) facts.done.list

  pub record KnownPipe (i : ℕ) (ended : PipeEnded J) : Type 0 where
    pub held : StandingPipe J
    pub held_at : slice_get g.old.members.items i ≡ Some (standing.Pipe held)
    pub facts : IsOfPipe g i held
    pub same : facts.ended ≡ ended
    pub told : (printed g).ops i ≡ turns_told (lines_of g) facts.done.list

  one_kind : {A : Type 0} (own : SessionEnded J) (pipe : PipeEnded J) (o : Option (MemberEnded J)) → o ≡ Some (ends.Own own) → o ≡ Some (ends.Pipe pipe) → A
  one_kind own pipe o a b = absurd (let bad : Some (ends.Own own) ≡ Some (ends.Pipe pipe) = sym a ∙ b in cc)

  same_own : (a b : SessionEnded J) → ends.Own a ≡ ends.Own b → a ≡ b
  same_own a b e = cc

  same_pipe : (a b : PipeEnded J) → ends.Pipe a ≡ ends.Pipe b → a ≡ b
  same_pipe a b e = cc

  own_by : (i : ℕ) (ended : SessionEnded J) → slice_get g.made.ended.members.items i ≡ Some (ends.Own ended) → (held : StandingMember J) → slice_get g.old.members.items i ≡ Some held → KnownOwn i ended
  own_by i ended at (standing.Pipe held) held_at = one_kind ended (known_pipe g i held held_at).ended (slice_get g.made.ended.members.items i) at (known_pipe g i held held_at).ended_at
  own_by i ended at (standing.Own held) held_at =
      let c = own_choice g i held held_at in
      record {
        held = held;
        held_at = held_at;
        facts = c.facts;
        same = same_own c.facts.ended ended (get_one g.made.ended.members.items i (ends.Own c.facts.ended) (ends.Own ended) c.facts.ended_at at);
        told = turns_are g i held c;
      }

  pipe_by : (i : ℕ) (ended : PipeEnded J) → slice_get g.made.ended.members.items i ≡ Some (ends.Pipe ended) → (held : StandingMember J) → slice_get g.old.members.items i ≡ Some held → KnownPipe i ended
  pipe_by i ended at (standing.Own held) held_at = one_kind (known g i held held_at).ended ended (slice_get g.made.ended.members.items i) (known g i held held_at).ended_at at
  pipe_by i ended at (standing.Pipe held) held_at =
      let c = pipe_choice g i held held_at in
      record {
        held = held;
        held_at = held_at;
        facts = c.facts;
        same = same_pipe c.facts.ended ended (get_one g.made.ended.members.items i (ends.Pipe c.facts.ended) (ends.Pipe ended) c.facts.ended_at at);
        told = pipe_turns_are g i held c;
      }

  pub own_known : (i : ℕ) (ended : SessionEnded J) → slice_get g.made.ended.members.items i ≡ Some (ends.Own ended) → KnownOwn i ended
  own_known i ended at = let held = held_here i (ends.Own ended) at in own_by i ended at held.0 held.1

  pub pipe_known : (i : ℕ) (ended : PipeEnded J) → slice_get g.made.ended.members.items i ≡ Some (ends.Pipe ended) → KnownPipe i ended
  pipe_known i ended at = let held = held_here i (ends.Pipe ended) at in pipe_by i ended at held.0 held.1

  -- of a number that nothing has no operation is printed
  pub no_ops : (i : ℕ) → slice_get g.old.members.items i ≡ None → (printed g).ops i ≡ []
  no_ops i none = ap (λ (c : Choice). turns_told (lines_of g) (c.begun ++ c.rest)) (chosen_none g.old.members.items (IsChoice g) no_choice (choose g) i none)

  -- ---- the log of a channel that stood

  -- it is one of what is played
  record IsNumbered (i : ℕ) (stood : StandingChannel J) : Type 0 where
    channel : Channel
    channel_is : channel_at (setup_of g) stood.number ≡ Some channel
    owner : channel.owner ≡ i

  own_numbered : (i : ℕ) (table : TableTerms) (mine : Option Exports) (held : Option (StandingChannel J)) (stood : StandingChannel J) → held ≡ Some stood → AreStandingChannels g.verdict (phase_of g) (exports_of g) i table mine held → IsNumbered i stood
  own_numbered i table None held stood e are = own_none held are e
    where
      own_none : (held : Option (StandingChannel J)) → AreStandingChannels g.verdict (phase_of g) (exports_of g) i table None held → held ≡ Some stood → IsNumbered i stood
      own_none None are e = absurd (let bad : None ≡ Some stood = e in cc)
      own_none (Some x) are e = absurd are
  own_numbered i table (Some x) None stood e are = absurd are
  own_numbered i table (Some x) (Some y) stood e are =
      let same : y ≡ stood = (let f : Some y ≡ Some stood = e in cc) in
      subst (IsNumbered i) same (record { channel = are.channel; channel_is = are.channel_is; owner = are.owner })

  numbered : (i : ℕ) (held : StandingMember J) (stood : StandingChannel J) → slice_get g.old.members.items i ≡ Some held → IsChannelOf held stood → IsNumbered i stood
  numbered i (standing.Own held) stood at of =
      let s = g.stands.members i (standing.Own held) at in
      own_numbered i (record { family = s.stood.family; rows = s.stood.rows.rows; before = s.stood.before.items }) s.source.exports held.channel stood of s.channels
  numbered i (standing.Pipe held) stood at of =
      let s = g.stands.members i (standing.Pipe held) at in
      elim of [
        | inl out ↦ subst (IsNumbered i) out (record { channel = s.out.of.channel; channel_is = s.out.of.channel_is; owner = s.out.of.owner })
        | inr back ↦ subst (IsNumbered i) back (record { channel = s.back.of.channel; channel_is = s.back.of.channel_is; owner = s.back.of.owner })
      ]

  -- what ends with an exporter is a channel of what stood
  pub channel_is : (held : StandingMember J) (stood : StandingChannel J) (ended : MemberEnded J) (exporter : State J) → EndsWith held stood ended exporter → IsChannelOf held stood
  channel_is (standing.Own held) stood (ends.Own ended) exporter with = with.0
  channel_is (standing.Own held) stood (ends.Pipe ended) exporter with = absurd with
  channel_is (standing.Pipe held) stood (ends.Own ended) exporter with = absurd with
  channel_is (standing.Pipe held) stood (ends.Pipe ended) exporter with = elim with [ inl out ↦ inl out.0 | inr back ↦ inr back.0 ]

  -- what is printed of it is what its exporter's log has more than was printed
  pub log_printed : (i : ℕ) (held : StandingMember J) (stood : StandingChannel J) (ended : MemberEnded J) (exporter : State J) → slice_get g.old.members.items i ≡ Some held → slice_get g.made.ended.members.items i ≡ Some ended → EndsWith held stood ended exporter
      → (printed g).items stood.number ++ g.past.logs stood.number ≡ reverse exporter.log
  log_printed i held stood ended exporter held_at ended_at with =
      let of = channel_is held stood ended exporter with in
      let n = numbered i held stood held_at of in
      log_is g stood.number
      ∙ ap (λ (l : List LogItem). items_of g stood.number ++ l) (g.was.logs_are i held stood held_at of)
      ∙ items_at g stood.number n.channel n.channel_is held stood ended exporter (ap (slice_get g.old.members.items) n.owner ∙ held_at) (ap (slice_get g.made.ended.members.items) n.owner ∙ ended_at) with refl
