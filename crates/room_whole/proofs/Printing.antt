-- What is printed of a phase is what its room has come to.
use Rattle.std.proofs.Common.{◌≡◌, ℕ, zero, suc, inl, inr, List, [], ◌∷◌, ◌++◌, length, map, reverse, Some, refl, sym, ap, subst, ◌∙◌, arith, is_some}
use Rattle.std.specs.Prelude.{slice_get}
use Rattle.std.specs.List.{All}
use Rattle.std.specs.declared.alloc.Global.{Global}
use Rattle.std.specs.declared.vec.Vec.{Vec}
use mathlib.Core.List.{IsPrefix, map-map}
use Rattle.atomic_table.specs.Seated.{TableId}
use Rattle.attrs.specs.declared.journal.JEntry.{JEntry}
use Rattle.export_core.specs.Logs.{account, stretch, value_of}
use Rattle.export_core.specs.States.{State}
use Rattle.export_core.specs.declared.log.LogItem.{LogItem}
use Rattle.import_core.specs.Imports.{Imports}
use Rattle.jour_rule.specs.declared.views.Terms.{Terms}
use Rattle.jour.specs.Seats.{front, journal}
use Rattle.rec_words.specs.Entries.{Spells}
use Rattle.import_core.specs.declared.operation.Op.{Op}
use Rattle.core_machine.specs.Lines.{ops_of}
use Rattle.core_setup.specs.Channels.{Channel, channel_at}
use Rattle.core_setup.specs.Protocols.{pipe_is_up, pipe_mode}
use Rattle.core_setup.specs.Setup.{IsPipe, IsSource}
use Rattle.core_setup.proofs.Numbered.{none_some, some_same}
use Rattle.core_setup.proofs.PairLemmas.{get_here, get_one, get_within}
use Rattle.table_shared.specs.Opening.{TableOpening}
use Rattle.phase_legal.specs.Shown.{PassView}
use Rattle.phase_legal.specs.Turns.{turns_told}
use Rattle.phase_actors.specs.Texts.{IsText}
use Rattle.phase_actors.specs.declared.actor.Actor.{Actor}
use Rattle.phase_actors.specs.declared.actor.Told.{Told}
use Rattle.phase_actors.proofs.Places.{all_weaker, partner_back}
use Rattle.phase_close.specs.Whole.{entries_in}
use Rattle.phase_open.specs.declared.standing.StandingProtocol.{StandingProtocol}
use Rattle.room_open.specs.declared.standing.StandingMember.TheVariants as standing
use Rattle.room_open.specs.declared.standing.StandingPipe.{StandingPipe}
use Rattle.room_ends.specs.declared.ended.MemberEnded.{MemberEnded}
use Rattle.room_ends.specs.declared.ended.MemberEnded.TheVariants as ends
use Rattle.room_close.proofs.Recorded.{has_seen}
use Rattle.room_ends.specs.Played.{HasPlayed}
use Rattle.room_ends.specs.Prints.{Prints, PrintsChannel, PrintsMember, PrintsPipe, PrintsReplies, PrintsSession, PrintsText}
use Rattle.room_whole.proofs.Answering.{replies_at}
use Rattle.room_whole.proofs.Channelled.{channel_of}
use Rattle.room_whole.proofs.Chosen.{all_of, items_of, log_is, printed}
use Rattle.room_whole.proofs.Ended.{log_printed, many_ended, own_known, pipe_known}
use Rattle.room_whole.proofs.Given.{Given, entries_of, key_of, lines_of, logs_of, pipe_of, setup_of}
use Rattle.room_whole.proofs.Operated.{ops_here, prints_ops}
use Rattle.room_whole.proofs.Phased.{entries_printed, many_phases, phased, table_printed}
use Rattle.room_whole.proofs.Protocolled.{IsOfPipe, IsOfProtocol, known}
use Rattle.room_whole.proofs.Sources.{accepted_is, importer_is, mode_is}
use Rattle.room_whole.proofs.Tabled.{history_is}
use Rattle.room_whole.proofs.TablesAfter.{content_is, history_after, start_is}
use Rattle.room_whole.proofs.Texts.{prints_text}

-- the item at a place of a list, of which a mapped one is made
get_mapped : {A B : Type 0} (f : A → B) (xs : List A) (i : ℕ) (y : B) → slice_get (map f xs) i ≡ Some y → (x : A) × (slice_get xs i ≡ Some x) × (f x ≡ y)
get_mapped f [] i y e = none_some e
get_mapped f (x ∷ xs) zero y e = (x, refl, some_same e)
get_mapped f (x ∷ xs) (suc i) y e = get_mapped f xs i y e

module _ {J P : Type 0} (g : Given J P) where
  -- ---- channels

  prints_channel : (c : ℕ) (exporter : State J) → (printed g).items c ++ g.past.logs c ≡ reverse exporter.log → PrintsChannel (setup_of g) (lines_of g) g.past (printed g) c exporter
  prints_channel c exporter items =
      let log : items_of g c ++ logs_of g c ≡ reverse exporter.log = sym (log_is g c) ∙ items in
      record {
        items = sym items;
        up = ap (λ (l : List LogItem). is_some (stretch l)) log;
        standing = λ k. ap (λ (l : List LogItem). value_of (account k l)) log;
      }

  -- ---- protocols with routes of their own

  module _ (i : ℕ) (held : StandingProtocol J) (held_at : slice_get g.old.members.items i ≡ Some (standing.Own held)) (f : IsOfProtocol g i held) (told : (printed g).ops i ≡ turns_told (lines_of g) f.done.list) where
    own_channel : (c : ℕ) (channel : Channel) (exporter : State J) → channel_at (setup_of g) c ≡ Some channel → channel.owner ≡ i → f.ended.exporter ≡ Some exporter → PrintsChannel (setup_of g) (lines_of g) g.past (printed g) c exporter
    own_channel c channel exporter at own is =
        let there = ap (slice_get g.old.members.items) own ∙ held_at in
        let facts = known g channel.owner held there in
        let of = channel_of g c channel at held facts in
        let ended_at : slice_get g.made.ended.members.items channel.owner ≡ Some (ends.Own f.ended) = ap (slice_get g.made.ended.members.items) own ∙ f.ended_at in
        prints_channel c exporter
        (ap (λ (n : ℕ). (printed g).items n ++ g.past.logs n) (sym of.number)
        ∙ log_printed g channel.owner (standing.Own held) of.stood (ends.Own f.ended) exporter there ended_at (of.stood_is, is))

    own_printed : PrintsSession (setup_of g) (lines_of g) g.past (printed g) i f.ended
    own_printed =
        let key = key_of g f.session in
        let turns = f.done.imports.turns in
        let s = f.standing.stands in
        let imports = (importer_is g i held f told).imports in
        record {
          ops = prints_ops g i f.done.list told key.phase f.is.phase_is key.number f.is.number_is f.ended.ops.items turns.lines turns.over;
          mode = mode_is (setup_of g) i s.protocol (IsSource f.standing.source) (ops_of ((all_of g).ops i)) s.protocol_is s.body ∙ ap (λ (z : Imports). z.mode) (sym imports);
          accepted = ap length (accepted_is (setup_of g) i s.protocol (IsSource f.standing.source) (ops_of ((all_of g).ops i)) s.protocol_is s.body ∙ ap (λ (z : Imports). z.accepted) (sym imports));
          channels = own_channel;
        }

  -- ---- pipes

  module _ (i : ℕ) (held : StandingPipe J) (held_at : slice_get g.old.members.items i ≡ Some (standing.Pipe held)) (f : IsOfPipe g i held) (told : (printed g).ops i ≡ turns_told (lines_of g) f.done.list) where
    pipe_printed : PrintsPipe (setup_of g) (lines_of g) g.past (printed g) i f.ended
    pipe_printed =
        let key = pipe_of g f.session in
        let turns = f.done.turns in
        let s = f.standing.stands in
        let all = ops_here g i f.done.list told key.phase f.is.phase_is key.number f.is.number_is in
        record {
          ops = prints_ops g i f.done.list told key.phase f.is.phase_is key.number f.is.number_is f.ended.ops.items turns.lines turns.over;
          mode = mode_is (setup_of g) i s.protocol (IsPipe f.standing.pipe) (ops_of ((all_of g).ops i)) s.protocol_is s.body ∙ ap (λ (l : List Op). pipe_mode (pipe_is_up l)) (sym all) ∙ ap pipe_mode (sym f.done.up);
          accepted = ap length (accepted_is (setup_of g) i s.protocol (IsPipe f.standing.pipe) (ops_of ((all_of g).ops i)) s.protocol_is s.body);
          out_number = held.out.number;
          back_number = held.back.number;
          belong = f.standing.belong;
          out = prints_channel held.out.number f.ended.out (log_printed g i (standing.Pipe held) held.out (ends.Pipe f.ended) f.ended.out held_at f.ended_at (inl (refl, refl)));
          back = prints_channel held.back.number f.ended.back (log_printed g i (standing.Pipe held) held.back (ends.Pipe f.ended) f.ended.back held_at f.ended_at (inr (refl, refl)));
        }

  -- ---- members

  member_printed : (i : ℕ) (member : MemberEnded J) → slice_get g.made.ended.members.items i ≡ Some member → PrintsMember (setup_of g) (lines_of g) g.past (printed g) i member
  member_printed i (ends.Own session) at =
      let k = own_known g i session at in
      subst (PrintsSession (setup_of g) (lines_of g) g.past (printed g) i) k.same (own_printed i k.held k.held_at k.facts k.told)
  member_printed i (ends.Pipe pipe) at =
      let k = pipe_known g i pipe at in
      subst (PrintsPipe (setup_of g) (lines_of g) g.past (printed g) i) k.same (pipe_printed i k.held k.held_at k.facts k.told)

  -- ---- actors

  module _ (one : (words : List ℕ) (a b : JEntry) → Spells a words → Spells b words → a ≡ b) where
    text_printed : (number : ℕ) (actor : Actor) → HasPlayed g.verdict g.terms g.exports g.rules g.opening.room g.played.hands g.played.passes number actor → (told : Told) → IsText (setup_of g) actor.passes.items told → PrintsText (setup_of g) (lines_of g) g.past (printed g) told
    text_printed number actor has told is =
        let over = g.played.synced.over in
        let t = told.table in
        let tables = g.opening.room.tables.items in
        let here = partner_back (λ (j : TableId × Terms TableOpening) (pass : PassView). journal pass ≡ j) tables actor.passes.items t is.pass has.doing.acting.passes_are is.pass_at in
        let mine : journal is.pass ≡ here.0 = has.doing.acting.passes_are.each t here.0 is.pass here.1 is.pass_at in
        let inside = get_within tables t here.0 here.1 in
        let many = over.tables_are.count in
        let all = over.phases.count in
        let phase = get_here g.made.ended.phases.items t (omega (arith, inside, many, all)) in
        let k = phased g t phase.0 phase.1 in
        let same : here.0 ≡ k.here = get_one tables t here.0 k.here here.1 k.here_at in
        let seen : IsPrefix (front is.pass.1) (entries_of g t) =
        has_seen g.verdict tables g.played.synced.lefts g.played.passes g.made.ended over has.passes_ended.0 actor.passes has.passes_ended.1 t is.pass is.pass_at in
        prints_text one (setup_of g) (lines_of g) g.past (printed g) told actor.passes.items is k.here k.of.stood.before.items k.list.1 phase.0.entries
        (start_is (setup_of g) t k.of.stood k.here k.of.begins k.of.standing.begun) (content_is (setup_of g) t k.of.stood k.here k.of.begins k.of.standing.begun) k.is_phase.records
        (history_after (setup_of g) t k.of.stood k.here k.of.begins k.of.standing.begun k.list.1 phase.0 k.is_phase g.past (printed g) (history_is g t k.here k.of) (entries_printed g t phase.0 phase.1))
        (mine ∙ same) (subst (IsPrefix (front is.pass.1)) (ap entries_in k.list_at) seen)

    -- the actor of a number was told this
    actor_here : (number : ℕ) (told : List Told) → slice_get (map (λ list. list.items) g.made.told.items) number ≡ Some told → (actor : Actor) × (slice_get g.played.actors number ≡ Some actor) × (actor.replies.items ≡ told)
    actor_here number told at =
        get_mapped (λ (a : Actor). a.replies.items) g.played.actors number told
        (ap (λ l. slice_get l number) (sym (map-map (λ (list : Vec Told Global). list.items) (λ (a : Actor). a.replies) g.played.actors) ∙ ap (map (λ (list : Vec Told Global). list.items)) (sym g.played.told)) ∙ at)

    replies_printed : (number : ℕ) (told : List Told) → slice_get (map (λ list. list.items) g.made.told.items) number ≡ Some told → PrintsReplies (setup_of g) (lines_of g) g.past (printed g) number told
    replies_printed number told at =
        let actor = actor_here number told at in
        let has = g.played.acted number actor.0 actor.1 in
        record {
          replies = replies_at g number told at;
          texts = subst (All (PrintsText (setup_of g) (lines_of g) g.past (printed g))) actor.2
              (all_weaker (IsText (setup_of g) actor.0.passes.items) (PrintsText (setup_of g) (lines_of g) g.past (printed g)) (text_printed number actor.0 has) actor.0.replies.items has.doing.texts);
        }

    pub prints : Prints (setup_of g) (lines_of g) g.past (printed g) g.made
    prints = record {
      tables = table_printed g;
      members = member_printed;
      replies = replies_printed;
      tables_count = many_phases g ∙ g.stands.tables.count;
      members_count = many_ended g ∙ g.stands.count;
    }
