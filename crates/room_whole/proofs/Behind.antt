-- What stands behind a phase is what a further phase can begin with.
use Rattle.std.proofs.Common.{◌≡◌, ℕ, inl, inr, true, false, List, [], ◌∷◌, ◌++◌, length, map, reverse, Option, Some, None, refl, sym, ap, subst, ◌∙◌, arith}
use Rattle.std.specs.Prelude.{slice_get}
use Rattle.std.specs.List.{AllByRecursion}
use Rattle.atomic_table.specs.Seated.{TableId}
use Rattle.attrs.specs.Table.{route_in}
use Rattle.attrs.specs.declared.journal.JEntry.{JEntry}
use Rattle.attrs.specs.declared.route.Change.{Change}
use Rattle.bits_ip.specs.Prefix.{Net}
use Rattle.bits_ip.specs.declared.address.Family.{Family}
use Rattle.export_core.specs.Histories.{course_of as told_course}
use Rattle.export_core.specs.Standing.{is_open}
use Rattle.export_core.specs.States.{StandsFor, State}
use Rattle.export_core.specs.declared.log.LogItem.{LogItem}
use Rattle.export_core.specs.declared.passing.ExportSpec.{ExportSpec}
use Rattle.import_core.specs.declared.operation.Op.{Op}
use Rattle.jour_rule.specs.declared.views.Terms.{Terms}
use Rattle.core_machine.specs.Enters.{enters}
use Rattle.core_machine.specs.Histories.{content_of, own}
use Rattle.core_machine.specs.Legal.{IsLegal, join}
use Rattle.core_machine.specs.Lines.{Line, Turn, ops_of}
use Rattle.core_machine.specs.Pipes.{passes}
use Rattle.core_machine.specs.Rules.{changes, is_up}
use Rattle.core_machine.specs.Signals.{without_sends}
use Rattle.core_machine.proofs.Contents.{content_own, content_those}
use Rattle.core_setup.specs.Announced.{IsOfFamily}
use Rattle.core_setup.specs.Channels.{Channel, channel_at, owner_at, reads_at, target_at}
use Rattle.core_setup.specs.Protocols.{pipe_is_up}
use Rattle.core_setup.specs.Setup.{Exports}
use Rattle.core_setup.proofs.Numbered.{all_append, some_same}
use Rattle.core_setup.proofs.PairLemmas.{get_here, get_one, get_within}
use Rattle.table_shared.specs.Opening.{TableOpening}
use Rattle.table_shared.specs.Records.{change_of}
use Rattle.phase_legal.specs.Shown.{AreBeside}
use Rattle.phase_legal.specs.Stamps.{opens}
use Rattle.phase_legal.specs.Turns.{turns_told}
use Rattle.phase_legal.proofs.Stamping.{stretch_opens}
use Rattle.import_lock.specs.Terms.{PhaseTerms, ops_told, past_ops}
use Rattle.phase_room.specs.Stands.{StandsChannel, StandsSource, StandsTable}
use Rattle.phase_close.specs.Whole.{said_in}
use Rattle.phase_open.specs.Standing.{AreStandingChannels, IsStandingChannel, IsStandingProtocol, IsStandingTable, table_stood}
use Rattle.phase_open.specs.declared.standing.StandingChannel.{StandingChannel}
use Rattle.phase_open.specs.declared.standing.StandingProtocol.{StandingProtocol}
use Rattle.phase_open.specs.declared.standing.StandingTable.{StandingTable}
use Rattle.phase_pipes.specs.Stands.{StandsDirection}
use Rattle.room_open.specs.Standing.{IsStandingDirection, IsStandingMember, IsStandingPipe, Stands}
use Rattle.room_open.specs.declared.standing.Standing.{Standing}
use Rattle.room_open.specs.declared.standing.StandingMember.{StandingMember}
use Rattle.room_open.specs.declared.standing.StandingMember.TheVariants as standing
use Rattle.room_open.specs.declared.standing.StandingPipe.{StandingPipe}
use Rattle.room_ends.specs.declared.ended.MemberEnded.{MemberEnded}
use Rattle.room_ends.specs.declared.ended.MemberEnded.TheVariants as ends
use Rattle.room_ends.specs.After.{IsChannelAfter, IsMemberAfter, IsPipeAfter, IsProtocolAfter, StandsAfter}
use Rattle.room_whole.proofs.Channelled.{EndsWith, channel_of, direction_of, one_side}
use Rattle.room_whole.proofs.Chosen.{IsOwnChoice, IsPipeChoice, all_of, choice, items_of, log_is, own_choice, pipe_choice, pipe_turns_are, printed, turns_are}
use Rattle.room_whole.proofs.Following.{HasRead, all_said, direction_read, own_read}
use Rattle.room_whole.proofs.Given.{Given, exports_of, key_of, lines_of, logs_of, phase_of, pipe_of, rules_in, said_of, setup_of}
use Rattle.room_whole.proofs.Operated.{ops_here}
use Rattle.room_whole.proofs.Pasts.{past_behind}
use Rattle.room_whole.proofs.Phased.{many_phases, phased}
use Rattle.room_whole.proofs.Protocolled.{IsOfPipe, IsOfProtocol}
use Rattle.room_whole.proofs.Sources.{importer_is}
use Rattle.room_whole.proofs.Tabled.{known_table}
use Rattle.room_whole.proofs.TablesAfter.{family_is, history_content, table_stands}

module _ {J P : Type 0} (g : Given J P) (behind : Standing J) (after : StandsAfter g.old g.made behind) (first : ℕ → List Turn) (lines : List Line) (legal : IsLegal (rules_in g) first g.past lines (printed g)) (script : List Line) (starter : ℕ) where
  -- a further phase
  abbrev here : PhaseTerms
  here = record { setup = setup_of g; lines = script; past = (all_of g).ops; starter = starter }

  -- ---- tables

  tables_stand : AreBeside IsStandingTable (setup_of g).tables behind.tables.items
  tables_stand = record {
    count = after.tables_count ∙ g.stands.tables.count;
    each = λ t table new table_at at.
        let inside = get_within behind.tables.items t new at in
        let many = after.tables_count in
        let all = many_phases g in
        let phase = get_here g.made.ended.phases.items t (omega (arith, inside, many, all)) in
        let k = phased g t phase.0 phase.1 in
        table_stands (setup_of g) t k.of.stood k.here k.of.begins k.of.standing.begun k.list.1 phase.0 k.is_phase table new
        (g.stands.tables.each t table k.of.stood table_at k.of.stood_at) (after.tables t k.of.stood phase.0 new k.of.stood_at phase.1 at);
  }

  -- a table of which this stood
  record IsBehind (t : ℕ) (stood : StandingTable) : Type 0 where
    here : TableId × Terms TableOpening
    here_at : slice_get g.opening.room.tables.items t ≡ Some here
    stood_at : slice_get g.old.tables.items t ≡ Some stood
    new : StandingTable
    new_at : slice_get behind.tables.items t ≡ Some new
    stands : StandsTable (table_stood new)
    family : new.family ≡ stood.family
    opening : here.1.opening.family ≡ new.family
    before : stood.before.items ++ said_of g t ≡ new.before.items
    history : (all_of g).history t ≡ reverse (map change_of new.before.items)

  behind_table : (t : ℕ) (stood : StandingTable) → slice_get g.old.tables.items t ≡ Some stood → IsBehind t stood
  behind_table t stood at =
      let inside = get_within g.old.tables.items t stood at in
      let many = after.tables_count in
      let all = many_phases g in
      let new = get_here behind.tables.items t (omega (arith, inside, many)) in
      let phase = get_here g.made.ended.phases.items t (omega (arith, inside, all)) in
      let k = phased g t phase.0 phase.1 in
      let newly = after.tables t stood phase.0 new.0 at phase.1 new.1 in
      let same : k.of.stood ≡ stood = get_one g.old.tables.items t k.of.stood stood k.of.stood_at at in
      record {
        here = k.here;
        here_at = k.here_at;
        stood_at = at;
        new = new.0;
        new_at = new.1;
        stands = (tables_stand.each t k.of.table new.0 k.of.table_at new.1).begun;
        family = newly.family;
        opening = family_is (setup_of g) t k.of.stood k.here k.of.begins k.of.standing.begun ∙ ap (λ (z : StandingTable). z.family) same ∙ sym newly.family;
        before = ap (λ o. stood.before.items ++ said_in o) phase.1 ∙ sym newly.before;
        history = (past_behind g behind after first lines legal).history t new.0 new.1;
      }

  -- what stands in it is what its history leaves
  rows_are : (t : ℕ) (stood : StandingTable) (b : IsBehind t stood) (net : Net) (num : ℕ) → route_in b.new.rows.rows net num ≡ content_of ((all_of g).history t) net num
  rows_are t stood b net num =
      b.stands.rows net num
      ∙ (λ j. sym (history_content b.new.before.items) j net num)
      ∙ ap (λ (h : List Change). content_of h net num) (sym b.history)

  -- ---- channels

  module _ (c : ℕ) (exporter : State J) (read : HasRead g c exporter) (t : ℕ) (stood : StandingTable) (b : IsBehind t stood) (reads : (rules_in g).reads c ≡ t) where
    said_here : all_said g read.home read.here (known_table g read.home read.here read.there) ≡ b.new.before.items
    said_here =
        let home : read.home ≡ t = sym read.reads ∙ reads in
        let k = known_table g read.home read.here read.there in
        let same : k.stood ≡ stood = get_one g.old.tables.items read.home k.stood stood k.stood_at (ap (slice_get g.old.tables.items) home ∙ b.stood_at) in
        (λ j. (same j).before.items ++ said_of g (home j)) ∙ b.before

    stands_here : (spec : ExportSpec) → exporter.spec ≡ spec → StandsFor g.verdict (told_course spec b.new.before.items) exporter
    stands_here spec is = subst (λ (z : ExportSpec × List JEntry). StandsFor g.verdict (told_course z.0 z.1) exporter) (λ j. (is j, said_here j)) read.stands

    position_here : is_open exporter.log ≡ true → exporter.position ≡ length b.new.before.items
    position_here up = (read.rests up).position ∙ ap length said_here

  up_here : (c : ℕ) (channel : Channel) → channel_at (setup_of g) c ≡ Some channel → (i : ℕ) → channel.owner ≡ i → (exporter : State J) → HasRead g c exporter → opens false (without_sends (reverse exporter.log)) ≡ is_up (rules_in g) i (ops_of ((all_of g).ops i))
  up_here c channel at i own exporter read =
      ap (λ (l : List LogItem). opens false (without_sends l)) (sym read.log)
      ∙ sym (stretch_opens (items_of g c ++ logs_of g c))
      ∙ legal.state.up c
      ∙ ap (λ n. is_up (rules_in g) n (ops_of ((all_of g).ops n))) (ap (owner_at (length (setup_of g).protocols)) at ∙ own)

  -- ---- protocols with routes of their own

  module _ (i : ℕ) (held : StandingProtocol J) (held_at : slice_get g.old.members.items i ≡ Some (standing.Own held)) (f : IsOfProtocol g i held) (told : (printed g).ops i ≡ turns_told (lines_of g) f.done.list) (b : IsBehind held.table f.standing.stood) where
    exact_here : own i (reverse (map change_of b.new.before.items)) ≡ changes (rules_in g) i (ops_of ((all_of g).ops i))
    exact_here = ap (own i) (sym b.history ∙ ap (all_of g).history (sym (f.is.home_is ∙ f.begins.table))) ∙ legal.exact i

    family_here : (key_of g f.session).port.1.opening.family ≡ b.new.family
    family_here =
        let key = key_of g f.session in
        let port : key.port ≡ b.here = get_one g.opening.room.tables.items held.table key.port b.here (ap (slice_get g.opening.room.tables.items) (sym f.begins.table) ∙ f.is.table) b.here_at in
        ap (λ (z : TableId × Terms TableOpening). z.1.opening.family) port ∙ b.opening

    source_here : StandsSource g.verdict here i f.standing.source (table_stood b.new) f.ended.importer
    source_here =
        let s = f.standing.stands in
        let key = key_of g f.session in
        let all = ops_here g i f.done.list told key.phase f.is.phase_is key.number f.is.number_is in
        record {
          setup = g.stands.setup;
          protocol = s.protocol;
          protocol_is = s.protocol_is;
          body = s.body;
          family = s.family ∙ ap Some (sym b.family);
          rows = λ net.
              b.stands.rows net i
              ∙ (λ j. sym (history_content b.new.before.items) j net i)
              ∙ content_own net i (reverse (map change_of b.new.before.items))
              ∙ ap (λ (h : List Change). content_of h net i) exact_here
              ∙ g.ruled.made i (ops_of ((all_of g).ops i)) net;
          past =
              subst (λ (z : Family × List Op). AllByRecursion (IsOfFamily z.0) z.1) (λ j. (family_here j, all j))
              (all_append (IsOfFamily key.port.1.opening.family) (ops_told key f.done.list) (past_ops key) f.done.imports.family f.done.imports.terms.past);
          importer = importer_is g i held f told;
        }

    channel_here : (x : Exports) (y : StandingChannel J) (e : State J) → IsStandingChannel g.verdict (phase_of g) (exports_of g) i (table_stood f.standing.stood) x y → held.channel ≡ Some y → f.ended.exporter ≡ Some e
        → IsStandingChannel g.verdict here (exports_of g) i (table_stood b.new) x (record { number = y.number; exporter = e })
    channel_here x y e a y_is e_is =
        let c : ℕ = y.number in
        let there : slice_get g.old.members.items a.channel.owner ≡ Some (standing.Own held) = ap (slice_get g.old.members.items) a.owner ∙ held_at in
        let mine = own_choice g a.channel.owner held there in
        let of = channel_of g c a.channel a.channel_is held mine.facts in
        let same : ends.Own mine.facts.ended ≡ ends.Own f.ended =
        get_one g.made.ended.members.items i (ends.Own mine.facts.ended) (ends.Own f.ended) (ap (slice_get g.made.ended.members.items) (sym a.owner) ∙ mine.facts.ended_at) f.ended_at in
        let ended : Some of.exporter ≡ Some e = sym of.exporter_is ∙ ap exporter_in same ∙ e_is in
        let exporter : of.exporter ≡ e = some_same ended in
        let read = own_read g c a.channel a.channel_is held there mine of in
        let reads : (rules_in g).reads c ≡ held.table = ap (reads_at (length (setup_of g).tables)) a.channel_is ∙ of.reads ∙ mine.facts.begins.table in
        let passes : of.lock.exports ≡ x = of.begins.exports_are ∙ ap (exports_of g) of.number ∙ a.exports_are in
        let spec : of.exporter.spec ≡ x.spec = ap (λ (z : State J). z.spec) of.ended.exporter_is ∙ of.ended.left.exports.spec ∙ ap (λ (z : Exports). z.spec) passes in
        let stands : StandsChannel g.verdict here i x (table_stood b.new) of.exporter = record {
          spec = spec;
          filter = ap (λ (z : State J). g.verdict z.judge) of.ended.exporter_is ∙ of.ended.left.exports.filter ∙ ap (λ (z : Exports). z.filter) passes;
          neighbour = a.stands.neighbour;
          family = a.stands.family ∙ sym b.family;
          rest = ap (λ (z : State J). z.flushing) of.ended.exporter_is ∙ of.ended.left.exports.stays refl;
          stands = stands_here c of.exporter read held.table f.standing.stood b reads x.spec spec;
          position = position_here c of.exporter read held.table f.standing.stood b reads;
          up = up_here c a.channel a.channel_is i a.owner of.exporter read;
        } in
        record {
          channel = a.channel;
          channel_is = a.channel_is;
          owner = a.owner;
          exports_are = a.exports_are;
          stands = subst (StandsChannel g.verdict here i x (table_stood b.new)) exporter stands;
        }
      where
        exporter_in : MemberEnded J → Option (State J)
        exporter_in (ends.Own ended) = ended.exporter
        exporter_in (ends.Pipe ended) = None

    channels_by : (x : Option Exports) (y : Option (StandingChannel J)) (e : Option (State J)) (w : Option (StandingChannel J)) → AreStandingChannels g.verdict (phase_of g) (exports_of g) i (table_stood f.standing.stood) x y → IsChannelAfter y e w → held.channel ≡ y → f.ended.exporter ≡ e
        → AreStandingChannels g.verdict here (exports_of g) i (table_stood b.new) x w
    channels_by None None None None a next y_is e_is = tt
    channels_by None None (Some e) None a next y_is e_is = tt
    channels_by (Some x) (Some y) (Some e) (Some w) a next y_is e_is =
        let same : w ≡ record { number = y.number; exporter = e } = λ j. record { number = next.number j; exporter = next.exporter_is j } in
        subst (IsStandingChannel g.verdict here (exports_of g) i (table_stood b.new) x) (sym same) (channel_here x y e a y_is e_is)
    channels_by None (Some y) e w a next y_is e_is = absurd a
    channels_by (Some x) None e w a next y_is e_is = absurd a
    channels_by None None None (Some w) a next y_is e_is = absurd next
    channels_by None None (Some e) (Some w) a next y_is e_is = absurd next
    channels_by (Some x) (Some y) None None a next y_is e_is = absurd next
    channels_by (Some x) (Some y) None (Some w) a next y_is e_is = absurd next
    channels_by (Some x) (Some y) (Some e) None a next y_is e_is = absurd next

    own_here : (holds : StandingProtocol J) → IsProtocolAfter held f.ended holds → IsStandingProtocol g.verdict here (exports_of g) behind.tables.items i holds
    own_here holds next = record {
      source = f.standing.source;
      table_is = next.table ∙ f.standing.table_is;
      stood = b.new;
      stood_is = ap (slice_get behind.tables.items) next.table ∙ b.new_at;
      stands = subst (StandsSource g.verdict here i f.standing.source (table_stood b.new)) (sym next.importer) source_here;
      channels = channels_by f.standing.source.exports held.channel f.ended.exporter holds.channel f.standing.channels next.channel refl refl;
    }

  -- ---- pipes

  module _ (i : ℕ) (held : StandingPipe J) (held_at : slice_get g.old.members.items i ≡ Some (standing.Pipe held)) (f : IsOfPipe g i held) (told : (printed g).ops i ≡ turns_told (lines_of g) f.done.list) where
    direction_here : (stood : StandingChannel J) (exporter : State J) → EndsWith (standing.Pipe held) stood (ends.Pipe f.ended) exporter → (from to : ℕ) (r w : StandingTable) → IsStandingDirection g.verdict (phase_of g) (exports_of g) i from to (table_stood r) (table_stood w) stood
        → (rb : IsBehind from r) (wb : IsBehind to w) → IsStandingDirection g.verdict here (exports_of g) i from to (table_stood rb.new) (table_stood wb.new) (record { number = stood.number; exporter = exporter })
    direction_here stood exporter with from to r w d rb wb =
        let c : ℕ = stood.number in
        let channel : Channel = d.of.channel in
        let at : channel_at (setup_of g) c ≡ Some channel = d.of.channel_is in
        let there : slice_get g.old.members.items channel.owner ≡ Some (standing.Pipe held) = ap (slice_get g.old.members.items) d.of.owner ∙ held_at in
        let mine = pipe_choice g channel.owner held there in
        let of = direction_of g c channel at held mine.facts in
        let ended : ends.Pipe f.ended ≡ ends.Pipe mine.facts.ended =
        get_one g.made.ended.members.items i (ends.Pipe f.ended) (ends.Pipe mine.facts.ended) f.ended_at (ap (slice_get g.made.ended.members.items) (sym d.of.owner) ∙ mine.facts.ended_at) in
        let side : EndsWith (standing.Pipe held) stood (ends.Pipe mine.facts.ended) exporter = subst (λ (z : MemberEnded J). EndsWith (standing.Pipe held) stood z exporter) ended with in
        let same : of.exporter ≡ exporter = (one_side g c channel at held mine.facts of.stood stood of.exporter exporter of.number refl of.side side).1 in
        let read = direction_read g c channel at held there mine of in
        let reads : (rules_in g).reads c ≡ from = ap (reads_at (length (setup_of g).tables)) at ∙ d.of.reads_is in
        let writes : (rules_in g).target c ≡ Some to = ap target_at at ∙ d.of.writes_is in
        let lane = of.ended.left.lane_is.1.direction.exporting in
        let passes_are : of.lane.exports.exports ≡ exports_of g c = of.begins.exports_are ∙ ap (exports_of g) of.number in
        let spec : of.exporter.spec ≡ (exports_of g c).spec = ap (λ (z : State J). z.spec) of.ended.exporter_is ∙ lane.spec ∙ ap (λ (z : Exports). z.spec) passes_are in
        let stands : StandsDirection g.verdict here i c (exports_of g c) (table_stood rb.new) (table_stood wb.new) of.exporter = record {
          spec = spec;
          filter = ap (λ (z : State J). g.verdict z.judge) of.ended.exporter_is ∙ lane.filter ∙ ap (λ (z : Exports). z.filter) passes_are;
          rules = d.stands.rules;
          family = d.stands.family ∙ sym rb.family;
          same = d.stands.same ∙ sym wb.family;
          rest = ap (λ (z : State J). z.flushing) of.ended.exporter_is ∙ of.ended.left.rest;
          stands = stands_here c of.exporter read from r rb reads (exports_of g c).spec spec;
          position = position_here c of.exporter read from r rb reads;
          up = up_here c channel at i d.of.owner of.exporter read;
          rows = λ net num goes.
              rows_are to w wb net num
              ∙ content_those (passes (rules_in g) c) net num ((all_of g).history to) goes
              ∙ ap (λ (h : List Change). content_of h net num) (legal.entered c to writes ∙ ap (enters (rules_in g)) (log_is g c ∙ read.log));
        } in
        record {
          of = d.of;
          exports_are = d.exports_are;
          stands = subst (StandsDirection g.verdict here i c (exports_of g c) (table_stood rb.new) (table_stood wb.new)) same stands;
        }

    pipe_here : (holds : StandingPipe J) → IsPipeAfter held f.ended holds → IsStandingPipe g.verdict here (exports_of g) behind.tables.items i holds
    pipe_here holds next =
        let s = f.standing in
        let key = pipe_of g f.session in
        let all = ops_here g i f.done.list told key.phase f.is.phase_is key.number f.is.number_is in
        let pb : IsBehind s.pipe.primary s.primary = behind_table s.pipe.primary s.primary (ap (slice_get g.old.tables.items) (sym s.primary_is) ∙ s.primary_at) in
        let qb : IsBehind s.pipe.peer s.peer = behind_table s.pipe.peer s.peer (ap (slice_get g.old.tables.items) (sym s.peer_is) ∙ s.peer_at) in
        let out : holds.out ≡ record { number = held.out.number; exporter = f.ended.out } = λ j. record { number = next.out.number j; exporter = next.out.exporter_is j } in
        let back : holds.back ≡ record { number = held.back.number; exporter = f.ended.back } = λ j. record { number = next.back.number j; exporter = next.back.exporter_is j } in
        record {
          pipe = s.pipe;
          stands = record {
            setup = g.stands.setup;
            protocol = s.stands.protocol;
            protocol_is = s.stands.protocol_is;
            body = s.stands.body;
            up_is = next.up ∙ f.done.up ∙ ap pipe_is_up all;
          };
          primary_is = next.primary ∙ s.primary_is;
          peer_is = next.peer ∙ s.peer_is;
          belong = s.belong ∙ (λ j. sym next.out.number j ∷ sym next.back.number j ∷ []);
          primary = pb.new;
          primary_at = ap (slice_get behind.tables.items) (next.primary ∙ s.primary_is) ∙ pb.new_at;
          peer = qb.new;
          peer_at = ap (slice_get behind.tables.items) (next.peer ∙ s.peer_is) ∙ qb.new_at;
          out =
              subst (IsStandingDirection g.verdict here (exports_of g) i s.pipe.primary s.pipe.peer (table_stood pb.new) (table_stood qb.new)) (sym out)
              (direction_here held.out f.ended.out (inl (refl, refl)) s.pipe.primary s.pipe.peer s.primary s.peer s.out pb qb);
          back =
              subst (IsStandingDirection g.verdict here (exports_of g) i s.pipe.peer s.pipe.primary (table_stood qb.new) (table_stood pb.new)) (sym back)
              (direction_here held.back f.ended.back (inr (refl, refl)) s.pipe.peer s.pipe.primary s.peer s.primary s.back qb pb);
        }

  -- ---- all of it

  module _ (i : ℕ) (holds : StandingMember J) (at : slice_get behind.members.items i ≡ Some holds) where
    own_by : (held : StandingProtocol J) (held_at : slice_get g.old.members.items i ≡ Some (standing.Own held)) (mine : IsOwnChoice g i held (choice g i)) (holds : StandingMember J) → IsMemberAfter (standing.Own held) (ends.Own mine.facts.ended) holds
        → IsStandingMember g.verdict here (exports_of g) behind.tables.items i holds
    own_by held held_at mine (standing.Own new) next = own_here i held held_at mine.facts (turns_are g i held mine) (behind_table held.table mine.facts.standing.stood mine.facts.standing.stood_is) new next
    own_by held held_at mine (standing.Pipe new) next = absurd next

    pipe_by : (held : StandingPipe J) (held_at : slice_get g.old.members.items i ≡ Some (standing.Pipe held)) (mine : IsPipeChoice g i held (choice g i)) (holds : StandingMember J) → IsMemberAfter (standing.Pipe held) (ends.Pipe mine.facts.ended) holds
        → IsStandingMember g.verdict here (exports_of g) behind.tables.items i holds
    pipe_by held held_at mine (standing.Own new) next = absurd next
    pipe_by held held_at mine (standing.Pipe new) next = pipe_here i held held_at mine.facts (pipe_turns_are g i held mine) new next

    any_member : (held : StandingMember J) → slice_get g.old.members.items i ≡ Some held → IsStandingMember g.verdict here (exports_of g) behind.tables.items i holds
    any_member (standing.Own held) held_at =
        let mine = own_choice g i held held_at in
        own_by held held_at mine holds (after.members i (standing.Own held) (ends.Own mine.facts.ended) holds held_at mine.facts.ended_at at)
    any_member (standing.Pipe held) held_at =
        let mine = pipe_choice g i held held_at in
        pipe_by held held_at mine holds (after.members i (standing.Pipe held) (ends.Pipe mine.facts.ended) holds held_at mine.facts.ended_at at)

    member_here : IsStandingMember g.verdict here (exports_of g) behind.tables.items i holds
    member_here =
        let inside = get_within behind.members.items i holds at in
        let many = after.members_count in
        let held = get_here g.old.members.items i (omega (arith, inside, many)) in
        any_member held.0 held.1

  pub stands_next : Stands g.verdict here (exports_of g) behind
  stands_next = record {
    setup = g.stands.setup;
    tables = tables_stand;
    count = after.members_count ∙ g.stands.count;
    members = member_here;
  }

module _ {J P : Type 0} (g : Given J P) (behind : Standing J) (after : StandsAfter g.old g.made behind) (first : ℕ → List Turn) (lines : List Line) (legal : IsLegal (rules_in g) first g.past lines (printed g)) where
  pub stands_behind : (next : PhaseTerms) (exports : ℕ → Exports) → next.setup ≡ setup_of g → exports ≡ exports_of g → next.past ≡ (join g.past (printed g)).ops → Stands g.verdict next exports behind
  stands_behind next exports setup passes past =
      let same : next ≡ record { setup = setup_of g; lines = next.lines; past = (all_of g).ops; starter = next.starter } = λ j. record { setup = setup j; lines = next.lines; past = past j; starter = next.starter } in
      subst (λ (z : PhaseTerms × (ℕ → Exports)). Stands g.verdict z.0 z.1 behind) (λ j. (sym same j, sym passes j)) (stands_next g behind after first lines legal next.lines next.starter)
