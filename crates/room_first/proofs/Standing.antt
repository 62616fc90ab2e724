-- What is made before the first phase stands for it, whatever its lines are.
use Rattle.std.proofs.Common.{◌≡◌, ℕ, ◌+◌, ◌<◌, true, List, [], ◌∷◌, Option, Some, None, refl, sym, ◌∙◌, ap, subst, arith, length, map, add-zero}
use Rattle.std.specs.Prelude.{codes, option_map, slice_get}
use Rattle.std.specs.declared.alloc.Global.{Global}
use Rattle.std.specs.declared.vec.Vec.{Vec}
use Rattle.std.proofs.lemmas.List.{length-map}
use Rattle.std.proofs.lemmas.Option.{none-some, same_Some, slice_get-map}
use Rattle.attrs.specs.Table.{AreRows}
use Rattle.attrs.specs.declared.judge.Verdict.{Verdict}
use Rattle.attrs.specs.declared.journal.JEntry.{JEntry}
use Rattle.attrs.specs.declared.route.Route.{Route}
use Rattle.attrs.specs.declared.route.Row.{Row}
use Rattle.bits_ip.specs.Prefix.{Net}
use Rattle.bits_ip.specs.declared.address.Family.{Family}
use Rattle.rib.specs.Rib.{AreOfFamily}
use Rattle.core_machine.specs.Lines.{Line}
use Rattle.core_setup.specs.Channels.{Channel, channel_at, channels, channels_in, direction, family_or_first, numbers_of, session}
use Rattle.core_setup.specs.Protocols.{exports_of, protocol_at, sources}
use Rattle.core_setup.specs.Setup.{Exports, FitsBody, FitsPipe, FitsSource, IsPipe, IsSetup, IsSource, Pipe, Protocol, Setup, Source, family_at}
use Rattle.core_setup.proofs.Numbered.{protocol_is}
use Rattle.core_setup.proofs.PairLemmas.{get_here, get_within, one_here, pairs_length}
use Rattle.export_core.specs.States.{State}
use Rattle.phase_answers.specs.declared.lent.Lent.{Lent}
use Rattle.phase_open.specs.Standing.{AreStandingChannels, IsStandingProtocol, IsStandingTable, table_stood}
use Rattle.phase_open.specs.declared.standing.StandingChannel.{StandingChannel}
use Rattle.phase_open.specs.declared.standing.StandingProtocol.{StandingProtocol}
use Rattle.phase_open.specs.declared.standing.StandingTable.{StandingTable}
use Rattle.phase_pipes.specs.First.{open_exporter}
use Rattle.phase_pipes.specs.Stands.{StandsDirection, StandsPipe}
use Rattle.phase_room.specs.First.{first_phase, new_exporter, new_importer, nothing_in}
use Rattle.phase_room.specs.Rooms.{TableTerms}
use Rattle.phase_room.specs.Stands.{StandsChannel, StandsSource, StandsTable}
use Rattle.room_open.specs.Standing.{IsStandingDirection, IsStandingMember, IsStandingPipe, Stands}
use Rattle.room_open.specs.declared.standing.Standing.{Standing}
use Rattle.room_open.specs.declared.standing.StandingMember.{StandingMember}
use Rattle.room_open.specs.declared.standing.StandingMember.TheVariants as members
use Rattle.room_open.specs.declared.standing.StandingPipe.{StandingPipe}
use Rattle.run_tables.specs.Routes.{numbers_in}
use Rattle.room_first.specs.First.{IsFirst, IsFirstMember}
use Rattle.show_route.specs.declared.query.Query.{Query}
use Rattle.sys_run.specs.Made.{ArePassed, passed_at}
use Rattle.sys_run.specs.Parts.{body_seen, exports_seen, pipe_seen, protocol_seen, setup_seen, source_seen, table_seen}
use Rattle.sys_run.specs.declared.parts.BodyParts.{BodyParts}
use Rattle.sys_run.specs.declared.parts.BodyParts.TheVariants as bodies
use Rattle.sys_run.specs.declared.parts.ExportParts.{ExportParts}
use Rattle.sys_run.specs.declared.parts.PipeParts.{PipeParts}
use Rattle.sys_run.specs.declared.parts.ProtocolParts.{ProtocolParts}
use Rattle.sys_run.specs.declared.parts.SourceParts.{SourceParts}
use Rattle.sys_run.specs.declared.parts.TableParts.{TableParts}
use Rattle.room_first.specs.Inside.{AreFirstChannels, IsFirstDirection, IsFirstPipe, IsFirstProtocol, IsFirstSource, IsFirstTable, StandsFirst, gate_with}
use Rattle.room_first.specs.Sent.{lent_by, sent_by, sent_in}
use Rattle.room_first.proofs.Numbers.{pipe_numbers}
use Rattle.room_first.proofs.Placed.{IsFirstAt, channels_of, first_at, first_count}

-- what the laws of first phases say, of lent filters
pub record BeginsWell {J : Type 0} (verdict : J → Net → Route → Verdict) : Type 0 where
  pub tables : (family : Family) → StandsTable (nothing_in family)
  pub sources : (setup : Setup) (lines : List Line) (actors number : ℕ) (protocol : Protocol) (source : Source) (family : Family) (judge : J) → IsSetup setup
      → protocol_at setup number ≡ Some protocol → protocol.body ≡ IsSource source → family_at setup.tables source.table ≡ Some family → verdict judge ≡ source.filter
      → StandsSource verdict (first_phase setup lines actors) number source (nothing_in family) (new_importer source.spec judge)
  pub channels : (setup : Setup) (lines : List Line) (actors number : ℕ) (protocol : Protocol) (source : Source) (family : Family) (judge : J) (exports : Exports) → IsSetup setup
      → protocol_at setup number ≡ Some protocol → protocol.body ≡ IsSource source → family_at setup.tables source.table ≡ Some family → source.exports ≡ Some exports → verdict judge ≡ exports.filter
      → StandsChannel verdict (first_phase setup lines actors) number exports (nothing_in family) (new_exporter exports.spec judge)
  pub pipes : (setup : Setup) (lines : List Line) (actors number : ℕ) (protocol : Protocol) (pipe : Pipe) → IsSetup setup
      → protocol_at setup number ≡ Some protocol → protocol.body ≡ IsPipe pipe → StandsPipe (first_phase setup lines actors) number pipe true
  pub directions : (setup : Setup) (lines : List Line) (actors number : ℕ) (protocol : Protocol) (pipe : Pipe) (d : ℕ) (channel : Channel) (family : Family) (judge : J) → IsSetup setup
      → protocol_at setup number ≡ Some protocol → protocol.body ≡ IsPipe pipe → channel_at setup d ≡ Some channel → channel.exports.spec.family ≡ family → verdict judge ≡ channel.exports.filter
      → StandsDirection verdict (first_phase setup lines actors) number d (exports_of setup d channel) (nothing_in family) (nothing_in family) (open_exporter (exports_of setup d channel).spec judge)

-- ---- tables

empty_is : (table : TableParts) (stood : StandingTable) → IsFirstTable table stood → nothing_in stood.family ≡ table_stood stood
empty_is table stood is =
    ap (λ (rows : List Row). let t : TableTerms = record { family = stood.family; rows = rows; before = [] } in t) (sym (ap (λ (r : _). r.rows) is.rows))
    ∙ ap (λ (before : List JEntry). let t : TableTerms = record { family = stood.family; rows = stood.rows.rows; before = before } in t) (sym is.before)

-- the sources that a channel passes
pub passed_here : (setup : Setup) (held : List (Vec ℕ Global)) (c : ℕ) → ArePassed setup held → c < length (channels setup) → passed_at held c ≡ sources setup c
passed_here setup held c are w =
    let count = are.count in
    let at = get_here held c (omega (arith, w, count)) in
    ap numbers_in at.1 ∙ are.each c at.0 at.1

module _ {J : Type 0} (verdict : J → Net → Route → Verdict) (tables : List TableParts) (protocols : List (ProtocolParts J)) (cells : ℕ) (choices : List J) (queries : List Query)
    (passed : ℕ → List ℕ) (well : BeginsWell (lent_by verdict)) (fits : IsSetup (setup_seen verdict tables protocols cells choices queries))
    (passes : (c : ℕ) → c < length (channels (setup_seen verdict tables protocols cells choices queries)) → passed c ≡ sources (setup_seen verdict tables protocols cells choices queries) c)
    (standing : Standing (Lent J)) (made : StandsFirst verdict tables passed protocols standing) where
  abbrev seen : Setup
  seen = setup_seen verdict tables protocols cells choices queries

  table_at : (t : ℕ) (stood : StandingTable) → slice_get standing.tables.items t ≡ Some stood → (table : TableParts) × (slice_get tables t ≡ Some table) × IsFirstTable table stood
  table_at t stood e = one_here (λ number table stood. IsFirstTable table stood) tables standing.tables.items made.tables_are t stood e

  table_count : length standing.tables.items ≡ length seen.tables
  table_count = sym (pairs_length (λ number table stood. IsFirstTable table stood) 0 tables standing.tables.items made.tables_are) ∙ sym (length-map tables table_seen)

  table_stands : (t : ℕ) (table : List ℕ × Family) (stood : StandingTable) → slice_get seen.tables t ≡ Some table → slice_get standing.tables.items t ≡ Some stood → IsStandingTable table stood
  table_stands t table stood e f =
      let there = table_at t stood f in
      let is = there.2 in
      let same : table_seen there.0 ≡ table = same_Some (table_seen there.0) table (sym (slice_get-map table_seen tables t ∙ ap (option_map table_seen) there.1) ∙ e) in
      let none : [] ≡ stood.rows.rows = sym (ap (λ r. r.rows) is.rows) in
      record {
        family = is.family ∙ ap (λ (x : List ℕ × Family). x.1) same;
        kept = ap (λ r. r.family) is.rows ∙ sym is.family;
        rows = subst AreRows none tt;
        nets = subst (AreOfFamily stood.family) none tt;
        begun = subst StandsTable (empty_is there.0 stood is) (well.tables stood.family);
      }

  -- what stands of the table of a number, which is empty
  record Found (t : ℕ) : Type 0 where
    stood : StandingTable
    stood_is : slice_get standing.tables.items t ≡ Some stood
    family_is : family_at seen.tables t ≡ Some stood.family
    empty : nothing_in stood.family ≡ table_stood stood

  found : (t : ℕ) → t < length seen.tables → Found t
  found t w =
      let count = table_count in
      let there = get_here standing.tables.items t (omega (arith, w, count)) in
      let is = table_at t there.0 there.1 in
      record {
        stood = there.0;
        stood_is = there.1;
        family_is = ap (option_map (λ (table : List ℕ × Family). table.1)) (slice_get-map table_seen tables t ∙ ap (option_map table_seen) is.1) ∙ ap Some (sym is.2.family);
        empty = empty_is is.0 there.0 is.2;
      }

  -- ---- a protocol

  module _ (lines : List Line) (actors number : ℕ) (held : StandingMember (Lent J)) (at : IsFirstAt verdict (map table_seen tables) passed 0 0 number protocols held) where
    protocol_here : protocol_at seen number ≡ Some (protocol_seen verdict at.parts)
    protocol_here = slice_get-map (protocol_seen verdict) protocols number ∙ ap (option_map (protocol_seen verdict)) at.parts_is

    body_fits : FitsBody seen.tables number (body_seen verdict at.parts.body)
    body_fits = protocol_is seen number (protocol_seen verdict at.parts) fits protocol_here

    place_is : at.number ≡ at.place
    place_is = let is = at.number_is in omega (arith, is)

    owner_here : at.owner ≡ number
    owner_here = at.owner_is ∙ add-zero number

    -- its channels are those of what is played
    channel_there : (c k : ℕ) (channel : Channel) → c ≡ at.number + k → slice_get (channels_of verdict seen.tables at.owner at.parts) k ≡ Some channel → channel_at seen c ≡ Some channel
    channel_there c k channel same is = ap (channel_at seen) (same ∙ ap (λ n. n + k) place_is) ∙ at.there k channel is

    -- ---- one with routes of its own

    module _ (own : StandingProtocol (Lent J)) (s : SourceParts J) (body : at.parts.body ≡ bodies.Source s) (is : IsFirstSource verdict at.number s own) where
      source_here : (protocol_seen verdict at.parts).body ≡ IsSource (source_seen verdict s)
      source_here = ap (body_seen verdict) body

      source_fits : FitsSource seen.tables number (source_seen verdict s)
      source_fits = subst (FitsBody seen.tables number) source_here body_fits

      table_found : Found s.table
      table_found = found s.table source_fits.table

      abbrev stood : StandingTable
      stood = table_found.stood

      source_stands : StandsSource (lent_by verdict) (first_phase seen lines actors) number (source_seen verdict s) (table_stood stood) own.importer
      source_stands =
          subst (λ (t : TableTerms). StandsSource (lent_by verdict) (first_phase seen lines actors) number (source_seen verdict s) t own.importer) table_found.empty
          (subst (StandsSource (lent_by verdict) (first_phase seen lines actors) number (source_seen verdict s) (nothing_in stood.family)) (sym is.importer)
          (well.sources seen lines actors number (protocol_seen verdict at.parts) (source_seen verdict s) stood.family is.judge fits protocol_here source_here table_found.family_is is.filter))

      session_first : (exports : ExportParts J) → s.exports ≡ Some exports
          → slice_get (channels_of verdict seen.tables at.owner at.parts) 0
          ≡ Some (record { name = at.parts.name; owner = at.owner; reads = s.table; target = None; exports = exports_seen verdict exports })
      session_first exports has =
          ap (λ (b : BodyParts J). slice_get (channels_in seen.tables at.owner at.parts.name (body_seen verdict b)) 0) body
          ∙ ap (λ (o : Option (ExportParts J)). slice_get (session seen.tables at.owner at.parts.name s.table (option_map (exports_seen verdict) o)) 0) has

      channels_stand : (o : Option (ExportParts J)) (h : Option (StandingChannel (Lent J))) → s.exports ≡ o → AreFirstChannels verdict at.number o h
          → AreStandingChannels (lent_by verdict) (first_phase seen lines actors) (sent_by seen) number (table_stood stood) (option_map (exports_seen verdict) o) h
      channels_stand None None has are = tt
      channels_stand None (Some h) has are = absurd are
      channels_stand (Some exports) None has are = absurd are
      channels_stand (Some exports) (Some h) has are =
          let channel : Channel = record { name = at.parts.name; owner = at.owner; reads = s.table; target = None; exports = exports_seen verdict exports } in
          let there : channel_at seen h.number ≡ Some channel = channel_there h.number 0 channel (are.number ∙ sym (add-zero at.number)) (session_first exports has) in
          record {
            channel = channel;
            channel_is = there;
            owner = owner_here;
            exports_are = ap (sent_in seen h.number) there;
            stands =
                subst (λ (t : TableTerms). StandsChannel (lent_by verdict) (first_phase seen lines actors) number (exports_seen verdict exports) t h.exporter) table_found.empty
                (subst (StandsChannel (lent_by verdict) (first_phase seen lines actors) number (exports_seen verdict exports) (nothing_in stood.family)) (sym are.exporter)
                (well.channels seen lines actors number (protocol_seen verdict at.parts) (source_seen verdict s) stood.family are.judge (exports_seen verdict exports) fits protocol_here source_here table_found.family_is
                (ap (option_map (exports_seen verdict)) has) are.filter));
          }

      source_is : IsStandingProtocol (lent_by verdict) (first_phase seen lines actors) (sent_by seen) standing.tables.items number own
      source_is = record {
        source = source_seen verdict s;
        table_is = is.table;
        stood = stood;
        stood_is = ap (slice_get standing.tables.items) is.table ∙ table_found.stood_is;
        stands = source_stands;
        channels = channels_stand s.exports own.channel refl is.exports;
      }

    -- ---- a pipe

    module _ (pipe : StandingPipe (Lent J)) (p : PipeParts J) (body : at.parts.body ≡ bodies.Pipe p) (is : IsFirstPipe verdict (map table_seen tables) passed at.owner at.number p pipe) where
      pipe_here : (protocol_seen verdict at.parts).body ≡ IsPipe (pipe_seen verdict p)
      pipe_here = ap (body_seen verdict) body

      pipe_fits : FitsPipe seen.tables (pipe_seen verdict p)
      pipe_fits = subst (FitsBody seen.tables number) pipe_here body_fits

      abbrev way_of : List ℕ → ℕ → ℕ → J → Channel
      way_of way reads writes filter = direction seen.tables at.owner at.parts.name way reads writes (verdict filter)

      abbrev there_way : Channel
      there_way = way_of (codes ".export") p.primary p.peer p.export

      abbrev back_way : Channel
      back_way = way_of (codes ".import") p.peer p.primary p.import

      two_ways : channels_of verdict seen.tables at.owner at.parts ≡ there_way ∷ back_way ∷ []
      two_ways = ap (λ (b : BodyParts J). channels_in seen.tables at.owner at.parts.name (body_seen verdict b)) body

      -- a direction from a table to another
      module _ (c reads writes : ℕ) (way : List ℕ) (filter : J) (stood : StandingChannel (Lent J)) (read written : StandingTable)
          (first : IsFirstDirection verdict c (gate_with (family_or_first (family_at seen.tables reads)) at.owner (passed c)) filter stood)
          (there : channel_at seen c ≡ Some (way_of way reads writes filter)) (family : family_at seen.tables reads ≡ Some read.family) (same : read.family ≡ written.family)
          (read_empty : nothing_in read.family ≡ table_stood read) (written_empty : nothing_in written.family ≡ table_stood written) where
        abbrev channel : Channel
        channel = way_of way reads writes filter

        channel_is : channel_at seen stood.number ≡ Some channel
        channel_is = ap (channel_at seen) first.number ∙ there

        exports_are : sent_by seen stood.number ≡ exports_of seen stood.number channel
        exports_are = ap (sent_in seen stood.number) channel_is

        passed_is : passed c ≡ sources seen stood.number
        passed_is = passes c (get_within (channels seen) c channel there) ∙ ap (sources seen) (sym first.number)

        exporter_is : open_exporter (exports_of seen stood.number channel).spec first.judge ≡ stood.exporter
        exporter_is =
            sym (first.exporter ∙ ap (λ l. open_exporter (gate_with (family_or_first (family_at seen.tables reads)) at.owner l) first.judge) passed_is)

        begun : StandsDirection (lent_by verdict) (first_phase seen lines actors) number stood.number (exports_of seen stood.number channel) (nothing_in read.family) (nothing_in read.family)
            (open_exporter (exports_of seen stood.number channel).spec first.judge)
        begun = well.directions seen lines actors number (protocol_seen verdict at.parts) (pipe_seen verdict p) stood.number channel read.family first.judge fits protocol_here pipe_here channel_is
            (ap family_or_first family) first.same

        pub direction_stands : IsStandingDirection (lent_by verdict) (first_phase seen lines actors) (sent_by seen) number reads writes (table_stood read) (table_stood written) stood
        direction_stands = record {
          of = record { channel = channel; channel_is = channel_is; owner = owner_here; reads_is = refl; writes_is = refl };
          exports_are = exports_are;
          stands =
              subst (λ (e : Exports). StandsDirection (lent_by verdict) (first_phase seen lines actors) number stood.number e (table_stood read) (table_stood written) stood.exporter) (sym exports_are)
              (subst (λ (t : TableTerms). StandsDirection (lent_by verdict) (first_phase seen lines actors) number stood.number (exports_of seen stood.number channel) t (table_stood written) stood.exporter) read_empty
              (subst (λ (t : TableTerms). StandsDirection (lent_by verdict) (first_phase seen lines actors) number stood.number (exports_of seen stood.number channel) (nothing_in read.family) t stood.exporter) (ap nothing_in same ∙ written_empty)
              (subst (StandsDirection (lent_by verdict) (first_phase seen lines actors) number stood.number (exports_of seen stood.number channel) (nothing_in read.family) (nothing_in read.family)) exporter_is begun)));
        }

      primary_found : Found p.primary
      primary_found = found p.primary pipe_fits.primary

      peer_found : Found p.peer
      peer_found = found p.peer pipe_fits.peer

      one_family : primary_found.stood.family ≡ peer_found.stood.family
      one_family = same_Some primary_found.stood.family peer_found.stood.family (sym primary_found.family_is ∙ pipe_fits.family ∙ peer_found.family_is)

      there_at : channel_at seen at.number ≡ Some there_way
      there_at = channel_there at.number 0 there_way (sym (add-zero at.number)) (ap (λ l. slice_get l 0) two_ways)

      back_at : channel_at seen (at.number + 1) ≡ Some back_way
      back_at = channel_there (at.number + 1) 1 back_way refl (ap (λ l. slice_get l 1) two_ways)

      numbers_are : numbers_of number 0 (channels seen) ≡ pipe.out.number ∷ pipe.back.number ∷ []
      numbers_are =
          ap (λ i. numbers_of i 0 (channels seen)) (sym owner_here)
          ∙ at.belong 0
          ∙ pipe_numbers seen.tables at.owner (0 + at.place) at.parts.name (body_seen verdict at.parts.body) there_way back_way two_ways refl refl
          ∙ ap (λ k. k ∷ (k + 1) ∷ []) (sym at.number_is)
          ∙ ap (λ k. k ∷ (at.number + 1) ∷ []) (sym is.out.number)
          ∙ ap (λ k. pipe.out.number ∷ k ∷ []) (sym is.back.number)

      pipe_is : IsStandingPipe (lent_by verdict) (first_phase seen lines actors) (sent_by seen) standing.tables.items number pipe
      pipe_is = record {
        pipe = pipe_seen verdict p;
        stands = subst (StandsPipe (first_phase seen lines actors) number (pipe_seen verdict p)) (sym is.up) (well.pipes seen lines actors number (protocol_seen verdict at.parts) (pipe_seen verdict p) fits protocol_here pipe_here);
        primary_is = is.primary;
        peer_is = is.peer;
        belong = numbers_are;
        primary = primary_found.stood;
        primary_at = ap (slice_get standing.tables.items) is.primary ∙ primary_found.stood_is;
        peer = peer_found.stood;
        peer_at = ap (slice_get standing.tables.items) is.peer ∙ peer_found.stood_is;
        out = direction_stands at.number p.primary p.peer (codes ".export") p.export pipe.out primary_found.stood peer_found.stood is.out there_at primary_found.family_is one_family primary_found.empty peer_found.empty;
        back = direction_stands (at.number + 1) p.peer p.primary (codes ".import") p.import pipe.back peer_found.stood primary_found.stood is.back back_at peer_found.family_is (sym one_family) peer_found.empty primary_found.empty;
      }

    pub member_is : (b : BodyParts J) (m : StandingMember (Lent J)) → at.parts.body ≡ b → IsFirstProtocol verdict (map table_seen tables) passed at.owner at.number b m
        → IsStandingMember (lent_by verdict) (first_phase seen lines actors) (sent_by seen) standing.tables.items number m
    member_is (bodies.Source s) (members.Own own) body is = source_is own s body is
    member_is (bodies.Source s) (members.Pipe pipe) body is = absurd is
    member_is (bodies.Pipe p) (members.Own own) body is = absurd is
    member_is (bodies.Pipe p) (members.Pipe pipe) body is = pipe_is pipe p body is

  -- ---- all

  first_here : (number : ℕ) (held : StandingMember (Lent J)) → slice_get standing.members.items number ≡ Some held → IsFirstAt verdict (map table_seen tables) passed 0 0 number protocols held
  first_here number held e = first_at verdict (map table_seen tables) passed 0 0 protocols standing.members.items made.members_are number held e

  pub first_stands : (lines : List Line) (actors : ℕ) → Stands (lent_by verdict) (first_phase seen lines actors) (sent_by seen) standing
  first_stands lines actors = record {
    setup = fits;
    tables = record { count = table_count; each = table_stands };
    count = first_count verdict (map table_seen tables) passed 0 0 protocols standing.members.items made.members_are ∙ sym (length-map protocols (protocol_seen verdict));
    members = λ number held e.
        let at = first_here number held e in
        member_is lines actors number held at at.parts.body held refl at.begun;
  }

-- ---- nothing was sent

module _ {J : Type 0} (verdict : J → Net → Route → Verdict) where
  no_log : (held : Option (StandingChannel (Lent J))) (o : Option (ExportParts J)) (number : ℕ) (sent : StandingChannel (Lent J)) → held ≡ Some sent
      → AreFirstChannels verdict number o held → sent.exporter.log ≡ []
  no_log None o number sent e are = absurd (none-some sent e)
  no_log (Some x) None number sent e are = absurd are
  no_log (Some x) (Some exports) number sent e are =
      subst (λ (c : StandingChannel (Lent J)). c.exporter.log ≡ []) (same_Some x sent e) (ap (λ (s : State (Lent J)). s.log) are.exporter)

  module _ (tables : List TableParts) (passed : ℕ → List ℕ) where
    member_first : (owner number : ℕ) (b : BodyParts J) (m : StandingMember (Lent J)) → IsFirstProtocol verdict (map table_seen tables) passed owner number b m → IsFirstMember m
    member_first owner number (bodies.Source s) (members.Own own) is = λ channel e. no_log own.channel s.exports number channel e is.exports
    member_first owner number (bodies.Source s) (members.Pipe pipe) is = absurd is
    member_first owner number (bodies.Pipe p) (members.Own own) is = absurd is
    member_first owner number (bodies.Pipe p) (members.Pipe pipe) is = (
      ap (λ (s : State (Lent J)). s.log) is.out.exporter,
      ap (λ (s : State (Lent J)). s.log) is.back.exporter,
    )

    pub first_is : (protocols : List (ProtocolParts J)) (standing : Standing (Lent J)) → StandsFirst verdict tables passed protocols standing → IsFirst standing
    first_is protocols standing made = record {
      tables = λ t stood e. (one_here (λ number table stood. IsFirstTable table stood) tables standing.tables.items made.tables_are t stood e).2.before;
      members = λ i held e.
          let at = first_at verdict (map table_seen tables) passed 0 0 protocols standing.members.items made.members_are i held e in
          member_first at.owner at.number at.parts.body held at.begun;
    }
