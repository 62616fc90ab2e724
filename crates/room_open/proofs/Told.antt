-- The sources of a table's ports by what stands are those of what is played.
use Rattle.std.proofs.Common.{◌≡◌, ◌≢◌, ℕ, zero, suc, ◌+◌, ◌<◌, ◌≤◌, arith, inl, inr, Bool, true, false, List, [], ◌∷◌, ◌++◌, length, take, Option, Some, None, is_some, refl, sym, ap, subst, ◌∙◌, append-nil}
use Rattle.std.specs.Prelude.{◌==◌, ◌||◌, if◌then◌else◌, Contains, slice_get, slice_index_or}
use Rattle.std.proofs.lemmas.Bool.{false≢true}
use Rattle.std.proofs.lemmas.Bool.Decides.{eqb_tells}
use Rattle.std.proofs.lemmas.List.{map-append}
use Rattle.std.specs.declared.alloc.Global.{Global}
use Rattle.std.specs.declared.vec.Vec.{Vec}
use Rattle.attrs.proofs.Rows.{Contains-nothing}
use Rattle.attrs.specs.declared.attributes.Kind.{Kind}
use Rattle.attrs.specs.declared.attributes.Kind.TheVariants.{Bgp, Static}
use Rattle.attrs.specs.declared.judge.Verdict.{Verdict}
use Rattle.attrs.specs.declared.route.Route.{Route}
use Rattle.bits_ip.specs.Prefix.{Net}
use Rattle.bits_ip.specs.declared.address.Family.{Family}
use Rattle.core_setup.specs.Channels.{target_at}
use Rattle.core_setup.specs.Pairs.{Pairs}
use Rattle.core_setup.specs.Protocols.{exports_to, protocol_at, rules_of, sources, table_at, table_in}
use Rattle.core_setup.specs.Setup.{Exports, FitsBody, FitsSource, HasSession, IsSetup, Protocol, Setup, Source, family_at}
use Rattle.core_setup.proofs.Numbered.{channel_belongs, itself_is, listed_owner, none_some, protocol_is, some_same}
use Rattle.core_setup.proofs.PairLemmas.{length_front, pairs_all, take_one_more}
use Rattle.export_core.specs.Candidates.{among}
use Rattle.export_core.specs.declared.passing.ExportSpec.{ExportSpec}
use Rattle.import_lock.specs.Terms.{PhaseTerms}
use Rattle.phase_open.specs.Standing.{IsStandingProtocol}
use Rattle.phase_open.specs.declared.standing.StandingChannel.{StandingChannel}
use Rattle.phase_open.specs.declared.standing.StandingProtocol.{StandingProtocol}
use Rattle.phase_open.specs.declared.standing.StandingTable.{StandingTable}
use Rattle.phase_pipes.specs.Ports.{all_passed_on, passed_on, port_sources, ports_from}
use Rattle.phase_room.specs.Rooms.{TableTerms}
use Rattle.table_shared.specs.Opening.{lists_of}
use Rattle.room_open.specs.Sources.{ArePorts, lists_from, sources_in}
use Rattle.room_open.specs.Standing.{IsStandingDirection, IsStandingMember, IsStandingPipe, Stands}
use Rattle.room_open.specs.declared.standing.Standing.{Standing}
use Rattle.room_open.specs.declared.standing.StandingMember.{StandingMember}
use Rattle.room_open.specs.declared.standing.StandingMember.TheVariants.{Own, Pipe}
use Rattle.room_open.specs.declared.standing.StandingPipe.{StandingPipe}

-- ---- whose sources they are

-- each source is told by the protocol of its port
pub told_by : {J : Type 0} (table n : ℕ) (members : List (StandingMember J)) (port num : ℕ) → Contains (slice_index_or (lists_from table n members) port []) num
    → (held : StandingMember J) × (slice_get members port ≡ Some held) × Contains (sources_in table (port + n) held) num
told_by table n [] port num w = absurd (Contains-nothing num w)
told_by table n (m ∷ more) zero num w = (m, refl, subst (λ k. Contains (sources_in table k m) num) (let first : n ≡ zero + n = omega arith in first) w)
told_by table n (m ∷ more) (suc port) num w =
    let s = told_by table (n + 1) more port num w in
    (s.0, s.1, subst (λ k. Contains (sources_in table k s.0) num) (let next : port + (n + 1) ≡ suc port + n = omega arith in next) s.2)

lists_length : {J : Type 0} (table n : ℕ) (members : List (StandingMember J)) → length (lists_from table n members) ≡ length members
lists_length table n [] = refl
lists_length table n (m ∷ more) = ap suc (lists_length table (n + 1) more)

pub lists_many : {J : Type 0} (table : ℕ) (members : List (StandingMember J)) → length (lists_from table 0 members) ≡ length members
lists_many table members = lists_length table 0 members

-- ---- one list more

lists_push : {J : Type 0} (table n : ℕ) (members : List (StandingMember J)) (m : StandingMember J) → lists_from table n (members ++ m ∷ []) ≡ lists_from table n members ++ sources_in table (n + length members) m ∷ []
lists_push table n [] m = ap (λ k. sources_in table k m ∷ []) (let first : n ≡ n + 0 = omega arith in first)
lists_push table n (x ∷ more) m =
    ap (λ z. sources_in table n x ∷ z)
    (lists_push table (n + 1) more m ∙ ap (λ k. lists_from table (n + 1) more ++ sources_in table k m ∷ []) (let next : n + 1 + length more ≡ n + length (x ∷ more) = omega arith in next))

pub lists_turn : {J : Type 0} (table : ℕ) (members : List (StandingMember J)) (k : ℕ) (m : StandingMember J) (lists more : List (Vec ℕ Global)) (list : Vec ℕ Global) → slice_get members k ≡ Some m → more ≡ lists ++ list ∷ [] → list.items ≡ sources_in table k m → lists_of lists ≡ lists_from table 0 (take k members)
    → lists_of more ≡ lists_from table 0 (take (k + 1) members)
lists_turn table members k m lists more list at pushed is were =
    ap lists_of pushed
    ∙ map-append (λ (v : Vec ℕ Global). v.items) lists (list ∷ [])
    ∙ ap (λ z. z ++ list.items ∷ []) were
    ∙ ap (λ z. lists_from table 0 (take k members) ++ z ∷ []) (is ∙ ap (λ n. sources_in table n m) (sym (length_front members k m at)))
    ∙ sym (lists_push table 0 (take k members) m)
    ∙ ap (lists_from table 0) (sym (take_one_more members k m at))

-- ---- list by list

lists_are : {J : Type 0} (setup : Setup) (table n : ℕ) (members : List (StandingMember J)) (ps : List Protocol) → Pairs (λ k held p. sources_in table k held ≡ port_sources setup table k) n members ps → lists_from table n members ≡ ports_from setup table n ps
lists_are setup table n [] [] same = refl
lists_are setup table n [] (p ∷ ps) same = absurd same
lists_are setup table n (m ∷ more) [] same = absurd same
lists_are setup table n (m ∷ more) (p ∷ ps) same =
    ap (λ z. z ∷ lists_from table (n + 1) more) same.0 ∙ ap (λ z. port_sources setup table n ∷ z) (lists_are setup table (n + 1) more ps same.1)

later_too : (a b : Bool) → b ≡ true → (a || b) ≡ true
later_too true b e = refl
later_too false b e = e

apart_is : (a b : ℕ) → a ≢ b → (a == b) ≡ false
apart_is a b apart = elim (eqb_tells a b) [ inl w ↦ absurd (apart w.1) | inr w ↦ w.0 ]

no_target : (o : Option ℕ) → is_some o ≡ false → o ≡ None
no_target None e = refl
no_target (Some x) e = absurd (false≢true (sym e))

-- channels that write no table pass nothing on
none_passed : (setup : Setup) (table : ℕ) (cs : List ℕ) → ((c : ℕ) → among c cs ≡ true → (rules_of setup).target c ≡ None) → all_passed_on setup table cs ≡ []
none_passed setup table [] none = refl
none_passed setup table (c ∷ more) none =
    ap (λ o. passed_on setup table c o ++ all_passed_on setup table more) (none c (ap (λ b. b || among c more) (itself_is c)))
    ∙ none_passed setup table more (λ d listed. none d (later_too (c == d) (among d more) listed))

sends_best : (kind : Kind) (found : Option Family) (number : ℕ) (o : Option Exports) (exports : Exports) → HasSession kind found number o → o ≡ Some exports → exports.spec.every ≡ false
sends_best Static found number None exports has e = none_some e
sends_best Static found number (Some x) exports has e = absurd has
sends_best Bgp found number None exports has e = absurd has
sends_best Bgp found number (Some x) exports has e = ap (λ (y : Exports). y.spec.every) (sym (some_same e)) ∙ has.every

module _ {J : Type 0} (verdict : J → Net → Route → Verdict) (phase : PhaseTerms) (exports : ℕ → Exports) (is : IsSetup phase.setup) (stood : List StandingTable) (table : ℕ) where
  abbrev setup : Setup
  setup = phase.setup

  -- ---- a protocol with routes of its own

  module _ (number : ℕ) (held : StandingProtocol J) (held_is : IsStandingProtocol verdict phase exports stood number held) where
    abbrev source : Source
    source = held_is.source

    home_is : (rules_of setup).table number ≡ held.table
    home_is = ap (table_at (length setup.tables)) held_is.stands.protocol_is ∙ ap (table_in (length setup.tables)) held_is.stands.body ∙ sym held_is.table_is

    source_fits : FitsSource setup.tables number source
    source_fits = subst (FitsBody setup.tables number) held_is.stands.body (protocol_is setup number held_is.stands.protocol is held_is.stands.protocol_is)

    writes_none : (c : ℕ) → among c ((rules_of setup).belong number) ≡ true → (rules_of setup).target c ≡ None
    writes_none c listed =
        let at = listed_owner setup number c listed in
        let b = channel_belongs setup c at.0 is at.1 in
        let same : b.protocol ≡ held_is.stands.protocol = some_same (sym b.there ∙ ap (protocol_at setup) at.2 ∙ held_is.stands.protocol_is) in
        let sends = b.sends source (ap (λ (q : Protocol). q.body) same ∙ held_is.stands.body) in
        let best = sends_best source.spec.kind (family_at setup.tables source.table) number source.exports at.0.exports source_fits.session sends in
        ap target_at at.1 ∙ no_target at.0.target (sym b.every ∙ best)

    own_told : sources_in table number (Own held) ≡ port_sources setup table number
    own_told =
        sym (ap (λ t. if t == table then number ∷ [] else []) home_is)
        ∙ sym (append-nil (if (rules_of setup).table number == table then number ∷ [] else []))
        ∙ ap (λ z. (if (rules_of setup).table number == table then number ∷ [] else []) ++ z) (sym (none_passed setup table ((rules_of setup).belong number) writes_none))

  -- ---- a pipe

  sources_are : (number reads writes : ℕ) (read written : TableTerms) (held : StandingChannel J) → IsStandingDirection verdict phase exports number reads writes read written held → held.exporter.spec.sources ≡ sources setup held.number
  sources_are number reads writes read written held d =
      ap (λ (s : ExportSpec). s.sources) d.stands.spec ∙ ap (λ (e : Exports). e.spec.sources) d.exports_are ∙ ap (λ o. (exports_to o (sources setup held.number) d.of.channel.exports).spec.sources) d.of.writes_is

  target_is : (number reads writes : ℕ) (read written : TableTerms) (held : StandingChannel J) → IsStandingDirection verdict phase exports number reads writes read written held → (rules_of setup).target held.number ≡ Some writes
  target_is number reads writes read written held d = ap target_at d.of.channel_is ∙ d.of.writes_is

  passed_is : (number reads writes : ℕ) (read written : TableTerms) (held : StandingChannel J) → IsStandingDirection verdict phase exports number reads writes read written held
      → (if writes == table then held.exporter.spec.sources else []) ≡ passed_on setup table held.number ((rules_of setup).target held.number)
  passed_is number reads writes read written held d =
      ap (λ z. if writes == table then z else []) (sources_are number reads writes read written held d)
      ∙ ap (passed_on setup table held.number) (sym (target_is number reads writes read written held d))

  module _ (number : ℕ) (held : StandingPipe J) (held_is : IsStandingPipe verdict phase exports stood number held) (there : table < length setup.tables) where
    nowhere : ((rules_of setup).table number == table) ≡ false
    nowhere =
        let none : (rules_of setup).table number ≡ length setup.tables = ap (table_at (length setup.tables)) held_is.stands.protocol_is ∙ ap (table_in (length setup.tables)) held_is.stands.body in
        apart_is ((rules_of setup).table number) table (λ e. let bad : 1 ≤ 0 = omega (arith, none, e, there) in omega (arith, bad))

    abbrev out_list : List ℕ
    out_list = passed_on setup table held.out.number ((rules_of setup).target held.out.number)

    abbrev back_list : List ℕ
    back_list = passed_on setup table held.back.number ((rules_of setup).target held.back.number)

    pipe_told : sources_in table number (Pipe held) ≡ port_sources setup table number
    pipe_told =
        ap (λ t. (if t == table then held.out.exporter.spec.sources else []) ++ (if held.primary == table then held.back.exporter.spec.sources else [])) held_is.peer_is
        ∙ ap (λ t. (if held_is.pipe.peer == table then held.out.exporter.spec.sources else []) ++ (if t == table then held.back.exporter.spec.sources else [])) held_is.primary_is
        ∙ ap (λ z. z ++ (if held_is.pipe.primary == table then held.back.exporter.spec.sources else [])) (passed_is number held_is.pipe.primary held_is.pipe.peer _ _ held.out held_is.out)
        ∙ ap (λ z. out_list ++ z) (passed_is number held_is.pipe.peer held_is.pipe.primary _ _ held.back held_is.back)
        ∙ ap (λ z. out_list ++ z) (sym (append-nil back_list))
        ∙ sym (ap (all_passed_on setup table) held_is.belong)
        ∙ sym (ap (λ b. (if b then number ∷ [] else []) ++ all_passed_on setup table ((rules_of setup).belong number)) nowhere)

  -- ---- of either kind

  told_here : (number : ℕ) (held : StandingMember J) → IsStandingMember verdict phase exports stood number held → table < length setup.tables → sources_in table number held ≡ port_sources setup table number
  told_here number (Own held) held_is there = own_told number held held_is
  told_here number (Pipe held) held_is there = pipe_told number held held_is there

pub ports_are : {J : Type 0} (verdict : J → Net → Route → Verdict) (phase : PhaseTerms) (exports : ℕ → Exports) (standing : Standing J) → Stands verdict phase exports standing → ArePorts phase.setup standing.members.items
ports_are {J} verdict phase exports standing stands = record {
  count = stands.count;
  each = λ table there.
      lists_are phase.setup table 0 standing.members.items phase.setup.protocols
      (pairs_all (λ k (held : StandingMember J) (p : Protocol). sources_in table k held ≡ port_sources phase.setup table k) standing.members.items phase.setup.protocols stands.count
      (λ i held p at here. told_here verdict phase exports stands.setup standing.tables.items table i held (stands.members i held at) there));
}
