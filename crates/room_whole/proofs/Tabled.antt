-- What is known of each table of a phase that was played (`IsOfTable`), and whose changes it has.
use Rattle.std.proofs.Common.{◌≡◌, ℕ, ◌<◌, ◌≤◌, inl, inr, true, List, [], ◌∷◌, length, map, reverse, Option, Some, None, refl, sym, ap, subst, ◌∙◌, arith}
use Rattle.std.specs.Prelude.{◌==◌, Contains, slice_get}
use Rattle.std.proofs.lemmas.Bool.{eqb-true}
use Rattle.std.proofs.lemmas.Bool.Decides.{eqb_tells}
use Rattle.atomic_table.specs.Seated.{TableId}
use Rattle.bits_ip.specs.Prefix.{Net}
use Rattle.bits_ip.specs.declared.address.Family.{Family}
use Rattle.attrs.specs.History.{Content}
use Rattle.jour_rule.specs.declared.views.Terms.{Terms}
use Rattle.core_machine.specs.Histories.{content_of, own}
use Rattle.core_machine.specs.Pipes.{ends_with, passes, passes_to}
use Rattle.core_machine.proofs.Tables.{passed_way}
use Rattle.core_setup.specs.Protocols.{rules_of, table_at}
use Rattle.core_setup.specs.Setup.{Setup}
use Rattle.core_setup.proofs.Numbered.{beyond_none, itself_is, none_some, some_same}
use Rattle.core_setup.proofs.PairLemmas.{get_here, get_one, get_within}
use Rattle.export_lock.specs.Lanes.{AreLaneTerms, LaneTerms}
use Rattle.import_lock.specs.Terms.{PhaseTerms}
use Rattle.table_shared.specs.Opening.{TableOpening, sources_of}
use Rattle.table_shared.specs.Records.{AreRecords, at_first, change_of}
use Rattle.phase_legal.specs.Changes.{IsNobodys}
use Rattle.phase_legal.proofs.Made.{those_none}
use Rattle.phase_pipes.specs.Sessions.{IsDirectionIn, back_terms, out_terms}
use Rattle.phase_pipes.proofs.Sourcing.{passed_less}
use Rattle.phase_close.specs.Whole.{entries_in}
use Rattle.phase_ends.proofs.Leaving.{by_option}
use Rattle.phase_open.specs.Standing.{IsStandingTable}
use Rattle.phase_open.specs.declared.standing.StandingProtocol.{StandingProtocol}
use Rattle.phase_open.specs.declared.standing.StandingTable.{StandingTable}
use Rattle.pipe_lock.specs.Terms.{DirectionTerms, PipeTerms}
use Rattle.room_members.specs.Ports.{Writes}
use Rattle.room_members.specs.declared.member.Member.{Member}
use Rattle.room_members.specs.declared.member.Member.TheVariants as members
use Rattle.room_open.specs.Opening.{IsOpenTable}
use Rattle.room_open.specs.declared.standing.StandingMember.{StandingMember}
use Rattle.room_open.specs.declared.standing.StandingMember.TheVariants as standing
use Rattle.room_open.specs.declared.standing.StandingPipe.{StandingPipe}
use Rattle.room_close.proofs.Recorded.{has_records, says_none}
use Rattle.room_whole.proofs.Given.{Given, entries_of, key_of, lists_of, phase_of, pipe_of, rules_in, said_of, setup_of}
use Rattle.room_whole.proofs.Protocolled.{IsOfPipe, IsOfProtocol, known, known_pipe}
use Rattle.room_whole.proofs.TablesAfter.{began, history_content, history_length, start_is}

module _ {J P : Type 0} (g : Given J P) where
  pub record IsOfTable (t : ℕ) (here : TableId × Terms TableOpening) : Type 0 where
    pub table : List ℕ × Family
    pub table_at : slice_get (setup_of g).tables t ≡ Some table
    pub stood : StandingTable
    pub stood_at : slice_get g.old.tables.items t ≡ Some stood
    pub standing : IsStandingTable table stood
    pub begins : IsOpenTable (phase_of g) t stood here
    pub records : AreRecords here.1.opening (at_first here.1.opening) (entries_of g t) (said_of g t)

  pub known_table : (t : ℕ) (here : TableId × Terms TableOpening) → slice_get g.opening.room.tables.items t ≡ Some here → IsOfTable t here
  known_table t here at =
      let inside = get_within g.opening.room.tables.items t here at in
      let rooms = g.opens.tables_count in
      let named = g.stands.tables.count in
      let stood = get_here g.old.tables.items t (omega (arith, inside, rooms)) in
      let table = get_here (setup_of g).tables t (omega (arith, inside, rooms, named)) in
      record {
        table = table.0;
        table_at = table.1;
        stood = stood.0;
        stood_at = stood.1;
        standing = g.stands.tables.each t table.0 stood.0 table.1 stood.1;
        begins = g.opens.tables_are t stood.0 here stood.1 at;
        records = has_records g.verdict g.opening.room.tables.items g.played.synced.lefts g.played.passes g.made.ended g.played.synced.over t here at;
      }

  pub said_none : (t : ℕ) → slice_get g.opening.room.tables.items t ≡ None → said_of g t ≡ []
  said_none t none = says_none g.verdict g.opening.room.tables.items g.played.synced.lefts g.played.passes g.made.ended g.played.synced.over t none

  pub entries_none : (t : ℕ) → slice_get g.opening.room.tables.items t ≡ None → entries_of g t ≡ []
  entries_none t none =
      by_option (slice_get (lists_of g) t) (entries_of g t ≡ [])
      (λ l at.
      let inside = get_within (lists_of g) t l at in
      let many = g.played.synced.over.tables_are.count in
      let here = get_here g.opening.room.tables.items t (omega (arith, inside, many)) in
      none_some (sym none ∙ here.1))
      (λ e. ap entries_in e)

  -- a table of the number that none has
  pub no_table : slice_get g.opening.room.tables.items (length (setup_of g).tables) ≡ None
  no_table =
      let rooms = g.opens.tables_count in
      let named = g.stands.tables.count in
      beyond_none g.opening.room.tables.items (length (setup_of g).tables) (omega (arith, rooms, named))

  module _ (t : ℕ) (here : TableId × Terms TableOpening) (of : IsOfTable t here) where
    pub history_is : g.past.history t ≡ reverse (map change_of of.stood.before.items)
    history_is = g.was.history t of.stood of.stood_at

    pub table_starts : here.1.start ≡ length (g.past.history t)
    table_starts = start_is (setup_of g) t of.stood here of.begins of.standing.begun ∙ sym (history_length of.stood.before.items) ∙ ap length (sym history_is)

    pub table_opening : (net : Net) (num : ℕ) → at_first here.1.opening net num ≡ content_of (g.past.history t) net num
    table_opening net num =
        ap (λ (c : Content). c net num) (began (setup_of g) t of.stood here of.begins of.standing.begun ∙ sym (history_content of.stood.before.items) ∙ ap content_of (sym history_is))

  -- ---- a source of a port of a table comes to the table

  module _ (t i : ℕ) (none : (rules_in g).hops t i ≡ None) where
    -- what is passed to the table comes there
    not_passed : (d num : ℕ) → (rules_in g).target d ≡ Some t → passes (rules_in g) d num ≡ true → num ≡ i → ⊥
    not_passed d num target goes same =
        let way = passed_way (rules_in g) d num (Some t) target goes in
        none_some (sym none ∙ ap ((rules_in g).hops t) (sym same) ∙ ap (λ n. (rules_in g).hops n num) (some_same way.2) ∙ way.3)

    module _ (here : TableId × Terms TableOpening) (at : slice_get g.opening.room.tables.items t ≡ Some here) (port num : ℕ) (w : Contains (sources_of here.1.opening port) num) where
      own_port : (held : StandingProtocol J) (f : IsOfProtocol g port held) → Writes g.terms g.exports g.rules (members.Own f.session) t port → num ≡ i → ⊥
      own_port held f writes same =
          let key = key_of g f.session in
          let table : key.port ≡ here = get_one g.opening.room.tables.items t key.port here (ap (slice_get g.opening.room.tables.items) (sym writes.0) ∙ f.is.table) at in
          let mine : (num == key.number) ≡ true = f.done.imports.terms.alone.mine num (subst (λ (z : TableOpening × ℕ). Contains (sources_of z.0 z.1) num) (λ j. ((sym table j).1.opening, sym writes.1 j)) w) in
          let number : num ≡ port = eqb-true num key.number mine ∙ f.is.number_is in
          let home : (rules_in g).table port ≡ t = f.is.home_is ∙ writes.0 in
          none_some (sym none ∙ (λ j. (rules_in g).hops (sym home j) ((sym same ∙ number) j)) ∙ g.ruled.ways.home port)

      lane_port : (key : PipeTerms) → key.phase.setup ≡ setup_of g → (reads : ℕ) (door : DirectionTerms) (lane : LaneTerms) → IsDirectionIn key g.opening.room.tables.items reads t door lane → AreLaneTerms lane → lane.port_number ≡ port → num ≡ i → ⊥
      lane_port key setup reads door lane d terms number same =
          let table : lane.target ≡ here = get_one g.opening.room.tables.items t lane.target here d.written at in
          let goes : passes lane.rules lane.number num ≡ true = terms.alone.mine num (subst (λ (z : TableOpening × ℕ). Contains (sources_of z.0 z.1) num) (λ j. ((sym table j).1.opening, sym number j)) w) in
          not_passed door.number num (ap (λ (z : Setup). (rules_of z).target door.number) (sym setup) ∙ d.writes_is) (sym (λ j. passes ((d.rules_are ∙ ap rules_of setup) j) (d.number_is j) num) ∙ goes) same

      pipe_port : (held : StandingPipe J) (f : IsOfPipe g port held) → Writes g.terms g.exports g.rules (members.Pipe f.session) t port → num ≡ i → ⊥
      pipe_port held f writes same = elim writes [
        | inl out ↦
            lane_port (pipe_of g f.session) (ap (λ (z : PhaseTerms). z.setup) f.is.phase_is) f.session.primary (pipe_of g f.session).out (out_terms g.exports g.rules f.session)
            (subst (λ n. IsDirectionIn (pipe_of g f.session) g.opening.room.tables.items f.session.primary n (pipe_of g f.session).out (out_terms g.exports g.rules f.session)) out.0 f.is.out_is) f.done.out.left.lane_is.1.terms out.1 same
        | inr back ↦
            lane_port (pipe_of g f.session) (ap (λ (z : PhaseTerms). z.setup) f.is.phase_is) f.session.peer (pipe_of g f.session).back (back_terms g.exports g.rules f.session)
            (subst (λ n. IsDirectionIn (pipe_of g f.session) g.opening.room.tables.items f.session.peer n (pipe_of g f.session).back (back_terms g.exports g.rules f.session)) back.0 f.is.back_is) f.done.back.left.lane_is.1.terms back.1 same
      ]

      any_port : (held : StandingMember J) → slice_get g.old.members.items port ≡ Some held → (member : Member J P) → slice_get g.opening.room.members.items port ≡ Some member → Writes g.terms g.exports g.rules member t port → num ≡ i → ⊥
      any_port (standing.Own held) held_at member member_at writes =
          let f = known g port held held_at in
          own_port held f (subst (λ (m : Member J P). Writes g.terms g.exports g.rules m t port) (get_one g.opening.room.members.items port member (members.Own f.session) member_at f.session_at) writes)
      any_port (standing.Pipe held) held_at member member_at writes =
          let f = known_pipe g port held held_at in
          pipe_port held f (subst (λ (m : Member J P). Writes g.terms g.exports g.rules m t port) (get_one g.opening.room.members.items port member (members.Pipe f.session) member_at f.session_at) writes)

      not_there : num ≡ i → ⊥
      not_there =
          let wrote = g.opens.ports.each t here at port num w in
          let inside = get_within g.opening.room.members.items port wrote.0 wrote.1 in
          let many = g.opens.members_count in
          let held = get_here g.old.members.items port (omega (arith, inside, many)) in
          any_port held.0 held.1 wrote.0 wrote.1 wrote.2

    nobodys : (here : TableId × Terms TableOpening) → slice_get g.opening.room.tables.items t ≡ Some here → IsNobodys (λ num. num == i) here.1.opening
    nobodys here at port num w = elim (eqb_tells num i) [
      | inl same ↦ absurd (not_there here at port num w same.1)
      | inr other ↦ other.0
    ]

    -- a table has no change of a source that doesn't come there
    pub no_strangers : own i (reverse (map change_of (said_of g t))) ≡ []
    no_strangers =
        by_option (slice_get g.opening.room.tables.items t) (own i (reverse (map change_of (said_of g t))) ≡ [])
        (λ here at.
        let of = known_table t here at in
        those_none (λ num. num == i) here.1.opening (nobodys here at) (at_first here.1.opening) (entries_of g t) (said_of g t) of.records)
        (λ absent. ap (λ l. own i (reverse (map change_of l))) (said_none t absent))

  -- ---- a protocol that isn't there comes to no table

  module _ (t num : ℕ) (inside : t < length (setup_of g).tables) (far : length (setup_of g).protocols ≤ num) where
    nowhere : (way : Option (List ℕ)) → (rules_in g).hops t num ≡ way → (rules_in g).hops t num ≡ None
    nowhere None e = e
    nowhere (Some []) e =
        let home : (rules_in g).table num ≡ length (setup_of g).tables = ap (table_at (length (setup_of g).tables)) (beyond_none (setup_of g).protocols num far) in
        let here = g.ruled.ways.only_home t num e in
        absurd (omega (arith, home, here, inside))
    nowhere (Some (d ∷ ds)) e =
        let writes = (g.ruled.ways.chain t num d ds e).0 in
        let goes : passes (rules_in g) d num ≡ true = ap (passes_to (rules_in g) d num) writes ∙ ap (ends_with d) e ∙ itself_is d in
        let near = passed_less (setup_of g) g.stands.setup g.ruled d t writes num goes in
        absurd (omega (arith, near, far))

    pub no_way : (rules_in g).hops t num ≡ None
    no_way = nowhere ((rules_in g).hops t num) refl
