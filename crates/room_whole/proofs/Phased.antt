-- What is known of each table of a phase that was played, with all that it has come to
-- (`IsPhased`), and what is printed of it.
use Rattle.std.proofs.Common.{◌≡◌, ℕ, length, map, reverse, Option, Some, refl, ap, subst, arith}
use Rattle.std.specs.Prelude.{slice_get}
use Rattle.atomic_table.specs.Seated.{TableId}
use Rattle.jour_rule.specs.declared.views.Terms.{Terms}
use Rattle.core_setup.proofs.PairLemmas.{get_here, get_within}
use Rattle.table_shared.specs.Opening.{TableOpening}
use Rattle.table_shared.specs.Phases.{IsPhase}
use Rattle.table_shared.specs.Records.{change_of}
use Rattle.table_shared.specs.declared.close.Phase.{Phase}
use Rattle.phase_close.specs.Closed.{TableList}
use Rattle.phase_close.specs.Whole.{said_in}
use Rattle.room_ends.specs.Prints.{PrintsTable}
use Rattle.room_whole.proofs.Chosen.{printed}
use Rattle.room_whole.proofs.Given.{Given, lines_of, lists_of, setup_of}
use Rattle.room_whole.proofs.Over.{phases_made}
use Rattle.room_whole.proofs.Tabled.{IsOfTable, history_is, known_table}
use Rattle.room_whole.proofs.TablesAfter.{prints_table}

module _ {J P : Type 0} (g : Given J P) where
  pub many_phases : length g.made.ended.phases.items ≡ length g.old.tables.items
  many_phases = phases_made g.verdict g.terms g.exports g.rules g.opening.room.played.value g.old g.opening g.starts g.made g.opens g.played

  pub entries_printed : (t : ℕ) (phase : Phase) → slice_get g.made.ended.phases.items t ≡ Some phase → (printed g).entries t ≡ reverse (map change_of phase.entries)
  entries_printed t phase at = ap (λ (o : Option Phase). reverse (map change_of (said_in o))) at

  pub record IsPhased (t : ℕ) (phase : Phase) : Type 0 where
    pub here : TableId × Terms TableOpening
    pub here_at : slice_get g.opening.room.tables.items t ≡ Some here
    pub of : IsOfTable g t here
    pub list : TableList
    pub list_at : slice_get (lists_of g) t ≡ Some list
    pub list_here : list.0 ≡ here
    pub is_phase : IsPhase here.1 list.1 phase

  pub phased : (t : ℕ) (phase : Phase) → slice_get g.made.ended.phases.items t ≡ Some phase → IsPhased t phase
  phased t phase at =
      let over = g.played.synced.over in
      let inside = get_within g.made.ended.phases.items t phase at in
      let all = over.phases.count in
      let many = over.tables_are.count in
      let l = get_here over.lists t (omega (arith, inside, all)) in
      let here = get_here g.opening.room.tables.items t (omega (arith, inside, all, many)) in
      let same : l.0.0 ≡ here.0 = over.tables_are.each t here.0 l.0 here.1 l.1 in
      record {
        here = here.0;
        here_at = here.1;
        of = known_table g t here.0 here.1;
        list = l.0;
        list_at = l.1;
        list_here = same;
        is_phase = subst (λ (j : TableId × Terms TableOpening). IsPhase j.1 l.0.1 phase) same (over.phases.each t l.0 phase l.1 at);
      }

  pub table_printed : (t : ℕ) (phase : Phase) → slice_get g.made.ended.phases.items t ≡ Some phase → PrintsTable (setup_of g) (lines_of g) g.past (printed g) t phase
  table_printed t phase at =
      let k = phased t phase at in
      prints_table (setup_of g) t k.of.stood k.here k.of.begins k.of.standing.begun k.list.1 phase k.is_phase g.past (printed g) (history_is g t k.here k.of) (entries_printed t phase at) (lines_of g) (λ net num. refl)
