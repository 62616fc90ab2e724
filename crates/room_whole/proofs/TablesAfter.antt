-- What stands in a table behind a phase, and what is printed of it.
use Rattle.std.proofs.Common.{◌≡◌, ℕ, ◌+◌, List, [], ◌∷◌, ◌++◌, length, map, reverse, sym, ap, subst, ◌∙◌, arith, length-append}
use Rattle.std.proofs.lemmas.List.{length-map, length-reverse, map-append, reverse-append, reverse-reverse}
use Rattle.atomic_table.specs.Seated.{TableId}
use Rattle.attrs.specs.History.{Content, after, empty}
use Rattle.attrs.specs.Table.{AreRows, Shows, route_in}
use Rattle.attrs.specs.declared.journal.JEntry.{JEntry}
use Rattle.bits_ip.specs.Prefix.{Net}
use Rattle.bits_ip.specs.declared.address.Family.{Family}
use Rattle.export_core.specs.Histories.{TellsBest}
use Rattle.jour_rule.specs.declared.views.Entry.{Entry}
use Rattle.jour_rule.specs.declared.views.Terms.{Terms}
use Rattle.rib.specs.Rib.{AreOfFamily, Table}
use Rattle.core_machine.specs.Histories.{content_of}
use Rattle.core_machine.specs.Legal.{Joined, Printed, join}
use Rattle.core_machine.specs.Lines.{Line}
use Rattle.core_setup.specs.Setup.{Setup}
use Rattle.table_shared.specs.Opening.{TableOpening}
use Rattle.table_shared.specs.Phases.{IsPhase}
use Rattle.table_shared.specs.Records.{AreRecords, at_first, change_of, content_after}
use Rattle.table_shared.specs.declared.close.Phase.{Phase}
use Rattle.table_shared.proofs.Records.{after_both, as_many}
use Rattle.export_lock.proofs.Told.{AllTell, tells_on}
use Rattle.phase_pipes.specs.Ports.{IsJoined}
use Rattle.phase_room.specs.Stands.{StandsTable}
use Rattle.phase_open.specs.Standing.{IsStandingTable, table_stood}
use Rattle.phase_open.specs.declared.standing.StandingTable.{StandingTable}
use Rattle.room_ends.specs.After.{IsTableAfter}
use Rattle.room_ends.specs.Prints.{PrintsTable}

all_tell : (opening : TableOpening) (content : Content) (es : List Entry) (said : List JEntry) → AreRecords opening content es said → AllTell content said
all_tell opening content [] [] are = tt
all_tell opening content [] (s ∷ said) are = absurd are
all_tell opening content (e ∷ es) [] are = tt
all_tell opening content (e ∷ es) (s ∷ said) are = (are.0.best, all_tell opening (after content (change_of s ∷ [])) es said are.1)

-- what two lists of entries leave, one behind the other
content_next : (before said : List JEntry) → after empty (map change_of (before ++ said)) ≡ after (after empty (map change_of before)) (map change_of said)
content_next before said = ap (after empty) (map-append change_of before said) ∙ after_both empty (map change_of before) (map change_of said)

-- entries as a history, which is read backwards
pub history_next : (before said : List JEntry) → reverse (map change_of (before ++ said)) ≡ reverse (map change_of said) ++ reverse (map change_of before)
history_next before said = ap reverse (map-append change_of before said) ∙ reverse-append (map change_of before) (map change_of said)

pub history_content : (entries : List JEntry) → content_of (reverse (map change_of entries)) ≡ after empty (map change_of entries)
history_content entries = ap (after empty) (reverse-reverse (map change_of entries))

pub history_length : (entries : List JEntry) → length (reverse (map change_of entries)) ≡ length entries
history_length entries = length-reverse (map change_of entries) ∙ length-map entries change_of

module _ (setup : Setup) (number : ℕ) (old : StandingTable) (here : TableId × Terms TableOpening) (begins : IsJoined setup number (table_stood old) here.1) (stood : StandsTable (table_stood old)) where
  pub family_is : here.1.opening.family ≡ old.family
  family_is = ap (λ (z : Terms TableOpening). z.opening.family) begins.terms_are

  pub start_is : here.1.start ≡ length old.before.items
  start_is = ap (λ (z : Terms TableOpening). z.start) begins.terms_are

  -- the table begins with what its entries so far leave
  pub began : at_first here.1.opening ≡ after empty (map change_of old.before.items)
  began =
      let rows : route_in old.rows.rows ≡ after empty (map change_of old.before.items) = λ i net num. stood.rows net num i in
      ap (λ (z : Terms TableOpening). at_first z.opening) begins.terms_are ∙ rows

  pub tells_all : (es : List Entry) (said : List JEntry) → AreRecords here.1.opening (at_first here.1.opening) es said → TellsBest (old.before.items ++ said)
  tells_all es said are = tells_on old.before.items said (at_first here.1.opening) began stood.told (all_tell here.1.opening (at_first here.1.opening) es said are)

  -- what stands behind records of the phase is what all entries leave
  pub content_is : (said : List JEntry) → content_after here.1.opening said ≡ after empty (map change_of (old.before.items ++ said))
  content_is said = ap (λ (c : Content). after c (map change_of said)) began ∙ sym (content_next old.before.items said)

  module _ (list : List Entry) (phase : Phase) (is : IsPhase here.1 list phase) where
    abbrev all : List JEntry
    all = old.before.items ++ phase.entries

    shows_all : Shows phase.rib.rows (after empty (map change_of all))
    shows_all = subst (Shows phase.rib.rows) (content_is phase.entries) is.shows

    -- the position of the table's last entry
    pub end_is : here.1.start + length list ≡ length all
    end_is =
        let count = as_many here.1.opening (at_first here.1.opening) list phase.entries is.records in
        let both = length-append old.before.items phase.entries in
        let start = start_is in
        omega (arith, count, both, start)

    pub table_stands : (table : List ℕ × Family) (new : StandingTable) → IsStandingTable table old → IsTableAfter old phase new → IsStandingTable table new
    table_stands table new was next = record {
      family = next.family ∙ was.family;
      kept = ap (λ (r : Table). r.family) next.rows ∙ is.family ∙ family_is ∙ sym next.family;
      rows = subst (λ (r : Table). AreRows r.rows) (sym next.rows) is.shows.rows_are;
      nets = subst (λ (z : Family × Table). AreOfFamily z.0 z.1.rows) (λ i. ((family_is ∙ sym next.family) i, sym next.rows i)) is.nets;
      begun = record {
        told = subst TellsBest (sym next.before) (tells_all list phase.entries is.records);
        rows = λ net num. ap (λ (r : Table). route_in r.rows net num) next.rows ∙ shows_all.routes_are net num ∙ ap (λ (es : List JEntry). after empty (map change_of es) net num) (sym next.before);
      };
    }

    module _ (past : Joined) (p : Printed) (before : past.history number ≡ reverse (map change_of old.before.items)) (printed : p.entries number ≡ reverse (map change_of phase.entries)) where
      pub history_after : (join past p).history number ≡ reverse (map change_of all)
      history_after = (λ i. printed i ++ before i) ∙ sym (history_next old.before.items phase.entries)

      pub prints_table : (lines : List Line) → ((net : Net) (num : ℕ) → p.shown.rows number net num ≡ content_of ((join past p).history number) net num) → PrintsTable setup lines past p number phase
      prints_table lines shown =
          let content : p.shown.rows number ≡ after empty (map change_of all) = (λ i net num. shown net num i) ∙ ap content_of history_after ∙ history_content all in
          record {
            from_is = is.start ∙ start_is ∙ sym (ap length before ∙ history_length old.before.items);
            entries = printed;
            rows = subst (Shows phase.rib.rows) (sym content) shows_all;
          }
