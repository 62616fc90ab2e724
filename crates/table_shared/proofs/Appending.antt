-- One entry more: what the desk keeps, and what the port is told.
use Rattle.std.proofs.Common.{◌≡◌, ◌<◌, ◌^◌, ℕ, List, [], ◌∷◌, ◌++◌, map, Option, sym, ap, ◌∙◌, subst}
use Rattle.std.specs.Prelude.{Contains, IfSome}
use Rattle.std.proofs.lemmas.List.{map-append}
use Rattle.atomic_table.specs.Seated.{TableId}
use Rattle.bits_ip.specs.Address.{family_of}
use Rattle.bits_ip.specs.Prefix.{Net}
use Rattle.attrs.specs.History.{Content, after}
use Rattle.attrs.specs.Table.{AreRows, IsBestOf, route_in}
use Rattle.attrs.specs.declared.journal.JEntry.{JEntry}
use Rattle.attrs.specs.declared.route.Change.{Change}
use Rattle.attrs.specs.declared.route.Route.{Route}
use Rattle.jour_rule.specs.declared.views.Entry.{Entry}
use Rattle.jour_rule.specs.declared.views.Terms.{Terms}
use Rattle.jour_rule.specs.Moves.{entry}
use Rattle.jour.specs.Seats.{front, head_of, journal}
use Rattle.rec_words.specs.Entries.{Spells}
use Rattle.table_shared.specs.declared.desk.Desk.{Desk}
use Rattle.table_shared.specs.Opening.{TableOpening, sources_of}
use Rattle.table_shared.specs.Records.{AreRecords, InContent, IsLawful, IsRecord, at_first, content_after}
use Rattle.table_shared.specs.Answers.{Differs, with_best}
use Rattle.table_shared.specs.Kept.{IsKept}
use Rattle.table_shared.proofs.Families.{family_after}
use Rattle.table_shared.proofs.Records.{content_more, records_more}
use Rattle.table_shared.proofs.Keeping.{rows_are}

module _ (here : TableId × Terms TableOpening) (old : Desk) (k : ℕ) (words : List ℕ) (best : Option Route) (change : Change) (kept : IsKept here old) where
  abbrev opening : TableOpening
  opening = here.1.opening

  -- what holds of a change whose entry may join the list
  pub record MayJoin : Type 0 where
    pub spelled : Spells (with_best best change) words
    pub source : Contains (sources_of opening k) change.num
    pub family : family_of change.net.addr ≡ opening.family
    pub route : IfSome change.new (λ route. route.src.num ≡ change.num)
    pub real : Differs change (route_in old.rib.rows)
    pub best_is : IsBestOf (after (route_in old.rib.rows) (change ∷ [])) change.net best

  pub is_record : MayJoin → IsRecord opening (content_after opening old.records.items) (entry k words) (with_best best change)
  is_record may =
      let content : route_in old.rib.rows ≡ content_after opening old.records.items = rows_are here old kept in
      record {
        words = may.spelled;
        source = may.source;
        family = may.family;
        route = may.route;
        real = subst (λ (c : Content). Differs change c) content may.real;
        best = subst (λ (c : Content). IsBestOf (after c (change ∷ [])) change.net best) content may.best_is;
      }

  pub records_join : MayJoin → AreRecords opening (at_first opening) (front old.writer.1 ++ entry k words ∷ []) (old.records.items ++ with_best best change ∷ [])
  records_join may = records_more opening (at_first opening) (front old.writer.1) old.records.items (entry k words) (with_best best change) kept.records (is_record may)

  -- the writer may append the entry
  pub lawful_join : MayJoin → IsLawful opening (front old.writer.1 ++ entry k words ∷ [])
  lawful_join may = (old.records.items ++ with_best best change ∷ [], records_join may)

  pub kept_join :
      (new : Desk) → MayJoin → journal new.writer ≡ journal old.writer → front new.writer.1 ≡ front old.writer.1 ++ entry k words ∷ [] → head_of new.writer.1 < 2 ^ 63
      → AreRows new.rib.rows → ((net : Net) (num : ℕ) → route_in new.rib.rows net num ≡ after (route_in old.rib.rows) (change ∷ []) net num) → new.rib.family ≡ old.rib.family
      → new.start ≡ old.start → new.records.items ≡ old.records.items ++ with_best best change ∷ [] → new.ports.items ≡ old.ports.items ++ k ∷ [] → IsKept here new
  kept_join new may named list end are routes family start records ports =
      let content : after (route_in old.rib.rows) (change ∷ []) ≡ content_after opening new.records.items =
      ap (λ (c : Content). after c (change ∷ [])) (rows_are here old kept) ∙ sym (content_more opening old.records.items (with_best best change)) ∙ ap (content_after opening) (sym records) in
      record {
        journal = named ∙ kept.journal;
        start = start ∙ kept.start;
        records = subst (λ (z : List Entry × List JEntry). AreRecords opening (at_first opening) z.0 z.1) (λ i. (sym list i, sym records i)) (records_join may);
        ports = ports ∙ ap (λ l. l ++ k ∷ []) kept.ports ∙ sym (map-append (λ (e : Entry). e.maker) (front old.writer.1) (entry k words ∷ [])) ∙ ap (map (λ (e : Entry). e.maker)) (sym list);
        rows = record { rows_are = are; routes_are = λ net num. routes net num ∙ (λ i. content i net num) };
        family = family ∙ kept.family;
        nets = family_after opening.family old.rib.rows new.rib.rows change kept.nets are may.family routes;
        end = end;
      }

  -- where the change was real, and what is best behind it
  pub content_at : MayJoin → InContent opening (front old.writer.1) (λ content. Differs change content × IsBestOf (after content (change ∷ [])) change.net best)
  content_at may = let said = is_record may in (old.records.items, kept.records, (said.real, said.best))
