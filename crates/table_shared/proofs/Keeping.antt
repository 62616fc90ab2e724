-- What a desk keeps, from call to call, and what a seat has seen that was told.
use Rattle.std.proofs.Common.{◌≡◌, ◌<◌, ◌^◌, ℕ, List, map, length, ◌+◌, sym, ap, ◌∙◌, subst, arith}
use Rattle.atomic_table.specs.Seated.{TableId}
use Rattle.attrs.specs.History.{Content}
use Rattle.attrs.specs.Table.{Shows, route_in}
use Rattle.attrs.specs.declared.journal.JEntry.{JEntry}
use Rattle.attrs.specs.declared.route.Row.{Row}
use Rattle.jour_rule.specs.declared.views.Entry.{Entry}
use Rattle.jour_rule.specs.declared.views.Terms.{Terms}
use Rattle.jour_rule.specs.declared.views.View.{View as Seat}
use Rattle.jour.specs.Seats.{front, journal}
use Rattle.table_shared.specs.declared.desk.Desk.{Desk}
use Rattle.table_shared.specs.Opening.{TableOpening}
use Rattle.table_shared.specs.Records.{AreRecords, InContent, at_first, content_after}
use Rattle.table_shared.specs.Answers.{InSeen}
use Rattle.rib.specs.Rib.{AreOfFamily, Table}
use Rattle.table_shared.specs.declared.close.Phase.{Phase}
use Rattle.table_shared.specs.Kept.{IsKept}
use Rattle.table_shared.specs.Phases.{IsPhase}
use Rattle.table_shared.proofs.Records.{as_many, shown}

-- the same desk still, with a writer of the same list
pub still :
    (here : TableId × Terms TableOpening) (old new : Desk) → IsKept here old → journal new.writer ≡ journal old.writer → front new.writer.1 ≡ front old.writer.1
    → new.rib.rows ≡ old.rib.rows → new.rib.family ≡ old.rib.family → new.start ≡ old.start → new.records.items ≡ old.records.items → new.ports.items ≡ old.ports.items
    → IsKept here new
still here old new kept named list rows family start records ports = record {
  journal = named ∙ kept.journal;
  start = start ∙ kept.start;
  records = subst (λ (z : List Entry × List JEntry). AreRecords here.1.opening (at_first here.1.opening) z.0 z.1) (λ i. (sym list i, sym records i)) kept.records;
  ports = ports ∙ kept.ports ∙ ap (map (λ entry. entry.maker)) (sym list);
  rows = subst (λ (z : List Row × List JEntry). Shows z.0 (content_after here.1.opening z.1)) (λ i. (sym rows i, sym records i)) kept.rows;
  family = family ∙ kept.family;
  nets = subst (AreOfFamily here.1.opening.family) (sym rows) kept.nets;
  end = subst (λ (n : ℕ). n < 2 ^ 63) (λ i. (sym named i).1.start + length (sym list i)) kept.end;
}

-- a seat that has seen the whole list has seen what the desk's records leave
pub in_seen :
    (here : TableId × Terms TableOpening) (desk : Desk) (seat : Seat TableOpening) (P : Content → Type 0) → IsKept here desk → seat.seen.terms ≡ here.1
    → front seat ≡ front desk.writer.1 → P (content_after here.1.opening desk.records.items) → InSeen seat P
in_seen here desk seat P kept terms list p =
    subst (λ (z : Terms TableOpening × List Entry). InContent z.0.opening z.1 P) (λ i. (sym terms i, sym list i)) (desk.records.items, kept.records, p)

-- what the rows show is the content behind the records
pub rows_are : (here : TableId × Terms TableOpening) (desk : Desk) → IsKept here desk → route_in desk.rib.rows ≡ content_after here.1.opening desk.records.items
rows_are here desk kept = shown desk.rib.rows (content_after here.1.opening desk.records.items) kept.rows

-- a seat that has seen the whole list has seen what the rows have
pub in_rows :
    (here : TableId × Terms TableOpening) (desk : Desk) (seat : Seat TableOpening) (P : Content → Type 0) → IsKept here desk → seat.seen.terms ≡ here.1
    → front seat ≡ front desk.writer.1 → P (route_in desk.rib.rows) → InSeen seat P
in_rows here desk seat P kept terms list p = in_seen here desk seat P kept terms list (subst P (rows_are here desk kept) p)

-- what the desk keeps is the phase
pub phase_is :
    (desk : Desk) (made : Phase) → IsKept (journal desk.writer) desk → made.from ≡ desk.start → made.entries ≡ desk.records.items → made.ports ≡ desk.ports.items → made.rib ≡ desk.rib
    → IsPhase desk.writer.1.seen.terms (front desk.writer.1) made
phase_is desk made kept from entries ports rib =
    let opening = desk.writer.1.seen.terms.opening in
    let start : made.from ≡ desk.writer.1.seen.terms.start = from ∙ kept.start in
    let many : length (front desk.writer.1) ≡ length desk.records.items = as_many opening (at_first opening) (front desk.writer.1) desk.records.items kept.records in
    let said : length made.entries ≡ length desk.records.items = ap length entries in
    let end = kept.end in
    record {
      start = start;
      records = subst (λ (l : List JEntry). AreRecords opening (at_first opening) (front desk.writer.1) l) (sym entries) kept.records;
      makers = ports ∙ kept.ports;
      shows = subst (λ (z : Table × List JEntry). Shows z.0.rows (content_after opening z.1)) (λ i. (sym rib i, sym entries i)) kept.rows;
      family = ap (λ (r : Table). r.family) rib ∙ kept.family;
      nets = subst (λ (r : Table). AreOfFamily opening.family r.rows) (sym rib) kept.nets;
      end = omega arith;
    }
