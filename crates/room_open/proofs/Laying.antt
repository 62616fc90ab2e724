-- Tables that are opened one by one.
use Rattle.std.proofs.Common.{◌≡◌, ℕ, ◌<◌, arith, List, [], ◌∷◌, ◌++◌, length, Some, sym, ap, subst, ◌∙◌}
use Rattle.std.specs.Prelude.{slice_get, vec_len}
use Rattle.std.proofs.lemmas.List.{length-map, map-append}
use Rattle.std.specs.declared.alloc.Global.{Global}
use Rattle.std.specs.declared.vec.Vec.{Vec}
use Rattle.attrs.specs.declared.journal.JEntry.{JEntry}
use Rattle.bits_ip.specs.declared.address.Family.{Family}
use Rattle.core_setup.specs.Channels.{channels}
use Rattle.core_setup.specs.Pairs.{Pairs}
use Rattle.core_setup.specs.Setup.{Setup}
use Rattle.core_setup.proofs.PairLemmas.{get_here, get_within}
use Rattle.jour_rule.specs.declared.views.Terms.{Terms}
use Rattle.phase_legal.specs.Shown.{AreBeside}
use Rattle.phase_open.specs.Standing.{IsStandingTable, table_stood}
use Rattle.phase_open.specs.declared.standing.StandingTable.{StandingTable}
use Rattle.phase_pipes.specs.Ports.{joined_terms}
use Rattle.phase_room.specs.Opened.{AreOpened}
use Rattle.phase_room.specs.Rooms.{TableTerms}
use Rattle.phase_room.specs.declared.opened.Opened.{Opened}
use Rattle.table_shared.specs.Opening.{TableOpening, lists_of}
use Rattle.room_open.specs.Laid.{AreTablesOpen, BeginsTable, IsTableMore}
use Rattle.room_open.specs.Sources.{AreCounts, lists_from}
use Rattle.room_open.specs.declared.standing.StandingMember.{StandingMember}
use Rattle.room_open.proofs.Places.{pairs_longer}
use Rattle.room_open.proofs.Told.{lists_many}

-- what stands in a table of a number
pub stands_at : (tables : List (List ℕ × Family)) (stood : List StandingTable) → AreBeside IsStandingTable tables stood → (i : ℕ) (one : StandingTable) → slice_get stood i ≡ Some one → (table : List ℕ × Family) × IsStandingTable table one
stands_at tables stood are i one at =
    let inside = get_within stood i one at in
    let many = are.count in
    let table = get_here tables i (omega (arith, inside, many)) in
    (table.0, are.each i table.0 one table.1 at)

-- ---- what its journal begins with

-- there are as many ports as protocols
pub ports_many : {J : Type 0} (table : ℕ) (members : List (StandingMember J)) (ports : Vec (Vec ℕ Global) Global) → lists_of ports.items ≡ lists_from table 0 members → vec_len ports ≡ length members
ports_many table members ports are = ports.ok.0 ∙ sym (length-map ports.items (λ (v : Vec ℕ Global). v.items)) ∙ ap length are ∙ lists_many table members

abbrev terms_made : (start cells cursors makers : ℕ) → TableTerms → List (List ℕ) → Terms TableOpening
terms_made start cells cursors makers stood ports =
    record { start = start; cells = cells; cursors = cursors; makers = makers; opening = record { family = stood.family; rows = stood.rows; ports = ports } }

module _ {J : Type 0} (setup : Setup) (members : List (StandingMember J)) where
  pub terms_are : (number start cells cursors makers : ℕ) (stood : TableTerms) (ports : List (List ℕ)) → AreCounts setup cursors members → number < length setup.tables → start ≡ length stood.before → makers ≡ length members → ports ≡ lists_from number 0 members
      → terms_made start cells cursors makers stood ports ≡ joined_terms cells setup number stood
  terms_are number start cells cursors makers stood ports are there begins many all =
      ap (λ z. terms_made z cells cursors makers stood ports) begins
      ∙ ap (λ z. terms_made (length stood.before) cells z makers stood ports) are.cursors_are
      ∙ ap (λ z. terms_made (length stood.before) cells (length (channels setup)) z stood ports) (many ∙ are.ports_are.count)
      ∙ ap (terms_made (length stood.before) cells (length (channels setup)) (length setup.protocols) stood) (all ∙ are.ports_are.each number there)

module _ {J : Type 0} (setup : Setup) (members : List (StandingMember J)) (actors : ℕ) where
  pub none_open : (opened : Opened) (before : List (Vec JEntry Global)) (channels : ℕ) → AreCounts setup channels members → AreOpened opened → opened.tables.items ≡ [] → length opened.ports.items ≡ length members → length opened.cursors.items ≡ channels → length opened.passes.items ≡ actors → before ≡ []
      → AreTablesOpen setup members actors [] opened before
  none_open opened before channels counts is none ports cursors passes empty = record {
    can = record { opened_is = is; counts = subst (λ n. AreCounts setup n members) (sym cursors) counts; ports = ports };
    passes = passes;
    tables = subst (λ z. Pairs (BeginsTable setup) 0 [] z) (sym none) tt;
    before_is = empty;
  }

  pub one_open : (done : List StandingTable) (stood : StandingTable) (old new : Opened) (before more : List (Vec JEntry Global)) → AreTablesOpen setup members actors done old before → IsTableMore setup members (table_stood stood) old new → more ≡ before ++ stood.before ∷ []
      → AreTablesOpen setup members actors (done ++ stood ∷ []) new more
  one_open done stood old new before more are m pushed = record {
    can = m.can;
    passes = m.passes ∙ are.passes;
    tables = pairs_longer (BeginsTable setup) done old.tables.items new.tables.items stood m.table are.tables m.terms m.tables;
    before_is = pushed ∙ ap (λ z. z ++ stood.before ∷ []) are.before_is ∙ sym (map-append (λ (table : StandingTable). table.before) done (stood ∷ []));
  }
