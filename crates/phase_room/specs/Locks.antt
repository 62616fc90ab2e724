-- What the locks of a protocol and of its channel are of, where these are their seats
-- (`import_terms`, `export_terms`), and from what each may begin a phase (`CanImport`, `CanExport`).
-- From: own.
-- Example: a protocol without a stamp has a lock without a journal of marks.
use Rattle.std.specs.Prelude.{ℕ, Bool, false, List, Option, option_map}
use Rattle.atomic_table.specs.Seated.{TableId}
use Rattle.attrs.specs.declared.journal.JEntry.{JEntry}
use Rattle.attrs.specs.declared.judge.Verdict.{Verdict}
use Rattle.attrs.specs.declared.route.Route.{Route}
use Rattle.bits_ip.specs.Prefix.{Net}
use Rattle.export_core.specs.States.{State}
use Rattle.export_core.specs.declared.log.LogItem.{LogItem}
use Rattle.import_core.specs.Importers.{Importing}
use Rattle.jour_rule.specs.declared.views.View.{View as Seat}
use Rattle.jour.specs.Seats.{journal, number_of}
use Rattle.core_setup.specs.Setup.{Exports, Source}
use Rattle.table_shared.specs.Opening.{TableOpening}
use Rattle.import_lock.specs.Begun.{Begins as BeginsImport}
use Rattle.import_lock.specs.Terms.{AreTerms, ImportTerms, PhaseTerms}
use Rattle.export_lock.specs.Begun.{Begins as BeginsExport}
use Rattle.export_lock.specs.Terms.{ExportTerms}

-- the seats of a protocol: its port, its turns, and its channel's stamp, where it has one
abbrev pub import_terms :
    PhaseTerms → (number : ℕ) → TableId × Seat TableOpening → TableId × Seat ℕ
    → Option (TableId × Seat ℕ) → ImportTerms
import_terms phase number port turns stamp = record {
  phase = phase;
  number = number;
  port = journal port;
  port_number = number_of port.1.role;
  turns = journal turns;
  marks = option_map journal stamp;
}

-- the seats of a channel: its cursor and its marks; and the entries of its table and its log before
-- the phase, both in their order
abbrev pub export_terms :
    Exports → (TableId × Seat TableOpening) × Bool → List JEntry → TableId × Seat ℕ
    → (log : List LogItem) → ExportTerms
export_terms exports cursor before marks log = record {
  exports = exports;
  table = journal cursor.0;
  before = before;
  marks = journal marks;
  log = log;
}

module _ {J : Type 0} (verdict : J → Net → Route → Verdict) where
  pub record CanImport
      (phase : PhaseTerms) (number : ℕ) (importer : Importing J)
      (port : TableId × Seat TableOpening) (turns : TableId × Seat ℕ)
      (stamp : Option (TableId × Seat ℕ)) : Type 0 where
    pub source : Source
    pub terms : AreTerms (import_terms phase number port turns stamp) source
    pub begins :
        BeginsImport verdict (import_terms phase number port turns stamp) source importer port
        turns stamp

  abbrev pub CanExport :
      Exports → List JEntry → (log : List LogItem) → State J
      → (TableId × Seat TableOpening) × Bool → TableId × Seat ℕ → Type 0
  CanExport exports before log exporter cursor marks =
      BeginsExport verdict false (export_terms exports cursor before marks log) exporter cursor
      marks
