-- What a channel's export lock is of (`ExportTerms`), what its table was before the phase
-- (`IsBegun`), and which histories of the table begin with what is known of it (`BeginsWith`).
-- The log is read backwards; entries and histories are in their order.
-- Not modelled: pipes, whose directions enter what they send in another table.
-- From: own.
-- Example: behind an entry that the cursor has seen, a history begins with one change more than
-- before the phase.
use Rattle.std.specs.Prelude.{◌≡◌, ℕ, List, ◌++◌, map}
use mathlib.Core.List.{IsPrefix}
use Rattle.atomic_table.specs.Seated.{TableId}
use Rattle.attrs.specs.History.{after, empty}
use Rattle.attrs.specs.declared.journal.JEntry.{JEntry}
use Rattle.bits_ip.specs.Prefix.{Net}
use Rattle.export_core.specs.Histories.{TellsBest}
use Rattle.export_core.specs.declared.log.LogItem.{LogItem}
use Rattle.jour_rule.specs.declared.views.Entry.{Entry}
use Rattle.jour_rule.specs.declared.views.Terms.{Terms}
use Rattle.core_setup.specs.Setup.{Exports}
use Rattle.table_shared.specs.Opening.{TableOpening}
use Rattle.table_shared.specs.Records.{AreRecords, at_first, change_of}

-- what the channel lets pass; the journal of the table that it reads, and the table's entries
-- before the phase; the journal of its marks, and its log before the phase
pub record ExportTerms : Type 0 where
  pub exports : Exports
  pub table : TableId × Terms TableOpening
  pub before : List JEntry
  pub marks : TableId × Terms ℕ
  pub log : List LogItem

-- Each of the table's entries before the phase told the best route of its net, and the table began
-- the phase with what they leave.
pub record IsBegun (key : ExportTerms) : Type 0 where
  pub told : TellsBest key.before
  pub opening :
      (net : Net) (num : ℕ) → at_first key.table.1.opening net num
      ≡ after empty (map change_of key.before) net num

-- a history begins with the entries before the phase and the records of these
pub record BeginsWith (key : ExportTerms) (es : List Entry) (history : List JEntry) : Type 0 where
  pub said : List JEntry
  pub records : AreRecords key.table.1.opening (at_first key.table.1.opening) es said
  pub begins : IsPrefix (key.before ++ said) history
