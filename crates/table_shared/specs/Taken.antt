-- What a cursor reads of a table's journal. Modelled: which record its words say, where the entries
-- that it has taken leave the table's content. Not modelled: who reads, and when. Form: the
-- project's own.
use Rattle.std.specs.Prelude.{ℕ, ◌-◌, List, take}
use Rattle.attrs.specs.declared.journal.JEntry.{JEntry}
use Rattle.jour_rule.specs.declared.views.Entry.{Entry}
use Rattle.jour_rule.specs.declared.views.View.{View as Seat}
use Rattle.jour_rule.specs.Moves.{IsNext, entry, position_of}
use Rattle.jour.specs.Seats.{front}
use Rattle.table_shared.specs.Opening.{TableOpening}
use Rattle.table_shared.specs.Records.{AreRecords, IsLawful, IsRecord, at_first, content_after}

-- the entries up to the cursor's position
abbrev pub taken : Seat TableOpening → List Entry
taken cursor = take (position_of cursor.role - cursor.seen.terms.start) (front cursor)

-- `next` of the cursor gave these words
abbrev pub IsGiven : Seat TableOpening → List ℕ → Type 0
IsGiven cursor words = IsNext IsLawful cursor.seen (position_of cursor.role) words

-- The words are the entry of some maker that says this record, behind the records of the entries up
-- to the cursor's position.
pub record IsReadAs (cursor : Seat TableOpening) (words : List ℕ) (said : JEntry) : Type 0 where
  pub maker : ℕ
  pub earlier : List JEntry
  pub records :
      AreRecords cursor.seen.terms.opening (at_first cursor.seen.terms.opening) (taken cursor)
      earlier
  pub is :
      IsRecord cursor.seen.terms.opening (content_after cursor.seen.terms.opening earlier)
      (entry maker words) said
