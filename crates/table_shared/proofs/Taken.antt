-- What a cursor reads of a table's journal.
use Rattle.std.proofs.Common.{◌≡◌, ℕ, List, [], ◌∷◌, ◌++◌, map, sym, subst}
use Rattle.attrs.specs.History.{Content, after}
use Rattle.attrs.specs.declared.journal.JEntry.{JEntry}
use Rattle.jour_rule.specs.declared.views.Entry.{Entry}
use Rattle.jour_rule.specs.declared.views.View.{View as Seat}
use Rattle.jour_rule.specs.Moves.{entry}
use Rattle.rec_words.specs.Entries.{IsEntryWords, Spells}
use Rattle.table_shared.specs.Opening.{TableOpening}
use Rattle.table_shared.specs.Records.{AreRecords, IsRecord, at_first, change_of}
use Rattle.table_shared.specs.Taken.{IsGiven, IsReadAs, taken}
use Rattle.table_shared.proofs.Records.{after_both}

-- the last entry of a list says a record, where those before it have left the content
pub record IsLast (opening : TableOpening) (before : Content) (entries : List Entry) (last : Entry) : Type 0 where
  pub earlier : List JEntry
  pub said : JEntry
  pub records : AreRecords opening before entries earlier
  pub is : IsRecord opening (after before (map change_of earlier)) last said

pub last_record : (opening : TableOpening) (before : Content) (entries : List Entry) (last : Entry) (said : List JEntry)
    → AreRecords opening before (entries ++ last ∷ []) said → IsLast opening before entries last
last_record opening before [] last [] are = absurd are
last_record opening before [] last (s ∷ []) are = record { earlier = []; said = s; records = tt; is = are.0 }
last_record opening before [] last (s ∷ t ∷ rest) are = absurd are.1
last_record opening before (e ∷ es) last [] are = absurd are
last_record opening before (e ∷ es) last (s ∷ ss) are =
    let r : IsLast opening (after before (change_of s ∷ [])) es last = last_record opening (after before (change_of s ∷ [])) es last ss are.1 in
    record {
      earlier = s ∷ r.earlier;
      said = r.said;
      records = (are.0, r.records);
      is = subst (λ (content : Content). IsRecord opening content last r.said) (sym (after_both before (change_of s ∷ []) (map change_of r.earlier))) r.is;
    }

pub read_as : (cursor : Seat TableOpening) (words : List ℕ) → IsGiven cursor words → (said : JEntry) × IsReadAs cursor words said
read_as cursor words given =
    let r : IsLast cursor.seen.terms.opening (at_first cursor.seen.terms.opening) (taken cursor) (entry given.maker words) =
    last_record cursor.seen.terms.opening (at_first cursor.seen.terms.opening) (taken cursor) (entry given.maker words) given.lawful.0 given.lawful.1 in
    (r.said, record { maker = given.maker; earlier = r.earlier; records = r.records; is = r.is })

pub are_words : (cursor : Seat TableOpening) (words : List ℕ) → IsGiven cursor words → IsEntryWords words
are_words cursor words given = let r = read_as cursor words given in (r.0, r.1.is.words)

-- who reads words that are given reads that record
pub one_reading : ((words : List ℕ) (a b : JEntry) → Spells a words → Spells b words → a ≡ b) → (cursor : Seat TableOpening) (words : List ℕ) (said : JEntry)
    → IsGiven cursor words → Spells said words → IsReadAs cursor words said
one_reading one cursor words said given spelled =
    let r = read_as cursor words given in
    subst (λ (s : JEntry). IsReadAs cursor words s) (one words r.0 said r.1.is.words spelled) r.1
