-- The entries of a table's journal as records: a record says a change, and the best route of its
-- net behind it. Modelled: which lists of entries are lawful, and what stands in the table behind
-- them. Not modelled: positions, which are places in the list, and the cells that entries stand in
-- (jour_rule). Form: the project's own; the words of a record are those of rec_words.
use Rattle.std.specs.Prelude.{◌≡◌, ◌≢◌, ℕ, List, [], ◌∷◌, ◌++◌, length, map, take, Contains, IfSome, ⊤}
use Rattle.bits_ip.specs.Address.{family_of}
use Rattle.attrs.specs.History.{Content, after}
use Rattle.attrs.specs.Table.{IsBestOf, route_in}
use Rattle.attrs.specs.declared.journal.JEntry.{JEntry}
use Rattle.attrs.specs.declared.route.Change.{Change}
use Rattle.jour_rule.specs.declared.views.Entry.{Entry}
use Rattle.rec_words.specs.Entries.{Spells}
use Rattle.table_shared.specs.Opening.{TableOpening, sources_of}

-- the change that a record says
abbrev pub change_of : JEntry → Change
change_of record_ = record { net = record_.net; num = record_.num; new = record_.new }

-- what stands in the table at first
abbrev pub at_first : TableOpening → Content
at_first opening = route_in opening.rows

-- The entry's words spell the record. Its change is real where `before` stands, of the table's
-- family, and of a source of the port that made the entry, which so is one of the table's; the best
-- is the net's behind the change.
pub record IsRecord (opening : TableOpening) (before : Content) (entry : Entry) (said : JEntry)
    : Type 0 where
  pub words : Spells said entry.words
  pub source : Contains (sources_of opening entry.maker) said.num
  pub family : family_of said.net.addr ≡ opening.family
  pub route : IfSome said.new (λ route. route.src.num ≡ said.num)
  pub real : before said.net said.num ≢ said.new
  pub best : IsBestOf (after before (change_of said ∷ [])) said.net said.best

-- the entries are these records, each where those before it have left their content
abbrev pub AreRecords : TableOpening → Content → List Entry → List JEntry → Type 0
AreRecords opening before [] [] = ⊤
AreRecords opening before [] (said ∷ rest) = ⊥
AreRecords opening before (entry ∷ entries) [] = ⊥
AreRecords opening before (entry ∷ entries) (said ∷ rest) =
    IsRecord opening before entry said
    × AreRecords opening (after before (change_of said ∷ [])) entries rest

-- the receipts are these records, in order
abbrev pub AreSaid : List (ℕ × List ℕ) → List JEntry → Type 0
AreSaid [] [] = ⊤
AreSaid [] (said ∷ rest) = ⊥
AreSaid (receipt ∷ receipts) [] = ⊥
AreSaid (receipt ∷ receipts) (said ∷ rest) = Spells said receipt.1 × AreSaid receipts rest

-- The law of a table's journal.
abbrev pub IsLawful : TableOpening → List Entry → Type 0
IsLawful opening entries =
    (said : List JEntry) × AreRecords opening (at_first opening) entries said

-- what stands in the table behind these records
abbrev pub content_after : TableOpening → List JEntry → Content
content_after opening said = after (at_first opening) (map change_of said)

-- P holds of what stands in the table behind these entries
abbrev pub InContent : TableOpening → List Entry → (Content → Type 0) → Type 0
InContent opening entries P =
    (said : List JEntry)
    × AreRecords opening (at_first opening) entries said
    × P (content_after opening said)

-- the entries at the front of lawful ones are
pub records_front :
    (opening : TableOpening) (before : Content) (entries more : List Entry) (said : List JEntry)
    → AreRecords opening before (entries ++ more) said
    → AreRecords opening before entries (take (length entries) said)
records_front opening before [] more said are = tt
records_front opening before (entry ∷ entries) more [] are = are
records_front opening before (entry ∷ entries) more (first ∷ rest) are =
    (are.0, records_front opening (after before (change_of first ∷ [])) entries more rest are.1)

pub front_lawful :
    (opening : TableOpening) (entries more : List Entry)
    → IsLawful opening (entries ++ more) → IsLawful opening entries
front_lawful opening entries more lawful = (
  take (length entries) lawful.0,
  records_front opening (at_first opening) entries more lawful.0 lawful.1,
)
