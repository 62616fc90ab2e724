-- The ups, downs and refreshes of a channel as the journal of its lock has them, its marks: the
-- words of each (`mark_words`, `item_in`), what an up at a position is to say of the changes that
-- the protocol's port has made (`IsStamp`), and which ones the operations of a phase give
-- (`notices_from`).
-- All lists are read backwards, but for what was made and entries, which are in their order.
-- Not modelled: what a channel sends.
-- From: own.
-- Example: behind the changes at 4 and 7 an up of the first operation alone stands at 4, 5 or 6.
use Rattle.std.specs.Prelude.{◌≡◌, ◌==◌, ℕ, ◌≤◌, nat_lt, Bool, true, false, List, [], ◌∷◌, ◌++◌, length, map, reverse, Option, Some, None, slice_index, if◌then◌else◌, ⊤}
use Rattle.attrs.specs.declared.journal.JEntry.{JEntry}
use Rattle.attrs.specs.declared.route.Change.{Change}
use Rattle.export_core.specs.declared.log.LogItem.{LogItem}
use Rattle.export_core.specs.declared.log.LogItem.TheVariants.{Up, Down, Reload, Sent}
use Rattle.import_core.specs.declared.operation.Op.{Op}
use Rattle.jour_rule.specs.declared.views.Entry.{Entry}
use Rattle.jour_rule.specs.Journal.{receipts}
use Rattle.core_machine.specs.Histories.{own}
use Rattle.core_machine.specs.Rules.{Rules, Signal, Stay, Rise, Fall, Renew, changes}
use Rattle.core_machine.specs.Signals.{Notice, with_signal}
use Rattle.table_shared.specs.Opening.{TableOpening}
use Rattle.table_shared.specs.Records.{AreRecords, at_first}
use Rattle.phase_legal.specs.Changes.{AreMade, IsAlone, given}

-- The words of a mark: how many they are; 1, 2 or 3 for an up, a down or a refresh; and the position
-- of an up. What a channel sends is no mark.
abbrev pub mark_words : LogItem → List ℕ
mark_words (Up h) = 3 ∷ 1 ∷ h ∷ []
mark_words Down = 2 ∷ 2 ∷ []
mark_words Reload = 2 ∷ 3 ∷ []
mark_words (Sent x) = []

-- the item that the words of a mark say
abbrev pub item_in : List ℕ → LogItem
item_in words =
    if slice_index words 1 == 1
    then Up (slice_index words 2)
    else (if slice_index words 1 == 2 then Down else Reload)

-- the items of entries, the newest first
abbrev pub items_in : List Entry → List LogItem
items_in es = reverse (map (λ e. item_in e.words) es)

-- what a signal adds to a log, where an up would stand at this position
abbrev pub items_of : Signal → ℕ → List LogItem
items_of Stay h = []
items_of Rise h = Up h ∷ []
items_of Fall h = Down ∷ []
items_of Renew h = Reload ∷ []

-- whether items leave a channel up that was so, or not, before them
abbrev pub opens : Bool → List LogItem → Bool
opens up [] = up
opens up (Up h ∷ earlier) = true
opens up (Down ∷ earlier) = false
opens up (Reload ∷ earlier) = opens up earlier
opens up (Sent x ∷ earlier) = opens up earlier

-- ---- what they are to say

-- the changes that were made up to a position, in their order
abbrev pub up_to : ℕ → List (ℕ × Change) → List Change
up_to h [] = []
up_to h (m ∷ made) = if nat_lt h m.0 then up_to h made else m.1 ∷ up_to h made

-- Where a channel comes up at a position behind some operations of the phase. One that writes no
-- table: just the changes of these operations are among those made up to there. A direction of a
-- pipe opens at 0.
abbrev pub IsStampPlace :
    Rules → ℕ → (past : List Op) → List (ℕ × Change) → ℕ → List Op → Option ℕ → Type 0
IsStampPlace rules i past made h ops None = reverse (up_to h made) ≡ given rules i past ops
IsStampPlace rules i past made h ops (Some table) = ops ≡ [] → h ≡ 0

-- the item is the notice's, of the protocol i; `target` is the table that the channel writes
abbrev pub IsStamp :
    Rules → ℕ → (past : List Op) → (target : Option ℕ) → List (ℕ × Change) → LogItem → Notice
    → Type 0
IsStamp rules i past target made (Up h) n =
    (n.signal ≡ Rise) × IsStampPlace rules i past made h n.ops target
IsStamp rules i past target made Down n = n.signal ≡ Fall
IsStamp rules i past target made Reload n = n.signal ≡ Renew
IsStamp rules i past target made (Sent x) n = ⊥

-- item by item
abbrev pub AreStamps :
    Rules → ℕ → (past : List Op) → (target : Option ℕ) → List (ℕ × Change) → List LogItem
    → List Notice → Type 0
AreStamps rules i past target made [] [] = ⊤
AreStamps rules i past target made [] (n ∷ notices) = ⊥
AreStamps rules i past target made (x ∷ items) [] = ⊥
AreStamps rules i past target made (x ∷ items) (n ∷ notices) =
    IsStamp rules i past target made x n × AreStamps rules i past target made items notices

-- the notices that the operations of a phase give behind those before it
abbrev pub notices_from : Rules → ℕ → (past : List Op) → List Op → List Notice
notices_from rules i past [] = []
notices_from rules i past (op ∷ earlier) =
    with_signal (rules.gives i (earlier ++ past) op).signal (op ∷ earlier)
    (notices_from rules i past earlier)

-- ---- positions

-- ups stand at most at a position
abbrev pub AreUpTo : ℕ → List LogItem → Type 0
AreUpTo n [] = ⊤
AreUpTo n (Up h ∷ earlier) = (h ≤ n) × AreUpTo n earlier
AreUpTo n (Down ∷ earlier) = AreUpTo n earlier
AreUpTo n (Reload ∷ earlier) = AreUpTo n earlier
AreUpTo n (Sent x ∷ earlier) = AreUpTo n earlier

-- at least at a position
abbrev pub AreFrom : ℕ → List LogItem → Type 0
AreFrom n [] = ⊤
AreFrom n (Up h ∷ earlier) = (n ≤ h) × AreFrom n earlier
AreFrom n (Down ∷ earlier) = AreFrom n earlier
AreFrom n (Reload ∷ earlier) = AreFrom n earlier
AreFrom n (Sent x ∷ earlier) = AreFrom n earlier

-- ---- the table that is read

-- What is known of the table that a channel reads, where its protocol imports to that table: one
-- port alone has the protocol's changes, of the phase it has made these, and those of before are
-- what the operations before the phase gave.
pub record HasPort
    (rules : Rules) (c : ℕ) (past : List Op) (before : List Change) (opening : TableOpening)
    (es : List Entry) (said : List JEntry) (made : List (ℕ × Change)) : Type 0 where
  pub port : ℕ
  pub alone : IsAlone (λ num. num == rules.owner c) opening port
  pub records : AreRecords opening (at_first opening) es said
  pub says : AreMade (receipts (length before) port es) made
  pub exact : own (rules.owner c) before ≡ changes rules (rules.owner c) past
