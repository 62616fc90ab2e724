-- What the answers of an update say of its port: what it had seen before and what it has seen now.
-- Modelled: receipts, the loads that an answer rests on, and what stands in the table. Not
-- modelled: a cause for want of memory, at which nothing has changed. Form: the project's own.
use Rattle.std.specs.Prelude.{◌≡◌, ◌≢◌, ℕ, ◌+◌, ◌<◌, ◌≤◌, ◌^◌, List, [], ◌∷◌, ◌++◌, Contains, IfSome, Option}
use Rattle.bits_ip.specs.Address.{family_of}
use Rattle.attrs.specs.History.{Content, after}
use Rattle.attrs.specs.Table.{IsBestOf}
use Rattle.attrs.specs.declared.journal.JEntry.{JEntry}
use Rattle.attrs.specs.declared.route.Change.{Change}
use Rattle.attrs.specs.declared.route.Route.{Route}
use Rattle.jour_rule.specs.declared.views.Entry.{Entry}
use Rattle.jour_rule.specs.declared.views.View.{View as Seat}
use Rattle.jour_rule.specs.Moves.{entry}
use Rattle.jour.specs.Seats.{LeavesRoom, front, own, head_of, known, heads, number_of, looks_of, last_look}
use Rattle.rec_words.specs.Entries.{Spells}
use Rattle.table_shared.specs.declared.answers.Done.{Done}
use Rattle.table_shared.specs.declared.answers.Done.TheVariants.{Same, At}
use Rattle.table_shared.specs.declared.answers.UpdateFault.{UpdateFault}
use Rattle.table_shared.specs.declared.answers.UpdateFault.TheVariants.{Full, Ended, Memory}
use Rattle.table_shared.specs.Opening.{TableOpening, sources_of}
use Rattle.table_shared.specs.Records.{InContent}

-- the port may make the change: it is of the table's family, and of a source of the port's, as is
-- its new route
pub record MayMake (port : Seat TableOpening) (change : Change) : Type 0 where
  pub family : family_of change.net.addr ≡ port.seen.terms.opening.family
  pub source : Contains (sources_of port.seen.terms.opening (number_of port.role)) change.num
  pub route : IfSome change.new (λ route. route.src.num ≡ change.num)

-- P holds of what stands in the table, as far as the seat has seen
abbrev pub InSeen : Seat TableOpening → (Content → Type 0) → Type 0
InSeen seat P = InContent seat.seen.terms.opening (front seat) P

-- the change's key has the given route
abbrev pub Stands : Change → Content → Type 0
Stands change content = content change.net change.num ≡ change.new

abbrev pub Differs : Change → Content → Type 0
Differs change content = content change.net change.num ≢ change.new

-- the seat loaded the head in the call, it is this one, and the seat has seen the list to there
pub record IsLoaded (at : ℕ) (old new : Seat TableOpening) : Type 0 where
  pub known : at ≡ known new
  pub seen : at ≡ head_of new
  pub loads : heads old < heads new

-- the record of a change with the best route of its net behind it
abbrev pub with_best : Option Route → Change → JEntry
with_best best change = record { net = change.net; num = change.num; new = change.new; best = best }

-- The change differed from what stood for its key. It is the entry at this position, the last that
-- the port has seen, with the best route of its net behind it, and the port has one receipt more.
pub record IsEntered (change : Change) (old new : Seat TableOpening) (position : ℕ) : Type 0 where
  pub best : Option Route
  pub before : List Entry
  pub words : List ℕ
  pub spelled : Spells (with_best best change) words
  pub receipt : own new ≡ own old ++ (position, words) ∷ []
  pub last : front new ≡ before ++ entry (number_of new.role) words ∷ []
  pub head : position ≡ head_of new
  pub end : position < 2 ^ 63
  pub content : InContent new.seen.terms.opening before
      (λ content. Differs change content
      × IsBestOf (after content (change ∷ [])) change.net best)

-- the key has the given route already, at the head that was loaded
pub record IsSame (change : Change) (old new : Seat TableOpening) (at : ℕ) : Type 0 where
  pub loaded : IsLoaded at old new
  pub receipts : own new ≡ own old
  pub stands : InSeen new (Stands change)

-- the change is real, and no position is left for it
pub record IsEnded (change : Change) (old new : Seat TableOpening) (head : ℕ) : Type 0 where
  pub loaded : IsLoaded head old new
  pub receipts : own new ≡ own old
  pub end : head + 1 ≡ 2 ^ 63
  pub differs : InSeen new (Differs change)

-- The change is real, and the port's last load of a cursor's word, in this call, found that cursor
-- of the table's the whole journal behind the head that the port loaded in this call. No lower
-- cursor is, as the port knows. So a port that is full has seen the list to the head, and that
-- isn't the last position.
pub record IsFull (change : Change) (old new : Seat TableOpening) (cursor at head : ℕ)
    : Type 0 where
  pub inside : cursor < new.seen.terms.cursors
  pub look : last_look new.role ≡ (cursor, at)
  pub looks : looks_of old.role < looks_of new.role
  pub loaded : IsLoaded head old new
  pub lag : head ≡ at + new.seen.terms.cells
  pub lowest : (c : ℕ) → c < cursor → LeavesRoom c new
  pub below : head + 1 < 2 ^ 63
  pub receipts : own new ≡ own old
  pub differs : InSeen new (Differs change)

abbrev pub IsDone : Change → Seat TableOpening → Seat TableOpening → Done → Type 0
IsDone change old new (Same at) = IsSame change old new at
IsDone change old new (At position) = IsEntered change old new position

abbrev pub IsFault : Change → Seat TableOpening → Seat TableOpening → UpdateFault → Type 0
IsFault change old new (Full cursor at head) = IsFull change old new cursor at head
IsFault change old new (Ended head) = IsEnded change old new head
IsFault change old new Memory = new ≡ old

-- a change that was entered stands above all that the port had seen
abbrev pub IsAboveAll : Seat TableOpening → Done → Type 0
IsAboveAll old (Same at) = head_of old ≤ at
IsAboveAll old (At position) = head_of old < position

-- It stands above each head that the port had known too, and is the head that it knows then.
abbrev pub IsAboveKnown : Seat TableOpening → Seat TableOpening → Done → Type 0
IsAboveKnown old new (Same at) = (known old ≤ at) × (at ≡ known new)
IsAboveKnown old new (At position) = (known old < position) × (position ≡ known new)
