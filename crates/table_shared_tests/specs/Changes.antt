-- The changes and the table of these tests. Not modelled: routes but for their sources. Form: own.
use Rattle.std.specs.Prelude.{◌≡◌, ℕ, Bool, false, List, [], ◌∷◌, IfSome, Some, slice_get}
use Rattle.atomic_table.specs.Seated.{TableId}
use Rattle.bits_ip.specs.Address.{family_of}
use Rattle.bits_ip.specs.declared.address.Family.TheVariants.{V4}
use Rattle.attrs.specs.declared.route.Change.{Change}
use Rattle.jour_rule.specs.declared.views.Terms.{Terms}
use Rattle.jour_rule.specs.declared.views.View.{View as Seat}
use Rattle.jour.specs.Seats.{journal}
use Rattle.table_shared.specs.Opening.{TableOpening}

-- a change of an IPv4 net and of this source
pub record IsOfSource (num : ℕ) (change : Change) : Type 0 where
  pub family : family_of change.net.addr ≡ V4
  pub source : change.num ≡ num
  pub route : IfSome change.new (λ route. route.src.num ≡ num)

-- the sources 0 and 1, each with a port of its number
abbrev pub two_sources : List (List ℕ)
two_sources = (0 ∷ []) ∷ (1 ∷ []) ∷ []

-- the table is of IPv4, and has these ports
pub record IsOfTwo (opening : TableOpening) : Type 0 where
  pub family : opening.family ≡ V4
  pub ports : opening.ports ≡ two_sources

-- seats of that table
abbrev pub AreOf : TableId × Terms TableOpening → List (TableId × Seat TableOpening) → Type 0
AreOf here seats =
    (k : ℕ) (seat : TableId × Seat TableOpening) → slice_get seats k ≡ Some seat
    → journal seat ≡ here

-- closed cursors of that table
abbrev pub AreClosed : TableId × Terms TableOpening
    → List ((TableId × Seat TableOpening) × Bool) → Type 0
AreClosed here cursors =
    (k : ℕ) (c : (TableId × Seat TableOpening) × Bool) → slice_get cursors k ≡ Some c
    → (journal c.0 ≡ here) × (c.1 ≡ false)
