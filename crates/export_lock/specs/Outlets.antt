-- What becomes of values that are put through a port, one after another (`AreGiven`), and why one is
-- refused (`IsRefused`): each is one change of the table (`put_change`), which is entered, or stands
-- there already (`Puts`).
-- Values that were given are read backwards.
-- From: BIRD User's Guide, "Pipe"; how a port is lent is own.
-- Example: of a value that is put, one that is refused since the journal is full, and one more, the
-- port has two receipts, and those of the refusal are as before it.
use Rattle.std.specs.Prelude.{◌≡◌, ◌==◌, ◌&&◌, ℕ, ◌<◌, ◌≤◌, Bool, true, false, List, [], ◌∷◌, length, reverse, Option, Some, None, option_map, slice_get, slice_index_or, Contains, IfSome}
use Rattle.std.specs.List.{list_any}
use mathlib.Core.List.{IsPrefix}
use base.Stored.{Gv, gnil, gnum, gcons, coded×, coded_list}
use Rattle.atomic_table.specs.Seated.{TableId}
use Rattle.attrs.specs.contracts.route.Src as sources_row
use Rattle.attrs.specs.declared.route.Change.{Change}
use Rattle.attrs.specs.declared.route.Src.{Src}
use Rattle.bits_ip.specs.declared.address.Addr.TheVariants as addresses
use Rattle.bits_ip.specs.declared.address.Family.{Family}
use Rattle.bits_ip.specs.declared.address.Family.TheVariants.{V4, V6}
use Rattle.export_core.specs.declared.log.Sending.{Sending}
use Rattle.export_core.specs.declared.outlet.PushFault.{PushFault}
use Rattle.export_core.specs.declared.outlet.PushFault.TheVariants.{Blocked, Ended, Memory}
use Rattle.jour_rule.specs.declared.views.Terms.{Terms}
use Rattle.jour_rule.specs.declared.views.View.{View as Seat}
use Rattle.jour.specs.Seats.{front, journal, known, number_of, own}
use Rattle.table_shared.specs.Answers.{IsDone, IsEnded, IsFull}
use Rattle.table_shared.specs.Opening.{TableOpening, sources_of}
use Rattle.table_shared.specs.contracts.port.Port as port_row
use Rattle.table_shared.specs.declared.answers.Done.{Done}
use Rattle.table_shared.specs.declared.answers.UpdateFault.{UpdateFault}
use Rattle.table_shared.specs.declared.answers.UpdateFault.TheVariants as updates

-- the port is the same of its journal, and has seen no less
pub record SeesOn (old new : TableId × Seat TableOpening) : Type 0 where
  pub here : journal new ≡ journal old
  pub number : number_of new.1.role ≡ number_of old.1.role
  pub least : known old.1 ≤ known new.1
  pub prefix : IsPrefix (front old.1) (front new.1)

-- and it has made nothing meanwhile
pub record Rests (old new : TableId × Seat TableOpening) : Type 0 where
  pub sees : SeesOn old new
  pub receipts : own new.1 ≡ own old.1

-- the source of a number; one that there isn't has no defaults
abbrev pub source_at : List Src → ℕ → Src
source_at sources num = slice_index_or sources num (record { num = num; def_med = 0; def_lp = 0 })

-- the change that a value makes: the route of its source with the value's attributes, or none
abbrev pub put_change : List Src → Sending → Change
put_change sources x = record {
  net = x.key.net;
  num = x.key.num;
  new = option_map (λ attrs. record { src = source_at sources x.key.num; attrs = attrs }) x.value;
}

-- the value, which is of a source of the port, was put: its change is entered, or stands there
-- already
pub record Puts (sources : List Src) (x : Sending) (old new : TableId × Seat TableOpening)
    : Type 0 where
  pub source : Contains (sources_of old.1.seen.terms.opening (number_of old.1.role)) x.key.num
  pub sees : SeesOn old new
  pub done : Done
  pub is : IsDone (put_change sources x) old.1 new.1 done

-- these were given since the port was as it was at first, and no others
abbrev pub AreGiven : List Src → List Sending → (old new : TableId × Seat TableOpening) → Type 0
AreGiven sources [] old new = Rests old new
AreGiven sources (x ∷ earlier) old new =
    (before : TableId × Seat TableOpening)
    × (after : TableId × Seat TableOpening)
    × AreGiven sources earlier old before
    × Puts sources x before after
    × Rests after new

-- a table's fault, as one of an outlet
abbrev pub refusal_of : UpdateFault → PushFault
refusal_of (updates.Full cursor at head) = Blocked cursor at head
refusal_of (updates.Ended head) = Ended head
refusal_of updates.Memory = Memory

-- The value was refused, and nothing was made. Where the journal is full or has no position left,
-- this is what the port found in the call.
abbrev pub Refuses : List Src → Sending → PushFault → (old new : TableId × Seat TableOpening) → Type 0
Refuses sources x (Blocked cursor at head) old new =
    SeesOn old new × IsFull (put_change sources x) old.1 new.1 cursor at head
Refuses sources x (Ended head) old new =
    SeesOn old new × IsEnded (put_change sources x) old.1 new.1 head
Refuses sources x Memory old new = new ≡ old

-- a value was refused since the port was as it was at first
pub record IsRefused (sources : List Src) (fault : PushFault) (old new : TableId × Seat TableOpening)
    : Type 0 where
  pub sending : Sending
  pub before : TableId × Seat TableOpening
  pub after : TableId × Seat TableOpening
  pub first : SeesOn old before
  pub refused : Refuses sources sending fault before after
  pub last : SeesOn after new

-- each source stands at the place of its number, and all those of the port are among them
pub record AreSourcesOf (sources : List Src) (port : Seat TableOpening) : Type 0 where
  pub placed : (num : ℕ) (src : Src) → slice_get sources num ≡ Some src → src.num ≡ num
  pub all :
      (num : ℕ) → Contains (sources_of port.seen.terms.opening (number_of port.role)) num
      → num < length sources

-- An outlet: the port as it was at first, the sources, what was given since, in its order, how often
-- a value was refused, with which fault the last, and the port as it is.
pub record Putting : Type 0 where
  pub begun : TableId × Seat TableOpening
  pub sources : List Src
  pub given : List Sending
  pub refusals : ℕ
  pub fault : Option PushFault
  pub port : TableId × Seat TableOpening

-- what holds of an outlet of a table
pub record IsPutting (table : TableId × Terms TableOpening) (o : Putting) : Type 0 where
  pub table_is : journal o.begun ≡ table
  pub sources : AreSourcesOf o.sources o.begun.1
  pub given : AreGiven o.sources (reverse o.given) o.begun o.port
  pub fault : IfSome o.fault (λ fault. IsRefused o.sources fault o.begun o.port)

-- ---- what it takes, and what it tells

abbrev pub same_family : Family → Family → Bool
same_family V4 V4 = true
same_family V6 V6 = true
same_family _ _ = false

-- it takes the port's sources, and the family of its table
abbrev pub takes_of : Putting → ℕ → Family → Bool
takes_of o num family =
    list_any (λ x. num == x) (sources_of o.begun.1.seen.terms.opening (number_of o.begun.1.role))
    && same_family family o.begun.1.seen.terms.opening.family

-- A number in the place of a value, and a tree of numbers as such, behind which others follow. By
-- this an outlet that was lent is known again: it tells first of what it is made.
abbrev pub numbered : ℕ → Sending
numbered n = record {
  at = n;
  key = record { net = record { addr = addresses.V4 0; len = 0 }; num = 0 };
  value = None;
  again = false;
}

abbrev pub spelled : Gv → List Sending → List Sending
spelled gnil more = numbered 0 ∷ more
spelled (gnum n) more = numbered 1 ∷ numbered n ∷ more
spelled (gcons a b) more = numbered 2 ∷ spelled a (spelled b more)

abbrev pub name_of : (TableId × Seat TableOpening) × List Src → Gv
name_of made = (coded× port_row.the_row.coded (coded_list sources_row.the_row.coded)).code made

-- its name, and behind it what was given since it was made
abbrev pub told_by : Putting → Option (List Sending)
told_by o = Some (spelled (name_of (o.begun, o.sources)) o.given)
