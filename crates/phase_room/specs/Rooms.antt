-- What stands in a table as a phase with threads begins (`TableTerms`), what its journal begins with
-- then (`BeginsTable`), and that the port of a protocol which imports there is this protocol's alone
-- (`IsOwnPort`).
-- Entries before the phase are in their order.
-- Not modelled: where journals keep their words, and how rows are kept.
-- From: own.
-- Example: of two protocols that import to one table each has the port of its number, with itself as
-- the one source.
use Rattle.std.specs.Prelude.{◌≡◌, ◌==◌, ℕ, List, length, Contains}
use Rattle.attrs.specs.declared.journal.JEntry.{JEntry}
use Rattle.attrs.specs.declared.route.Row.{Row}
use Rattle.bits_ip.specs.declared.address.Family.{Family}
use Rattle.jour_rule.specs.declared.views.Terms.{Terms}
use Rattle.phase_legal.specs.Changes.{IsAlone}
use Rattle.table_shared.specs.Opening.{TableOpening, sources_of}

-- the family of a table, the rows that stand in it as the phase begins, and its entries before
pub record TableTerms : Type 0 where
  pub family : Family
  pub rows : List Row
  pub before : List JEntry

-- what the journal of a table begins with has what stands in the table
pub record BeginsTable (stood : TableTerms) (terms : Terms TableOpening) : Type 0 where
  pub start : terms.start ≡ length stood.before
  pub family : terms.opening.family ≡ stood.family
  pub rows : terms.opening.rows ≡ stood.rows

-- The port of this number has the protocol of the number as a source, and no other source; no other
-- port has that protocol.
pub record IsOwnPort (number : ℕ) (opening : TableOpening) : Type 0 where
  pub mine : Contains (sources_of opening number) number
  pub alone : IsAlone (λ num. num == number) opening number
