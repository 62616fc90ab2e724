-- The families of what a protocol is told: of its configured routes (`fixed_at`), which the laws
-- speak of, and of what operations announce (`IsOfFamily`), which is of the family of the protocol's
-- table (`FitsTable`, `FitsProtocol`).
-- From: own.
-- Example: a protocol with an IPv4 channel announces nets of IPv4.
use Rattle.std.specs.Prelude.{◌≡◌, ℕ, List, [], Option, Some, None, IfSome, slice_get, ⊤}
use Rattle.bits_ip.specs.Address.{family_of}
use Rattle.bits_ip.specs.declared.address.Family.{Family}
use Rattle.import_core.specs.declared.import_spec.Fixed.{Fixed}
use Rattle.import_core.specs.declared.operation.Op.{Op}
use Rattle.import_core.specs.declared.operation.Op.TheVariants.{Start, SessionUp, Add, Del, SessionDown, Disable, Enable, ReloadIn, ReloadOut, Reload}
use Rattle.core_setup.specs.Setup.{Body, IsPipe, IsSource, Protocol, Setup, family_at}

-- the configured routes of a protocol, and none of a pipe or of one that isn't there
abbrev pub fixed_in : Body → List Fixed
fixed_in (IsSource p) = p.spec.fixed
fixed_in (IsPipe p) = []

abbrev pub fixed_at : Option Protocol → List Fixed
fixed_at None = []
fixed_at (Some p) = fixed_in p.body

-- where the operation announces a net, it is of this family
abbrev pub IsOfFamily : Family → Op → Type 0
IsOfFamily family Start = ⊤
IsOfFamily family (SessionUp id) = ⊤
IsOfFamily family (Add net given) = family_of net.addr ≡ family
IsOfFamily family (Del net) = ⊤
IsOfFamily family SessionDown = ⊤
IsOfFamily family Disable = ⊤
IsOfFamily family Enable = ⊤
IsOfFamily family ReloadIn = ⊤
IsOfFamily family ReloadOut = ⊤
IsOfFamily family Reload = ⊤

-- What the operation announces to a protocol is of the family of the table that it imports to. A
-- pipe imports nothing.
abbrev pub FitsTable : List (List ℕ × Family) → Body → Op → Type 0
FitsTable tables (IsSource p) op =
    IfSome (family_at tables p.table) (λ family. IsOfFamily family op)
FitsTable tables (IsPipe p) op = ⊤

-- the same of the protocol of a number, where there is one
abbrev pub FitsProtocol : Setup → ℕ → Op → Type 0
FitsProtocol setup number op =
    IfSome (slice_get setup.protocols number) (λ p. FitsTable setup.tables p.body op)
