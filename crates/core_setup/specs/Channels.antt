-- The channels of what is played (`channels`), in the order of protocols: one of BGP has a channel
-- to its neighbour, of its own name; a pipe P has the direction `P.export` from its primary table
-- to its peer table and then `P.import` back; a static one has none. Their numbers count from 0.
-- From: BIRD User's Guide, "Channel options" and "Pipe"; the names of a pipe's channels are own.
-- Example: behind a pipe the channel of the next protocol of BGP has number 2.
use Rattle.std.specs.Prelude.{◌==◌, ◌+◌, ℕ, true, false, List, [], ◌∷◌, ◌++◌, codes, Option, Some, None, option_and_then, slice_get, if◌then◌else◌}
use Rattle.bits_ip.specs.declared.address.Family.{Family}
use Rattle.bits_ip.specs.declared.address.Family.TheVariants.{V4}
use Rattle.export_core.specs.declared.passing.ExportSpec.{ExportSpec}
use Rattle.import_core.specs.Decisions.{Filter}
use Rattle.core_setup.specs.Setup.{Body, Exports, IsPipe, IsSource, Protocol, Setup, family_at}

pub record Channel : Type 0 where
  pub name : List ℕ
  -- the number of its protocol
  pub owner : ℕ
  -- the table that it reads, and the one that it writes where it is a direction of a pipe
  pub reads : ℕ
  pub target : Option ℕ
  -- Its gate and its filter. The sources that a direction passes aren't told here (`exports_of` of
  -- specs/Protocols).
  pub exports : Exports

-- the family of a table, and IPv4 of one that isn't there
abbrev pub family_or_first : Option Family → Family
family_or_first None = V4
family_or_first (Some family) = family

-- the gate of a pipe's direction sends each source's route
abbrev pub gate_of_pipe : Family → ℕ → ExportSpec
gate_of_pipe family number = record {
  family = family;
  own = number;
  to_ebgp = false;
  interpret = false;
  every = true;
  sources = [];
}

-- what a protocol of this number and name has, where tables have these families by number
module _ (tables : List (List ℕ × Family)) (number : ℕ) (name : List ℕ) where
  abbrev pub direction : List ℕ → ℕ → ℕ → Filter → Channel
  direction way reads writes filter = record {
    name = name ++ way;
    owner = number;
    reads = reads;
    target = Some writes;
    exports = record {
      spec = gate_of_pipe (family_or_first (family_at tables reads)) number;
      filter = filter;
    };
  }

  abbrev pub session : ℕ → Option Exports → List Channel
  session table None = []
  session table (Some exports) =
      record { name = name; owner = number; reads = table; target = None; exports = exports }
      ∷ []

  abbrev pub channels_in : Body → List Channel
  channels_in (IsSource p) = session p.table p.exports
  channels_in (IsPipe p) =
      direction (codes ".export") p.primary p.peer p.export
      ∷ direction (codes ".import") p.peer p.primary p.import
      ∷ []

-- the channels of protocols from a number on
abbrev pub channels_from : List (List ℕ × Family) → ℕ → List Protocol → List Channel
channels_from tables number [] = []
channels_from tables number (p ∷ more) =
    channels_in tables number p.name p.body ++ channels_from tables (number + 1) more

abbrev pub channels : Setup → List Channel
channels setup = channels_from setup.tables 0 setup.protocols

-- the numbers of a protocol's channels among these, which have numbers from this one on
abbrev pub numbers_of : ℕ → ℕ → List Channel → List ℕ
numbers_of owner number [] = []
numbers_of owner number (channel ∷ more) =
    if channel.owner == owner
    then number ∷ numbers_of owner (number + 1) more
    else numbers_of owner (number + 1) more

-- ---- by number; what isn't there has a number that none has

abbrev pub channel_at : Setup → ℕ → Option Channel
channel_at setup c = slice_get (channels setup) c

abbrev pub owner_at : (none : ℕ) → Option Channel → ℕ
owner_at none None = none
owner_at none (Some channel) = channel.owner

abbrev pub reads_at : (none : ℕ) → Option Channel → ℕ
reads_at none None = none
reads_at none (Some channel) = channel.reads

abbrev pub target_at : Option Channel → Option ℕ
target_at channel = option_and_then (λ (c : Channel). c.target) channel
