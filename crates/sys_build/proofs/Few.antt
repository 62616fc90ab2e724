-- A configuration of few protocols names few protocols and few channels.
use Rattle.std.proofs.Common.{◌≡◌, ap, refl, ◌*◌, ◌^◌, ◌<◌, ◌≤◌, ◌-◌, ℕ, Bool, suc, ◌+◌, List, [], ◌∷◌, length, map, arith}
use Rattle.std.proofs.lemmas.List.{length-append, length-map}
use Rattle.core_setup.specs.Setup as setup
use Rattle.script_lines.specs.Kinds.{AreFew}
use Rattle.conf_system.specs.Policies.{Filter}
use Rattle.conf_system.specs.System.{Body, IsBgp, IsPipe, IsStatic, Protocol, System}
use Rattle.conf_system.specs.Texts.{IsSystem}
use Rattle.sys_build.specs.Names.{all_channels, channels_of, named_of, named_protocol, named_table}
use Rattle.sys_build.specs.Setups.{protocols_from}

two_channels : (name : List ℕ) (body : Body) → length (channels_of name body) ≤ 2
two_channels name (IsStatic p) = omega arith
two_channels name (IsBgp p) = omega arith
two_channels name (IsPipe p) = omega arith

few_channels : (ps : List Protocol) → length (all_channels ps) ≤ 2 * length ps
few_channels [] = omega arith
few_channels (p ∷ more) = omega (arith, length-append (channels_of p.name p.body) (all_channels more), two_channels p.name p.body, few_channels more)

pub are_few : ((text : List ℕ) (system : System) → IsSystem text system → length system.protocols ≤ 256)
    → ((text : List ℕ) (system : System) → IsSystem text system → length system.tables ≤ 64)
    → ((text : List ℕ) (system : System) → IsSystem text system → length system.filters ≤ length text)
    → (text : List ℕ) (system : System) → IsSystem text system → length text < 2 ^ 32 → (schedule : Bool) → AreFew (named_of system schedule)
unfolding named_of
are_few few tables filters text system is short schedule = record {
  protocols = omega (arith, few text system is, length-map system.protocols named_protocol);
  channels = omega (arith, few text system is, few_channels system.protocols);
  tables = omega (arith, tables text system is, length-map system.tables named_table);
  filters = omega (arith, short, filters text system is, length-map system.filters (λ (f : List ℕ × Filter). f.0));
}

pub have_room : ((text : List ℕ) (system : System) → IsSystem text system → length system.filters ≤ length text)
    → (conf : List ℕ) (n : ℕ) (system : System) (schedule : Bool) → IsSystem conf system → length conf + n < 2 ^ 32 - 1 → length (named_of system schedule).filters + n < 2 ^ 32 - 1
unfolding named_of
have_room filters conf n system schedule is short = omega (arith, short, filters conf system is, length-map system.filters (λ (f : List ℕ × Filter). f.0))

from_as_many : (n : ℕ) (ps : List Protocol) → length (protocols_from n ps) ≡ length ps
from_as_many n [] = refl
from_as_many n (p ∷ more) = ap suc (from_as_many (n + 1) more)

pub parts_few : {P : Type 0} (seen : P → setup.Protocol) (parts : List P) (ps : List Protocol) → map seen parts ≡ protocols_from 0 ps → length ps ≤ 256 → length parts < 2 ^ 32
parts_few seen parts ps are few = omega (arith, length-map parts seen, ap length are, from_as_many 0 ps, few)
