-- A worked example, computed: two static protocols and a chain of two pipes, from `master4` to `t1` and from `t1` to `t2`.
use Rattle.std.proofs.Common.{◌≡◌, ℕ, true, false, List, [], ◌∷◌, map, Some, None, refl}
use Rattle.std.specs.Prelude.{codes}
use Rattle.attrs.specs.declared.attributes.Kind.TheVariants.{Static}
use Rattle.attrs.specs.declared.judge.Verdict.TheVariants.{Accept}
use Rattle.bits_ip.specs.declared.address.Family.TheVariants.{V4, V6}
use Rattle.import_core.specs.declared.import_spec.ImportSpec.{ImportSpec}
use Rattle.import_core.specs.declared.operation.Op.TheVariants.{Disable, Enable, ReloadIn}
use Rattle.import_core.specs.Decisions.{Filter}
use Rattle.core_machine.specs.Rules.{Renew, Stay, is_up}
use Rattle.core_setup.specs.Channels.{Channel, channels}
use Rattle.core_setup.specs.Protocols.{rules_of, sources}
use Rattle.core_setup.specs.Setup.{IsPipe, IsSource, Protocol, Setup}

abbrev pub all : Filter
all net route = Accept route.attrs

abbrev pub spec : ℕ → ImportSpec
spec n = record { src = record { num = n; def_med = 0; def_lp = 0 }; kind = Static; sender = None; ebgp = false; pref = 200; limit = None; fixed = [] }

abbrev pub static_in : List ℕ → ℕ → ℕ → Protocol
static_in name n table = record { name = name; body = IsSource (record { table = table; spec = spec n; filter = all; exports = None }) }

abbrev pub setup : Setup
setup = record {
  tables = (codes "master4", V4) ∷ (codes "master6", V6) ∷ (codes "t1", V4) ∷ (codes "t2", V4) ∷ [];
  protocols = static_in (codes "s") 0 0 ∷ static_in (codes "u") 1 3 ∷ record { name = codes "a"; body = IsPipe (record { primary = 0; peer = 2; export = all; import = all }) } ∷ record { name = codes "b"; body = IsPipe (record { primary = 2; peer = 3; export = all; import = all }) } ∷ [];
  cells = 1;
  choices = [];
  queries = [];
}

-- channels have their numbers in this order
pub names : map (λ (c : Channel). c.name) (channels setup) ≡ codes "a.export" ∷ codes "a.import" ∷ codes "b.export" ∷ codes "b.import" ∷ []
names = refl

-- s comes to t2 by a.export and b.export, u to master4 by b.import and a.import
pub way : (rules_of setup).hops 3 0 ≡ Some (2 ∷ 0 ∷ [])
way = refl

pub back : (rules_of setup).hops 0 1 ≡ Some (1 ∷ 3 ∷ [])
back = refl

-- each direction passes the source that comes by it
pub passed0 : sources setup 0 ≡ 0 ∷ []
passed0 = refl

pub passed1 : sources setup 1 ≡ 1 ∷ []
passed1 = refl

pub passed2 : sources setup 2 ≡ 0 ∷ []
passed2 = refl

pub passed3 : sources setup 3 ≡ 1 ∷ []
passed3 = refl

pub belong : (rules_of setup).belong 3 ≡ 2 ∷ 3 ∷ []
belong = refl

-- the pipe a is down behind a disable, and up again behind an enable
pub down : is_up (rules_of setup) 2 (Disable ∷ []) ≡ false
down = refl

pub again : is_up (rules_of setup) 2 (Enable ∷ Disable ∷ []) ≡ true
again = refl

pub twice : ((rules_of setup).gives 2 (Disable ∷ []) Disable).signal ≡ Stay
twice = refl

pub fresh : ((rules_of setup).gives 2 (Enable ∷ Disable ∷ []) ReloadIn).signal ≡ Renew
fresh = refl
