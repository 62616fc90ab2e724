-- What contracts see of an importer (`Importing`: a protocol, its filter, its state); that a step
-- leads to the next state (`IsNext`), and that protocol and filter stay (`KeepsSpec`).
-- Not modelled: how the routes are kept.
-- From: own.
-- Example: the state after two operations is that of `after_operations` of both.
use Rattle.std.specs.Prelude.{◌≡◌, Bool, true, false}
use Rattle.bits_ip.specs.Prefix.{Net}
use Rattle.attrs.specs.declared.attributes.Kind.{Kind}
use Rattle.attrs.specs.declared.attributes.Kind.TheVariants.{Static, Bgp}
use Rattle.attrs.specs.declared.route.Route.{Route}
use Rattle.import_core.specs.declared.import_spec.ImportSpec.{ImportSpec}
use Rattle.import_core.specs.declared.mode.Mode.{Mode}
use Rattle.import_core.specs.declared.mode.Mode.TheVariants.{Idle, Up, Disabled, Limited}
use Rattle.import_core.specs.declared.step.Step.{Step}
use Rattle.import_core.specs.Changes.{IsStep}
use Rattle.import_core.specs.Decisions.{Outcome}
use Rattle.import_core.specs.Imports.{Imports, with_route}

-- a protocol, its filter and the state of its imports
pub record Importing (J : Type 0) : Type 0 where
  pub spec : ImportSpec
  pub judge : J
  pub imports : Imports

-- the protocol and its filter stay
pub record KeepsSpec {J : Type 0} (old new : Importing J) : Type 0 where
  pub spec : new.spec ≡ old.spec
  pub judge : new.judge ≡ old.judge

-- the step is what the outcome says, and the state its state
abbrev pub IsNext : {J : Type 0} → Importing J → Outcome → Importing J → Step → Type 0
IsNext old o new step = IsStep old.spec old.imports o new.imports step

-- a static protocol that has not started
abbrev pub is_unstarted : Kind → Mode → Bool
is_unstarted Static Idle = true
is_unstarted Static Up = false
is_unstarted Static Disabled = false
is_unstarted Static Limited = false
is_unstarted Bgp mode = false

-- a protocol of BGP without a session
abbrev pub is_closed : Kind → Mode → Bool
is_closed Bgp Idle = true
is_closed Bgp Up = false
is_closed Bgp Disabled = false
is_closed Bgp Limited = false
is_closed Static mode = false

-- with this route received of a net
abbrev pub receiving : Net → Route → Imports → Imports
receiving net route i = record i { received = with_route net route i.received }
