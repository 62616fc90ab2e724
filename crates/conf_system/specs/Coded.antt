-- For conditions of calls: that filters can run, since they see only functions that were declared
-- before them, are never stuck and take 50,000,000 steps at most (`AllCanRun`), which is so of each
-- accepted configuration, and that code is that of what is held and costs no more (`HasCode`).
-- From: own.
use Rattle.std.specs.Prelude.{◌≡◌, ◌≤◌, ℕ, All, List, [], length, map, ⊤}
use Rattle.conf_check.specs.Checked as checks
use Rattle.conf_check.specs.declared.checked.ChannelDef.{ChannelDef}
use Rattle.conf_check.specs.declared.checked.PolicyDef.{PolicyDef}
use Rattle.conf_check.specs.declared.checked.PolicyDef.TheVariants as policies
use Rattle.conf_check.specs.declared.checked.ProtocolBody.{ProtocolBody}
use Rattle.conf_check.specs.declared.checked.ProtocolBody.TheVariants as bodies
use Rattle.conf_check.specs.declared.checked.ProtocolDef.{ProtocolDef}
use Rattle.filt_code.specs.declared.code.Draft.{Draft}
use Rattle.filt_code.specs.declared.code.Routine.{Routine}
use Rattle.filt_compile.specs.Compiles.{AreCompiled, AreLight, CostTheirSteps, draft_cost}
use Rattle.filt_laws.specs.Sound.{Agrees}
use Rattle.filt_meaning.specs.Names.{Around}
use Rattle.filt_meaning.specs.Steps.{filter_steps}
use Rattle.filt_meaning.specs.Scopes.{constant_values, context_of, function_trees}
use Rattle.filt_meaning.specs.Trees.{AreBefore, IsNeverStuck}
use Rattle.filt_meaning.specs.declared.scope.Scope.{Scope}
use Rattle.filt_meaning.specs.declared.scope.TFunction.{TFunction}
use Rattle.filt_meaning.specs.declared.tree.TFilter.{TFilter}
use Rattle.filt_types.specs.Seen.{scene_of}
use Rattle.conf_system.specs.Seen.{draft_flow, filter_flow}
use Rattle.conf_system.specs.declared.code.Code.{Code}
use Rattle.conf_system.specs.declared.system.System.{System as Held}

-- ---- filters that can run

-- no function of the scope sees more constants than there are
abbrev pub AreWithin : Scope → Type 0
AreWithin scope =
    All (λ (g : TFunction). g.constants ≤ length (constant_values scope)) (function_trees scope)

-- What runs over the scope is what the rules of types see of it, over whatever text.
abbrev pub IsTyped : Scope → Type 0
IsTyped scope =
    (text : List ℕ) (around : Around) → Agrees (scene_of text scope) (context_of text around scope [])

-- The functions that the filter sees were declared before it, it is never stuck, and takes five steps
-- for each that a filter may weigh at most.
pub record CanRun (scope : Scope) (f : TFilter) : Type 0 where
  pub before : AreBefore (function_trees scope) f
  pub never_stuck : IsNeverStuck (constant_values scope) (function_trees scope) f
  pub light : filter_steps (function_trees scope) f ≤ 50000000

-- so over what is held
abbrev pub CanRunOver : Held → TFilter → Type 0
CanRunOver held f = CanRun held.checked.declared.scope f

-- so of a policy's own filter, where it has one
abbrev pub PolicyCanRun : Held → PolicyDef → Type 0
PolicyCanRun held policies.All = ⊤
PolicyCanRun held policies.None = ⊤
PolicyCanRun held (policies.Filter n) = ⊤
PolicyCanRun held (policies.Own f) = CanRunOver held f

abbrev pub ChannelCanRun : Held → ChannelDef → Type 0
ChannelCanRun held def = PolicyCanRun held def.import × PolicyCanRun held def.export

abbrev pub BodyCanRun : Held → ProtocolBody → Type 0
BodyCanRun held (bodies.Static def) = ChannelCanRun held def.channel
BodyCanRun held (bodies.Bgp def) = ChannelCanRun held def.channel
BodyCanRun held (bodies.Pipe def) = PolicyCanRun held def.import × PolicyCanRun held def.export

abbrev pub ProtocolCanRun : Held → ProtocolDef → Type 0
ProtocolCanRun held def = BodyCanRun held def.body

-- so of all that is held
pub record AllCanRun (held : Held) : Type 0 where
  pub functions : AreWithin held.checked.declared.scope
  pub typed : IsTyped held.checked.declared.scope
  pub light : checks.AreLight (function_trees held.checked.declared.scope)
  pub filters : All (CanRunOver held) held.checked.filters.items
  pub protocols : All (ProtocolCanRun held) held.checked.protocols.items

-- ---- code

-- Where no filter takes more than `most`, over functions that take five steps for each that they weigh
-- at most, no code costs more, over the code of these functions.
abbrev pub CostTheirFilters : List Routine → List TFilter → List Draft → Type 0
CostTheirFilters functions filters drafts =
    (trees : List TFunction) → CostTheirSteps trees functions → AreLight [] trees → (most : ℕ)
    → All (λ (f : TFilter). filter_steps trees f ≤ most) filters
    → All (λ (d : Draft). draft_cost functions d ≤ most) drafts

-- The code of the functions does what the functions do, and that of each filter by name comes to
-- what the filter comes to; no function costs more than it takes, and no filter more than 50,000,000.
pub record HasCode (held : Held) (code : Code) : Type 0 where
  pub ordered : AllCanRun held
  pub functions : AreCompiled (constant_values held.checked.declared.scope) []
      (function_trees held.checked.declared.scope) code.functions.items
  pub filters : map (draft_flow code.functions.items) code.filters.items
      ≡ map (filter_flow held.checked.declared.scope) held.checked.filters.items
  pub functions_cost : CostTheirSteps (function_trees held.checked.declared.scope) code.functions.items
  pub filters_cost : All (λ (d : Draft). draft_cost code.functions.items d ≤ 50000000) code.filters.items
