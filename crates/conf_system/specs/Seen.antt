-- What is configured, in memory, as the definitions see it (`system_of`, which is to be believed);
-- the rest is for private contracts.
-- From: own.
use Rattle.std.specs.Prelude.{◌≡◌, ⊤, ℕ, List, [], map, Option, Some, None, slice_get}
use Rattle.attrs.specs.declared.attributes.Attrs.{Attrs}
use Rattle.attrs.specs.declared.judge.Verdict.TheVariants as verdicts
use Rattle.conf_tree.specs.Position.{IsPlace}
use Rattle.conf_ast.specs.declared.kind.ConfFault.{ConfFault}
use Rattle.conf_ast.specs.declared.kind.ConfFault.TheVariants as conf_faults
use Rattle.conf_check.specs.declared.checked.BgpDef.{BgpDef}
use Rattle.conf_check.specs.declared.checked.ChannelDef.{ChannelDef}
use Rattle.conf_check.specs.declared.checked.PipeDef.{PipeDef}
use Rattle.conf_check.specs.declared.checked.PolicyDef.{PolicyDef}
use Rattle.conf_check.specs.declared.checked.PolicyDef.TheVariants as policies
use Rattle.conf_check.specs.declared.checked.ProtocolBody.{ProtocolBody}
use Rattle.conf_check.specs.declared.checked.ProtocolBody.TheVariants as bodies
use Rattle.conf_check.specs.declared.checked.ProtocolDef.{ProtocolDef}
use Rattle.conf_check.specs.declared.checked.StaticDef.{StaticDef}
use Rattle.conf_ast.specs.Filters.{Expression}
use Rattle.filt_meaning.specs.Configuration as meaning
use Rattle.filt_meaning.specs.Configuration.{around_route, filter_where}
use Rattle.filt_meaning.specs.Flow.{Flow, Frame}
use Rattle.filt_meaning.specs.Names.{Around}
use Rattle.filt_code.specs.Codes.{IsNeverStuck, code_flow, code_judged}
use Rattle.filt_code.specs.declared.code.Draft.{Draft}
use Rattle.filt_code.specs.declared.code.Routine.{Routine}
use Rattle.filt_types.specs.Refused.{of_filter}
use Rattle.filt_types.specs.Seen.{scene_of}
use Rattle.filt_meaning.specs.Scopes.{constant_values, context_of, function_trees, named}
use Rattle.filt_meaning.specs.Trees.{judged, tree_flow}
use Rattle.filt_meaning.specs.declared.scope.Scope.{Scope}
use Rattle.filt_meaning.specs.declared.scope.TFunction.{TFunction}
use Rattle.filt_meaning.specs.declared.tree.TFilter.{TFilter}
use Rattle.filt_meaning.specs.declared.fixed.Fixed.{Fixed}
use Rattle.conf_system.specs.Asked.{Asked, unless_refused}
use Rattle.conf_system.specs.Policies.{Filter}
use Rattle.conf_system.specs.System.{Bgp, Body, Channel, IsBgp, IsPipe, IsStatic, Pipe, Protocol, Static, System}
use Rattle.conf_system.specs.declared.system.System.{System as Held}
use Rattle.conf_system.specs.declared.passes.Rule.{Rule}
use Rattle.conf_system.specs.declared.passes.Rule.TheVariants as rules
use Rattle.conf_system.specs.declared.read.SystemFault.{SystemFault}
use Rattle.conf_system.specs.declared.read.SystemFault.TheVariants as faults

-- what the tree of a filter says over a scope, where protocols have these names
abbrev pub tree_says : Scope → (names : List (List ℕ)) → TFilter → Filter
tree_says scope names f net route =
    judged (around_route names net route) (constant_values scope) (function_trees scope) f
    route.attrs

-- what it comes to over these constants and functions
abbrev pub flow_over : List Fixed → List TFunction → TFilter → Around → Attrs → Flow Frame
flow_over constants functions f around attrs = tree_flow around constants functions f attrs

abbrev pub filter_flow : Scope → TFilter → Around → Attrs → Flow Frame
filter_flow scope f = flow_over (constant_values scope) (function_trees scope) f

-- what the code of a filter comes to over that of functions
abbrev pub draft_flow : List Routine → Draft → Around → Attrs → Flow Frame
draft_flow functions draft around attrs = code_flow around functions draft attrs

-- what it says
abbrev pub draft_says : List Routine → (names : List (List ℕ)) → Draft → Filter
draft_says functions names draft net route =
    code_judged (around_route names net route) functions draft route.attrs

-- so of a filter by its number
abbrev pub drafted : List Routine → (names : List (List ℕ)) → Option Draft → Filter
drafted functions names None net route = verdicts.Reject None
drafted functions names (Some draft) net route = draft_says functions names draft net route

-- what a judge says that goes by this rule
abbrev pub rule_says : List Routine → (names : List (List ℕ)) → Rule → Filter
rule_says functions names rules.All net route = verdicts.Accept route.attrs
rule_says functions names rules.None net route = verdicts.Reject None
rule_says functions names (rules.Filter draft) net route =
    draft_says functions names draft.now net route
rule_says functions names (rules.Own draft) net route =
    draft_says functions names draft net route

-- What is run by this rule is never stuck over these functions.
abbrev pub IsRuleNeverStuck : List Routine → Rule → Type 0
IsRuleNeverStuck functions rules.All = ⊤
IsRuleNeverStuck functions rules.None = ⊤
IsRuleNeverStuck functions (rules.Filter draft) = IsNeverStuck functions draft.now
IsRuleNeverStuck functions (rules.Own draft) = IsNeverStuck functions draft

-- a judge by its rule, over the code of the functions, with the names of the protocols
pub record Judging : Type 0 where
  pub functions : List Routine
  pub names : List (List ℕ)
  pub rule : Rule

-- What policies and protocols do over a scope with these filters by number, where protocols have
-- these names.
module _ (scope : Scope) (filters : List TFilter) (names : List (List ℕ)) where
  abbrev pub numbered : Option TFilter → Filter
  numbered None net route = verdicts.Reject None
  numbered (Some f) net route = tree_says scope names f net route

  abbrev pub policy_says : PolicyDef → Filter
  policy_says policies.All net route = verdicts.Accept route.attrs
  policy_says policies.None net route = verdicts.Reject None
  policy_says (policies.Filter n) net route = numbered (slice_get filters n) net route
  policy_says (policies.Own f) net route = tree_says scope names f net route

  abbrev pub channel_seen : ChannelDef → Channel
  channel_seen def = record {
    family = def.family;
    table = def.table;
    import = policy_says def.import;
    export = policy_says def.export;
    preference = def.preference;
    limit = def.limit;
  }

  abbrev pub static_seen : StaticDef → Static
  static_seen def = record { channel = channel_seen def.channel; routes = def.routes }

  abbrev pub bgp_seen : BgpDef → Bgp
  bgp_seen def = record {
    local = def.local;
    neighbor = def.neighbor;
    remote = def.remote;
    interpret_communities = def.interpret_communities;
    default_med = def.default_med;
    default_local_pref = def.default_local_pref;
    channel = channel_seen def.channel;
  }

  abbrev pub pipe_seen : PipeDef → Pipe
  pipe_seen def = record {
    family = def.family;
    table = def.table;
    peer = def.peer;
    import = policy_says def.import;
    export = policy_says def.export;
  }

  abbrev pub body_seen : ProtocolBody → Body
  body_seen (bodies.Static def) = IsStatic (static_seen def)
  body_seen (bodies.Bgp def) = IsBgp (bgp_seen def)
  body_seen (bodies.Pipe def) = IsPipe (pipe_seen def)

  abbrev pub protocol_seen : ProtocolDef → Protocol
  protocol_seen def = record { name = def.name; body = body_seen def.body }

-- what a condition of this text asks for over a scope, where protocols have these names
abbrev pub asked_over : Scope → (names : List (List ℕ)) → (text : List ℕ) → Expression → Asked
asked_over scope names text e =
    unless_refused (of_filter (scene_of text scope) 0 (filter_where e))
    (λ net route. meaning.judged (context_of text (around_route names net route) scope [])
    (filter_where e) route.attrs)

-- what the tree of a filter says over what is held
abbrev pub filter_says : Held → TFilter → Filter
filter_says held f = tree_says held.checked.declared.scope held.names f

-- what is configured, where it is held so
abbrev pub system_of : Held → System
system_of held = record {
  tables = map (λ e. (e.0.items, e.1)) held.checked.declared.tables.entries;
  filters = named (map (λ name. name.items) held.checked.declared.filters.keys)
      (map (filter_says held) held.checked.filters.items);
  asked = asked_over held.checked.declared.scope held.names;
  protocols = map
      (protocol_seen held.checked.declared.scope held.checked.filters.items held.names)
      held.checked.protocols.items;
}

-- the fault tells this one of the text, at its line and column
abbrev pub IsTold : List ℕ → ConfFault → SystemFault → Type 0
IsTold text (conf_faults.Refused at kind) (faults.Refused line column other) =
    (other ≡ kind) × IsPlace text at line column
IsTold text conf_faults.Memory faults.Memory = ⊤
IsTold text _ _ = ⊥
