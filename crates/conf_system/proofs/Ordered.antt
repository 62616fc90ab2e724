-- In an accepted configuration each filter sees only functions that were declared before it, is never
-- stuck, and takes few steps.
use Rattle.std.proofs.Common.{◌≡◌, ◌∙◌, ap, sym, ℕ, ◌≤◌, ◌*◌, All, Contains, List, [], ◌∷◌, ◌++◌, Option, None, Result, Bool, true, false, append_assoc, append-nil, refl, length, take, subst, arith}
use Rattle.std.proofs.lemmas.List.Elements.{All-cons, All-take}
use Rattle.std.specs.Prelude.{IfOk, IfSome}
use Rattle.attrs.specs.declared.attributes.Attrs.{Attrs}
use Rattle.bits_ip.specs.declared.memory.OutOfMemory.{OutOfMemory}
use Rattle.conf_ast.specs.Configurations as conf
use Rattle.conf_ast.specs.Configurations.{FamilyChannel, Passing, PassAll, PassNone, PassByFilter, PassByBlock, PassWhere}
use Rattle.conf_ast.specs.Filters.{Expression, Statements}
use Rattle.filt_laws.specs.Sound.{Agrees}
use Rattle.filt_meaning.specs.Configuration.{body, filter_where}
use Rattle.filt_meaning.specs.Flow.{Stopped, Stuck}
use Rattle.filt_meaning.specs.Names.{Around, Context}
use Rattle.filt_types.specs.Refused.{of_filter}
use Rattle.filt_meaning.specs.Scopes.{constant_values, context_of, function_trees}
use Rattle.filt_meaning.specs.Steps.{filter_steps}
use Rattle.filt_meaning.specs.Trees.{AreBefore, tree_flow}
use Rattle.filt_meaning.specs.declared.scope.Scope.{Scope}
use Rattle.filt_meaning.specs.declared.scope.TFunction.{TFunction}
use Rattle.filt_meaning.specs.declared.tree.TFilter.{TFilter}
use Rattle.filt_types.specs.Refusals.{first_in}
use Rattle.filt_types.specs.Scenes.{Scene}
use Rattle.filt_types.specs.Seen.{scene_of}
use Rattle.filt_types.specs.Statements.{in_filter}
use Rattle.filt_types.specs.Weight.{block_weight}
use Rattle.conf_names.specs.Known.{Known}
use Rattle.conf_rules.specs.Protocols.{bgp_channels, static_channels}
use Rattle.conf_check.specs.Behind.{at_start, behind}
use Rattle.conf_check.specs.Checked.{AreProtocols, Does, DoEach, IsBody, IsChannel, IsChecked, IsOnly, IsPolicy, IsProtocol, NextProtocol, Source, filter_sources, is_protocol}
use Rattle.conf_check.specs.declared.checked.ChannelDef.{ChannelDef}
use Rattle.conf_check.specs.declared.checked.PolicyDef.{PolicyDef}
use Rattle.conf_check.specs.declared.checked.PolicyDef.TheVariants as policies
use Rattle.conf_check.specs.declared.checked.ProtocolBody.{ProtocolBody}
use Rattle.conf_check.specs.declared.checked.ProtocolBody.TheVariants as bodies
use Rattle.conf_check.specs.declared.checked.ProtocolDef.{ProtocolDef}
use Rattle.conf_options.specs.Defaults.{bgp_preference, export_or, import_or, static_preference}
use Rattle.conf_options.specs.Options.{no_channel_options, no_pipe_options, pipe_options}
use Rattle.conf_rules.specs.Channels.{options_of, settings_of}
use Rattle.conf_system.specs.Behind.{context_behind, scene_behind}
use Rattle.conf_system.specs.Coded.{AllCanRun, AreWithin, BodyCanRun, CanRun, ChannelCanRun, CanRunOver, IsTyped, PolicyCanRun, ProtocolCanRun}
use Rattle.conf_system.specs.Written.{IsWritten, filters_in, in_policy}
use Rattle.conf_system.specs.declared.system.System.{System as Held}
use Rattle.conf_system.proofs.Conditions.{none_left}
use Rattle.conf_system.proofs.Every.{Every, members, weaker}
use Rattle.conf_system.proofs.Fine.{condition_fine}
use Rattle.conf_system.proofs.Last.{OfChannel, of_bgp, of_channel_options, of_export, of_import, of_pipe_options, of_static}
use Rattle.conf_system.proofs.Named.{named_written}

-- The filters that are written in these statements are never stuck.
abbrev pub AreNeverStuck : List ℕ → List conf.Declaration → Type 0
AreNeverStuck text all = (before : List conf.Declaration) (ss : Statements) → IsWritten all before ss → (around : Around) (attrs after : Attrs) → body (context_behind text around before) [] ss [] attrs ≡ Stopped Stuck after → ⊥

-- None of them is too heavy.
abbrev pub AreShort : List ℕ → List conf.Declaration → Type 0
AreShort text all = (before : List conf.Declaration) (ss : Statements) → IsWritten all before ss → block_weight (scene_behind text before) ss ≤ 10000000

-- what a filter takes over functions behind which there are none
alone : (fs : List TFunction) (f : TFilter) (most : ℕ) → ((more : List TFunction) → filter_steps (fs ++ more) f ≤ most) → filter_steps fs f ≤ most
alone fs f most h = subst (λ (l : List TFunction). filter_steps l f ≤ most) (append-nil fs) (h [])

-- ---- policies

module _ (text : List ℕ) (held : Held) (all : List conf.Declaration) (safe : AreNeverStuck text all) (short : AreShort text all) where
  does_run : (before : List conf.Declaration) (ss : Statements) (f : TFilter) → IsWritten all before ss → Does text held.checked.declared.scope before ss f → CanRunOver held f
  does_run before ss f w is = record {
    before = is.sees;
    never_stuck = λ around attrs after e. safe before ss w around attrs after (sym (is.comes_to around attrs) ∙ e);
    light =
        let scope = held.checked.declared.scope in
        let own : filter_steps (function_trees scope) f ≤ 5 * block_weight (scene_behind text before) ss = alone (function_trees scope) f (5 * block_weight (scene_behind text before) ss) is.steps in
        omega (arith, own, short before ss w);
  }

  module _ (known : Known) (before : List conf.Declaration) where
    abbrev Here : Statements → TFilter → Type 0
    Here = Does text held.checked.declared.scope before

    abbrev Written : Statements → Type 0
    Written ss = IsWritten all before ss

    policy_before : (passing : Passing) (policy : PolicyDef) → Every Written (in_policy passing) → IsPolicy known Here passing policy → PolicyCanRun held policy
    policy_before passing policies.All w is = tt
    policy_before passing policies.None w is = tt
    policy_before passing (policies.Filter n) w is = tt
    policy_before (PassByBlock at ss) (policies.Own f) w is = does_run before ss f w.0 is
    policy_before (PassWhere at e) (policies.Own f) w is = does_run before (filter_where e) f w.0 is
    policy_before PassAll (policies.Own f) w is = absurd is
    policy_before PassNone (policies.Own f) w is = absurd is
    policy_before (PassByFilter at name) (policies.Own f) w is = absurd is

    channel_before : (n : ℕ) (c : FamilyChannel) (def : ChannelDef) → OfChannel Written c → IsChannel known Here n c def → ChannelCanRun held def
    channel_before n c def w is =
        let o = options_of c in
        let written = of_channel_options Written no_channel_options (settings_of c) (tt, tt) w in (
          policy_before (import_or o.import) def.import (of_import Written o.import written.0) is.imports,
          policy_before (export_or o.export) def.export (of_export Written o.export written.1) is.exports,
        )

    only_before : (n : ℕ) (cs : List FamilyChannel) (def : ChannelDef) → Every (OfChannel Written) cs → IsOnly (λ c. IsChannel known Here n c def) cs → ChannelCanRun held def
    only_before n [] def w is = absurd is
    only_before n (c ∷ []) def w is = channel_before n c def w.0 is
    only_before n (c ∷ d ∷ more) def w is = absurd is

    body_before : (d : conf.Declaration) (body : ProtocolBody) → Every Written (filters_in d) → IsBody known Here d body → BodyCanRun held body
    body_before (conf.Static p) (bodies.Static def) w is = only_before static_preference (static_channels p.settings) def.channel (of_static Written p.settings w) is.channel
    body_before (conf.Bgp p) (bodies.Bgp def) w is = only_before bgp_preference (bgp_channels p.settings) def.channel (of_bgp Written p.settings w) is.channel
    body_before (conf.Pipe p) (bodies.Pipe def) w is =
        let o = pipe_options p.settings in
        let written = of_pipe_options Written no_pipe_options p.settings (tt, tt) w in (
          policy_before (import_or o.import) def.import (of_import Written o.import written.0) is.imports,
          policy_before (export_or o.export) def.export (of_export Written o.export written.1) is.exports,
        )
    body_before (conf.Static p) (bodies.Bgp def) w is = absurd is
    body_before (conf.Static p) (bodies.Pipe def) w is = absurd is
    body_before (conf.Bgp p) (bodies.Static def) w is = absurd is
    body_before (conf.Bgp p) (bodies.Pipe def) w is = absurd is
    body_before (conf.Pipe p) (bodies.Static def) w is = absurd is
    body_before (conf.Pipe p) (bodies.Bgp def) w is = absurd is
    body_before (conf.RouterId a) body w is = absurd is
    body_before conf.Log body w is = absurd is
    body_before (conf.Define name v) body w is = absurd is
    body_before (conf.Table at family name) body w is = absurd is
    body_before (conf.DefineFunction f) body w is = absurd is
    body_before (conf.DefineFilter at name ss) body w is = absurd is
    body_before (conf.Device name semicolon) body w is = absurd is

  -- ---- all that is held

  filters_before : (sources : List Source) (fs : List TFilter) → Every (λ (s : Source). IsWritten all s.0 s.1) sources → DoEach (Does text held.checked.declared.scope) sources fs → All (CanRunOver held) fs
  filters_before [] [] w each = λ k d below. absurd (omega (arith, below))
  filters_before [] (f ∷ fs) w each = absurd each
  filters_before (s ∷ sources) [] w each = absurd each
  filters_before (s ∷ sources) (f ∷ fs) w each = All-cons (CanRunOver held) f fs (does_run s.0 s.1 f w.0 each.0) (filters_before sources fs w.1 each.1)

  next_before : (b : Bool) (is : ProtocolDef → Type 0) (rest : List ProtocolDef → Type 0) → ((def : ProtocolDef) → is def → ProtocolCanRun held def) → ((defs : List ProtocolDef) → rest defs → All (ProtocolCanRun held) defs)
      → (defs : List ProtocolDef) → NextProtocol b is rest defs → All (ProtocolCanRun held) defs
  next_before false is rest one more defs h = more defs h
  next_before true is rest one more [] h = absurd h
  next_before true is rest one more (def ∷ defs) h = All-cons (ProtocolCanRun held) def defs (one def h.0) (more defs h.1)

  written_in : (before ds : List conf.Declaration) (d : conf.Declaration) → all ≡ before ++ d ∷ ds → Every (IsWritten all before) (filters_in d)
  written_in before ds d is = weaker (λ ss. Contains (filters_in d) ss) (IsWritten all before) (λ ss c. (d, ds, is, c)) (filters_in d) (members (filters_in d))

  protocols_before : (before ds : List conf.Declaration) (defs : List ProtocolDef) → all ≡ before ++ ds → AreProtocols text (Does text held.checked.declared.scope) before ds defs → All (ProtocolCanRun held) defs
  protocols_before before [] [] is are = λ k d below. absurd (omega (arith, below))
  protocols_before before [] (def ∷ defs) is are = absurd are
  protocols_before before (d ∷ ds) defs is are =
      next_before (is_protocol d) (IsProtocol (behind (at_start text) before) (Does text held.checked.declared.scope before) d) (AreProtocols text (Does text held.checked.declared.scope) (before ++ d ∷ []) ds)
      (λ def made. body_before (behind (at_start text) before) before d def.body (written_in before ds d is) made.body)
      (λ more. protocols_before (before ++ d ∷ []) ds more (is ∙ sym (append_assoc before (d ∷ []) ds))) defs are

-- ---- types

-- the same over another text
in_text : (text own : List ℕ) (around : Around) (scope : Scope) → Agrees (scene_of text scope) (context_of text around scope []) → Agrees (scene_of own scope) (context_of own around scope [])
in_text text own around scope a = record { source = refl; values = a.values; doings = a.doings }

-- What runs agrees with what is declared behind these statements.
abbrev pub Agree : List ℕ → List conf.Declaration → Type 0
Agree text ds = (around : Around) → Agrees (scene_behind text ds) (context_behind text around ds)

typed : (text : List ℕ) (ds : List conf.Declaration) (held : Held) → IsChecked text ds held.checked → Agree text ds → IsTyped held.checked.declared.scope
typed text ds held is agree own around =
    let scope = held.checked.declared.scope in
    in_text text own around scope
    (subst (λ (s : Scene). Agrees s (context_of text around scope [])) (ap (λ (k : Known). k.scene) (sym is.declared))
    (subst (λ (c : Context). Agrees (scene_behind text ds) c) (sym (is.scope around)) (agree around)))

pub ordered : (text : List ℕ) (ds : List conf.Declaration) (held : Held) → IsChecked text ds held.checked → AreNeverStuck text ds → AreShort text ds → Agree text ds → AllCanRun held
ordered text ds held is safe short agree = record {
  functions = is.within;
  typed = typed text ds held is agree;
  light = is.light;
  filters = filters_before text held ds safe short (filter_sources [] ds) held.checked.filters.items
      (weaker (λ (s : Source). Contains (filter_sources [] ds) s) (λ (s : Source). IsWritten ds s.0 s.1) (named_written ds) (filter_sources [] ds) (members (filter_sources [] ds)))
      is.filters;
  protocols = protocols_before text held ds safe short [] ds held.checked.protocols.items refl is.protocols;
}

-- ---- conditions

-- what is checked behind the whole scope sees no function that sees more than there is
within_before : (scope : Scope) (f : TFilter) → AreWithin scope → f.constants ≡ length (constant_values scope) → AreBefore (function_trees scope) f
within_before scope f within is =
    subst (λ (n : ℕ). All (λ (g : TFunction). g.constants ≤ n) (take f.functions (function_trees scope))) (sym is)
    (All-take (λ (g : TFunction). g.constants ≤ length (constant_values scope)) f.functions (function_trees scope) within)

-- What nothing is refused of is never stuck.
abbrev NeverStuck : Type 0
NeverStuck = (scene : Scene) (c : Context) → Agrees scene c → (ss : Statements) → in_filter scene ss ≡ [] → (attrs after : Attrs) → body c [] ss [] attrs ≡ Stopped Stuck after → ⊥

pub checked_before : NeverStuck → (text : List ℕ) (scope : Scope) (e : Expression) (f : TFilter) → AreWithin scope → IsTyped scope
    → first_in None (of_filter (scene_of text scope) 0 (filter_where e)) ≡ None → f.constants ≡ length (constant_values scope)
    → ((around : Around) (attrs : Attrs) → tree_flow around (constant_values scope) (function_trees scope) f attrs ≡ body (context_of text around scope []) [] (filter_where e) [] attrs)
    → ((more : List TFunction) → filter_steps (function_trees scope ++ more) f ≤ 50000000) → CanRun scope f
checked_before law text scope e f within types none is does light = record {
  before = within_before scope f within is;
  never_stuck = λ around attrs after stuck.
      law (scene_of text scope) (context_of text around scope []) (types text around) (filter_where e)
      (condition_fine (scene_of text scope) 0 (filter_where e) (none_left (of_filter (scene_of text scope) 0 (filter_where e)) none)).0
      attrs after (sym (does around attrs) ∙ stuck);
  light = alone (function_trees scope) f 50000000 light;
}

pub answered_before : (held : Held) (r : Result (Option TFilter) OutOfMemory) → (AreWithin held.checked.declared.scope → IsTyped held.checked.declared.scope → IfOk r (λ answer. IfSome answer (CanRun held.checked.declared.scope))) → AllCanRun held → IfOk r (λ answer. IfSome answer (CanRunOver held))
answered_before held r are is = are is.functions is.typed
