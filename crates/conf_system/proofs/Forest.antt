-- The pipes of an accepted configuration close no cycle.
use Rattle.std.proofs.Common.{◌≡◌, ◌∙◌, sym, ap, subst, refl, ℕ, Bool, false, List, [], ◌∷◌, ◌++◌, map, Option, Some, None, option_map, option_to_list, append-nil, append_assoc}
use Rattle.std.specs.Prelude.{if◌then◌else◌}
use Rattle.conf_ast.specs.Configurations as conf
use Rattle.conf_ast.specs.Configurations.{BgpSetting, FamilyChannel, Instance, Passing, PipeSetting}
use Rattle.conf_ast.specs.declared.named.Name.{Name}
use Rattle.conf_ast.specs.Names.{name_bytes}
use Rattle.bits_ip.specs.declared.address.Family.{Family}
use Rattle.filt_meaning.specs.Names.{named_in}
use Rattle.conf_names.specs.declared.joints.Joint.{Joint}
use Rattle.conf_names.specs.Joints.{IsForest, JoinsApart, joined}
use Rattle.conf_names.specs.Known.{Known, known_number, table_number, table_of}
use Rattle.conf_options.specs.Options.{pipe_options}
use Rattle.conf_rules.specs.Protocols.{bgp_channels, cycle, joint, joint_of, peer_number, pipe, primary_name, primary_number, static_channels, static_routes}
use Rattle.conf_names.specs.Names.{place_of}
use Rattle.conf_names.specs.Refusals.{first_in}
use Rattle.conf_rules.specs.Statements.{is_master, refusals}
use Rattle.conf_check.specs.Behind.{at_start, behind, behind_one, with_table}
use Rattle.conf_check.specs.Checked.{Source, filter_sources, or_v4, protocol_name, route_of}
use Rattle.conf_check.specs.declared.checked.StaticRoute.{StaticRoute as Routed}
use Rattle.conf_check.specs.Refused.{refusal_of}
use Rattle.conf_check.proofs.Allowed.{none_refused}
use Rattle.conf_system.specs.Pipes.{pipe_of, pipes_of}
use Rattle.conf_system.specs.Policies.{Filter, says}
use Rattle.conf_system.specs.System as of
use Rattle.conf_system.specs.System.{Body, Protocol, System, body_of, names_in, protocols_behind, system_in, with_body}
use Rattle.conf_system.specs.Tables.{Tables}
use Rattle.conf_system.specs.Texts.{IsSystem, refused_in}
use Rattle.conf_system.proofs.Accepted.{behind_push, neither}
use Rattle.conf_system.proofs.TablesThere.{Masters, are_two, has_peer, masters_first, no_cycle, not_refused}

-- what a statement adds to the pipes
abbrev joints : Option Body → List Joint
joints None = []
joints (Some body) = pipe_of body

with_pipes : (name : List ℕ) (body : Option Body) (rest : List Protocol) → pipes_of (with_body name body rest) ≡ joints body ++ pipes_of rest
with_pipes name None rest = refl
with_pipes name (Some body) rest = refl

-- the pipes behind a statement, which join tables apart
abbrev Step : Known → (after : List Joint) → Option Body → Type 0
Step known after body = (after ≡ known.pipes ++ joints body) × JoinsApart known.pipes (joints body)

same_pipes : (known : Known) → Step known known.pipes None
same_pipes known = (sym (append-nil known.pipes), tt)

table_pipes : (known : Known) (b : Bool) (name : List ℕ) (f : Family) → Step known (if b then known else with_table known name f).pipes None
table_pipes known Bool.true name f = same_pipes known
table_pipes known Bool.false name f = same_pipes known

number_is : (known : Known) (name : List ℕ) (f : Family) → named_in known.tables name ≡ Some f → known_number known name ≡ Some (table_number known name)
number_is known name f is = ap (λ (o : Option Family). option_map (λ (x : Family). table_number known name) o) is

not_joined : (known : Known) (at : ℕ) (o : Option Joint) (j : Joint) → o ≡ Some j → cycle known at o ≡ [] → joined known.pipes j.table j.peer ≡ false
not_joined known at o j is h = not_refused (joined known.pipes j.table j.peer) at _ (sym (ap (λ (x : Option Joint). cycle known at x) is) ∙ h)

pipe_step : (said : Passing → Filter) (known : Known) (more : Tables) (p : Instance PipeSetting) (peer : Option Name) → known.tables ≡ Masters more → (pipe_options p.settings).peer ≡ peer → pipe known p ≡ []
    → Step known (known.pipes ++ option_to_list (joint_of known p.settings)) (of.pipe_with said known peer p.settings)
pipe_step said known more p None masters is h = absurd (has_peer known p h is)
pipe_step said known more p (Some name) masters is h =
    let two = are_two known p name more masters is h in
    let primary = primary_name known.scene.text (pipe_options p.settings).table in
    let j : Joint = record { table = table_number known primary; peer = table_number known (name_bytes known.scene.text name) } in
    let joins : joint_of known p.settings ≡ Some j =
    ap (λ (o : Option Name). joint (primary_number known (pipe_options p.settings).table) (peer_number known o)) is
    ∙ ap (λ (o : Option ℕ). joint o (peer_number known (Some name))) (number_is known primary (or_v4 (table_of known name)) two.primary)
    ∙ ap (λ (o : Option ℕ). joint (Some (table_number known primary)) o) (number_is known (name_bytes known.scene.text name) (or_v4 (table_of known name)) two.other) in
    (ap (λ (o : Option Joint). known.pipes ++ option_to_list o) joins, (not_joined known (place_of p.at p.name) (joint_of known p.settings) j joins (no_cycle known p h), tt))

-- a protocol that is no pipe
no_pipe : (known : Known) (body : Option Body) → joints body ≡ [] → Step known known.pipes body
no_pipe known body none = (sym (append-nil known.pipes) ∙ ap (λ (l : List Joint). known.pipes ++ l) (sym none), subst (λ (l : List Joint). JoinsApart known.pipes l) (sym none) tt)

static_none : (said : Passing → Filter) (known : Known) (cs : List FamilyChannel) (routes : List Routed) → joints (of.static_with said known cs routes) ≡ []
static_none said known [] routes = refl
static_none said known (c ∷ []) routes = refl
static_none said known (c ∷ d ∷ cs) routes = refl

bgp_none : (said : Passing → Filter) (known : Known) (cs : List FamilyChannel) (ss : List BgpSetting) → joints (of.bgp_with said known cs ss) ≡ []
bgp_none said known [] ss = refl
bgp_none said known (c ∷ []) ss = refl
bgp_none said known (c ∷ d ∷ cs) ss = refl

step : (said : Passing → Filter) (known : Known) (more : Tables) (d : conf.Declaration) → known.tables ≡ Masters more → refusals known d ≡ [] → Step known (behind_one known d).pipes (body_of said known d)
step said known more (conf.RouterId a) masters h = same_pipes known
step said known more conf.Log masters h = same_pipes known
step said known more (conf.Define name v) masters h = same_pipes known
step said known more (conf.Table at family name) masters h = table_pipes known (is_master known family name) (name_bytes known.scene.text name) family
step said known more (conf.DefineFunction f) masters h = same_pipes known
step said known more (conf.DefineFilter at name ss) masters h = same_pipes known
step said known more (conf.Device name semicolon) masters h = same_pipes known
step said known more (conf.Static p) masters h = no_pipe known (body_of said known (conf.Static p)) (static_none said known (static_channels p.settings) (map route_of (static_routes p.settings)))
step said known more (conf.Bgp p) masters h = no_pipe known (body_of said known (conf.Bgp p)) (bgp_none said known (bgp_channels p.settings) p.settings)
step said known more (conf.Pipe p) masters h = pipe_step said known more p (pipe_options p.settings).peer masters refl h

-- ---- all statements

apart_all : (before xs ys : List Joint) → JoinsApart before xs → JoinsApart (before ++ xs) ys → JoinsApart before (xs ++ ys)
apart_all before [] ys h k = subst (λ (l : List Joint). JoinsApart l ys) (append-nil before) k
apart_all before (x ∷ xs) ys h k = (h.0, apart_all (before ++ x ∷ []) xs ys h.1 (subst (λ (l : List Joint). JoinsApart l ys) (sym (append_assoc before (x ∷ []) xs)) k))

module _ (text : List ℕ) (names : List (List ℕ)) (filters : List Source) where
  behind_apart : (before ds : List conf.Declaration) → refusal_of (behind (at_start text) before) ds ≡ None → JoinsApart (behind (at_start text) before).pipes (pipes_of (protocols_behind text names filters before ds))
  behind_apart before [] accepted = tt
  behind_apart before (d ∷ ds) accepted =
      let known = behind (at_start text) before in
      let masters = masters_first text before in
      let none = neither (first_in None (refusals known d)) (refusal_of (behind_one known d) ds) accepted in
      let next = behind_push (at_start text) before d in
      let body = body_of (says text names filters before) known d in
      let rest = protocols_behind text names filters (before ++ d ∷ []) ds in
      let one = step (says text names filters before) known masters.0 d masters.1 (none_refused (refusals known d) none.0) in
      subst (λ (l : List Joint). JoinsApart known.pipes l) (sym (with_pipes (protocol_name known d) body rest))
      (apart_all known.pipes (joints body) (pipes_of rest) one.1
      (subst (λ (l : List Joint). JoinsApart l (pipes_of rest)) (ap (λ (k : Known). k.pipes) next ∙ one.0)
      (behind_apart (before ++ d ∷ []) ds (ap (λ (k : Known). refusal_of k ds) next ∙ none.1))))

accepted_forest : (text : List ℕ) (ds : List conf.Declaration) → refused_in text ds ≡ None → IsForest (pipes_of (system_in text ds).protocols)
unfolding refused_in system_in
accepted_forest text ds accepted = behind_apart text (names_in text ds) (filter_sources [] ds) [] ds accepted

pub is_forest : (text : List ℕ) (system : System) → IsSystem text system → IsForest (pipes_of system.protocols)
is_forest text system is = subst (λ (s : System). IsForest (pipes_of s.protocols)) (sym is.2) (accepted_forest text is.0 is.1.accepted)
