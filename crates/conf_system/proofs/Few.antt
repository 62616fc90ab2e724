-- An accepted configuration has few protocols.
use Rattle.std.proofs.Common.{◌≡◌, ℕ, ◌+◌, ◌<◌, ◌≤◌, List, [], ◌∷◌, ◌++◌, length, Option, Some, None, sym, subst, arith, inl, inr, ltb-true}
use Rattle.std.proofs.lemmas.Bool.{cases_Bool, not-false}
use Rattle.std.specs.Prelude.{nat_lt}
use Rattle.conf_ast.specs.Configurations as conf
use Rattle.conf_ast.specs.Configurations.{Instance, Passing, StaticSetting}
use Rattle.conf_check.proofs.Allowed.{nil_left, nil_right, none_refused}
use Rattle.conf_check.specs.Behind.{at_start, behind, behind_one}
use Rattle.conf_check.specs.Checked.{Source, filter_sources, protocol_name}
use Rattle.conf_check.specs.Refused.{refusal_of}
use Rattle.conf_options.specs.Options.{pipe_options}
use Rattle.conf_rules.specs.Channels.{one_channel}
use Rattle.conf_names.specs.Known.{Known}
use Rattle.conf_rules.specs.Protocols.{bgp_channels, bgp_settings, cycle, joint_of, lacks, nettypes, peer_family, pipe_settings, repeated, session, static_channels, static_routes, static_settings}
use Rattle.conf_names.specs.Names.{bgp_stem, declaring, most_protocols, own_name, pipe_names, pipe_stem, place_of, static_stem}
use Rattle.conf_names.specs.Refusals.{first_in}
use Rattle.conf_rules.specs.Statements.{is_master, refusals}
use Rattle.conf_names.specs.declared.refusal.Refusal.{Refusal}
use Rattle.conf_ast.specs.declared.named.Name.{Name}
use Rattle.conf_system.specs.Policies.{Filter, says}
use Rattle.conf_system.specs.System.{Body, Protocol, System, body_of, names_in, protocols_behind, system_in, with_body}
use Rattle.conf_system.specs.Texts.{IsSystem, refused_in}
use Rattle.conf_system.proofs.Accepted.{neither}
use Rattle.conf_system.proofs.TablesThere.{not_refused, pipe_front}

-- There is room for one protocol more.
room : (known : Known) (at : ℕ) (name : Option Name) (declared : List (List ℕ)) → declaring known at name declared ≡ [] → known.protocols < most_protocols
room known at name declared is =
    ltb-true known.protocols most_protocols (not-false (nat_lt known.protocols most_protocols) (not_refused _ (place_of at name) _ (nil_right _ _ is)))

room_behind : (known : Known) (at : ℕ) (name : Option Name) (declared : List (List ℕ)) (a b c : List Refusal) → declaring known at name declared ++ a ++ b ++ c ≡ [] → known.protocols < most_protocols
room_behind known at name declared a b c is =
    let first = declaring known at name declared in
    room known at name declared (nil_left first a (nil_left (first ++ a) b (nil_left (first ++ a ++ b) c is)))

-- what is refused of a static protocol but for routes of one net
abbrev static_front : Known → Instance StaticSetting → List Refusal
static_front known p =
    declaring known p.at p.name (own_name known static_stem p.name ∷ []) ++ static_settings known p.settings ++ one_channel (place_of p.at p.name) (static_channels p.settings)
    ++ nettypes (static_channels p.settings) (static_routes p.settings)

-- ---- the count of protocols

bounded : (known : Known) (d : conf.Declaration) → refusals known d ≡ [] → known.protocols ≤ most_protocols → (behind_one known d).protocols ≤ most_protocols
bounded known (conf.RouterId a) is few = few
bounded known conf.Log is few = few
bounded known (conf.Define name v) is few = few
bounded known (conf.Table at family name) is few = elim (cases_Bool (is_master known family name)) [
  | inl master ↦ rw master few
  | inr other ↦ rw other few
]
bounded known (conf.DefineFunction f) is few = few
bounded known (conf.DefineFilter at name ss) is few = few
bounded known (conf.Device name semicolon) is few = few
bounded known (conf.Static p) is few =
    omega (
      arith,
      room_behind known p.at p.name (own_name known static_stem p.name ∷ []) (static_settings known p.settings) (one_channel (place_of p.at p.name) (static_channels p.settings))
          (nettypes (static_channels p.settings) (static_routes p.settings))
          (nil_left (static_front known p) (repeated [] (static_routes p.settings)) is),
    )
bounded known (conf.Bgp p) is few =
    omega (
      arith,
      room_behind known p.at p.name (own_name known bgp_stem p.name ∷ []) (bgp_settings known p.settings) (one_channel (place_of p.at p.name) (bgp_channels p.settings))
          (session known (place_of p.at p.name) p.settings) is,
    )
bounded known (conf.Pipe p) is few =
    omega (
      arith,
      room_behind known p.at p.name (pipe_names (own_name known pipe_stem p.name)) (pipe_settings known p.settings) (lacks (place_of p.at p.name) (pipe_options p.settings).peer)
          (peer_family known (pipe_options p.settings).table (pipe_options p.settings).peer)
          (nil_left (pipe_front known p) (cycle known (place_of p.at p.name) (joint_of known p.settings)) is),
    )

one_more : (name : List ℕ) (body : Option Body) (rest : List Protocol) → length (with_body name body rest) ≤ length rest + 1
one_more name None rest = omega arith
one_more name (Some body) rest = omega arith

-- a statement counts as many protocols as it declares
counted : (said : Passing → Filter) (at : Known) (name : List ℕ) (rest : List Protocol) (known : Known) (d : conf.Declaration) → length rest + (behind_one known d).protocols ≤ most_protocols
    → length (with_body name (body_of said at d) rest) + known.protocols ≤ most_protocols
counted said at name rest known (conf.RouterId a) few = few
counted said at name rest known conf.Log few = few
counted said at name rest known (conf.Define n v) few = few
counted said at name rest known (conf.Table place family n) few = elim (cases_Bool (is_master known family n)) [
  | inl master ↦ rw master at few
  | inr other ↦ rw other at few
]
counted said at name rest known (conf.DefineFunction f) few = few
counted said at name rest known (conf.DefineFilter place n ss) few = few
counted said at name rest known (conf.Device n semicolon) few = few
counted said at name rest known (conf.Static p) few = omega (arith, few, one_more name (body_of said at (conf.Static p)) rest)
counted said at name rest known (conf.Bgp p) few = omega (arith, few, one_more name (body_of said at (conf.Bgp p)) rest)
counted said at name rest known (conf.Pipe p) few = omega (arith, few, one_more name (body_of said at (conf.Pipe p)) rest)

count : (text : List ℕ) (names : List (List ℕ)) (filters : List Source) (before : List conf.Declaration) (known : Known) (ds : List conf.Declaration) → refusal_of known ds ≡ None
    → known.protocols ≤ most_protocols → length (protocols_behind text names filters before ds) + known.protocols ≤ most_protocols
count text names filters before known [] is few = omega (arith, few)
count text names filters before known (d ∷ ds) is few =
    let none = neither (first_in None (refusals known d)) (refusal_of (behind_one known d) ds) is in
    let there = behind (at_start text) before in
    counted (says text names filters before) there (protocol_name there d) (protocols_behind text names filters (before ++ d ∷ []) ds) known d
    (count text names filters (before ++ d ∷ []) (behind_one known d) ds none.1 (bounded known d (none_refused (refusals known d) none.0) few))

few_protocols : (text : List ℕ) (ds : List conf.Declaration) → refused_in text ds ≡ None → length (system_in text ds).protocols ≤ most_protocols
unfolding refused_in system_in
few_protocols text ds is = omega (arith, count text (names_in text ds) (filter_sources [] ds) [] (at_start text) ds is (omega arith))

pub have_few : (text : List ℕ) (system : System) → IsSystem text system → length system.protocols ≤ 256
have_few text system is = subst (λ (s : System). length s.protocols ≤ 256) (sym is.2) (few_protocols text is.0 is.1.accepted)
