-- What is refused first in a protocol.
use Rattle.std.proofs.Common.{◌≡◌, ℕ, Bool, ◌||◌, List, [], ◌∷◌, map, Option, refl, ap, ◌∙◌, sym}
use Rattle.std.specs.List.{list_any}
use Rattle.conf_ast.specs.declared.configurations.BgpOption.{BgpOption}
use Rattle.conf_ast.specs.Configurations.{FamilyChannel, Instance, StaticSetting, BgpSetting, PipeSetting, bgp_setting_of}
use Rattle.conf_options.specs.Options.{PipeOptions, pipe_options}
use Rattle.conf_names.specs.declared.refusal.Refusal.{Refusal}
use Rattle.conf_rules.specs.Channels.{lacks_policy, one_channel}
use Rattle.conf_names.specs.Known.{Known}
use Rattle.conf_rules.specs.Protocols.{bgp, bgp_channels, bgp_settings, cycle, joint_of, lacks, nettypes, peer_family, pipe, pipe_settings, repeated, session, static, static_channels, static_routes, static_settings}
use Rattle.conf_names.specs.Names.{bgp_stem, declaring, own_name, pipe_names, pipe_stem, place_of, static_stem}
use Rattle.conf_names.specs.Refusals.{first_in}
use Rattle.conf_rules.proofs.Settings.{more_bgp_channels}
use Rattle.conf_names.proofs.Turns.{any_append}
use Rattle.conf_names.proofs.Wholes.{first_four, first_five}

pub any_lacks : (xs : List BgpOption) → list_any (λ (x : BgpOption). list_any lacks_policy (bgp_channels (bgp_setting_of x ∷ []))) xs ≡ list_any lacks_policy (bgp_channels (map bgp_setting_of xs))
any_lacks [] = refl
any_lacks (x ∷ xs) =
    ap (λ (b : Bool). list_any lacks_policy (bgp_channels (bgp_setting_of x ∷ [])) || b) (any_lacks xs)
    ∙ sym (any_append lacks_policy (bgp_channels (bgp_setting_of x ∷ [])) (bgp_channels (map bgp_setting_of xs)))
    ∙ sym (ap (λ (cs : List FamilyChannel). list_any lacks_policy cs) (more_bgp_channels (bgp_setting_of x) (map bgp_setting_of xs)))

-- ---- protocols

pub static_first : (known : Known) (p : Instance StaticSetting) (place : ℕ) (ss : List StaticSetting) (f g h i j k : Option Refusal) → place ≡ place_of p.at p.name → ss ≡ p.settings → g ≡ first_in f (declaring known p.at p.name (own_name known static_stem p.name ∷ [])) → h ≡ first_in g (static_settings known ss) → i ≡ first_in h (one_channel place (static_channels ss)) → j ≡ first_in i (nettypes (static_channels ss) (static_routes ss)) → k ≡ first_in j (repeated [] (static_routes ss)) → k ≡ first_in f (static known p)
static_first known p place ss f g h i j k here are a b d e l =
    first_five (declaring known p.at p.name (own_name known static_stem p.name ∷ [])) (static_settings known p.settings) (one_channel (place_of p.at p.name) (static_channels p.settings)) (nettypes (static_channels p.settings) (static_routes p.settings)) (repeated [] (static_routes p.settings)) f g h i j k
    a
    (b ∙ ap (λ (x : List StaticSetting). first_in g (static_settings known x)) are)
    (d ∙ ap (λ (n : ℕ). first_in h (one_channel n (static_channels ss))) here ∙ ap (λ (x : List StaticSetting). first_in h (one_channel (place_of p.at p.name) (static_channels x))) are)
    (e ∙ ap (λ (x : List StaticSetting). first_in i (nettypes (static_channels x) (static_routes x))) are)
    (l ∙ ap (λ (x : List StaticSetting). first_in j (repeated [] (static_routes x))) are)

pub bgp_first : (known : Known) (p : Instance BgpSetting) (place : ℕ) (ss : List BgpSetting) (f g h i j : Option Refusal) → place ≡ place_of p.at p.name → ss ≡ p.settings → g ≡ first_in f (declaring known p.at p.name (own_name known bgp_stem p.name ∷ [])) → h ≡ first_in g (bgp_settings known ss) → i ≡ first_in h (one_channel place (bgp_channels ss)) → j ≡ first_in i (session known place ss) → j ≡ first_in f (bgp known p)
bgp_first known p place ss f g h i j here are a b d e =
    first_four (declaring known p.at p.name (own_name known bgp_stem p.name ∷ [])) (bgp_settings known p.settings) (one_channel (place_of p.at p.name) (bgp_channels p.settings)) (session known (place_of p.at p.name) p.settings) f g h i j
    a
    (b ∙ ap (λ (x : List BgpSetting). first_in g (bgp_settings known x)) are)
    (d ∙ ap (λ (n : ℕ). first_in h (one_channel n (bgp_channels ss))) here ∙ ap (λ (x : List BgpSetting). first_in h (one_channel (place_of p.at p.name) (bgp_channels x))) are)
    (e ∙ ap (λ (n : ℕ). first_in i (session known n ss)) here ∙ ap (λ (x : List BgpSetting). first_in i (session known (place_of p.at p.name) x)) are)

pub pipe_first : (known : Known) (p : Instance PipeSetting) (place : ℕ) (ss : List PipeSetting) (o : PipeOptions) (f g h i j k : Option Refusal) → place ≡ place_of p.at p.name → ss ≡ p.settings → o ≡ pipe_options ss → g ≡ first_in f (declaring known p.at p.name (pipe_names (own_name known pipe_stem p.name))) → h ≡ first_in g (pipe_settings known ss) → i ≡ first_in h (lacks place o.peer) → j ≡ first_in i (peer_family known o.table o.peer) → k ≡ first_in j (cycle known place (joint_of known ss)) → k ≡ first_in f (pipe known p)
pipe_first known p place ss o f g h i j k here are comes a b d e l =
    let found = comes ∙ ap pipe_options are in
    let all = pipe_options p.settings in
    first_five (declaring known p.at p.name (pipe_names (own_name known pipe_stem p.name))) (pipe_settings known p.settings) (lacks (place_of p.at p.name) all.peer) (peer_family known all.table all.peer) (cycle known (place_of p.at p.name) (joint_of known p.settings)) f g h i j k
    a
    (b ∙ ap (λ (x : List PipeSetting). first_in g (pipe_settings known x)) are)
    (d ∙ ap (λ (n : ℕ). first_in h (lacks n o.peer)) here ∙ ap (λ (x : PipeOptions). first_in h (lacks (place_of p.at p.name) x.peer)) found)
    (e ∙ ap (λ (x : PipeOptions). first_in i (peer_family known x.table x.peer)) found)
    (l ∙ ap (λ (n : ℕ). first_in j (cycle known n (joint_of known ss))) here ∙ ap (λ (x : List PipeSetting). first_in j (cycle known (place_of p.at p.name) (joint_of known x))) are)
