-- Settings, one more at a time.
use Rattle.std.proofs.Common.{◌≡◌, ℕ, Bool, true, false, ◌||◌, not, List, [], ◌∷◌, ◌++◌, Option, Some, None, append_assoc, refl, ap, ◌∙◌, sym}
use Rattle.std.specs.List.{list_any}
use Rattle.bits_ip.specs.Prefix.{Net, same_net}
use Rattle.bits_ip.specs.declared.address.Family.{Family}
use Rattle.conf_ast.specs.declared.kind.ConfKind.TheVariants as kinds
use Rattle.conf_ast.specs.declared.configurations.Route.{Route}
use Rattle.conf_ast.specs.Configurations.{FamilyChannel, StaticSetting, StaticChannel, StaticRoute, BgpSetting, BgpChannel, BgpLocal, BgpNeighbor, BgpMedMetric, BgpInterpretCommunities, BgpDefaultMed, BgpDefaultLocalPref, BgpTransport}
use Rattle.conf_names.specs.declared.refusal.Refusal.{Refusal}
use Rattle.conf_rules.specs.Channels as channels
use Rattle.conf_rules.specs.Channels.{is_empty, one_channel, second_channels}
use Rattle.conf_rules.specs.Protocols.{families_of_routes, family_of_route, repeated, static_channels, static_routes, bgp_channels}
use Rattle.conf_names.specs.Refusals.{first_in, refused_if}
use Rattle.conf_rules.specs.Walks.{behind, family_in, has_channel, seen_behind}
use Rattle.conf_names.proofs.Firsts.{first_append, first_rest, lists_past}
use Rattle.conf_names.proofs.Turns.{or_apart}

-- ---- the channels and the routes among the settings

pub more_static_channels : (s : StaticSetting) (more : List StaticSetting) → static_channels (s ∷ more) ≡ static_channels (s ∷ []) ++ static_channels more
more_static_channels (StaticChannel c) more = refl
more_static_channels (StaticRoute r) more = refl

pub more_static_routes : (s : StaticSetting) (more : List StaticSetting) → static_routes (s ∷ more) ≡ static_routes (s ∷ []) ++ static_routes more
more_static_routes (StaticChannel c) more = refl
more_static_routes (StaticRoute r) more = refl

pub more_bgp_channels : (s : BgpSetting) (more : List BgpSetting) → bgp_channels (s ∷ more) ≡ bgp_channels (s ∷ []) ++ bgp_channels more
more_bgp_channels (BgpChannel c) more = refl
more_bgp_channels (BgpLocal a n) more = refl
more_bgp_channels (BgpNeighbor a n) more = refl
more_bgp_channels (BgpMedMetric s) more = refl
more_bgp_channels (BgpInterpretCommunities s) more = refl
more_bgp_channels (BgpDefaultMed at n) more = refl
more_bgp_channels (BgpDefaultLocalPref at n) more = refl
more_bgp_channels (BgpTransport t) more = refl

-- ---- one channel

has_append : (cs more : List FamilyChannel) → has_channel (cs ++ more) ≡ (has_channel cs || has_channel more)
has_append [] more = refl
has_append (c ∷ cs) more = refl

behind_append : (b : Bool) (cs more : List FamilyChannel) → behind b (cs ++ more) ≡ behind b cs ++ behind (b || has_channel cs) more
behind_append true [] more = refl
behind_append false [] more = refl
behind_append true (c ∷ cs) more = ap (λ (rs : List Refusal). record { at = c.at; kind = kinds.Unsupported } ∷ rs) (behind_append true cs more)
behind_append false (c ∷ cs) more = behind_append true cs more

has_more : (b : Bool) (all cs more : List FamilyChannel) → all ≡ cs ++ more → (b || has_channel all) ≡ ((b || has_channel cs) || has_channel more)
has_more b all cs more is = ap (λ (x : List FamilyChannel). b || has_channel x) is ∙ ap (λ (t : Bool). b || t) (has_append cs more) ∙ sym (or_apart b (has_channel cs) (has_channel more))

behind_more : (b : Bool) (all cs more : List FamilyChannel) → all ≡ cs ++ more → behind b all ≡ behind b cs ++ behind (b || has_channel cs) more
behind_more b all cs more is = ap (λ (x : List FamilyChannel). behind b x) is ∙ behind_append b cs more

pub has_turn : (whole all cs more : List FamilyChannel) (b next : Bool) → has_channel whole ≡ (b || has_channel all) → all ≡ cs ++ more → next ≡ (b || has_channel cs) → has_channel whole ≡ (next || has_channel more)
has_turn whole all cs more b next before is new = before ∙ has_more b all cs more is ∙ ap (λ (t : Bool). t || has_channel more) (sym new)

pub behind_turn : (whole all cs more : List FamilyChannel) (b next : Bool) (start f g : Option Refusal) → first_in start (behind false whole) ≡ first_in f (behind b all) → all ≡ cs ++ more → next ≡ (b || has_channel cs) → g ≡ first_in f (behind b cs) → first_in start (behind false whole) ≡ first_in g (behind next more)
behind_turn whole all cs more b next start f g before is has new =
    before ∙ ap (λ (rs : List Refusal). first_in f rs) (behind_more b all cs more is)
    ∙ first_rest (behind b cs) (behind (b || has_channel cs) more) f g new
    ∙ ap (λ (t : Bool). first_in g (behind t more)) (sym has)

others : (c : FamilyChannel) (more : List FamilyChannel) → behind true more ≡ second_channels (c ∷ more)
others c [] = refl
others c (d ∷ more) = ap (λ (rs : List Refusal). record { at = d.at; kind = kinds.Unsupported } ∷ rs) (others c more)

seconds : (cs : List FamilyChannel) → behind false cs ≡ second_channels cs
seconds [] = refl
seconds (c ∷ more) = others c more

has_none : (cs : List FamilyChannel) → not (has_channel cs) ≡ is_empty cs
has_none [] = refl
has_none (c ∷ more) = refl

pub one_first : (at : ℕ) (cs : List FamilyChannel) (has : Bool) (f g h : Option Refusal) → has ≡ has_channel cs → g ≡ first_in f (behind false cs) → h ≡ first_in g (refused_if (not has) at kinds.Unsupported) → h ≡ first_in f (one_channel at cs)
one_first at cs has f g h is first new =
    new ∙ ap (λ (b : Bool). first_in g (refused_if b at kinds.Unsupported)) (ap not is ∙ has_none cs)
    ∙ ap (λ (x : Option Refusal). first_in x (refused_if (is_empty cs) at kinds.Unsupported)) (first ∙ ap (λ (rs : List Refusal). first_in f rs) (seconds cs))
    ∙ lists_past f (refused_if (is_empty cs) at kinds.Unsupported) (second_channels cs)
    ∙ sym (first_append f (refused_if (is_empty cs) at kinds.Unsupported) (second_channels cs))

-- ---- families

pub family_skipped : (all cs more : List FamilyChannel) → all ≡ cs ++ more → None ≡ family_in cs → family_in all ≡ family_in more
family_skipped all [] more is none = ap family_in is
family_skipped all (c ∷ cs) more is none = absurd (cc)

pub family_found : (family : Family) (all cs more : List FamilyChannel) → all ≡ cs ++ more → Some family ≡ family_in cs → Some family ≡ family_in all
family_found family all [] more is some = absurd (cc)
family_found family all (c ∷ cs) more is some = some ∙ sym (ap family_in is)

families_append : (family : Family) (rs more : List Route) → families_of_routes family (rs ++ more) ≡ families_of_routes family rs ++ families_of_routes family more
families_append family [] more = refl
families_append family (r ∷ rs) more = ap (λ (x : List Refusal). family_of_route family r ++ x) (families_append family rs more) ∙ sym (append_assoc (family_of_route family r) (families_of_routes family rs) (families_of_routes family more))

pub families_more : (family : Family) (all rs more : List Route) → all ≡ rs ++ more → families_of_routes family all ≡ families_of_routes family rs ++ families_of_routes family more
families_more family all rs more is = ap (λ (x : List Route). families_of_routes family x) is ∙ families_append family rs more

-- ---- nets

-- the same nets were seen
abbrev pub SameNets : List Net → List Net → Type 0
SameNets seen others = (n : Net) → list_any (same_net n) seen ≡ list_any (same_net n) others

repeated_same : (seen others : List Net) (rs : List Route) → SameNets seen others → repeated seen rs ≡ repeated others rs
repeated_same seen others [] same = refl
repeated_same seen others (r ∷ rs) same =
    ap (λ (b : Bool). refused_if b r.at kinds.DuplicateStatic ++ repeated (r.net ∷ seen) rs) (same r.net)
    ∙ ap (λ (x : List Refusal). refused_if (list_any (same_net r.net) others) r.at kinds.DuplicateStatic ++ x) (repeated_same (r.net ∷ seen) (r.net ∷ others) rs (λ n. ap (λ (b : Bool). same_net n r.net || b) (same n)))

repeated_append : (seen : List Net) (rs more : List Route) → repeated seen (rs ++ more) ≡ repeated seen rs ++ repeated (seen_behind seen rs) more
repeated_append seen [] more = refl
repeated_append seen (r ∷ rs) more =
    ap (λ (x : List Refusal). refused_if (list_any (same_net r.net) seen) r.at kinds.DuplicateStatic ++ x) (repeated_append (r.net ∷ seen) rs more)
    ∙ sym (append_assoc (refused_if (list_any (same_net r.net) seen) r.at kinds.DuplicateStatic) (repeated (r.net ∷ seen) rs) (repeated (seen_behind (r.net ∷ seen) rs) more))

pub repeated_more : (seen next : List Net) (all rs more : List Route) → all ≡ rs ++ more → SameNets next (seen_behind seen rs) → repeated seen all ≡ repeated seen rs ++ repeated next more
repeated_more seen next all rs more is same =
    ap (λ (x : List Route). repeated seen x) is ∙ repeated_append seen rs more
    ∙ ap (λ (x : List Refusal). repeated seen rs ++ x) (sym (repeated_same next (seen_behind seen rs) more same))
