-- The names of scripts and those of setups count alike.
use Rattle.std.proofs.Common.{◌≡◌, ◌∙◌, sym, ap, refl, ℕ, Bool, ◌+◌, List, [], ◌∷◌, ◌++◌, map}
use Rattle.std.proofs.lemmas.List.{map-append}
use Rattle.core_setup.specs.Channels.{Channel, channels, channels_from, channels_in}
use Rattle.core_setup.specs.Setup as setup
use Rattle.script_lines.specs.declared.named.NamedProtocol.{NamedProtocol}
use Rattle.show_route.specs.declared.query.Query.{Query}
use Rattle.conf_system.specs.Policies.{Filter}
use Rattle.conf_system.specs.System.{Body, IsBgp, IsPipe, IsStatic, Protocol, System}
use Rattle.conf_system.specs.Tables.{Tables}
use Rattle.sys_build.specs.Names.{all_channels, channels_of, named_of, named_protocol}
use Rattle.sys_build.specs.Setups.{body_of, protocols_from, setup_of}

protocols_count : (number : ℕ) (ps : List Protocol) → map (λ (p : NamedProtocol). p.name) (map named_protocol ps) ≡ map (λ (p : setup.Protocol). p.name) (protocols_from number ps)
protocols_count number [] = refl
protocols_count number (p ∷ more) = ap (λ (l : List (List ℕ)). p.name ∷ l) (protocols_count (number + 1) more)

channels_in_count : (tables : Tables) (number : ℕ) (name : List ℕ) (body : Body) → channels_of name body ≡ map (λ (c : Channel). c.name) (channels_in tables number name (body_of number body))
channels_in_count tables number name (IsStatic p) = refl
channels_in_count tables number name (IsBgp p) = refl
channels_in_count tables number name (IsPipe p) = refl

channels_count : (tables : Tables) (number : ℕ) (ps : List Protocol) → all_channels ps ≡ map (λ (c : Channel). c.name) (channels_from tables number (protocols_from number ps))
channels_count tables number [] = refl
channels_count tables number (p ∷ more) =
    ap (λ (l : List (List ℕ)). l ++ all_channels more) (channels_in_count tables number p.name p.body)
    ∙ ap (λ (l : List (List ℕ)). map (λ (c : Channel). c.name) (channels_in tables number p.name (body_of number p.body)) ++ l) (channels_count tables (number + 1) more)
    ∙ sym (map-append (λ (c : Channel). c.name) (channels_in tables number p.name (body_of number p.body)) (channels_from tables (number + 1) (protocols_from (number + 1) more)))

pub protocols_alike : (system : System) (schedule : Bool) (cells : ℕ) (filters : List Filter) (queries : List Query)
    → map (λ (p : NamedProtocol). p.name) (named_of system schedule).protocols ≡ map (λ (p : setup.Protocol). p.name) (setup_of system cells filters queries).protocols
unfolding named_of setup_of
protocols_alike system schedule cells filters queries = protocols_count 0 system.protocols

pub channels_alike : (system : System) (schedule : Bool) (cells : ℕ) (filters : List Filter) (queries : List Query) → (named_of system schedule).channels ≡ map (λ (c : Channel). c.name) (channels (setup_of system cells filters queries))
unfolding named_of setup_of
channels_alike system schedule cells filters queries = channels_count system.tables 0 system.protocols
