-- What is lent of the parts of a configuration is what is to be played of it.
use Rattle.std.proofs.Common.{◌≡◌, ℕ, List, map, ◌∙◌, ap, subst}
use Rattle.attrs.specs.declared.judge.Verdict.{Verdict}
use Rattle.attrs.specs.declared.route.Route.{Route}
use Rattle.bits_ip.specs.Prefix.{Net}
use Rattle.conf_system.specs.Policies.{Filter}
use Rattle.conf_system.specs.System.{System}
use Rattle.show_route.specs.declared.query.Query.{Query}
use Rattle.sys_build.specs.Setups.{setup_of}
use Rattle.sys_run.specs.Parts.{setup_seen}
use Rattle.sys_run.specs.declared.parts.ProtocolParts.{ProtocolParts}
use Rattle.sys_run.specs.declared.parts.TableParts.{TableParts}

-- what is said of two things is said of what they are
pub in_both : {A B : Type 0} (P : A → B → Type 0) (a c : A) (b d : B) → a ≡ c → b ≡ d → P a b → P c d
in_both {A = A} {B = B} P a c b d same alike is = subst (λ (x : B). P c x) alike (subst (λ (x : A). P x b) same is)

pub lent_is : {J F : Type 0} (verdict : J → Net → Route → Verdict) (says : F → Filter) (tables ts : List TableParts) (protocols ps : List (ProtocolParts J)) (cells : ℕ) (choices cs : List J) (queries : List Query) (system : System) (filters fs : List F)
    → tables ≡ ts → protocols ≡ ps → choices ≡ cs → filters ≡ fs → setup_seen verdict ts ps cells cs queries ≡ setup_of system cells (map says filters) queries
    → setup_seen verdict tables protocols cells choices queries ≡ setup_of system cells (map says fs) queries
lent_is {J = J} {F = F} verdict says tables ts protocols ps cells choices cs queries system filters fs same alike equal as_many is =
    ap (λ (t : List TableParts). setup_seen verdict t protocols cells choices queries) same
    ∙ ap (λ (p : List (ProtocolParts J)). setup_seen verdict ts p cells choices queries) alike
    ∙ ap (λ (j : List J). setup_seen verdict ts ps cells j queries) equal
    ∙ is
    ∙ ap (λ (f : List F). setup_of system cells (map says f) queries) as_many
