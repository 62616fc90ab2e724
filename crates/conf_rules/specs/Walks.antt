-- For private contracts alone: what the walks over statements keep while they go, as the
-- definitions see it. What is refused rests on nothing here.
use Rattle.std.specs.Prelude.{Bool, true, false, List, [], ◌∷◌, Option, Some, None}
use Rattle.bits_ip.specs.Prefix.{Net}
use Rattle.bits_ip.specs.declared.address.Family.{Family}
use Rattle.conf_ast.specs.declared.kind.ConfKind.TheVariants as kinds
use Rattle.conf_ast.specs.declared.configurations.Route.{Route}
use Rattle.conf_ast.specs.Configurations.{FamilyChannel}
use Rattle.conf_names.specs.declared.refusal.Refusal.{Refusal}

abbrev pub has_channel : List FamilyChannel → Bool
has_channel [] = false
has_channel (c ∷ more) = true

-- what is refused of channels, where there was one before or not
abbrev pub behind : (has_one : Bool) → List FamilyChannel → List Refusal
behind has_one [] = []
behind false (c ∷ more) = behind true more
behind true (c ∷ more) = record { at = c.at; kind = kinds.Unsupported } ∷ behind true more

-- the family of the first channel
abbrev pub family_in : List FamilyChannel → Option Family
family_in [] = None
family_in (c ∷ more) = Some c.family

-- the nets that were seen behind some routes
abbrev pub seen_behind : List Net → List Route → List Net
seen_behind seen [] = seen
seen_behind seen (r ∷ more) = seen_behind (r.net ∷ seen) more
