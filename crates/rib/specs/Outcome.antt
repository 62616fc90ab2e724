-- What a change of a table answers (`IfChanged`), and what one would answer (`IfChanges`).
-- From: own.
-- Example: the same route put once more is `Same`.
use Rattle.std.specs.Prelude.{Bool, Option, ⊤}
use Rattle.attrs.specs.declared.route.Route.{Route}
use Rattle.rib.specs.declared.rib.Outcome.{Outcome}
use Rattle.rib.specs.declared.rib.Outcome.TheVariants.{Same, Changed}
use Rattle.rib.specs.declared.rib.Prospect.{Prospect}
use Rattle.rib.specs.declared.rib.Prospect.TheVariants.{Same as Stays, Changes}

abbrev pub IfChanged : Outcome → (Bool → Type 0) → Type 0
IfChanged Same P = ⊤
IfChanged (Changed moved) P = P moved

abbrev pub IfChanges : (Option Route → Type 0) → Prospect → Type 0
IfChanges P Stays = ⊤
IfChanges P (Changes best) = P best
