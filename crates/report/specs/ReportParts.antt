-- For private contracts alone: parts of the report's text, for the functions that write them.
use Rattle.std.specs.Prelude.{ℕ, List, [], ◌∷◌, ◌++◌, map}
use Rattle.bits_ip.specs.Prefix.{Net}
use Rattle.bits_ip.specs.Text.{net_text}
use Rattle.attrs.specs.Text.{attrs_text}
use Rattle.attrs.specs.declared.route.Route.{Route}
use Rattle.text.specs.Names.{name_of}
use Rattle.report.specs.Report.{line2}
use Rattle.report.specs.declared.phase.ProtocolReport.{ProtocolReport}

-- the names of protocols by number
abbrev pub names_in : List ProtocolReport → List (List ℕ)
names_in protocols = map (λ p. p.name) protocols

-- NET SOURCE and a space
abbrev pub place_text : List (List ℕ) → Net → ℕ → List ℕ
place_text names net num = net_text net ++ 32 ∷ name_of names num ++ 32 ∷ []

-- a route of a table
abbrev pub row_route_text : List (List ℕ) → Net → Route → List ℕ
row_route_text names net route =
    line2 (net_text net ++ 32 ∷ name_of names route.src.num ++ 32 ∷ attrs_text route.attrs)
