-- The attributes of routes and the constants of their values, and how they are spelled
-- (`attribute_of`, `constant_of`), each once, in the order of the enum.
-- Not modelled: what they mean (filt_meaning).
-- From: BIRD User's Guide, "Filters" (section "Route attributes").
-- Example: `bgp_path` is an attribute, `RTS_BGP` a constant.
use Rattle.std.specs.Prelude.{ℕ, Option, List, [], ◌∷◌, codes}
use Rattle.conf_lex.specs.Symbols.{lookup}
use Rattle.conf_ast.specs.declared.attribute.Attribute.{Attribute}
use Rattle.conf_ast.specs.declared.attribute.Attribute.TheVariants as attributes
use Rattle.conf_ast.specs.declared.attribute.Constant.{Constant}
use Rattle.conf_ast.specs.declared.attribute.Constant.TheVariants as constants

abbrev pub attribute_spellings : List (List ℕ × Attribute)
attribute_spellings =
    (codes "net", attributes.Net) ∷ (codes "preference", attributes.Preference)
    ∷ (codes "gw", attributes.Gw) ∷ (codes "from", attributes.From)
    ∷ (codes "bgp_next_hop", attributes.BgpNextHop) ∷ (codes "proto", attributes.Proto)
    ∷ (codes "source", attributes.Source) ∷ (codes "dest", attributes.Dest)
    ∷ (codes "bgp_path", attributes.BgpPath) ∷ (codes "bgp_origin", attributes.BgpOrigin)
    ∷ (codes "bgp_med", attributes.BgpMed) ∷ (codes "bgp_local_pref", attributes.BgpLocalPref)
    ∷ (codes "igp_metric", attributes.IgpMetric) ∷ (codes "bgp_community", attributes.BgpCommunity)
    ∷ []

abbrev pub constant_spellings : List (List ℕ × Constant)
constant_spellings =
    (codes "RTS_STATIC", constants.RtsStatic) ∷ (codes "RTS_BGP", constants.RtsBgp)
    ∷ (codes "RTD_UNICAST", constants.RtdUnicast) ∷ (codes "RTD_ROUTER", constants.RtdRouter)
    ∷ (codes "RTD_BLACKHOLE", constants.RtdBlackhole)
    ∷ (codes "RTD_UNREACHABLE", constants.RtdUnreachable)
    ∷ (codes "RTD_PROHIBIT", constants.RtdProhibit) ∷ (codes "ORIGIN_IGP", constants.OriginIgp)
    ∷ (codes "ORIGIN_EGP", constants.OriginEgp)
    ∷ (codes "ORIGIN_INCOMPLETE", constants.OriginIncomplete)
    ∷ []

-- the attribute that is spelled so, if there is one
unfoldable pub attribute_of : List ℕ → Option Attribute
attribute_of text = lookup text attribute_spellings

-- and the constant
unfoldable pub constant_of : List ℕ → Option Constant
constant_of text = lookup text constant_spellings
