use Rattle.std.proofs.Common.{◌≡◌, ◌++◌, ◌∷◌, subst, map, List, ℕ, Bool, [], if◌then◌else◌, codes, decimal}
use Rattle.std.proofs.lemmas.Result.{on_ok_weaker}
use Rattle.bits_ip.specs.Prefix.{Net}
use Rattle.bits_ip.specs.Text.{addr_text, net_text}
use Rattle.attrs.specs.Text.{dest_text, optional_text}
use Rattle.attrs.specs.declared.attributes.Attrs.{Attrs}
use Rattle.attrs.specs.declared.route.Route.{Route}
use Rattle.text.specs.Names.{name_of}
use Rattle.show_route.specs.Reply.{as_text, shown_route}
use Rattle.show_route.proofs.ReplyPieces.{route_joined}
use Rattle.show_route.proofs.reply.write_route.Goals as goal

-- the groups of a route, whose attributes are read twice
grouped :
    (names : List (List ℕ)) (net : Net) (best : Bool) (r : Route) (rank via : Attrs) → rank ≡ r.attrs → via ≡ r.attrs
    → (b b1 b2 b3 : List ℕ)
    → b1 ≡ b ++ net_text net ++ 32 ∷ dest_text r.attrs.dest ++ codes " [" ++ name_of names r.src.num ++ codes "]"
    → b2 ≡ b1 ++ (if best then codes " *" else []) ++ codes " (" ++ decimal rank.pref ++ codes ")" ++ as_text rank.kind rank.path rank.origin ++ codes "\n"
    → b3 ≡ b2 ++ optional_text (codes "\tvia ") (λ gw. addr_text gw ++ codes "\n") via.gw
    → b3 ≡ b ++ shown_route names net best r
grouped names net best r rank via er ev b b1 b2 b3 e1 e2 e3 =
    route_joined
    (net_text net) (32 ∷ dest_text r.attrs.dest) (codes " [") (name_of names r.src.num) (codes "]")
    (if best then codes " *" else []) (codes " (") (decimal r.attrs.pref) (codes ")") (as_text r.attrs.kind r.attrs.path r.attrs.origin) (codes "\n")
    (optional_text (codes "\tvia ") (λ gw. addr_text gw ++ codes "\n") r.attrs.gw) b b1 b2 b3 e1
    (subst (λ (a : Attrs). b2 ≡ b1 ++ (if best then codes " *" else []) ++ codes " (" ++ decimal a.pref ++ codes ")" ++ as_text a.kind a.path a.origin ++ codes "\n") er e2)
    (subst (λ (a : Attrs). b3 ≡ b2 ++ optional_text (codes "\tvia ") (λ gw. addr_text gw ++ codes "\n") a.gw) ev e3)

pub returns : goal.returns
returns c =
    on_ok_weaker c.write_gateway.result
    (grouped (map (λ name. name.now) c.args.names.now) c.args.net.now c.args.is_best c.args.route.now c.deref.result.now c.deref-2.result.now c.deref.ensures c.deref-2.ensures
    c.args.out.now.items _ _ _ c.in_ok-write_source.ensures c.in_ok-write_rank.ensures)
    c.write_gateway.ensures
