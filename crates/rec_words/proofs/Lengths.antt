-- How many words an entry has.
use Rattle.std.proofs.Common.{◌≡◌, ℕ, suc, ◌+◌, ◌/◌, ◌≤◌, List, [], ◌∷◌, ◌++◌, length, map, Option, Some, None, refl, ap, ◌∙◌, arith}
use Rattle.std.specs.Prelude.{IfSome}
use Rattle.std.proofs.lemmas.List.{length-append, length-map}
use Rattle.bits_ip.specs.declared.address.Addr.{Addr}
use Rattle.bits_ip.specs.declared.address.Addr.TheVariants.{V4, V6}
use Rattle.attrs.specs.declared.attributes.Attrs.{Attrs}
use Rattle.attrs.specs.declared.route.Route.{Route}
use Rattle.attrs.specs.declared.journal.JEntry.{JEntry}
use Rattle.rec_words.specs.Spelling.{addr_words, body_words, head_words, net_words, number_words, optional_route_words, pair_number, route_words}
use Rattle.rec_words.specs.Entries.{IsEntry, IsRoute}

pub numbers_len : (xs : List ℕ) → length (number_words xs) ≡ (length xs + 1) / 2
numbers_len [] = refl
numbers_len (n ∷ []) = refl
numbers_len (a ∷ b ∷ xs) = omega (arith, numbers_len xs)

pub coms_len : (pairs : List (ℕ × ℕ)) → length (number_words (map pair_number pairs)) ≡ (length pairs + 1) / 2
coms_len pairs = omega (arith, numbers_len (map pair_number pairs), length-map pairs pair_number)

pub addr_few : (addr : Option Addr) → length (addr_words addr) ≤ 3
addr_few None = omega arith
addr_few (Some (V4 n)) = omega arith
addr_few (Some (V6 n)) = omega arith

pub route_len : (r : Route) → length (route_words r) ≡ 5 + (length (addr_words r.attrs.gw) + length (addr_words r.attrs.sender) + length (addr_words r.attrs.next_hop)) + (length r.attrs.path + 1) / 2 + (length r.attrs.coms + 1) / 2
unfolding route_words
route_len r =
    let h = head_words r in
    let g = addr_words r.attrs.gw in
    let s = addr_words r.attrs.sender in
    let n = addr_words r.attrs.next_hop in
    let p = number_words r.attrs.path in
    let c = number_words (map pair_number r.attrs.coms) in
    omega (arith, length-append (h ++ g ++ s ++ n ++ p) c, length-append (h ++ g ++ s ++ n) p, length-append (h ++ g ++ s) n, length-append (h ++ g) s, length-append h g, numbers_len r.attrs.path, coms_len r.attrs.coms)

pub route_few : (r : Route) → IsRoute r → length (route_words r) ≤ 106
route_few r is =
    omega (arith, route_len r, addr_few r.attrs.gw, addr_few r.attrs.sender, addr_few r.attrs.next_hop, is.path.short, is.coms.list.short)

pub optional_few : (r : Option Route) → IfSome r IsRoute → length (optional_route_words r) ≤ 106
optional_few None is = omega arith
optional_few (Some r) is = route_few r is

pub body_len : (e : JEntry) → length (body_words e) ≡ 4 + length (optional_route_words e.new) + length (optional_route_words e.best)
body_len e =
    let front = net_words e.net ++ e.num ∷ [] in
    let new = optional_route_words e.new in
    let best = optional_route_words e.best in
    omega (arith, length-append (front ++ new) best, length-append front new)

pub body_few : (e : JEntry) → IsEntry e → suc (length (body_words e)) ≤ 217
body_few e is = omega (arith, body_len e, optional_few e.new is.new, optional_few e.best is.best)

-- what is counted of a route's parts is the length of its words
pub route_len_is :
    (r : Route) (a : Attrs) (path : List ℕ) (coms : List (ℕ × ℕ)) (g s n p c : ℕ) → a ≡ r.attrs → path ≡ a.path → coms ≡ a.coms → g ≡ length (addr_words a.gw) → s ≡ length (addr_words a.sender) → n ≡ length (addr_words a.next_hop) → p ≡ (length path + 1) / 2 → c ≡ (length coms + 1) / 2 → 5 + (g + s + n) + p + c ≡ length (route_words r)
route_len_is r a path coms g s n p c same path_is coms_is gw sender next_hop path_len com_len =
    let gw' : length (addr_words a.gw) ≡ length (addr_words r.attrs.gw) = ap (λ (x : Attrs). length (addr_words x.gw)) same in
    let sender' : length (addr_words a.sender) ≡ length (addr_words r.attrs.sender) = ap (λ (x : Attrs). length (addr_words x.sender)) same in
    let hop' : length (addr_words a.next_hop) ≡ length (addr_words r.attrs.next_hop) = ap (λ (x : Attrs). length (addr_words x.next_hop)) same in
    let path' : length path ≡ length r.attrs.path = ap length path_is ∙ ap (λ (x : Attrs). length x.path) same in
    let coms' : length coms ≡ length r.attrs.coms = ap length coms_is ∙ ap (λ (x : Attrs). length x.coms) same in
    omega (arith, route_len r, gw, sender, next_hop, path_len, com_len, gw', sender', hop', path', coms')
