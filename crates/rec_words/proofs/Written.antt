-- A route's words, written one part after another.
use Rattle.std.proofs.Common.{◌≡◌, ℕ, suc, Bool, List, Option, [], ◌∷◌, ◌++◌, length, map, ap, ◌∙◌, append_assoc}
use Rattle.std.specs.Option.{is_some}
use Rattle.attrs.specs.declared.attributes.Attrs.{Attrs}
use Rattle.attrs.specs.declared.route.Route.{Route}
use Rattle.attrs.specs.declared.journal.JEntry.{JEntry}
use Rattle.rec_words.specs.Spelling.{addr_words, body_words, entry_words, first_word, head_words, net_words, number_words, optional_route_words, pair_number, route_words}

after : (b h g s n p c : List ℕ) → b ++ h ++ g ++ s ++ n ++ p ++ c ≡ b ++ (h ++ g ++ s ++ n ++ p ++ c)
after b h g s n p c =
    ap (λ (t : List ℕ). t ++ c) (ap (λ (t : List ℕ). t ++ p) (ap (λ (t : List ℕ). t ++ n) (ap (λ (t : List ℕ). t ++ s) (append_assoc b h g) ∙ append_assoc b (h ++ g) s) ∙ append_assoc b (h ++ g ++ s) n) ∙ append_assoc b (h ++ g ++ s ++ n) p)
    ∙ append_assoc b (h ++ g ++ s ++ n ++ p) c

pub route_written :
    (r : Route) (a : Attrs) (path : List ℕ) (coms : List (ℕ × ℕ)) (b0 b1 b2 b3 b4 b5 b6 : List ℕ) → a ≡ r.attrs → path ≡ a.path → coms ≡ a.coms → b1 ≡ b0 ++ head_words r → b2 ≡ b1 ++ addr_words a.gw → b3 ≡ b2 ++ addr_words a.sender → b4 ≡ b3 ++ addr_words a.next_hop → b5 ≡ b4 ++ number_words path → b6 ≡ b5 ++ number_words (map pair_number coms) → b6 ≡ b0 ++ route_words r
unfolding route_words
route_written r a path coms b0 b1 b2 b3 b4 b5 b6 same path_is coms_is e1 e2 e3 e4 e5 e6 =
    let g : b2 ≡ b0 ++ head_words r ++ addr_words r.attrs.gw = e2 ∙ ap (λ (t : List ℕ). t ++ addr_words a.gw) e1 ∙ ap (λ (x : Attrs). b0 ++ head_words r ++ addr_words x.gw) same in
    let s : b3 ≡ b0 ++ head_words r ++ addr_words r.attrs.gw ++ addr_words r.attrs.sender = e3 ∙ ap (λ (t : List ℕ). t ++ addr_words a.sender) g ∙ ap (λ (x : Attrs). b0 ++ head_words r ++ addr_words r.attrs.gw ++ addr_words x.sender) same in
    let n : b4 ≡ b0 ++ head_words r ++ addr_words r.attrs.gw ++ addr_words r.attrs.sender ++ addr_words r.attrs.next_hop =
    e4 ∙ ap (λ (t : List ℕ). t ++ addr_words a.next_hop) s ∙ ap (λ (x : Attrs). b0 ++ head_words r ++ addr_words r.attrs.gw ++ addr_words r.attrs.sender ++ addr_words x.next_hop) same in
    let paths : number_words path ≡ number_words r.attrs.path = ap number_words (path_is ∙ ap (λ (x : Attrs). x.path) same) in
    let lists : number_words (map pair_number coms) ≡ number_words (map pair_number r.attrs.coms) = ap (λ (x : List (ℕ × ℕ)). number_words (map pair_number x)) (coms_is ∙ ap (λ (x : Attrs). x.coms) same) in
    let front = b0 ++ head_words r ++ addr_words r.attrs.gw ++ addr_words r.attrs.sender ++ addr_words r.attrs.next_hop in
    let p : b5 ≡ front ++ number_words r.attrs.path = e5 ∙ ap (λ (t : List ℕ). t ++ number_words path) n ∙ ap (λ (t : List ℕ). front ++ t) paths in
    e6 ∙ ap (λ (t : List ℕ). t ++ number_words (map pair_number coms)) p ∙ ap (λ (t : List ℕ). front ++ number_words r.attrs.path ++ t) lists
    ∙ after b0 (head_words r) (addr_words r.attrs.gw) (addr_words r.attrs.sender) (addr_words r.attrs.next_hop) (number_words r.attrs.path) (number_words (map pair_number r.attrs.coms))

pub entry_written :
    (e : JEntry) (count : ℕ) (has_new has_best : Bool) (first num : ℕ) (new best : Option Route) (b0 b1 b2 b3 b4 b5 : List ℕ) → count ≡ suc (length (body_words e)) → has_new ≡ is_some e.new → has_best ≡ is_some e.best → first ≡ first_word count has_new has_best → num ≡ e.num → new ≡ e.new → best ≡ e.best → b0 ≡ [] → b1 ≡ b0 ++ first ∷ [] → b2 ≡ b1 ++ net_words e.net → b3 ≡ b2 ++ num ∷ [] → b4 ≡ b3 ++ optional_route_words new → b5 ≡ b4 ++ optional_route_words best → b5 ≡ entry_words e
unfolding entry_words
entry_written e count has_new has_best first num new best b0 b1 b2 b3 b4 b5 count_is new_there best_there first_is num_is new_is best_is e0 e1 e2 e3 e4 e5 =
    let w = first_word (suc (length (body_words e))) (is_some e.new) (is_some e.best) in
    let head : first ≡ w = first_is ∙ ap (λ (n : ℕ). first_word n has_new has_best) count_is ∙ ap (λ (b : Bool). first_word (suc (length (body_words e))) b has_best) new_there ∙ ap (λ (b : Bool). first_word (suc (length (body_words e))) (is_some e.new) b) best_there in
    let one : b1 ≡ w ∷ [] = e1 ∙ ap (λ (t : List ℕ). t ++ first ∷ []) e0 ∙ ap (λ (n : ℕ). n ∷ []) head in
    let two : b2 ≡ w ∷ net_words e.net = e2 ∙ ap (λ (t : List ℕ). t ++ net_words e.net) one in
    let three : b3 ≡ w ∷ (net_words e.net ++ e.num ∷ []) = e3 ∙ ap (λ (t : List ℕ). t ++ num ∷ []) two ∙ ap (λ (n : ℕ). w ∷ (net_words e.net ++ n ∷ [])) num_is in
    let four : b4 ≡ w ∷ (net_words e.net ++ e.num ∷ [] ++ optional_route_words e.new) = e4 ∙ ap (λ (t : List ℕ). t ++ optional_route_words new) three ∙ ap (λ (r : Option Route). w ∷ (net_words e.net ++ e.num ∷ [] ++ optional_route_words r)) new_is in
    e5 ∙ ap (λ (t : List ℕ). t ++ optional_route_words best) four ∙ ap (λ (r : Option Route). w ∷ (net_words e.net ++ e.num ∷ [] ++ optional_route_words e.new ++ optional_route_words r)) best_is
