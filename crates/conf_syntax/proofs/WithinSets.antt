-- Within a set: no address stands there, and a prefix can stand behind its bracket and behind an item and a comma.
use Rattle.std.proofs.Common.{◌≡◌, Bool, true, false, ◌||◌, ◌&&◌, not, List, [], ◌∷◌, ◌++◌, refl, sym, ap, subst, ◌∙◌, append_assoc, append-nil, inl, inr}
use Rattle.conf_lex.specs.declared.symbol.Symbol.TheVariants as symbols
use Rattle.conf_lex.specs.declared.word.Word.{Word}
use Rattle.conf_lex.specs.Kind.{Kind, kind_of, symbol, address, prefix}
use Rattle.conf_lex.specs.Grammar.{Terminal, Seq, Nested, ParseTree, Leaf, NoWords, Pair, Right, Single, Snoc, Deeper, yield, begins, can_continue, can_continue_in, DerivesLongest}
use Rattle.conf_lex.specs.Sentences.{IsBegun}
use Rattle.conf_lex.proofs.Good.{Solid}
use Rattle.conf_lex.proofs.Checks.{more, all_of, kinds, is_kind, all_in, or_left, or_right, goes_more, goes_inner}
use Rattle.conf_lex.proofs.Unique.{fronts}
use Rattle.expr_syntax.specs.Syntax.{rule, item, listed}
use Rattle.expr_syntax.specs.Levels.{Level, Form, group_level, set_level, pair_level, lengths_level}
use Rattle.expr_syntax.proofs.Tested.{model, after, checked, solid_at}
use Rattle.conf_syntax.specs.Syntax.{config}
use Rattle.conf_syntax.specs.Pairs.{has, is_bracket, is_item_end, IsInSet, EndsItem}
use Rattle.conf_syntax.proofs.Ends.{implied, not_is, not_both, last_same}
use Rattle.conf_syntax.proofs.Adjacent.{in_first, between, in_second, place_of, any, no_kind, has_none, fine, apart_words, has_right}
use Rattle.conf_syntax.proofs.Swaps.{Opened, sited, clean, opened}

-- ---- what a set holds may be another

abbrev is_open : Kind → Bool
is_open k = symbol symbols.OpenBracket k

abbrev is_close : Kind → Bool
is_close k = symbol symbols.CloseBracket k

abbrev Inside : List Word → Type 0
Inside ws = (s : ParseTree) × DerivesLongest rule s (rule set_level) × (yield s ≡ ws)

abbrev Closed : List Word → Type 0
Closed ws = begins is_close ws ≡ true

closed_more : (xs ys : List Word) → Closed xs → Closed (xs ++ ys)
closed_more [] ys c = absurd cc
closed_more (x ∷ xs) ys c = c

abbrev is_site : Form → Form → Bool
is_site (Nested p set_level) (Terminal q) = all_of kinds (λ k. not (q k) || is_close k)
is_site _ _ = false

-- no set goes on with its closing bracket
set_stops : (s : ParseTree) (v : Word) → DerivesLongest rule s (rule set_level) → is_close (kind_of v) ≡ true → can_continue rule s (rule set_level) (kind_of v) ≡ false
set_stops s v fits close = by (can_continue rule s (rule set_level) (kind_of v)) refl
  where
    by : (b : Bool) → can_continue rule s (rule set_level) (kind_of v) ≡ b → can_continue rule s (rule set_level) (kind_of v) ≡ false
    by false e = e
    by true e =
        let on : after set_level (kind_of v) ≡ true = checked.table set_level (kind_of v) (goes_more rule model after checked s (rule set_level) (kind_of v) (solid_at (rule set_level) (checked.checks set_level)) fits e) in
        absurd (not_close (is_close (kind_of v)) close on)
      where
        not_close : (c : Bool) → c ≡ true → not c ≡ true → ⊥
        not_close true c n = cc
        not_close false c n = cc

at_site : (f g : Form) → is_site f g ≡ true → (a b : ParseTree) → DerivesLongest rule (Pair a b) (Seq f g) → (o : Word) (rest : List Word) → yield a ++ yield b ≡ o ∷ rest → is_open (kind_of o) ≡ true → Opened Inside Closed closed_more (Pair a b) (Seq f g) [] o rest
at_site (Nested p set_level) (Terminal q) site (Deeper y s) (Leaf v) fits o rest e is =
    let same : y ≡ o = cc in
    let cut : rest ≡ yield s ++ v ∷ [] = cc in
    let close : is_close (kind_of v) ≡ true = implied _ _ (all_in (λ k. not (q k) || is_close k) (kind_of v) kinds (is_kind (kind_of v)) site) fits.1 in
    record {
      old = yield s;
      behind = v ∷ [];
      cut = cut;
      inside = (s, fits.0.1, refl);
      closed = close;
      swap = λ new ok. record {
        tree = Pair (Deeper o ok.0) (Leaf v);
        fits = ((ap (λ (u : Word). p (kind_of u)) (sym same) ∙ fits.0.0, ok.1), fits.1, set_stops ok.0 v ok.1 close);
        reads = ap (λ (l : List Word). o ∷ (l ++ v ∷ [])) ok.2;
        on = λ k h. h;
        within = λ k h. h;
      };
    }
at_site (Nested p set_level) (Terminal q) site (Deeper y s) _ fits o rest e is = absurd fits.1
at_site (Nested p set_level) (Terminal q) site _ b fits o rest e is = absurd fits.0
at_site _ _ site a b fits o rest e is = absurd cc

levels : (n : Level) → (sited Inside Closed closed_more is_open is_site (rule n) && clean Inside Closed closed_more is_open is_site (rule n)) ≡ true
levels group_level = refl
levels _ = refl

-- ---- words within a set

closes_in : (xs : List Word) (v : Word) (ys : List Word) → is_close (kind_of v) ≡ true → has is_bracket (xs ++ v ∷ ys) ≡ true
closes_in xs v ys close = has_right is_bracket xs (v ∷ ys) (or_left _ _ (or_right _ _ close))

-- one more word that is no bracket
no_bracket : (p : Kind → Bool) → all_of kinds (λ i. not (p i) || not (is_bracket i)) ≡ true → (k : Kind) → p k ≡ true → is_bracket k ≡ false
no_bracket p all k e = not_is _ (implied _ _ (all_in (λ i. not (p i) || not (is_bracket i)) k kinds (is_kind k) all) e)

none_more : (xs : List Word) (v : Word) → has is_bracket xs ≡ false → is_bracket (kind_of v) ≡ false → has is_bracket (xs ++ v ∷ []) ≡ false
none_more [] v e a = rw a refl
none_more (x ∷ xs) v e a = by (is_bracket (kind_of x)) (has is_bracket xs) e (λ h. none_more xs v h a)
  where
    by : (b c : Bool) → (b || c) ≡ false → (c ≡ false → has is_bracket (xs ++ v ∷ []) ≡ false) → (b || has is_bracket (xs ++ v ∷ [])) ≡ false
    by true c e f = absurd cc
    by false c e f = f e

-- a tree of the configuration in which the set goes on behind these words
record Going (front : List Word) (o : Word) (behind : List Word) : Type 0 where
  set : ParseTree
  fits : DerivesLongest rule set (rule set_level)
  extra : List Word
  reads : yield set ≡ behind ++ extra
  swap : (s : ParseTree) → DerivesLongest rule s (rule set_level) → IsBegun rule config (front ++ o ∷ yield s)

going : (front : List Word) (o : Word) (behind : List Word) → is_open (kind_of o) ≡ true → has is_bracket behind ≡ false → IsBegun rule config (front ++ o ∷ behind) → Going front o behind
going front o behind is none begun =
    let reads : yield begun.0 ≡ front ++ o ∷ (behind ++ begun.1) = begun.3 ∙ append_assoc front (o ∷ behind) begun.1 in
    let x = opened Inside Closed closed_more is_open is_site levels at_site begun.0 config refl refl begun.2 front o (behind ++ begun.1) reads is in
    let again : (s : ParseTree) → DerivesLongest rule s (rule set_level) → IsBegun rule config (front ++ o ∷ yield s) = λ s fits.
    let y = x.swap (yield s) (s, fits, refl) in
    (y.tree, x.behind, y.fits, y.reads ∙ sym (append_assoc front (o ∷ yield s) x.behind)) in
    elim (fronts behind begun.1 x.old x.behind x.cut) [
      | inl same ↦ record { set = x.inside.0; fits = x.inside.1; extra = []; reads = x.inside.2 ∙ sym same.0 ∙ sym (append-nil behind); swap = again }
      | inr other ↦ elim other [
        | inl l ↦ absurd (not_both (has is_bracket behind) (longer l.word l.more x.old x.behind begun.1 l.front l.rest x.closed) none)
        | inr l ↦ record { set = x.inside.0; fits = x.inside.1; extra = l.word ∷ l.more; reads = x.inside.2 ∙ l.front; swap = again }
      ]
    ]
  where
    longer : (v : Word) (m old close r : List Word) → behind ≡ old ++ v ∷ m → close ≡ v ∷ (m ++ r) → Closed close → has is_bracket behind ≡ true
    longer v m old close r cut rest c =
        let first : is_close (kind_of v) ≡ true = ap (begins is_close) (sym rest) ∙ c in
        ap (has is_bracket) cut ∙ closes_in old v m first

-- ---- no address

abbrev in_sets : Level → Bool
in_sets set_level = true
in_sets pair_level = true
in_sets lengths_level = true
in_sets _ = false

address_rules : (n : Level) → in_sets n ≡ true → fine any address no_kind in_sets (rule n) ≡ true
address_rules set_level e = refl
address_rules pair_level e = refl
address_rules lengths_level e = refl
address_rules _ e = absurd cc

-- the last of some words
last_of : (o : Word) (ws : List Word) → (front : List Word) × (u : Word) × (o ∷ ws ≡ front ++ u ∷ [])
last_of o [] = ([], o, refl)
last_of o (w ∷ ws) = let l = last_of w ws in (o ∷ l.0, l.1, ap (λ (u : List Word). o ∷ u) l.2)

pub no_address : (before : List Word) (w : Word) → IsInSet before → address (kind_of w) ≡ true → IsBegun rule config (before ++ w ∷ []) → ⊥
no_address before w h is begun =
    let cut : before ++ w ∷ [] ≡ h.front ++ h.opener ∷ (h.behind ++ w ∷ []) = ap (λ (u : List Word). u ++ w ∷ []) h.cut ∙ append_assoc h.front (h.opener ∷ h.behind) (w ∷ []) in
    let g = going h.front h.opener (h.behind ++ w ∷ []) h.opens (none_more h.behind w h.none (no_bracket address refl (kind_of w) is)) (subst (IsBegun rule config) cut begun) in
    let l = last_of h.opener h.behind in
    let words : h.opener ∷ yield g.set ≡ l.0 ++ l.1 ∷ w ∷ g.extra = ap (λ (u : List Word). h.opener ∷ u) (g.reads ∙ append_assoc h.behind (w ∷ []) g.extra) ∙ ap (λ (u : List Word). u ++ w ∷ g.extra) l.2 ∙ append_assoc l.0 (l.1 ∷ []) (w ∷ g.extra) in
    apart_words any address no_kind in_sets address_rules (Deeper h.opener g.set) (Nested is_open set_level) tt refl (h.opens, g.fits) l.0 l.1 w g.extra words refl is (has_none (l.0 ++ l.1 ∷ []))

-- ---- a prefix behind a bracket and behind an item

abbrev one_item : Word → ParseTree
one_item w = Right (Right (Pair (Leaf w) (Right NoWords)))

item_fits : (w : Word) → prefix (kind_of w) ≡ true → DerivesLongest rule (one_item w) item
item_fits w net = (net, tt, refl)

abbrev is_comma : Kind → Bool
is_comma k = symbol symbols.Comma k

abbrev in_items : Level → Bool
in_items pair_level = true
in_items lengths_level = true
in_items _ = false

end_rules : (n : Level) → in_items n ≡ true → fine is_item_end is_comma no_kind in_items (rule n) ≡ true
end_rules pair_level e = refl
end_rules lengths_level e = refl
end_rules _ e = absurd cc

abbrev next_item : Form
next_item = Seq (Terminal is_comma) item

-- within an item no comma stands behind what ends one
not_in : (t : ParseTree) (f : Form) → Solid f → fine is_item_end is_comma no_kind in_items f ≡ true → DerivesLongest rule t f → (front : List Word) (u w : Word) (rest : List Word) → yield t ≡ front ++ u ∷ w ∷ rest → is_item_end (kind_of u) ≡ true → is_comma (kind_of w) ≡ true → ⊥
not_in t f solid ok fits front u w rest e ends comma = apart_words is_item_end is_comma no_kind in_items end_rules t f solid ok fits front u w rest e ends comma (has_none (front ++ u ∷ []))

-- so the words before the comma are a list of items
record Items (ws : List Word) : Type 0 where
  tree : ParseTree
  fits : DerivesLongest rule tree (rule set_level)
  reads : yield tree ≡ ws

items_before : (s : ParseTree) → DerivesLongest rule s (listed item) → (front : List Word) (u w : Word) (rest : List Word) → yield s ≡ front ++ u ∷ w ∷ rest → is_item_end (kind_of u) ≡ true → is_comma (kind_of w) ≡ true → Items (front ++ u ∷ [])
items_before (Single a) fits front u w rest e ends comma = absurd (not_in a item (solid_at item refl) refl fits front u w rest e ends comma)
items_before (Snoc t b) fits front u w rest e ends comma = elim (place_of (yield t) (yield b) front u w rest e) [
  | in_first r cut ↦ items_before t fits.0 front u w r cut ends comma
  | between cut next ↦ record { tree = t; fits = fits.0; reads = cut }
  | in_second r before cut ↦ absurd (not_in b next_item (solid_at next_item refl) refl fits.1 r u w rest cut ends comma)
]
items_before _ fits front u w rest e ends comma = absurd fits

-- no item goes on with a comma
comma_stops : (t : ParseTree) (c : Word) (ws : List Word) → DerivesLongest rule t (listed item) → is_comma (kind_of c) ≡ true → begins (can_continue_in rule t (listed item)) (c ∷ ws) ≡ false
comma_stops t c ws fits comma = by (can_continue_in rule t (listed item) (kind_of c)) refl
  where
    by : (b : Bool) → can_continue_in rule t (listed item) (kind_of c) ≡ b → can_continue_in rule t (listed item) (kind_of c) ≡ false
    by false e = e
    by true e =
        let on : (more after item (kind_of c) || more after next_item (kind_of c)) ≡ true = goes_inner rule model after checked t item next_item (kind_of c) (solid_at (listed item) refl) fits e in
        absurd (not_both (not (is_comma (kind_of c))) (implied _ _ (all_in (λ k. not (more after item k || more after next_item k) || not (is_comma k)) (kind_of c) kinds (is_kind (kind_of c)) refl) on) (ap not comma))

with_item : (t : ParseTree) (c w : Word) → DerivesLongest rule t (listed item) → is_comma (kind_of c) ≡ true → prefix (kind_of w) ≡ true → DerivesLongest rule (Snoc t (Pair (Leaf c) (one_item w))) (listed item)
with_item t c w fits comma net = (fits, (comma, item_fits w net, refl), comma_stops t c (w ∷ []) fits comma)

pub prefix_behind_bracket : (before : List Word) (o : Word) → is_open (kind_of o) ≡ true → IsBegun rule config (before ++ o ∷ []) → (w : Word) → prefix (kind_of w) ≡ true → IsBegun rule config ((before ++ o ∷ []) ++ w ∷ [])
prefix_behind_bracket before o is begun w net =
    subst (IsBegun rule config) (sym (append_assoc before (o ∷ []) (w ∷ []))) ((going before o [] is refl begun).swap (Single (one_item w)) (item_fits w net))

-- what ends an item is no bracket that opens a set
end_behind : (front : List Word) (o : Word) (behind : List Word) (before : List Word) (u : Word) → front ++ o ∷ behind ≡ before ++ u ∷ [] → is_open (kind_of o) ≡ true → is_item_end (kind_of u) ≡ true → (q : List Word) × (behind ≡ q ++ u ∷ [])
end_behind front o behind before u e is ends =
    let l = last_of o behind in
    let whole : (front ++ l.0) ++ l.1 ∷ [] ≡ before ++ u ∷ [] = append_assoc front l.0 (l.1 ∷ []) ∙ ap (λ (v : List Word). front ++ v) (sym l.2) ∙ e in
    by behind l.0 l.1 l.2 (last_same (front ++ l.0) before l.1 u whole)
  where
    never : (k : Kind) → is_open k ≡ true → is_item_end k ≡ true → ⊥
    never k a b = not_both (not (is_item_end k)) (implied _ _ (all_in (λ i. not (is_open i) || not (is_item_end i)) k kinds (is_kind k) refl) a) (ap not b)

    by : (ws q : List Word) (v : Word) → o ∷ ws ≡ q ++ v ∷ [] → v ≡ u → (r : List Word) × (ws ≡ r ++ u ∷ [])
    by ws [] v s same = let first : o ≡ v = cc in absurd (never (kind_of o) is (ap (λ (x : Word). is_item_end (kind_of x)) (first ∙ same) ∙ ends))
    by ws (x ∷ q) v s same = let rest : ws ≡ q ++ v ∷ [] = cc in (q, rest ∙ ap (λ (y : Word). q ++ y ∷ []) same)

in_place : (before front behind : List Word) (o c w : Word) (t : ParseTree) → before ≡ front ++ o ∷ behind → yield t ≡ behind → IsBegun rule config (front ++ o ∷ (yield t ++ c ∷ w ∷ [])) → IsBegun rule config ((before ++ c ∷ []) ++ w ∷ [])
in_place before front behind o c w t cut reads begun =
    let whole : front ++ o ∷ (yield t ++ c ∷ w ∷ []) ≡ (before ++ c ∷ []) ++ w ∷ [] =
    ap (λ (v : List Word). front ++ o ∷ (v ++ c ∷ w ∷ [])) reads ∙ sym (append_assoc front (o ∷ behind) (c ∷ w ∷ [])) ∙ ap (λ (v : List Word). v ++ c ∷ w ∷ []) (sym cut) ∙ sym (append_assoc before (c ∷ []) (w ∷ [])) in
    subst (IsBegun rule config) whole begun

pub prefix_behind_comma : (before : List Word) (c : Word) → IsInSet before → EndsItem before → is_comma (kind_of c) ≡ true → IsBegun rule config (before ++ c ∷ []) → (w : Word) → prefix (kind_of w) ≡ true → IsBegun rule config ((before ++ c ∷ []) ++ w ∷ [])
prefix_behind_comma before c h item_end comma begun w net =
    let p = end_behind h.front h.opener h.behind item_end.front item_end.last (sym h.cut ∙ item_end.cut) h.opens item_end.is in
    let u = item_end.last in
    let cut : before ++ c ∷ [] ≡ h.front ++ h.opener ∷ (h.behind ++ c ∷ []) = ap (λ (v : List Word). v ++ c ∷ []) h.cut ∙ append_assoc h.front (h.opener ∷ h.behind) (c ∷ []) in
    let g = going h.front h.opener (h.behind ++ c ∷ []) h.opens (none_more h.behind c h.none (no_bracket is_comma refl (kind_of c) comma)) (subst (IsBegun rule config) cut begun) in
    let words : yield g.set ≡ p.0 ++ u ∷ c ∷ g.extra = g.reads ∙ append_assoc h.behind (c ∷ []) g.extra ∙ ap (λ (v : List Word). v ++ c ∷ g.extra) p.1 ∙ append_assoc p.0 (u ∷ []) (c ∷ g.extra) in
    let t = items_before g.set g.fits p.0 u c g.extra words item_end.is comma in
    in_place before h.front h.behind h.opener c w t.tree h.cut (t.reads ∙ sym p.1) (g.swap (Snoc t.tree (Pair (Leaf c) (one_item w))) (with_item t.tree c w t.fits comma net))
