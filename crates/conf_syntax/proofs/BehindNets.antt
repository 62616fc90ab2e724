-- `blackhole` can stand behind each `route` and its prefix.
use Rattle.std.proofs.Common.{◌≡◌, Bool, true, false, ◌||◌, ◌&&◌, not, List, [], ◌∷◌, ◌++◌, refl, sym, ap, subst, ◌∙◌, append_assoc, append-nil}
use Rattle.conf_lex.specs.declared.symbol.Symbol.TheVariants as symbols
use Rattle.conf_lex.specs.declared.word.Word.{Word}
use Rattle.conf_lex.specs.Kind.{Kind, address, kind_of, symbol, prefix}
use Rattle.conf_lex.specs.Grammar.{Terminal, Seq, Alt, ParseTree, Leaf, Pair, Left, Right, yield, DerivesLongest}
use Rattle.conf_lex.specs.Sentences.{IsBegun}
use Rattle.conf_lex.proofs.Checks.{all_of, kinds, is_kind, all_in, and_true}
use Rattle.expr_syntax.specs.Syntax.{rule}
use Rattle.expr_syntax.specs.Levels.{Level, Form, group_level}
use Rattle.conf_syntax.specs.Syntax.{config}
use Rattle.conf_syntax.specs.Pairs.{EndsNet}
use Rattle.conf_syntax.proofs.Ends.{implied}
use Rattle.conf_syntax.proofs.Swaps.{Changed, Opened, sited, clean, opened}

abbrev via : Kind → Bool
via k = symbol symbols.Via k

abbrev is_fate : Kind → Bool
is_fate k = symbol symbols.Blackhole k || symbol symbols.Unreachable k || symbol symbols.Prohibit k

-- a prefix, and where its route leads to
data Inside (ws : List Word) : Type 0 where
  by_address : (w v x : Word) → ws ≡ w ∷ v ∷ x ∷ [] → prefix (kind_of w) ≡ true → via (kind_of v) ≡ true → address (kind_of x) ≡ true → Inside ws
  by_fate : (w b : Word) → ws ≡ w ∷ b ∷ [] → prefix (kind_of w) ≡ true → is_fate (kind_of b) ≡ true → Inside ws

abbrev Closed : List Word → Type 0
Closed ws = Unit {0}

more : (xs ys : List Word) → Closed xs → Closed (xs ++ ys)
more xs ys c = tt

abbrev opens : Kind → Bool
opens k = symbol symbols.Route k

-- words of one kind are of the other
abbrev below : (Kind → Bool) → (Kind → Bool) → Bool
below p q = all_of kinds (λ k. not (p k) || q k)

abbrev alike : (Kind → Bool) → (Kind → Bool) → Bool
alike p q = below p q && below q p

below_is : (p q : Kind → Bool) (k : Kind) → below p q ≡ true → p k ≡ true → q k ≡ true
below_is p q k all is = implied _ _ (all_in (λ j. not (p j) || q j) k kinds (is_kind k) all) is

abbrev is_site : Form → Form → Bool
is_site (Terminal p) (Seq (Terminal q) (Alt (Seq (Terminal a) (Terminal b)) (Terminal r))) =
    (alike q prefix && alike a via) && (alike b address && alike r is_fate)
is_site _ _ = false

inside_of : (a b r : Kind → Bool) → below a via ≡ true → below b address ≡ true → below r is_fate ≡ true → (w : Word) → prefix (kind_of w) ≡ true → (c : ParseTree) → DerivesLongest rule c (Alt (Seq (Terminal a) (Terminal b)) (Terminal r)) → Inside (w ∷ yield c)
inside_of a b r ways ips fates w net (Left (Pair (Leaf v) (Leaf x))) fits = by_address w v x refl net (below_is a via (kind_of v) ways fits.0) (below_is b address (kind_of x) ips fits.1)
inside_of a b r ways ips fates w net (Left (Pair (Leaf v) _)) fits = absurd fits.1
inside_of a b r ways ips fates w net (Left (Pair _ x)) fits = absurd fits.0
inside_of a b r ways ips fates w net (Left _) fits = absurd fits
inside_of a b r ways ips fates w net (Right (Leaf v)) fits = by_fate w v refl net (below_is r is_fate (kind_of v) fates fits)
inside_of a b r ways ips fates w net (Right _) fits = absurd fits
inside_of a b r ways ips fates w net _ fits = absurd fits

nothing : (b : Bool) → false ≡ true → b ≡ true
nothing b e = absurd cc

-- such words behind the one word, as a tree that nothing goes on with
made : (p q a b r : Kind → Bool) → below prefix q ≡ true → below via a ≡ true → below address b ≡ true → below is_fate r ≡ true → (t : ParseTree) (o : Word) → p (kind_of o) ≡ true → (new : List Word) → Inside new
    → Changed t (Seq (Terminal p) (Seq (Terminal q) (Alt (Seq (Terminal a) (Terminal b)) (Terminal r)))) (o ∷ new)
made p q a b r nets ways ips fates t o first new (by_address w v x is net way ip) = record {
  tree = Pair (Leaf o) (Pair (Leaf w) (Left (Pair (Leaf v) (Leaf x))));
  fits = (first, (below_is prefix q (kind_of w) nets net, (below_is via a (kind_of v) ways way, below_is address b (kind_of x) ips ip, refl), refl), refl);
  reads = ap (λ (l : List Word). o ∷ l) (sym is);
  on = λ k. nothing _;
  within = λ k. nothing _;
}
made p q a b r nets ways ips fates t o first new (by_fate w v is net fate) = record {
  tree = Pair (Leaf o) (Pair (Leaf w) (Right (Leaf v)));
  fits = (first, (below_is prefix q (kind_of w) nets net, below_is is_fate r (kind_of v) fates fate, refl), refl);
  reads = ap (λ (l : List Word). o ∷ l) (sym is);
  on = λ k. nothing _;
  within = λ k. nothing _;
}

at_site : (f g : Form) → is_site f g ≡ true → (a b : ParseTree) → DerivesLongest rule (Pair a b) (Seq f g) → (o : Word) (rest : List Word) → yield a ++ yield b ≡ o ∷ rest → opens (kind_of o) ≡ true → Opened Inside Closed more (Pair a b) (Seq f g) [] o rest
at_site (Terminal p) (Seq (Terminal q) (Alt (Seq (Terminal a) (Terminal b)) (Terminal r))) site (Leaf y) (Pair (Leaf v) c) fits o rest e is =
    let halves = and_true (alike q prefix && alike a via) (alike b address && alike r is_fate) site in
    let first = and_true (alike q prefix) (alike a via) halves.0 in
    let second = and_true (alike b address) (alike r is_fate) halves.1 in
    let net = and_true (below q prefix) (below prefix q) first.0 in
    let way = and_true (below a via) (below via a) first.1 in
    let ip = and_true (below b address) (below address b) second.0 in
    let fate = and_true (below r is_fate) (below is_fate r) second.1 in
    let same : y ≡ o = cc in
    let cut : rest ≡ v ∷ yield c = cc in
    record {
      old = v ∷ yield c;
      behind = [];
      cut = cut ∙ sym (append-nil (v ∷ yield c));
      inside = inside_of a b r way.0 ip.0 fate.0 v (below_is q prefix (kind_of v) net.0 fits.1.0) c fits.1.1;
      closed = tt;
      swap = λ new ok. subst (λ (l : List Word). Changed (Pair (Leaf y) (Pair (Leaf v) c)) (Seq (Terminal p) (Seq (Terminal q) (Alt (Seq (Terminal a) (Terminal b)) (Terminal r)))) (o ∷ l)) (sym (append-nil new))
          (made p q a b r net.1 way.1 ip.1 fate.1 (Pair (Leaf y) (Pair (Leaf v) c)) o (ap (λ (u : Word). p (kind_of u)) (sym same) ∙ fits.0) new ok);
    }
at_site (Terminal p) (Seq (Terminal q) (Alt (Seq (Terminal a) (Terminal b)) (Terminal r))) site (Leaf y) (Pair _ c) fits o rest e is = absurd fits.1.0
at_site (Terminal p) (Seq (Terminal q) (Alt (Seq (Terminal a) (Terminal b)) (Terminal r))) site (Leaf y) _ fits o rest e is = absurd fits.1
at_site (Terminal p) (Seq (Terminal q) (Alt (Seq (Terminal a) (Terminal b)) (Terminal r))) site _ t fits o rest e is = absurd fits.0
at_site _ _ site a b fits o rest e is = absurd cc

levels : (n : Level) → (sited Inside Closed more opens is_site (rule n) && clean Inside Closed more opens is_site (rule n)) ≡ true
levels group_level = refl
levels _ = refl

first_of : (a b c : Bool) → a ≡ true → (a || b || c) ≡ true
first_of true b c e = refl
first_of false b c e = absurd cc

-- behind words that begin a configuration and end in `route` and a prefix
pub blackhole_behind_net : (before : List Word) (o v : Word) → symbol symbols.Route (kind_of o) ≡ true → prefix (kind_of v) ≡ true → IsBegun rule config ((before ++ o ∷ []) ++ v ∷ []) → (w : Word) → symbol symbols.Blackhole (kind_of w) ≡ true → IsBegun rule config (((before ++ o ∷ []) ++ v ∷ []) ++ w ∷ [])
blackhole_behind_net before o v is net begun w black =
    let reads : yield begun.0 ≡ before ++ o ∷ (v ∷ begun.1) = begun.3 ∙ append_assoc (before ++ o ∷ []) (v ∷ []) begun.1 ∙ append_assoc before (o ∷ []) (v ∷ begun.1) in
    let x = opened Inside Closed more opens is_site levels at_site begun.0 config refl refl begun.2 before o (v ∷ begun.1) reads is in
    let y = x.swap (v ∷ w ∷ []) (by_fate v w refl net (first_of _ _ _ black)) in
    (y.tree, x.behind, y.fits, y.reads ∙ sym (append_assoc before (o ∷ []) (v ∷ w ∷ x.behind)) ∙ sym (append_assoc (before ++ o ∷ []) (v ∷ []) (w ∷ x.behind)) ∙ sym (append_assoc ((before ++ o ∷ []) ++ v ∷ []) (w ∷ []) x.behind))

pub blackhole_behind : (words : List Word) → EndsNet words → (w : Word) → symbol symbols.Blackhole (kind_of w) ≡ true → IsBegun rule config words → IsBegun rule config (words ++ w ∷ [])
blackhole_behind words ends w black begun =
    subst (λ (l : List Word). IsBegun rule config (l ++ w ∷ [])) (sym ends.cut)
    (blackhole_behind_net ends.front ends.opener ends.net ends.opens ends.is (subst (IsBegun rule config) ends.cut begun) w black)
