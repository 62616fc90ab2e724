-- A prefix can stand behind each `route`.
use Rattle.std.proofs.Common.{◌≡◌, Bool, true, false, ◌||◌, ◌&&◌, not, List, [], ◌∷◌, ◌++◌, refl, sym, ap, ◌∙◌, append_assoc}
use Rattle.conf_lex.specs.declared.symbol.Symbol.TheVariants as symbols
use Rattle.conf_lex.specs.declared.word.Word.{Word}
use Rattle.conf_lex.specs.Kind.{Kind, IsPrefix, kind_of, symbol, prefix}
use Rattle.conf_lex.specs.Grammar.{Terminal, Seq, ParseTree, Leaf, Pair, yield, DerivesLongest}
use Rattle.conf_lex.specs.Sentences.{IsBegun}
use Rattle.conf_lex.proofs.Checks.{all_of, kinds, is_kind, all_in, and_true}
use Rattle.expr_syntax.specs.Syntax.{rule}
use Rattle.expr_syntax.specs.Levels.{Level, Form, group_level}
use Rattle.conf_syntax.specs.Syntax.{config}
use Rattle.conf_syntax.proofs.Ends.{implied}
use Rattle.conf_syntax.proofs.Swaps.{Opened, sited, clean, opened}

abbrev Inside : List Word → Type 0
Inside ws = (w : Word) × (ws ≡ w ∷ []) × (prefix (kind_of w) ≡ true)

abbrev Closed : List Word → Type 0
Closed ws = Unit {0}

more : (xs ys : List Word) → Closed xs → Closed (xs ++ ys)
more xs ys c = tt

abbrev opens : Kind → Bool
opens k = symbol symbols.Route k

-- a prefix stands second
abbrev is_site : Form → Form → Bool
is_site (Terminal p) (Seq (Terminal q) g) = q IsPrefix && all_of kinds (λ k. not (q k) || prefix k)
is_site _ _ = false

prefix_kind : (k : Kind) → prefix k ≡ true → k ≡ IsPrefix
prefix_kind IsPrefix e = refl
prefix_kind _ e = absurd cc

at_site : (f g : Form) → is_site f g ≡ true → (a b : ParseTree) → DerivesLongest rule (Pair a b) (Seq f g) → (o : Word) (rest : List Word) → yield a ++ yield b ≡ o ∷ rest → opens (kind_of o) ≡ true → Opened Inside Closed more (Pair a b) (Seq f g) [] o rest
at_site (Terminal p) (Seq (Terminal q) g) site (Leaf y) (Pair (Leaf v) c) fits o rest e is =
    let parts = and_true (q IsPrefix) (all_of kinds (λ k. not (q k) || prefix k)) site in
    let same : y ≡ o = cc in
    let cut : rest ≡ (v ∷ []) ++ yield c = cc in
    record {
      old = v ∷ [];
      behind = yield c;
      cut = cut;
      inside = (v, refl, implied _ _ (all_in (λ k. not (q k) || prefix k) (kind_of v) kinds (is_kind (kind_of v)) parts.1) fits.1.0);
      closed = tt;
      swap = λ new ok. record {
        tree = Pair (Leaf o) (Pair (Leaf ok.0) c);
        fits = (ap (λ (u : Word). p (kind_of u)) (sym same) ∙ fits.0, (ap q (prefix_kind (kind_of ok.0) ok.2) ∙ parts.0, fits.1.1, fits.1.2), refl);
        reads = ap (λ (l : List Word). o ∷ (l ++ yield c)) (sym ok.1);
        on = λ k h. h;
        within = λ k h. h;
      };
    }
at_site (Terminal p) (Seq (Terminal q) g) site (Leaf y) (Pair _ c) fits o rest e is = absurd fits.1.0
at_site (Terminal p) (Seq (Terminal q) g) site (Leaf y) _ fits o rest e is = absurd fits.1
at_site (Terminal p) (Seq (Terminal q) g) site _ b fits o rest e is = absurd fits.0
at_site _ _ site a b fits o rest e is = absurd cc

levels : (n : Level) → (sited Inside Closed more opens is_site (rule n) && clean Inside Closed more opens is_site (rule n)) ≡ true
levels group_level = refl
levels _ = refl

-- behind words that begin a configuration and end in `route`
pub prefix_behind_route : (before : List Word) (o : Word) → symbol symbols.Route (kind_of o) ≡ true → IsBegun rule config (before ++ o ∷ []) → (w : Word) → prefix (kind_of w) ≡ true → IsBegun rule config ((before ++ o ∷ []) ++ w ∷ [])
prefix_behind_route before o is begun w net =
    let reads : yield begun.0 ≡ before ++ o ∷ begun.1 = begun.3 ∙ append_assoc before (o ∷ []) begun.1 in
    let x = opened Inside Closed more opens is_site levels at_site begun.0 config refl refl begun.2 before o begun.1 reads is in
    let y = x.swap (w ∷ []) (w, refl, net) in
    (y.tree, x.behind, y.fits, y.reads ∙ sym (append_assoc before (o ∷ []) (w ∷ x.behind)) ∙ sym (append_assoc (before ++ o ∷ []) (w ∷ []) x.behind))
