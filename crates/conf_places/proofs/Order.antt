-- The words of a text stand in its order, and so do the places of the statements that it says.
use Rattle.std.proofs.Common.{◌≡◌, ℕ, zero, suc, ◌+◌, ◌-◌, ◌<◌, arith, All, Bool, true, false, cond, List, [], ◌∷◌, ◌++◌, map, refl, ap, subst, ◌∙◌, sym as flip}
use Rattle.std.specs.Bool.{⊤}
use Rattle.conf_scan.specs.Lex.{Lexes}
use Rattle.conf_scan.specs.Spans.{IsSpan, IsBetween}
use Rattle.conf_lex.specs.Words.{first_word, words_from, words_of}
use Rattle.conf_scan.specs.declared.token.Token.{Token}
use Rattle.conf_lex.specs.declared.word.Word.{Word}
use Rattle.conf_lex.specs.Grammar.{ParseTree, NoWords, Single, Snoc, DerivesLongest, yield}
use Rattle.expr_syntax.specs.Syntax.{rule}
use Rattle.expr_syntax.specs.Rows.{row_after}
use Rattle.conf_tree.specs.Read.{IsConfigText}
use Rattle.conf_words.specs.Significant.{significant, is_significant, behind}
use Rattle.conf_syntax.specs.Syntax as forms
use Rattle.conf_tree.specs.View.{statement_tree, statements_tree}
use Rattle.conf_words.specs.declared.significant.Region.{Region}
use Rattle.conf_words.specs.declared.significant.Region.TheVariants as regions
use Rattle.conf_ast.specs.declared.configurations.Statement.{Statement}
use Rattle.conf_ast.specs.Configurations.{Declaration, configuration_of, declaration_of}
use Rattle.conf_places.specs.Configurations.{IsBefore, places}
use Rattle.conf_places.specs.Words.{of_word, of_words}
use Rattle.conf_places.proofs.Every.{Every, join, left, right, weaker, all_of}
use Rattle.conf_places.proofs.Statements.{declaration_on}
use Rattle.conf_places.proofs.Texts.{shifted, first_placed, from_placed}
use Rattle.conf_places.proofs.Trees.{on_tree}

-- ---- each before those behind it

abbrev pub InOrder : {X : Type 0} → (X → X → Type 0) → List X → Type 0
InOrder R [] = ⊤
InOrder R (x ∷ xs) = Every (R x) xs × InOrder R xs

order_right : {X : Type 0} (R : X → X → Type 0) (xs ys : List X) → InOrder R (xs ++ ys) → InOrder R ys
order_right R [] ys h = h
order_right R (x ∷ xs) ys h = order_right R xs ys h.1

order_apart : {X : Type 0} (R : X → X → Type 0) (xs ys : List X) → InOrder R (xs ++ ys) → Every (λ x. Every (R x) ys) xs
order_apart R [] ys h = tt
order_apart R (x ∷ xs) ys h = (right (R x) xs ys h.0, order_apart R xs ys h.1)

-- ---- tokens

abbrev TokenBefore : Token → Token → Type 0
TokenBefore t u = t.at < u.at

-- the places of a word are before those of another
abbrev pub WordBefore : Word → Word → Type 0
WordBefore w v = Every (λ (x : ℕ). Every (λ (y : ℕ). x < y) (of_word v)) (of_word w)

abbrev PairBefore : ℕ × Word → ℕ × Word → Type 0
PairBefore p q = WordBefore p.1 q.1

-- ---- words

from_in_order : (text : List ℕ) (i skip : ℕ) (ts : List Token) → InOrder TokenBefore ts → InOrder PairBefore (words_from text i skip ts)
from_in_order text i skip [] h = tt
from_in_order text i (suc skip) (t ∷ ts) h = from_in_order text (i + 1) skip ts h.1
from_in_order text i zero (t ∷ ts) h =
    let w : Word = (first_word text t ts).0 in
    let skip : ℕ = (first_word text t ts).1 - 1 in (
      weaker (λ (q : ℕ × Word). Every (λ (y : ℕ). t.at < y) (of_word q.1)) (λ (q : ℕ × Word). WordBefore w q.1)
          (λ q e. weaker (λ (x : ℕ). x ≡ t.at) (λ (x : ℕ). Every (λ (y : ℕ). x < y) (of_word q.1)) (λ x is. subst (λ (n : ℕ). Every (λ (y : ℕ). n < y) (of_word q.1)) (flip is) e) (of_word w) (first_placed (λ (x : ℕ). x ≡ t.at) text t ts refl))
          (words_from text (i + 1) skip ts) (from_placed (λ (y : ℕ). t.at < y) text (i + 1) skip ts h.0),
      from_in_order text (i + 1) skip ts h.1,
    )

kept_each : (Q : ℕ × Word → Type 0) (b : Bool) (p : ℕ × Word) (rest : List (ℕ × Word)) → Q p → Every Q rest → Every Q (cond b (p ∷ rest) rest)
kept_each Q true p rest q h = (q, h)
kept_each Q false p rest q h = h

significant_each : (Q : ℕ × Word → Type 0) (region : Region) (ps : List (ℕ × Word)) → Every Q ps → Every Q (significant region ps)
significant_each Q region [] h = tt
significant_each Q region (p ∷ ps) h = kept_each Q (is_significant region p.1) p (significant (behind region p.1) ps) h.0 (significant_each Q (behind region p.1) ps h.1)

kept_in_order : (b : Bool) (p : ℕ × Word) (rest : List (ℕ × Word)) → Every (PairBefore p) rest → InOrder PairBefore rest → InOrder PairBefore (cond b (p ∷ rest) rest)
kept_in_order true p rest q h = (q, h)
kept_in_order false p rest q h = h

significant_in_order : (region : Region) (ps : List (ℕ × Word)) → InOrder PairBefore ps → InOrder PairBefore (significant region ps)
significant_in_order region [] h = tt
significant_in_order region (p ∷ ps) h = kept_in_order (is_significant region p.1) p (significant (behind region p.1) ps) (significant_each (PairBefore p) (behind region p.1) ps h.0) (significant_in_order (behind region p.1) ps h.1)

words_each : (w : Word) (ps : List (ℕ × Word)) → Every (λ (q : ℕ × Word). WordBefore w q.1) ps → Every (WordBefore w) (map (λ (p : ℕ × Word). p.1) ps)
words_each w [] h = tt
words_each w (p ∷ ps) h = (h.0, words_each w ps h.1)

words_in_order : (ps : List (ℕ × Word)) → InOrder PairBefore ps → InOrder WordBefore (map (λ (p : ℕ × Word). p.1) ps)
words_in_order [] h = tt
words_in_order (p ∷ ps) h = (words_each p.1 ps h.0, words_in_order ps h.1)

-- ---- statements

-- all places of one statement are before all of the other
abbrev pub PlacesBefore : Declaration → Declaration → Type 0
PlacesBefore d e = Every (λ (x : ℕ). Every (λ (y : ℕ). x < y) (places e)) (places d)

-- the words of some statements
abbrev all_words : List Statement → List Word
all_words [] = []
all_words (s ∷ ss) = yield (statement_tree s) ++ all_words ss

append_three : (xs ys zs : List Word) → (xs ++ ys) ++ zs ≡ xs ++ (ys ++ zs)
append_three [] ys zs = refl
append_three (x ∷ xs) ys zs = ap (λ (ws : List Word). x ∷ ws) (append_three xs ys zs)

append_none : (xs : List Word) → xs ++ [] ≡ xs
append_none [] = refl
append_none (x ∷ xs) = ap (λ (ws : List Word). x ∷ ws) (append_none xs)

row_words : (ss : List Statement) (t : ParseTree) → yield (row_after t (map statement_tree ss)) ≡ yield t ++ all_words ss
row_words [] t = flip (append_none (yield t))
row_words (s ∷ ss) t = row_words ss (Snoc t (statement_tree s)) ∙ append_three (yield t) (yield (statement_tree s)) (all_words ss)

row_fits : (ss : List Statement) (t : ParseTree) → DerivesLongest rule (row_after t (map statement_tree ss)) forms.config → DerivesLongest rule t forms.config × Every (λ (s : Statement). DerivesLongest rule (statement_tree s) forms.statement) ss
row_fits [] t h = (h, tt)
row_fits (s ∷ ss) t h = let behind = row_fits ss (Snoc t (statement_tree s)) h in (behind.0.0, (behind.0.1, behind.1))

-- one place is before all words of each of some statements
words_left : (x : ℕ) (vs ws : List Word) → Every (λ (y : ℕ). x < y) (of_words (vs ++ ws)) → Every (λ (y : ℕ). x < y) (of_words vs)
words_left x [] ws h = tt
words_left x (v ∷ vs) ws h = join (λ (y : ℕ). x < y) (of_word v) (of_words vs) (left (λ (y : ℕ). x < y) (of_word v) (of_words (vs ++ ws)) h) (words_left x vs ws (right (λ (y : ℕ). x < y) (of_word v) (of_words (vs ++ ws)) h))

words_right : (x : ℕ) (vs ws : List Word) → Every (λ (y : ℕ). x < y) (of_words (vs ++ ws)) → Every (λ (y : ℕ). x < y) (of_words ws)
words_right x [] ws h = h
words_right x (v ∷ vs) ws h = words_right x vs ws (right (λ (y : ℕ). x < y) (of_word v) (of_words (vs ++ ws)) h)

before_all : (x : ℕ) (ss : List Statement) → Every (λ (s : Statement). DerivesLongest rule (statement_tree s) forms.statement) ss → Every (λ (y : ℕ). x < y) (of_words (all_words ss)) → Every (λ (e : Declaration). Every (λ (y : ℕ). x < y) (places e)) (configuration_of ss)
before_all x [] f h = tt
before_all x (s ∷ ss) f h = (
  declaration_on (λ (y : ℕ). x < y) s f.0 (on_tree (λ (y : ℕ). x < y) (statement_tree s) (words_left x (yield (statement_tree s)) (all_words ss) h)),
  before_all x ss f.1 (words_right x (yield (statement_tree s)) (all_words ss) h),
)

-- the places of a word before those of others
before_words : (w : Word) (ws : List Word) → Every (WordBefore w) ws → Every (λ (x : ℕ). Every (λ (y : ℕ). x < y) (of_words ws)) (of_word w)
before_words w [] h = weaker (λ (x : ℕ). x ≡ x) (λ (x : ℕ). ⊤) (λ x is. tt) (of_word w) (same (of_word w))
  where
    same : (xs : List ℕ) → Every (λ (x : ℕ). x ≡ x) xs
    same [] = tt
    same (x ∷ xs) = (refl, same xs)
before_words w (v ∷ ws) h = two (of_word w) h.0 (before_words w ws h.1)
  where
    two : (xs : List ℕ) → Every (λ (x : ℕ). Every (λ (y : ℕ). x < y) (of_word v)) xs → Every (λ (x : ℕ). Every (λ (y : ℕ). x < y) (of_words ws)) xs → Every (λ (x : ℕ). Every (λ (y : ℕ). x < y) (of_words (v ∷ ws))) xs
    two [] p q = tt
    two (x ∷ xs) p q = (join (λ (y : ℕ). x < y) (of_word v) (of_words ws) p.0 q.0, two xs p.1 q.1)

words_before : (vs ws : List Word) → Every (λ (v : Word). Every (WordBefore v) ws) vs → Every (λ (x : ℕ). Every (λ (y : ℕ). x < y) (of_words ws)) (of_words vs)
words_before [] ws h = tt
words_before (v ∷ vs) ws h = join (λ (x : ℕ). Every (λ (y : ℕ). x < y) (of_words ws)) (of_word v) (of_words vs) (before_words v ws h.0) (words_before vs ws h.1)

turned : (xs : List ℕ) (ds : List Declaration) → Every (λ (x : ℕ). Every (λ (e : Declaration). Every (λ (y : ℕ). x < y) (places e)) ds) xs → Every (λ (e : Declaration). Every (λ (x : ℕ). Every (λ (y : ℕ). x < y) (places e)) xs) ds
turned xs [] h = tt
turned xs (d ∷ ds) h = (
  weaker (λ (x : ℕ). Every (λ (e : Declaration). Every (λ (y : ℕ). x < y) (places e)) (d ∷ ds)) (λ (x : ℕ). Every (λ (y : ℕ). x < y) (places d)) (λ x e. e.0) xs h,
  turned xs ds (weaker (λ (x : ℕ). Every (λ (e : Declaration). Every (λ (y : ℕ). x < y) (places e)) (d ∷ ds)) (λ (x : ℕ). Every (λ (e : Declaration). Every (λ (y : ℕ). x < y) (places e)) ds) (λ x e. e.1) xs h),
)

statements_in_order : (ss : List Statement) → Every (λ (s : Statement). DerivesLongest rule (statement_tree s) forms.statement) ss → InOrder WordBefore (all_words ss) → InOrder PlacesBefore (configuration_of ss)
statements_in_order [] f h = tt
statements_in_order (s ∷ ss) f h =
    let here : List Word = yield (statement_tree s) in
    let apart : Every (λ (x : ℕ). Every (λ (y : ℕ). x < y) (of_words (all_words ss))) (of_words here) = words_before here (all_words ss) (order_apart WordBefore here (all_words ss) h) in
    let placed : Every (λ (x : ℕ). Every (λ (y : ℕ). x < y) (of_words (all_words ss))) (places (declaration_of s)) = declaration_on (λ (x : ℕ). Every (λ (y : ℕ). x < y) (of_words (all_words ss))) s f.0 (on_tree (λ (x : ℕ). Every (λ (y : ℕ). x < y) (of_words (all_words ss))) (statement_tree s) apart) in (
      turned (places (declaration_of s)) (configuration_of ss)
          (weaker (λ (x : ℕ). Every (λ (y : ℕ). x < y) (of_words (all_words ss))) (λ (x : ℕ). Every (λ (e : Declaration). Every (λ (y : ℕ). x < y) (places e)) (configuration_of ss)) (λ x e. before_all x ss f.1 e) (places (declaration_of s)) placed),
      statements_in_order ss f.1 (order_right WordBefore here (all_words ss) h),
    )

-- each statement's places are before those of each behind it
apart_all : (d e : Declaration) → PlacesBefore d e → IsBefore d e
apart_all d e h = all_of (λ (x : ℕ). All (λ (y : ℕ). x < y) (places e)) (places d) (weaker (λ (x : ℕ). Every (λ (y : ℕ). x < y) (places e)) (λ (x : ℕ). All (λ (y : ℕ). x < y) (places e)) (λ x k. all_of (λ (y : ℕ). x < y) (places e) k) (places d) h)

pub each_behind : (ds front back : List Declaration) (d : Declaration) → ds ≡ front ++ d ∷ back → InOrder PlacesBefore ds → All (IsBefore d) back
each_behind ds front back d is h =
    all_of (IsBefore d) back (weaker (PlacesBefore d) (IsBefore d) (λ e k. apart_all d e k) back (order_right PlacesBefore front (d ∷ back) (subst (λ (es : List Declaration). InOrder PlacesBefore es) is h)).0)

-- ---- texts

module _ (slices : (text : List ℕ) (front back : List Token) (t : Token) → Lexes 0 text (front ++ t ∷ back) → IsSpan text t)
    (rise : (text : List ℕ) (front back : List Token) (t u : Token) → Lexes 0 text (front ++ t ∷ u ∷ back) → IsBetween text (t.at + t.len) u.at) where
  later : (text : List ℕ) (front : List Token) (t : Token) (back : List Token) → Lexes 0 text (front ++ t ∷ back) → Every (TokenBefore t) back
  later text front t [] h = tt
  later text front t (u ∷ back) h =
      let between = rise text front back t u h in
      let span = slices text front (u ∷ back) t h in
      let less : t.at < u.at = omega (arith, span.some, between.rises) in (
        less,
        weaker (TokenBefore u) (TokenBefore t) (λ v more. omega (arith, less, more)) back
            (later text (front ++ t ∷ []) u back (subst (λ (ts : List Token). Lexes 0 text ts) (shifted front (u ∷ back) t) h)),
      )

  tokens_in_order : (text : List ℕ) (front back : List Token) → Lexes 0 text (front ++ back) → InOrder TokenBefore back
  tokens_in_order text front [] h = tt
  tokens_in_order text front (t ∷ back) h =
      (later text front t back h, tokens_in_order text (front ++ t ∷ []) back (subst (λ (ts : List Token). Lexes 0 text ts) (shifted front back t) h))

  -- the places of the statements of a text follow each other
  pub in_order : (text : List ℕ) (ss : List Statement) → IsConfigText text (statements_tree ss) → InOrder PlacesBefore (configuration_of ss)
  in_order text ss h =
      let significant_order = words_in_order (significant regions.Statements (words_of text h.0)) (significant_in_order regions.Statements (words_of text h.0) (from_in_order text 0 0 h.0 (tokens_in_order text [] h.0 h.1))) in
      statements_in_order ss (row_fits ss (Single NoWords) h.2.fits).1
      (subst (λ (ws : List Word). InOrder WordBefore ws) (flip h.2.whole ∙ row_words ss (Single NoWords)) significant_order)
