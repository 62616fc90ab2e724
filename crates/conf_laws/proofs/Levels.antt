-- The word that opens one level too many: no address and no prefix does.
use Rattle.std.proofs.Common.{◌≡◌, ℕ, zero, suc, Bool, true, false, ◌&&◌, List, [], ◌∷◌, ◌++◌, Option, Some, None, refl, sym, ap, ◌∙◌, append_assoc, inl, inr, ◌⊎◌}
use Rattle.conf_lex.specs.declared.word.Word.{Word}
use Rattle.conf_lex.specs.Kind.{Kind, IsAddress, IsPrefix, IsNoPrefix, kind_of}
use Rattle.conf_lex.specs.Grammar.{Terminal, Epsilon, Seq, Alt, Repeat, Nested, ParseTree, Leaf, NoWords, Pair, Left, Right, Single, Snoc, Deeper, yield, or_later, too_deep, DerivesLongest}
use Rattle.conf_lex.specs.Sentences.{IsBegunWithin}
use Rattle.conf_lex.proofs.Checks.{and_true, not, not_true}
use Rattle.expr_syntax.specs.Syntax.{rule}
use Rattle.expr_syntax.specs.Levels.{Level, Form, group_level}
use Rattle.filt_syntax.proofs.Follows.{no_deep_within}
use Rattle.conf_syntax.specs.Syntax.{config}
use Rattle.conf_tree.proofs.Tested.{config_checked}
use Rattle.conf_laws.proofs.ByTokens.{is_net}

-- no address and no prefix opens a level
abbrev nests : Form → Bool
nests (Terminal p) = true
nests Epsilon = true
nests (Seq f g) = nests f && nests g
nests (Alt f g) = nests f && nests g
nests (Repeat f g) = nests f && nests g
nests (Nested p n) = not (p IsAddress) && (not (p IsPrefix) && not (p IsNoPrefix))

levels_nest : (n : Level) → nests (rule n) ≡ true
levels_nest group_level = refl
levels_nest _ = refl

pub record Opens (t : ParseTree) (r : List Word) : Type 0 where
  pub before : List Word
  pub opener : Word
  pub more : List Word
  pub reads : yield t ≡ before ++ opener ∷ more
  pub is : r ≡ opener ∷ more
  pub net : is_net (kind_of opener) ≡ false

no_net : (p : Kind → Bool) (k : Kind) → (not (p IsAddress) && (not (p IsPrefix) && not (p IsNoPrefix))) ≡ true → p k ≡ true → is_net k ≡ false
no_net p IsAddress ok is = absurd (let c = and_true (not (p IsAddress)) (not (p IsPrefix) && not (p IsNoPrefix)) ok in let never = not_true (p IsAddress) c.0 in cc)
no_net p IsPrefix ok is = absurd (let c = and_true (not (p IsAddress)) (not (p IsPrefix) && not (p IsNoPrefix)) ok in let d = and_true (not (p IsPrefix)) (not (p IsNoPrefix)) c.1 in let never = not_true (p IsPrefix) d.0 in cc)
no_net p IsNoPrefix ok is = absurd (let c = and_true (not (p IsAddress)) (not (p IsPrefix) && not (p IsNoPrefix)) ok in let d = and_true (not (p IsPrefix)) (not (p IsNoPrefix)) c.1 in let never = not_true (p IsNoPrefix) d.1 in cc)
no_net p _ ok is = refl

opens_left : (a b t : ParseTree) (v r : List Word) → yield t ≡ yield a ++ yield b → r ≡ v ++ yield b → Opens a v → Opens t r
opens_left a b t v r whole is o = record {
  before = o.before;
  opener = o.opener;
  more = o.more ++ yield b;
  reads = whole ∙ ap (λ (l : List Word). l ++ yield b) o.reads ∙ append_assoc o.before (o.opener ∷ o.more) (yield b);
  is = is ∙ ap (λ (u : List Word). u ++ yield b) o.is;
  net = o.net;
}

opens_right : (a b t : ParseTree) (r : List Word) → yield t ≡ yield a ++ yield b → Opens b r → Opens t r
opens_right a b t r whole o = record {
  before = yield a ++ o.before;
  opener = o.opener;
  more = o.more;
  reads = whole ∙ ap (λ (l : List Word). yield a ++ l) o.reads ∙ sym (append_assoc (yield a) o.before (o.opener ∷ o.more));
  is = o.is;
  net = o.net;
}

later_is : (d e : Option (List Word)) (more u : List Word) → or_later d more e ≡ Some u → ((v : List Word) × (d ≡ Some v) × (u ≡ v ++ more)) ⊎ (e ≡ Some u)
later_is None e more u h = inr h
later_is (Some v) e more u h = let same : v ++ more ≡ u = cc in inl (v, refl, sym same)

opens : (t : ParseTree) (f : Form) (k : ℕ) (r : List Word) → nests f ≡ true → DerivesLongest rule t f → too_deep t k ≡ Some r → Opens t r
opens (Leaf w) (Terminal p) k r ok h e = absurd cc
opens NoWords Epsilon k r ok h e = absurd cc
opens (Pair a b) (Seq f g) k r ok h e =
    let c = and_true (nests f) (nests g) ok in
    elim (later_is (too_deep a k) (too_deep b k) (yield b) r e) [
      | inl x ↦ opens_left a b (Pair a b) x.0 r refl x.2 (opens a f k x.0 c.0 h.0 x.1)
      | inr x ↦ opens_right a b (Pair a b) r refl (opens b g k r c.1 h.1 x)
    ]
opens (Left a) (Alt f g) k r ok h e =
    let o = opens a f k r (and_true (nests f) (nests g) ok).0 h e in
    record { before = o.before; opener = o.opener; more = o.more; reads = o.reads; is = o.is; net = o.net }
opens (Right b) (Alt f g) k r ok h e =
    let o = opens b g k r (and_true (nests f) (nests g) ok).1 h e in
    record { before = o.before; opener = o.opener; more = o.more; reads = o.reads; is = o.is; net = o.net }
opens (Single a) (Repeat f g) k r ok h e =
    let o = opens a f k r (and_true (nests f) (nests g) ok).0 h e in
    record { before = o.before; opener = o.opener; more = o.more; reads = o.reads; is = o.is; net = o.net }
opens (Snoc t b) (Repeat f g) k r ok h e =
    let c = and_true (nests f) (nests g) ok in
    elim (later_is (too_deep t k) (too_deep b k) (yield b) r e) [
      | inl x ↦ opens_left t b (Snoc t b) x.0 r refl x.2 (opens t (Repeat f g) k x.0 ok h.0 x.1)
      | inr x ↦ opens_right t b (Snoc t b) r refl (opens b g k r c.1 h.1 x)
    ]
opens (Deeper w t) (Nested p n) zero r ok h e =
    let same : w ∷ yield t ≡ r = cc in
    record { before = []; opener = w; more = yield t; reads = refl; is = sym same; net = no_net p (kind_of w) ok h.0 }
opens (Deeper w t) (Nested p n) (suc k) r ok h e =
    let o = opens t (rule n) k r (levels_nest n) h.1 e in
    record { before = w ∷ o.before; opener = o.opener; more = o.more; reads = ap (λ (l : List Word). w ∷ l) o.reads; is = o.is; net = o.net }
opens _ _ k r ok h e = absurd h

pub config_opens : (t : ParseTree) (r : List Word) → DerivesLongest rule t config → too_deep t 64 ≡ Some r → Opens t r
config_opens t r h e = opens t config 64 r refl h e

-- no word of what is begun within the levels opens one too many
pub never_within : (ws before m : List Word) (t : ParseTree) (r : List Word) → IsBegunWithin rule 64 config ws → (h : DerivesLongest rule t config) (e : too_deep t 64 ≡ Some r) → (o : Opens t r) → ws ≡ o.before ++ o.opener ∷ m → ⊥
never_within ws before m t r b h e o cut =
    no_deep_within 64 config config_checked ws b o.before o.opener m cut t o.more h o.reads (e ∙ ap (λ (u : List Word). Some u) o.is)
