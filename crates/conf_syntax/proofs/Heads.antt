-- Reading one of several forms by the word that begins it.
use Rattle.std.proofs.Common.{◌≡◌, ℕ, zero, suc, Bool, true, List, ◌∷◌, refl, ap, ◌∙◌}
use Rattle.conf_lex.specs.declared.word.Word.{Word}
use Rattle.conf_lex.specs.Kind.{Kind, kind_of}
use Rattle.conf_lex.specs.Grammar.{Terminal, Seq, Alt, ParseTree, Leaf, Pair, begins, first_set}
use Rattle.conf_lex.specs.Reading.{Read, Parsed, Failed, and_then, read}
use Rattle.expr_syntax.specs.Syntax.{rule}
use Rattle.expr_syntax.specs.Levels.{Form}
use Rattle.expr_syntax.specs.Rows.{nth}
use Rattle.expr_syntax.proofs.Tested.{is_checked}
use Rattle.expr_syntax.proofs.Picks.{maps2, picked, reaches, rest_of}

pub maps3 : (x : Read) (f g h : ParseTree → ParseTree) → and_then (and_then (and_then x (λ a u. Parsed (f a) u)) (λ a u. Parsed (g a) u)) (λ a u. Parsed (h a) u) ≡ and_then x (λ a u. Parsed (h (g (f a))) u)
maps3 (Parsed a u) f g h = refl
maps3 (Failed why u) f g h = refl

pub maps4 : (x : Read) (f g h i : ParseTree → ParseTree) → and_then (and_then (and_then (and_then x (λ a u. Parsed (f a) u)) (λ a u. Parsed (g a) u)) (λ a u. Parsed (h a) u)) (λ a u. Parsed (i a) u) ≡ and_then x (λ a u. Parsed (i (h (g (f a)))) u)
maps4 (Parsed a u) f g h i = refl
maps4 (Failed why u) f g h i = refl

pub begins_head : (p : Kind → Bool) (g : Form) (ws : List Word) (w : Word) (u : List Word) → ws ≡ w ∷ u → p (kind_of w) ≡ true → begins (first_set (Seq (Terminal p) g)) ws ≡ true
begins_head p g ws w u is passes = rw (is, passes) refl

pub head_read : (k : ℕ) (p : Kind → Bool) (g : Form) (ws : List Word) (w : Word) (u : List Word) → ws ≡ w ∷ u → p (kind_of w) ≡ true → read rule k (Seq (Terminal p) g) ws ≡ and_then (read rule k g u) (λ t v. Parsed (Pair (Leaf w) t) v)
head_read zero p g ws w u is passes = rw (is, passes) refl
head_read (suc k) p g ws w u is passes = rw (is, passes) refl

-- the n-th of several forms, which one word begins
pub headed : (n k : ℕ) (p : Kind → Bool) (f g h : Form) → is_checked f → reaches n f ≡ true → rest_of n f ≡ Alt (Seq (Terminal p) g) h → (ws : List Word) (w : Word) (u : List Word) → ws ≡ w ∷ u → p (kind_of w) ≡ true → read rule k f ws ≡ and_then (read rule k g u) (λ t v. Parsed (nth n (Pair (Leaf w) t)) v)
headed n k p f g h ok there shape ws w u is passes =
    picked n k f (Seq (Terminal p) g) h ok there shape ws (begins_head p g ws w u is passes)
    ∙ ap (λ (x : Read). and_then x (λ t v. Parsed (nth n t) v)) (head_read k p g ws w u is passes)
    ∙ maps2 (read rule k g u) (λ t. Pair (Leaf w) t) (λ t. nth n t)
