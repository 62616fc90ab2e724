-- Reading the last of several forms by the word that begins it, and a part by another reader.
use Rattle.std.proofs.Common.{◌≡◌, ℕ, Bool, true, List, ◌∷◌, refl, ap, ◌∙◌}
use Rattle.conf_lex.specs.declared.word.Word.{Word}
use Rattle.conf_lex.specs.Kind.{Kind, kind_of}
use Rattle.conf_lex.specs.Grammar.{Terminal, Seq, Leaf, Pair, Right}
use Rattle.conf_lex.specs.Reading.{Read, Parsed, Failed, Reader, and_then, both, read}
use Rattle.expr_syntax.specs.Syntax.{rule}
use Rattle.expr_syntax.specs.Levels.{Form}
use Rattle.expr_syntax.specs.Rows.{beyond}
use Rattle.expr_syntax.proofs.Tested.{is_checked}
use Rattle.expr_syntax.proofs.Picks.{maps2, rest_read, reaches, rest_of}
use Rattle.conf_syntax.proofs.Heads.{begins_head, head_read}

-- the last of several forms, which one word begins
pub last_headed : (n k : ℕ) (p : Kind → Bool) (f g : Form) → is_checked f → reaches n f ≡ true → rest_of n f ≡ Seq (Terminal p) g → (ws : List Word) (w : Word) (u : List Word) → ws ≡ w ∷ u → p (kind_of w) ≡ true → read rule k f ws ≡ and_then (read rule k g u) (λ t v. Parsed (beyond n (Pair (Leaf w) t)) v)
last_headed n k p f g ok there shape ws w u is passes =
    rest_read n k f ok there ws (rw shape (begins_head p g ws w u is passes))
    ∙ ap (λ (i : Form). and_then (read rule k i ws) (λ t v. Parsed (beyond n t) v)) shape
    ∙ ap (λ (x : Read). and_then x (λ t v. Parsed (beyond n t) v)) (head_read k p g ws w u is passes)
    ∙ maps2 (read rule k g u) (λ t. Pair (Leaf w) t) (λ t. beyond n t)

-- the second of two parts, by another reader that gives the same
pub both_same : (r s t : Reader) → ((ws : List Word) → s ws ≡ t ws) → (ws : List Word) → both r s ws ≡ both r t ws
both_same r s t same ws = by_first (r ws)
  where
    by_first : (x : Read) → and_then x (λ a u. and_then (s u) (λ b v. Parsed (Pair a b) v)) ≡ and_then x (λ a u. and_then (t u) (λ b v. Parsed (Pair a b) v))
    by_first (Parsed a u) = ap (λ (x : Read). and_then x (λ b v. Parsed (Pair a b) v)) (same u)
    by_first (Failed why u) = refl

-- what is read behind six forms that do not come next
pub behind_six : (x : Read) → and_then (and_then (and_then (and_then (and_then (and_then x (λ t u. Parsed (Right t) u)) (λ t u. Parsed (Right t) u)) (λ t u. Parsed (Right t) u)) (λ t u. Parsed (Right t) u)) (λ t u. Parsed (Right t) u)) (λ t u. Parsed (Right t) u) ≡ and_then x (λ t u. Parsed (beyond 6 t) u)
behind_six (Parsed t u) = refl
behind_six (Failed why u) = refl
