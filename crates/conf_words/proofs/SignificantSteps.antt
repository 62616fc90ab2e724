-- The words that say something, one after another.
use Rattle.std.proofs.Common.{◌≡◌, ℕ, suc, zero, ◌+◌, ◌≤◌, Bool, true, false, cond, List, [], ◌∷◌, ◌++◌, map, refl, sym, ◌∙◌, ap, arith, append_assoc}
use Rattle.conf_lex.specs.declared.symbol.Symbol.TheVariants as sy
use Rattle.conf_lex.specs.declared.word.Word.{Word}
use Rattle.conf_lex.specs.Kind.{kind_of, name}
use Rattle.conf_words.specs.Significant.{is, behind, depth_of, is_significant, significant}
use Rattle.conf_words.specs.declared.significant.Region.{Region}
use Rattle.conf_words.specs.declared.significant.Region.TheVariants as regions

-- ---- depths

depth_if : (b : Bool) (x y : Region) (n : ℕ) → depth_of x ≤ n → depth_of y ≤ n → depth_of (cond b x y) ≤ n
depth_if true x y n one other = one
depth_if false x y n one other = other

pub depth_more : (r : Region) (w : Word) → depth_of (behind r w) ≤ depth_of r + 1
depth_more regions.Statements w = depth_if (is sy.Log w) regions.Log (cond (is sy.Protocol w) regions.Protocol regions.Statements) 1 (omega arith) (depth_if (is sy.Protocol w) regions.Protocol regions.Statements 1 (omega arith) (omega arith))
depth_more regions.Log w = depth_if (is sy.Semicolon w) regions.Statements regions.Log 1 (omega arith) (omega arith)
depth_more regions.Protocol w = depth_if (is sy.Device w) regions.Device regions.Statements 1 (omega arith) (omega arith)
depth_more regions.Device w = depth_if (name (kind_of w)) regions.Named (cond (is sy.OpenBrace w) (regions.Inside 0) regions.Statements) 1 (omega arith) (depth_if (is sy.OpenBrace w) (regions.Inside 0) regions.Statements 1 (omega arith) (omega arith))
depth_more regions.Named w = depth_if (is sy.OpenBrace w) (regions.Inside 0) regions.Statements 1 (omega arith) (omega arith)
depth_more (regions.Inside zero) w = depth_if (is sy.CloseBrace w) regions.Statements (cond (is sy.OpenBrace w) (regions.Inside 1) (regions.Inside 0)) 1 (omega arith) (depth_if (is sy.OpenBrace w) (regions.Inside 1) (regions.Inside 0) 1 (omega arith) (omega arith))
depth_more (regions.Inside (suc n)) w =
    depth_if (is sy.CloseBrace w) (regions.Inside n) (cond (is sy.OpenBrace w) (regions.Inside (suc (suc n))) (regions.Inside (suc n))) (suc n + 1) (omega arith)
    (depth_if (is sy.OpenBrace w) (regions.Inside (suc (suc n))) (regions.Inside (suc n)) (suc n + 1) (omega arith) (omega arith))

-- ---- the loop over the words and their places

one_turn : {A : Type 0} (part : ℕ × Word → A) (t : Bool) (p : ℕ × Word) (rest : List (ℕ × Word)) → map part (cond t (p ∷ rest) rest) ≡ cond t (part p ∷ []) [] ++ map part rest
one_turn part true p rest = refl
one_turn part false p rest = refl

-- what the loop keeps, for either part of a word and its place
pub significant_more : {A : Type 0} (part : ℕ × Word → A) (pairs rest : List (ℕ × Word)) (next : ℕ × Word) (r : Region) (all found : List A) → pairs ≡ next ∷ rest
    → all ≡ found ++ map part (significant r pairs) → all ≡ (found ++ cond (is_significant r next.1) (part next ∷ []) []) ++ map part (significant (behind r next.1) rest)
significant_more {A} part pairs rest next r all found cut before =
    before ∙ ap (λ (l : List (ℕ × Word)). found ++ map part (significant r l)) cut
    ∙ ap (λ (l : List A). found ++ l) (one_turn part (is_significant r next.1) next (significant (behind r next.1) rest))
    ∙ sym (append_assoc found (cond (is_significant r next.1) (part next ∷ []) []) (map part (significant (behind r next.1) rest)))
