-- Reading statements that hold no other, one step of the parser after another.
use Rattle.std.proofs.Common.{◌≡◌, ℕ, zero, suc, ◌<◌, Bool, true, false, ◌||◌, List, [], ◌∷◌, ◌++◌, length, map, refl, sym as flip, ap, ◌∙◌, arith, inl, inr}
use Rattle.conf_lex.specs.declared.symbol.Symbol.TheVariants as sym
use Rattle.conf_lex.specs.declared.word.Word.{Word}
use Rattle.conf_lex.specs.declared.word.Word.TheVariants as words
use Rattle.conf_ast.specs.declared.named.Name.{Name}
use Rattle.conf_lex.specs.Kind.{Kind, kind_of, name, symbol, is_attribute}
use Rattle.conf_lex.specs.Grammar.{Terminal, Seq, Alt, ParseTree, Leaf, NoWords, Pair, Left, Right, Single, begins, first_set, Bad}
use Rattle.conf_lex.specs.Reading.{Read, Parsed, Failed, Reader, and_then, word, both, read}
use Rattle.conf_lex.specs.PartShapes.{links}
use Rattle.conf_lex.specs.Leaves.{symbol_leaf, name_leaf}
use Rattle.conf_lex.proofs.Chains.{turn}
use Rattle.conf_lex.proofs.PartShapes.{then_then, word_bad, bool_cases, Turns, begun, refuses}
use Rattle.expr_syntax.specs.Syntax.{expr, semicolon, declaration, assigned, changed, print_stmt, stmt, rule}
use Rattle.expr_syntax.specs.Levels.{Form, arguments_level, attribute_level}
use Rattle.conf_ast.specs.declared.attribute.Attribute.{Attribute}
use Rattle.conf_ast.specs.declared.filters.Expr.{Expr}
use Rattle.expr_syntax.specs.View.{derivations, with_next, listed_after, listed_tree, expr_tree, expr_trees}
use Rattle.expr_syntax.specs.Readers.{expr_at, method_at, level_at}
use Rattle.expr_syntax.specs.Rows.{nth, beyond, semicolon_leaf}
use Rattle.filt_syntax.specs.StatementReaders.{stmt_at, done_at, of_name_at, change_at, declaration_at, initial_at, result_at, exprs_at}
use Rattle.expr_syntax.specs.Readers.{vtype_at}
use Rattle.expr_syntax.proofs.Steps.{attribute_passes, expr_refused}
use Rattle.expr_syntax.proofs.Tested.{model, after, checked, is_checked, good_at, next_at}
use Rattle.expr_syntax.proofs.Picks.{maps2, picked, reaches, rest_of, rest_read}

maps3 : (x : Read) (f g h : ParseTree → ParseTree) → and_then (and_then (and_then x (λ a u. Parsed (f a) u)) (λ a u. Parsed (g a) u)) (λ a u. Parsed (h a) u) ≡ and_then x (λ a u. Parsed (h (g (f a))) u)
maps3 (Parsed a u) f g h = refl
maps3 (Failed why u) f g h = refl

maps4 : (x : Read) (f g h i : ParseTree → ParseTree) → and_then (and_then (and_then (and_then x (λ a u. Parsed (f a) u)) (λ a u. Parsed (g a) u)) (λ a u. Parsed (h a) u)) (λ a u. Parsed (i a) u) ≡ and_then x (λ a u. Parsed (i (h (g (f a)))) u)
maps4 (Parsed a u) f g h i = refl
maps4 (Failed why u) f g h i = refl

-- ---- statements by their first word

pub stmt_checked : is_checked stmt
stmt_checked = refl

-- a kind of statements that one word begins
pub headed : (n k : ℕ) (p : Kind → Bool) (g h : Form) → reaches n stmt ≡ true → rest_of n stmt ≡ Alt (Seq (Terminal p) g) h → (ws : List Word) (w : Word) (u : List Word) → ws ≡ w ∷ u → p (kind_of w) ≡ true → stmt_at k ws ≡ and_then (read rule k g u) (λ t v. Parsed (nth n (Pair (Leaf w) t)) v)
unfolding stmt_at
headed n k p g h there shape ws w u is passes =
    picked n k stmt (Seq (Terminal p) g) h stmt_checked there shape ws (begun_here ws is)
    ∙ ap (λ (x : Read). and_then x (λ t v. Parsed (nth n t) v)) (head_read k ws is)
    ∙ maps2 (read rule k g u) (λ t. Pair (Leaf w) t) (λ t. nth n t)
  where
    begun_here : (ws : List Word) → ws ≡ w ∷ u → begins (first_set (Seq (Terminal p) g)) ws ≡ true
    begun_here ws is = rw (is, passes) refl

    head_read : (k : ℕ) (ws : List Word) → ws ≡ w ∷ u → read rule k (Seq (Terminal p) g) ws ≡ and_then (read rule k g u) (λ t v. Parsed (Pair (Leaf w) t) v)
    head_read zero ws is = rw (is, passes) refl
    head_read (suc k) ws is = rw (is, passes) refl

pub name_is : (k : ℕ) (n : Name) (ws u : List Word) → ws ≡ words.Name n.at n.start n.len ∷ u → stmt_at k ws ≡ of_name_at k n u
unfolding stmt_at of_name_at done_at
name_is zero n ws u is = rw is (maps2 (done_at 0 u) (λ d. Pair (name_leaf n) d) (λ t. Left t))
name_is (suc k) n ws u is = rw is (maps2 (done_at (suc k) u) (λ d. Pair (name_leaf n) d) (λ t. Left t))

pub name_assigned : (k : ℕ) (n : Name) (ws u : List Word) → ws ≡ words.Symbol sym.Equal ∷ u → of_name_at k n ws ≡ and_then (both (expr_at k) (word (symbol sym.Semicolon)) u) (λ e v. Parsed (Left (Pair (name_leaf n) (Left (Pair (symbol_leaf sym.Equal) e)))) v)
unfolding of_name_at done_at expr_at
name_assigned zero n ws u is = rw is (maps3 (both (expr_at 0) (word (symbol sym.Semicolon)) u) (λ e. Pair (symbol_leaf sym.Equal) e) (λ t. Left t) (λ t. Left (Pair (name_leaf n) t)))
name_assigned (suc k) n ws u is = rw is (maps3 (both (expr_at (suc k)) (word (symbol sym.Semicolon)) u) (λ e. Pair (symbol_leaf sym.Equal) e) (λ t. Left t) (λ t. Left (Pair (name_leaf n) t)))

pub name_changed : (k : ℕ) (n : Name) (ws u : List Word) → ws ≡ words.Symbol sym.Dot ∷ u → of_name_at k n ws ≡ and_then (change_at k u) (λ c v. Parsed (Left (Pair (name_leaf n) (Right (Left (Pair (symbol_leaf sym.Dot) c))))) v)
unfolding of_name_at done_at change_at
name_changed zero n ws u is = rw is (maps4 (change_at 0 u) (λ c. Pair (symbol_leaf sym.Dot) c) (λ t. Left t) (λ t. Right t) (λ t. Left (Pair (name_leaf n) t)))
name_changed (suc k) n ws u is = rw is (maps4 (change_at (suc k) u) (λ c. Pair (symbol_leaf sym.Dot) c) (λ t. Left t) (λ t. Right t) (λ t. Left (Pair (name_leaf n) t)))

pub name_called : (k : ℕ) (n : Name) (ws : List Word) → begins (symbol sym.Equal) ws ≡ false → begins (symbol sym.Dot) ws ≡ false → of_name_at k n ws ≡ and_then (both (level_at arguments_level k) (word (symbol sym.Semicolon)) ws) (λ c v. Parsed (Left (Pair (name_leaf n) (Right (Right c)))) v)
unfolding of_name_at done_at level_at
name_called zero n [] a b = refl
name_called (suc k) n [] a b = refl
name_called zero n (w ∷ ws) a b = rw (a, b) (maps3 (both (level_at arguments_level 0) (word (symbol sym.Semicolon)) (w ∷ ws)) (λ t. Right t) (λ t. Right t) (λ t. Left (Pair (name_leaf n) t)))
name_called (suc k) n (w ∷ ws) a b = rw (a, b) (maps3 (both (level_at arguments_level (suc k)) (word (symbol sym.Semicolon)) (w ∷ ws)) (λ t. Right t) (λ t. Right t) (λ t. Left (Pair (name_leaf n) t)))

pub change_empty : (k : ℕ) (ws u : List Word) → ws ≡ words.Symbol sym.Empty ∷ u → change_at k ws ≡ and_then (word (symbol sym.Semicolon) u) (λ c v. Parsed (Pair (Left (symbol_leaf sym.Empty)) c) v)
unfolding change_at
change_empty zero ws u is = rw is refl
change_empty (suc k) ws u is = rw is refl

pub change_method : (k : ℕ) (ws : List Word) → begins (symbol sym.Empty) ws ≡ false → change_at k ws ≡ and_then (method_at k ws) (λ m u. and_then (word (symbol sym.Semicolon) u) (λ c v. Parsed (Pair (Right m) c) v))
unfolding change_at method_at
change_method zero ws none = rw none (then_then (method_at 0 ws) (λ m u. Parsed (Right m) u) (λ m u. and_then (word (symbol sym.Semicolon) u) (λ c v. Parsed (Pair m c) v)))
change_method (suc k) ws none = rw none (then_then (method_at (suc k) ws) (λ m u. Parsed (Right m) u) (λ m u. and_then (word (symbol sym.Semicolon) u) (λ c v. Parsed (Pair m c) v)))

-- ---- what is done to attributes

-- what stands behind an attribute
unfoldable pub done_to_at : ℕ → Reader
done_to_at k = read rule k (Alt assigned changed)

abbrev seen_attribute : ℕ → Attribute → ParseTree → ParseTree
seen_attribute at a t = nth 4 (Pair (Leaf (words.Attribute at a)) t)

attribute_is : (k at : ℕ) (a : Attribute) (ws u : List Word) → ws ≡ words.Attribute at a ∷ u → stmt_at k ws ≡ and_then (done_to_at k u) (λ d v. Parsed (seen_attribute at a d) v)
unfolding done_to_at
attribute_is k at a ws u is = headed 4 k is_attribute (Alt assigned changed) _ refl refl ws (words.Attribute at a) u is (attribute_passes at a)

done_assigned : (k : ℕ) (ws u : List Word) → ws ≡ words.Symbol sym.Equal ∷ u → done_to_at k ws ≡ and_then (both (expr_at k) (word (symbol sym.Semicolon)) u) (λ e v. Parsed (Left (Pair (symbol_leaf sym.Equal) e)) v)
unfolding done_to_at expr_at
done_assigned zero ws u is = rw is (maps2 (both (expr_at 0) (word (symbol sym.Semicolon)) u) (λ e. Pair (symbol_leaf sym.Equal) e) (λ t. Left t))
done_assigned (suc k) ws u is = rw is (maps2 (both (expr_at (suc k)) (word (symbol sym.Semicolon)) u) (λ e. Pair (symbol_leaf sym.Equal) e) (λ t. Left t))

done_changed : (k : ℕ) (ws : List Word) → begins (symbol sym.Equal) ws ≡ false → done_to_at k ws ≡ and_then (both (word (symbol sym.Dot)) (change_at k) ws) (λ t v. Parsed (Right t) v)
unfolding done_to_at change_at
done_changed zero [] none = refl
done_changed (suc k) [] none = refl
done_changed zero (w ∷ ws) none = rw none refl
done_changed (suc k) (w ∷ ws) none = rw none refl

pub attribute_assigned : (k at : ℕ) (a : Attribute) (ws u v : List Word) → ws ≡ words.Attribute at a ∷ u → u ≡ words.Symbol sym.Equal ∷ v → stmt_at k ws ≡ and_then (both (expr_at k) (word (symbol sym.Semicolon)) v) (λ e x. Parsed (seen_attribute at a (Left (Pair (symbol_leaf sym.Equal) e))) x)
attribute_assigned k at a ws u v is equal =
    attribute_is k at a ws u is ∙ ap (λ (x : Read). and_then x (λ d y. Parsed (seen_attribute at a d) y)) (done_assigned k u v equal)
    ∙ maps2 (both (expr_at k) (word (symbol sym.Semicolon)) v) (λ e. Left (Pair (symbol_leaf sym.Equal) e)) (λ d. seen_attribute at a d)

pub attribute_changed : (k at : ℕ) (a : Attribute) (ws u : List Word) → ws ≡ words.Attribute at a ∷ u → begins (symbol sym.Equal) u ≡ false → stmt_at k ws ≡ and_then (both (word (symbol sym.Dot)) (change_at k) u) (λ t v. Parsed (seen_attribute at a (Right t)) v)
attribute_changed k at a ws u is none =
    attribute_is k at a ws u is ∙ ap (λ (x : Read). and_then x (λ d y. Parsed (seen_attribute at a d) y)) (done_changed k u none)
    ∙ maps2 (both (word (symbol sym.Dot)) (change_at k) u) (λ t. Right t) (λ d. seen_attribute at a d)

-- ---- declarations

pub initial_none : (k : ℕ) (ws : List Word) → begins (symbol sym.Equal) ws ≡ false → initial_at k ws ≡ Parsed (Right NoWords) ws
unfolding initial_at
initial_none zero [] none = refl
initial_none (suc k) [] none = refl
initial_none zero (w ∷ ws) none = rw none refl
initial_none (suc k) (w ∷ ws) none = rw none refl

pub initial_some : (k : ℕ) (ws u : List Word) → ws ≡ words.Symbol sym.Equal ∷ u → initial_at k ws ≡ and_then (expr_at k u) (λ e v. Parsed (Left (Pair (symbol_leaf sym.Equal) e)) v)
unfolding initial_at expr_at
initial_some zero ws u is = rw is (maps2 (expr_at 0 u) (λ e. Pair (symbol_leaf sym.Equal) e) (λ t. Left t))
initial_some (suc k) ws u is = rw is (maps2 (expr_at (suc k) u) (λ e. Pair (symbol_leaf sym.Equal) e) (λ t. Left t))

pub declaration_is : (k : ℕ) (ws : List Word) → declaration_at k ws ≡ and_then (both (vtype_at 0) (both (word name) (both (initial_at k) (word (symbol sym.Semicolon)))) ws) (λ t u. Parsed (Right (nth 2 t)) u)
unfolding declaration_at vtype_at initial_at
declaration_is zero ws = refl
declaration_is (suc k) ws = refl

-- ---- the others

pub empty_is : (k : ℕ) (ws u : List Word) → ws ≡ words.Symbol sym.Semicolon ∷ u → stmt_at k ws ≡ Parsed (Right (nth 1 semicolon_leaf)) u
unfolding stmt_at
empty_is zero ws u is = rw is refl
empty_is (suc k) ws u is = rw is refl

pub unset_is : (k : ℕ) (ws u : List Word) → ws ≡ words.Symbol sym.Unset ∷ u → stmt_at k ws ≡ and_then (both (level_at attribute_level k) (word (symbol sym.Semicolon)) u) (λ t v. Parsed (nth 5 (Pair (symbol_leaf sym.Unset) t)) v)
unfolding level_at
unset_is zero ws u is = headed 5 0 (symbol sym.Unset) _ _ refl refl ws (words.Symbol sym.Unset) u is refl
unset_is (suc k) ws u is = headed 5 (suc k) (symbol sym.Unset) _ _ refl refl ws (words.Symbol sym.Unset) u is refl

abbrev is_verdict : Kind → Bool
is_verdict k = symbol sym.Accept k || symbol sym.Reject k

pub accept_is : (k : ℕ) (ws u : List Word) → ws ≡ words.Symbol sym.Accept ∷ u → stmt_at k ws ≡ and_then (word (symbol sym.Semicolon) u) (λ t v. Parsed (nth 9 (Pair (symbol_leaf sym.Accept) t)) v)
accept_is zero ws u is = headed 9 0 is_verdict _ _ refl refl ws (words.Symbol sym.Accept) u is refl
accept_is (suc k) ws u is = headed 9 (suc k) is_verdict _ _ refl refl ws (words.Symbol sym.Accept) u is refl

pub reject_is : (k : ℕ) (ws u : List Word) → ws ≡ words.Symbol sym.Reject ∷ u → stmt_at k ws ≡ and_then (word (symbol sym.Semicolon) u) (λ t v. Parsed (nth 9 (Pair (symbol_leaf sym.Reject) t)) v)
reject_is zero ws u is = headed 9 0 is_verdict _ _ refl refl ws (words.Symbol sym.Reject) u is refl
reject_is (suc k) ws u is = headed 9 (suc k) is_verdict _ _ refl refl ws (words.Symbol sym.Reject) u is refl

-- an expression or nothing, and a semicolon
abbrev as_result : ParseTree → ParseTree
as_result (Pair e c) = Pair (Left e) c
as_result t = t

result_none : (k : ℕ) (ws u : List Word) → ws ≡ words.Symbol sym.Semicolon ∷ u → both (result_at k) (word (symbol sym.Semicolon)) ws ≡ Parsed (Pair (Right NoWords) semicolon_leaf) u
unfolding result_at
result_none zero ws u is = rw is refl
result_none (suc k) ws u is = rw is refl

result_step : (x : Read) → and_then (and_then x (λ e v. Parsed (Left e) v)) (λ r v. and_then (word (symbol sym.Semicolon) v) (λ c y. Parsed (Pair r c) y)) ≡ and_then (and_then x (λ e v. and_then (word (symbol sym.Semicolon) v) (λ c y. Parsed (Pair e c) y))) (λ t v. Parsed (as_result t) v)
result_step (Parsed e v) = by_end (word (symbol sym.Semicolon) v)
  where
    by_end : (y : Read) → and_then y (λ c z. Parsed (Pair (Left e) c) z) ≡ and_then (and_then y (λ c z. Parsed (Pair e c) z)) (λ t z. Parsed (as_result t) z)
    by_end (Parsed c z) = refl
    by_end (Failed why z) = refl
result_step (Failed why v) = refl

result_start : (k : ℕ) (ws : List Word) → begins (first_set expr) ws ≡ true → result_at k ws ≡ and_then (expr_at k ws) (λ e v. Parsed (Left e) v)
unfolding result_at expr_at
result_start zero ws here = rw here refl
result_start (suc k) ws here = rw here refl

result_blank : (k : ℕ) (ws : List Word) → begins (first_set expr) ws ≡ false → result_at k ws ≡ Parsed (Right NoWords) ws
unfolding result_at
result_blank zero ws none = rw none refl
result_blank (suc k) ws none = rw none refl

result_some : (k : ℕ) (ws : List Word) → begins (symbol sym.Semicolon) ws ≡ false → both (result_at k) (word (symbol sym.Semicolon)) ws ≡ and_then (both (expr_at k) (word (symbol sym.Semicolon)) ws) (λ t v. Parsed (as_result t) v)
result_some k ws none = elim (bool_cases (begins (first_set expr) ws)) [
  | inl here ↦ rw (result_start k ws here) (result_step (expr_at k ws))
  | inr other ↦ rw (result_blank k ws other, expr_refused k ws other, word_bad (symbol sym.Semicolon) ws none) refl
]

return_is : (k at : ℕ) (ws u : List Word) → ws ≡ words.Placed at sym.Return ∷ u → stmt_at k ws ≡ and_then (both (result_at k) (word (symbol sym.Semicolon)) u) (λ t v. Parsed (nth 10 (Pair (Leaf (words.Placed at sym.Return)) t)) v)
unfolding result_at
return_is zero at ws u is = headed 10 0 (symbol sym.Return) _ _ refl refl ws (words.Placed at sym.Return) u is refl
return_is (suc k) at ws u is = headed 10 (suc k) (symbol sym.Return) _ _ refl refl ws (words.Placed at sym.Return) u is refl

pub return_none : (k at : ℕ) (ws u v : List Word) → ws ≡ words.Placed at sym.Return ∷ u → u ≡ words.Symbol sym.Semicolon ∷ v → stmt_at k ws ≡ Parsed (nth 10 (Pair (Leaf (words.Placed at sym.Return)) (Pair (Right NoWords) semicolon_leaf))) v
return_none k at ws u v is semicolon = return_is k at ws u is ∙ rw (result_none k u v semicolon) refl

pub return_some : (k at : ℕ) (ws u : List Word) → ws ≡ words.Placed at sym.Return ∷ u → begins (symbol sym.Semicolon) u ≡ false → stmt_at k ws ≡ and_then (both (expr_at k) (word (symbol sym.Semicolon)) u) (λ t v. Parsed (nth 10 (Pair (Leaf (words.Placed at sym.Return)) (as_result t))) v)
return_some k at ws u is none =
    return_is k at ws u is ∙ ap (λ (x : Read). and_then x (λ t v. Parsed (nth 10 (Pair (Leaf (words.Placed at sym.Return)) t)) v)) (result_some k u none)
    ∙ maps2 (both (expr_at k) (word (symbol sym.Semicolon)) u) (λ t. as_result t) (λ t. nth 10 (Pair (Leaf (words.Placed at sym.Return)) t))

-- ---- what is printed

pub printed_turns : (k : ℕ) → Turns (symbol sym.Comma) (expr_at k)
unfolding links expr_at
printed_turns zero = turn rule 0 expr (Seq (Terminal (symbol sym.Comma)) expr) (expr_at 0) (both (word (symbol sym.Comma)) (expr_at 0)) (next_at expr (Seq (Terminal (symbol sym.Comma)) expr) refl) (good_at 0 expr refl) (good_at 0 (Seq (Terminal (symbol sym.Comma)) expr) refl)
printed_turns (suc k) = turn rule (suc k) expr (Seq (Terminal (symbol sym.Comma)) expr) (expr_at (suc k)) (both (word (symbol sym.Comma)) (expr_at (suc k))) (next_at expr (Seq (Terminal (symbol sym.Comma)) expr) refl) (good_at (suc k) expr refl) (good_at (suc k) (Seq (Terminal (symbol sym.Comma)) expr) refl)

pub exprs_is : (k : ℕ) (ws : List Word) → exprs_at k ws ≡ and_then (expr_at k ws) (λ a rest. links (symbol sym.Comma) (expr_at k) (Single a) rest)
unfolding links expr_at exprs_at
exprs_is zero ws = refl
exprs_is (suc k) ws = refl

listed_more : (t : ParseTree) (es : List Expr) (e : Expr) → listed_after t (map expr_tree (es ++ e ∷ [])) ≡ with_next (listed_after t (map expr_tree es)) (derivations e).expr
listed_more t [] e = refl
listed_more t (q ∷ es) e = listed_more (with_next t (expr_tree q)) es e

pub one_more_printed : (es : List Expr) (e : Expr) → 0 < length es → listed_tree (expr_trees (es ++ e ∷ [])) ≡ with_next (listed_tree (expr_trees es)) (derivations e).expr
one_more_printed [] e some = absurd (omega arith)
one_more_printed (q ∷ es) e some = listed_more (Single (expr_tree q)) es e

abbrev is_print : Kind → Bool
is_print k = symbol sym.Print k || symbol sym.Printn k

print_map : (x : Read) (w : Word) → and_then (and_then x (λ t u. Parsed (Pair (Leaf w) t) u)) (λ t u. Parsed (beyond 11 t) u) ≡ and_then x (λ t u. Parsed (beyond 11 (Pair (Leaf w) t)) u)
print_map x w = maps2 x (λ t. Pair (Leaf w) t) (λ t. beyond 11 t)

print_read : (k : ℕ) (ws : List Word) (w : Word) (u : List Word) → ws ≡ w ∷ u → is_print (kind_of w) ≡ true → read rule k print_stmt ws ≡ and_then (both (exprs_at k) (word (symbol sym.Semicolon)) u) (λ t v. Parsed (Pair (Leaf w) t) v)
unfolding exprs_at
print_read zero ws w u is passes = rw (is, passes) refl
print_read (suc k) ws w u is passes = rw (is, passes) refl

print_begins : (ws : List Word) (w : Word) (u : List Word) → ws ≡ w ∷ u → is_print (kind_of w) ≡ true → begins (first_set print_stmt) ws ≡ true
print_begins ws w u is passes = rw (is, passes) refl

print_any : (k : ℕ) (ws : List Word) (w : Word) (u : List Word) → ws ≡ w ∷ u → is_print (kind_of w) ≡ true → stmt_at k ws ≡ and_then (both (exprs_at k) (word (symbol sym.Semicolon)) u) (λ t v. Parsed (beyond 11 (Pair (Leaf w) t)) v)
unfolding stmt_at
print_any k ws w u is passes =
    rest_read 11 k stmt stmt_checked refl ws (print_begins ws w u is passes)
    ∙ ap (λ (x : Read). and_then x (λ t v. Parsed (beyond 11 t) v)) (print_read k ws w u is passes)
    ∙ print_map (both (exprs_at k) (word (symbol sym.Semicolon)) u) w

pub print_is : (k : ℕ) (ws u : List Word) → ws ≡ words.Symbol sym.Print ∷ u → stmt_at k ws ≡ and_then (both (exprs_at k) (word (symbol sym.Semicolon)) u) (λ t v. Parsed (beyond 11 (Pair (symbol_leaf sym.Print) t)) v)
print_is k ws u is = print_any k ws (words.Symbol sym.Print) u is refl

pub printn_is : (k : ℕ) (ws u : List Word) → ws ≡ words.Symbol sym.Printn ∷ u → stmt_at k ws ≡ and_then (both (exprs_at k) (word (symbol sym.Semicolon)) u) (λ t v. Parsed (beyond 11 (Pair (symbol_leaf sym.Printn) t)) v)
printn_is k ws u is = print_any k ws (words.Symbol sym.Printn) u is refl

-- ---- what no other word begins is a declaration, or nothing

pub stmt_refused : (k : ℕ) (ws : List Word) → begins (first_set stmt) ws ≡ false → stmt_at k ws ≡ Failed Bad ws
unfolding stmt_at
stmt_refused k ws none = refuses rule model after checked k stmt refl refl ws none

pub stmt_begins : (k : ℕ) (ws : List Word) (t : ParseTree) (rest : List Word) → stmt_at k ws ≡ Parsed t rest → begins (first_set stmt) ws ≡ true
unfolding stmt_at
stmt_begins k ws t rest got = begun rule model after checked k stmt refl refl ws t rest got

declaration_refused : (k : ℕ) (ws : List Word) → begins (first_set declaration) ws ≡ false → declaration_at k ws ≡ Failed Bad ws
unfolding declaration_at
declaration_refused k ws none = rw (refuses rule model after checked k declaration refl refl ws none) refl

declaration_picked : (k : ℕ) (ws : List Word) → begins (first_set declaration) ws ≡ true → stmt_at k ws ≡ declaration_at k ws
unfolding stmt_at declaration_at
declaration_picked k ws here = picked 3 k stmt declaration _ stmt_checked refl refl ws here

pub record Others (ws : List Word) : Type 0 where
  pub name : begins name ws ≡ false
  pub block : begins (symbol sym.OpenBrace) ws ≡ false
  pub semicolon : begins (symbol sym.Semicolon) ws ≡ false
  pub attribute : begins is_attribute ws ≡ false
  pub unset : begins (symbol sym.Unset) ws ≡ false
  pub if_stmt : begins (symbol sym.If) ws ≡ false
  pub case_stmt : begins (symbol sym.Case) ws ≡ false
  pub repeats : begins (symbol sym.For) ws ≡ false
  pub accept : begins (symbol sym.Accept) ws ≡ false
  pub reject : begins (symbol sym.Reject) ws ≡ false
  pub returns : begins (symbol sym.Return) ws ≡ false
  pub print : begins (symbol sym.Print) ws ≡ false
  pub printn : begins (symbol sym.Printn) ws ≡ false

no_start : (ws : List Word) → Others ws → begins (first_set declaration) ws ≡ false → begins (first_set stmt) ws ≡ false
no_start [] o none = refl
no_start (w ∷ ws) o none = rw (o.name, o.block, o.semicolon, none, o.attribute, o.unset, o.if_stmt, o.case_stmt, o.repeats, o.accept, o.reject, o.returns, o.print, o.printn) refl

pub stmt_declared : (k : ℕ) (ws : List Word) → Others ws → stmt_at k ws ≡ declaration_at k ws
stmt_declared k ws o = elim (bool_cases (begins (first_set declaration) ws)) [
  | inl here ↦ declaration_picked k ws here
  | inr none ↦ stmt_refused k ws (no_start ws o none) ∙ flip (declaration_refused k ws none)
]
