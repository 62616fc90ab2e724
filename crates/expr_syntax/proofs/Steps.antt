-- Reading expressions, one step of the parser after another.
use Rattle.std.proofs.Common.{◌≡◌, ℕ, zero, suc, ◌+◌, ◌-◌, ◌<◌, ◌≤◌, true, false, List, [], ◌∷◌, length, refl, sym, ◌∙◌, arith, sub-one, inl, inr}
use Rattle.conf_lex.specs.declared.symbol.Symbol.{Symbol}
use Rattle.conf_lex.specs.declared.symbol.Symbol.TheVariants as symbols
use Rattle.conf_lex.specs.declared.word.Word.{Word}
use Rattle.conf_lex.specs.declared.word.Word.TheVariants as words
use Rattle.conf_ast.specs.declared.named.Name.{Name}
use Rattle.conf_lex.specs.declared.refusal.Refusal.{Refusal}
use Rattle.conf_lex.specs.Kind.{kind_of, symbol, name, is_attribute}
use Rattle.conf_lex.specs.Grammar.{ParseTree, Leaf, NoWords, Pair, Left, Right, Single, Deeper, begins, first_set, Bad, TooDeep}
use Rattle.conf_lex.specs.Reading.{Read, Parsed, Failed, Reader, and_then, word, both, read}
use Rattle.conf_lex.specs.PartShapes.{links, with_optional, closed}
use Rattle.conf_lex.specs.Leaves.{name_leaf, symbol_leaf}
use Rattle.conf_lex.specs.Agrees.{AgreesOnError}
use Rattle.conf_lex.proofs.PartShapes as shapes
use Rattle.conf_lex.proofs.PartShapes.{fails_then, fails_along, then_then, Turns, begins_none, closed_is, closed_got, closed_inside_fails, closed_end_fails, word_bad, less_one, bool_cases}
use Rattle.conf_ast.specs.declared.filters.Atom.{Atom}
use Rattle.conf_ast.specs.declared.filters.Atom.TheVariants as atoms
use Rattle.conf_ast.specs.declared.attribute.Attribute.{Attribute}
use Rattle.conf_ast.specs.declared.filters.Method.{Method}
use Rattle.conf_ast.specs.declared.filters.MethodKind.{MethodKind}
use Rattle.conf_ast.specs.declared.filters.MethodKind.TheVariants as methods
use Rattle.conf_ast.specs.declared.filters.Property.{Property}
use Rattle.conf_ast.specs.declared.filters.Property.TheVariants as properties
use Rattle.conf_ast.specs.declared.filters.MulOp.{MulOp}
use Rattle.conf_ast.specs.declared.filters.MulOp.TheVariants as mul_ops
use Rattle.conf_ast.specs.declared.filters.AddOp.{AddOp}
use Rattle.conf_ast.specs.declared.filters.AddOp.TheVariants as add_ops
use Rattle.conf_ast.specs.declared.filters.CompareOp.{CompareOp}
use Rattle.conf_ast.specs.declared.filters.CompareOp.TheVariants as compare_op_ops
use Rattle.conf_ast.specs.declared.filters.LogicalOp.{LogicalOp}
use Rattle.conf_ast.specs.declared.filters.LogicalOp.TheVariants as logical_ops
use Rattle.expr_syntax.specs.Syntax.{parentheses, is_atom, is_method, is_property, is_mul_op, is_add_op, is_compare_op, is_logical_op, optional, listed, expr, comparison, sum, product, unary, postfix, primary, call, set, mask, rule}
use Rattle.expr_syntax.specs.Levels.{Level, group_level, arguments_level, set_level, argument_level, two_level, attribute_level}
use Rattle.expr_syntax.specs.View.{property_symbol, method_symbol, mul_op_symbol, add_op_symbol, compare_op_symbol, logical_op_symbol, method_word, atom_word, atom_tree, named_tree, group_tree, set_tree, mask_tree, defined_tree, method_call_tree, property_tree, method_tree, second_part, in_parentheses}
use Rattle.expr_syntax.specs.Readers.{expr_at, comparison_at, sum_at, product_at, unary_at, postfix_at, primary_at, method_at, behind_dot, behind_dot_at, level_at, opened_at, inside_at, call_at, named_at}
use Rattle.expr_syntax.specs.ItemReaders.{items_at, mask_items_at}
use Rattle.expr_syntax.proofs.Tested.{is_checked, model, after, checked}

-- ---- each form that is read passes the test

expr_ok : is_checked expr
expr_ok = refl

comparison_ok : is_checked comparison
comparison_ok = refl

product_ok : is_checked product
product_ok = refl

unary_ok : is_checked unary
unary_ok = refl

postfix_ok : is_checked postfix
postfix_ok = refl

primary_ok : is_checked primary
primary_ok = refl

-- ---- chains

pub logical_op_turns : (k : ℕ) → Turns is_logical_op (comparison_at k)
unfolding comparison_at
logical_op_turns k = shapes.chain_turns rule model after checked k is_logical_op comparison comparison expr_ok comparison_ok refl

pub expr_is : (k : ℕ) (ws : List Word) → expr_at k ws ≡ and_then (comparison_at k ws) (λ a rest. links is_logical_op (comparison_at k) (Single a) rest)
unfolding expr_at comparison_at
expr_is k ws = shapes.chain_read rule model after checked k is_logical_op comparison comparison ws

pub add_op_turns : (k : ℕ) → Turns is_add_op (product_at k)
unfolding product_at
add_op_turns k = shapes.chain_turns rule model after checked k is_add_op product product refl product_ok refl

pub sum_is : (k : ℕ) (ws : List Word) → sum_at k ws ≡ and_then (product_at k ws) (λ a rest. links is_add_op (product_at k) (Single a) rest)
unfolding sum_at product_at
sum_is k ws = shapes.chain_read rule model after checked k is_add_op product product ws

pub mul_op_turns : (k : ℕ) → Turns is_mul_op (unary_at k)
unfolding unary_at
mul_op_turns k = shapes.chain_turns rule model after checked k is_mul_op unary unary product_ok unary_ok refl

pub product_is : (k : ℕ) (ws : List Word) → product_at k ws ≡ and_then (unary_at k ws) (λ a rest. links is_mul_op (unary_at k) (Single a) rest)
unfolding product_at unary_at
product_is k ws = shapes.chain_read rule model after checked k is_mul_op unary unary ws

pub dot_turns : (k : ℕ) → Turns (symbol symbols.Dot) (behind_dot_at k)
unfolding behind_dot_at
dot_turns k = shapes.chain_turns rule model after checked k (symbol symbols.Dot) primary behind_dot postfix_ok primary_ok refl

pub postfix_is : (k : ℕ) (ws : List Word) → postfix_at k ws ≡ and_then (primary_at k ws) (λ a rest. links (symbol symbols.Dot) (behind_dot_at k) (Single a) rest)
unfolding postfix_at primary_at behind_dot_at
postfix_is k ws = shapes.chain_read rule model after checked k (symbol symbols.Dot) primary behind_dot ws

pub comma_turns : (k : ℕ) → Turns (symbol symbols.Comma) (expr_at k)
unfolding expr_at
comma_turns k = shapes.chain_turns rule model after checked k (symbol symbols.Comma) expr expr refl expr_ok refl

pub comparison_is : (k : ℕ) (ws : List Word) → comparison_at k ws ≡ with_optional is_compare_op (sum_at k) (sum_at k) ws
unfolding comparison_at sum_at
comparison_is k ws = shapes.optional_read rule model after checked k is_compare_op sum sum ws

pub group_is : (k : ℕ) (ws : List Word) → inside_at group_level k ws ≡ with_optional (symbol symbols.Comma) (expr_at k) (expr_at k) ws
unfolding inside_at expr_at
group_is k ws = shapes.optional_read rule model after checked k (symbol symbols.Comma) expr expr ws

-- ---- what is read is no longer than what there is

pub expr_shorter : (k : ℕ) (ws : List Word) (t : ParseTree) (rest : List Word) → expr_at k ws ≡ Parsed t rest → length rest ≤ length ws
unfolding expr_at
expr_shorter k ws t rest got = shapes.shorter rule model after checked k expr expr_ok ws t rest got

pub comparison_shorter : (k : ℕ) (ws : List Word) (t : ParseTree) (rest : List Word) → comparison_at k ws ≡ Parsed t rest → length rest ≤ length ws
unfolding comparison_at
comparison_shorter k ws t rest got = shapes.shorter rule model after checked k comparison comparison_ok ws t rest got

pub product_shorter : (k : ℕ) (ws : List Word) (t : ParseTree) (rest : List Word) → product_at k ws ≡ Parsed t rest → length rest ≤ length ws
unfolding product_at
product_shorter k ws t rest got = shapes.shorter rule model after checked k product product_ok ws t rest got

pub unary_shorter : (k : ℕ) (ws : List Word) (t : ParseTree) (rest : List Word) → unary_at k ws ≡ Parsed t rest → length rest ≤ length ws
unfolding unary_at
unary_shorter k ws t rest got = shapes.shorter rule model after checked k unary unary_ok ws t rest got

pub behind_shorter : (k : ℕ) (ws : List Word) (t : ParseTree) (rest : List Word) → behind_dot_at k ws ≡ Parsed t rest → length rest ≤ length ws
unfolding behind_dot_at
behind_shorter k ws t rest got = shapes.shorter rule model after checked k behind_dot refl ws t rest got

-- ---- the words of operators

pub logical_op_passes : (op : LogicalOp) → is_logical_op (kind_of (words.Symbol (logical_op_symbol op))) ≡ true
logical_op_passes logical_ops.And = refl
logical_op_passes logical_ops.Or = refl

pub compare_op_passes : (op : CompareOp) → is_compare_op (kind_of (words.Symbol (compare_op_symbol op))) ≡ true
compare_op_passes compare_op_ops.Equal = refl
compare_op_passes compare_op_ops.NotEqual = refl
compare_op_passes compare_op_ops.Less = refl
compare_op_passes compare_op_ops.LessOrEqual = refl
compare_op_passes compare_op_ops.Greater = refl
compare_op_passes compare_op_ops.GreaterOrEqual = refl
compare_op_passes compare_op_ops.Matches = refl
compare_op_passes compare_op_ops.MatchesNot = refl

pub add_op_passes : (op : AddOp) → is_add_op (kind_of (words.Symbol (add_op_symbol op))) ≡ true
add_op_passes add_ops.Plus = refl
add_op_passes add_ops.Minus = refl

pub mul_op_passes : (op : MulOp) → is_mul_op (kind_of (words.Symbol (mul_op_symbol op))) ≡ true
mul_op_passes mul_ops.Times = refl
mul_op_passes mul_ops.Over = refl

pub attribute_passes : (at : ℕ) (a : Attribute) → is_attribute (kind_of (words.Attribute at a)) ≡ true
attribute_passes at a = refl

pub atom_passes : (s : Atom) → is_atom (kind_of (atom_word s)) ≡ true
atom_passes (atoms.Number at value) = refl
atom_passes _ = refl

-- ---- parentheses

pub opened_bad : (ws : List Word) → begins (symbol symbols.OpenParenthesis) ws ≡ false → (n : Level) (k : ℕ) → opened_at n k ws ≡ Failed Bad ws
unfolding opened_at
opened_bad [] none n zero = refl
opened_bad [] none n (suc k) = refl
opened_bad (w ∷ ws) none n zero = rw none refl
opened_bad (w ∷ ws) none n (suc k) = rw none refl

pub opened_deep : (k at : ℕ) (ws u : List Word) → k ≡ 0 → ws ≡ words.Placed at symbols.OpenParenthesis ∷ u → (n : Level) → opened_at n k ws ≡ Failed TooDeep ws
unfolding opened_at
opened_deep zero at ws u none is n = rw is refl
opened_deep (suc k) at ws u none is n = absurd (omega arith)

level_opened : (n : Level) (k : ℕ) (ws : List Word) → level_at n k ws ≡ and_then (opened_at n k ws) (λ a u. and_then (word (symbol symbols.CloseParenthesis) u) (λ c v. Parsed (Pair a c) v))
unfolding level_at opened_at
level_opened n zero ws = refl
level_opened n (suc k) ws = refl

pub level_unopened : (n : Level) (k : ℕ) (ws : List Word) (e : Refusal) → AgreesOnError e (opened_at n k ws) → AgreesOnError e (level_at n k ws)
level_unopened n k ws e failed = fails_along e (level_at n k ws) _ (level_opened n k ws) (fails_then e (opened_at n k ws) (λ a u. and_then (word (symbol symbols.CloseParenthesis) u) (λ c v. Parsed (Pair a c) v)) failed)

pub level_deep : (n : Level) (k at : ℕ) (ws u : List Word) (e : Refusal) → k ≡ 0 → ws ≡ words.Placed at symbols.OpenParenthesis ∷ u → AgreesOnError e (Failed TooDeep ws) → AgreesOnError e (level_at n k ws)
level_deep n k at ws u e none is failed = level_unopened n k ws e (fails_along e (opened_at n k ws) (Failed TooDeep ws) (opened_deep k at ws u none is n) failed)

level_some : (n : Level) (k at : ℕ) (ws u : List Word) → 0 < k → ws ≡ words.Placed at symbols.OpenParenthesis ∷ u → level_at n k ws ≡ closed (words.Placed at symbols.OpenParenthesis) (inside_at n (k - 1)) symbols.CloseParenthesis u
unfolding level_at inside_at
level_some n zero at ws u some is = absurd (omega arith)
level_some n (suc k) at ws u some is = rw (is, sub-one) (closed_is (words.Placed at symbols.OpenParenthesis) symbols.CloseParenthesis (read rule k (rule n)) u)

pub level_is : (n : Level) (k b at : ℕ) (ws u : List Word) → b + 1 ≡ k → ws ≡ words.Placed at symbols.OpenParenthesis ∷ u → level_at n k ws ≡ closed (words.Placed at symbols.OpenParenthesis) (inside_at n b) symbols.CloseParenthesis u
level_is n k b at ws u below is = level_some n k at ws u (omega arith) is ∙ rw (less_one b k below) refl

pub level_inside_fails : (n : Level) (k b at : ℕ) (ws u : List Word) (e : Refusal) → b + 1 ≡ k → ws ≡ words.Placed at symbols.OpenParenthesis ∷ u → AgreesOnError e (inside_at n b u) → AgreesOnError e (level_at n k ws)
level_inside_fails n k b at ws u e below is failed = fails_along e (level_at n k ws) _ (level_is n k b at ws u below is) (closed_inside_fails (words.Placed at symbols.OpenParenthesis) symbols.CloseParenthesis (inside_at n b) u e failed)

pub level_end_fails : (n : Level) (k b at : ℕ) (ws u : List Word) (t : ParseTree) (rest : List Word) (e : Refusal) → b + 1 ≡ k → ws ≡ words.Placed at symbols.OpenParenthesis ∷ u → inside_at n b u ≡ Parsed t rest → AgreesOnError e (word (symbol symbols.CloseParenthesis) rest) → AgreesOnError e (level_at n k ws)
level_end_fails n k b at ws u t rest e below is got failed = fails_along e (level_at n k ws) _ (level_is n k b at ws u below is) (closed_end_fails (words.Placed at symbols.OpenParenthesis) symbols.CloseParenthesis (inside_at n b) u t rest e got failed)

pub level_got : (n : Level) (k b at : ℕ) (ws u : List Word) (t : ParseTree) (rest end : List Word) → b + 1 ≡ k → ws ≡ words.Placed at symbols.OpenParenthesis ∷ u → inside_at n b u ≡ Parsed t rest → rest ≡ words.Symbol symbols.CloseParenthesis ∷ end → level_at n k ws ≡ Parsed (in_parentheses at t) end
level_got n k b at ws u t rest end below is got close = level_is n k b at ws u below is ∙ closed_got (words.Placed at symbols.OpenParenthesis) symbols.CloseParenthesis refl (inside_at n b) u t rest end got close

-- ---- an attribute, an argument, two of them

pub attribute_inside : (k : ℕ) (ws : List Word) → inside_at attribute_level k ws ≡ word is_attribute ws
unfolding inside_at
attribute_inside zero ws = refl
attribute_inside (suc k) ws = refl

pub argument_inside : (k : ℕ) (ws : List Word) → inside_at argument_level k ws ≡ expr_at k ws
unfolding inside_at expr_at
argument_inside k ws = refl

pub two_inside : (k : ℕ) (ws : List Word) → inside_at two_level k ws ≡ both (expr_at k) (both (word (symbol symbols.Comma)) (expr_at k)) ws
unfolding inside_at expr_at
two_inside zero ws = refl
two_inside (suc k) ws = refl

pub two_first_fails : (k : ℕ) (ws : List Word) (e : Refusal) → AgreesOnError e (expr_at k ws) → AgreesOnError e (inside_at two_level k ws)
two_first_fails k ws e failed = fails_along e (inside_at two_level k ws) _ (two_inside k ws) (fails_then e (expr_at k ws) (λ a rest. and_then (both (word (symbol symbols.Comma)) (expr_at k) rest) (λ b end. Parsed (Pair a b) end)) failed)

pub two_comma_fails : (k : ℕ) (ws : List Word) (a : ParseTree) (rest : List Word) (e : Refusal) → expr_at k ws ≡ Parsed a rest → AgreesOnError e (word (symbol symbols.Comma) rest) → AgreesOnError e (inside_at two_level k ws)
two_comma_fails k ws a rest e got failed =
    fails_along e (inside_at two_level k ws) (and_then (both (word (symbol symbols.Comma)) (expr_at k) rest) (λ b end. Parsed (Pair a b) end)) (two_inside k ws ∙ rw got refl)
    (fails_then e (both (word (symbol symbols.Comma)) (expr_at k) rest) (λ b end. Parsed (Pair a b) end) (fails_then e (word (symbol symbols.Comma) rest) (λ c u. and_then (expr_at k u) (λ b end. Parsed (Pair c b) end)) failed))

pub two_second_fails : (k : ℕ) (ws : List Word) (a : ParseTree) (rest u : List Word) (e : Refusal) → expr_at k ws ≡ Parsed a rest → rest ≡ words.Symbol symbols.Comma ∷ u → AgreesOnError e (expr_at k u) → AgreesOnError e (inside_at two_level k ws)
two_second_fails k ws a rest u e got is failed =
    fails_along e (inside_at two_level k ws) (and_then (and_then (expr_at k u) (λ b end. Parsed (Pair (symbol_leaf symbols.Comma) b) end)) (λ b end. Parsed (Pair a b) end)) (two_inside k ws ∙ rw (got, is) refl)
    (fails_then e (and_then (expr_at k u) (λ b end. Parsed (Pair (symbol_leaf symbols.Comma) b) end)) (λ b end. Parsed (Pair a b) end) (fails_then e (expr_at k u) (λ b end. Parsed (Pair (symbol_leaf symbols.Comma) b) end) failed))

pub two_got : (k : ℕ) (ws : List Word) (a : ParseTree) (rest u : List Word) (b : ParseTree) (end : List Word) → expr_at k ws ≡ Parsed a rest → rest ≡ words.Symbol symbols.Comma ∷ u → expr_at k u ≡ Parsed b end → inside_at two_level k ws ≡ Parsed (Pair a (second_part b)) end
two_got k ws a rest u b end got is second = two_inside k ws ∙ rw (got, is, second) refl

-- ---- primary expressions

up-2 : (x : Read) → and_then (and_then x (λ a u. Parsed (Left a) u)) (λ a u. Parsed (Right a) u) ≡ and_then x (λ a u. Parsed (Right (Left a)) u)
up-2 (Parsed a u) = refl
up-2 (Failed why u) = refl

up-3 : (x : Read) → and_then (and_then (and_then x (λ a u. Parsed (Left a) u)) (λ a u. Parsed (Right a) u)) (λ a u. Parsed (Right a) u) ≡ and_then x (λ a u. Parsed (Right (Right (Left a))) u)
up-3 (Parsed a u) = refl
up-3 (Failed why u) = refl

up-4 : (x : Read) → and_then (and_then (and_then (and_then x (λ a u. Parsed (Left a) u)) (λ a u. Parsed (Right a) u)) (λ a u. Parsed (Right a) u)) (λ a u. Parsed (Right a) u) ≡ and_then x (λ a u. Parsed (Right (Right (Right (Left a)))) u)
up-4 (Parsed a u) = refl
up-4 (Failed why u) = refl

up-5 : (x : Read) → and_then (and_then (and_then (and_then (and_then x (λ a u. Parsed (Left a) u)) (λ a u. Parsed (Right a) u)) (λ a u. Parsed (Right a) u)) (λ a u. Parsed (Right a) u)) (λ a u. Parsed (Right a) u) ≡ and_then x (λ a u. Parsed (Right (Right (Right (Right (Left a))))) u)
up-5 (Parsed a u) = refl
up-5 (Failed why u) = refl

up-6 : (w : Word) (x : Read) → and_then (and_then (and_then (and_then (and_then (and_then (and_then x (λ a u. Parsed (Pair (Leaf w) a) u)) (λ a u. Parsed (Left a) u)) (λ a u. Parsed (Right a) u)) (λ a u. Parsed (Right a) u)) (λ a u. Parsed (Right a) u)) (λ a u. Parsed (Right a) u)) (λ a u. Parsed (Right a) u) ≡ and_then x (λ a u. Parsed (Right (Right (Right (Right (Right (Left (Pair (Leaf w) a))))))) u)
up-6 w (Parsed a u) = refl
up-6 w (Failed why u) = refl

up-7 : (w : Word) (x : Read) → and_then (and_then (and_then (and_then (and_then (and_then (and_then x (λ a u. Parsed (Pair (Leaf w) a) u)) (λ a u. Parsed (Right a) u)) (λ a u. Parsed (Right a) u)) (λ a u. Parsed (Right a) u)) (λ a u. Parsed (Right a) u)) (λ a u. Parsed (Right a) u)) (λ a u. Parsed (Right a) u) ≡ and_then x (λ a u. Parsed (Right (Right (Right (Right (Right (Right (Pair (Leaf w) a))))))) u)
up-7 w (Parsed a u) = refl
up-7 w (Failed why u) = refl

up-name : (n : Name) (x : Read) → and_then (and_then (and_then x (λ a u. Parsed (Pair (name_leaf n) a) u)) (λ a u. Parsed (Left a) u)) (λ a u. Parsed (Right a) u) ≡ and_then x (λ a u. Parsed (Right (Left (Pair (name_leaf n) a))) u)
up-name n (Parsed a u) = refl
up-name n (Failed why u) = refl

pub primary_atom : (k : ℕ) (ws : List Word) (s : Atom) (u : List Word) → ws ≡ atom_word s ∷ u → primary_at k ws ≡ Parsed (atom_tree (atom_word s)) u
unfolding primary_at
primary_atom zero ws s u is = rw (is, atom_passes s) refl
primary_atom (suc k) ws s u is = rw (is, atom_passes s) refl

pub primary_named : (k : ℕ) (ws : List Word) (n : Name) (u : List Word) → ws ≡ words.Name n.at n.start n.len ∷ u → primary_at k ws ≡ named_at k n u
unfolding primary_at named_at call_at
primary_named zero ws n u is = rw is (up-name n (read rule 0 (optional call) u))
primary_named (suc k) ws n u is = rw is (up-name n (read rule (suc k) (optional call) u))

primary_group : (k at : ℕ) (ws u : List Word) → ws ≡ words.Placed at symbols.OpenParenthesis ∷ u → primary_at k ws ≡ and_then (level_at group_level k ws) (λ a v. Parsed (Right (Right (Left a))) v)
unfolding primary_at level_at
primary_group zero at ws u is = rw is (up-3 (read rule 0 (parentheses group_level) (words.Placed at symbols.OpenParenthesis ∷ u)))
primary_group (suc k) at ws u is = rw is (up-3 (read rule (suc k) (parentheses group_level) (words.Placed at symbols.OpenParenthesis ∷ u)))

pub group_fails : (k at : ℕ) (ws u : List Word) (e : Refusal) → ws ≡ words.Placed at symbols.OpenParenthesis ∷ u → AgreesOnError e (level_at group_level k ws) → AgreesOnError e (primary_at k ws)
group_fails k at ws u e is failed = fails_along e (primary_at k ws) _ (primary_group k at ws u is) (fails_then e (level_at group_level k ws) (λ a v. Parsed (Right (Right (Left a))) v) failed)

pub group_got : (k b at : ℕ) (ws u : List Word) (t : ParseTree) (rest end : List Word) → b + 1 ≡ k → ws ≡ words.Placed at symbols.OpenParenthesis ∷ u → inside_at group_level b u ≡ Parsed t rest → rest ≡ words.Symbol symbols.CloseParenthesis ∷ end → primary_at k ws ≡ Parsed (group_tree at t) end
group_got k b at ws u t rest end below is got close = primary_group k at ws u is ∙ rw (level_got group_level k b at ws u t rest end below is got close) refl

primary_set : (k at : ℕ) (ws u : List Word) → ws ≡ words.Placed at symbols.OpenBracket ∷ u → primary_at k ws ≡ and_then (read rule k set ws) (λ a v. Parsed (Right (Right (Right (Left a)))) v)
unfolding primary_at
primary_set zero at ws u is = rw is (up-4 (read rule 0 set (words.Placed at symbols.OpenBracket ∷ u)))
primary_set (suc k) at ws u is = rw is (up-4 (read rule (suc k) set (words.Placed at symbols.OpenBracket ∷ u)))

set_deep : (k at : ℕ) (ws u : List Word) → k ≡ 0 → ws ≡ words.Placed at symbols.OpenBracket ∷ u → read rule k set ws ≡ Failed TooDeep ws
set_deep zero at ws u none is = rw is refl
set_deep (suc k) at ws u none is = absurd (omega arith)

set_some : (k at : ℕ) (ws u : List Word) → 0 < k → ws ≡ words.Placed at symbols.OpenBracket ∷ u → read rule k set ws ≡ closed (words.Placed at symbols.OpenBracket) (items_at (k - 1)) symbols.CloseBracket u
unfolding items_at
set_some zero at ws u some is = absurd (omega arith)
set_some (suc k) at ws u some is = rw (is, sub-one) (closed_is (words.Placed at symbols.OpenBracket) symbols.CloseBracket (read rule k (rule set_level)) u)

set_is : (k b at : ℕ) (ws u : List Word) → b + 1 ≡ k → ws ≡ words.Placed at symbols.OpenBracket ∷ u → read rule k set ws ≡ closed (words.Placed at symbols.OpenBracket) (items_at b) symbols.CloseBracket u
set_is k b at ws u below is = set_some k at ws u (omega arith) is ∙ rw (less_one b k below) refl

set_fails : (k at : ℕ) (ws u : List Word) (e : Refusal) → ws ≡ words.Placed at symbols.OpenBracket ∷ u → AgreesOnError e (read rule k set ws) → AgreesOnError e (primary_at k ws)
set_fails k at ws u e is failed = fails_along e (primary_at k ws) _ (primary_set k at ws u is) (fails_then e (read rule k set ws) (λ a v. Parsed (Right (Right (Right (Left a)))) v) failed)

pub set_too_deep : (k at : ℕ) (ws u : List Word) (e : Refusal) → k ≡ 0 → ws ≡ words.Placed at symbols.OpenBracket ∷ u → AgreesOnError e (Failed TooDeep ws) → AgreesOnError e (primary_at k ws)
set_too_deep k at ws u e none is failed = set_fails k at ws u e is (fails_along e (read rule k set ws) (Failed TooDeep ws) (set_deep k at ws u none is) failed)

pub set_items_fail : (k b at : ℕ) (ws u : List Word) (e : Refusal) → b + 1 ≡ k → ws ≡ words.Placed at symbols.OpenBracket ∷ u → AgreesOnError e (items_at b u) → AgreesOnError e (primary_at k ws)
set_items_fail k b at ws u e below is failed = set_fails k at ws u e is (fails_along e (read rule k set ws) _ (set_is k b at ws u below is) (closed_inside_fails (words.Placed at symbols.OpenBracket) symbols.CloseBracket (items_at b) u e failed))

pub set_end_fails : (k b at : ℕ) (ws u : List Word) (t : ParseTree) (rest : List Word) (e : Refusal) → b + 1 ≡ k → ws ≡ words.Placed at symbols.OpenBracket ∷ u → items_at b u ≡ Parsed t rest → AgreesOnError e (word (symbol symbols.CloseBracket) rest) → AgreesOnError e (primary_at k ws)
set_end_fails k b at ws u t rest e below is got failed = set_fails k at ws u e is (fails_along e (read rule k set ws) _ (set_is k b at ws u below is) (closed_end_fails (words.Placed at symbols.OpenBracket) symbols.CloseBracket (items_at b) u t rest e got failed))

pub set_got : (k b at : ℕ) (ws u : List Word) (t : ParseTree) (rest end : List Word) → b + 1 ≡ k → ws ≡ words.Placed at symbols.OpenBracket ∷ u → items_at b u ≡ Parsed t rest → rest ≡ words.Symbol symbols.CloseBracket ∷ end → primary_at k ws ≡ Parsed (set_tree at t) end
set_got k b at ws u t rest end below is got close = primary_set k at ws u is ∙ rw (set_is k b at ws u below is, closed_got (words.Placed at symbols.OpenBracket) symbols.CloseBracket refl (items_at b) u t rest end got close) refl

-- the elements of a mask open no level
mask_tree_read : ℕ → Read → Read
mask_tree_read at x = and_then (and_then x (λ t v. Parsed (Pair (Leaf (words.Placed at symbols.OpenMask)) t) v)) (λ a v. and_then (word (symbol symbols.CloseMask) v) (λ c end. Parsed (Pair a c) end))

mask_level : (k : ℕ) (ws : List Word) → mask_items_at k ws ≡ mask_items_at 0 ws
unfolding mask_items_at
mask_level zero ws = refl
mask_level (suc k) ws = refl

primary_mask : (k at : ℕ) (ws u : List Word) → ws ≡ words.Placed at symbols.OpenMask ∷ u → primary_at k ws ≡ and_then (mask_tree_read at (mask_items_at k u)) (λ a v. Parsed (Right (Right (Right (Right (Left a))))) v)
unfolding primary_at mask_items_at mask_tree_read
primary_mask zero at ws u is = rw is (up-5 (read rule 0 mask (words.Placed at symbols.OpenMask ∷ u)))
primary_mask (suc k) at ws u is = rw is (up-5 (read rule (suc k) mask (words.Placed at symbols.OpenMask ∷ u)))

primary_mask_is : (k at : ℕ) (ws u : List Word) → ws ≡ words.Placed at symbols.OpenMask ∷ u → primary_at k ws ≡ and_then (mask_tree_read at (mask_items_at 0 u)) (λ a v. Parsed (Right (Right (Right (Right (Left a))))) v)
primary_mask_is k at ws u is = primary_mask k at ws u is ∙ rw (mask_level k u) refl

pub mask_items_fail : (k at : ℕ) (ws u : List Word) (e : Refusal) → ws ≡ words.Placed at symbols.OpenMask ∷ u → AgreesOnError e (mask_items_at 0 u) → AgreesOnError e (primary_at k ws)
unfolding mask_tree_read
mask_items_fail k at ws u e is failed =
    fails_along e (primary_at k ws) _ (primary_mask_is k at ws u is)
    (fails_then e (mask_tree_read at (mask_items_at 0 u)) (λ a v. Parsed (Right (Right (Right (Right (Left a))))) v)
    (fails_then e (and_then (mask_items_at 0 u) (λ t v. Parsed (Pair (Leaf (words.Placed at symbols.OpenMask)) t) v)) (λ a v. and_then (word (symbol symbols.CloseMask) v) (λ c end. Parsed (Pair a c) end))
    (fails_then e (mask_items_at 0 u) (λ t v. Parsed (Pair (Leaf (words.Placed at symbols.OpenMask)) t) v) failed)))

pub mask_end_fails : (k at : ℕ) (ws u : List Word) (t : ParseTree) (rest : List Word) (e : Refusal) → ws ≡ words.Placed at symbols.OpenMask ∷ u → mask_items_at 0 u ≡ Parsed t rest → AgreesOnError e (word (symbol symbols.CloseMask) rest) → AgreesOnError e (primary_at k ws)
unfolding mask_tree_read
mask_end_fails k at ws u t rest e is got failed =
    fails_along e (primary_at k ws) (and_then (and_then (word (symbol symbols.CloseMask) rest) (λ c end. Parsed (Pair (Pair (Leaf (words.Placed at symbols.OpenMask)) t) c) end)) (λ a v. Parsed (Right (Right (Right (Right (Left a))))) v)) (primary_mask_is k at ws u is ∙ rw got refl)
    (fails_then e (and_then (word (symbol symbols.CloseMask) rest) (λ c end. Parsed (Pair (Pair (Leaf (words.Placed at symbols.OpenMask)) t) c) end)) (λ a v. Parsed (Right (Right (Right (Right (Left a))))) v)
    (fails_then e (word (symbol symbols.CloseMask) rest) (λ c end. Parsed (Pair (Pair (Leaf (words.Placed at symbols.OpenMask)) t) c) end) failed))

pub mask_got : (k at : ℕ) (ws u : List Word) (t : ParseTree) (rest end : List Word) → ws ≡ words.Placed at symbols.OpenMask ∷ u → mask_items_at 0 u ≡ Parsed t rest → rest ≡ words.Symbol symbols.CloseMask ∷ end → primary_at k ws ≡ Parsed (mask_tree at t) end
unfolding mask_tree_read
mask_got k at ws u t rest end is got close = primary_mask_is k at ws u is ∙ rw (got, close) refl

primary_defined : (k at : ℕ) (ws u : List Word) → ws ≡ words.Placed at symbols.Defined ∷ u → primary_at k ws ≡ and_then (level_at attribute_level k u) (λ a v. Parsed (Right (Right (Right (Right (Right (Left (Pair (Leaf (words.Placed at symbols.Defined)) a))))))) v)
unfolding primary_at level_at
primary_defined zero at ws u is = rw is (up-6 (words.Placed at symbols.Defined) (read rule 0 (parentheses attribute_level) u))
primary_defined (suc k) at ws u is = rw is (up-6 (words.Placed at symbols.Defined) (read rule (suc k) (parentheses attribute_level) u))

pub defined_fails : (k at : ℕ) (ws u : List Word) (e : Refusal) → ws ≡ words.Placed at symbols.Defined ∷ u → AgreesOnError e (level_at attribute_level k u) → AgreesOnError e (primary_at k ws)
defined_fails k at ws u e is failed = fails_along e (primary_at k ws) _ (primary_defined k at ws u is) (fails_then e (level_at attribute_level k u) (λ a v. Parsed (Right (Right (Right (Right (Right (Left (Pair (Leaf (words.Placed at symbols.Defined)) a))))))) v) failed)

pub defined_got : (k at place : ℕ) (ws u : List Word) (w : Word) (end : List Word) → ws ≡ words.Placed at symbols.Defined ∷ u → level_at attribute_level k u ≡ Parsed (in_parentheses place (Leaf w)) end → primary_at k ws ≡ Parsed (defined_tree at place w) end
defined_got k at place ws u w end is got = primary_defined k at ws u is ∙ rw got refl

primary_of_method : (k at : ℕ) (kind : MethodKind) (u : List Word) → primary_at k (words.Placed at (method_symbol kind) ∷ u) ≡ and_then (level_at two_level k u) (λ a v. Parsed (Right (Right (Right (Right (Right (Right (Pair (Leaf (words.Placed at (method_symbol kind))) a))))))) v)
unfolding primary_at level_at
primary_of_method zero at methods.Prepend u = up-7 (words.Placed at symbols.Prepend) (read rule 0 (parentheses two_level) u)
primary_of_method zero at methods.Add u = up-7 (words.Placed at symbols.Add) (read rule 0 (parentheses two_level) u)
primary_of_method zero at methods.Delete u = up-7 (words.Placed at symbols.Delete) (read rule 0 (parentheses two_level) u)
primary_of_method zero at methods.Filter u = up-7 (words.Placed at symbols.Filter) (read rule 0 (parentheses two_level) u)
primary_of_method (suc k) at methods.Prepend u = up-7 (words.Placed at symbols.Prepend) (read rule (suc k) (parentheses two_level) u)
primary_of_method (suc k) at methods.Add u = up-7 (words.Placed at symbols.Add) (read rule (suc k) (parentheses two_level) u)
primary_of_method (suc k) at methods.Delete u = up-7 (words.Placed at symbols.Delete) (read rule (suc k) (parentheses two_level) u)
primary_of_method (suc k) at methods.Filter u = up-7 (words.Placed at symbols.Filter) (read rule (suc k) (parentheses two_level) u)

pub method_call_fails : (k : ℕ) (m : Method) (ws u : List Word) (e : Refusal) → ws ≡ method_word m ∷ u → AgreesOnError e (level_at two_level k u) → AgreesOnError e (primary_at k ws)
method_call_fails k m ws u e is failed = rw is (fails_along e (primary_at k (method_word m ∷ u)) _ (primary_of_method k m.at m.kind u) (fails_then e (level_at two_level k u) (λ a v. Parsed (Right (Right (Right (Right (Right (Right (Pair (Leaf (method_word m)) a))))))) v) failed))

pub method_call_got : (k place : ℕ) (m : Method) (ws u : List Word) (a b : ParseTree) (end : List Word) → ws ≡ method_word m ∷ u → level_at two_level k u ≡ Parsed (in_parentheses place (Pair a (second_part b))) end → primary_at k ws ≡ Parsed (method_call_tree m place a b) end
method_call_got k place m ws u a b end is got = rw is (primary_of_method k m.at m.kind u ∙ rw got refl)

no_primary : (ws : List Word) → begins is_atom ws ≡ false → begins name ws ≡ false → begins (symbol symbols.OpenParenthesis) ws ≡ false → begins (symbol symbols.OpenBracket) ws ≡ false → begins (symbol symbols.OpenMask) ws ≡ false → begins (symbol symbols.Defined) ws ≡ false → begins is_method ws ≡ false → begins (first_set primary) ws ≡ false
no_primary [] a b c d e f g = refl
no_primary (w ∷ ws) a b c d e f g = rw (a, b, c, d, e, f, g) refl

pub primary_bad : (k : ℕ) (ws : List Word) → begins is_atom ws ≡ false → begins name ws ≡ false → begins (symbol symbols.OpenParenthesis) ws ≡ false → begins (symbol symbols.OpenBracket) ws ≡ false → begins (symbol symbols.OpenMask) ws ≡ false → begins (symbol symbols.Defined) ws ≡ false → begins is_method ws ≡ false → primary_at k ws ≡ Failed Bad ws
unfolding primary_at
primary_bad k ws a b c d e f g = shapes.refuses rule model after checked k primary primary_ok refl ws (no_primary ws a b c d e f g)

-- ---- operands

unary_placed : (k at : ℕ) (ws u : List Word) → 0 < k → ws ≡ words.Placed at symbols.Not ∷ u → unary_at k ws ≡ and_then (unary_at (k - 1) u) (λ t v. Parsed (Left (Deeper (words.Placed at symbols.Not) t)) v)
unfolding unary_at
unary_placed zero at ws u some is = absurd (omega arith)
unary_placed (suc k) at ws u some is = rw (is, sub-one) (then_then (read rule k unary u) (λ t v. Parsed (Deeper (words.Placed at symbols.Not) t) v) (λ t v. Parsed (Left t) v))

pub not_too_deep : (k at : ℕ) (ws u : List Word) (e : Refusal) → k ≡ 0 → ws ≡ words.Placed at symbols.Not ∷ u → AgreesOnError e (Failed TooDeep ws) → AgreesOnError e (unary_at k ws)
unfolding unary_at
not_too_deep zero at ws u e none is failed = fails_along e (read rule 0 unary ws) (Failed TooDeep ws) (rw is refl) failed
not_too_deep (suc k) at ws u e none is failed = absurd (omega arith)

pub not_fails : (k b at : ℕ) (ws u : List Word) (e : Refusal) → b + 1 ≡ k → ws ≡ words.Placed at symbols.Not ∷ u → AgreesOnError e (unary_at b u) → AgreesOnError e (unary_at k ws)
not_fails k b at ws u e below is failed =
    fails_along e (unary_at k ws) (and_then (unary_at b u) (λ t v. Parsed (Left (Deeper (words.Placed at symbols.Not) t)) v)) (unary_placed k at ws u (omega arith) is ∙ rw (less_one b k below) refl)
    (fails_then e (unary_at b u) (λ t v. Parsed (Left (Deeper (words.Placed at symbols.Not) t)) v) failed)

pub not_got : (k b at : ℕ) (ws u : List Word) (t : ParseTree) (rest : List Word) → b + 1 ≡ k → ws ≡ words.Placed at symbols.Not ∷ u → unary_at b u ≡ Parsed t rest → unary_at k ws ≡ Parsed (Left (Deeper (words.Placed at symbols.Not) t)) rest
not_got k b at ws u t rest below is got = unary_placed k at ws u (omega arith) is ∙ rw (less_one b k below, got) refl

pub unary_postfix : (k : ℕ) (ws : List Word) → begins (symbol symbols.Not) ws ≡ false → unary_at k ws ≡ and_then (postfix_at k ws) (λ t v. Parsed (Right t) v)
unfolding unary_at postfix_at
unary_postfix zero [] none = refl
unary_postfix zero (w ∷ ws) none = rw none refl
unary_postfix (suc k) [] none = refl
unary_postfix (suc k) (w ∷ ws) none = rw none refl

-- ---- behind a dot

pub behind_property : (k : ℕ) (p : Property) (ws u : List Word) → ws ≡ words.Symbol (property_symbol p) ∷ u → behind_dot_at k ws ≡ Parsed (property_tree p) u
unfolding behind_dot_at
behind_property zero properties.Len ws u is = rw is refl
behind_property zero properties.First ws u is = rw is refl
behind_property zero properties.Last ws u is = rw is refl
behind_property zero properties.Ip ws u is = rw is refl
behind_property (suc k) properties.Len ws u is = rw is refl
behind_property (suc k) properties.First ws u is = rw is refl
behind_property (suc k) properties.Last ws u is = rw is refl
behind_property (suc k) properties.Ip ws u is = rw is refl

behind_method : (k : ℕ) (ws : List Word) → begins is_property ws ≡ false → behind_dot_at k ws ≡ and_then (method_at k ws) (λ t v. Parsed (Right t) v)
unfolding behind_dot_at method_at
behind_method zero [] none = refl
behind_method zero (w ∷ ws) none = rw none refl
behind_method (suc k) [] none = refl
behind_method (suc k) (w ∷ ws) none = rw none refl

pub behind_fails : (k : ℕ) (ws : List Word) (e : Refusal) → begins is_property ws ≡ false → AgreesOnError e (method_at k ws) → AgreesOnError e (behind_dot_at k ws)
behind_fails k ws e none failed = fails_along e (behind_dot_at k ws) _ (behind_method k ws none) (fails_then e (method_at k ws) (λ t v. Parsed (Right t) v) failed)

pub behind_got : (k : ℕ) (ws : List Word) (t : ParseTree) (rest : List Word) → begins is_property ws ≡ false → method_at k ws ≡ Parsed t rest → behind_dot_at k ws ≡ Parsed (Right t) rest
behind_got k ws t rest none got = behind_method k ws none ∙ rw got refl

pub method_bad : (k : ℕ) (ws : List Word) → begins is_method ws ≡ false → method_at k ws ≡ Failed Bad ws
unfolding method_at
method_bad zero [] none = refl
method_bad zero (w ∷ ws) none = rw none refl
method_bad (suc k) [] none = refl
method_bad (suc k) (w ∷ ws) none = rw none refl

method_passes : (at : ℕ) (kind : MethodKind) → is_method (kind_of (words.Placed at (method_symbol kind))) ≡ true
method_passes at methods.Prepend = refl
method_passes at methods.Add = refl
method_passes at methods.Delete = refl
method_passes at methods.Filter = refl

method_is : (k : ℕ) (m : Method) (ws u : List Word) → ws ≡ method_word m ∷ u → method_at k ws ≡ and_then (level_at argument_level k u) (λ a v. Parsed (Pair (Leaf (method_word m)) a) v)
unfolding method_at level_at
method_is zero m ws u is = rw (is, method_passes m.at m.kind) refl
method_is (suc k) m ws u is = rw (is, method_passes m.at m.kind) refl

pub method_fails : (k : ℕ) (m : Method) (ws u : List Word) (e : Refusal) → ws ≡ method_word m ∷ u → AgreesOnError e (level_at argument_level k u) → AgreesOnError e (method_at k ws)
method_fails k m ws u e is failed = fails_along e (method_at k ws) _ (method_is k m ws u is) (fails_then e (level_at argument_level k u) (λ a v. Parsed (Pair (Leaf (method_word m)) a) v) failed)

pub method_got : (k place : ℕ) (m : Method) (ws u : List Word) (t : ParseTree) (rest : List Word) → ws ≡ method_word m ∷ u → level_at argument_level k u ≡ Parsed (in_parentheses place t) rest → method_at k ws ≡ Parsed (method_tree m place t) rest
method_got k place m ws u t rest is got = method_is k m ws u is ∙ rw got refl

-- ---- calls

pub named_none : (k : ℕ) (n : Name) (ws : List Word) → begins (symbol symbols.OpenParenthesis) ws ≡ false → named_at k n ws ≡ Parsed (named_tree n (Right NoWords)) ws
unfolding named_at call_at
named_none zero n [] none = refl
named_none (suc k) n [] none = refl
named_none zero n (w ∷ ws) none = rw none refl
named_none (suc k) n (w ∷ ws) none = rw none refl

call_some : (k at : ℕ) (n : Name) (ws u : List Word) → ws ≡ words.Placed at symbols.OpenParenthesis ∷ u → named_at k n ws ≡ and_then (and_then (level_at arguments_level k ws) (λ t v. Parsed (Left t) v)) (λ c rest. Parsed (Right (Left (Pair (name_leaf n) c))) rest)
unfolding named_at call_at level_at
call_some zero at n ws u is = rw is refl
call_some (suc k) at n ws u is = rw is refl

pub named_fails : (k at : ℕ) (n : Name) (ws u : List Word) (e : Refusal) → ws ≡ words.Placed at symbols.OpenParenthesis ∷ u → AgreesOnError e (level_at arguments_level k ws) → AgreesOnError e (named_at k n ws)
named_fails k at n ws u e is failed =
    fails_along e (named_at k n ws) _ (call_some k at n ws u is)
    (fails_then e (and_then (level_at arguments_level k ws) (λ t v. Parsed (Left t) v)) (λ c rest. Parsed (Right (Left (Pair (name_leaf n) c))) rest) (fails_then e (level_at arguments_level k ws) (λ t v. Parsed (Left t) v) failed))

pub named_got : (k at : ℕ) (n : Name) (ws u : List Word) (t : ParseTree) (rest : List Word) → ws ≡ words.Placed at symbols.OpenParenthesis ∷ u → level_at arguments_level k ws ≡ Parsed t rest → named_at k n ws ≡ Parsed (named_tree n (Left t)) rest
named_got k at n ws u t rest is got = call_some k at n ws u is ∙ rw got refl

-- ---- arguments

arguments_none : (k : ℕ) (ws end : List Word) → ws ≡ words.Symbol symbols.CloseParenthesis ∷ end → inside_at arguments_level k ws ≡ Parsed (Right NoWords) ws
unfolding inside_at
arguments_none zero ws end is = rw is refl
arguments_none (suc k) ws end is = rw is refl

pub arguments_empty : (k b at : ℕ) (ws u end : List Word) → b + 1 ≡ k → ws ≡ words.Placed at symbols.OpenParenthesis ∷ u → u ≡ words.Symbol symbols.CloseParenthesis ∷ end → level_at arguments_level k ws ≡ Parsed (in_parentheses at (Right NoWords)) end
arguments_empty k b at ws u end below is close = level_got arguments_level k b at ws u (Right NoWords) u end below is (arguments_none b u end close) close

arguments_start : (k : ℕ) (ws : List Word) → begins (first_set expr) ws ≡ true → inside_at arguments_level k ws ≡ and_then (and_then (expr_at k ws) (λ a rest. links (symbol symbols.Comma) (expr_at k) (Single a) rest)) (λ t v. Parsed (Left t) v)
unfolding inside_at expr_at links
arguments_start zero ws starts_here = let here : begins (first_set (listed expr)) ws ≡ true = begins_none (first_set expr) ws ∙ starts_here in rw here refl
arguments_start (suc k) ws starts_here = let here : begins (first_set (listed expr)) ws ≡ true = begins_none (first_set expr) ws ∙ starts_here in rw here refl

arguments_no_start : (k : ℕ) (ws : List Word) → begins (first_set expr) ws ≡ false → inside_at arguments_level k ws ≡ Parsed (Right NoWords) ws
unfolding inside_at
arguments_no_start zero ws no_start_here = let here : begins (first_set (listed expr)) ws ≡ false = begins_none (first_set expr) ws ∙ no_start_here in rw here refl
arguments_no_start (suc k) ws no_start_here = let here : begins (first_set (listed expr)) ws ≡ false = begins_none (first_set expr) ws ∙ no_start_here in rw here refl

expr_begun : (k : ℕ) (ws : List Word) (t : ParseTree) (rest : List Word) → expr_at k ws ≡ Parsed t rest → begins (first_set expr) ws ≡ true
unfolding expr_at
expr_begun k ws t rest got = shapes.begun rule model after checked k expr expr_ok refl ws t rest got

pub expr_refused : (k : ℕ) (ws : List Word) → begins (first_set expr) ws ≡ false → expr_at k ws ≡ Failed Bad ws
unfolding expr_at
expr_refused k ws none = shapes.refuses rule model after checked k expr expr_ok refl ws none

pub arguments_some : (k : ℕ) (ws : List Word) (a : ParseTree) (rest : List Word) → expr_at k ws ≡ Parsed a rest → inside_at arguments_level k ws ≡ and_then (links (symbol symbols.Comma) (expr_at k) (Single a) rest) (λ t v. Parsed (Left t) v)
arguments_some k ws a rest got = arguments_start k ws (expr_begun k ws a rest got) ∙ rw got refl

-- what begins no expression and isn't the closing parenthesis either is refused
pub arguments_fail : (k b at : ℕ) (ws u : List Word) (e : Refusal) → b + 1 ≡ k → ws ≡ words.Placed at symbols.OpenParenthesis ∷ u → begins (symbol symbols.CloseParenthesis) u ≡ false → AgreesOnError e (expr_at b u) → AgreesOnError e (level_at arguments_level k ws)
arguments_fail k b at ws u e below is not_closed failed = elim (bool_cases (begins (first_set expr) u)) [
  | inl starts_here ↦
      level_inside_fails arguments_level k b at ws u e below is (fails_along e (inside_at arguments_level b u) _ (arguments_start b u starts_here)
      (fails_then e (and_then (expr_at b u) (λ a rest. links (symbol symbols.Comma) (expr_at b) (Single a) rest)) (λ t v. Parsed (Left t) v)
      (fails_then e (expr_at b u) (λ a rest. links (symbol symbols.Comma) (expr_at b) (Single a) rest) failed)))
  | inr none ↦
      let same : word (symbol symbols.CloseParenthesis) u ≡ expr_at b u = word_bad (symbol symbols.CloseParenthesis) u not_closed ∙ sym (expr_refused b u none) in
      level_end_fails arguments_level k b at ws u (Right NoWords) u e below is (arguments_no_start b u none) (fails_along e (word (symbol symbols.CloseParenthesis) u) (expr_at b u) same failed)
]

pub expr_same : (k : ℕ) (ws : List Word) → read rule k expr ws ≡ expr_at k ws
unfolding expr_at
expr_same k ws = refl

-- ---- what is no attribute

closed_bad : (first : Word) (close : Symbol) (r : Reader) (u : List Word) → r u ≡ Failed Bad u → closed first r close u ≡ Failed Bad u
unfolding closed
closed_bad first close r u bad = rw bad refl

pub level_attribute_bad : (k b at : ℕ) (ws u : List Word) → b + 1 ≡ k → ws ≡ words.Placed at symbols.OpenParenthesis ∷ u → begins is_attribute u ≡ false → level_at attribute_level k ws ≡ Failed Bad u
level_attribute_bad k b at ws u below is none = level_is attribute_level k b at ws u below is ∙ closed_bad (words.Placed at symbols.OpenParenthesis) symbols.CloseParenthesis (inside_at attribute_level b) u (attribute_inside b u ∙ word_bad is_attribute u none)
