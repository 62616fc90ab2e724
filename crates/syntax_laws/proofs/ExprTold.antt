-- Each tree of an expression is the view of one.
use Rattle.std.proofs.Common.{◌≡◌, ℕ, zero, suc, ◌≤◌, ◌<◌, ◌^◌, Bool, true, List, [], ◌∷◌, ◌++◌, length, map, refl, sym, ap, subst, ◌∙◌, arith, inl, inr, Box, Vec}
use Rattle.std.proofs.lemmas.List.{length-append}
use Rattle.std.specs.Global.{Global}
use denote.RawPtr.{null_ptr}
use Rattle.conf_lex.specs.declared.symbol.Symbol.TheVariants as symbols
use Rattle.conf_lex.specs.declared.word.Word.{Word}
use Rattle.conf_lex.specs.declared.word.Word.TheVariants as words
use Rattle.conf_lex.specs.Kind.{Kind, kind_of, symbol, name, is_attribute}
use Rattle.conf_lex.specs.Grammar.{Terminal, Seq, Alt, Repeat, Nested, ParseTree, Leaf, NoWords, Pair, Left, Right, Single, Snoc, yield, DerivesLongest}
use Rattle.conf_lex.specs.Leaves.{symbol_leaf, name_leaf, between}
use Rattle.syntax_laws.proofs.Parts.{size, Small, more_room, chain_small, part_small, start_small, some_size, placed_word, one_is, seq_is, either_is, nest_is, symbol_is, placed_is, name_is, optional_is}
use Rattle.syntax_laws.proofs.Rows.{Seen, Some as Some_row, both_of, more_of, inside_of, listed_told}
use Rattle.conf_ast.specs.declared.filters.Access.{Access}
use Rattle.conf_ast.specs.declared.filters.Access.TheVariants as accesses
use Rattle.conf_ast.specs.declared.filters.MulOp.{MulOp}
use Rattle.conf_ast.specs.declared.filters.AddOp.{AddOp}
use Rattle.conf_ast.specs.declared.filters.LogicalOp.{LogicalOp}
use Rattle.conf_ast.specs.declared.filters.Method.{Method}
use Rattle.conf_ast.specs.declared.filters.Expr.{Expr}
use Rattle.conf_ast.specs.declared.filters.Expr.TheVariants as exprs
use Rattle.expr_syntax.specs.Syntax.{rule, optional, listed, many, mask_item, is_atom, is_method, is_property, is_mul_op, is_add_op, is_compare_op, is_logical_op, call, named, group, set, mask, of_attribute, defined, method_call, method, access}
use Rattle.expr_syntax.specs.Levels.{Form, group_level, operand_level, arguments_level, set_level, argument_level, two_level, attribute_level}
use Rattle.expr_syntax.specs.Syntax.{primary, postfix, unary, product, sum, comparison, expr}
use Rattle.expr_syntax.specs.ItemView.{mask_items_tree}
use Rattle.expr_syntax.specs.View.{Derivations, derivations, as_primary, alone, parts_after, chain_of, in_parentheses, second_part, arguments_tree, listed_tree, property_tree, method_word, method_tree, compare_op_symbol, mul_op_symbol, add_op_symbol, logical_op_symbol, expr_tree, expr_trees}
use Rattle.expr_syntax.specs.Inside.{access_of, mul_op_of, add_op_of, logical_op_of}
use Rattle.expr_syntax.proofs.Tested.{solid_at}
use Rattle.expr_syntax.proofs.Derived.{lifts, derivations-Atom, derivations-Name, derivations-Call, derivations-Group, derivations-Pair, derivations-Set, derivations-Mask, derivations-Defined, derivations-MethodCall, derivations-Not, derivations-Product, derivations-Sum, derivations-Compare, derivations-Logical, derivations-Postfix, one_more, chain_some, one_more_expr, arguments_listed}
use Rattle.syntax_laws.proofs.SortsOfWords.{attribute_is, atom_is, property_is, method_is, mul_op_is, add_op_is, compare_op_is, logical_op_is}
use Rattle.syntax_laws.proofs.ItemsTold.{between_is, comma_told, items_told, mask_told}

-- ---- values in memory

abbrev pub heap : Global
heap = record { memory = record { seal = tt } }

abbrev pub boxed : {X : Type 0} → X → Box X Global
boxed x = record { ptr = null_ptr; alloc = heap; value = x }

-- a list of these items
abbrev pub vec : {X : Type 0} (xs : List X) → length xs < 2 ^ 63 → Vec X Global
vec xs few = record { ptr = null_ptr; len = length xs; cap = length xs; alloc = heap; items = xs; ok = (refl, omega arith); small = few }

-- ---- expressions that are seen as a tree

pub record Told (view : Derivations → ParseTree) (precedence : ℕ) (t : ParseTree) : Type 0 where
  pub value : Expr
  pub seen : view (derivations value) ≡ t
  pub least : (derivations value).precedence ≤ precedence

abbrev IsPrim : ParseTree → Type 0
IsPrim t = Told (λ s. s.primary) 0 t

abbrev IsPost : ParseTree → Type 0
IsPost t = Told (λ s. s.postfix) 1 t

abbrev IsUnary : ParseTree → Type 0
IsUnary t = Told (λ s. s.unary) 2 t

abbrev IsProd : ParseTree → Type 0
IsProd t = Told (λ s. s.product) 3 t

abbrev IsSum : ParseTree → Type 0
IsSum t = Told (λ s. s.sum) 4 t

abbrev IsCmp : ParseTree → Type 0
IsCmp t = Told (λ s. s.comparison) 5 t

abbrev IsExpr : ParseTree → Type 0
IsExpr t = Seen expr_tree t

told_by : (view : Derivations → ParseTree) (precedence : ℕ) (t : ParseTree) (e : Expr) (s : Derivations) → derivations e ≡ s → s.precedence ≤ precedence → view s ≡ t → Told view precedence t
told_by view precedence t e s is low same = record { value = e; seen = ap view is ∙ same; least = subst (λ (x : Derivations). x.precedence ≤ precedence) (sym is) low }

primary_by : (t u : ParseTree) (e : Expr) → derivations e ≡ as_primary u → u ≡ t → IsPrim t
primary_by t u e is same = told_by (λ s. s.primary) 0 t e (as_primary u) is (omega arith) same

-- ---- a form is also each greater form

postfix_of : (t a : ParseTree) → IsPrim a → Single a ≡ t → IsPost t
postfix_of t a x same = record { value = x.value; seen = (lifts x.value).postfix x.least ∙ ap (λ (u : ParseTree). Single u) x.seen ∙ same; least = omega (arith, x.least) }

unary_of : (t a : ParseTree) → IsPost a → Right a ≡ t → IsUnary t
unary_of t a x same = record { value = x.value; seen = (lifts x.value).unary x.least ∙ ap (λ (u : ParseTree). Right u) x.seen ∙ same; least = omega (arith, x.least) }

product_of : (t a : ParseTree) → IsUnary a → Single a ≡ t → IsProd t
product_of t a x same = record { value = x.value; seen = (lifts x.value).product x.least ∙ ap (λ (u : ParseTree). Single u) x.seen ∙ same; least = omega (arith, x.least) }

sum_of : (t a : ParseTree) → IsProd a → Single a ≡ t → IsSum t
sum_of t a x same = record { value = x.value; seen = (lifts x.value).sum x.least ∙ ap (λ (u : ParseTree). Single u) x.seen ∙ same; least = omega (arith, x.least) }

comparison_of : (t a : ParseTree) → IsSum a → alone a ≡ t → IsCmp t
comparison_of t a x same = record { value = x.value; seen = (lifts x.value).comparison x.least ∙ ap (λ (u : ParseTree). alone u) x.seen ∙ same; least = omega (arith, x.least) }

expr_of : (t a : ParseTree) → IsCmp a → Single a ≡ t → IsExpr t
expr_of t a x same = (x.value, (lifts x.value).expr x.least ∙ ap (λ (u : ParseTree). Single u) x.seen ∙ same)

-- ---- chains

-- the first of a chain, and the parts behind it
pub record Gathered (n : ℕ) {X : Type 0} (part : X → Word × ParseTree) (f : Form) (t : ParseTree) : Type 0 where
  pub first : ParseTree
  pub items : List X
  pub small : Small n first
  pub fits : DerivesLongest rule first f
  pub seen : parts_after (Single first) (map part items) ≡ t
  pub few : length items ≤ length (yield t)

part_words : (w : Word) (u b : ParseTree) → Pair (Leaf w) u ≡ b → 1 ≤ length (yield b)
part_words w u b e = omega (arith, ap (λ (x : ParseTree). length (yield x)) e)

gather : (n : ℕ) {X : Type 0} (part : X → Word × ParseTree) (f g : Form) → ((b : ParseTree) → Small n b → DerivesLongest rule b g → (x : X) × (Pair (Leaf (part x).0) (part x).1 ≡ b)) → (t : ParseTree) → Small (suc n) t → DerivesLongest rule t (Repeat f g) → Gathered n part f t
gather n part f g told (Single a) s h = record { first = a; items = []; small = start_small n a s; fits = h; seen = refl; few = omega arith }
gather n part f g told (Snoc t b) s h =
    let r = gather n part f g told t (more_room n t (chain_small n t b s)) h.0 in
    let x = told b (part_small n t b s) h.1 in
    record {
      first = r.first;
      items = r.items ++ x.0 ∷ [];
      small = r.small;
      fits = r.fits;
      seen = one_more part (Single r.first) r.items x.0 ∙ more_of (parts_after (Single r.first) (map part r.items)) (Pair (Leaf (part x.0).0) (part x.0).1) t b r.seen x.1;
      few = omega (arith, r.few, length-append r.items (x.0 ∷ []), length-append (yield t) (yield b), part_words (part x.0).0 (part x.0).1 b x.1);
    }
gather n part f g told _ s h = absurd h

some_items : {X : Type 0} (x : X) (xs : List X) → length (x ∷ xs) ≡ 0 → ⊥
some_items x xs e = omega (arith, e)

-- the tree of a chain with parts, by what its first is seen as
chain_seen : {X : Type 0} (part : X → Word × ParseTree) (first view : ParseTree) (x : X) (xs : List X) (t : ParseTree) → view ≡ first → parts_after (Single first) (map part (x ∷ xs)) ≡ t → chain_of (Single view) (map part (x ∷ xs)) ≡ t
chain_seen part first view x xs t is seen = chain_some part (Single view) (x ∷ xs) (some_items x xs) ∙ ap (λ (u : ParseTree). parts_after (Single u) (map part (x ∷ xs))) is ∙ seen

-- ---- what is known of smaller trees

pub record Levels (n : ℕ) : Type 0 where
  pub to_primary : (t : ParseTree) → Small n t → DerivesLongest rule t primary → IsPrim t
  pub to_postfix : (t : ParseTree) → Small n t → DerivesLongest rule t postfix → IsPost t
  pub to_unary : (t : ParseTree) → Small n t → DerivesLongest rule t unary → IsUnary t
  pub to_product : (t : ParseTree) → Small n t → DerivesLongest rule t product → IsProd t
  pub to_sum : (t : ParseTree) → Small n t → DerivesLongest rule t sum → IsSum t
  pub to_comparison : (t : ParseTree) → Small n t → DerivesLongest rule t comparison → IsCmp t
  pub to_expr : (t : ParseTree) → Small n t → DerivesLongest rule t expr → IsExpr t

-- a sign and what stands behind it
sign_part : (n : ℕ) {X Y : Type 0} (p : Kind → Bool) (f : Form) (word : X → Word) (view : Y → ParseTree) → ((w : Word) → p (kind_of w) ≡ true → (x : X) × (w ≡ word x)) → ((b : ParseTree) → Small n b → DerivesLongest rule b f → Seen view b) → (b : ParseTree) → Small n b → DerivesLongest rule b (Seq (Terminal p) f) → (z : X × Y) × (Pair (Leaf (word z.0)) (view z.1) ≡ b)
sign_part n p f word view sort told b s h =
    let q = seq_is rule n b (Terminal p) f (more_room n b s) h in
    let w = one_is rule q.left p q.left_fits in
    let x = sort w.word w.passes in
    let y = told q.right q.right_small q.right_fits in
    ((x.0, y.0), both_of (Leaf (word x.0)) (view y.0) q.left q.right (sym (w.is ∙ ap (λ (u : Word). Leaf u) x.1)) y.1 ∙ sym q.is)

-- ---- each level, from what is known of smaller trees

module _ (n : ℕ) (known : Levels n) where
  expr_next : (t : ParseTree) → Small (suc n) t → DerivesLongest rule t expr → IsExpr t
  expr_next t s h =
      let told = sign_part n is_logical_op comparison (λ j. words.Symbol (logical_op_symbol j)) (λ e. (derivations e).comparison) logical_op_is (λ b r f. let x = known.to_comparison b r f in (x.value, x.seen)) in
      let g = gather n logical_op_of comparison (Seq (Terminal is_logical_op) comparison) told t s h in
      by_items g.items g.first g.small g.fits g.seen g.few
    where
      by_items : (xs : List (LogicalOp × Expr)) (a : ParseTree) → Small n a → DerivesLongest rule a comparison → parts_after (Single a) (map logical_op_of xs) ≡ t → length xs ≤ length (yield t) → IsExpr t
      by_items [] a small fits seen few = expr_of t a (known.to_comparison a small fits) seen
      by_items (x ∷ xs) a small fits seen few =
          let first = known.to_comparison a small fits in
          let v = vec (x ∷ xs) (omega (arith, few, s.short)) in
          (exprs.Logical (boxed first.value) v, ap (λ (u : Derivations). u.expr) (derivations-Logical (boxed first.value) v) ∙ chain_seen logical_op_of a (derivations first.value).comparison x xs t first.seen seen)

  comparison_next : (t : ParseTree) → Small (suc n) t → DerivesLongest rule t comparison → IsCmp t
  comparison_next t s h =
      let p = seq_is rule n t sum (optional (Seq (Terminal is_compare_op) sum)) s h in
      let a = known.to_sum p.left p.left_small p.left_fits in
      elim (optional_is rule n p.right (Seq (Terminal is_compare_op) sum) (more_room n p.right p.right_small) p.right_fits) [
        | inl o ↦
            let b = sign_part n is_compare_op sum (λ c. words.Symbol (compare_op_symbol c)) (λ e. (derivations e).sum) compare_op_is (λ u r f. let x = known.to_sum u r f in (x.value, x.seen)) o.part o.small o.fits in
            told_by (λ u. u.comparison) 5 t (exprs.Compare b.0.0 (boxed a.value) (boxed b.0.1)) _ (derivations-Compare b.0.0 (boxed a.value) (boxed b.0.1)) (omega arith)
            (both_of (derivations a.value).sum (Left (Pair (symbol_leaf (compare_op_symbol b.0.0)) (derivations b.0.1).sum)) p.left p.right a.seen (ap (λ (u : ParseTree). Left u) b.1 ∙ sym o.is) ∙ sym p.is)
        | inr none ↦ comparison_of t p.left a (both_of p.left (Right NoWords) p.left p.right refl (sym none) ∙ sym p.is)
      ]

  sum_next : (t : ParseTree) → Small (suc n) t → DerivesLongest rule t sum → IsSum t
  sum_next t s h =
      let told = sign_part n is_add_op product (λ j. words.Symbol (add_op_symbol j)) (λ e. (derivations e).product) add_op_is (λ b r f. let x = known.to_product b r f in (x.value, x.seen)) in
      let g = gather n add_op_of product (Seq (Terminal is_add_op) product) told t s h in
      by_items g.items g.first g.small g.fits g.seen g.few
    where
      by_items : (xs : List (AddOp × Expr)) (a : ParseTree) → Small n a → DerivesLongest rule a product → parts_after (Single a) (map add_op_of xs) ≡ t → length xs ≤ length (yield t) → IsSum t
      by_items [] a small fits seen few = sum_of t a (known.to_product a small fits) seen
      by_items (x ∷ xs) a small fits seen few =
          let first = known.to_product a small fits in
          let v = vec (x ∷ xs) (omega (arith, few, s.short)) in
          told_by (λ u. u.sum) 4 t (exprs.Sum (boxed first.value) v) _ (derivations-Sum (boxed first.value) v) (omega arith) (chain_seen add_op_of a (derivations first.value).product x xs t first.seen seen)

  product_next : (t : ParseTree) → Small (suc n) t → DerivesLongest rule t product → IsProd t
  product_next t s h =
      let told = sign_part n is_mul_op unary (λ j. words.Symbol (mul_op_symbol j)) (λ e. (derivations e).unary) mul_op_is (λ b r f. let x = known.to_unary b r f in (x.value, x.seen)) in
      let g = gather n mul_op_of unary (Seq (Terminal is_mul_op) unary) told t s h in
      by_items g.items g.first g.small g.fits g.seen g.few
    where
      by_items : (xs : List (MulOp × Expr)) (a : ParseTree) → Small n a → DerivesLongest rule a unary → parts_after (Single a) (map mul_op_of xs) ≡ t → length xs ≤ length (yield t) → IsProd t
      by_items [] a small fits seen few = product_of t a (known.to_unary a small fits) seen
      by_items (x ∷ xs) a small fits seen few =
          let first = known.to_unary a small fits in
          let v = vec (x ∷ xs) (omega (arith, few, s.short)) in
          told_by (λ u. u.product) 3 t (exprs.Product (boxed first.value) v) _ (derivations-Product (boxed first.value) v) (omega arith) (chain_seen mul_op_of a (derivations first.value).unary x xs t first.seen seen)

  unary_next : (t : ParseTree) → Small (suc n) t → DerivesLongest rule t unary → IsUnary t
  unary_next t s h = elim (either_is rule n t (Nested (symbol symbols.Not) operand_level) postfix s h) [
    | inl a ↦
        let i = nest_is rule n a.part (symbol symbols.Not) operand_level (more_room n a.part a.small) a.fits in
        let w = placed_word i.word symbols.Not refl i.passes in
        let x = known.to_unary i.part i.small i.fits in
        told_by (λ u. u.unary) 2 t (exprs.Not w.0 (boxed x.value)) _ (derivations-Not w.0 (boxed x.value)) (omega arith)
        (ap (λ (u : ParseTree). Left u) (inside_of (words.Placed w.0 symbols.Not) i.word (derivations x.value).unary i.part (sym w.1) x.seen ∙ sym i.is) ∙ sym a.is)
    | inr b ↦ unary_of t b.part (known.to_postfix b.part b.small b.fits) (sym b.is)
  ]

  -- a method and its argument
  pub method_told : (t : ParseTree) → Small n t → DerivesLongest rule t method → (m : Method) × (at : ℕ) × (e : Expr) × (method_tree m at (derivations e).expr ≡ t)
  method_told t s h =
      let argument = Seq (Nested (symbol symbols.OpenParenthesis) argument_level) (Terminal (symbol symbols.CloseParenthesis)) in
      let p = seq_is rule n t (Terminal is_method) argument (more_room n t s) h in
      let w = one_is rule p.left is_method p.left_fits in
      let m = method_is w.word w.passes in
      let i = between_is n symbols.OpenParenthesis symbols.CloseParenthesis argument_level p.right refl refl (more_room n p.right p.right_small) p.right_fits in
      let e = known.to_expr i.inner i.small i.fits in (
        m.0,
        i.at,
        e.0,
        both_of (Leaf (method_word m.0)) (in_parentheses i.at (derivations e.0).expr) p.left p.right (sym (w.is ∙ ap (λ (u : Word). Leaf u) m.1)) (ap (λ (u : ParseTree). in_parentheses i.at u) e.1 ∙ sym i.is) ∙ sym p.is,
      )

  access_told : (b : ParseTree) → Small n b → DerivesLongest rule b access → (x : Access Expr) × (Pair (Leaf (access_of x).0) (access_of x).1 ≡ b)
  access_told b s h =
      let p = seq_is rule n b (Terminal (symbol symbols.Dot)) (Alt (Terminal is_property) method) (more_room n b s) h in
      let dot = symbol_is rule p.left symbols.Dot refl p.left_fits in
      elim (either_is rule n p.right (Terminal is_property) method (more_room n p.right p.right_small) p.right_fits) [
        | inl a ↦
            let w = one_is rule a.part is_property a.fits in
            let x = property_is w.word w.passes in
            (accesses.Property x.0, both_of (symbol_leaf symbols.Dot) (property_tree x.0) p.left p.right (sym dot) (ap (λ (u : ParseTree). Left u) (sym (w.is ∙ ap (λ (u : Word). Leaf u) x.1)) ∙ sym a.is) ∙ sym p.is)
        | inr c ↦
            let m = method_told c.part c.small c.fits in
            (accesses.Method m.0 m.1 m.2, both_of (symbol_leaf symbols.Dot) (Right (method_tree m.0 m.1 (derivations m.2).expr)) p.left p.right (sym dot) (ap (λ (u : ParseTree). Right u) m.3 ∙ sym c.is) ∙ sym p.is)
      ]

  postfix_next : (t : ParseTree) → Small (suc n) t → DerivesLongest rule t postfix → IsPost t
  postfix_next t s h =
      let g = gather n access_of primary access access_told t s h in
      by_items g.items g.first g.small g.fits g.seen g.few
    where
      by_items : (xs : List (Access Expr)) (a : ParseTree) → Small n a → DerivesLongest rule a primary → parts_after (Single a) (map access_of xs) ≡ t → length xs ≤ length (yield t) → IsPost t
      by_items [] a small fits seen few = postfix_of t a (known.to_primary a small fits) seen
      by_items (x ∷ xs) a small fits seen few =
          let first = known.to_primary a small fits in
          let v = vec (x ∷ xs) (omega (arith, few, s.short)) in
          told_by (λ u. u.postfix) 1 t (exprs.Postfix (boxed first.value) v) _ (derivations-Postfix (boxed first.value) v) (omega arith) (chain_seen access_of a (derivations first.value).primary x xs t first.seen seen)

  -- one or more, between commas
  pub exprs_told : (t : ParseTree) → Small (suc n) t → DerivesLongest rule t (listed expr) → Some_row (λ (es : List Expr). listed_tree (expr_trees es)) t
  exprs_told t s h = listed_told rule n expr (solid_at expr refl) refl expr_tree known.to_expr (λ (es : List Expr). listed_tree (expr_trees es)) (λ e. refl) one_more_expr t s h

  -- arguments in their parentheses
  pub record Arguments (t : ParseTree) : Type 0 where
    pub at : ℕ
    pub values : Vec Expr Global
    pub seen : in_parentheses at (arguments_tree (expr_trees values.items)) ≡ t

  pub arguments_told : (t : ParseTree) → Small (suc n) t → DerivesLongest rule t call → Arguments t
  arguments_told t s h =
      let i = between_is n symbols.OpenParenthesis symbols.CloseParenthesis arguments_level t refl refl s h in
      elim (optional_is rule n i.inner (listed expr) (more_room n i.inner i.small) i.fits) [
        | inl a ↦
            let r = exprs_told a.part (more_room n a.part a.small) a.fits in
            record {
              at = i.at;
              values = vec r.items (omega (arith, r.few, a.small.short));
              seen = ap (λ (u : ParseTree). in_parentheses i.at u) (arguments_listed r.items r.some ∙ ap (λ (u : ParseTree). Left u) r.seen ∙ sym a.is) ∙ sym i.is;
            }
        | inr none ↦ record { at = i.at; values = vec [] (omega arith); seen = ap (λ (u : ParseTree). in_parentheses i.at u) (sym none) ∙ sym i.is }
      ]

  -- the kinds of primary expressions, under the signs that choose them
  named_next : (t u : ParseTree) → t ≡ Right (Left u) → Small n u → DerivesLongest rule u named → IsPrim t
  named_next t u is s h =
      let p = seq_is rule n u (Terminal name) (optional call) (more_room n u s) h in
      let m = name_is rule p.left p.left_fits in
      elim (optional_is rule n p.right call (more_room n p.right p.right_small) p.right_fits) [
        | inl a ↦
            let r = arguments_told a.part (more_room n a.part a.small) a.fits in
            primary_by t _ (exprs.Call m.0 r.at r.values) (derivations-Call m.0 r.at r.values)
            (ap (λ (v : ParseTree). Right (Left v)) (both_of (name_leaf m.0) (Left (in_parentheses r.at (arguments_tree (expr_trees r.values.items)))) p.left p.right (sym m.1) (ap (λ (v : ParseTree). Left v) r.seen ∙ sym a.is) ∙ sym p.is) ∙ sym is)
        | inr none ↦ primary_by t _ (exprs.Name m.0) (derivations-Name m.0) (ap (λ (v : ParseTree). Right (Left v)) (both_of (name_leaf m.0) (Right NoWords) p.left p.right (sym m.1) (sym none) ∙ sym p.is) ∙ sym is)
      ]

  group_next : (t u : ParseTree) → t ≡ Right (Right (Left u)) → Small n u → DerivesLongest rule u group → IsPrim t
  group_next t u is s h =
      let i = between_is n symbols.OpenParenthesis symbols.CloseParenthesis group_level u refl refl (more_room n u s) h in
      let p = seq_is rule n i.inner expr (optional (Seq (Terminal (symbol symbols.Comma)) expr)) (more_room n i.inner i.small) i.fits in
      let a = known.to_expr p.left p.left_small p.left_fits in
      elim (optional_is rule n p.right (Seq (Terminal (symbol symbols.Comma)) expr) (more_room n p.right p.right_small) p.right_fits) [
        | inl o ↦
            let q = seq_is rule n o.part (Terminal (symbol symbols.Comma)) expr (more_room n o.part o.small) o.fits in
            let b = known.to_expr q.right q.right_small q.right_fits in
            let second = ap (λ (v : ParseTree). Left v) (both_of (symbol_leaf symbols.Comma) (derivations b.0).expr q.left q.right (sym (symbol_is rule q.left symbols.Comma refl q.left_fits)) b.1 ∙ sym q.is) ∙ sym o.is in
            let inside = both_of (derivations a.0).expr (Left (second_part (derivations b.0).expr)) p.left p.right a.1 second ∙ sym p.is in
            primary_by t _ (exprs.Pair i.at (boxed a.0) (boxed b.0)) (derivations-Pair i.at (boxed a.0) (boxed b.0))
            (ap (λ (v : ParseTree). Right (Right (Left v))) (ap (λ (v : ParseTree). in_parentheses i.at v) inside ∙ sym i.is) ∙ sym is)
        | inr none ↦
            let inside = both_of (derivations a.0).expr (Right NoWords) p.left p.right a.1 (sym none) ∙ sym p.is in
            primary_by t _ (exprs.Group i.at (boxed a.0)) (derivations-Group i.at (boxed a.0)) (ap (λ (v : ParseTree). Right (Right (Left v))) (ap (λ (v : ParseTree). in_parentheses i.at v) inside ∙ sym i.is) ∙ sym is)
      ]

  set_next : (t u : ParseTree) → t ≡ Right (Right (Right (Left u))) → Small n u → DerivesLongest rule u set → IsPrim t
  set_next t u is s h =
      let i = between_is n symbols.OpenBracket symbols.CloseBracket set_level u refl refl (more_room n u s) h in
      let r = items_told n i.inner (more_room n i.inner i.small) i.fits in
      let v = vec r.items (omega (arith, r.few, i.small.short)) in
      primary_by t _ (exprs.Set i.at v) (derivations-Set i.at v) (ap (λ (x : ParseTree). Right (Right (Right (Left x)))) (ap (λ (x : ParseTree). between (words.Placed i.at symbols.OpenBracket) x symbols.CloseBracket) r.seen ∙ sym i.is) ∙ sym is)

  mask_next : (t u : ParseTree) → t ≡ Right (Right (Right (Right (Left u)))) → Small n u → DerivesLongest rule u mask → IsPrim t
  mask_next t u is s h =
      let p = seq_is rule n u (Seq (Terminal (symbol symbols.OpenMask)) (many mask_item)) (Terminal (symbol symbols.CloseMask)) (more_room n u s) h in
      let q = seq_is rule n p.left (Terminal (symbol symbols.OpenMask)) (many mask_item) (more_room n p.left p.left_small) p.left_fits in
      let first = placed_is rule q.left symbols.OpenMask refl q.left_fits in
      let last = symbol_is rule p.right symbols.CloseMask refl p.right_fits in
      let r = mask_told n q.right (more_room n q.right q.right_small) q.right_fits in
      let v = vec r.items (omega (arith, r.few, q.right_small.short)) in
      let front = both_of (Leaf (words.Placed first.0 symbols.OpenMask)) (mask_items_tree r.items) q.left q.right (sym first.1) r.seen ∙ sym q.is in
      let whole = both_of (Pair (Leaf (words.Placed first.0 symbols.OpenMask)) (mask_items_tree r.items)) (symbol_leaf symbols.CloseMask) p.left p.right front (sym last) ∙ sym p.is in
      primary_by t _ (exprs.Mask first.0 v) (derivations-Mask first.0 v) (ap (λ (x : ParseTree). Right (Right (Right (Right (Left x))))) whole ∙ sym is)

  -- an attribute in parentheses
  pub attribute_told : (t : ParseTree) → Small (suc n) t → DerivesLongest rule t of_attribute → (at attribute_at : ℕ) × (a : _) × (t ≡ in_parentheses at (Leaf (words.Attribute attribute_at a)))
  attribute_told t s h =
      let i = between_is n symbols.OpenParenthesis symbols.CloseParenthesis attribute_level t refl refl s h in
      let w = one_is rule i.inner is_attribute i.fits in
      let a = attribute_is w.word w.passes in
      (i.at, a.0, a.1, i.is ∙ ap (λ (u : ParseTree). in_parentheses i.at u) (w.is ∙ ap (λ (u : Word). Leaf u) a.2))

  defined_next : (t u : ParseTree) → t ≡ Right (Right (Right (Right (Right (Left u))))) → Small n u → DerivesLongest rule u defined → IsPrim t
  defined_next t u is s h =
      let p = seq_is rule n u (Terminal (symbol symbols.Defined)) of_attribute (more_room n u s) h in
      let first = placed_is rule p.left symbols.Defined refl p.left_fits in
      let a = attribute_told p.right (more_room n p.right p.right_small) p.right_fits in
      let whole = both_of (Leaf (words.Placed first.0 symbols.Defined)) (in_parentheses a.0 (Leaf (words.Attribute a.1 a.2))) p.left p.right (sym first.1) (sym a.3) ∙ sym p.is in
      primary_by t _ (exprs.Defined first.0 a.0 a.1 a.2) (derivations-Defined first.0 a.0 a.1 a.2) (ap (λ (x : ParseTree). Right (Right (Right (Right (Right (Left x)))))) whole ∙ sym is)

  method_call_next : (t u : ParseTree) → t ≡ Right (Right (Right (Right (Right (Right u))))) → Small n u → DerivesLongest rule u method_call → IsPrim t
  method_call_next t u is s h =
      let p = seq_is rule n u (Terminal is_method) (Seq (Nested (symbol symbols.OpenParenthesis) two_level) (Terminal (symbol symbols.CloseParenthesis))) (more_room n u s) h in
      let w = one_is rule p.left is_method p.left_fits in
      let m = method_is w.word w.passes in
      let i = between_is n symbols.OpenParenthesis symbols.CloseParenthesis two_level p.right refl refl (more_room n p.right p.right_small) p.right_fits in
      let c = comma_told n expr expr expr_tree expr_tree known.to_expr known.to_expr i.inner (more_room n i.inner i.small) i.fits in
      let whole = both_of (Leaf (method_word m.0)) (in_parentheses i.at (Pair (derivations c.first).expr (second_part (derivations c.second).expr))) p.left p.right (sym (w.is ∙ ap (λ (v : Word). Leaf v) m.1)) (ap (λ (v : ParseTree). in_parentheses i.at v) c.seen ∙ sym i.is) ∙ sym p.is in
      primary_by t _ (exprs.MethodCall m.0 i.at (boxed c.first) (boxed c.second)) (derivations-MethodCall m.0 i.at (boxed c.first) (boxed c.second)) (ap (λ (x : ParseTree). Right (Right (Right (Right (Right (Right x)))))) whole ∙ sym is)

  primary_next : (t : ParseTree) → Small (suc n) t → DerivesLongest rule t primary → IsPrim t
  primary_next t s h = elim (either_is rule n t (Terminal is_atom) (Alt named (Alt group (Alt set (Alt mask (Alt defined method_call))))) s h) [
    | inl a ↦
        let w = one_is rule a.part is_atom a.fits in
        let x = atom_is w.word w.passes in
        primary_by t _ (exprs.Atom x.0) (derivations-Atom x.0) (ap (λ (u : ParseTree). Left u) (sym (w.is ∙ ap (λ (u : Word). Leaf u) x.1)) ∙ sym a.is)
    | inr b ↦ elim (either_is rule n b.part named (Alt group (Alt set (Alt mask (Alt defined method_call)))) (more_room n b.part b.small) b.fits) [
      | inl a ↦ named_next t a.part (b.is ∙ ap (λ (u : ParseTree). Right u) a.is) a.small a.fits
      | inr c ↦
          let at2 = b.is ∙ ap (λ (u : ParseTree). Right u) c.is in
          elim (either_is rule n c.part group (Alt set (Alt mask (Alt defined method_call))) (more_room n c.part c.small) c.fits) [
            | inl a ↦ group_next t a.part (at2 ∙ ap (λ (u : ParseTree). Right (Right u)) a.is) a.small a.fits
            | inr d ↦
                let at3 = at2 ∙ ap (λ (u : ParseTree). Right (Right u)) d.is in
                elim (either_is rule n d.part set (Alt mask (Alt defined method_call)) (more_room n d.part d.small) d.fits) [
                  | inl a ↦ set_next t a.part (at3 ∙ ap (λ (u : ParseTree). Right (Right (Right u))) a.is) a.small a.fits
                  | inr e ↦
                      let at4 = at3 ∙ ap (λ (u : ParseTree). Right (Right (Right u))) e.is in
                      elim (either_is rule n e.part mask (Alt defined method_call) (more_room n e.part e.small) e.fits) [
                        | inl a ↦ mask_next t a.part (at4 ∙ ap (λ (u : ParseTree). Right (Right (Right (Right u)))) a.is) a.small a.fits
                        | inr f ↦
                            let at5 = at4 ∙ ap (λ (u : ParseTree). Right (Right (Right (Right u)))) f.is in
                            elim (either_is rule n f.part defined method_call (more_room n f.part f.small) f.fits) [
                              | inl a ↦ defined_next t a.part (at5 ∙ ap (λ (u : ParseTree). Right (Right (Right (Right (Right u))))) a.is) a.small a.fits
                              | inr g ↦ method_call_next t g.part (at5 ∙ ap (λ (u : ParseTree). Right (Right (Right (Right (Right u))))) g.is) g.small g.fits
                            ]
                      ]
                ]
          ]
    ]
  ]

  levels_next : Levels (suc n)
  levels_next = record { to_primary = primary_next; to_postfix = postfix_next; to_unary = unary_next; to_product = product_next; to_sum = sum_next; to_comparison = comparison_next; to_expr = expr_next }

none_small : {A : Type 0} (t : ParseTree) → Small 0 t → A
none_small t s = absurd (omega (arith, s.parts, some_size t))

pub levels : (n : ℕ) → Levels n
levels zero = record { to_primary = λ t s h. none_small t s; to_postfix = λ t s h. none_small t s; to_unary = λ t s h. none_small t s; to_product = λ t s h. none_small t s; to_sum = λ t s h. none_small t s; to_comparison = λ t s h. none_small t s; to_expr = λ t s h. none_small t s }
levels (suc n) = levels_next n (levels n)

pub expression_of : (t : ParseTree) → DerivesLongest rule t expr → length (yield t) < 2 ^ 63 → IsExpr t
expression_of t h short = (levels (size t)).to_expr t (record { parts = omega arith; short = short }) h
