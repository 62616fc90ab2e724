-- Each tree of a statement is the view of one.
use Rattle.std.proofs.Common.{◌≡◌, ℕ, zero, suc, ◌<◌, ◌^◌, true, false, ◌||◌, List, [], ◌∷◌, length, Option, Some, None, refl, sym as flip, ap, ◌∙◌, arith, inl, inr, Vec}
use Rattle.std.proofs.lemmas.Bool.{false≢true}
use Rattle.std.specs.Global.{Global}
use Rattle.conf_lex.specs.declared.symbol.Symbol.{Symbol}
use Rattle.conf_lex.specs.declared.symbol.Symbol.TheVariants as sym
use Rattle.conf_lex.specs.declared.word.Word.{Word}
use Rattle.conf_lex.specs.declared.word.Word.TheVariants as words
use Rattle.conf_lex.specs.Symbols.{is_placed}
use Rattle.conf_lex.specs.Kind.{kind_of, symbol, name, is_attribute}
use Rattle.conf_lex.specs.Grammar.{Terminal, Seq, Alt, Repeat, Nested, ParseTree, Leaf, NoWords, Pair, Left, Right, Deeper, yield, DerivesLongest}
use Rattle.conf_lex.specs.Leaves.{symbol_leaf, name_leaf, between}
use Rattle.conf_lex.proofs.Symbols.{is_symbol_word}
use Rattle.syntax_laws.proofs.Parts.{size, Small, more_room, some_size, one_is, seq_is, either_is, nest_is, symbol_is, placed_is, name_is, optional_is}
use Rattle.syntax_laws.proofs.Rows.{Seen, Row, both_of, inside_of, many_told}
use Rattle.conf_ast.specs.declared.filters.VariableType.{VariableType}
use Rattle.conf_ast.specs.declared.filters.VariableType.TheVariants as types
use Rattle.conf_ast.specs.declared.filters.Target.TheVariants as targets
use Rattle.conf_ast.specs.declared.filters.Change.TheVariants as changes
use Rattle.conf_ast.specs.declared.filters.Arm.{Arm}
use Rattle.conf_ast.specs.declared.filters.Stmt.{Stmt}
use Rattle.conf_ast.specs.declared.filters.Stmt.TheVariants as stmts
use Rattle.expr_syntax.specs.Syntax.{rule, optional, listed, many, expr, has_sets, has_no_sets, vtype, semicolon, block, declaration, assigned, changed, done_to_name, done_to_attribute, unset, if_stmt, case_stmt, for_stmt, verdict_stmt, return_stmt, print_stmt, unnamed_stmt, stmt, call, method, of_attribute, label, arm_part}
use Rattle.expr_syntax.specs.Levels.{Form, block_level, body_level, arms_level}
use Rattle.expr_syntax.specs.View.{derivations, in_parentheses, arguments_tree, listed_tree, expr_tree, expr_trees}
use Rattle.filt_syntax.specs.StatementView.{assigned_tree, change_tree, changed_tree, initial_tree, result_tree, else_tree, arms_row, arms_of, ArmParts, otherwise_tree, otherwise_of, stmt_tree, stmts_tree, block_view}
use Rattle.expr_syntax.specs.Rows.{semicolon_leaf, nth, beyond}
use Rattle.expr_syntax.specs.Types.{type_tree}
use Rattle.expr_syntax.proofs.Tested.{solid_at}
use Rattle.filt_syntax.proofs.StatementTrees.{tree-Block, tree-Empty, tree-Declare, tree-Assign, tree-Change, tree-Unset, tree-If, tree-IfElse, tree-Case, tree-For, tree-Accept, tree-Reject, tree-Return, tree-Print, tree-Printn, tree-Call, one_more_stmt}
use Rattle.syntax_laws.proofs.SortsOfWords.{attribute_is}
use Rattle.syntax_laws.proofs.ItemsTold.{braced_is, either_symbol}
use Rattle.syntax_laws.proofs.ExprTold.{levels, boxed, vec, method_told, exprs_told, arguments_told, attribute_told}
use Rattle.syntax_laws.proofs.ArmsTold.{arms_told, to_arms}

-- ---- types

plain_type_is : (w : Word) → has_no_sets (kind_of w) ≡ true → (v : VariableType) × (type_tree v ≡ Left (Leaf w))
plain_type_is (words.Symbol sym.Bool) e = (types.Bool, refl)
plain_type_is (words.Symbol sym.Ip) e = (types.Ip, refl)
plain_type_is (words.Symbol sym.String) e = (types.String, refl)
plain_type_is (words.Symbol sym.PathType) e = (types.Path, refl)
plain_type_is (words.Symbol sym.MaskType) e = (types.Mask, refl)
plain_type_is (words.Symbol sym.Clist) e = (types.Clist, refl)
plain_type_is (words.Placed at sym.Router) e = absurd (false≢true e)
plain_type_is _ e = absurd (false≢true e)

set_type_is : (w : Word) → has_sets (kind_of w) ≡ true → (v s : VariableType) × (type_tree v ≡ Right (Pair (Leaf w) (Right NoWords))) × (type_tree s ≡ Right (Pair (Leaf w) (Left (symbol_leaf sym.Set))))
set_type_is (words.Symbol sym.Int) e = (types.Int, types.IntSet, refl, refl)
set_type_is (words.Symbol sym.Pair) e = (types.Pair, types.PairSet, refl, refl)
set_type_is (words.Symbol sym.Prefix) e = (types.Prefix, types.PrefixSet, refl, refl)
set_type_is (words.Placed at sym.Router) e = absurd (false≢true e)
set_type_is _ e = absurd (false≢true e)

pub type_told : (n : ℕ) (t : ParseTree) → Small (suc n) t → DerivesLongest rule t vtype → Seen type_tree t
type_told n t s h = elim (either_is rule n t (Terminal has_no_sets) (Seq (Terminal has_sets) (optional (Terminal (symbol sym.Set)))) s h) [
  | inl a ↦
      let w = one_is rule a.part has_no_sets a.fits in
      let v = plain_type_is w.word w.passes in
      (v.0, v.1 ∙ ap (λ (u : ParseTree). Left u) (flip w.is) ∙ flip a.is)
  | inr b ↦
      let p = seq_is rule n b.part (Terminal has_sets) (optional (Terminal (symbol sym.Set))) (more_room n b.part b.small) b.fits in
      let w = one_is rule p.left has_sets p.left_fits in
      let v = set_type_is w.word w.passes in
      elim (optional_is rule n p.right (Terminal (symbol sym.Set)) (more_room n p.right p.right_small) p.right_fits) [
        | inl o ↦ (v.1, v.3 ∙ ap (λ (u : ParseTree). Right u) (both_of (Leaf w.word) (Left (symbol_leaf sym.Set)) p.left p.right (flip w.is) (ap (λ (u : ParseTree). Left u) (flip (symbol_is rule o.part sym.Set refl o.fits)) ∙ flip o.is) ∙ flip p.is) ∙ flip b.is)
        | inr none ↦ (v.0, v.2 ∙ ap (λ (u : ParseTree). Right u) (both_of (Leaf w.word) (Right NoWords) p.left p.right (flip w.is) (flip none) ∙ flip p.is) ∙ flip b.is)
      ]
]

-- ---- signs in front and behind

pub record Behind (n : ℕ) (s : Symbol) (f : Form) (t : ParseTree) : Type 0 where
  pub right : ParseTree
  pub is : t ≡ Pair (symbol_leaf s) right
  pub small : Small n right
  pub fits : DerivesLongest rule right f

pub behind_sign : (n : ℕ) (s : Symbol) (f : Form) (t : ParseTree) → is_placed s ≡ false → Small (suc n) t → DerivesLongest rule t (Seq (Terminal (symbol s)) f) → Behind n s f t
behind_sign n s f t plain small h =
    let p = seq_is rule n t (Terminal (symbol s)) f small h in
    record { right = p.right; is = p.is ∙ ap (λ (u : ParseTree). Pair u p.right) (symbol_is rule p.left s plain p.left_fits); small = p.right_small; fits = p.right_fits }

pub record Ended (n : ℕ) (f : Form) (t : ParseTree) : Type 0 where
  pub left : ParseTree
  pub is : t ≡ Pair left semicolon_leaf
  pub small : Small n left
  pub fits : DerivesLongest rule left f

pub ended_is : (n : ℕ) (f : Form) (t : ParseTree) → Small (suc n) t → DerivesLongest rule t (Seq f semicolon) → Ended n f t
ended_is n f t small h =
    let p = seq_is rule n t f (Terminal (symbol sym.Semicolon)) small h in
    record { left = p.left; is = p.is ∙ ap (λ (u : ParseTree). Pair p.left u) (symbol_is rule p.right sym.Semicolon refl p.right_fits); small = p.left_small; fits = p.left_fits }

-- ---- statements, from what is known of smaller trees

module _ (n : ℕ) (to_stmt : (t : ParseTree) → Small n t → DerivesLongest rule t stmt → Seen stmt_tree t) where
  to_expr : (t : ParseTree) → Small n t → DerivesLongest rule t expr → Seen expr_tree t
  to_expr = (levels n).to_expr

  -- the bodies of `then`, `else` and `do`
  body_told : (s : Symbol) (t : ParseTree) → is_placed s ≡ false → Small n t → DerivesLongest rule t (Nested (symbol s) body_level) → (x : Stmt) × (Deeper (words.Symbol s) (stmt_tree x) ≡ t)
  body_told s t plain small h =
      let i = nest_is rule n t (symbol s) body_level (more_room n t small) h in
      let x = to_stmt i.part i.small i.fits in
      (x.0, inside_of (words.Symbol s) i.word (stmt_tree x.0) i.part (flip (is_symbol_word i.word s plain i.passes)) x.1 ∙ flip i.is)

  pub stmts_told : (t : ParseTree) → Small (suc n) t → DerivesLongest rule t (many stmt) → Row stmts_tree t
  stmts_told t s h = many_told rule n stmt (solid_at stmt refl) refl stmt_tree to_stmt stmts_tree refl one_more_stmt t s h

  assigned_told : (t : ParseTree) → Small n t → DerivesLongest rule t assigned → Seen assigned_tree t
  assigned_told t s h =
      let b = behind_sign n sym.Equal (Seq expr semicolon) t refl (more_room n t s) h in
      let e = ended_is n expr b.right (more_room n b.right b.small) b.fits in
      let x = to_expr e.left e.small e.fits in
      (x.0, ap (λ (u : ParseTree). Pair (symbol_leaf sym.Equal) u) (ap (λ (u : ParseTree). Pair u semicolon_leaf) x.1 ∙ flip e.is) ∙ flip b.is)

  change_told : (t : ParseTree) → Small n t → DerivesLongest rule t (Alt (Terminal (symbol sym.Empty)) method) → Seen change_tree t
  change_told t s h = elim (either_is rule n t (Terminal (symbol sym.Empty)) method (more_room n t s) h) [
    | inl a ↦ (changes.Empty, ap (λ (u : ParseTree). Left u) (flip (symbol_is rule a.part sym.Empty refl a.fits)) ∙ flip a.is)
    | inr b ↦ let m = method_told n (levels n) b.part b.small b.fits in (changes.Method m.0 m.1 m.2, ap (λ (u : ParseTree). Right u) m.3 ∙ flip b.is)
  ]

  changed_told : (t : ParseTree) → Small n t → DerivesLongest rule t changed → Seen changed_tree t
  changed_told t s h =
      let b = behind_sign n sym.Dot (Seq (Alt (Terminal (symbol sym.Empty)) method) semicolon) t refl (more_room n t s) h in
      let e = ended_is n (Alt (Terminal (symbol sym.Empty)) method) b.right (more_room n b.right b.small) b.fits in
      let x = change_told e.left e.small e.fits in
      (x.0, ap (λ (u : ParseTree). Pair (symbol_leaf sym.Dot) u) (ap (λ (u : ParseTree). Pair u semicolon_leaf) x.1 ∙ flip e.is) ∙ flip b.is)

  named_told : (t u : ParseTree) → t ≡ Left u → Small n u → DerivesLongest rule u (Seq (Terminal name) done_to_name) → Seen stmt_tree t
  named_told t u is s h =
      let p = seq_is rule n u (Terminal name) done_to_name (more_room n u s) h in
      let m = name_is rule p.left p.left_fits in
      let back = λ (d : ParseTree) (e : d ≡ p.right). ap (λ (v : ParseTree). Left v) (both_of (name_leaf m.0) d p.left p.right (flip m.1) e ∙ flip p.is) ∙ flip is in
      elim (either_is rule n p.right assigned (Alt changed (Seq call semicolon)) (more_room n p.right p.right_small) p.right_fits) [
        | inl a ↦ let x = assigned_told a.part a.small a.fits in (stmts.Assign (targets.Name m.0) x.0, tree-Assign (targets.Name m.0) x.0 ∙ back (Left (assigned_tree x.0)) (ap (λ (v : ParseTree). Left v) x.1 ∙ flip a.is))
        | inr b ↦ elim (either_is rule n b.part changed (Seq call semicolon) (more_room n b.part b.small) b.fits) [
          | inl a ↦ let x = changed_told a.part a.small a.fits in (stmts.Change (targets.Name m.0) x.0, tree-Change (targets.Name m.0) x.0 ∙ back (Right (Left (changed_tree x.0))) (ap (λ (v : ParseTree). Right v) (ap (λ (v : ParseTree). Left v) x.1 ∙ flip a.is) ∙ flip b.is))
          | inr c ↦
              let e = ended_is n call c.part (more_room n c.part c.small) c.fits in
              let r = arguments_told n (levels n) e.left (more_room n e.left e.small) e.fits in (
                stmts.Call m.0 r.at r.values,
                tree-Call m.0 r.at r.values ∙ back (Right (Right (Pair (in_parentheses r.at (arguments_tree (expr_trees r.values.items))) semicolon_leaf)))
                    (ap (λ (v : ParseTree). Right v) (ap (λ (v : ParseTree). Right v) (ap (λ (v : ParseTree). Pair v semicolon_leaf) r.seen ∙ flip e.is) ∙ flip c.is) ∙ flip b.is),
              )
        ]
      ]

  block_told : (t u : ParseTree) → t ≡ Right (nth 0 u) → Small n u → DerivesLongest rule u block → Seen stmt_tree t
  block_told t u is s h =
      let i = braced_is n sym.OpenBrace sym.CloseBrace block_level u refl refl (more_room n u s) h in
      let r = stmts_told i.inner (more_room n i.inner i.small) i.fits in
      let v = vec r.items (omega (arith, r.few, i.small.short)) in
      (stmts.Block v, tree-Block v ∙ ap (λ (x : ParseTree). Right (nth 0 x)) (ap (λ (x : ParseTree). between (words.Symbol sym.OpenBrace) x sym.CloseBrace) r.seen ∙ flip i.is) ∙ flip is)

  empty_told : (t u : ParseTree) → t ≡ Right (nth 1 u) → Small n u → DerivesLongest rule u semicolon → Seen stmt_tree t
  empty_told t u is s h = (stmts.Empty, tree-Empty ∙ ap (λ (x : ParseTree). Right (nth 1 x)) (flip (symbol_is rule u sym.Semicolon refl h)) ∙ flip is)

  initial_told : (t : ParseTree) → Small n t → DerivesLongest rule t (optional (Seq (Terminal (symbol sym.Equal)) expr)) → Seen initial_tree t
  initial_told t s h = elim (optional_is rule n t (Seq (Terminal (symbol sym.Equal)) expr) (more_room n t s) h) [
    | inl a ↦
        let b = behind_sign n sym.Equal expr a.part refl (more_room n a.part a.small) a.fits in
        let x = to_expr b.right b.small b.fits in
        (Some x.0, ap (λ (u : ParseTree). Left u) (ap (λ (u : ParseTree). Pair (symbol_leaf sym.Equal) u) x.1 ∙ flip b.is) ∙ flip a.is)
    | inr none ↦ (None, flip none)
  ]

  declaration_told : (t u : ParseTree) → t ≡ Right (nth 2 u) → Small n u → DerivesLongest rule u declaration → Seen stmt_tree t
  declaration_told t u is s h =
      let p = seq_is rule n u vtype (Seq (Terminal name) (Seq (optional (Seq (Terminal (symbol sym.Equal)) expr)) semicolon)) (more_room n u s) h in
      let v = type_told n p.left (more_room n p.left p.left_small) p.left_fits in
      let q = seq_is rule n p.right (Terminal name) (Seq (optional (Seq (Terminal (symbol sym.Equal)) expr)) semicolon) (more_room n p.right p.right_small) p.right_fits in
      let m = name_is rule q.left q.left_fits in
      let e = ended_is n (optional (Seq (Terminal (symbol sym.Equal)) expr)) q.right (more_room n q.right q.right_small) q.right_fits in
      let x = initial_told e.left e.small e.fits in
      let behind = both_of (name_leaf m.0) (Pair (initial_tree x.0) semicolon_leaf) q.left q.right (flip m.1) (ap (λ (w : ParseTree). Pair w semicolon_leaf) x.1 ∙ flip e.is) ∙ flip q.is in
      (stmts.Declare v.0 m.0 x.0, tree-Declare v.0 m.0 x.0 ∙ ap (λ (w : ParseTree). Right (nth 2 w)) (both_of (type_tree v.0) (Pair (name_leaf m.0) (Pair (initial_tree x.0) semicolon_leaf)) p.left p.right v.1 behind ∙ flip p.is) ∙ flip is)

  done_told : (t u : ParseTree) → t ≡ Right (nth 3 u) → Small n u → DerivesLongest rule u done_to_attribute → Seen stmt_tree t
  done_told t u is s h =
      let p = seq_is rule n u (Terminal is_attribute) (Alt assigned changed) (more_room n u s) h in
      let w = one_is rule p.left is_attribute p.left_fits in
      let a = attribute_is w.word w.passes in
      let leaf = flip (w.is ∙ ap (λ (v : Word). Leaf v) a.2) in
      let back = λ (d : ParseTree) (e : d ≡ p.right). ap (λ (v : ParseTree). Right (nth 3 v)) (both_of (Leaf (words.Attribute a.0 a.1)) d p.left p.right leaf e ∙ flip p.is) ∙ flip is in
      elim (either_is rule n p.right assigned changed (more_room n p.right p.right_small) p.right_fits) [
        | inl c ↦ let x = assigned_told c.part c.small c.fits in (stmts.Assign (targets.Attribute a.0 a.1) x.0, tree-Assign (targets.Attribute a.0 a.1) x.0 ∙ back (Left (assigned_tree x.0)) (ap (λ (v : ParseTree). Left v) x.1 ∙ flip c.is))
        | inr c ↦ let x = changed_told c.part c.small c.fits in (stmts.Change (targets.Attribute a.0 a.1) x.0, tree-Change (targets.Attribute a.0 a.1) x.0 ∙ back (Right (changed_tree x.0)) (ap (λ (v : ParseTree). Right v) x.1 ∙ flip c.is))
      ]

  unset_told : (t u : ParseTree) → t ≡ Right (nth 4 u) → Small n u → DerivesLongest rule u unset → Seen stmt_tree t
  unset_told t u is s h =
      let b = behind_sign n sym.Unset (Seq of_attribute semicolon) u refl (more_room n u s) h in
      let e = ended_is n of_attribute b.right (more_room n b.right b.small) b.fits in
      let a = attribute_told n (levels n) e.left (more_room n e.left e.small) e.fits in (
        stmts.Unset a.0 a.1 a.2,
        tree-Unset a.0 a.1 a.2 ∙ ap (λ (w : ParseTree). Right (nth 4 w)) (ap (λ (w : ParseTree). Pair (symbol_leaf sym.Unset) w) (ap (λ (w : ParseTree). Pair w semicolon_leaf) (flip a.3) ∙ flip e.is) ∙ flip b.is) ∙ flip is,
      )

  if_told : (t u : ParseTree) → t ≡ Right (nth 5 u) → Small n u → DerivesLongest rule u if_stmt → Seen stmt_tree t
  if_told t u is s h =
      let p = seq_is rule n u (Seq (Terminal (symbol sym.If)) expr) (Seq (Nested (symbol sym.Then) body_level) (optional (Nested (symbol sym.Else) body_level))) (more_room n u s) h in
      let c = behind_sign n sym.If expr p.left refl (more_room n p.left p.left_small) p.left_fits in
      let e = to_expr c.right c.small c.fits in
      let q = seq_is rule n p.right (Nested (symbol sym.Then) body_level) (optional (Nested (symbol sym.Else) body_level)) (more_room n p.right p.right_small) p.right_fits in
      let x = body_told sym.Then q.left refl q.left_small q.left_fits in
      let front = ap (λ (w : ParseTree). Pair (symbol_leaf sym.If) w) e.1 ∙ flip c.is in
      let back = λ (d : ParseTree) (same : d ≡ q.right). ap (λ (w : ParseTree). Right (nth 5 w)) (both_of (Pair (symbol_leaf sym.If) (derivations e.0).expr) (Pair (Deeper (words.Symbol sym.Then) (stmt_tree x.0)) d) p.left p.right front (both_of (Deeper (words.Symbol sym.Then) (stmt_tree x.0)) d q.left q.right x.1 same ∙ flip q.is) ∙ flip p.is) ∙ flip is in
      elim (optional_is rule n q.right (Nested (symbol sym.Else) body_level) (more_room n q.right q.right_small) q.right_fits) [
        | inl o ↦
            let y = body_told sym.Else o.part refl o.small o.fits in
            (stmts.IfElse e.0 (boxed x.0) (boxed y.0), tree-IfElse e.0 (boxed x.0) (boxed y.0) x.0 y.0 refl refl ∙ back (else_tree (stmt_tree y.0)) (ap (λ (w : ParseTree). Left w) y.1 ∙ flip o.is))
        | inr none ↦
            (stmts.If e.0 (boxed x.0), tree-If e.0 (boxed x.0) x.0 refl ∙ back (Right NoWords) (flip none))
      ]

  arms_row_told : (t : ParseTree) → Small n t → DerivesLongest rule t (optional (Repeat label arm_part)) → (v : Vec (Arm Stmt) Global) × (arms_row (arms_of v.items) ≡ t)
  arms_row_told t s h = elim (optional_is rule n t (Repeat label arm_part) (more_room n t s) h) [
    | inl a ↦
        let r = arms_told n to_stmt a.part (more_room n a.part a.small) a.fits in
        let m = to_arms (r.first ∷ r.others) (omega (arith, r.few, a.small.short)) in
        (vec m.0 (omega (arith, r.few, a.small.short, m.2)), ap (λ (l : List ArmParts). arms_row l) m.1 ∙ ap (λ (w : ParseTree). Left w) r.seen ∙ flip a.is)
    | inr none ↦ (vec [] (omega arith), flip none)
  ]

  otherwise_told : (t : ParseTree) → Small n t → DerivesLongest rule t (optional (Seq (Terminal (symbol sym.ElseColon)) (many stmt))) → (o : Option (Vec Stmt Global)) × (otherwise_tree (otherwise_of o) ≡ t)
  otherwise_told t s h = elim (optional_is rule n t (Seq (Terminal (symbol sym.ElseColon)) (many stmt)) (more_room n t s) h) [
    | inl a ↦
        let b = behind_sign n sym.ElseColon (many stmt) a.part refl (more_room n a.part a.small) a.fits in
        let r = stmts_told b.right (more_room n b.right b.small) b.fits in
        (Some (vec r.items (omega (arith, r.few, b.small.short))), ap (λ (w : ParseTree). Left w) (ap (λ (w : ParseTree). Pair (symbol_leaf sym.ElseColon) w) r.seen ∙ flip b.is) ∙ flip a.is)
    | inr none ↦ (None, flip none)
  ]

  case_told : (t u : ParseTree) → t ≡ Right (nth 6 u) → Small n u → DerivesLongest rule u case_stmt → Seen stmt_tree t
  case_told t u is s h =
      let p = seq_is rule n u (Seq (Terminal (symbol sym.Case)) expr) (Seq (Nested (symbol sym.OpenBrace) arms_level) (Terminal (symbol sym.CloseBrace))) (more_room n u s) h in
      let c = seq_is rule n p.left (Terminal (symbol sym.Case)) expr (more_room n p.left p.left_small) p.left_fits in
      let w = placed_is rule c.left sym.Case refl c.left_fits in
      let e = to_expr c.right c.right_small c.right_fits in
      let i = braced_is n sym.OpenBrace sym.CloseBrace arms_level p.right refl refl (more_room n p.right p.right_small) p.right_fits in
      let q = seq_is rule n i.inner (optional (Repeat label arm_part)) (optional (Seq (Terminal (symbol sym.ElseColon)) (many stmt))) (more_room n i.inner i.small) i.fits in
      let v = arms_row_told q.left q.left_small q.left_fits in
      let o = otherwise_told q.right q.right_small q.right_fits in
      let front = both_of (Leaf (words.Placed w.0 sym.Case)) (derivations e.0).expr c.left c.right (flip w.1) e.1 ∙ flip c.is in
      let rows = both_of (arms_row (arms_of v.0.items)) (otherwise_tree (otherwise_of o.0)) q.left q.right v.1 o.1 ∙ flip q.is in
      let inside = ap (λ (x : ParseTree). between (words.Symbol sym.OpenBrace) x sym.CloseBrace) rows ∙ flip i.is in
      (stmts.Case w.0 e.0 v.0 o.0, tree-Case w.0 e.0 v.0 o.0 ∙ ap (λ (x : ParseTree). Right (nth 6 x)) (both_of (Pair (Leaf (words.Placed w.0 sym.Case)) (derivations e.0).expr) (between (words.Symbol sym.OpenBrace) (Pair (arms_row (arms_of v.0.items)) (otherwise_tree (otherwise_of o.0))) sym.CloseBrace) p.left p.right front inside ∙ flip p.is) ∙ flip is)

  for_told : (t u : ParseTree) → t ≡ Right (nth 7 u) → Small n u → DerivesLongest rule u for_stmt → Seen stmt_tree t
  for_told t u is s h =
      let inner = Seq (Seq (Terminal (symbol sym.In)) expr) (Nested (symbol sym.Do) body_level) in
      let p = seq_is rule n u (Terminal (symbol sym.For)) (Seq vtype (Seq (Terminal name) inner)) (more_room n u s) h in
      let w = placed_is rule p.left sym.For refl p.left_fits in
      let q = seq_is rule n p.right vtype (Seq (Terminal name) inner) (more_room n p.right p.right_small) p.right_fits in
      let v = type_told n q.left (more_room n q.left q.left_small) q.left_fits in
      let r = seq_is rule n q.right (Terminal name) inner (more_room n q.right q.right_small) q.right_fits in
      let m = name_is rule r.left r.left_fits in
      let d = seq_is rule n r.right (Seq (Terminal (symbol sym.In)) expr) (Nested (symbol sym.Do) body_level) (more_room n r.right r.right_small) r.right_fits in
      let c = behind_sign n sym.In expr d.left refl (more_room n d.left d.left_small) d.left_fits in
      let e = to_expr c.right c.small c.fits in
      let b = body_told sym.Do d.right refl d.right_small d.right_fits in
      let at_do = both_of (Pair (symbol_leaf sym.In) (derivations e.0).expr) (Deeper (words.Symbol sym.Do) (stmt_tree b.0)) d.left d.right (ap (λ (x : ParseTree). Pair (symbol_leaf sym.In) x) e.1 ∙ flip c.is) b.1 ∙ flip d.is in
      let at_name = both_of (name_leaf m.0) (Pair (Pair (symbol_leaf sym.In) (derivations e.0).expr) (Deeper (words.Symbol sym.Do) (stmt_tree b.0))) r.left r.right (flip m.1) at_do ∙ flip r.is in
      let at_type = both_of (type_tree v.0) (Pair (name_leaf m.0) (Pair (Pair (symbol_leaf sym.In) (derivations e.0).expr) (Deeper (words.Symbol sym.Do) (stmt_tree b.0)))) q.left q.right v.1 at_name ∙ flip q.is in
      (stmts.For w.0 v.0 m.0 e.0 (boxed b.0), tree-For w.0 v.0 m.0 e.0 (boxed b.0) b.0 refl ∙ ap (λ (x : ParseTree). Right (nth 7 x)) (both_of (Leaf (words.Placed w.0 sym.For)) (Pair (type_tree v.0) (Pair (name_leaf m.0) (Pair (Pair (symbol_leaf sym.In) (derivations e.0).expr) (Deeper (words.Symbol sym.Do) (stmt_tree b.0))))) p.left p.right (flip w.1) at_type ∙ flip p.is) ∙ flip is)

  verdict_told : (t u : ParseTree) → t ≡ Right (nth 8 u) → Small n u → DerivesLongest rule u verdict_stmt → Seen stmt_tree t
  verdict_told t u is s h =
      let e = ended_is n (Terminal (λ k. symbol sym.Accept k || symbol sym.Reject k)) u (more_room n u s) h in
      elim (either_symbol e.left sym.Accept sym.Reject refl refl e.fits) [
        | inl a ↦ (stmts.Accept, tree-Accept ∙ ap (λ (x : ParseTree). Right (nth 8 x)) (ap (λ (x : ParseTree). Pair x semicolon_leaf) (flip a) ∙ flip e.is) ∙ flip is)
        | inr r ↦ (stmts.Reject, tree-Reject ∙ ap (λ (x : ParseTree). Right (nth 8 x)) (ap (λ (x : ParseTree). Pair x semicolon_leaf) (flip r) ∙ flip e.is) ∙ flip is)
      ]

  result_told : (t : ParseTree) → Small n t → DerivesLongest rule t (optional expr) → Seen result_tree t
  result_told t s h = elim (optional_is rule n t expr (more_room n t s) h) [
    | inl a ↦ let x = to_expr a.part a.small a.fits in (Some x.0, ap (λ (u : ParseTree). Left u) x.1 ∙ flip a.is)
    | inr none ↦ (None, flip none)
  ]

  return_told : (t u : ParseTree) → t ≡ Right (nth 9 u) → Small n u → DerivesLongest rule u return_stmt → Seen stmt_tree t
  return_told t u is s h =
      let p = seq_is rule n u (Terminal (symbol sym.Return)) (Seq (optional expr) semicolon) (more_room n u s) h in
      let w = placed_is rule p.left sym.Return refl p.left_fits in
      let e = ended_is n (optional expr) p.right (more_room n p.right p.right_small) p.right_fits in
      let x = result_told e.left e.small e.fits in
      (stmts.Return w.0 x.0, tree-Return w.0 x.0 ∙ ap (λ (v : ParseTree). Right (nth 9 v)) (both_of (Leaf (words.Placed w.0 sym.Return)) (Pair (result_tree x.0) semicolon_leaf) p.left p.right (flip w.1) (ap (λ (v : ParseTree). Pair v semicolon_leaf) x.1 ∙ flip e.is) ∙ flip p.is) ∙ flip is)

  print_told : (t u : ParseTree) → t ≡ Right (beyond 10 u) → Small n u → DerivesLongest rule u print_stmt → Seen stmt_tree t
  print_told t u is s h =
      let p = seq_is rule n u (Terminal (λ k. symbol sym.Print k || symbol sym.Printn k)) (Seq (listed expr) semicolon) (more_room n u s) h in
      let e = ended_is n (listed expr) p.right (more_room n p.right p.right_small) p.right_fits in
      let r = exprs_told n (levels n) e.left (more_room n e.left e.small) e.fits in
      let v = vec r.items (omega (arith, r.few, e.small.short)) in
      let back = λ (word : Symbol) (same : p.left ≡ symbol_leaf word). ap (λ (x : ParseTree). Right (beyond 10 x)) (both_of (symbol_leaf word) (Pair (listed_tree (expr_trees r.items)) semicolon_leaf) p.left p.right (flip same) (ap (λ (x : ParseTree). Pair x semicolon_leaf) r.seen ∙ flip e.is) ∙ flip p.is) ∙ flip is in
      elim (either_symbol p.left sym.Print sym.Printn refl refl p.left_fits) [
        | inl a ↦ (stmts.Print v, tree-Print v ∙ back sym.Print a)
        | inr b ↦ (stmts.Printn v, tree-Printn v ∙ back sym.Printn b)
      ]

  unnamed_told : (t u : ParseTree) → t ≡ Right u → Small n u → DerivesLongest rule u unnamed_stmt → Seen stmt_tree t
  unnamed_told t u is s h =
      elim (either_is rule n u block (Alt semicolon (Alt declaration (Alt done_to_attribute (Alt unset (Alt if_stmt (Alt case_stmt (Alt for_stmt (Alt verdict_stmt (Alt return_stmt print_stmt))))))))) (more_room n u s) h) [
        | inl a0 ↦ block_told t a0.part (is ∙ ap (λ (x : ParseTree). Right (x)) a0.is) a0.small a0.fits
        | inr b0 ↦
            let at0 = is ∙ ap (λ (x : ParseTree). Right (x)) b0.is in
            elim (either_is rule n b0.part semicolon (Alt declaration (Alt done_to_attribute (Alt unset (Alt if_stmt (Alt case_stmt (Alt for_stmt (Alt verdict_stmt (Alt return_stmt print_stmt)))))))) (more_room n b0.part b0.small) b0.fits) [
              | inl a1 ↦ empty_told t a1.part (at0 ∙ ap (λ (x : ParseTree). Right (Right (x))) a1.is) a1.small a1.fits
              | inr b1 ↦
                  let at1 = at0 ∙ ap (λ (x : ParseTree). Right (Right (x))) b1.is in
                  elim (either_is rule n b1.part declaration (Alt done_to_attribute (Alt unset (Alt if_stmt (Alt case_stmt (Alt for_stmt (Alt verdict_stmt (Alt return_stmt print_stmt))))))) (more_room n b1.part b1.small) b1.fits) [
                    | inl a2 ↦ declaration_told t a2.part (at1 ∙ ap (λ (x : ParseTree). Right (Right (Right (x)))) a2.is) a2.small a2.fits
                    | inr b2 ↦
                        let at2 = at1 ∙ ap (λ (x : ParseTree). Right (Right (Right (x)))) b2.is in
                        elim (either_is rule n b2.part done_to_attribute (Alt unset (Alt if_stmt (Alt case_stmt (Alt for_stmt (Alt verdict_stmt (Alt return_stmt print_stmt)))))) (more_room n b2.part b2.small) b2.fits) [
                          | inl a3 ↦ done_told t a3.part (at2 ∙ ap (λ (x : ParseTree). Right (Right (Right (Right (x))))) a3.is) a3.small a3.fits
                          | inr b3 ↦
                              let at3 = at2 ∙ ap (λ (x : ParseTree). Right (Right (Right (Right (x))))) b3.is in
                              elim (either_is rule n b3.part unset (Alt if_stmt (Alt case_stmt (Alt for_stmt (Alt verdict_stmt (Alt return_stmt print_stmt))))) (more_room n b3.part b3.small) b3.fits) [
                                | inl a4 ↦ unset_told t a4.part (at3 ∙ ap (λ (x : ParseTree). Right (Right (Right (Right (Right (x)))))) a4.is) a4.small a4.fits
                                | inr b4 ↦
                                    let at4 = at3 ∙ ap (λ (x : ParseTree). Right (Right (Right (Right (Right (x)))))) b4.is in
                                    elim (either_is rule n b4.part if_stmt (Alt case_stmt (Alt for_stmt (Alt verdict_stmt (Alt return_stmt print_stmt)))) (more_room n b4.part b4.small) b4.fits) [
                                      | inl a5 ↦ if_told t a5.part (at4 ∙ ap (λ (x : ParseTree). Right (Right (Right (Right (Right (Right (x))))))) a5.is) a5.small a5.fits
                                      | inr b5 ↦
                                          let at5 = at4 ∙ ap (λ (x : ParseTree). Right (Right (Right (Right (Right (Right (x))))))) b5.is in
                                          elim (either_is rule n b5.part case_stmt (Alt for_stmt (Alt verdict_stmt (Alt return_stmt print_stmt))) (more_room n b5.part b5.small) b5.fits) [
                                            | inl a6 ↦ case_told t a6.part (at5 ∙ ap (λ (x : ParseTree). Right (Right (Right (Right (Right (Right (Right (x)))))))) a6.is) a6.small a6.fits
                                            | inr b6 ↦
                                                let at6 = at5 ∙ ap (λ (x : ParseTree). Right (Right (Right (Right (Right (Right (Right (x)))))))) b6.is in
                                                elim (either_is rule n b6.part for_stmt (Alt verdict_stmt (Alt return_stmt print_stmt)) (more_room n b6.part b6.small) b6.fits) [
                                                  | inl a7 ↦ for_told t a7.part (at6 ∙ ap (λ (x : ParseTree). Right (Right (Right (Right (Right (Right (Right (Right (x))))))))) a7.is) a7.small a7.fits
                                                  | inr b7 ↦
                                                      let at7 = at6 ∙ ap (λ (x : ParseTree). Right (Right (Right (Right (Right (Right (Right (Right (x))))))))) b7.is in
                                                      elim (either_is rule n b7.part verdict_stmt (Alt return_stmt print_stmt) (more_room n b7.part b7.small) b7.fits) [
                                                        | inl a8 ↦ verdict_told t a8.part (at7 ∙ ap (λ (x : ParseTree). Right (Right (Right (Right (Right (Right (Right (Right (Right (x)))))))))) a8.is) a8.small a8.fits
                                                        | inr b8 ↦
                                                            let at8 = at7 ∙ ap (λ (x : ParseTree). Right (Right (Right (Right (Right (Right (Right (Right (Right (x)))))))))) b8.is in
                                                            elim (either_is rule n b8.part return_stmt print_stmt (more_room n b8.part b8.small) b8.fits) [
                                                              | inl a9 ↦ return_told t a9.part (at8 ∙ ap (λ (x : ParseTree). Right (Right (Right (Right (Right (Right (Right (Right (Right (Right (x))))))))))) a9.is) a9.small a9.fits
                                                              | inr b9 ↦ print_told t b9.part (at8 ∙ ap (λ (x : ParseTree). Right (Right (Right (Right (Right (Right (Right (Right (Right (Right (x))))))))))) b9.is) b9.small b9.fits
                                                            ]
                                                      ]
                                                ]
                                          ]
                                    ]
                              ]
                        ]
                  ]
            ]
      ]

  stmt_next : (t : ParseTree) → Small (suc n) t → DerivesLongest rule t stmt → Seen stmt_tree t
  stmt_next t s h = elim (either_is rule n t (Seq (Terminal name) done_to_name) unnamed_stmt s h) [
    | inl a ↦ named_told t a.part a.is a.small a.fits
    | inr b ↦ unnamed_told t b.part b.is b.small b.fits
  ]

pub to_stmt : (n : ℕ) (t : ParseTree) → Small n t → DerivesLongest rule t stmt → Seen stmt_tree t
to_stmt zero t s h = absurd (omega (arith, s.parts, some_size t))
to_stmt (suc n) t s h = stmt_next n (to_stmt n) t s h

-- the block of a filter, a function or a policy
pub to_block : (n : ℕ) (t : ParseTree) → Small n t → DerivesLongest rule t block → Seen block_view t
to_block n t s h =
    let i = braced_is n sym.OpenBrace sym.CloseBrace block_level t refl refl (more_room n t s) h in
    let r = stmts_told n (to_stmt n) i.inner (more_room n i.inner i.small) i.fits in
    (record { statements = vec r.items (omega (arith, r.few, i.small.short)) }, ap (λ (x : ParseTree). between (words.Symbol sym.OpenBrace) x sym.CloseBrace) r.seen ∙ flip i.is)

pub block_of : (t : ParseTree) → DerivesLongest rule t block → length (yield t) < 2 ^ 63 → Seen block_view t
block_of t h short = to_block (size t) t (record { parts = omega arith; short = short }) h
