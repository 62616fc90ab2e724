-- Each row of labels and statements of a `case` is the view of arms.
use Rattle.std.proofs.Common.{◌≡◌, ℕ, suc, ◌+◌, ◌≤◌, ◌<◌, ◌^◌, true, List, [], ◌∷◌, ◌++◌, length, map, refl, sym, ap, ◌∙◌, arith, ◌⊎◌, inl, inr}
use Rattle.std.proofs.lemmas.List.{length-append}
use Rattle.conf_lex.specs.declared.symbol.Symbol.TheVariants as symbols
use Rattle.conf_lex.specs.declared.word.Word.{Word}
use Rattle.conf_lex.specs.declared.word.Word.TheVariants as words
use Rattle.conf_lex.specs.Kind.{kind_of, symbol, number, name}
use Rattle.conf_lex.specs.Grammar.{Terminal, Seq, Alt, Repeat, ParseTree, Leaf, NoWords, Pair, Left, Right, Single, Snoc, yield, DerivesLongest}
use Rattle.conf_lex.specs.Leaves.{symbol_leaf, name_leaf}
use Rattle.syntax_laws.proofs.Parts.{Small, more_room, chain_small, part_small, start_small, one_is, seq_is, either_is, symbol_is, name_is, some_words}
use Rattle.syntax_laws.proofs.Rows.{Seen, both_of, more_of, many_told}
use Rattle.conf_ast.specs.declared.filters.Num.TheVariants as nums
use Rattle.conf_ast.specs.declared.filters.Item.{Item}
use Rattle.conf_ast.specs.declared.filters.Item.TheVariants as items
use Rattle.conf_ast.specs.declared.filters.Arm.{Arm}
use Rattle.conf_ast.specs.declared.filters.Stmt.{Stmt}
use Rattle.expr_syntax.specs.Syntax.{rule, optional, many, is_num, pair_item, prefix_item, item, stmt, label, label_end, unnamed_item, label_of_name, arm_part}
use Rattle.expr_syntax.specs.ItemView.{high_tree, item_tree, items_after, label_tree, label_end_tree}
use Rattle.filt_syntax.specs.StatementView.{stmt_tree, as_part, as_label, body_after, ArmParts, arms_after, arms_of}
use Rattle.expr_syntax.proofs.Tested.{solid_at}
use Rattle.filt_syntax.proofs.ArmSteps.{body_more}
use Rattle.syntax_laws.proofs.ItemsTold.{high_told, item_told}
use Rattle.syntax_laws.proofs.ExprTold.{vec}

-- ---- labels

-- labels and the tree that they are seen as
pub record Labels (see : List Item → ParseTree) (t : ParseTree) : Type 0 where
  pub labels : List Item
  pub seen : see labels ≡ t
  pub few : length labels + 1 ≤ length (yield t)

abbrev next_item : Item → ParseTree
next_item i = Pair (symbol_leaf symbols.Comma) (item_tree i)

items_more : (t : ParseTree) (is : List Item) (i : Item) → items_after t (is ++ i ∷ []) ≡ Snoc (items_after t is) (next_item i)
items_more t [] i = refl
items_more t (j ∷ is) i = items_more (Snoc t (next_item j)) is i

next_told : (n : ℕ) (b : ParseTree) → Small n b → DerivesLongest rule b (Seq (Terminal (symbol symbols.Comma)) item) → Seen next_item b
next_told n b s h =
    let p = seq_is rule n b (Terminal (symbol symbols.Comma)) item (more_room n b s) h in
    let x = item_told n p.right p.right_small p.right_fits in
    (x.0, both_of (symbol_leaf symbols.Comma) (item_tree x.0) p.left p.right (sym (symbol_is rule p.left symbols.Comma refl p.left_fits)) x.1 ∙ sym p.is)

-- the items behind the first of a label, and the colon
end_told : (n : ℕ) (t : ParseTree) → Small n t → DerivesLongest rule t label_end → Labels label_end_tree t
end_told n t s h =
    let p = seq_is rule n t (many (Seq (Terminal (symbol symbols.Comma)) item)) (Terminal (symbol symbols.Colon)) (more_room n t s) h in
    let r = many_told rule n (Seq (Terminal (symbol symbols.Comma)) item) (solid_at (Seq (Terminal (symbol symbols.Comma)) item) refl) refl next_item (next_told n) (λ is. items_after (Single NoWords) is) refl (items_more (Single NoWords)) p.left (more_room n p.left p.left_small) p.left_fits in
    let colon = symbol_is rule p.right symbols.Colon refl p.right_fits in
    record {
      labels = r.items;
      seen = both_of (items_after (Single NoWords) r.items) (symbol_leaf symbols.Colon) p.left p.right r.seen (sym colon) ∙ sym p.is;
      few = omega (arith, r.few, ap (λ (u : ParseTree). length (yield u)) p.is, length-append (yield p.left) (yield p.right), ap (λ (u : ParseTree). length (yield u)) colon);
    }

label_told : (n : ℕ) (t : ParseTree) → Small n t → DerivesLongest rule t label → Labels label_tree t
label_told n t s h =
    let p = seq_is rule n t item label_end (more_room n t s) h in
    let x = item_told n p.left p.left_small p.left_fits in
    let r = end_told n p.right p.right_small p.right_fits in
    record {
      labels = x.0 ∷ r.labels;
      seen = both_of (item_tree x.0) (label_end_tree r.labels) p.left p.right x.1 r.seen ∙ sym p.is;
      few = omega (arith, r.few, ap (λ (u : ParseTree). length (yield u)) p.is, length-append (yield p.left) (yield p.right), some_words rule p.left item (solid_at item refl) refl p.left_fits);
    }

abbrev as_row : List Item → ParseTree
as_row is = as_label (label_tree is)

number_word : (w : Word) → number (kind_of w) ≡ true → (at value : ℕ) × (w ≡ words.Number at value)
number_word (words.Number at value) e = (at, value, refl)
number_word (words.Symbol symbols.Router) e = absurd cc
number_word (words.Placed at symbols.Router) e = absurd cc
number_word _ e = absurd cc

-- a label behind an arm, that no name begins
unnamed_label : (n : ℕ) (t : ParseTree) → Small n t → DerivesLongest rule t (Seq unnamed_item label_end) → Labels as_row (Right (Left t))
unnamed_label n t s h =
    let p = seq_is rule n t unnamed_item label_end (more_room n t s) h in
    let r = end_told n p.right p.right_small p.right_fits in
    let first = some_words rule p.left unnamed_item (solid_at unnamed_item refl) refl p.left_fits in
    let few : length (r.labels) + 2 ≤ length (yield t) = omega (arith, r.few, ap (λ (u : ParseTree). length (yield u)) p.is, length-append (yield p.left) (yield p.right), first) in
    elim (either_is rule n p.left (Seq (Terminal number) (optional (Seq (Terminal (symbol symbols.Range)) (Terminal is_num)))) (Alt pair_item prefix_item) (more_room n p.left p.left_small) p.left_fits) [
      | inl a ↦
          let q = seq_is rule n a.part (Terminal number) (optional (Seq (Terminal (symbol symbols.Range)) (Terminal is_num))) (more_room n a.part a.small) a.fits in
          let w = one_is rule q.left number q.left_fits in
          let v = number_word w.word w.passes in
          let high = high_told n q.right (more_room n q.right q.right_small) q.right_fits in
          let it : Item = items.Range (record { low = nums.Number v.0 v.1; high = high.0 }) in
          let left = ap (λ (u : ParseTree). Left u) (both_of (Leaf (words.Number v.0 v.1)) (high_tree high.0) q.left q.right (sym (w.is ∙ ap (λ (u : Word). Leaf u) v.2)) high.1 ∙ sym q.is) ∙ sym a.is in
          record {
            labels = it ∷ r.labels;
            seen = ap (λ (u : ParseTree). Right (Left u)) (both_of (Left (Pair (Leaf (words.Number v.0 v.1)) (high_tree high.0))) (label_end_tree r.labels) p.left p.right left r.seen ∙ sym p.is);
            few = omega (arith, few);
          }
      | inr b ↦
          let x = item_other n b.part b.small b.fits in
          record {
            labels = x.0 ∷ r.labels;
            seen = x.2 (label_end_tree r.labels) ∙ ap (λ (u : ParseTree). Right (Left u)) (both_of (item_tree x.0) (label_end_tree r.labels) p.left p.right (x.1 ∙ sym b.is) r.seen ∙ sym p.is);
            few = omega (arith, few);
          }
    ]
  where
    -- an item that is no part
    is_other : (i : Item) (u : ParseTree) → item_tree i ≡ Right u → (end : ParseTree) → as_label (Pair (item_tree i) end) ≡ Right (Left (Pair (item_tree i) end))
    is_other (items.Range p) u e end = absurd cc
    is_other (items.Pair at a b) u e end = refl
    is_other (items.Prefix at net l) u e end = refl

    item_other : (n : ℕ) (u : ParseTree) → Small n u → DerivesLongest rule u (Alt pair_item prefix_item) → (i : Item) × (item_tree i ≡ Right u) × ((end : ParseTree) → as_label (Pair (item_tree i) end) ≡ Right (Left (Pair (item_tree i) end)))
    item_other n u s fits =
        let room : Small (suc n) (Right u) = record { parts = omega (arith, s.parts); short = s.short } in
        let x = item_told (suc n) (Right u) room fits in
        (x.0, x.1, is_other x.0 u x.1)

-- one that a name begins
named_label : (n : ℕ) (l t : ParseTree) → Small n t → DerivesLongest rule l (Terminal name) → DerivesLongest rule t label_of_name → Labels as_row (Left (Pair l (Right t)))
named_label n l t s named h =
    let m = name_is rule l named in
    let p = seq_is rule n t (optional (Seq (Terminal (symbol symbols.Range)) (Terminal is_num))) label_end (more_room n t s) h in
    let high = high_told n p.left (more_room n p.left p.left_small) p.left_fits in
    let r = end_told n p.right p.right_small p.right_fits in
    record {
      labels = items.Range (record { low = nums.Name m.0; high = high.0 }) ∷ r.labels;
      seen = ap (λ (u : ParseTree). Left u) (both_of (name_leaf m.0) (Right (Pair (high_tree high.0) (label_end_tree r.labels))) l (Right t) (sym m.1) (ap (λ (u : ParseTree). Right u) (both_of (high_tree high.0) (label_end_tree r.labels) p.left p.right high.1 r.seen ∙ sym p.is)));
      few = omega (arith, r.few, ap (λ (u : ParseTree). length (yield u)) p.is, length-append (yield p.left) (yield p.right), ap (λ (u : ParseTree). length (yield u)) m.1, length-append (yield l) (yield t));
    }

-- ---- arms as lists of items and of statements

abbrev Plain : Type 0
Plain = List Item × List Stmt

abbrev parts_of : Plain → ArmParts
parts_of x = (x.0, map stmt_tree x.1)

-- how many arms, labels and statements there are
abbrev total : List Plain → ℕ
total [] = 0
total (x ∷ xs) = 1 + length x.0 + length x.1 + total xs

-- a statement more in the last arm
abbrev add : Plain → List Plain → Stmt → List Plain
add x [] s = (x.0, x.1 ++ s ∷ []) ∷ []
add x (y ∷ ys) s = x ∷ add y ys s

total_add : (x : Plain) (xs : List Plain) (s : Stmt) → total (add x xs s) ≡ 1 + total (x ∷ xs)
total_add x [] s = omega (arith, length-append x.1 (s ∷ []))
total_add x (y ∷ ys) s = omega (arith, total_add y ys s)

total_append : (xs : List Plain) (x : Plain) → total (xs ++ x ∷ []) ≡ total xs + total (x ∷ [])
total_append [] x = omega arith
total_append (y ∷ xs) x = omega (arith, total_append xs x)

-- arms behind others
abbrev rows : ParseTree → List Plain → ParseTree
rows t xs = arms_after t (map parts_of xs)

add_after : (t : ParseTree) (x : Plain) (xs : List Plain) (s : Stmt) → rows t (add x xs s) ≡ Snoc (rows t (x ∷ xs)) (as_part (stmt_tree s))
add_after t x [] s = body_more (Snoc t (as_label (label_tree x.0))) x.1 s
add_after t x (y ∷ ys) s = add_after (body_after (Snoc t (as_label (label_tree x.0))) (map stmt_tree x.1)) y ys s

label_after : (t : ParseTree) (xs : List Plain) (l : List Item) → rows t (xs ++ (l, []) ∷ []) ≡ Snoc (rows t xs) (as_label (label_tree l))
label_after t [] l = refl
label_after t (x ∷ xs) l = label_after (body_after (Snoc t (as_label (label_tree x.0))) (map stmt_tree x.1)) xs l

-- a row of arms, by its first arm and those behind it
abbrev row_of : Plain → List Plain → ParseTree
row_of x xs = rows (body_after (Single (label_tree x.0)) (map stmt_tree x.1)) xs

pub record Arms (t : ParseTree) : Type 0 where
  pub first : Plain
  pub others : List Plain
  pub seen : row_of first others ≡ t
  pub few : total (first ∷ others) ≤ length (yield t)

module _ (n : ℕ) (to_stmt : (t : ParseTree) → Small n t → DerivesLongest rule t stmt → Seen stmt_tree t) where
  -- a part of the row is a statement of the arm before it, or the label of the next one
  part_told : (b : ParseTree) → Small n b → DerivesLongest rule b arm_part → ((s : Stmt) × (as_part (stmt_tree s) ≡ b)) ⊎ Labels as_row b
  part_told (Left (Pair l (Left d))) s h =
      let room : Small n (Left (Pair l d)) = record { parts = omega (arith, s.parts); short = s.short } in
      let x = to_stmt (Left (Pair l d)) room (h.0, h.1, h.2) in
      inl (x.0, ap (λ (u : ParseTree). as_part u) x.1)
  part_told (Left (Pair l (Right e))) s h = inr (named_label n l e (record { parts = omega (arith, s.parts); short = omega (arith, s.short, length-append (yield l) (yield e)) }) h.0 h.1)
  part_told (Left (Pair l _)) s h = absurd h.1
  part_told (Left _) s h = absurd h
  part_told (Right (Left u)) s h = inr (unnamed_label n u (record { parts = omega (arith, s.parts); short = s.short }) h)
  part_told (Right (Right u)) s h =
      let room : Small n (Right u) = record { parts = omega (arith, s.parts); short = s.short } in
      let x = to_stmt (Right u) room h in
      inl (x.0, ap (λ (u : ParseTree). as_part u) x.1)
  part_told (Right _) s h = absurd h
  part_told _ s h = absurd h

  with_stmt : (t b : ParseTree) (r : Arms t) (s : Stmt) → as_part (stmt_tree s) ≡ b → 1 ≤ length (yield b) → Arms (Snoc t b)
  with_stmt t b r s is some = by_others r.others r.seen r.few
    where
      by_others : (xs : List Plain) → row_of r.first xs ≡ t → total (r.first ∷ xs) ≤ length (yield t) → Arms (Snoc t b)
      by_others [] seen few = record {
        first = (r.first.0, r.first.1 ++ s ∷ []);
        others = [];
        seen = body_more (Single (label_tree r.first.0)) r.first.1 s ∙ more_of (row_of r.first []) (as_part (stmt_tree s)) t b seen is;
        few = omega (arith, few, some, length-append r.first.1 (s ∷ []), length-append (yield t) (yield b));
      }
      by_others (x ∷ xs) seen few = record {
        first = r.first;
        others = add x xs s;
        seen = add_after (body_after (Single (label_tree r.first.0)) (map stmt_tree r.first.1)) x xs s ∙ more_of (row_of r.first (x ∷ xs)) (as_part (stmt_tree s)) t b seen is;
        few = omega (arith, few, some, total_add x xs s, length-append (yield t) (yield b));
      }

  with_label : (t b : ParseTree) (r : Arms t) (l : Labels as_row b) → Arms (Snoc t b)
  with_label t b r l = record {
    first = r.first;
    others = r.others ++ (l.labels, []) ∷ [];
    seen = label_after (body_after (Single (label_tree r.first.0)) (map stmt_tree r.first.1)) r.others l.labels ∙ more_of (row_of r.first r.others) (as_row l.labels) t b r.seen l.seen;
    few = omega (arith, r.few, l.few, total_append r.others (l.labels, []), length-append (yield t) (yield b));
  }

  pub arms_told : (t : ParseTree) → Small (suc n) t → DerivesLongest rule t (Repeat label arm_part) → Arms t
  arms_told (Single a) s h =
      let l = label_told n a (start_small n a s) h in
      record { first = (l.labels, []); others = []; seen = ap (λ (u : ParseTree). Single u) l.seen; few = omega (arith, l.few) }
  arms_told (Snoc t b) s h =
      let r = arms_told t (more_room n t (chain_small n t b s)) h.0 in
      elim (part_told b (part_small n t b s) h.1) [
        | inl x ↦ with_stmt t b r x.0 x.1 (some_words rule b arm_part (solid_at arm_part refl) refl h.1)
        | inr l ↦ with_label t b r l
      ]
  arms_told _ s h = absurd h

-- the same arms in memory
pub to_arms : (xs : List Plain) → total xs < 2 ^ 63 → (as_ : List (Arm Stmt)) × (arms_of as_ ≡ map parts_of xs) × (length as_ ≤ total xs)
to_arms [] few = ([], refl, omega arith)
to_arms (x ∷ xs) few =
    let r = to_arms xs (omega (arith, few)) in
    let a : Arm Stmt = record { labels = vec x.0 (omega (arith, few)); body = vec x.1 (omega (arith, few)) } in
    (a ∷ r.0, ap (λ (l : List ArmParts). parts_of x ∷ l) r.1, omega (arith, r.2))
