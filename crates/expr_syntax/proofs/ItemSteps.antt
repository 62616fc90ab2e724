-- Reading items, one step of the parser after another.
use Rattle.std.proofs.Common.{◌≡◌, ℕ, zero, suc, ◌+◌, ◌<◌, ◌≤◌, Bool, true, false, cond, ◌||◌, List, [], ◌∷◌, ◌++◌, length, refl, sym as flip, ap, ◌∙◌, arith, inl, inr}
use Rattle.std.proofs.lemmas.List.{length-append}
use Rattle.conf_lex.specs.declared.symbol.Symbol.TheVariants as sym
use Rattle.conf_lex.specs.declared.word.Word.{Word}
use Rattle.conf_lex.specs.declared.word.Word.TheVariants as words
use Rattle.conf_lex.specs.Kind.{Kind, kind_of, prefix, symbol}
use Rattle.conf_lex.specs.Grammar.{Terminal, Epsilon, Seq, ParseTree, Leaf, NoWords, Pair, Left, Right, Single, Snoc, begins, first_set, yield, TooDeep}
use Rattle.conf_lex.specs.Reading.{Read, Parsed, Failed, Reader, and_then, word, both, turns, read}
use Rattle.conf_lex.specs.PartShapes.{links, with_optional, closed}
use Rattle.conf_lex.specs.Leaves.{symbol_leaf}
use Rattle.conf_lex.specs.Agrees.{AgreesOnError}
use Rattle.conf_lex.specs.declared.refusal.Refusal.{Refusal}
use Rattle.conf_lex.proofs.Good.{fits_front}
use Rattle.conf_lex.proofs.Chains.{turn, full_words}
use Rattle.conf_lex.proofs.PartShapes.{fails_then, fails_along, then_then, bool_cases, Turns, closed_is, shorter}
use Rattle.expr_syntax.specs.Syntax.{is_num, item, mask_item, rule}
use Rattle.conf_ast.specs.declared.filters.Item.{Item}
use Rattle.conf_ast.specs.declared.filters.MaskItem.{MaskItem}
use Rattle.expr_syntax.specs.ItemView.{item_tree, items_after, items_tree, mask_item_tree, mask_after, mask_items_tree, label_tree}
use Rattle.expr_syntax.specs.ItemReaders.{num_range_at, pair_part_at, pair_at, bounds_at, lengths_at, item_at, items_at, mask_atom_at, mask_item_at, mask_items_at, mask_row_at, label_at}
use Rattle.expr_syntax.proofs.Picks.{maps2}
use Rattle.expr_syntax.proofs.Tested.{model, after, checked, good_at, next_at, solid_at}

-- ---- parts

pub part_is : (k : ℕ) (ws : List Word) → num_range_at k ws ≡ with_optional (symbol sym.Range) (word is_num) (word is_num) ws
unfolding num_range_at with_optional
part_is zero ws = refl
part_is (suc k) ws = refl

pub pair_part_any : (k : ℕ) (ws u : List Word) → ws ≡ words.Symbol sym.Star ∷ u → pair_part_at k ws ≡ Parsed (Left (symbol_leaf sym.Star)) u
unfolding pair_part_at
pair_part_any zero ws u is = rw is refl
pair_part_any (suc k) ws u is = rw is refl

pub pair_part_some : (k : ℕ) (ws : List Word) → begins (symbol sym.Star) ws ≡ false → pair_part_at k ws ≡ and_then (num_range_at 0 ws) (λ b u. Parsed (Right b) u)
unfolding pair_part_at num_range_at
pair_part_some zero ws none = rw none refl
pair_part_some (suc k) ws none = rw none refl

pub pair_is : (k : ℕ) (ws : List Word) → pair_at k ws ≡ both (pair_part_at 0) (both (word (symbol sym.Comma)) (pair_part_at 0)) ws
unfolding pair_at pair_part_at
pair_is zero ws = refl
pair_is (suc k) ws = refl

pub bounds_is : (k : ℕ) (ws : List Word) → bounds_at k ws ≡ both (word is_num) (both (word (symbol sym.Comma)) (word is_num)) ws
unfolding bounds_at
bounds_is zero ws = refl
bounds_is (suc k) ws = refl

-- ---- lengths

pub lengths_longer : (k : ℕ) (ws u : List Word) → ws ≡ words.Symbol sym.Plus ∷ u → lengths_at k ws ≡ Parsed (Left (Left (symbol_leaf sym.Plus))) u
unfolding lengths_at
lengths_longer zero ws u is = rw is refl
lengths_longer (suc k) ws u is = rw is refl

pub lengths_shorter : (k : ℕ) (ws u : List Word) → ws ≡ words.Symbol sym.Minus ∷ u → lengths_at k ws ≡ Parsed (Left (Left (symbol_leaf sym.Minus))) u
unfolding lengths_at
lengths_shorter zero ws u is = rw is refl
lengths_shorter (suc k) ws u is = rw is refl

pub lengths_none : (k : ℕ) (ws : List Word) → begins (symbol sym.Plus) ws ≡ false → begins (symbol sym.Minus) ws ≡ false → begins (symbol sym.OpenBrace) ws ≡ false → lengths_at k ws ≡ Parsed (Right NoWords) ws
unfolding lengths_at
lengths_none zero [] a b c = refl
lengths_none (suc k) [] a b c = refl
lengths_none zero (w ∷ ws) a b c = rw (a, b, c) refl
lengths_none (suc k) (w ∷ ws) a b c = rw (a, b, c) refl

pub braced_deep : (k : ℕ) (ws u : List Word) → k ≡ 0 → ws ≡ words.Symbol sym.OpenBrace ∷ u → lengths_at k ws ≡ Failed TooDeep ws
unfolding lengths_at
braced_deep zero ws u none is = rw is refl
braced_deep (suc k) ws u none is = absurd (omega arith)

pub braced_is : (k b : ℕ) (ws u : List Word) → b + 1 ≡ k → ws ≡ words.Symbol sym.OpenBrace ∷ u → lengths_at k ws ≡ and_then (closed (words.Symbol sym.OpenBrace) (bounds_at 0) sym.CloseBrace u) (λ t v. Parsed (Left (Right t)) v)
unfolding lengths_at bounds_at
braced_is zero b ws u below is = absurd (omega arith)
braced_is (suc zero) b ws u below is = rw (is, ← closed_is (words.Symbol sym.OpenBrace) sym.CloseBrace (bounds_at 0) u) (maps2 _ (λ t. Right t) (λ t. Left t))
braced_is (suc (suc k)) b ws u below is = rw (is, ← closed_is (words.Symbol sym.OpenBrace) sym.CloseBrace (bounds_at 0) u) (maps2 _ (λ t. Right t) (λ t. Left t))

-- ---- items

pub pair_deep : (k at : ℕ) (ws u : List Word) → k ≡ 0 → ws ≡ words.Placed at sym.OpenParenthesis ∷ u → item_at k ws ≡ Failed TooDeep ws
unfolding item_at
pair_deep zero at ws u none is = rw is refl
pair_deep (suc k) at ws u none is = absurd (omega arith)

pub pair_item_is : (k b at : ℕ) (ws u : List Word) → b + 1 ≡ k → ws ≡ words.Placed at sym.OpenParenthesis ∷ u → item_at k ws ≡ and_then (closed (words.Placed at sym.OpenParenthesis) (pair_at 0) sym.CloseParenthesis u) (λ t v. Parsed (Right (Left t)) v)
unfolding item_at pair_at
pair_item_is zero b at ws u below is = absurd (omega arith)
pair_item_is (suc zero) b at ws u below is = rw (is, ← closed_is (words.Placed at sym.OpenParenthesis) sym.CloseParenthesis (pair_at 0) u) (maps2 _ (λ t. Left t) (λ t. Right t))
pair_item_is (suc (suc k)) b at ws u below is = rw (is, ← closed_is (words.Placed at sym.OpenParenthesis) sym.CloseParenthesis (pair_at 0) u) (maps2 _ (λ t. Left t) (λ t. Right t))

prefix_map : (x : Read) (w : Word) → and_then (and_then (and_then x (λ l v. Parsed (Pair (Leaf w) l) v)) (λ t v. Parsed (Right t) v)) (λ t v. Parsed (Right t) v) ≡ and_then x (λ l v. Parsed (Right (Right (Pair (Leaf w) l))) v)
prefix_map (Parsed l v) w = refl
prefix_map (Failed why v) w = refl

pub prefix_item_is : (k at : ℕ) (net : _) (ws u : List Word) → ws ≡ words.Prefix at net ∷ u → item_at k ws ≡ and_then (lengths_at k u) (λ l v. Parsed (Right (Right (Pair (Leaf (words.Prefix at net)) l))) v)
unfolding item_at lengths_at
prefix_item_is zero at net ws u is = rw is (prefix_map (lengths_at 0 u) (words.Prefix at net))
prefix_item_is (suc k) at net ws u is = rw is (prefix_map (lengths_at (suc k) u) (words.Prefix at net))

-- what no bracket and no prefix begins is a part, or nothing
pub item_part : (k : ℕ) (ws : List Word) → begins (symbol sym.OpenParenthesis) ws ≡ false → begins prefix ws ≡ false → item_at k ws ≡ and_then (num_range_at 0 ws) (λ t u. Parsed (Left t) u)
unfolding item_at num_range_at
item_part zero [] a b = refl
item_part (suc k) [] a b = refl
item_part zero (w ∷ ws) a b = elim (bool_cases (is_num (kind_of w))) [
  | inl here ↦ rw here refl
  | inr none ↦ rw (none, a, b) refl
]
item_part (suc k) (w ∷ ws) a b = elim (bool_cases (is_num (kind_of w))) [
  | inl here ↦ rw here refl
  | inr none ↦ rw (none, a, b) refl
]

pub item_turns : (k : ℕ) → Turns (symbol sym.Comma) (item_at k)
unfolding links item_at
item_turns zero = turn rule 0 item (Seq (Terminal (symbol sym.Comma)) item) (item_at 0) (both (word (symbol sym.Comma)) (item_at 0)) (next_at item (Seq (Terminal (symbol sym.Comma)) item) refl) (good_at 0 item refl) (good_at 0 (Seq (Terminal (symbol sym.Comma)) item) refl)
item_turns (suc k) = turn rule (suc k) item (Seq (Terminal (symbol sym.Comma)) item) (item_at (suc k)) (both (word (symbol sym.Comma)) (item_at (suc k))) (next_at item (Seq (Terminal (symbol sym.Comma)) item) refl) (good_at (suc k) item refl) (good_at (suc k) (Seq (Terminal (symbol sym.Comma)) item) refl)

pub items_is : (k : ℕ) (ws : List Word) → items_at k ws ≡ and_then (item_at k ws) (λ a rest. links (symbol sym.Comma) (item_at k) (Single a) rest)
unfolding links item_at items_at
items_is zero ws = refl
items_is (suc k) ws = refl

pub item_shorter : (k : ℕ) (ws : List Word) (t : ParseTree) (rest : List Word) → item_at k ws ≡ Parsed t rest → length rest ≤ length ws
unfolding item_at
item_shorter k ws t rest got = shorter rule model after checked k item refl ws t rest got

abbrev behind_comma : Item → ParseTree
behind_comma i = Pair (symbol_leaf sym.Comma) (item_tree i)

items_more : (t : ParseTree) (is : List Item) (i : Item) → items_after t (is ++ i ∷ []) ≡ Snoc (items_after t is) (behind_comma i)
items_more t [] i = refl
items_more t (j ∷ is) i = items_more (Snoc t (behind_comma j)) is i

pub one_more_item : (is : List Item) (i : Item) → 0 < length is → items_tree (is ++ i ∷ []) ≡ Snoc (items_tree is) (behind_comma i)
one_more_item [] i some = absurd (omega arith)
one_more_item (j ∷ is) i some = items_more (Single (item_tree j)) is i

-- ---- labels

-- the first of a chain, and the chain without it
abbrev head : ParseTree → ParseTree
head (Single a) = a
head (Snoc t b) = head t
head t = t

abbrev behind : ParseTree → ParseTree
behind (Single a) = Single NoWords
behind (Snoc t b) = Snoc (behind t) b
behind t = t

turns_split : (p : Kind → Bool) (s : Reader) (g : ParseTree → ParseTree → List Word → Read) (n : ℕ) (t : ParseTree) (ws : List Word) → and_then (turns p s n (behind t) ws) (λ m v. g (head t) m v) ≡ and_then (turns p s n t ws) (λ m v. g (head m) (behind m) v)
turns_split p s g zero t ws = refl
turns_split p s g (suc n) t ws = by_next (begins p ws) (s ws) (λ (b : ParseTree) (rest : List Word). turns_split p s g n (Snoc t b) rest)
  where
    by_next : (b : Bool) (x : Read) → ((b : ParseTree) (rest : List Word) → and_then (turns p s n (Snoc (behind t) b) rest) (λ m v. g (head t) m v) ≡ and_then (turns p s n (Snoc t b) rest) (λ m v. g (head m) (behind m) v)) → and_then (cond b (and_then x (λ m v. turns p s n (Snoc (behind t) m) v)) (Parsed (behind t) ws)) (λ m v. g (head t) m v) ≡ and_then (cond b (and_then x (λ m v. turns p s n (Snoc t m) v)) (Parsed t ws)) (λ m v. g (head m) (behind m) v)
    by_next true (Parsed b rest) after_turn = after_turn b rest
    by_next true (Failed why rest) after_turn = refl
    by_next false x after_turn = refl

abbrev with_colon : ParseTree → ParseTree → List Word → Read
with_colon h m v = and_then (and_then (word (symbol sym.Colon) v) (λ c w. Parsed (Pair m c) w)) (λ e w. Parsed (Pair h e) w)

links_split : (r : Reader) (t : ParseTree) (ws : List Word) → and_then (links (symbol sym.Comma) r (behind t) ws) (λ m v. with_colon (head t) m v) ≡ and_then (links (symbol sym.Comma) r t ws) (λ m v. with_colon (head m) (behind m) v)
unfolding links
links_split r t ws = turns_split (λ k. symbol sym.Comma k || false) (both (word (symbol sym.Comma)) r) with_colon (length ws) t ws

label_steps : (r : Reader) (x : Read) → and_then x (λ a u. and_then (and_then (links (symbol sym.Comma) r (Single NoWords) u) (λ m v. and_then (word (symbol sym.Colon) v) (λ c w. Parsed (Pair m c) w))) (λ e w. Parsed (Pair a e) w)) ≡ and_then (and_then x (λ a u. links (symbol sym.Comma) r (Single a) u)) (λ m v. with_colon (head m) (behind m) v)
label_steps r (Parsed a u) = then_then (links (symbol sym.Comma) r (Single NoWords) u) (λ m v. and_then (word (symbol sym.Colon) v) (λ c w. Parsed (Pair m c) w)) (λ e w. Parsed (Pair a e) w) ∙ links_split r (Single a) u
label_steps r (Failed why u) = refl

label_form : (k : ℕ) (ws : List Word) → label_at k ws ≡ and_then (item_at k ws) (λ a u. and_then (and_then (links (symbol sym.Comma) (item_at k) (Single NoWords) u) (λ m v. and_then (word (symbol sym.Colon) v) (λ c w. Parsed (Pair m c) w))) (λ e w. Parsed (Pair a e) w))
unfolding label_at item_at links
label_form zero ws = refl
label_form (suc k) ws = refl

label_is : (k : ℕ) (ws : List Word) → label_at k ws ≡ and_then (items_at k ws) (λ m v. with_colon (head m) (behind m) v)
label_is k ws = label_form k ws ∙ label_steps (item_at k) (item_at k ws) ∙ ap (λ (x : Read). and_then x (λ m v. with_colon (head m) (behind m) v)) (flip (items_is k ws))

head_items : (t : ParseTree) (is : List Item) → head (items_after t is) ≡ head t
head_items t [] = refl
head_items t (i ∷ is) = head_items (Snoc t (behind_comma i)) is

behind_items : (t : ParseTree) (is : List Item) → behind (items_after t is) ≡ items_after (behind t) is
behind_items t [] = refl
behind_items t (i ∷ is) = behind_items (Snoc t (behind_comma i)) is

pub label_items_fail : (k : ℕ) (ws : List Word) (e : Refusal) → AgreesOnError e (items_at k ws) → AgreesOnError e (label_at k ws)
label_items_fail k ws e failed = fails_along e _ _ (label_is k ws) (fails_then e (items_at k ws) (λ m v. with_colon (head m) (behind m) v) failed)

pub label_colon_fails : (k : ℕ) (ws : List Word) (m : ParseTree) (rest : List Word) (e : Refusal) → items_at k ws ≡ Parsed m rest → AgreesOnError e (word (symbol sym.Colon) rest) → AgreesOnError e (label_at k ws)
label_colon_fails k ws m rest e got failed =
    fails_along e _ (with_colon (head m) (behind m) rest) (label_is k ws ∙ rw got refl)
    (fails_then e (and_then (word (symbol sym.Colon) rest) (λ c w. Parsed (Pair (behind m) c) w)) (λ t w. Parsed (Pair (head m) t) w) (fails_then e (word (symbol sym.Colon) rest) (λ c w. Parsed (Pair (behind m) c) w) failed))

pub label_got : (k : ℕ) (ws : List Word) (is : List Item) (rest end : List Word) → 0 < length is → items_at k ws ≡ Parsed (items_tree is) rest → rest ≡ words.Symbol sym.Colon ∷ end → label_at k ws ≡ Parsed (label_tree is) end
label_got k ws [] rest end some got colon = absurd (omega arith)
label_got k ws (i ∷ is) rest end some got colon = label_is k ws ∙ rw (got, colon, head_items (Single (item_tree i)) is, behind_items (Single (item_tree i)) is) refl

-- ---- masks

pub mask_atom_one : (k : ℕ) (ws u : List Word) → ws ≡ words.Symbol sym.Question ∷ u → mask_atom_at k ws ≡ Parsed (Left (symbol_leaf sym.Question)) u
unfolding mask_atom_at
mask_atom_one zero ws u is = rw is refl
mask_atom_one (suc k) ws u is = rw is refl

pub mask_atom_any : (k : ℕ) (ws u : List Word) → ws ≡ words.Symbol sym.Star ∷ u → mask_atom_at k ws ≡ Parsed (Left (symbol_leaf sym.Star)) u
unfolding mask_atom_at
mask_atom_any zero ws u is = rw is refl
mask_atom_any (suc k) ws u is = rw is refl

pub mask_atom_part : (k : ℕ) (ws : List Word) → begins (symbol sym.Question) ws ≡ false → begins (symbol sym.Star) ws ≡ false → mask_atom_at k ws ≡ and_then (num_range_at 0 ws) (λ t u. Parsed (Right t) u)
unfolding mask_atom_at num_range_at
mask_atom_part zero [] a b = refl
mask_atom_part (suc k) [] a b = refl
mask_atom_part zero (w ∷ ws) a b = rw (a, b) refl
mask_atom_part (suc k) (w ∷ ws) a b = rw (a, b) refl

pub mask_item_fails : (k : ℕ) (ws : List Word) (e : Refusal) → AgreesOnError e (mask_atom_at k ws) → AgreesOnError e (mask_item_at k ws)
unfolding mask_item_at mask_atom_at
mask_item_fails zero ws e failed = fails_then e (mask_atom_at 0 ws) _ failed
mask_item_fails (suc k) ws e failed = fails_then e (mask_atom_at (suc k) ws) _ failed

pub mask_item_many : (k : ℕ) (ws : List Word) (a : ParseTree) (rest end : List Word) → mask_atom_at k ws ≡ Parsed a rest → rest ≡ words.Symbol sym.Plus ∷ end → mask_item_at k ws ≡ Parsed (Pair a (Left (symbol_leaf sym.Plus))) end
unfolding mask_item_at mask_atom_at
mask_item_many zero ws a rest end got is = rw (got, is) refl
mask_item_many (suc k) ws a rest end got is = rw (got, is) refl

pub mask_item_once : (k : ℕ) (ws : List Word) (a : ParseTree) (rest : List Word) → mask_atom_at k ws ≡ Parsed a rest → begins (symbol sym.Plus) rest ≡ false → mask_item_at k ws ≡ Parsed (Pair a (Right NoWords)) rest
unfolding mask_item_at mask_atom_at
mask_item_once zero ws a rest got none = rw (got, none) refl
mask_item_once (suc k) ws a rest got none = rw (got, none) refl

pub mask_is : (k : ℕ) (ws : List Word) → mask_items_at k ws ≡ mask_row_at (Single NoWords) ws
unfolding mask_items_at mask_row_at mask_item_at
mask_is zero ws = refl
mask_is (suc k) ws = refl

mask_turn : (t : ParseTree) (ws : List Word) → mask_row_at t ws ≡ cond (begins (first_set mask_item) ws) (and_then (mask_item_at 0 ws) (λ b u. mask_row_at (Snoc t b) u)) (Parsed t ws)
unfolding mask_row_at mask_item_at
mask_turn t ws = turn rule 0 Epsilon mask_item (read rule 0 Epsilon) (read rule 0 mask_item) (next_at Epsilon mask_item refl) (good_at 0 Epsilon refl) (good_at 0 mask_item refl) t ws

pub mask_row_end : (t : ParseTree) (ws : List Word) → begins (first_set mask_item) ws ≡ false → mask_row_at t ws ≡ Parsed t ws
mask_row_end t ws none = mask_turn t ws ∙ rw none refl

pub mask_row_more : (t : ParseTree) (ws : List Word) (b : ParseTree) (rest : List Word) → begins (first_set mask_item) ws ≡ true → mask_item_at 0 ws ≡ Parsed b rest → mask_row_at t ws ≡ mask_row_at (Snoc t b) rest
mask_row_more t ws b rest here got = mask_turn t ws ∙ rw (here, got) refl

pub mask_row_fails : (t : ParseTree) (ws : List Word) (e : Refusal) → begins (first_set mask_item) ws ≡ true → AgreesOnError e (mask_item_at 0 ws) → AgreesOnError e (mask_row_at t ws)
mask_row_fails t ws e here failed = fails_along e (mask_row_at t ws) (and_then (mask_item_at 0 ws) (λ b u. mask_row_at (Snoc t b) u)) (mask_turn t ws ∙ rw here refl) (fails_then e (mask_item_at 0 ws) (λ b u. mask_row_at (Snoc t b) u) failed)

pub mask_item_shorter : (ws : List Word) (t : ParseTree) (rest : List Word) → mask_item_at 0 ws ≡ Parsed t rest → length rest < length ws
unfolding mask_item_at
mask_item_shorter ws t rest got =
    let taken = (good_at 0 mask_item refl).got ws t rest got in
    let some : 0 < length (yield t) = full_words mask_item (yield t) refl (fits_front rule t mask_item (solid_at mask_item refl) taken.fits) in
    rw taken.front (omega (arith, length-append (yield t) rest))

mask_more : (t : ParseTree) (ms : List MaskItem) (m : MaskItem) → mask_after t (ms ++ m ∷ []) ≡ Snoc (mask_after t ms) (mask_item_tree m)
mask_more t [] m = refl
mask_more t (n ∷ ms) m = mask_more (Snoc t (mask_item_tree n)) ms m

pub one_more_mask_item : (ms : List MaskItem) (m : MaskItem) → mask_items_tree (ms ++ m ∷ []) ≡ Snoc (mask_items_tree ms) (mask_item_tree m)
one_more_mask_item ms m = mask_more (Single NoWords) ms m
