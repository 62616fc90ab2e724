-- Reading the arms of a `case`, one step of the parser after another.
use Rattle.std.proofs.Common.{◌≡◌, ℕ, zero, suc, ◌<◌, Bool, true, false, cond, ◌||◌, List, [], ◌∷◌, ◌++◌, length, map, refl, sym as flip, ap, ◌∙◌, arith, ◌⊎◌, inl, inr}
use Rattle.std.proofs.lemmas.Bool.{false≢true}
use Rattle.conf_lex.specs.declared.symbol.Symbol.{Symbol}
use Rattle.conf_lex.specs.declared.symbol.Symbol.TheVariants as sym
use Rattle.conf_lex.specs.declared.word.Word.{Word}
use Rattle.conf_lex.specs.declared.word.Word.TheVariants as words
use Rattle.conf_lex.specs.Symbols.{is_placed}
use Rattle.conf_lex.specs.Kind.{Kind, kind_of, IsSymbol, number, name, prefix, symbol}
use Rattle.conf_lex.specs.Grammar.{Terminal, Seq, Alt, ParseTree, Leaf, NoWords, Pair, Left, Right, Single, Snoc, Deeper, begins, first_set, yield, Bad}
use Rattle.conf_lex.specs.Reading.{Read, Parsed, Failed, Reader, and_then, word, both, read}
use Rattle.conf_lex.specs.PartShapes.{closed}
use Rattle.conf_lex.specs.Leaves.{symbol_leaf, between}
use Rattle.conf_lex.specs.Agrees.{AgreesOnError}
use Rattle.conf_lex.specs.declared.refusal.Refusal.{Refusal}
use Rattle.conf_lex.proofs.Good.{or_false}
use Rattle.conf_lex.proofs.Good.{fits_front}
use Rattle.conf_lex.proofs.Chains.{turn, full_words}
use Rattle.std.proofs.lemmas.List.{length-append}
use Rattle.conf_ast.specs.declared.filters.Arm.{Arm}
use Rattle.conf_ast.specs.declared.filters.Stmt.{Stmt}
use Rattle.expr_syntax.specs.ItemView.{label_tree}
use Rattle.conf_lex.proofs.PartShapes.{fails_then, fails_along, then_then, word_bad, bool_cases, refuses}
use Rattle.expr_syntax.specs.Syntax.{optional, is_num, pair_item, prefix_item, item, unnamed_item, label_end, label_of_name, label, done_to_name, unnamed_stmt, arm_part, stmt, rule}
use Rattle.expr_syntax.specs.ItemReaders.{label_at, label_end_at}
use Rattle.filt_syntax.specs.StatementView.{as_part, as_label, stmt_tree, body_after, ArmParts, arms_after, arms_chain, arms_row, arms_of}
use Rattle.expr_syntax.specs.Rows.{nth}
use Rattle.filt_syntax.specs.StatementReaders.{stmt_at, unnamed_at, done_at, stmts_at, arm_part_at, arms_at, arm_row_at, otherwise_at, arms_end_at, more_arms_at, labelled_at, label_next, is_behind_name, is_item, arms_over, arm_ends}
use Rattle.expr_syntax.proofs.Tested.{model, after, checked, good_at, next_at, solid_at}
use Rattle.expr_syntax.proofs.Picks.{maps2, picked, alternative, rest_read, seq_read, apart}
use Rattle.filt_syntax.proofs.StatementSteps.{stmt_refused, stmt_begins}

-- ---- a row, turn by turn

row_turn : (k : ℕ) (t : ParseTree) (ws : List Word) → arm_row_at k t ws ≡ cond (begins (first_set arm_part) ws) (and_then (arm_part_at k ws) (λ b u. arm_row_at k (Snoc t b) u)) (Parsed t ws)
unfolding arm_row_at arm_part_at
row_turn k t ws = turn rule k label arm_part (read rule k label) (read rule k arm_part) (next_at label arm_part refl) (good_at k label refl) (good_at k arm_part refl) t ws

more_part : (k : ℕ) (t : ParseTree) (ws : List Word) → begins (first_set arm_part) ws ≡ true → more_arms_at k t ws ≡ and_then (arm_part_at k ws) (λ b u. more_arms_at k (Snoc t b) u)
unfolding more_arms_at
more_part k t ws here = ap (λ (x : Read). and_then x (λ row rest. arms_end_at k (Left row) rest)) (row_turn k t ws ∙ rw here refl) ∙ then_then (arm_part_at k ws) (λ b u. arm_row_at k (Snoc t b) u) (λ row rest. arms_end_at k (Left row) rest)

more_end : (k : ℕ) (t : ParseTree) (ws : List Word) → begins (first_set arm_part) ws ≡ false → more_arms_at k t ws ≡ arms_end_at k (Left t) ws
unfolding more_arms_at
more_end k t ws none = rw (row_turn k t ws, none) refl

-- ---- a statement in a row

part_map : (x : Read) (w : Word) → and_then (and_then (and_then x (λ d u. Parsed (Left d) u)) (λ d u. Parsed (Pair (Leaf w) d) u)) (λ t u. Parsed (Left t) u) ≡ and_then (and_then (and_then x (λ d u. Parsed (Pair (Leaf w) d) u)) (λ t u. Parsed (Left t) u)) (λ t u. Parsed (as_part t) u)
part_map (Parsed d u) w = refl
part_map (Failed why u) w = refl

other_map : (x : Read) → and_then (and_then x (λ t u. Parsed (Right t) u)) (λ t u. Parsed (Right t) u) ≡ and_then (and_then x (λ t u. Parsed (Right t) u)) (λ t u. Parsed (as_part t) u)
other_map (Parsed t u) = refl
other_map (Failed why u) = refl

done_refused : (k : ℕ) (ws : List Word) → begins (first_set done_to_name) ws ≡ false → done_at k ws ≡ Failed Bad ws
unfolding done_at
done_refused k ws none = refuses rule model after checked k done_to_name refl refl ws none

-- what stands behind a name that begins a label
unfoldable behind_name_at : ℕ → Reader
behind_name_at k = read rule k label_of_name

behind_name_refused : (k : ℕ) (ws : List Word) → begins (first_set label_of_name) ws ≡ false → behind_name_at k ws ≡ Failed Bad ws
unfolding behind_name_at
behind_name_refused k ws none = refuses rule model after checked k label_of_name refl refl ws none

-- a name in a row, by the words after it
name_done : (k at start len : ℕ) (u : List Word) → begins (first_set done_to_name) u ≡ true → arm_part_at k (words.Name at start len ∷ u) ≡ and_then (and_then (and_then (done_at k u) (λ d v. Parsed (Left d) v)) (λ d v. Parsed (Pair (Leaf (words.Name at start len)) d) v)) (λ t v. Parsed (Left t) v)
unfolding arm_part_at done_at
name_done zero at start len u here = rw here refl
name_done (suc k) at start len u here = rw here refl

name_label : (k at start len : ℕ) (u : List Word) → begins (first_set done_to_name) u ≡ false → arm_part_at k (words.Name at start len ∷ u) ≡ and_then (and_then (and_then (behind_name_at k u) (λ d v. Parsed (Right d) v)) (λ d v. Parsed (Pair (Leaf (words.Name at start len)) d) v)) (λ t v. Parsed (Left t) v)
unfolding arm_part_at behind_name_at
name_label zero at start len u none = rw none refl
name_label (suc k) at start len u none = rw none refl

name_stmt : (k at start len : ℕ) (u : List Word) → stmt_at k (words.Name at start len ∷ u) ≡ and_then (and_then (done_at k u) (λ d v. Parsed (Pair (Leaf (words.Name at start len)) d) v)) (λ t v. Parsed (Left t) v)
unfolding stmt_at done_at
name_stmt zero at start len u = refl
name_stmt (suc k) at start len u = refl

named_part : (k at start len : ℕ) (u : List Word) → begins (first_set label_of_name) u ≡ false → arm_part_at k (words.Name at start len ∷ u) ≡ and_then (stmt_at k (words.Name at start len ∷ u)) (λ t v. Parsed (as_part t) v)
named_part k at start len u none = elim (bool_cases (begins (first_set done_to_name) u)) [
  | inl here ↦ name_done k at start len u here ∙ part_map (done_at k u) (words.Name at start len) ∙ ap (λ (x : Read). and_then x (λ t v. Parsed (as_part t) v)) (flip (name_stmt k at start len u))
  | inr other ↦ name_label k at start len u other ∙ rw (behind_name_refused k u none, name_stmt k at start len u, done_refused k u other) refl
]

unnamed_part : (k : ℕ) (w : Word) (ws : List Word) → name (kind_of w) ≡ false → number (kind_of w) ≡ false → symbol sym.OpenParenthesis (kind_of w) ≡ false → prefix (kind_of w) ≡ false → arm_part_at k (w ∷ ws) ≡ and_then (and_then (unnamed_at k (w ∷ ws)) (λ t u. Parsed (Right t) u)) (λ t u. Parsed (Right t) u)
unfolding arm_part_at unnamed_at
unnamed_part zero w ws a b c d = rw (a, b, c, d) refl
unnamed_part (suc k) w ws a b c d = rw (a, b, c, d) refl

unnamed_stmt_is : (k : ℕ) (w : Word) (ws : List Word) → name (kind_of w) ≡ false → stmt_at k (w ∷ ws) ≡ and_then (unnamed_at k (w ∷ ws)) (λ t u. Parsed (Right t) u)
unfolding stmt_at unnamed_at
unnamed_stmt_is zero w ws a = rw a refl
unnamed_stmt_is (suc k) w ws a = rw a refl

other_part : (k : ℕ) (w : Word) (ws : List Word) → name (kind_of w) ≡ false → (number (kind_of w) || (symbol sym.OpenParenthesis (kind_of w) || prefix (kind_of w))) ≡ false → arm_part_at k (w ∷ ws) ≡ and_then (stmt_at k (w ∷ ws)) (λ t u. Parsed (as_part t) u)
other_part k w ws a none =
    let one = or_false _ _ none in
    let two = or_false _ _ one.1 in
    unnamed_part k w ws a one.0 two.0 two.1 ∙ other_map (unnamed_at k (w ∷ ws)) ∙ ap (λ (x : Read). and_then x (λ t v. Parsed (as_part t) v)) (flip (unnamed_stmt_is k w ws a))

not_label : (w : Word) (ws : List Word) → (symbol sym.Comma (kind_of w) || (symbol sym.Colon (kind_of w) || symbol sym.Range (kind_of w))) ≡ false → begins (first_set label_of_name) (w ∷ ws) ≡ false
not_label w ws none =
    let one = or_false (symbol sym.Comma (kind_of w)) (symbol sym.Colon (kind_of w) || symbol sym.Range (kind_of w)) none in
    let two = or_false (symbol sym.Colon (kind_of w)) (symbol sym.Range (kind_of w)) one.1 in
    rw (two.1, one.0, two.0) refl

symbol_no_name : (s : Symbol) → name (kind_of (words.Symbol s)) ≡ false
symbol_no_name s = by_place (is_placed s) refl
  where
    by_place : (b : Bool) → is_placed s ≡ b → name (kind_of (words.Symbol s)) ≡ false
    by_place true here = rw here refl
    by_place false here = rw here refl

placed_no_name : (at : ℕ) (s : Symbol) → name (kind_of (words.Placed at s)) ≡ false
placed_no_name at s = by_place (is_placed s) refl
  where
    by_place : (b : Bool) → is_placed s ≡ b → name (kind_of (words.Placed at s)) ≡ false
    by_place true here = rw here refl
    by_place false here = rw here refl

no_words : (k : ℕ) → arm_part_at k [] ≡ and_then (stmt_at k []) (λ t u. Parsed (as_part t) u)
unfolding arm_part_at stmt_at
no_words zero = refl
no_words (suc k) = refl

part_stmt : (k : ℕ) (ws : List Word) → label_next ws ≡ false → arm_part_at k ws ≡ and_then (stmt_at k ws) (λ t u. Parsed (as_part t) u)
part_stmt k [] none = no_words k
part_stmt k (words.Name at start len ∷ []) none = named_part k at start len [] refl
part_stmt k (words.Name at start len ∷ w ∷ ws) none = named_part k at start len (w ∷ ws) (not_label w ws none)
part_stmt k (words.Number at value ∷ ws) none = absurd cc
part_stmt k (words.Text at start len ∷ ws) none = other_part k (words.Text at start len) ws refl none
part_stmt k (words.Ip at addr ∷ ws) none = other_part k (words.Ip at addr) ws refl none
part_stmt k (words.Prefix at net ∷ ws) none = absurd cc
part_stmt k (words.BadPrefix at ∷ ws) none = other_part k (words.BadPrefix at) ws refl none
part_stmt k (words.Attribute at a ∷ ws) none = other_part k (words.Attribute at a) ws refl none
part_stmt k (words.Constant at c ∷ ws) none = other_part k (words.Constant at c) ws refl none
part_stmt k (words.Symbol s ∷ ws) none = other_part k (words.Symbol s) ws (symbol_no_name s) none
part_stmt k (words.Placed at s ∷ ws) none = other_part k (words.Placed at s) ws (placed_no_name at s) none

or_three : (a b c : Bool) → (a || c) ≡ false → b ≡ false → (a || (b || c)) ≡ false
or_three true b c h e = absurd cc
or_three false true c h e = absurd cc
or_three false false c h e = h

-- a statement begins where a part of the row that is no label does
starts_part : (ws : List Word) → begins (first_set stmt) ws ≡ true → begins (first_set arm_part) ws ≡ true
starts_part [] here = absurd cc
starts_part (w ∷ ws) here = by (bool_cases (first_set arm_part (kind_of w)))
  where
    by : (first_set arm_part (kind_of w) ≡ true) ⊎ (first_set arm_part (kind_of w) ≡ false) → first_set arm_part (kind_of w) ≡ true
    by (inl here_too) = here_too
    by (inr none_here) =
        let one = or_false (first_set (Seq (Terminal name) done_to_name) (kind_of w)) (first_set (Seq unnamed_item label_end) (kind_of w) || first_set unnamed_stmt (kind_of w)) none_here in
        let two = or_false (first_set (Seq unnamed_item label_end) (kind_of w)) (first_set unnamed_stmt (kind_of w)) one.1 in
        let none : first_set stmt (kind_of w) ≡ false = rw (one.0, two.1) refl in
        absurd cc

pub more_stmt : (k : ℕ) (t : ParseTree) (ws : List Word) (s : ParseTree) (rest : List Word) → arm_ends ws ≡ false → stmt_at k ws ≡ Parsed s rest → more_arms_at k t ws ≡ more_arms_at k (Snoc t (as_part s)) rest
more_stmt k t ws s rest going got =
    more_part k t ws (starts_part ws (stmt_begins k ws s rest got)) ∙ rw (part_stmt k ws (or_false _ _ going).0, got) refl

otherwise_none : (k : ℕ) (ws : List Word) → begins (symbol sym.ElseColon) ws ≡ false → otherwise_at k ws ≡ Parsed (Right NoWords) ws
unfolding otherwise_at
otherwise_none zero [] none = refl
otherwise_none (suc k) [] none = refl
otherwise_none zero (w ∷ ws) none = rw none refl
otherwise_none (suc k) (w ∷ ws) none = rw none refl

over_parts : (ws : List Word) → arms_over ws ≡ false → (begins (symbol sym.ElseColon) ws ≡ false) × (begins (symbol sym.CloseBrace) ws ≡ false)
over_parts [] none = (refl, refl)
over_parts (w ∷ ws) none = or_false _ _ none

-- what ends no arms is refused behind them
end_refused : (k : ℕ) (row : ParseTree) (ws : List Word) → arms_over ws ≡ false → arms_end_at k row ws ≡ Failed Bad ws
unfolding arms_end_at
end_refused k row ws none = let parts = over_parts ws none in rw (otherwise_none k ws parts.0, word_bad (symbol sym.CloseBrace) ws parts.1) refl

no_stmt : (ws : List Word) → begins (first_set arm_part) ws ≡ false → begins (first_set stmt) ws ≡ false
no_stmt ws none = by (bool_cases (begins (first_set stmt) ws))
  where
    by : (begins (first_set stmt) ws ≡ true) ⊎ (begins (first_set stmt) ws ≡ false) → begins (first_set stmt) ws ≡ false
    by (inl some) = let here = starts_part ws some in absurd cc
    by (inr none_here) = none_here

pub more_fails : (k : ℕ) (t : ParseTree) (ws : List Word) (e : Refusal) → arm_ends ws ≡ false → AgreesOnError e (stmt_at k ws) → AgreesOnError e (more_arms_at k t ws)
more_fails k t ws e going failed = elim (bool_cases (begins (first_set arm_part) ws)) [
  | inl here ↦
      fails_along e (more_arms_at k t ws) (and_then (and_then (stmt_at k ws) (λ s u. Parsed (as_part s) u)) (λ b u. more_arms_at k (Snoc t b) u)) (more_part k t ws here ∙ rw (part_stmt k ws (or_false _ _ going).0) refl)
      (fails_then e (and_then (stmt_at k ws) (λ s u. Parsed (as_part s) u)) (λ b u. more_arms_at k (Snoc t b) u) (fails_then e (stmt_at k ws) (λ s u. Parsed (as_part s) u) failed))
  | inr none ↦
      let same : more_arms_at k t ws ≡ stmt_at k ws = more_end k t ws none ∙ end_refused k (Left t) ws (or_false _ _ going).1 ∙ flip (stmt_refused k ws (no_stmt ws none)) in
      fails_along e (more_arms_at k t ws) (stmt_at k ws) same failed
]

-- ---- a label in a row

name_label_map : (x : Read) (at start len : ℕ) (r : Reader) → and_then (and_then (and_then (and_then x (λ h v. and_then (r v) (λ e y. Parsed (Pair h e) y))) (λ b v. Parsed (Right b) v)) (λ b v. Parsed (Pair (Leaf (words.Name at start len)) b) v)) (λ b v. Parsed (Left b) v) ≡ and_then (and_then (and_then (and_then x (λ h v. Parsed (Pair (Leaf (words.Name at start len)) h) v)) (λ p v. Parsed (Left p) v)) (λ i v. and_then (r v) (λ e y. Parsed (Pair i e) y))) (λ t u. Parsed (as_label t) u)
name_label_map (Parsed h v) at start len r = by_end (r v)
  where
    by_end : (y : Read) → and_then (and_then (and_then (and_then y (λ e z. Parsed (Pair h e) z)) (λ b z. Parsed (Right b) z)) (λ b z. Parsed (Pair (Leaf (words.Name at start len)) b) z)) (λ b z. Parsed (Left b) z) ≡ and_then (and_then y (λ e z. Parsed (Pair (Left (Pair (Leaf (words.Name at start len)) h)) e) z)) (λ t u. Parsed (as_label t) u)
    by_end (Parsed e z) = refl
    by_end (Failed why z) = refl
name_label_map (Failed why v) at start len r = refl

-- the range behind a name
unfoldable high_at : ℕ → Reader
high_at k = read rule k (optional (Seq (Terminal (symbol sym.Range)) (Terminal is_num)))

behind_name_is : (k : ℕ) (ws : List Word) → behind_name_at k ws ≡ and_then (high_at k ws) (λ h v. and_then (label_end_at k v) (λ e y. Parsed (Pair h e) y))
unfolding behind_name_at high_at label_end_at
behind_name_is zero ws = refl
behind_name_is (suc k) ws = refl

label_of_named : (k at start len : ℕ) (u : List Word) → label_at k (words.Name at start len ∷ u) ≡ and_then (and_then (and_then (high_at k u) (λ h v. Parsed (Pair (Leaf (words.Name at start len)) h) v)) (λ p v. Parsed (Left p) v)) (λ i v. and_then (label_end_at k v) (λ e y. Parsed (Pair i e) y))
unfolding label_at high_at label_end_at
label_of_named zero at start len u = refl
label_of_named (suc k) at start len u = refl

named_label : (k at start len : ℕ) (u : List Word) → begins (first_set label_of_name) u ≡ true → arm_part_at k (words.Name at start len ∷ u) ≡ and_then (label_at k (words.Name at start len ∷ u)) (λ t v. Parsed (as_label t) v)
named_label k at start len u here =
    name_label k at start len u (apart done_to_name label_of_name refl u here)
    ∙ rw (behind_name_is k u) (name_label_map (high_at k u) at start len (label_end_at k))
    ∙ ap (λ (x : Read). and_then x (λ t v. Parsed (as_label t) v)) (flip (label_of_named k at start len u))

is_label : (w : Word) (ws : List Word) → (symbol sym.Comma (kind_of w) || (symbol sym.Colon (kind_of w) || symbol sym.Range (kind_of w))) ≡ true → begins (first_set label_of_name) (w ∷ ws) ≡ true
is_label w ws some = by (bool_cases (begins (first_set label_of_name) (w ∷ ws)))
  where
    by : (begins (first_set label_of_name) (w ∷ ws) ≡ true) ⊎ (begins (first_set label_of_name) (w ∷ ws) ≡ false) → begins (first_set label_of_name) (w ∷ ws) ≡ true
    by (inl here_too) = here_too
    by (inr none_here) =
        let one = or_false (first_set (optional (Seq (Terminal (symbol sym.Range)) (Terminal is_num))) (kind_of w)) (first_set label_end (kind_of w)) none_here in
        let two = or_false (symbol sym.Comma (kind_of w) || false) (symbol sym.Colon (kind_of w)) one.1 in
        let range = or_false (symbol sym.Range (kind_of w) || false) false one.0 in
        let none : (symbol sym.Comma (kind_of w) || (symbol sym.Colon (kind_of w) || symbol sym.Range (kind_of w))) ≡ false = rw ((or_false (symbol sym.Comma (kind_of w)) false two.0).0, two.1, (or_false (symbol sym.Range (kind_of w)) false range.0).0) refl in
        absurd cc

-- an item that no name begins, and the end of its label
item_label_map : (x : Read) (f : ParseTree → ParseTree) (r : Reader) → ((t e : ParseTree) → as_label (Pair (f t) e) ≡ Right (Left (Pair (f t) e))) → and_then (and_then (and_then x (λ t u. Parsed (f t) u)) (λ i v. and_then (r v) (λ e y. Parsed (Pair i e) y))) (λ t u. Parsed (nth 1 t) u) ≡ and_then (and_then (and_then x (λ t u. Parsed (f t) u)) (λ i v. and_then (r v) (λ e y. Parsed (Pair i e) y))) (λ t u. Parsed (as_label t) u)
item_label_map (Parsed t u) f r same = by_end (r u)
  where
    by_end : (y : Read) → and_then (and_then y (λ e z. Parsed (Pair (f t) e) z)) (λ b z. Parsed (nth 1 b) z) ≡ and_then (and_then y (λ e z. Parsed (Pair (f t) e) z)) (λ b z. Parsed (as_label b) z)
    by_end (Parsed e z) = ap (λ (x : ParseTree). Parsed x z) (flip (same t e))
    by_end (Failed why z) = refl
item_label_map (Failed why u) f r same = refl

unnamed_item_read : (k : ℕ) (ws : List Word) → begins (first_set (Seq unnamed_item label_end)) ws ≡ true → arm_part_at k ws ≡ and_then (both (read rule k unnamed_item) (label_end_at k) ws) (λ t u. Parsed (nth 1 t) u)
unfolding arm_part_at label_end_at
unnamed_item_read k ws here = picked 1 k arm_part (Seq unnamed_item label_end) unnamed_stmt refl refl refl ws here ∙ ap (λ (x : Read). and_then x (λ t u. Parsed (nth 1 t) u)) (seq_read k unnamed_item label_end ws)

label_read : (k : ℕ) (ws : List Word) → label_at k ws ≡ both (read rule k item) (label_end_at k) ws
unfolding label_at label_end_at
label_read k ws = seq_read k item label_end ws

same_item : (k : ℕ) (ws : List Word) (x : Read) (f : ParseTree → ParseTree) → ((t e : ParseTree) → as_label (Pair (f t) e) ≡ Right (Left (Pair (f t) e))) → begins (first_set (Seq unnamed_item label_end)) ws ≡ true → read rule k unnamed_item ws ≡ and_then x (λ t u. Parsed (f t) u) → read rule k item ws ≡ and_then x (λ t u. Parsed (f t) u) → arm_part_at k ws ≡ and_then (label_at k ws) (λ t u. Parsed (as_label t) u)
same_item k ws x f same here unnamed named =
    unnamed_item_read k ws here
    ∙ ap (λ (y : Read). and_then (and_then y (λ i v. and_then (label_end_at k v) (λ e z. Parsed (Pair i e) z))) (λ t u. Parsed (nth 1 t) u)) unnamed
    ∙ item_label_map x f (label_end_at k) same
    ∙ ap (λ (y : Read). and_then (and_then y (λ i v. and_then (label_end_at k v) (λ e z. Parsed (Pair i e) z))) (λ t u. Parsed (as_label t) u)) (flip named)
    ∙ ap (λ (y : Read). and_then y (λ t u. Parsed (as_label t) u)) (flip (label_read k ws))

number_item : (k at value : ℕ) (u : List Word) → read rule k item (words.Number at value ∷ u) ≡ and_then (high_at k u) (λ h v. Parsed (Left (Pair (Leaf (words.Number at value)) h)) v)
unfolding high_at
number_item zero at value u = maps2 (high_at 0 u) (λ h. Pair (Leaf (words.Number at value)) h) (λ t. Left t)
number_item (suc k) at value u = maps2 (high_at (suc k) u) (λ h. Pair (Leaf (words.Number at value)) h) (λ t. Left t)

number_unnamed : (k at value : ℕ) (u : List Word) → read rule k unnamed_item (words.Number at value ∷ u) ≡ and_then (high_at k u) (λ h v. Parsed (Left (Pair (Leaf (words.Number at value)) h)) v)
unfolding high_at
number_unnamed zero at value u = maps2 (high_at 0 u) (λ h. Pair (Leaf (words.Number at value)) h) (λ t. Left t)
number_unnamed (suc k) at value u = maps2 (high_at (suc k) u) (λ h. Pair (Leaf (words.Number at value)) h) (λ t. Left t)

pair_label : (k : ℕ) (w : Word) (ws : List Word) → symbol sym.OpenParenthesis (kind_of w) ≡ true → arm_part_at k (w ∷ ws) ≡ and_then (label_at k (w ∷ ws)) (λ t u. Parsed (as_label t) u)
pair_label k w ws opens =
    let pair : begins (first_set pair_item) (w ∷ ws) ≡ true = rw opens refl in
    let number_off : begins (first_set (alternative 0 unnamed_item)) (w ∷ ws) ≡ false = apart (alternative 0 unnamed_item) (Alt pair_item prefix_item) refl (w ∷ ws) (rw opens refl) in
    same_item k (w ∷ ws) (read rule k pair_item (w ∷ ws)) (λ t. nth 1 t) (λ t e. refl) (rw (number_off, opens) refl)
    (picked 1 k unnamed_item pair_item prefix_item refl refl refl (w ∷ ws) pair)
    (picked 1 k item pair_item prefix_item refl refl refl (w ∷ ws) pair)

or_none : (b : Bool) → (b || false) ≡ true → b ≡ true
or_none true h = refl
or_none false h = h

opens_symbol : (s : Symbol) → (number (kind_of (words.Symbol s)) || (symbol sym.OpenParenthesis (kind_of (words.Symbol s)) || prefix (kind_of (words.Symbol s)))) ≡ true → symbol sym.OpenParenthesis (kind_of (words.Symbol s)) ≡ true
opens_symbol s some = by_place (is_placed s) refl
  where
    by_place : (b : Bool) → is_placed s ≡ b → symbol sym.OpenParenthesis (kind_of (words.Symbol s)) ≡ true
    by_place true here = absurd (false≢true (rw here at some))
    by_place false here = rw here (or_none _ (rw here at some))

opens_placed : (at : ℕ) (s : Symbol) → (number (kind_of (words.Placed at s)) || (symbol sym.OpenParenthesis (kind_of (words.Placed at s)) || prefix (kind_of (words.Placed at s)))) ≡ true → symbol sym.OpenParenthesis (kind_of (words.Placed at s)) ≡ true
opens_placed at s some = by_place (is_placed s) refl
  where
    by_place : (b : Bool) → is_placed s ≡ b → symbol sym.OpenParenthesis (kind_of (words.Placed at s)) ≡ true
    by_place true here = rw here (or_none _ (rw here at some))
    by_place false here = absurd (false≢true (rw here at some))

label_part : (k : ℕ) (ws : List Word) → label_next ws ≡ true → arm_part_at k ws ≡ and_then (label_at k ws) (λ t u. Parsed (as_label t) u)
label_part k [] some = absurd cc
label_part k (words.Name at start len ∷ []) some = absurd cc
label_part k (words.Name at start len ∷ w ∷ ws) some = named_label k at start len (w ∷ ws) (is_label w ws some)
label_part k (words.Number at value ∷ ws) some = same_item k (words.Number at value ∷ ws) (high_at k ws) (λ h. Left (Pair (Leaf (words.Number at value)) h)) (λ t e. refl) refl (number_unnamed k at value ws) (number_item k at value ws)
label_part k (words.Text at start len ∷ ws) some = absurd cc
label_part k (words.Ip at addr ∷ ws) some = absurd cc
label_part k (words.Prefix at net ∷ ws) some = same_item k (words.Prefix at net ∷ ws) (read rule k prefix_item (words.Prefix at net ∷ ws)) (λ t. Right (Right t)) (λ t e. refl) refl (rest_read 2 k unnamed_item refl refl (words.Prefix at net ∷ ws) refl) (rest_read 2 k item refl refl (words.Prefix at net ∷ ws) refl)
label_part k (words.BadPrefix at ∷ ws) some = absurd cc
label_part k (words.Attribute at a ∷ ws) some = absurd cc
label_part k (words.Constant at c ∷ ws) some = absurd cc
label_part k (words.Symbol s ∷ ws) some = pair_label k (words.Symbol s) ws (opens_symbol s some)
label_part k (words.Placed at s ∷ ws) some = pair_label k (words.Placed at s) ws (opens_placed at s some)

opened_starts : (w : Word) (ws : List Word) → name (kind_of w) ≡ false → symbol sym.OpenParenthesis (kind_of w) ≡ true → begins (first_set arm_part) (w ∷ ws) ≡ true
opened_starts w ws no_name opens =
    let number_off : begins (first_set (alternative 0 unnamed_item)) (w ∷ ws) ≡ false = apart (alternative 0 unnamed_item) (Alt pair_item prefix_item) refl (w ∷ ws) (rw opens refl) in
    let plain : number (kind_of w) ≡ false = (or_false (number (kind_of w)) false number_off).0 in
    rw (no_name, plain, opens) refl

starts_label : (ws : List Word) → label_next ws ≡ true → begins (first_set arm_part) ws ≡ true
starts_label [] some = absurd cc
starts_label (words.Name at start len ∷ []) some = refl
starts_label (words.Name at start len ∷ w ∷ ws) some = refl
starts_label (words.Number at value ∷ ws) some = refl
starts_label (words.Text at start len ∷ ws) some = absurd cc
starts_label (words.Ip at addr ∷ ws) some = absurd cc
starts_label (words.Prefix at net ∷ ws) some = refl
starts_label (words.BadPrefix at ∷ ws) some = absurd cc
starts_label (words.Attribute at a ∷ ws) some = absurd cc
starts_label (words.Constant at c ∷ ws) some = absurd cc
starts_label (words.Symbol s ∷ ws) some = opened_starts (words.Symbol s) ws (symbol_no_name s) (opens_symbol s some)
starts_label (words.Placed at s ∷ ws) some = opened_starts (words.Placed at s) ws (placed_no_name at s) (opens_placed at s some)

pub more_label : (k : ℕ) (t : ParseTree) (ws : List Word) → label_next ws ≡ true → more_arms_at k t ws ≡ labelled_at k (λ l. Snoc t (as_label l)) ws
unfolding labelled_at
more_label k t ws some =
    more_part k t ws (starts_label ws some) ∙ ap (λ (x : Read). and_then x (λ b u. more_arms_at k (Snoc t b) u)) (label_part k ws some)
    ∙ then_then (label_at k ws) (λ l u. Parsed (as_label l) u) (λ b u. more_arms_at k (Snoc t b) u)

-- ---- the first arm, and the end of the arms

arms_some : (k : ℕ) (ws : List Word) → begins (first_set label) ws ≡ true → arms_at k ws ≡ and_then (and_then (and_then (label_at k ws) (λ a u. arm_row_at k (Single a) u)) (λ r u. Parsed (Left r) u)) (λ r u. and_then (otherwise_at k u) (λ o v. Parsed (Pair r o) v))
unfolding arms_at label_at arm_row_at arm_part_at otherwise_at
arms_some zero [] here = absurd cc
arms_some (suc k) [] here = absurd cc
arms_some zero (w ∷ ws) here = rw here refl
arms_some (suc k) (w ∷ ws) here = rw here refl

arms_none : (k : ℕ) (ws : List Word) → begins (first_set label) ws ≡ false → arms_at k ws ≡ and_then (otherwise_at k ws) (λ o v. Parsed (Pair (Right NoWords) o) v)
unfolding arms_at otherwise_at
arms_none zero [] none = refl
arms_none (suc k) [] none = refl
arms_none zero (w ∷ ws) none = rw none refl
arms_none (suc k) (w ∷ ws) none = rw none refl

abbrev shut : ParseTree → List Word → Read
shut t rest = and_then (word (symbol sym.CloseBrace) rest) (λ c end. Parsed (Pair (Deeper (words.Symbol sym.OpenBrace) t) c) end)

shut_some : (k : ℕ) (x : Read) → and_then (and_then (and_then (and_then x (λ a u. arm_row_at k (Single a) u)) (λ r u. Parsed (Left r) u)) (λ r u. and_then (otherwise_at k u) (λ o v. Parsed (Pair r o) v))) shut ≡ and_then x (λ a u. more_arms_at k (Single a) u)
unfolding more_arms_at arms_end_at
shut_some k (Parsed a u) = by_row (arm_row_at k (Single a) u)
  where
    by_row : (y : Read) → and_then (and_then (and_then y (λ r v. Parsed (Left r) v)) (λ r v. and_then (otherwise_at k v) (λ o z. Parsed (Pair r o) z))) shut ≡ and_then y (λ row rest. and_then (otherwise_at k rest) (λ o z. and_then (word (symbol sym.CloseBrace) z) (λ c end. Parsed (Pair (Deeper (words.Symbol sym.OpenBrace) (Pair (Left row) o)) c) end)))
    by_row (Parsed r v) = then_then (otherwise_at k v) (λ o z. Parsed (Pair (Left r) o) z) shut
    by_row (Failed why v) = refl
shut_some k (Failed why u) = refl

label_refused : (k : ℕ) (ws : List Word) → begins (first_set label) ws ≡ false → label_at k ws ≡ Failed Bad ws
unfolding label_at
label_refused k ws none = refuses rule model after checked k label refl refl ws none

-- no label comes next: what stands behind the arms
pub first_end : (k : ℕ) (ws : List Word) → begins (first_set label) ws ≡ false → closed (words.Symbol sym.OpenBrace) (arms_at k) sym.CloseBrace ws ≡ arms_end_at k (Right NoWords) ws
unfolding closed arms_end_at
first_end k ws none = rw (arms_none k ws none) (then_then (otherwise_at k ws) (λ o v. Parsed (Pair (Right NoWords) o) v) shut)

first_none : (k : ℕ) (ws : List Word) → arms_over ws ≡ false → begins (first_set label) ws ≡ false → closed (words.Symbol sym.OpenBrace) (arms_at k) sym.CloseBrace ws ≡ Failed Bad ws
first_none k ws going none = first_end k ws none ∙ end_refused k (Right NoWords) ws going

pub first_label : (k : ℕ) (ws : List Word) → arms_over ws ≡ false → closed (words.Symbol sym.OpenBrace) (arms_at k) sym.CloseBrace ws ≡ labelled_at k (λ l. Single l) ws
unfolding closed labelled_at
first_label k ws going = elim (bool_cases (begins (first_set label) ws)) [
  | inl here ↦ rw (arms_some k ws here) (shut_some k (label_at k ws))
  | inr none ↦ first_none k ws going none ∙ rw (label_refused k ws none) refl
]

-- what ends the arms begins no label and no part of an arm
over_kind : (k : Kind) → (symbol sym.ElseColon k || symbol sym.CloseBrace k) ≡ true → (k ≡ IsSymbol sym.ElseColon) ⊎ (k ≡ IsSymbol sym.CloseBrace)
over_kind (IsSymbol sym.ElseColon) here = inl refl
over_kind (IsSymbol sym.CloseBrace) here = inr refl
over_kind (IsSymbol _) here = absurd cc
over_kind _ here = absurd cc

over_no_part : (ws : List Word) → arms_over ws ≡ true → begins (first_set arm_part) ws ≡ false
over_no_part [] here = absurd cc
over_no_part (w ∷ ws) here = elim (over_kind (kind_of w) here) [
  | inl is ↦ rw is refl
  | inr is ↦ rw is refl
]

over_no_label : (ws : List Word) → arms_over ws ≡ true → begins (first_set label) ws ≡ false
over_no_label [] here = absurd cc
over_no_label (w ∷ ws) here = elim (over_kind (kind_of w) here) [
  | inl is ↦ rw is refl
  | inr is ↦ rw is refl
]

pub more_over : (k : ℕ) (t : ParseTree) (ws : List Word) → arms_over ws ≡ true → more_arms_at k t ws ≡ arms_end_at k (Left t) ws
more_over k t ws over = more_end k t ws (over_no_part ws over)

pub first_over : (k : ℕ) (ws : List Word) → arms_over ws ≡ true → closed (words.Symbol sym.OpenBrace) (arms_at k) sym.CloseBrace ws ≡ arms_end_at k (Right NoWords) ws
first_over k ws over = first_end k ws (over_no_label ws over)

-- ---- behind the arms

otherwise_some : (k : ℕ) (ws u : List Word) → ws ≡ words.Symbol sym.ElseColon ∷ u → otherwise_at k ws ≡ and_then (and_then (stmts_at k u) (λ s v. Parsed (Pair (symbol_leaf sym.ElseColon) s) v)) (λ t v. Parsed (Left t) v)
unfolding otherwise_at stmts_at
otherwise_some zero ws u is = rw is refl
otherwise_some (suc k) ws u is = rw is refl

-- the statements and the closing brace
abbrev pub in_end : ParseTree → ParseTree → ParseTree
in_end row (Pair s c) = Pair (Deeper (words.Symbol sym.OpenBrace) (Pair row (Left (Pair (symbol_leaf sym.ElseColon) s)))) c
in_end row t = t

end_map : (row : ParseTree) (x : Read) → and_then (and_then (and_then x (λ s v. Parsed (Pair (symbol_leaf sym.ElseColon) s) v)) (λ t v. Parsed (Left t) v)) (λ o v. shut (Pair row o) v) ≡ and_then (and_then x (λ s v. and_then (word (symbol sym.CloseBrace) v) (λ c z. Parsed (Pair s c) z))) (λ t v. Parsed (in_end row t) v)
end_map row (Parsed s v) = by_end (word (symbol sym.CloseBrace) v)
  where
    by_end : (y : Read) → and_then y (λ c z. Parsed (Pair (Deeper (words.Symbol sym.OpenBrace) (Pair row (Left (Pair (symbol_leaf sym.ElseColon) s)))) c) z) ≡ and_then (and_then y (λ c z. Parsed (Pair s c) z)) (λ t z. Parsed (in_end row t) z)
    by_end (Parsed c z) = refl
    by_end (Failed why z) = refl
end_map row (Failed why v) = refl

pub end_else : (k : ℕ) (row : ParseTree) (ws u : List Word) → ws ≡ words.Symbol sym.ElseColon ∷ u → arms_end_at k row ws ≡ and_then (both (stmts_at k) (word (symbol sym.CloseBrace)) u) (λ t v. Parsed (in_end row t) v)
unfolding arms_end_at
end_else k row ws u is = rw (otherwise_some k ws u is) (end_map row (stmts_at k u))

pub end_brace : (k : ℕ) (row : ParseTree) (ws : List Word) → begins (symbol sym.ElseColon) ws ≡ false → arms_end_at k row ws ≡ and_then (word (symbol sym.CloseBrace) ws) (λ c v. Parsed (Pair (Deeper (words.Symbol sym.OpenBrace) (Pair row (Right NoWords))) c) v)
unfolding arms_end_at
end_brace k row ws none = rw (otherwise_none k ws none) refl

pub end_else_got : (k : ℕ) (row : ParseTree) (ws u : List Word) (s c : ParseTree) (v : List Word) → ws ≡ words.Symbol sym.ElseColon ∷ u → both (stmts_at k) (word (symbol sym.CloseBrace)) u ≡ Parsed (Pair s c) v → arms_end_at k row ws ≡ Parsed (Pair (Deeper (words.Symbol sym.OpenBrace) (Pair row (Left (Pair (symbol_leaf sym.ElseColon) s)))) c) v
end_else_got k row ws u s c v is got = end_else k row ws u is ∙ ap (λ (x : Read). and_then x (λ t z. Parsed (in_end row t) z)) got

pub end_else_fails : (k : ℕ) (row : ParseTree) (ws u : List Word) (e : Refusal) → ws ≡ words.Symbol sym.ElseColon ∷ u → AgreesOnError e (both (stmts_at k) (word (symbol sym.CloseBrace)) u) → AgreesOnError e (arms_end_at k row ws)
end_else_fails k row ws u e is failed = fails_along e _ _ (end_else k row ws u is) (fails_then e (both (stmts_at k) (word (symbol sym.CloseBrace)) u) (λ t v. Parsed (in_end row t) v) failed)

pub end_brace_got : (k : ℕ) (row : ParseTree) (ws u : List Word) → begins (symbol sym.ElseColon) ws ≡ false → ws ≡ words.Symbol sym.CloseBrace ∷ u → arms_end_at k row ws ≡ Parsed (between (words.Symbol sym.OpenBrace) (Pair row (Right NoWords)) sym.CloseBrace) u
end_brace_got k row ws u none is = end_brace k row ws none ∙ rw is refl

pub end_brace_fails : (k : ℕ) (row : ParseTree) (ws : List Word) (e : Refusal) → begins (symbol sym.ElseColon) ws ≡ false → AgreesOnError e (word (symbol sym.CloseBrace) ws) → AgreesOnError e (arms_end_at k row ws)
end_brace_fails k row ws e none failed = fails_along e _ _ (end_brace k row ws none) (fails_then e (word (symbol sym.CloseBrace) ws) (λ c v. Parsed (Pair (Deeper (words.Symbol sym.OpenBrace) (Pair row (Right NoWords))) c) v) failed)

-- ---- an arm

pub labelled_fails : (k : ℕ) (row_with : ParseTree → ParseTree) (ws : List Word) (e : Refusal) → AgreesOnError e (label_at k ws) → AgreesOnError e (labelled_at k row_with ws)
unfolding labelled_at
labelled_fails k row_with ws e failed = fails_then e (label_at k ws) (λ l rest. more_arms_at k (row_with l) rest) failed

pub labelled_got : (k : ℕ) (row_with : ParseTree → ParseTree) (ws : List Word) (l : ParseTree) (rest : List Word) → label_at k ws ≡ Parsed l rest → labelled_at k row_with ws ≡ more_arms_at k (row_with l) rest
unfolding labelled_at
labelled_got k row_with ws l rest got = rw got refl

pub label_shorter : (k : ℕ) (ws : List Word) (t : ParseTree) (rest : List Word) → label_at k ws ≡ Parsed t rest → length rest < length ws
unfolding label_at
label_shorter k ws t rest got =
    let taken = (good_at k label refl).got ws t rest got in
    let some : 0 < length (yield t) = full_words label (yield t) refl (fits_front rule t label (solid_at label refl) taken.fits) in
    rw taken.front (omega (arith, length-append (yield t) rest))

pub body_more : (t : ParseTree) (ss : List Stmt) (s : Stmt) → body_after t (map stmt_tree (ss ++ s ∷ [])) ≡ Snoc (body_after t (map stmt_tree ss)) (as_part (stmt_tree s))
body_more t [] s = refl
body_more t (r ∷ ss) s = body_more (Snoc t (as_part (stmt_tree r))) ss s

pub arm_more : (k : ℕ) (front : Read) (t : ParseTree) (ss : List Stmt) (s : Stmt) (ws rest : List Word) → front ≡ more_arms_at k (body_after t (map stmt_tree ss)) ws → arm_ends ws ≡ false → stmt_at k ws ≡ Parsed (stmt_tree s) rest → front ≡ more_arms_at k (body_after t (map stmt_tree (ss ++ s ∷ []))) rest
arm_more k front t ss s ws rest reading going got = reading ∙ more_stmt k (body_after t (map stmt_tree ss)) ws (stmt_tree s) rest going got ∙ ap (λ (x : ParseTree). more_arms_at k x rest) (flip (body_more t ss s))

pub arm_fails : (k : ℕ) (front : Read) (t : ParseTree) (ws : List Word) (e : Refusal) → front ≡ more_arms_at k t ws → arm_ends ws ≡ false → AgreesOnError e (stmt_at k ws) → AgreesOnError e front
arm_fails k front t ws e reading going failed = fails_along e front (more_arms_at k t ws) reading (more_fails k t ws e going failed)

-- ---- arms, one after another

-- the rest of what stands between the braces, behind some arms
abbrev pub read_arms : ℕ → List ArmParts → Reader
read_arms k [] ws = closed (words.Symbol sym.OpenBrace) (arms_at k) sym.CloseBrace ws
read_arms k (a ∷ more) ws = more_arms_at k (arms_chain a more) ws

-- an arm stops where the next begins
abbrev pub IsBehind : List ArmParts → List Word → Type 0
IsBehind [] ws = Unit {0}
IsBehind (a ∷ more) ws = arm_ends ws ≡ true

-- the row, with one more label
abbrev pub with_label : List ArmParts → ParseTree → ParseTree
with_label [] l = Single l
with_label (a ∷ more) l = Snoc (arms_chain a more) (as_label l)

left_one : (a b : Bool) → (a || b) ≡ true → b ≡ false → a ≡ true
left_one true b h none = refl
left_one false b h none = absurd cc

pub arms_next : (k : ℕ) (arms : List ArmParts) (ws : List Word) → IsBehind arms ws → arms_over ws ≡ false → read_arms k arms ws ≡ labelled_at k (with_label arms) ws
arms_next k [] ws behind going = first_label k ws going
arms_next k (a ∷ more) ws behind going = more_label k (arms_chain a more) ws (left_one (label_next ws) (arms_over ws) behind going)

pub arms_finish : (k : ℕ) (arms : List ArmParts) (ws : List Word) → arms_over ws ≡ true → read_arms k arms ws ≡ arms_end_at k (arms_row arms) ws
arms_finish k [] ws over = first_over k ws over
arms_finish k (a ∷ more) ws over = more_over k (arms_chain a more) ws over

after_more : (t : ParseTree) (arms : List (Arm Stmt)) (a : Arm Stmt) → arms_after t (arms_of (arms ++ a ∷ [])) ≡ body_after (Snoc (arms_after t (arms_of arms)) (as_label (label_tree a.labels.items))) (map stmt_tree a.body.items)
after_more t [] a = refl
after_more t (b ∷ arms) a = after_more (body_after (Snoc t (as_label (label_tree b.labels.items))) (map stmt_tree b.body.items)) arms a

pub one_more_arm : (k : ℕ) (arms : List (Arm Stmt)) (a : Arm Stmt) (ws : List Word) → read_arms k (arms_of (arms ++ a ∷ [])) ws ≡ more_arms_at k (body_after (with_label (arms_of arms) (label_tree a.labels.items)) (map stmt_tree a.body.items)) ws
one_more_arm k [] a ws = refl
one_more_arm k (b ∷ arms) a ws = ap (λ (t : ParseTree). more_arms_at k t ws) (after_more (body_after (Single (label_tree b.labels.items)) (map stmt_tree b.body.items)) arms a)

pub still_behind : (arms : List (Arm Stmt)) (a : Arm Stmt) (ws : List Word) → arm_ends ws ≡ true → IsBehind (arms_of (arms ++ a ∷ [])) ws
still_behind [] a ws h = h
still_behind (b ∷ arms) a ws h = h

pub label_named : (at start len : ℕ) (ws u : List Word) → ws ≡ words.Name at start len ∷ u → label_next ws ≡ begins is_behind_name u
label_named at start len ws [] is = rw is refl
label_named at start len ws (w ∷ u) is = rw is refl

pub label_unnamed : (ws : List Word) (w : Word) (u : List Word) → ws ≡ w ∷ u → ((at start len : ℕ) → w ≡ words.Name at start len → ⊥) → label_next ws ≡ begins is_item ws
label_unnamed ws (words.Name at start len) u is none = absurd (none at start len refl)
label_unnamed ws (words.Number at value) u is none = rw is refl
label_unnamed ws (words.Text at start len) u is none = rw is refl
label_unnamed ws (words.Ip at addr) u is none = rw is refl
label_unnamed ws (words.Prefix at net) u is none = rw is refl
label_unnamed ws (words.BadPrefix at) u is none = rw is refl
label_unnamed ws (words.Attribute at a) u is none = rw is refl
label_unnamed ws (words.Constant at c) u is none = rw is refl
label_unnamed ws (words.Symbol s) u is none = rw is refl
label_unnamed ws (words.Placed at s) u is none = rw is refl
