-- Reading blocks, choices and loops, one step of the parser after another.
use Rattle.std.proofs.Common.{◌≡◌, ℕ, zero, suc, ◌+◌, ◌<◌, Bool, true, false, cond, List, ◌∷◌, length, refl, sym as flip, ap, ◌∙◌, arith, inl, inr, Result, Ok, Err}
use Rattle.std.specs.Borrow.{Bor}
use Rattle.std.proofs.lemmas.List.{length-append}
use Rattle.conf_lex.specs.declared.symbol.Symbol.TheVariants as sym
use Rattle.conf_lex.specs.declared.word.Word.{Word}
use Rattle.conf_lex.specs.declared.word.Word.TheVariants as words
use Rattle.conf_lex.specs.Kind.{Kind, kind_of, name, symbol}
use Rattle.conf_lex.specs.Grammar.{Terminal, Epsilon, Nested, ParseTree, Leaf, NoWords, Pair, Left, Right, Single, Snoc, Deeper, begins, first_set, yield, TooDeep}
use Rattle.conf_lex.specs.Reading.{Read, Parsed, Failed, Reader, and_then, word, both, read}
use Rattle.conf_lex.specs.PartShapes.{closed}
use Rattle.conf_lex.specs.Leaves.{symbol_leaf}
use Rattle.conf_lex.specs.Agrees.{AgreesOnError, Agrees}
use Rattle.conf_lex.specs.declared.refusal.Refusal.{Refusal}
use Rattle.conf_lex.proofs.Good.{fits_front}
use Rattle.conf_lex.proofs.Chains.{turn, full_words}
use Rattle.conf_lex.proofs.PartShapes.{fails_then, fails_along, then_then, word_bad, bool_cases}
use Rattle.expr_syntax.specs.Syntax.{block, if_stmt, case_stmt, stmt, rule}
use Rattle.expr_syntax.specs.Levels.{block_level, body_level, arms_level}
use Rattle.expr_syntax.specs.Readers.{expr_at}
use Rattle.expr_syntax.specs.Rows.{nth}
use Rattle.filt_syntax.specs.StatementReaders.{stmt_at, stmts_at, row_at, block_at, else_at, arms_at, branches_at, run_at, braced_at}
use Rattle.expr_syntax.specs.Readers.{vtype_at}
use Rattle.expr_syntax.proofs.Tested.{good_at, next_at, solid_at}
use Rattle.expr_syntax.proofs.Picks.{maps2, picked, seq_read, nested_deep, nested_is, nested_fails}
use Rattle.filt_syntax.proofs.StatementSteps.{stmt_checked, stmt_refused, stmt_begins, headed}

-- a value seen as one tree gives the tree that is made of it
pub gives_mapped : {X : Type 0} (view : X → ParseTree) (f : ParseTree → ParseTree) (r : Result (X × Bor (List Word)) Refusal) (x y : Read) → y ≡ and_then x (λ t v. Parsed (f t) v) → Agrees view r x → Agrees (λ e. f (view e)) r y
gives_mapped view f (Ok found) x y same got = same ∙ rw got refl
gives_mapped view f (Err e) x y same failed = fails_along e y (and_then x (λ t v. Parsed (f t) v)) same (fails_then e x (λ t v. Parsed (f t) v) failed)

-- ---- rows

row_turn : (k : ℕ) (t : ParseTree) (ws : List Word) → row_at k t ws ≡ cond (begins (first_set stmt) ws) (and_then (stmt_at k ws) (λ b u. row_at k (Snoc t b) u)) (Parsed t ws)
unfolding row_at stmt_at
row_turn k t ws = turn rule k Epsilon stmt (read rule k Epsilon) (read rule k stmt) (next_at Epsilon stmt refl) (good_at k Epsilon refl) (good_at k stmt refl) t ws

pub stmts_is : (k : ℕ) (ws : List Word) → stmts_at k ws ≡ row_at k (Single NoWords) ws
unfolding stmts_at row_at stmt_at
stmts_is zero ws = refl
stmts_is (suc k) ws = refl

pub stmt_shorter : (k : ℕ) (ws : List Word) (t : ParseTree) (rest : List Word) → stmt_at k ws ≡ Parsed t rest → length rest < length ws
unfolding stmt_at
stmt_shorter k ws t rest got =
    let taken = (good_at k stmt refl).got ws t rest got in
    let some : 0 < length (yield t) = full_words stmt (yield t) refl (fits_front rule t stmt (solid_at stmt refl) taken.fits) in
    rw taken.front (omega (arith, length-append (yield t) rest))

pub row_more : (k : ℕ) (t : ParseTree) (ws : List Word) (s : ParseTree) (rest : List Word) → stmt_at k ws ≡ Parsed s rest → row_at k t ws ≡ row_at k (Snoc t s) rest
row_more k t ws s rest got = let here = stmt_begins k ws s rest got in row_turn k t ws ∙ rw (here, got) refl

-- a row ends at the closing brace
row_end : (k : ℕ) (t : ParseTree) (ws end : List Word) → ws ≡ words.Symbol sym.CloseBrace ∷ end → row_at k t ws ≡ Parsed t ws
row_end k t ws end is = row_turn k t ws ∙ rw is refl

abbrev to_brace : ℕ → Reader
to_brace k = both (stmts_at k) (word (symbol sym.CloseBrace))

pub row_closed : (k : ℕ) (t : ParseTree) (front ws end : List Word) → stmts_at k front ≡ row_at k t ws → ws ≡ words.Symbol sym.CloseBrace ∷ end → to_brace k front ≡ Parsed (Pair t (symbol_leaf sym.CloseBrace)) end
row_closed k t front ws end reading is = rw (reading ∙ row_end k t ws end is, is) refl

-- what begins no statement and isn't the closing brace either is refused
pub row_fails : (k : ℕ) (t : ParseTree) (front ws : List Word) (e : Refusal) → stmts_at k front ≡ row_at k t ws → begins (symbol sym.CloseBrace) ws ≡ false → AgreesOnError e (stmt_at k ws) → AgreesOnError e (to_brace k front)
row_fails k t front ws e reading not_closed failed = elim (bool_cases (begins (first_set stmt) ws)) [
  | inl here ↦
      let going : stmts_at k front ≡ and_then (stmt_at k ws) (λ b u. row_at k (Snoc t b) u) = reading ∙ row_turn k t ws ∙ rw here refl in
      rw going (fails_then e _ _ (fails_then e (stmt_at k ws) (λ b u. row_at k (Snoc t b) u) failed))
  | inr none ↦
      let ended : stmts_at k front ≡ Parsed t ws = reading ∙ row_turn k t ws ∙ rw none refl in
      let same : word (symbol sym.CloseBrace) ws ≡ stmt_at k ws = word_bad (symbol sym.CloseBrace) ws not_closed ∙ flip (stmt_refused k ws none) in
      rw ended (fails_then e (word (symbol sym.CloseBrace) ws) (λ b end. Parsed (Pair t b) end) (fails_along e (word (symbol sym.CloseBrace) ws) (stmt_at k ws) same failed))
]

-- ---- blocks

-- what stands in braces, behind the opening one
abbrev pub in_braces : ParseTree → ParseTree
in_braces (Pair t c) = Pair (Deeper (words.Symbol sym.OpenBrace) t) c
in_braces t = t

braces_map : (r : Reader) (x : Read) → and_then (and_then x (λ t v. Parsed (Deeper (words.Symbol sym.OpenBrace) t) v)) (λ t v. and_then (r v) (λ c w. Parsed (Pair t c) w)) ≡ and_then (and_then x (λ t v. and_then (r v) (λ c w. Parsed (Pair t c) w))) (λ t v. Parsed (in_braces t) v)
braces_map r (Parsed t v) = by_end (r v)
  where
    by_end : (y : Read) → and_then y (λ c w. Parsed (Pair (Deeper (words.Symbol sym.OpenBrace) t) c) w) ≡ and_then (and_then y (λ c w. Parsed (Pair t c) w)) (λ b w. Parsed (in_braces b) w)
    by_end (Parsed c w) = refl
    by_end (Failed why w) = refl
braces_map r (Failed why v) = refl

block_begins : (ws u : List Word) → ws ≡ words.Symbol sym.OpenBrace ∷ u → begins (first_set block) ws ≡ true
block_begins ws u is = rw is refl

block_picked : (k : ℕ) (ws u : List Word) → ws ≡ words.Symbol sym.OpenBrace ∷ u → stmt_at k ws ≡ and_then (read rule k block ws) (λ t v. Parsed (nth 1 t) v)
unfolding stmt_at
block_picked k ws u is = picked 1 k stmt block _ stmt_checked refl refl ws (block_begins ws u is)

block_read : (k b : ℕ) (ws u : List Word) → b + 1 ≡ k → ws ≡ words.Symbol sym.OpenBrace ∷ u → read rule k block ws ≡ and_then (to_brace b u) (λ t v. Parsed (in_braces t) v)
unfolding stmts_at
block_read zero b ws u below is = absurd (omega arith)
block_read (suc k) b ws u below is = let same : k ≡ b = omega arith in rw (is, ← same) (braces_map (word (symbol sym.CloseBrace)) (stmts_at k u))

pub block_is : (k b : ℕ) (ws u : List Word) → b + 1 ≡ k → ws ≡ words.Symbol sym.OpenBrace ∷ u → stmt_at k ws ≡ and_then (to_brace b u) (λ t v. Parsed (nth 1 (in_braces t)) v)
block_is k b ws u below is =
    block_picked k ws u is ∙ ap (λ (x : Read). and_then x (λ t v. Parsed (nth 1 t) v)) (block_read k b ws u below is)
    ∙ maps2 (to_brace b u) (λ t. in_braces t) (λ t. nth 1 t)

pub block_deep : (k : ℕ) (ws u : List Word) → k ≡ 0 → ws ≡ words.Symbol sym.OpenBrace ∷ u → stmt_at k ws ≡ Failed TooDeep ws
unfolding stmt_at
block_deep zero ws u none is = rw is refl
block_deep (suc k) ws u none is = absurd (omega arith)

-- ---- choices

if_begins : (ws u : List Word) → ws ≡ words.Symbol sym.If ∷ u → begins (first_set if_stmt) ws ≡ true
if_begins ws u is = rw is refl

if_picked : (k : ℕ) (ws u : List Word) → ws ≡ words.Symbol sym.If ∷ u → stmt_at k ws ≡ and_then (read rule k if_stmt ws) (λ t v. Parsed (nth 6 t) v)
unfolding stmt_at
if_picked k ws u is = picked 6 k stmt if_stmt _ stmt_checked refl refl ws (if_begins ws u is)

-- a word and an expression, and what follows them
headed_map : (x : Read) (w : Word) (r : Reader) (g : ParseTree → ParseTree) → and_then (and_then (and_then x (λ e v. Parsed (Pair (Leaf w) e) v)) (λ h v. and_then (r v) (λ b y. Parsed (Pair h b) y))) (λ t v. Parsed (g t) v) ≡ and_then x (λ e v. and_then (r v) (λ b y. Parsed (g (Pair (Pair (Leaf w) e) b)) y))
headed_map (Parsed e v) w r g = maps2 (r v) (λ b. Pair (Pair (Leaf w) e) b) g
headed_map (Failed why v) w r g = refl

if_read : (k : ℕ) (ws u : List Word) → ws ≡ words.Symbol sym.If ∷ u → read rule k if_stmt ws ≡ and_then (and_then (expr_at k u) (λ e v. Parsed (Pair (symbol_leaf sym.If) e) v)) (λ h v. and_then (branches_at k v) (λ b y. Parsed (Pair h b) y))
unfolding expr_at branches_at else_at
if_read zero ws u is = rw is refl
if_read (suc k) ws u is = rw is refl

pub if_is : (k : ℕ) (ws u : List Word) → ws ≡ words.Symbol sym.If ∷ u → stmt_at k ws ≡ and_then (expr_at k u) (λ e v. and_then (branches_at k v) (λ b y. Parsed (nth 6 (Pair (Pair (symbol_leaf sym.If) e) b)) y))
if_is k ws u is =
    if_picked k ws u is ∙ ap (λ (x : Read). and_then x (λ t v. Parsed (nth 6 t) v)) (if_read k ws u is)
    ∙ headed_map (expr_at k u) (words.Symbol sym.If) (branches_at k) (λ t. nth 6 t)

body_is : (k b : ℕ) (p : Kind → Bool) (ws : List Word) (w : Word) (u : List Word) → b + 1 ≡ k → ws ≡ w ∷ u → p (kind_of w) ≡ true → read rule k (Nested p body_level) ws ≡ and_then (stmt_at b u) (λ t v. Parsed (Deeper w t) v)
unfolding stmt_at
body_is k b p ws w u below is passes = nested_is k b body_level p ws w u below is passes

pub then_fails : (k : ℕ) (ws : List Word) (e : Refusal) → AgreesOnError e (word (symbol sym.Then) ws) → AgreesOnError e (branches_at k ws)
unfolding branches_at
then_fails k ws e failed = fails_then e (read rule k (Nested (symbol sym.Then) body_level) ws) (λ a rest. and_then (else_at k rest) (λ b end. Parsed (Pair a b) end)) (nested_fails k body_level (symbol sym.Then) ws e failed)

pub then_deep : (k : ℕ) (ws u : List Word) → k ≡ 0 → ws ≡ words.Symbol sym.Then ∷ u → branches_at k ws ≡ Failed TooDeep ws
unfolding branches_at
then_deep k ws u none is = rw (nested_deep k body_level (symbol sym.Then) ws (words.Symbol sym.Then) u none is refl) refl

pub branches_is : (k b : ℕ) (ws u : List Word) → b + 1 ≡ k → ws ≡ words.Symbol sym.Then ∷ u → branches_at k ws ≡ and_then (stmt_at b u) (λ s v. and_then (else_at k v) (λ t y. Parsed (Pair (Deeper (words.Symbol sym.Then) s) t) y))
unfolding branches_at
branches_is k b ws u below is =
    ap (λ (x : Read). and_then x (λ s v. and_then (else_at k v) (λ t y. Parsed (Pair s t) y))) (body_is k b (symbol sym.Then) ws (words.Symbol sym.Then) u below is refl)
    ∙ then_then (stmt_at b u) (λ s v. Parsed (Deeper (words.Symbol sym.Then) s) v) (λ s v. and_then (else_at k v) (λ t y. Parsed (Pair s t) y))

pub else_none : (k : ℕ) (ws : List Word) → begins (symbol sym.Else) ws ≡ false → else_at k ws ≡ Parsed (Right NoWords) ws
unfolding else_at
else_none zero ws none = rw none refl
else_none (suc k) ws none = rw none refl

pub else_some : (k b : ℕ) (ws u : List Word) → b + 1 ≡ k → ws ≡ words.Symbol sym.Else ∷ u → else_at k ws ≡ and_then (stmt_at b u) (λ s v. Parsed (Left (Deeper (words.Symbol sym.Else) s)) v)
unfolding else_at stmt_at
else_some zero b ws u below is = absurd (omega arith)
else_some (suc k) b ws u below is = let same : k ≡ b = omega arith in rw (is, ← same) (maps2 (stmt_at k u) (λ s. Deeper (words.Symbol sym.Else) s) (λ t. Left t))

pub else_same : (k b : ℕ) (ws : List Word) → b + 1 ≡ k → else_at k ws ≡ else_at (b + 1) ws
else_same k b ws below = rw (← below) refl

-- ---- loops

for_read : (k : ℕ) (ws u : List Word) (at : ℕ) → ws ≡ words.Placed at sym.For ∷ u → stmt_at k ws ≡ and_then (both (vtype_at 0) (both (word name) (both (both (word (symbol sym.In)) (expr_at k)) (run_at k))) u) (λ t v. Parsed (nth 8 (Pair (Leaf (words.Placed at sym.For)) t)) v)
unfolding vtype_at expr_at run_at
for_read zero ws u at is = headed 8 0 (symbol sym.For) _ _ refl refl ws (words.Placed at sym.For) u is refl
for_read (suc k) ws u at is = headed 8 (suc k) (symbol sym.For) _ _ refl refl ws (words.Placed at sym.For) u is refl

pub for_is : (k at : ℕ) (ws u : List Word) → ws ≡ words.Placed at sym.For ∷ u → stmt_at k ws ≡ and_then (both (vtype_at 0) (both (word name) (both (both (word (symbol sym.In)) (expr_at k)) (run_at k))) u) (λ t v. Parsed (nth 8 (Pair (Leaf (words.Placed at sym.For)) t)) v)
for_is k at ws u is = for_read k ws u at is

pub do_fails : (k : ℕ) (ws : List Word) (e : Refusal) → AgreesOnError e (word (symbol sym.Do) ws) → AgreesOnError e (run_at k ws)
unfolding run_at
do_fails k ws e failed = nested_fails k body_level (symbol sym.Do) ws e failed

pub do_deep : (k : ℕ) (ws u : List Word) → k ≡ 0 → ws ≡ words.Symbol sym.Do ∷ u → run_at k ws ≡ Failed TooDeep ws
unfolding run_at
do_deep k ws u none is = nested_deep k body_level (symbol sym.Do) ws (words.Symbol sym.Do) u none is refl

pub do_is : (k b : ℕ) (ws u : List Word) → b + 1 ≡ k → ws ≡ words.Symbol sym.Do ∷ u → run_at k ws ≡ and_then (stmt_at b u) (λ t v. Parsed (Deeper (words.Symbol sym.Do) t) v)
unfolding run_at
do_is k b ws u below is = body_is k b (symbol sym.Do) ws (words.Symbol sym.Do) u below is refl

-- ---- selections

case_begins : (at : ℕ) (ws u : List Word) → ws ≡ words.Placed at sym.Case ∷ u → begins (first_set case_stmt) ws ≡ true
case_begins at ws u is = rw is refl

case_picked : (k at : ℕ) (ws u : List Word) → ws ≡ words.Placed at sym.Case ∷ u → stmt_at k ws ≡ and_then (read rule k case_stmt ws) (λ t v. Parsed (nth 7 t) v)
unfolding stmt_at
case_picked k at ws u is = picked 7 k stmt case_stmt _ stmt_checked refl refl ws (case_begins at ws u is)

case_read : (k at : ℕ) (ws u : List Word) → ws ≡ words.Placed at sym.Case ∷ u → read rule k case_stmt ws ≡ and_then (and_then (expr_at k u) (λ e v. Parsed (Pair (Leaf (words.Placed at sym.Case)) e) v)) (λ h v. and_then (braced_at k v) (λ b y. Parsed (Pair h b) y))
unfolding expr_at braced_at
case_read zero at ws u is = rw is refl
case_read (suc k) at ws u is = rw is refl

pub case_is : (k at : ℕ) (ws u : List Word) → ws ≡ words.Placed at sym.Case ∷ u → stmt_at k ws ≡ and_then (expr_at k u) (λ e v. and_then (braced_at k v) (λ b y. Parsed (nth 7 (Pair (Pair (Leaf (words.Placed at sym.Case)) e) b)) y))
case_is k at ws u is =
    case_picked k at ws u is ∙ ap (λ (x : Read). and_then x (λ t v. Parsed (nth 7 t) v)) (case_read k at ws u is)
    ∙ headed_map (expr_at k u) (words.Placed at sym.Case) (braced_at k) (λ t. nth 7 t)

pub brace_fails : (k : ℕ) (ws : List Word) (e : Refusal) → AgreesOnError e (word (symbol sym.OpenBrace) ws) → AgreesOnError e (braced_at k ws)
unfolding braced_at
brace_fails k ws e failed =
    fails_along e _ _ (seq_read k (Nested (symbol sym.OpenBrace) arms_level) (Terminal (symbol sym.CloseBrace)) ws)
    (fails_then e (read rule k (Nested (symbol sym.OpenBrace) arms_level) ws) (λ a rest. and_then (read rule k (Terminal (symbol sym.CloseBrace)) rest) (λ b end. Parsed (Pair a b) end)) (nested_fails k arms_level (symbol sym.OpenBrace) ws e failed))

pub brace_deep : (k : ℕ) (ws u : List Word) → k ≡ 0 → ws ≡ words.Symbol sym.OpenBrace ∷ u → braced_at k ws ≡ Failed TooDeep ws
unfolding braced_at
brace_deep zero ws u none is = rw is refl
brace_deep (suc k) ws u none is = absurd (omega arith)

pub braced_is : (k b : ℕ) (ws u : List Word) → b + 1 ≡ k → ws ≡ words.Symbol sym.OpenBrace ∷ u → braced_at k ws ≡ closed (words.Symbol sym.OpenBrace) (arms_at b) sym.CloseBrace u
unfolding braced_at arms_at closed
braced_is zero b ws u below is = absurd (omega arith)
braced_is (suc k) b ws u below is = let same : k ≡ b = omega arith in rw (is, ← same) (then_then (arms_at k u) (λ t v. Parsed (Deeper (words.Symbol sym.OpenBrace) t) v) (λ t v. and_then (word (symbol sym.CloseBrace) v) (λ c w. Parsed (Pair t c) w)))

-- ---- a block by itself

pub block_same : (k : ℕ) (ws : List Word) → read rule k block ws ≡ block_at k ws
unfolding block_at
block_same k ws = refl

pub braces_is : (k b : ℕ) (ws u : List Word) → b + 1 ≡ k → ws ≡ words.Symbol sym.OpenBrace ∷ u → block_at k ws ≡ and_then (to_brace b u) (λ t v. Parsed (in_braces t) v)
unfolding block_at
braces_is k b ws u below is = block_read k b ws u below is

pub braces_deep : (k : ℕ) (ws u : List Word) → k ≡ 0 → ws ≡ words.Symbol sym.OpenBrace ∷ u → block_at k ws ≡ Failed TooDeep ws
unfolding block_at
braces_deep zero ws u none is = rw is refl
braces_deep (suc k) ws u none is = absurd (omega arith)

pub braces_fail : (k : ℕ) (ws : List Word) (e : Refusal) → AgreesOnError e (word (symbol sym.OpenBrace) ws) → AgreesOnError e (block_at k ws)
unfolding block_at
braces_fail k ws e failed =
    fails_along e _ _ (seq_read k (Nested (symbol sym.OpenBrace) block_level) (Terminal (symbol sym.CloseBrace)) ws)
    (fails_then e (read rule k (Nested (symbol sym.OpenBrace) block_level) ws) (λ a rest. and_then (read rule k (Terminal (symbol sym.CloseBrace)) rest) (λ b end. Parsed (Pair a b) end)) (nested_fails k block_level (symbol sym.OpenBrace) ws e failed))
