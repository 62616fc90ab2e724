-- Reading statements and a whole configuration, one step of the parser after another.
use Rattle.std.proofs.Common.{◌≡◌, ℕ, zero, suc, ◌<◌, true, false, cond, List, [], ◌∷◌, ◌++◌, length, map, refl, sym as flip, ap, ◌∙◌, arith, inl, inr}
use Rattle.std.specs.Prelude.{◌==◌}
use Rattle.std.proofs.lemmas.Bool.{eqb-true}
use Rattle.std.proofs.lemmas.List.{length-append}
use Rattle.bits_ip.specs.declared.address.Family.{Family}
use Rattle.bits_ip.specs.declared.address.Family.TheVariants as families
use Rattle.conf_lex.specs.declared.symbol.Symbol.TheVariants as sym
use Rattle.conf_lex.specs.declared.word.Word.{Word}
use Rattle.conf_lex.specs.declared.word.Word.TheVariants as words
use Rattle.conf_lex.specs.Kind.{kind_of, name, address, symbol}
use Rattle.conf_lex.specs.Grammar.{Epsilon, ParseTree, NoWords, Pair, Single, Snoc, begins, first_set, yield, Bad}
use Rattle.conf_lex.specs.Reading.{Read, Parsed, Failed, Reader, and_then, word, both, read}
use Rattle.conf_lex.specs.Leaves.{symbol_leaf}
use Rattle.conf_lex.specs.Agrees.{AgreesOnError}
use Rattle.conf_lex.specs.declared.refusal.Refusal.{Refusal}
use Rattle.conf_lex.proofs.Good.{fits_front}
use Rattle.conf_lex.proofs.Chains.{turn, full_words}
use Rattle.conf_lex.proofs.PartShapes.{fails_then, fails_along, bool_cases, begun, refuses}
use Rattle.expr_syntax.specs.Syntax.{rule}
use Rattle.filt_syntax.specs.StatementReaders.{block_at}
use Rattle.expr_syntax.specs.Rows.{nth, row_after, row_tree}
use Rattle.expr_syntax.proofs.Tested.{model, after, checked, is_checked, good_at, next_at, solid_at}
use Rattle.conf_syntax.specs.Syntax.{is_family, statement}
use Rattle.conf_ast.specs.declared.configurations.Statement.{Statement}
use Rattle.conf_tree.specs.View.{statement_tree}
use Rattle.conf_syntax.specs.View.{placed_leaf, family_symbol, family_leaf}
use Rattle.conf_tree.specs.Readers.{regroup, parameters_at, gives_at, statement_at, statement_row_at, config_at, to_the_end, whole_at}
use Rattle.conf_syntax.specs.Readers.{literal_at}
use Rattle.conf_syntax.proofs.FirstWords.{both_same}
use Rattle.conf_syntax.proofs.Heads.{headed}
use Rattle.conf_tree.proofs.Tested.{config_checked}

pub statement_checked : is_checked statement
statement_checked = refl

-- ---- statements by their first word

pub router_is : (k : ℕ) (ws u : List Word) → ws ≡ words.Symbol sym.Router ∷ u → statement_at k ws ≡ and_then (both (word (symbol sym.Id)) (both (word address) (word (symbol sym.Semicolon))) u) (λ t v. Parsed (nth 0 (Pair (symbol_leaf sym.Router) t)) v)
unfolding statement_at
router_is zero ws u is = headed 0 0 (symbol sym.Router) statement _ _ statement_checked refl refl ws (words.Symbol sym.Router) u is refl
router_is (suc k) ws u is = headed 0 (suc k) (symbol sym.Router) statement _ _ statement_checked refl refl ws (words.Symbol sym.Router) u is refl

pub log_is : (k : ℕ) (ws u : List Word) → ws ≡ words.Symbol sym.Log ∷ u → statement_at k ws ≡ and_then (word (symbol sym.Semicolon) u) (λ t v. Parsed (nth 1 (Pair (symbol_leaf sym.Log) t)) v)
unfolding statement_at
log_is zero ws u is = headed 1 0 (symbol sym.Log) statement _ _ statement_checked refl refl ws (words.Symbol sym.Log) u is refl
log_is (suc k) ws u is = headed 1 (suc k) (symbol sym.Log) statement _ _ statement_checked refl refl ws (words.Symbol sym.Log) u is refl

pub define_is : (k : ℕ) (ws u : List Word) → ws ≡ words.Symbol sym.Define ∷ u → statement_at k ws ≡ and_then (both (word name) (both (word (symbol sym.Equal)) (both (literal_at k) (word (symbol sym.Semicolon)))) u) (λ t v. Parsed (nth 2 (Pair (symbol_leaf sym.Define) t)) v)
unfolding statement_at literal_at
define_is zero ws u is = headed 2 0 (symbol sym.Define) statement _ _ statement_checked refl refl ws (words.Symbol sym.Define) u is refl
define_is (suc k) ws u is = headed 2 (suc k) (symbol sym.Define) statement _ _ statement_checked refl refl ws (words.Symbol sym.Define) u is refl

family_passes : (at : ℕ) (f : Family) → is_family (kind_of (words.Placed at (family_symbol f))) ≡ true
family_passes at families.V4 = refl
family_passes at families.V6 = refl

pub table_is : (k at : ℕ) (f : Family) (ws u : List Word) → ws ≡ words.Placed at (family_symbol f) ∷ u → statement_at k ws ≡ and_then (both (word (symbol sym.Table)) (both (word name) (word (symbol sym.Semicolon))) u) (λ t v. Parsed (nth 3 (Pair (family_leaf at f) t)) v)
unfolding statement_at
table_is zero at f ws u is = headed 3 0 is_family statement _ _ statement_checked refl refl ws (words.Placed at (family_symbol f)) u is (family_passes at f)
table_is (suc k) at f ws u is = headed 3 (suc k) is_family statement _ _ statement_checked refl refl ws (words.Placed at (family_symbol f)) u is (family_passes at f)

pub filter_is : (k at : ℕ) (ws u : List Word) → ws ≡ words.Placed at sym.Filter ∷ u → statement_at k ws ≡ and_then (both (word name) (block_at k) u) (λ t v. Parsed (nth 5 (Pair (placed_leaf at sym.Filter) t)) v)
unfolding statement_at block_at
filter_is zero at ws u is = headed 5 0 (symbol sym.Filter) statement _ _ statement_checked refl refl ws (words.Placed at sym.Filter) u is refl
filter_is (suc k) at ws u is = headed 5 (suc k) (symbol sym.Filter) statement _ _ statement_checked refl refl ws (words.Placed at sym.Filter) u is refl

pub statement_bad : (k : ℕ) (ws : List Word) → begins (symbol sym.Router) ws ≡ false → begins (symbol sym.Log) ws ≡ false → begins (symbol sym.Define) ws ≡ false → begins is_family ws ≡ false → begins (symbol sym.Function) ws ≡ false → begins (symbol sym.Filter) ws ≡ false → begins (symbol sym.Protocol) ws ≡ false → statement_at k ws ≡ Failed Bad ws
unfolding statement_at
statement_bad zero [] a b c d e f g = refl
statement_bad (suc k) [] a b c d e f g = refl
statement_bad zero (w ∷ ws) a b c d e f g = rw (a, b, c, d, e, f, g) refl
statement_bad (suc k) (w ∷ ws) a b c d e f g = rw (a, b, c, d, e, f, g) refl

-- ---- functions

regrouped : (c g : Reader) (x : Read) → and_then x (λ a u. and_then (both c g u) (λ b v. Parsed (Pair a b) v)) ≡ and_then (and_then x (λ a u. and_then (c u) (λ d v. Parsed (Pair a d) v))) (λ h v. and_then (g v) (λ b z. Parsed (regroup h b) z))
regrouped c g (Failed why u) = refl
regrouped c g (Parsed a u) = by_second (c u)
  where
    by_third : (d : ParseTree) (y : Read) → and_then (and_then y (λ e z. Parsed (Pair d e) z)) (λ b v. Parsed (Pair a b) v) ≡ and_then y (λ b z. Parsed (Pair a (Pair d b)) z)
    by_third d (Parsed e z) = refl
    by_third d (Failed why z) = refl

    by_second : (y : Read) → and_then (and_then y (λ d v. and_then (g v) (λ e z. Parsed (Pair d e) z))) (λ b v. Parsed (Pair a b) v) ≡ and_then (and_then y (λ d v. Parsed (Pair a d) v)) (λ h v. and_then (g v) (λ b z. Parsed (regroup h b) z))
    by_second (Parsed d v) = by_third d (g v)
    by_second (Failed why v) = refl

-- behind the opening parenthesis
abbrev grouped : ℕ → Reader
grouped k ws = and_then (both (parameters_at 0) (word (symbol sym.CloseParenthesis)) ws) (λ h v. and_then (both (gives_at 0) (block_at k) v) (λ b z. Parsed (regroup h b) z))

-- the same, part behind part
abbrev ungrouped : ℕ → Reader
ungrouped k = both (parameters_at 0) (both (word (symbol sym.CloseParenthesis)) (both (gives_at 0) (block_at k)))

function_parts : (k : ℕ) (ws u : List Word) → ws ≡ words.Symbol sym.Function ∷ u → statement_at k ws ≡ and_then (both (word name) (both (word (symbol sym.OpenParenthesis)) (ungrouped k)) u) (λ t v. Parsed (nth 4 (Pair (symbol_leaf sym.Function) t)) v)
unfolding statement_at parameters_at gives_at block_at
function_parts zero ws u is = headed 4 0 (symbol sym.Function) statement _ _ statement_checked refl refl ws (words.Symbol sym.Function) u is refl
function_parts (suc k) ws u is = headed 4 (suc k) (symbol sym.Function) statement _ _ statement_checked refl refl ws (words.Symbol sym.Function) u is refl

pub function_is : (k : ℕ) (ws u : List Word) → ws ≡ words.Symbol sym.Function ∷ u → statement_at k ws ≡ and_then (both (word name) (both (word (symbol sym.OpenParenthesis)) (λ xs. and_then (both (parameters_at 0) (word (symbol sym.CloseParenthesis)) xs) (λ h v. and_then (both (gives_at 0) (block_at k) v) (λ b z. Parsed (regroup h b) z)))) u) (λ t v. Parsed (nth 4 (Pair (symbol_leaf sym.Function) t)) v)
function_is k ws u is =
    let inner : (xs : List Word) → ungrouped k xs ≡ grouped k xs = λ xs. regrouped (word (symbol sym.CloseParenthesis)) (both (gives_at 0) (block_at k)) (parameters_at 0 xs) in
    let opened : (xs : List Word) → both (word (symbol sym.OpenParenthesis)) (ungrouped k) xs ≡ both (word (symbol sym.OpenParenthesis)) (grouped k) xs = both_same (word (symbol sym.OpenParenthesis)) (ungrouped k) (grouped k) inner in
    function_parts k ws u is ∙ ap (λ (x : Read). and_then x (λ t v. Parsed (nth 4 (Pair (symbol_leaf sym.Function) t)) v)) (both_same (word name) _ _ opened u)

-- ---- the statements of a configuration

statement_begun : (k : ℕ) (ws : List Word) (t : ParseTree) (rest : List Word) → statement_at k ws ≡ Parsed t rest → begins (first_set statement) ws ≡ true
unfolding statement_at
statement_begun k ws t rest got = begun rule model after checked k statement statement_checked refl ws t rest got

statement_refused : (k : ℕ) (ws : List Word) → begins (first_set statement) ws ≡ false → statement_at k ws ≡ Failed Bad ws
unfolding statement_at
statement_refused k ws none = refuses rule model after checked k statement statement_checked refl ws none

pub statement_shorter : (k : ℕ) (ws : List Word) (t : ParseTree) (rest : List Word) → statement_at k ws ≡ Parsed t rest → length rest < length ws
unfolding statement_at
statement_shorter k ws t rest got =
    let taken = (good_at k statement statement_checked).got ws t rest got in
    let some : 0 < length (yield t) = full_words statement (yield t) refl (fits_front rule t statement (solid_at statement statement_checked) taken.fits) in
    rw taken.front (omega (arith, length-append (yield t) rest))

pub row_turn : (k : ℕ) (t : ParseTree) (ws : List Word) → statement_row_at k t ws ≡ cond (begins (first_set statement) ws) (and_then (statement_at k ws) (λ b u. statement_row_at k (Snoc t b) u)) (Parsed t ws)
unfolding statement_row_at statement_at
row_turn k t ws = turn rule k Epsilon statement (read rule k Epsilon) (read rule k statement) (next_at Epsilon statement config_checked) (good_at k Epsilon refl) (good_at k statement statement_checked) t ws

-- behind a tree of statements, to the end of the words
unfoldable pub ended_at : ℕ → ParseTree → Reader
ended_at k t ws = and_then (statement_row_at k t ws) to_the_end

pub config_is : (k : ℕ) (ws : List Word) → config_at k ws ≡ statement_row_at k (Single NoWords) ws
unfolding config_at statement_row_at statement_at
config_is zero ws = refl
config_is (suc k) ws = refl

pub whole_is : (k : ℕ) (ws : List Word) → whole_at k ws ≡ ended_at k (row_tree []) ws
unfolding whole_at ended_at
whole_is k ws = ap (λ (x : Read). and_then x to_the_end) (config_is k ws)

pub whole_more : (k : ℕ) (t : ParseTree) (ws : List Word) (s : ParseTree) (rest : List Word) → statement_at k ws ≡ Parsed s rest → ended_at k t ws ≡ ended_at k (Snoc t s) rest
unfolding ended_at
whole_more k t ws s rest got = let here = statement_begun k ws s rest got in ap (λ (x : Read). and_then x to_the_end) (row_turn k t ws ∙ rw (here, got) refl)

pub whole_end : (k : ℕ) (t : ParseTree) (ws : List Word) → ws ≡ [] → ended_at k t ws ≡ Parsed t ws
unfolding ended_at
whole_end k t ws none = rw (none, row_turn k t []) refl

pub no_words : (ws : List Word) → (length ws == 0) ≡ true → ws ≡ []
no_words [] none = refl
no_words (w ∷ ws) none = let same = eqb-true (length (w ∷ ws)) 0 none in absurd (omega (arith, same))

pub some_words : (ws : List Word) → (length ws == 0) ≡ false → 0 < length ws
some_words [] some = absurd cc
some_words (w ∷ ws) some = omega arith

end_refused : (t : ParseTree) (ws : List Word) → 0 < length ws → to_the_end t ws ≡ Failed Bad ws
end_refused t [] some = absurd (omega arith)
end_refused t (w ∷ ws) some = refl

pub whole_fails : (k : ℕ) (t : ParseTree) (ws : List Word) (e : Refusal) → 0 < length ws → AgreesOnError e (statement_at k ws) → AgreesOnError e (ended_at k t ws)
unfolding ended_at
whole_fails k t ws e some failed = elim (bool_cases (begins (first_set statement) ws)) [
  | inl here ↦
      let going : statement_row_at k t ws ≡ and_then (statement_at k ws) (λ b u. statement_row_at k (Snoc t b) u) = row_turn k t ws ∙ rw here refl in
      fails_along e _ _ (ap (λ (x : Read). and_then x to_the_end) going) (fails_then e (and_then (statement_at k ws) (λ b u. statement_row_at k (Snoc t b) u)) to_the_end (fails_then e (statement_at k ws) (λ b u. statement_row_at k (Snoc t b) u) failed))
  | inr none ↦
      let ended : statement_row_at k t ws ≡ Parsed t ws = row_turn k t ws ∙ rw none refl in
      fails_along e _ (statement_at k ws) (ap (λ (x : Read). and_then x to_the_end) ended ∙ end_refused t ws some ∙ flip (statement_refused k ws none)) failed
]

more_after : (t : ParseTree) (ss : List Statement) (s : Statement) → row_after t (map statement_tree (ss ++ s ∷ [])) ≡ Snoc (row_after t (map statement_tree ss)) (statement_tree s)
more_after t [] s = refl
more_after t (q ∷ ss) s = more_after (Snoc t (statement_tree q)) ss s

pub one_more_statement : (ss : List Statement) (s : Statement) → row_tree (map statement_tree (ss ++ s ∷ [])) ≡ Snoc (row_tree (map statement_tree ss)) (statement_tree s)
one_more_statement ss s = more_after (Single NoWords) ss s
