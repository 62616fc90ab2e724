-- Reading options, each with its semicolon, and the brace behind them, one step of a parser after another.
use Rattle.std.proofs.Common.{◌≡◌, ℕ, zero, suc, ◌+◌, ◌<◌, ◌≤◌, Bool, true, false, cond, ◌||◌, List, [], ◌∷◌, ◌++◌, length, map, refl, sym as flip, ◌∙◌, arith, inl, inr}
use Rattle.conf_lex.specs.declared.symbol.Symbol.TheVariants as sym
use Rattle.conf_lex.specs.declared.word.Word.{Word}
use Rattle.conf_lex.specs.declared.word.Word.TheVariants as words
use Rattle.conf_lex.specs.Kind.{kind_of, symbol}
use Rattle.conf_lex.specs.Grammar.{Epsilon, Seq, ParseTree, NoWords, Pair, Single, Snoc, begins, first_set, Bad}
use Rattle.conf_lex.specs.Reading.{Parsed, Failed, Reader, and_then, word, both, all_turns, read}
use Rattle.conf_lex.specs.Leaves.{symbol_leaf}
use Rattle.conf_lex.specs.Agrees.{AgreesOnError}
use Rattle.conf_lex.specs.declared.refusal.Refusal.{Refusal}
use Rattle.conf_lex.proofs.Chains.{turn}
use Rattle.conf_lex.proofs.PartShapes.{fails_then, fails_along, word_bad, bool_cases, begun, refuses, shorter}
use Rattle.expr_syntax.specs.Syntax.{semicolon, rule}
use Rattle.expr_syntax.specs.Levels.{Form}
use Rattle.expr_syntax.specs.Rows.{row_after}
use Rattle.expr_syntax.proofs.Tested.{model, after, checked, good_at, next_at}
use Rattle.conf_syntax.specs.Syntax.{ended_options}
use Rattle.conf_syntax.specs.Options.{IsOption}
use Rattle.conf_syntax.specs.View.{ended_tree, ended_row}
use Rattle.conf_syntax.specs.Readers.{closed_options}

-- the front is read as this tree and what options give from these words on
unfoldable pub row_at : Form → ℕ → ParseTree → Reader
row_at item k = all_turns (first_set (Seq item semicolon)) (read rule k (Seq item semicolon))

unfoldable pub IsRow : Form → ℕ → List Word → ParseTree → List Word → Type 0
IsRow item k front t ws = read rule k (ended_options item) front ≡ row_at item k t ws

or_first : (a b : Bool) → (a || b) ≡ false → a ≡ false
or_first true b none = absurd cc
or_first false b none = refl

no_first : (item : Form) (ws : List Word) → begins (first_set (Seq item semicolon)) ws ≡ false → begins (first_set item) ws ≡ false
no_first item [] none = refl
no_first item (w ∷ ws) none = or_first (first_set item (kind_of w)) _ none

yes_first : (item : Form) (ws : List Word) → begins (first_set item) ws ≡ true → begins (first_set (Seq item semicolon)) ws ≡ true
yes_first item [] here = absurd cc
yes_first item (w ∷ ws) here = rw here refl

not_shut : (item : Form) → IsOption item → (ws end : List Word) → ws ≡ words.Symbol sym.CloseBrace ∷ end → begins (first_set (Seq item semicolon)) ws ≡ false
not_shut item is ws end shut = rw (shut, is.shut, is.full) refl

pub row_start : (item : Form) (k : ℕ) (ws : List Word) → IsRow item k ws (Single NoWords) ws
unfolding IsRow row_at
row_start item zero ws = refl
row_start item (suc k) ws = refl

row_turn : (item : Form) → IsOption item → (k : ℕ) (t : ParseTree) (ws : List Word) → row_at item k t ws ≡ cond (begins (first_set (Seq item semicolon)) ws) (and_then (read rule k (Seq item semicolon) ws) (λ b u. row_at item k (Snoc t b) u)) (Parsed t ws)
unfolding row_at
row_turn item is k t ws =
    turn rule k Epsilon (Seq item semicolon) (read rule k Epsilon) (read rule k (Seq item semicolon)) (next_at Epsilon (Seq item semicolon) is.row) (good_at k Epsilon refl) (good_at k (Seq item semicolon) is.ended) t ws

-- an option and its semicolon
ended_is : (item : Form) (k : ℕ) (ws : List Word) → read rule k (Seq item semicolon) ws ≡ both (read rule k item) (word (symbol sym.Semicolon)) ws
ended_is item zero ws = refl
ended_is item (suc k) ws = refl

starts_here : (item : Form) → IsOption item → (k : ℕ) (ws : List Word) (o : ParseTree) (end : List Word) → read rule k item ws ≡ Parsed o end → begins (first_set (Seq item semicolon)) ws ≡ true
starts_here item is k ws o end got = yes_first item ws (begun rule model after checked k item is.alone is.full ws o end got)

going : (item : Form) → IsOption item → (k : ℕ) (front : List Word) (t : ParseTree) (ws : List Word) → IsRow item k front t ws → begins (first_set (Seq item semicolon)) ws ≡ true → read rule k (ended_options item) front ≡ and_then (both (read rule k item) (word (symbol sym.Semicolon)) ws) (λ b u. row_at item k (Snoc t b) u)
unfolding IsRow
going item is k front t ws reading here = reading ∙ row_turn item is k t ws ∙ rw (here, ended_is item k ws) refl

ended_here : (item : Form) → IsOption item → (k : ℕ) (front : List Word) (t : ParseTree) (ws : List Word) → IsRow item k front t ws → begins (first_set (Seq item semicolon)) ws ≡ false → read rule k (ended_options item) front ≡ Parsed t ws
unfolding IsRow
ended_here item is k front t ws reading none = reading ∙ row_turn item is k t ws ∙ rw none refl

pub row_closed : (item : Form) → IsOption item → (k : ℕ) (front : List Word) (t : ParseTree) (ws end : List Word) → IsRow item k front t ws → ws ≡ words.Symbol sym.CloseBrace ∷ end → closed_options item k front ≡ Parsed (Pair t (symbol_leaf sym.CloseBrace)) end
unfolding closed_options
row_closed item is k front t ws end reading shut = rw (ended_here item is k front t ws reading (not_shut item is ws end shut), shut) refl

-- what begins no option and isn't the closing brace either is refused
pub row_option_fails : (item : Form) → IsOption item → (k : ℕ) (front : List Word) (t : ParseTree) (ws : List Word) (e : Refusal) → IsRow item k front t ws → begins (symbol sym.CloseBrace) ws ≡ false → AgreesOnError e (read rule k item ws) → AgreesOnError e (closed_options item k front)
unfolding closed_options
row_option_fails item is k front t ws e reading not_closed failed = elim (bool_cases (begins (first_set (Seq item semicolon)) ws)) [
  | inl here ↦ rw (going item is k front t ws reading here) (fails_then e _ _ (fails_then e _ _ (fails_then e (read rule k item ws) _ failed)))
  | inr none ↦
      let refused : read rule k item ws ≡ Failed Bad ws = refuses rule model after checked k item is.alone is.full ws (no_first item ws none) in
      let same : word (symbol sym.CloseBrace) ws ≡ read rule k item ws = word_bad (symbol sym.CloseBrace) ws not_closed ∙ flip refused in
      rw (ended_here item is k front t ws reading none) (fails_then e (word (symbol sym.CloseBrace) ws) _ (fails_along e (word (symbol sym.CloseBrace) ws) (read rule k item ws) same failed))
]

pub row_semicolon_fails : (item : Form) → IsOption item → (k : ℕ) (front : List Word) (t : ParseTree) (ws : List Word) (o : ParseTree) (end : List Word) (e : Refusal) → IsRow item k front t ws → read rule k item ws ≡ Parsed o end → AgreesOnError e (word (symbol sym.Semicolon) end) → AgreesOnError e (closed_options item k front)
unfolding closed_options
row_semicolon_fails item is k front t ws o end e reading got failed =
    rw (going item is k front t ws reading (starts_here item is k ws o end got), got) (fails_then e _ _ (fails_then e _ _ (fails_then e (word (symbol sym.Semicolon) end) _ failed)))

pub option_shorter : (item : Form) → IsOption item → (k : ℕ) (ws : List Word) (o : ParseTree) (end rest : List Word) → read rule k item ws ≡ Parsed o end → end ≡ words.Symbol sym.Semicolon ∷ rest → length rest < length ws
option_shorter item is k ws o end rest got ended =
    let less : length end ≤ length ws = shorter rule model after checked k item is.alone ws o end got in
    let one : length end ≡ length rest + 1 = rw ended (omega arith) in
    omega (arith, less, one)

row_more : (item : Form) → IsOption item → (k : ℕ) (front : List Word) (t : ParseTree) (ws : List Word) (o : ParseTree) (end rest : List Word) → IsRow item k front t ws → read rule k item ws ≡ Parsed o end → end ≡ words.Symbol sym.Semicolon ∷ rest → IsRow item k front (Snoc t (ended_tree o)) rest
unfolding IsRow
row_more item is k front t ws o end rest reading got ended =
    going item is k front t ws reading (starts_here item is k ws o end got) ∙ rw (got, ended) refl

module _ {X : Type 0} (view : X → ParseTree) where
  after_more : (t : ParseTree) (os : List X) (o : X) → row_after t (map (λ a. ended_tree (view a)) (os ++ o ∷ [])) ≡ Snoc (row_after t (map (λ a. ended_tree (view a)) os)) (ended_tree (view o))
  after_more t [] o = refl
  after_more t (a ∷ os) o = after_more (Snoc t (ended_tree (view a))) os o

  -- one more option
  pub row_next : (item : Form) → IsOption item → (k : ℕ) (front : List Word) (os : List X) (ws : List Word) (o : X) (end rest : List Word) (more : List X) → more ≡ os ++ o ∷ [] → IsRow item k front (ended_row view os) ws → read rule k item ws ≡ Parsed (view o) end → end ≡ words.Symbol sym.Semicolon ∷ rest → IsRow item k front (ended_row view more) rest
  row_next item is k front os ws o end rest more pushed reading got ended =
      rw (pushed, after_more (Single NoWords) os o) (row_more item is k front (ended_row view os) ws (view o) end rest reading got ended)
