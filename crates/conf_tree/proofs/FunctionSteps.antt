-- Reading functions, one step of the parser after another.
use Rattle.std.proofs.Common.{◌≡◌, ◌<◌, ◌≤◌, true, false, List, [], ◌∷◌, ◌++◌, length, refl, sym as flip, ◌∙◌, arith, inl, inr, Some, None}
use Rattle.conf_lex.specs.declared.symbol.Symbol.TheVariants as sym
use Rattle.conf_lex.specs.declared.word.Word.{Word}
use Rattle.conf_lex.specs.declared.word.Word.TheVariants as words
use Rattle.conf_lex.specs.Kind.{kind_of, symbol}
use Rattle.conf_lex.specs.Grammar.{ParseTree, NoWords, Pair, Left, Right, Single, Snoc, begins, first_set, Bad}
use Rattle.conf_lex.specs.Reading.{Parsed, Failed, Reader, and_then, word, both}
use Rattle.conf_lex.specs.PartShapes.{links}
use Rattle.conf_lex.specs.Leaves.{symbol_leaf}
use Rattle.conf_lex.specs.Agrees.{AgreesOnError}
use Rattle.conf_lex.specs.declared.refusal.Refusal.{Refusal}
use Rattle.conf_lex.proofs.PartShapes.{fails_then, fails_along, word_bad, bool_cases, begins_none, Turns, links_more, links_fail, links_end, refuses, shorter, chain_turns}
use Rattle.expr_syntax.specs.Syntax.{rule}
use Rattle.conf_ast.specs.declared.filters.Parameter.{Parameter}
use Rattle.conf_ast.specs.declared.filters.Separator.{Separator}
use Rattle.conf_ast.specs.declared.filters.Separator.TheVariants as separators
use Rattle.expr_syntax.proofs.Tested.{model, after, checked}
use Rattle.conf_syntax.specs.Syntax.{parameter, parameters, is_separator}
use Rattle.conf_tree.specs.View.{parameter_tree, parameters_tree, parameters_after, first_parameter, separator_symbol}
use Rattle.conf_tree.specs.Readers.{parameter_at, some_parameters_at, parameters_at}

-- ---- the type of what a function gives

-- ---- parameters

pub parameters_none : (ws u : List Word) → ws ≡ words.Symbol sym.CloseParenthesis ∷ u → both (parameters_at 0) (word (symbol sym.CloseParenthesis)) ws ≡ Parsed (Pair (Right NoWords) (symbol_leaf sym.CloseParenthesis)) u
unfolding parameters_at
parameters_none ws u is = rw is refl

parameter_refused : (ws : List Word) → begins (first_set parameter) ws ≡ false → parameter_at 0 ws ≡ Failed Bad ws
unfolding parameter_at
parameter_refused ws none = refuses rule model after checked 0 parameter refl refl ws none

pub parameter_shorter : (ws : List Word) (t : ParseTree) (rest : List Word) → parameter_at 0 ws ≡ Parsed t rest → length rest ≤ length ws
unfolding parameter_at
parameter_shorter ws t rest got = shorter rule model after checked 0 parameter refl ws t rest got

pub parameter_turns : Turns is_separator (parameter_at 0)
unfolding parameter_at
parameter_turns = chain_turns rule model after checked 0 is_separator parameter parameter refl refl refl

-- parameters behind a tree of some
unfoldable pub parameter_row_at : ParseTree → Reader
parameter_row_at t ws = and_then (links is_separator (parameter_at 0) t ws) (λ row rest. Parsed (Left row) rest)

some_is : (ws : List Word) → some_parameters_at 0 ws ≡ and_then (and_then (parameter_at 0 ws) (λ a rest. links is_separator (parameter_at 0) (Single a) rest)) (λ row rest. Parsed (Left row) rest)
unfolding some_parameters_at parameter_at links
some_is ws = refl

pub some_first : (ws : List Word) (a : ParseTree) (rest : List Word) → parameter_at 0 ws ≡ Parsed a rest → some_parameters_at 0 ws ≡ parameter_row_at (Single a) rest
unfolding parameter_row_at
some_first ws a rest got = some_is ws ∙ rw got refl

pub some_first_fails : (ws : List Word) (e : Refusal) → AgreesOnError e (parameter_at 0 ws) → AgreesOnError e (some_parameters_at 0 ws)
some_first_fails ws e failed =
    fails_along e (some_parameters_at 0 ws) _ (some_is ws)
    (fails_then e (and_then (parameter_at 0 ws) (λ a rest. links is_separator (parameter_at 0) (Single a) rest)) (λ row rest. Parsed (Left row) rest)
    (fails_then e (parameter_at 0 ws) (λ a rest. links is_separator (parameter_at 0) (Single a) rest) failed))

parameters_start : (ws : List Word) → begins (first_set parameter) ws ≡ true → parameters_at 0 ws ≡ some_parameters_at 0 ws
unfolding parameters_at some_parameters_at
parameters_start ws starts_here = let here : begins (first_set parameters) ws ≡ true = begins_none (first_set parameter) ws ∙ starts_here in rw here refl

parameters_no_start : (ws : List Word) → begins (first_set parameter) ws ≡ false → parameters_at 0 ws ≡ Parsed (Right NoWords) ws
unfolding parameters_at
parameters_no_start ws no_start_here = let here : begins (first_set parameters) ws ≡ false = begins_none (first_set parameter) ws ∙ no_start_here in rw here refl

some_refused : (ws : List Word) → begins (first_set parameter) ws ≡ false → some_parameters_at 0 ws ≡ Failed Bad ws
some_refused ws none = some_is ws ∙ rw (parameter_refused ws none) refl

pub parameters_some : (ws : List Word) (t : ParseTree) (rest : List Word) → some_parameters_at 0 ws ≡ Parsed t rest → parameters_at 0 ws ≡ Parsed t rest
parameters_some ws t rest got = elim (bool_cases (begins (first_set parameter) ws)) [
  | inl here ↦ parameters_start ws here ∙ got
  | inr none ↦ let bad = some_refused ws none in absurd cc
]

-- what begins no parameter and isn't the closing parenthesis either is refused
pub parameters_fail : (ws : List Word) (e : Refusal) → begins (symbol sym.CloseParenthesis) ws ≡ false → AgreesOnError e (some_parameters_at 0 ws) → AgreesOnError e (both (parameters_at 0) (word (symbol sym.CloseParenthesis)) ws)
parameters_fail ws e not_closed failed = elim (bool_cases (begins (first_set parameter) ws)) [
  | inl here ↦ fails_then e (parameters_at 0 ws) (λ a rest. and_then (word (symbol sym.CloseParenthesis) rest) (λ b end. Parsed (Pair a b) end)) (fails_along e (parameters_at 0 ws) (some_parameters_at 0 ws) (parameters_start ws here) failed)
  | inr none ↦
      let refused_here : both (parameters_at 0) (word (symbol sym.CloseParenthesis)) ws ≡ Failed Bad ws = rw (parameters_no_start ws none, word_bad (symbol sym.CloseParenthesis) ws not_closed) refl in
      fails_along e _ (some_parameters_at 0 ws) (refused_here ∙ flip (some_refused ws none)) failed
]

separator_passes : (s : Separator) → is_separator (kind_of (words.Symbol (separator_symbol s))) ≡ true
separator_passes separators.Semicolon = refl
separator_passes separators.Comma = refl

abbrev behind_separator : Separator → Parameter → ParseTree
behind_separator s p = Pair (symbol_leaf (separator_symbol s)) (parameter_tree p)

pub row_more : (t : ParseTree) (ws u : List Word) (s : Separator) (p : Parameter) (end : List Word) → ws ≡ words.Symbol (separator_symbol s) ∷ u → parameter_at 0 u ≡ Parsed (parameter_tree p) end → parameter_row_at t ws ≡ parameter_row_at (Snoc t (Pair (symbol_leaf (separator_symbol s)) (parameter_tree p))) end
unfolding parameter_row_at
row_more t ws u s p end is got = rw (more_links t ws u s p end is got) refl
  where
    more_links : (t : ParseTree) (ws u : List Word) (s : Separator) (p : Parameter) (end : List Word) → ws ≡ words.Symbol (separator_symbol s) ∷ u → parameter_at 0 u ≡ Parsed (parameter_tree p) end → links is_separator (parameter_at 0) t ws ≡ links is_separator (parameter_at 0) (Snoc t (behind_separator s p)) end
    more_links t ws u s p end is got = links_more is_separator (parameter_at 0) parameter_turns t ws (words.Symbol (separator_symbol s)) u (parameter_tree p) end is (separator_passes s) got

pub row_fails : (t : ParseTree) (ws u : List Word) (s : Separator) (e : Refusal) → ws ≡ words.Symbol (separator_symbol s) ∷ u → AgreesOnError e (parameter_at 0 u) → AgreesOnError e (parameter_row_at t ws)
unfolding parameter_row_at
row_fails t ws u s e is failed = fails_then e (links is_separator (parameter_at 0) t ws) (λ row rest. Parsed (Left row) rest) (links_fail is_separator (parameter_at 0) parameter_turns t ws (words.Symbol (separator_symbol s)) u e is (separator_passes s) failed)

pub row_end : (t : ParseTree) (ws : List Word) → begins is_separator ws ≡ false → parameter_row_at t ws ≡ Parsed (Left t) ws
unfolding parameter_row_at
row_end t ws none = rw (links_end is_separator (parameter_at 0) parameter_turns t ws none) refl

-- the tree of one or more
abbrev pub row_of : List Parameter → ParseTree
row_of [] = NoWords
row_of (p ∷ ps) = parameters_after (first_parameter p.separator p) ps

pub row_tree_is : (ps : List Parameter) → 0 < length ps → parameters_tree ps ≡ Left (row_of ps)
row_tree_is [] some = absurd (omega arith)
row_tree_is (p ∷ ps) some = refl

pub row_one : (p : Parameter) → p.separator ≡ None → row_of (p ∷ []) ≡ Single (parameter_tree p)
row_one p none = rw none refl

after_more : (t : ParseTree) (ps : List Parameter) (p : Parameter) (s : Separator) → p.separator ≡ Some s → parameters_after t (ps ++ p ∷ []) ≡ Snoc (parameters_after t ps) (behind_separator s p)
after_more t [] p s is = rw is refl
after_more t (q ∷ ps) p s is = after_more _ ps p s is

pub one_more_parameter : (ps : List Parameter) (p : Parameter) (s : Separator) → 0 < length ps → p.separator ≡ Some s → row_of (ps ++ p ∷ []) ≡ Snoc (row_of ps) (Pair (symbol_leaf (separator_symbol s)) (parameter_tree p))
one_more_parameter [] p s some is = absurd (omega arith)
one_more_parameter (q ∷ ps) p s some is = after_more (first_parameter q.separator q) ps p s is
