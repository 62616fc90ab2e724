-- A text is a condition of one filter, or it is refused as one, and not both.
use Rattle.std.proofs.Common.{◌≡◌, ◌≢◌, ◌⊎◌, ◌∙◌, ◌+◌, ◌<◌, ◌≤◌, ◌^◌, ◌-◌, sym, ap, subst, refl, ℕ, Bool, true, false, nat_lt, List, ◌∷◌, ◌++◌, length, map, drop, arith, inl, inr}
use Rattle.std.proofs.lemmas.Bool.{ltb-false, ltb-true}
use Rattle.std.proofs.lemmas.List.{length-append, length-map}
use Rattle.conf_lex.specs.Grammar.{DerivesLongest, ParseTree, yield}
use Rattle.conf_scan.specs.Lex.{Lexes, Stops}
use Rattle.conf_scan.specs.Spans.{IsBetween, IsSpan}
use Rattle.conf_lex.specs.Words.{words_from}
use Rattle.conf_scan.specs.declared.token.Token.{Token}
use Rattle.conf_lex.specs.declared.word.Word.{Word}
use Rattle.conf_ast.specs.Filters.{Expression, expression_of}
use Rattle.conf_ast.specs.declared.filters.Expr.{Expr}
use Rattle.expr_syntax.specs.Syntax.{expr, rule}
use Rattle.filt_syntax.specs.Tokens.{IsRefusedIn, ParsesAtToken}
use Rattle.expr_syntax.specs.View.{derivations}
use Rattle.filt_syntax.specs.declared.parse.SyntaxFault.{SyntaxFault}
use Rattle.filt_syntax.specs.declared.parse.SyntaxFault.TheVariants as faults
use Rattle.conf_system.specs.Asked.{Asked, Asks, Refuses}
use Rattle.conf_system.specs.Conditions.{IsCondition, IsExpressionText, IsNoExpression, RefusesCondition}
use Rattle.conf_system.specs.Policies.{Filter}
use Rattle.conf_system.specs.System.{System}
use Rattle.conf_system.proofs.Counted.{tokens_few, words_few}
use Rattle.conf_system.proofs.Endings.{ends_within}

abbrev asked_filter : Filter → Asked → Filter
asked_filter other Refuses = other
asked_filter other (Asks f) = f

one_filter : (f g : Filter) → Asks f ≡ Asks g → f ≡ g
one_filter f g same = ap (asked_filter f) same

asks_something : (f : Filter) → Asks f ≡ Refuses → ⊥
asks_something f same = cc

-- the expression ends with the text, over the same tokens
all_tokens : (text : List ℕ) (ts us : List Token) (t : ParseTree) → ts ≡ us → ParsesAtToken expr text ts 0 t (length ts) → ParsesAtToken expr text us 0 t (length us)
all_tokens text ts us t same parsed = subst (λ (l : List Token). ParsesAtToken expr text l 0 t (length l)) same parsed

-- It follows from the laws of tokens, of readings and of trees.
module _ (one_list : (text : List ℕ) (ts us : List Token) → Lexes 0 text ts → Lexes 0 text us → ts ≡ us)
    (lexed_or_not : (text : List ℕ) (ts us : List Token) (place : ℕ) → Lexes 0 text ts → Stops 0 text us place → ⊥)
    (parsed_or_not : (text : List ℕ) (tokens : List Token) (from : ℕ) (t : ParseTree) (end : ℕ) (e : SyntaxFault) → ParsesAtToken expr text tokens from t end → IsRefusedIn expr text tokens from e → e ≡ faults.Memory)
    (one_end : (text : List ℕ) (tokens : List Token) (from : ℕ) (t u : ParseTree) (end stop : ℕ) → ParsesAtToken expr text tokens from t end → ParsesAtToken expr text tokens from u stop → (t ≡ u) × (end ≡ stop))
    (one_expression : (c d : Expr) → DerivesLongest rule (derivations c).expr expr → (derivations c).expr ≡ (derivations d).expr → expression_of c ≡ expression_of d) where
  expressions_agree : (text : List ℕ) (e d : Expression) → IsExpressionText text e → IsExpressionText text d → e ≡ d
  expressions_agree text e d one two =
      let tokens = one_list text two.tokens one.tokens two.lexed one.lexed in
      let same = one_end text one.tokens 0 (derivations one.tree).expr (derivations two.tree).expr (length one.tokens) (length one.tokens) one.parsed (all_tokens text two.tokens one.tokens (derivations two.tree).expr tokens two.parsed) in
      one.is ∙ one_expression one.tree two.tree one.parsed.stands.1.fits same.0 ∙ sym two.is

  expression_or_none : (text : List ℕ) (e : Expression) → IsExpressionText text e → IsNoExpression text → ⊥
  expression_or_none text e is (inl none) = lexed_or_not text is.tokens none.before none.place is.lexed none.stops
  expression_or_none text e is (inr (inl none)) =
      let t = (derivations is.tree).expr in
      let parsed = all_tokens text is.tokens none.tokens t (one_list text is.tokens none.tokens is.lexed none.lexed) is.parsed in
      none.told (parsed_or_not text none.tokens 0 t (length none.tokens) none.fault parsed none.refused)
  expression_or_none text e is (inr (inr more)) =
      let t = (derivations is.tree).expr in
      let parsed = all_tokens text is.tokens more.tokens t (one_list text is.tokens more.tokens is.lexed more.lexed) is.parsed in
      let same = one_end text more.tokens 0 t more.tree (length more.tokens) more.end parsed more.parsed in
      omega (arith, same.1, more.left)

  pub conditions_agree : (system : System) (text : List ℕ) (f g : Filter) → IsCondition system text f → IsCondition system text g → f ≡ g
  conditions_agree system text f g one two =
      one_filter f g (sym one.2 ∙ ap (λ (e : Expression). system.asked text e) (expressions_agree text one.0 two.0 one.1 two.1) ∙ two.2)

  pub condition_or_refused : (system : System) (text : List ℕ) (f : Filter) → IsCondition system text f → RefusesCondition system text → ⊥
  condition_or_refused system text f is (inl none) = expression_or_none text is.0 is.1 none
  condition_or_refused system text f is (inr refused) =
      asks_something f (sym is.2 ∙ ap (λ (e : Expression). system.asked text e) (expressions_agree text is.0 refused.0 is.1 refused.1) ∙ refused.2)

-- ---- each text is one or the other

by_asked : (system : System) (text : List ℕ) (e : Expression) → IsExpressionText text e → (a : Asked) → system.asked text e ≡ a → ((f : Filter) × IsCondition system text f) ⊎ RefusesCondition system text
by_asked system text e is Refuses asked = inr (inr (e, is, asked))
by_asked system text e is (Asks f) asked = inl (f, (e, is, asked))

module _ (slices : (text : List ℕ) (front back : List Token) (t : Token) → Lexes 0 text (front ++ t ∷ back) → IsSpan text t)
    (rises : (text : List ℕ) (front back : List Token) (t u : Token) → Lexes 0 text (front ++ t ∷ u ∷ back) → IsBetween text (t.at + t.len) u.at)
    (each_tree : (t : ParseTree) → DerivesLongest rule t expr → length (yield t) < 2 ^ 63 → (e : Expr) × ((derivations e).expr ≡ t)) where
  -- a tree of a text has few words
  few : (text : List ℕ) (tokens : List Token) (t : ParseTree) (end : ℕ) → Lexes 0 text tokens → ParsesAtToken expr text tokens 0 t end → length (yield t) ≤ length text
  few text tokens t end lexed parsed =
      let words = words_from text 0 0 tokens in
      let front : length (map (λ (w : ℕ × Word). w.1) words) ≡ length (yield t ++ drop parsed.place (map (λ (w : ℕ × Word). w.1) words)) = ap (λ (l : List Word). length l) parsed.stands.1.front in
      omega (arith, front, length-append (yield t) (drop parsed.place (map (λ (w : ℕ × Word). w.1) words)), length-map words (λ (w : ℕ × Word). w.1), words_few text 0 0 tokens, tokens_few slices rises text tokens lexed)

  by_end : (text : List ℕ) (tokens : List Token) (t : ParseTree) (end : ℕ) → length text < 2 ^ 32 - 1 → Lexes 0 text tokens → ParsesAtToken expr text tokens 0 t end → (left : Bool) → nat_lt end (length tokens) ≡ left
      → ((e : Expression) × IsExpressionText text e) ⊎ IsNoExpression text
  by_end text tokens t end short lexed parsed true is =
      inr (inr (inr (record { tokens = tokens; lexed = lexed; tree = t; end = end; parsed = parsed; left = ltb-true end (length tokens) is })))
  by_end text tokens t end short lexed parsed false is =
      let ends : end ≡ length tokens = omega (arith, ltb-false end (length tokens) is, ends_within text tokens t end parsed) in
      let read = each_tree t parsed.stands.1.fits (omega (arith, short, few text tokens t end lexed parsed)) in
      let whole = subst (λ (n : ℕ). ParsesAtToken expr text tokens 0 t n) ends parsed in
      inl (
        expression_of read.0,
        record {
          tokens = tokens;
          lexed = lexed;
          tree = read.0;
          parsed = subst (λ (u : ParseTree). ParsesAtToken expr text tokens 0 u (length tokens)) (sym read.1) whole;
          is = refl;
        },
      )

  module _ (parsed_or_refused : (text : List ℕ) (tokens : List Token) (from : ℕ)
      → ((t : ParseTree) × (end : ℕ) × ParsesAtToken expr text tokens from t end) ⊎ ((e : SyntaxFault) × IsRefusedIn expr text tokens from e × (e ≢ faults.Memory)))
      (tokens_or_place : (text : List ℕ) → ((tokens : List Token) × Lexes 0 text tokens) ⊎ ((tokens : List Token) × (place : ℕ) × Stops 0 text tokens place)) where
    of_tokens : (text : List ℕ) (tokens : List Token) → length text < 2 ^ 32 - 1 → Lexes 0 text tokens → ((e : Expression) × IsExpressionText text e) ⊎ IsNoExpression text
    of_tokens text tokens short lexed = elim (parsed_or_refused text tokens 0) [
      | inl parsed ↦ by_end text tokens parsed.0 parsed.1 short lexed parsed.2 (nat_lt parsed.1 (length tokens)) refl
      | inr refused ↦ inr (inr (inl (record { tokens = tokens; lexed = lexed; fault = refused.0; refused = refused.1; told = refused.2 })))
    ]

    expression_told : (text : List ℕ) → length text < 2 ^ 32 - 1 → ((e : Expression) × IsExpressionText text e) ⊎ IsNoExpression text
    expression_told text short = elim (tokens_or_place text) [
      | inl lexed ↦ of_tokens text lexed.0 short lexed.1
      | inr stopped ↦ inr (inl (record { before = stopped.0; place = stopped.1; stops = stopped.2 }))
    ]

    pub condition_told : (system : System) (text : List ℕ) → length text < 2 ^ 32 - 1 → ((f : Filter) × IsCondition system text f) ⊎ RefusesCondition system text
    condition_told system text short = elim (expression_told text short) [
      | inl is ↦ by_asked system text is.0 is.1 (system.asked text is.0) refl
      | inr none ↦ inr (inl none)
    ]
