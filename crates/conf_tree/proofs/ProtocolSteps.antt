-- Reading protocols, one step of the parser after another.
use Rattle.std.proofs.Common.{◌≡◌, ℕ, zero, suc, true, false, List, [], ◌∷◌, refl, ap, ◌∙◌}
use Rattle.conf_lex.specs.declared.symbol.Symbol.{Symbol}
use Rattle.conf_lex.specs.declared.symbol.Symbol.TheVariants as sym
use Rattle.conf_lex.specs.declared.word.Word.{Word}
use Rattle.conf_lex.specs.declared.word.Word.TheVariants as words
use Rattle.conf_lex.specs.Symbols.{is_placed}
use Rattle.conf_lex.specs.Kind.{symbol}
use Rattle.conf_lex.specs.Grammar.{Alt, ParseTree, Pair, Bad, begins}
use Rattle.conf_lex.specs.Reading.{Read, Parsed, Failed, Reader, and_then, word, both, read}
use Rattle.conf_lex.specs.Leaves.{symbol_leaf}
use Rattle.conf_lex.specs.Agrees.{AgreesOnError}
use Rattle.conf_lex.specs.declared.refusal.Refusal.{Refusal}
use Rattle.conf_lex.proofs.PartShapes.{fails_then}
use Rattle.conf_lex.proofs.Symbols.{placed_same}
use Rattle.expr_syntax.specs.Syntax.{rule}
use Rattle.expr_syntax.specs.Levels.{Form}
use Rattle.expr_syntax.specs.Rows.{nth, beyond}
use Rattle.expr_syntax.proofs.Tested.{is_checked}
use Rattle.expr_syntax.proofs.Picks.{maps2, picked, rest_read}
use Rattle.conf_syntax.specs.Syntax.{protocol_of, ended_options, static_option, bgp_option, pipe_option, device, statement}
use Rattle.conf_tree.specs.View.{of_protocol}
use Rattle.conf_syntax.specs.View.{placed_leaf}
use Rattle.conf_tree.specs.Readers.{protocol_at, statement_at}
use Rattle.conf_syntax.specs.Readers.{optional_name_at, optional_semicolon_at, closed_options}
use Rattle.conf_syntax.proofs.Heads.{headed}
use Rattle.conf_syntax.proofs.FirstWords.{both_same, last_headed}

-- ---- a protocol of options

-- options, the brace behind them, and what stands behind it
abbrev ended_with : ParseTree → ParseTree → ParseTree
ended_with (Pair row close) end = Pair row (Pair close end)
ended_with t end = t

abbrev options_and_end : Form → ℕ → Reader
options_and_end item k ws = and_then (closed_options item k ws) (λ t u. and_then (optional_semicolon_at 0 u) (λ end v. Parsed (ended_with t end) v))

joined_end : (rows closes ends : Reader) (ws : List Word) → both rows (both closes ends) ws ≡ and_then (both rows closes ws) (λ t u. and_then (ends u) (λ end v. Parsed (ended_with t end) v))
joined_end rows closes ends ws = by_rows (rows ws)
  where
    by_close : (row : ParseTree) (x : Read) → and_then (and_then x (λ b v. and_then (ends v) (λ e y. Parsed (Pair b e) y))) (λ b y. Parsed (Pair row b) y) ≡ and_then (and_then x (λ b v. Parsed (Pair row b) v)) (λ t u. and_then (ends u) (λ end v. Parsed (ended_with t end) v))
    by_close row (Parsed b v) = maps2 (ends v) (λ e. Pair b e) (λ t. Pair row t)
    by_close row (Failed why v) = refl

    by_rows : (x : Read) → and_then x (λ a u. and_then (both closes ends u) (λ b y. Parsed (Pair a b) y)) ≡ and_then (and_then x (λ a u. and_then (closes u) (λ b v. Parsed (Pair a b) v))) (λ t u. and_then (ends u) (λ end v. Parsed (ended_with t end) v))
    by_rows (Parsed a u) = by_close a (closes u)
    by_rows (Failed why u) = refl

-- by its kind's word
protocol_read : (kind : Symbol) → is_placed kind ≡ true → (item : Form) (k at : ℕ) (u : List Word) → protocol_at kind item k (words.Placed at kind ∷ u) ≡ and_then (both (optional_name_at 0) (both (word (symbol sym.OpenBrace)) (options_and_end item k)) u) (λ t v. Parsed (Pair (placed_leaf at kind) t) v)
unfolding protocol_at closed_options optional_name_at optional_semicolon_at
protocol_read kind placed item zero at u =
    rw (placed_same at kind placed) (ap (λ (x : Read). and_then x (λ t v. Parsed (Pair (placed_leaf at kind) t) v))
    (both_same (optional_name_at 0) _ _ (both_same (word (symbol sym.OpenBrace)) _ _ (joined_end (read rule 0 (ended_options item)) (word (symbol sym.CloseBrace)) (optional_semicolon_at 0))) u))
protocol_read kind placed item (suc k) at u =
    rw (placed_same at kind placed) (ap (λ (x : Read). and_then x (λ t v. Parsed (Pair (placed_leaf at kind) t) v))
    (both_same (optional_name_at 0) _ _ (both_same (word (symbol sym.OpenBrace)) _ _ (joined_end (read rule (suc k) (ended_options item)) (word (symbol sym.CloseBrace)) (optional_semicolon_at 0))) u))

-- with its name
module _ (kind : Symbol) (placed : is_placed kind ≡ true) (item : Form) (k at : ℕ) (u : List Word) (n : ParseTree) (named : List Word) (is_named : optional_name_at 0 u ≡ Parsed n named) where
  pub protocol_brace_fails : (e : Refusal) → AgreesOnError e (word (symbol sym.OpenBrace) named) → AgreesOnError e (protocol_at kind item k (words.Placed at kind ∷ u))
  protocol_brace_fails e failed =
      rw (protocol_read kind placed item k at u, is_named) (fails_then e _ _ (fails_then e _ _ (fails_then e _ _ failed)))

  pub protocol_options_fail : (v : List Word) (e : Refusal) → named ≡ words.Symbol sym.OpenBrace ∷ v → AgreesOnError e (closed_options item k v) → AgreesOnError e (protocol_at kind item k (words.Placed at kind ∷ u))
  protocol_options_fail v e opened failed =
      rw (protocol_read kind placed item k at u, is_named, opened) (fails_then e _ _ (fails_then e _ _ (fails_then e _ _ (fails_then e _ _ failed))))

  pub protocol_got : (v end rest : List Word) (row close semicolon : ParseTree) → named ≡ words.Symbol sym.OpenBrace ∷ v → closed_options item k v ≡ Parsed (Pair row close) end → optional_semicolon_at 0 end ≡ Parsed semicolon rest → protocol_at kind item k (words.Placed at kind ∷ u) ≡ Parsed (Pair (placed_leaf at kind) (Pair n (Pair (symbol_leaf sym.OpenBrace) (Pair row (Pair close semicolon))))) rest
  protocol_got v end rest row close semicolon opened got ended =
      rw (protocol_read kind placed item k at u, is_named, opened, got, ended) refl

-- ---- behind "protocol"

abbrev kinds : Form
kinds = Alt device (Alt (protocol_of sym.Static static_option) (Alt (protocol_of sym.Bgp bgp_option) (protocol_of sym.Pipe pipe_option)))

statement_checked : is_checked statement
statement_checked = refl

kinds_checked : is_checked kinds
kinds_checked = refl

protocol_is : (k : ℕ) (ws u : List Word) → ws ≡ words.Symbol sym.Protocol ∷ u → statement_at k ws ≡ and_then (read rule k kinds u) (λ t v. Parsed (of_protocol t) v)
unfolding statement_at
protocol_is k ws u is = last_headed 6 k (symbol sym.Protocol) statement kinds statement_checked refl refl ws (words.Symbol sym.Protocol) u is refl

abbrev device_row : Reader
device_row = both (optional_name_at 0) (both (word (symbol sym.OpenBrace)) (both (word (symbol sym.CloseBrace)) (optional_semicolon_at 0)))

kinds_device : (k : ℕ) (ws u : List Word) → ws ≡ words.Symbol sym.Device ∷ u → read rule k kinds ws ≡ and_then (device_row u) (λ t v. Parsed (nth 0 (Pair (symbol_leaf sym.Device) t)) v)
unfolding optional_name_at optional_semicolon_at
kinds_device zero ws u is = headed 0 0 (symbol sym.Device) kinds _ _ kinds_checked refl refl ws (words.Symbol sym.Device) u is refl
kinds_device (suc k) ws u is = headed 0 (suc k) (symbol sym.Device) kinds _ _ kinds_checked refl refl ws (words.Symbol sym.Device) u is refl

pub device_is : (k : ℕ) (ws u v : List Word) → ws ≡ words.Symbol sym.Protocol ∷ u → u ≡ words.Symbol sym.Device ∷ v → statement_at k ws ≡ and_then (both (optional_name_at 0) (both (word (symbol sym.OpenBrace)) (both (word (symbol sym.CloseBrace)) (optional_semicolon_at 0))) v) (λ t x. Parsed (of_protocol (nth 0 (Pair (symbol_leaf sym.Device) t))) x)
device_is k ws u v is next =
    protocol_is k ws u is ∙ ap (λ (x : Read). and_then x (λ t y. Parsed (of_protocol t) y)) (kinds_device k u v next)
    ∙ maps2 (device_row v) (λ t. nth 0 (Pair (symbol_leaf sym.Device) t)) (λ t. of_protocol t)

pub statement_static : (k at : ℕ) (ws u v : List Word) → ws ≡ words.Symbol sym.Protocol ∷ u → u ≡ words.Placed at sym.Static ∷ v → statement_at k ws ≡ and_then (protocol_at sym.Static static_option k (words.Placed at sym.Static ∷ v)) (λ t x. Parsed (of_protocol (nth 1 t)) x)
unfolding protocol_at
statement_static k at ws u v is next =
    protocol_is k ws u is
    ∙ ap (λ (x : Read). and_then x (λ t y. Parsed (of_protocol t) y)) (picked 1 k kinds (protocol_of sym.Static static_option) _ kinds_checked refl refl u (rw next refl))
    ∙ maps2 (protocol_at sym.Static static_option k u) (λ t. nth 1 t) (λ t. of_protocol t)
    ∙ ap (λ (x : List Word). and_then (protocol_at sym.Static static_option k x) (λ t y. Parsed (of_protocol (nth 1 t)) y)) next

pub statement_bgp : (k at : ℕ) (ws u v : List Word) → ws ≡ words.Symbol sym.Protocol ∷ u → u ≡ words.Placed at sym.Bgp ∷ v → statement_at k ws ≡ and_then (protocol_at sym.Bgp bgp_option k (words.Placed at sym.Bgp ∷ v)) (λ t x. Parsed (of_protocol (nth 2 t)) x)
unfolding protocol_at
statement_bgp k at ws u v is next =
    protocol_is k ws u is
    ∙ ap (λ (x : Read). and_then x (λ t y. Parsed (of_protocol t) y)) (picked 2 k kinds (protocol_of sym.Bgp bgp_option) _ kinds_checked refl refl u (rw next refl))
    ∙ maps2 (protocol_at sym.Bgp bgp_option k u) (λ t. nth 2 t) (λ t. of_protocol t)
    ∙ ap (λ (x : List Word). and_then (protocol_at sym.Bgp bgp_option k x) (λ t y. Parsed (of_protocol (nth 2 t)) y)) next

pub statement_pipe : (k at : ℕ) (ws u v : List Word) → ws ≡ words.Symbol sym.Protocol ∷ u → u ≡ words.Placed at sym.Pipe ∷ v → statement_at k ws ≡ and_then (protocol_at sym.Pipe pipe_option k (words.Placed at sym.Pipe ∷ v)) (λ t x. Parsed (of_protocol (beyond 3 t)) x)
unfolding protocol_at
statement_pipe k at ws u v is next =
    protocol_is k ws u is
    ∙ ap (λ (x : Read). and_then x (λ t y. Parsed (of_protocol t) y)) (rest_read 3 k kinds kinds_checked refl u (rw next refl))
    ∙ maps2 (protocol_at sym.Pipe pipe_option k u) (λ t. beyond 3 t) (λ t. of_protocol t)
    ∙ ap (λ (x : List Word). and_then (protocol_at sym.Pipe pipe_option k x) (λ t y. Parsed (of_protocol (beyond 3 t)) y)) next

kinds_bad : (k : ℕ) (ws : List Word) → begins (symbol sym.Device) ws ≡ false → begins (symbol sym.Static) ws ≡ false → begins (symbol sym.Bgp) ws ≡ false → begins (symbol sym.Pipe) ws ≡ false → read rule k kinds ws ≡ Failed Bad ws
kinds_bad zero [] a b c d = refl
kinds_bad (suc k) [] a b c d = refl
kinds_bad zero (w ∷ ws) a b c d = rw (a, b, c, d) refl
kinds_bad (suc k) (w ∷ ws) a b c d = rw (a, b, c, d) refl

pub protocol_bad : (k : ℕ) (ws u : List Word) → ws ≡ words.Symbol sym.Protocol ∷ u → begins (symbol sym.Device) u ≡ false → begins (symbol sym.Static) u ≡ false → begins (symbol sym.Bgp) u ≡ false → begins (symbol sym.Pipe) u ≡ false → statement_at k ws ≡ Failed Bad u
protocol_bad k ws u is a b c d = protocol_is k ws u is ∙ rw (kinds_bad k u a b c d) refl
