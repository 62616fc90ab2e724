-- In a sentence each word says something, and behind it the next statement begins.
use Rattle.std.proofs.Common.{◌≡◌, Bool, true, false, ◌&&◌, List, [], ◌∷◌, ◌++◌, refl, sym, ap, subst, ◌∙◌}
use Rattle.conf_lex.specs.declared.symbol.Symbol.{Symbol}
use Rattle.conf_lex.specs.declared.symbol.Symbol.TheVariants as symbols
use Rattle.conf_lex.specs.declared.word.Word.{Word}
use Rattle.conf_lex.specs.Kind.{Kind, IsSymbol, IsName, kind_of, symbol, name}
use Rattle.conf_lex.specs.Grammar.{Terminal, Epsilon, Seq, Alt, Repeat, Nested, ParseTree, Leaf, NoWords, Pair, Left, Right, Single, Snoc, Deeper, yield, Derives}
use Rattle.conf_lex.proofs.Checks.{and_true, not, not_true}
use Rattle.conf_lex.proofs.Symbols.{same_symbol}
use Rattle.expr_syntax.specs.Syntax.{rule, optional, semicolon}
use Rattle.expr_syntax.specs.Levels.{Level, Form, group_level}
use Rattle.conf_syntax.specs.Syntax.{config, statement, router_id, log, define, table, function, filter, protocol, device, protocol_of, protocol_end, ended_options, static_option, bgp_option, pipe_option}
use Rattle.conf_words.specs.declared.significant.Region.{Region}
use Rattle.conf_words.specs.declared.significant.Region.TheVariants as regions
use Rattle.conf_laws.proofs.KindTrees.{kinds_of}
use Rattle.conf_laws.proofs.Marks.{behind_kind, is_significant_kind}
use Rattle.conf_laws.proofs.ByTokens.{kinds_both}

-- each of the words says something, and they lead from one region to the other
abbrev pub Run : Region → List Kind → Region → Type 0
Run r [] s = r ≡ s
Run r (k ∷ ks) s = (is_significant_kind r k ≡ true) × Run (behind_kind r k) ks s

run_both : (r s q : Region) (ks js : List Kind) → Run r ks s → Run s js q → Run r (ks ++ js) q
run_both r s q [] js one two = subst (λ (x : Region). Run x js q) (sym one) two
run_both r s q (k ∷ ks) js one two = (one.0, run_both (behind_kind r k) s q ks js one.1 two)

runs : (r s q : Region) (xs ys : List Word) → Run r (kinds_of xs) s → Run s (kinds_of ys) q → Run r (kinds_of (xs ++ ys)) q
runs r s q xs ys one two = subst (λ (l : List Kind). Run r l q) (sym (kinds_both xs ys)) (run_both r s q (kinds_of xs) (kinds_of ys) one two)

-- ---- parts without logs and protocols

abbrev calm : (Kind → Bool) → Bool
calm p = not (p (IsSymbol symbols.Log)) && not (p (IsSymbol symbols.Protocol))

abbrev plain : Form → Bool
plain (Terminal p) = calm p
plain Epsilon = true
plain (Seq f g) = plain f && plain g
plain (Alt f g) = plain f && plain g
plain (Repeat f g) = plain f && plain g
plain (Nested p n) = calm p

levels_plain : (n : Level) → plain (rule n) ≡ true
levels_plain group_level = refl
levels_plain _ = refl

pub kind_is : (k : Kind) (s : Symbol) → symbol s k ≡ true → k ≡ IsSymbol s
kind_is (IsSymbol r) s e = ap (λ (q : Symbol). IsSymbol q) (sym (same_symbol s r e))
kind_is _ s e = absurd cc

other_kind : (p : Kind → Bool) (k : Kind) (s : Symbol) → not (p (IsSymbol s)) ≡ true → p k ≡ true → (b : Bool) → symbol s k ≡ b → b ≡ false
other_kind p k s off is true e =
    let never : p (IsSymbol s) ≡ false = not_true (p (IsSymbol s)) off in
    let yes : p (IsSymbol s) ≡ true = ap p (sym (kind_is k s e)) ∙ is in
    absurd cc
other_kind p k s off is false e = refl

plain_word : (p : Kind → Bool) (w : Word) → calm p ≡ true → p (kind_of w) ≡ true → Run regions.Statements (kind_of w ∷ []) regions.Statements
plain_word p w ok is =
    let c = and_true (not (p (IsSymbol symbols.Log))) (not (p (IsSymbol symbols.Protocol))) ok in
    let no_log = other_kind p (kind_of w) symbols.Log c.0 is (symbol symbols.Log (kind_of w)) refl in
    let no_protocol = other_kind p (kind_of w) symbols.Protocol c.1 is (symbol symbols.Protocol (kind_of w)) refl in
    (refl, rw (no_log, no_protocol) refl)

plain_run : (t : ParseTree) (f : Form) → plain f ≡ true → Derives rule t f → Run regions.Statements (kinds_of (yield t)) regions.Statements
plain_run (Leaf w) (Terminal p) ok h = plain_word p w ok h
plain_run NoWords Epsilon ok h = refl
plain_run (Pair a b) (Seq f g) ok h =
    let c = and_true (plain f) (plain g) ok in
    runs regions.Statements regions.Statements regions.Statements (yield a) (yield b) (plain_run a f c.0 h.0) (plain_run b g c.1 h.1)
plain_run (Left a) (Alt f g) ok h = plain_run a f (and_true (plain f) (plain g) ok).0 h
plain_run (Right b) (Alt f g) ok h = plain_run b g (and_true (plain f) (plain g) ok).1 h
plain_run (Single a) (Repeat f g) ok h = plain_run a f (and_true (plain f) (plain g) ok).0 h
plain_run (Snoc t b) (Repeat f g) ok h =
    runs regions.Statements regions.Statements regions.Statements (yield t) (yield b) (plain_run t (Repeat f g) ok h.0) (plain_run b g (and_true (plain f) (plain g) ok).1 h.1)
plain_run (Deeper w t) (Nested p n) ok h =
    let one = plain_word p w ok h.0 in
    (refl, subst (λ (r : Region). Run r (kinds_of (yield t)) regions.Statements) (sym one.1) (plain_run t (rule n) (levels_plain n) h.1))
plain_run _ _ ok h = absurd h

-- ---- the others

log_run : (t : ParseTree) → Derives rule t log → Run regions.Statements (kinds_of (yield t)) regions.Statements
log_run (Pair (Leaf w) (Leaf v)) h =
    let first = kind_is (kind_of w) symbols.Log h.0 in
    let second = kind_is (kind_of v) symbols.Semicolon h.1 in
    rw (first, second) (refl, (refl, refl))
log_run (Pair (Leaf w) _) h = absurd h.1
log_run (Pair _ b) h = absurd h.0
log_run _ h = absurd h

end_run : (t : ParseTree) → Derives rule t protocol_end → Run (regions.Inside 0) (kinds_of (yield t)) regions.Statements
end_run (Pair (Leaf w) b) h =
    let first = kind_is (kind_of w) symbols.CloseBrace h.0 in
    let rest = plain_run b (optional semicolon) refl h.1 in
    (rw first refl, rw first rest)
end_run (Pair _ b) h = absurd h.0
end_run _ h = absurd h

name_is : (k : Kind) → name k ≡ true → k ≡ IsName
name_is IsName e = refl
name_is _ e = absurd cc

device_run : (t : ParseTree) → Derives rule t device → Run regions.Protocol (kinds_of (yield t)) regions.Statements
device_run (Pair (Leaf w) (Pair (Left (Leaf n)) (Pair (Leaf v) e))) h =
    let first = kind_is (kind_of w) symbols.Device h.0 in
    let called = name_is (kind_of n) h.1.0 in
    let brace = kind_is (kind_of v) symbols.OpenBrace h.1.1.0 in
    rw (first, called, brace) (refl, (refl, (refl, end_run e h.1.1.1)))
device_run (Pair (Leaf w) (Pair (Right NoWords) (Pair (Leaf v) e))) h =
    let first = kind_is (kind_of w) symbols.Device h.0 in
    let brace = kind_is (kind_of v) symbols.OpenBrace h.1.1.0 in
    rw (first, brace) (refl, (refl, end_run e h.1.1.1))
device_run (Pair (Leaf w) (Pair (Left (Leaf n)) (Pair _ e))) h = absurd h.1.1.0
device_run (Pair (Leaf w) (Pair (Left (Leaf n)) _)) h = absurd h.1.1
device_run (Pair (Leaf w) (Pair (Left _) _)) h = absurd h.1.0
device_run (Pair (Leaf w) (Pair (Right NoWords) (Pair _ e))) h = absurd h.1.1.0
device_run (Pair (Leaf w) (Pair (Right NoWords) _)) h = absurd h.1.1
device_run (Pair (Leaf w) (Pair (Right _) _)) h = absurd h.1.0
device_run (Pair (Leaf w) (Pair _ _)) h = absurd h.1.0
device_run (Pair (Leaf w) _) h = absurd h.1
device_run (Pair _ b) h = absurd h.0
device_run _ h = absurd h

-- a protocol of another kind
other_run : (kind : Symbol) (item : Form) → symbol symbols.Device (IsSymbol kind) ≡ false → plain (Seq (optional (Terminal name)) (Seq (Terminal (symbol symbols.OpenBrace)) (Seq (ended_options item) protocol_end))) ≡ true
    → (t : ParseTree) → Derives rule t (protocol_of kind item) → Run regions.Protocol (kinds_of (yield t)) regions.Statements
other_run kind item not_device ok (Pair (Leaf w) b) h =
    let first = kind_is (kind_of w) kind h.0 in
    let there : symbol symbols.Device (kind_of w) ≡ false = ap (symbol symbols.Device) first ∙ not_device in
    let rest = plain_run b (Seq (optional (Terminal name)) (Seq (Terminal (symbol symbols.OpenBrace)) (Seq (ended_options item) protocol_end))) ok h.1 in
    (refl, rw there rest)
other_run kind item not_device ok (Pair _ b) h = absurd h.0
other_run kind item not_device ok _ h = absurd h

protocol_run : (t : ParseTree) → Derives rule t protocol → Run regions.Statements (kinds_of (yield t)) regions.Statements
protocol_run (Pair (Leaf w) b) h =
    let first = kind_is (kind_of w) symbols.Protocol h.0 in
    rw first (refl, kind_run b h.1)
  where
    kind_run : (t : ParseTree) → Derives rule t (Alt device (Alt (protocol_of symbols.Static static_option) (Alt (protocol_of symbols.Bgp bgp_option) (protocol_of symbols.Pipe pipe_option)))) → Run regions.Protocol (kinds_of (yield t)) regions.Statements
    kind_run (Left a) h = device_run a h
    kind_run (Right (Left a)) h = other_run symbols.Static static_option refl refl a h
    kind_run (Right (Right (Left a))) h = other_run symbols.Bgp bgp_option refl refl a h
    kind_run (Right (Right (Right a))) h = other_run symbols.Pipe pipe_option refl refl a h
    kind_run (Right (Right _)) h = absurd h
    kind_run (Right _) h = absurd h
    kind_run _ h = absurd h
protocol_run (Pair _ b) h = absurd h.0
protocol_run _ h = absurd h

statement_run : (t : ParseTree) → Derives rule t statement → Run regions.Statements (kinds_of (yield t)) regions.Statements
statement_run (Left a) h = plain_run a router_id refl h
statement_run (Right (Left a)) h = log_run a h
statement_run (Right (Right (Left a))) h = plain_run a define refl h
statement_run (Right (Right (Right (Left a)))) h = plain_run a table refl h
statement_run (Right (Right (Right (Right (Left a))))) h = plain_run a function refl h
statement_run (Right (Right (Right (Right (Right (Left a)))))) h = plain_run a filter refl h
statement_run (Right (Right (Right (Right (Right (Right a)))))) h = protocol_run a h
statement_run (Right (Right (Right (Right (Right _))))) h = absurd h
statement_run (Right (Right (Right (Right _)))) h = absurd h
statement_run (Right (Right (Right _))) h = absurd h
statement_run (Right (Right _)) h = absurd h
statement_run (Right _) h = absurd h
statement_run _ h = absurd h

-- the words of a configuration lead from statement to statement
pub config_run : (t : ParseTree) → Derives rule t config → Run regions.Statements (kinds_of (yield t)) regions.Statements
config_run (Single NoWords) h = refl
config_run (Snoc t b) h = runs regions.Statements regions.Statements regions.Statements (yield t) (yield b) (config_run t h.0) (statement_run b h.1)
config_run (Single _) h = absurd h
config_run _ h = absurd h
