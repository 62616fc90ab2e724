-- For private contracts alone: reading a form from the front of some words, one word after another,
-- against which parsers are proved.
use Rattle.std.specs.Prelude.{ℕ, Bool, cond, List, [], ◌∷◌, length}
use Rattle.std.proofs.Common.{zero, suc}
use Rattle.conf_lex.specs.Kind.{Kind, kind_of}
use Rattle.conf_lex.specs.declared.word.Word.{Word}
use Rattle.conf_lex.specs.Grammar.{Why, Bad, TooDeep, Form, Terminal, Epsilon, Seq, Alt, Repeat}
use Rattle.conf_lex.specs.Grammar.{Nested}
use Rattle.conf_lex.specs.Grammar.{ParseTree, Leaf, NoWords, Pair, Left, Right, Single, Snoc}
use Rattle.conf_lex.specs.Grammar.{Deeper}
use Rattle.conf_lex.specs.Grammar.{begins, first_set}

-- a tree and the words after it, or a fault and the words from its place on
pub data Read : Type 0 where
  Parsed : ParseTree → List Word → Read
  Failed : Why → List Word → Read

abbrev pub and_then : Read → (ParseTree → List Word → Read) → Read
and_then (Parsed t rest) f = f t rest
and_then (Failed why rest) f = Failed why rest

abbrev pub Reader : Type 0
Reader = List Word → Read

abbrev pub word : (Kind → Bool) → Reader
word p [] = Failed Bad []
word p (w ∷ ws) = cond (p (kind_of w)) (Parsed (Leaf w) ws) (Failed Bad (w ∷ ws))

abbrev pub blank : Reader
blank ws = Parsed NoWords ws

abbrev pub both : Reader → Reader → Reader
both r s ws = and_then (r ws) (λ a rest. and_then (s rest) (λ b end. Parsed (Pair a b) end))

abbrev pub either : (Kind → Bool) → Reader → Reader → Reader
either p r s ws = cond (begins p ws) (and_then (r ws) (λ a rest. Parsed (Left a) rest))
    (and_then (s ws) (λ b rest. Parsed (Right b) rest))

-- at most n turns, while the next word begins one
abbrev pub turns : (Kind → Bool) → Reader → ℕ → ParseTree → Reader
turns p s zero t ws = Parsed t ws
turns p s (suc n) t ws =
    cond (begins p ws) (and_then (s ws) (λ b rest. turns p s n (Snoc t b) rest)) (Parsed t ws)

-- no turn takes less than a word
abbrev pub all_turns : (Kind → Bool) → Reader → ParseTree → Reader
all_turns p s t ws = turns p s (length ws) t ws

abbrev pub chain : (Kind → Bool) → Reader → Reader → Reader
chain p r s ws = and_then (r ws) (λ a rest. all_turns p s (Single a) rest)

abbrev pub nest : (Kind → Bool) → Reader → Reader
nest p r [] = Failed Bad []
nest p r (w ∷ ws) =
    cond (p (kind_of w)) (and_then (r ws) (λ a rest. Parsed (Deeper w a) rest))
    (Failed Bad (w ∷ ws))

abbrev pub no_nest : (Kind → Bool) → Reader
no_nest p [] = Failed Bad []
no_nest p (w ∷ ws) = cond (p (kind_of w)) (Failed TooDeep (w ∷ ws)) (Failed Bad (w ∷ ws))

-- reading a form, where inside reads what stands a level deeper
abbrev pub reading : {L : Type 0} → ((Kind → Bool) → L → Reader) → Form L → Reader
reading inside (Terminal p) = word p
reading inside Epsilon = blank
reading inside (Seq f g) = both (reading inside f) (reading inside g)
reading inside (Alt f g) = either (first_set f) (reading inside f) (reading inside g)
reading inside (Repeat f g) = chain (first_set g) (reading inside f) (reading inside g)
reading inside (Nested p n) = inside p n

-- reading a form where k more levels may be opened
abbrev pub read : {L : Type 0} → (L → Form L) → ℕ → Form L → Reader
read rule zero f = reading (λ p n. no_nest p) f
read rule (suc k) f = reading (λ p n. nest p (read rule k (rule n))) f
