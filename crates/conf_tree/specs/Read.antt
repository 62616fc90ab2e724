-- Which texts are a configuration (`IsConfigText`), and the first place of others that is refused
-- (`IsRefusedText`): tokens, the words that say something and the grammar, one behind the other; a
-- text without tokens is refused before the grammar sees it.
-- Not modelled: what a configuration means, and what is refused of its names and values
-- (conf_rules).
-- From: own; the grammar is that of Syntax.
-- Example: `template bgp t { } @` is refused at `@`.
use Rattle.std.specs.Prelude.{◌≡◌, ◌≤◌, ◌⊎◌, ℕ, List, Result, Ok, Err}
use Rattle.conf_scan.specs.Lex.{Lexes, Stops}
use Rattle.conf_scan.specs.declared.token.Token.{Token}
use Rattle.conf_lex.specs.Grammar.{ParseTree}
use Rattle.filt_syntax.specs.declared.parse.SyntaxFault.{SyntaxFault}
use Rattle.filt_syntax.specs.declared.parse.SyntaxFault.TheVariants as faults
use Rattle.conf_words.specs.Bytes.{byte_of}
use Rattle.conf_words.specs.Significant.{significant_words}
use Rattle.conf_tree.specs.Sentence.{IsSentence, IsRefused}
use Rattle.conf_tree.specs.View.{config_view}
use Rattle.conf_ast.specs.declared.kind.ConfFault.{ConfFault}
use Rattle.conf_ast.specs.declared.kind.ConfFault.TheVariants as outcomes
use Rattle.conf_ast.specs.declared.kind.ConfKind.{ConfKind}
use Rattle.conf_ast.specs.declared.kind.ConfKind.TheVariants as refusals
use Rattle.conf_ast.specs.declared.configurations.Config.{Config}

-- what is told of tokens that are refused
abbrev pub fault_of : List ℕ → List Token → SyntaxFault → ConfFault
fault_of text tokens (faults.Bad at) = outcomes.Refused (byte_of text tokens at) refusals.Syntax
fault_of text tokens (faults.TooDeep at) =
    outcomes.Refused (byte_of text tokens at) refusals.TooDeep
fault_of text tokens (faults.Unsupported at) =
    outcomes.Refused (byte_of text tokens at) refusals.Unsupported
fault_of text tokens faults.Memory = outcomes.Memory

-- the text is a configuration of this tree
abbrev pub IsConfigText : List ℕ → ParseTree → Type 0
IsConfigText text t =
    (tokens : List Token) × Lexes 0 text tokens × IsSentence (significant_words text tokens) t

-- it has tokens, which are refused so, and the refused one begins at this byte
abbrev pub IsRefusedSo : (ℕ → SyntaxFault) → List ℕ → ℕ → Type 0
IsRefusedSo fault text at = (tokens : List Token) × (token : ℕ) × Lexes 0 text tokens
    × IsRefused text tokens (fault token) × (at ≡ byte_of text tokens token)

-- the text is refused at this byte, for want of a token or by the grammar
abbrev pub IsRefusedText : List ℕ → ℕ → ConfKind → Type 0
IsRefusedText text at refusals.Lex = (tokens : List Token) × Stops 0 text tokens at
IsRefusedText text at refusals.Syntax = IsRefusedSo faults.Bad text at
IsRefusedText text at refusals.TooDeep = IsRefusedSo faults.TooDeep text at
IsRefusedText text at refusals.Unsupported = IsRefusedSo faults.Unsupported text at
IsRefusedText text at _ = ⊥

abbrev pub IsFault : List ℕ → ConfFault → Type 0
IsFault text (outcomes.Refused at kind) = IsRefusedText text at kind
IsFault text outcomes.Memory = Unit {0}

-- the refused byte is within a text of this length, or at its end
abbrev pub IsWithin : ℕ → ConfFault → Type 0
IsWithin n (outcomes.Refused at kind) = at ≤ n
IsWithin n outcomes.Memory = Unit {0}

-- the answer is this tree, unless memory ran out
abbrev pub IsTreeOf : Result Config ConfFault → ParseTree → Type 0
IsTreeOf (Ok config) t = config_view config ≡ t
IsTreeOf (Err e) t = e ≡ outcomes.Memory

-- the answer is this fault, unless memory ran out
abbrev pub IsFaultOf : Result Config ConfFault → ConfFault → Type 0
IsFaultOf r outcomes.Memory = Unit {0}
IsFaultOf (Ok config) e = ⊥
IsFaultOf (Err d) e = (d ≡ outcomes.Memory) ⊎ (d ≡ e)
