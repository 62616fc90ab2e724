-- A text is one configuration at most, and then it is not refused, where it has one list of tokens.
use Rattle.std.proofs.Common.{◌≡◌, ℕ, List, sym, subst}
use Rattle.conf_scan.specs.Lex.{Lexes, Stops}
use Rattle.conf_scan.specs.declared.token.Token.{Token}
use Rattle.conf_lex.specs.Grammar.{ParseTree}
use Rattle.filt_syntax.specs.declared.parse.SyntaxFault.{SyntaxFault}
use Rattle.filt_syntax.specs.declared.parse.SyntaxFault.TheVariants as faults
use Rattle.conf_words.specs.Significant.{significant_words}
use Rattle.conf_tree.specs.Sentence.{IsSentence, IsRefused}
use Rattle.conf_tree.specs.Read.{IsConfigText, IsRefusedText}
use Rattle.conf_ast.specs.declared.kind.ConfKind.{ConfKind}
use Rattle.conf_ast.specs.declared.kind.ConfKind.TheVariants as kinds
use Rattle.conf_tree.proofs.Refusals.{one_tree, sentence_memory}

module _ (lexed_once : (text : List ℕ) (ts us : List Token) → Lexes 0 text ts → Lexes 0 text us → ts ≡ us) where
  -- the tree of the one list of tokens
  pub text_once : (text : List ℕ) (t u : ParseTree) → IsConfigText text t → IsConfigText text u → t ≡ u
  text_once text t u one other =
      one_tree (significant_words text one.0) t u one.2 (subst (λ (ts : List Token). IsSentence (significant_words text ts) u) (sym (lexed_once text one.0 other.0 one.1 other.1)) other.2)

  -- two refusals of the grammar are of one token, and of one kind
  pub same_fault : (text : List ℕ) (ts us : List Token) (d e : SyntaxFault) → Lexes 0 text ts → Lexes 0 text us → IsRefused text ts d → IsRefused text us e → IsRefused text ts e
  same_fault text ts us d e l m one other = subst (λ (tokens : List Token). IsRefused text tokens e) (sym (lexed_once text ts us l m)) other

  module _ (lexed_or_stuck : (text : List ℕ) (ts us : List Token) (place : ℕ) → Lexes 0 text ts → Stops 0 text us place → ⊥) where
    pub never_both : (text : List ℕ) (t : ParseTree) (at : ℕ) (kind : ConfKind) → IsConfigText text t → IsRefusedText text at kind → ⊥
    never_both text t at kinds.Lex one other = lexed_or_stuck text one.0 other.0 at one.1 other.1
    never_both text t at kinds.Syntax one other = let e = sentence_memory text one.0 t one.2 (faults.Bad other.1) (same_fault text one.0 other.0 faults.Memory (faults.Bad other.1) one.1 other.2 tt other.3) in cc
    never_both text t at kinds.TooDeep one other = let e = sentence_memory text one.0 t one.2 (faults.TooDeep other.1) (same_fault text one.0 other.0 faults.Memory (faults.TooDeep other.1) one.1 other.2 tt other.3) in cc
    never_both text t at kinds.Unsupported one other = let e = sentence_memory text one.0 t one.2 (faults.Unsupported other.1) (same_fault text one.0 other.0 faults.Memory (faults.Unsupported other.1) one.1 other.2 tt other.3) in cc
    never_both text t at _ one other = other
