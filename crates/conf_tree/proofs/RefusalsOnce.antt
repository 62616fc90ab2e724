-- A text is refused at one byte, for one reason, where it has one list of tokens or one place where it has none.
use Rattle.std.proofs.Common.{◌≡◌, ℕ, List, refl, sym, ap, ◌∙◌, ◌⊎◌, inl, inr}
use Rattle.conf_scan.specs.Lex.{Lexes, Stops}
use Rattle.conf_scan.specs.declared.token.Token.{Token}
use Rattle.filt_syntax.specs.declared.parse.SyntaxFault.{SyntaxFault}
use Rattle.filt_syntax.specs.declared.parse.SyntaxFault.TheVariants as faults
use Rattle.conf_tree.specs.Sentence.{IsRefused}
use Rattle.conf_words.specs.Bytes.{byte_of}
use Rattle.conf_tree.specs.Read.{IsRefusedSo, IsRefusedText}
use Rattle.conf_ast.specs.declared.kind.ConfKind.{ConfKind}
use Rattle.conf_ast.specs.declared.kind.ConfKind.TheVariants as kinds
use Rattle.conf_tree.proofs.Refusals.{one_fault}
use Rattle.conf_tree.proofs.TextsOnce.{same_fault}

module _ (lexed_once : (text : List ℕ) (ts us : List Token) → Lexes 0 text ts → Lexes 0 text us → ts ≡ us) (lexed_or_stuck : (text : List ℕ) (ts us : List Token) (place : ℕ) → Lexes 0 text ts → Stops 0 text us place → ⊥) (stuck_once : (text : List ℕ) (ts us : List Token) (place stop : ℕ) → Stops 0 text ts place → Stops 0 text us stop → place ≡ stop) where
  bytes_agree : (text : List ℕ) (ts us : List Token) (i j at b : ℕ) → Lexes 0 text ts → Lexes 0 text us → i ≡ j → at ≡ byte_of text ts i → b ≡ byte_of text us j → at ≡ b
  bytes_agree text ts us i j at b l m same one other =
      one ∙ ap (λ (n : ℕ). byte_of text ts n) same ∙ ap (λ (tokens : List Token). byte_of text tokens j) (lexed_once text ts us l m) ∙ sym other

  bads : (i j : ℕ) → (faults.Bad i ≡ faults.Memory) ⊎ (faults.Bad i ≡ faults.Bad j) → i ≡ j
  bads i j (inl e) = absurd cc
  bads i j (inr e) = cc

  deeps : (i j : ℕ) → (faults.TooDeep i ≡ faults.Memory) ⊎ (faults.TooDeep i ≡ faults.TooDeep j) → i ≡ j
  deeps i j (inl e) = absurd cc
  deeps i j (inr e) = cc

  shuts : (i j : ℕ) → (faults.Unsupported i ≡ faults.Memory) ⊎ (faults.Unsupported i ≡ faults.Unsupported j) → i ≡ j
  shuts i j (inl e) = absurd cc
  shuts i j (inr e) = cc

  bad_deep : (i j : ℕ) → (faults.Bad i ≡ faults.Memory) ⊎ (faults.Bad i ≡ faults.TooDeep j) → ⊥
  bad_deep i j (inl e) = cc
  bad_deep i j (inr e) = cc

  bad_shut : (i j : ℕ) → (faults.Bad i ≡ faults.Memory) ⊎ (faults.Bad i ≡ faults.Unsupported j) → ⊥
  bad_shut i j (inl e) = cc
  bad_shut i j (inr e) = cc

  deep_bad : (i j : ℕ) → (faults.TooDeep i ≡ faults.Memory) ⊎ (faults.TooDeep i ≡ faults.Bad j) → ⊥
  deep_bad i j (inl e) = cc
  deep_bad i j (inr e) = cc

  deep_shut : (i j : ℕ) → (faults.TooDeep i ≡ faults.Memory) ⊎ (faults.TooDeep i ≡ faults.Unsupported j) → ⊥
  deep_shut i j (inl e) = cc
  deep_shut i j (inr e) = cc

  shut_bad : (i j : ℕ) → (faults.Unsupported i ≡ faults.Memory) ⊎ (faults.Unsupported i ≡ faults.Bad j) → ⊥
  shut_bad i j (inl e) = cc
  shut_bad i j (inr e) = cc

  shut_deep : (i j : ℕ) → (faults.Unsupported i ≡ faults.Memory) ⊎ (faults.Unsupported i ≡ faults.TooDeep j) → ⊥
  shut_deep i j (inl e) = cc
  shut_deep i j (inr e) = cc

  answers : (text : List ℕ) (at b : ℕ) (d e : ℕ → SyntaxFault) (one : IsRefusedSo d text at) (other : IsRefusedSo e text b) → IsRefused text one.0 (e other.1)
  answers text at b d e one other = same_fault lexed_once text one.0 other.0 (d one.1) (e other.1) one.2 other.2 one.3 other.3

  pub refusal_once : (text : List ℕ) (at b : ℕ) (kind other : ConfKind) → IsRefusedText text at kind → IsRefusedText text b other → (at ≡ b) × (kind ≡ other)
  refusal_once text at b kinds.Lex kinds.Lex one two = (stuck_once text one.0 two.0 at b one.1 two.1, refl)
  refusal_once text at b kinds.Lex kinds.Syntax one two = absurd (lexed_or_stuck text two.0 one.0 at two.2 one.1)
  refusal_once text at b kinds.Lex kinds.TooDeep one two = absurd (lexed_or_stuck text two.0 one.0 at two.2 one.1)
  refusal_once text at b kinds.Lex kinds.Unsupported one two = absurd (lexed_or_stuck text two.0 one.0 at two.2 one.1)
  refusal_once text at b kinds.Syntax kinds.Lex one two = absurd (lexed_or_stuck text one.0 two.0 b one.2 two.1)
  refusal_once text at b kinds.TooDeep kinds.Lex one two = absurd (lexed_or_stuck text one.0 two.0 b one.2 two.1)
  refusal_once text at b kinds.Unsupported kinds.Lex one two = absurd (lexed_or_stuck text one.0 two.0 b one.2 two.1)
  refusal_once text at b kinds.Syntax kinds.Syntax one two =
      (bytes_agree text one.0 two.0 one.1 two.1 at b one.2 two.2 (bads one.1 two.1 (one_fault text one.0 (faults.Bad one.1) one.3 (faults.Bad two.1) (answers text at b faults.Bad faults.Bad one two))) one.4 two.4, refl)
  refusal_once text at b kinds.TooDeep kinds.TooDeep one two =
      (bytes_agree text one.0 two.0 one.1 two.1 at b one.2 two.2 (deeps one.1 two.1 (one_fault text one.0 (faults.TooDeep one.1) one.3 (faults.TooDeep two.1) (answers text at b faults.TooDeep faults.TooDeep one two))) one.4 two.4, refl)
  refusal_once text at b kinds.Unsupported kinds.Unsupported one two =
      (bytes_agree text one.0 two.0 one.1 two.1 at b one.2 two.2 (shuts one.1 two.1 (one_fault text one.0 (faults.Unsupported one.1) one.3 (faults.Unsupported two.1) (answers text at b faults.Unsupported faults.Unsupported one two))) one.4 two.4, refl)
  refusal_once text at b kinds.Syntax kinds.TooDeep one two = absurd (bad_deep one.1 two.1 (one_fault text one.0 (faults.Bad one.1) one.3 (faults.TooDeep two.1) (answers text at b faults.Bad faults.TooDeep one two)))
  refusal_once text at b kinds.Syntax kinds.Unsupported one two = absurd (bad_shut one.1 two.1 (one_fault text one.0 (faults.Bad one.1) one.3 (faults.Unsupported two.1) (answers text at b faults.Bad faults.Unsupported one two)))
  refusal_once text at b kinds.TooDeep kinds.Syntax one two = absurd (deep_bad one.1 two.1 (one_fault text one.0 (faults.TooDeep one.1) one.3 (faults.Bad two.1) (answers text at b faults.TooDeep faults.Bad one two)))
  refusal_once text at b kinds.TooDeep kinds.Unsupported one two = absurd (deep_shut one.1 two.1 (one_fault text one.0 (faults.TooDeep one.1) one.3 (faults.Unsupported two.1) (answers text at b faults.TooDeep faults.Unsupported one two)))
  refusal_once text at b kinds.Unsupported kinds.Syntax one two = absurd (shut_bad one.1 two.1 (one_fault text one.0 (faults.Unsupported one.1) one.3 (faults.Bad two.1) (answers text at b faults.Unsupported faults.Bad one two)))
  refusal_once text at b kinds.Unsupported kinds.TooDeep one two = absurd (shut_deep one.1 two.1 (one_fault text one.0 (faults.Unsupported one.1) one.3 (faults.TooDeep two.1) (answers text at b faults.Unsupported faults.TooDeep one two)))
  refusal_once text at b kinds.Lex _ one two = absurd two
  refusal_once text at b kinds.Syntax _ one two = absurd two
  refusal_once text at b kinds.TooDeep _ one two = absurd two
  refusal_once text at b kinds.Unsupported _ one two = absurd two
  refusal_once text at b _ _ one two = absurd one
