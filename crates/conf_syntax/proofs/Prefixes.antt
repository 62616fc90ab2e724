-- Words whose last is a prefix that can stand behind the others.
use Rattle.std.proofs.Common.{◌≡◌, List, [], ◌∷◌, ◌++◌, length, sym, ap, subst, ◌∙◌, arith, inl, inr}
use Rattle.std.proofs.lemmas.List.{length-append}
use Rattle.conf_lex.specs.declared.word.Word.{Word}
use Rattle.conf_lex.specs.Sentences.{IsBegun}
use Rattle.conf_lex.proofs.Unique.{fronts}
use Rattle.expr_syntax.specs.Syntax.{rule}
use Rattle.conf_syntax.specs.Syntax.{config}

one_front : (a b : List Word) (v w : Word) → a ++ v ∷ [] ≡ b ++ w ∷ [] → a ≡ b
one_front a b v w e = elim (fronts a (v ∷ []) b (w ∷ []) e) [
  | inl h ↦ h.0
  | inr h ↦ elim h [
    | inl l ↦ absurd (omega (arith, ap (λ (u : List Word). length u) l.rest, length-append l.more (v ∷ [])))
    | inr l ↦ absurd (omega (arith, ap (λ (u : List Word). length u) l.rest, length-append l.more (w ∷ [])))
  ]
]

pub joined_is : (words before front : List Word) (w v : Word) → words ≡ before ++ w ∷ [] → (IsBegun rule config before → IsBegun rule config (before ++ w ∷ [])) → words ≡ front ++ v ∷ [] → IsBegun rule config front → IsBegun rule config words
joined_is words before front w v cut joined other begun =
    subst (IsBegun rule config) (sym cut) (joined (subst (IsBegun rule config) (one_front front before v w (sym other ∙ cut)) begun))
