-- What a function that takes one word finds at the front of some words (`Finds`): for the contracts
-- of `parts` and of the grammars above.
-- Not modelled: what the value means.
-- From: own.
use Rattle.std.specs.Prelude.{◌≡◌, Bool, false, List, ◌∷◌, Option, MatchOption}
use Rattle.std.specs.Borrow.{Bor}
use Rattle.conf_lex.specs.declared.word.Word.{Word}
use Rattle.conf_lex.specs.Kind.{Kind}
use Rattle.conf_lex.specs.Grammar.{begins}

-- a value whose word comes next, and the words after it, or else no word of these kinds
abbrev pub Finds : {X : Type 0} → (Kind → Bool) → (X → Word) → Option (X × Bor (List Word))
    → List Word → Type 0
Finds kinds word result words =
    MatchOption result (begins kinds words ≡ false) (λ found. words ≡ word found.0 ∷ found.1.now)
