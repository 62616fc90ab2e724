-- What stands at a place of the words, within 64 levels (`ParsesAt`), or which word can't stand
-- there (`IsSyntaxFault`).
-- Not modelled: tokens (`Tokens`), and when memory runs out.
-- From: BIRD User's Guide, "Filters", for the forms, which are those of `Syntax`; the bound and the
-- place of a refusal are own.
-- Example: in `1 2` an expression stands at 0 and ends at 1.
use Rattle.std.specs.Prelude.{◌≡◌, ℕ, ◌≤◌, ◌⊎◌, List, length, drop, Result, Ok, Err}
use Rattle.conf_lex.specs.declared.word.Word.{Word}
use Rattle.conf_lex.specs.Grammar.{ParseTree}
use Rattle.conf_lex.specs.Sentences.{IsRead, IsBad, IsTooDeep}
use Rattle.filt_syntax.specs.declared.parse.SyntaxFault.{SyntaxFault}
use Rattle.filt_syntax.specs.declared.parse.SyntaxFault.TheVariants as faults
use Rattle.expr_syntax.specs.Syntax.{rule}
use Rattle.expr_syntax.specs.Levels.{Form}

-- the longest sentence of the form from one place on has this tree, and ends before the other place
abbrev pub ParsesAt : Form → List Word → ℕ → ParseTree → ℕ → Type 0
ParsesAt f words from t end =
    (end ≤ length words) × IsRead rule 64 f (drop from words) t (drop end words)

abbrev pub IsSyntaxFault : Form → List Word → ℕ → SyntaxFault → Type 0
IsSyntaxFault f words from (faults.Bad at) =
    (at ≤ length words) × IsBad rule 64 f (drop from words) (drop at words)
IsSyntaxFault f words from (faults.TooDeep at) =
    (at ≤ length words) × IsTooDeep rule 64 f (drop from words) (drop at words)
IsSyntaxFault f words from (faults.Unsupported at) = ⊥
IsSyntaxFault f words from faults.Memory = Unit {0}

-- the answer is this tree and this place, unless memory ran out
abbrev pub IsAnswer : {X : Type 0} → (X → ParseTree) → Result (X × ℕ) SyntaxFault → ParseTree → ℕ
    → Type 0
IsAnswer view (Ok found) t end = (view found.0 ≡ t) × (found.1 ≡ end)
IsAnswer view (Err e) t end = e ≡ faults.Memory

-- the answer is this fault, unless memory ran out
abbrev pub IsFault : {X : Type 0} → Result (X × ℕ) SyntaxFault → SyntaxFault → Type 0
IsFault r faults.Memory = Unit {0}
IsFault (Ok found) e = ⊥
IsFault (Err d) e = (d ≡ faults.Memory) ⊎ (d ≡ e)
