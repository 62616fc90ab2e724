-- What a function of a parser returned is what reading gives, unless memory ran out (`Agrees`). For
-- the parsers' contracts.
-- Not modelled: when memory runs out.
-- From: own.
use Rattle.std.specs.Prelude.{◌≡◌, ◌≢◌, List, Result, Ok, Err}
use Rattle.std.specs.Borrow.{Bor}
use Rattle.conf_lex.specs.declared.word.Word.{Word}
use Rattle.conf_lex.specs.Grammar.{ParseTree, Bad, TooDeep}
use Rattle.conf_lex.specs.Reading.{Read, Parsed, Failed}
use Rattle.conf_lex.specs.declared.refusal.Refusal.{Refusal}
use Rattle.conf_lex.specs.declared.refusal.Refusal.TheVariants as refusals

-- a refusal, of the word at which reading stops
abbrev pub AgreesOnError : Refusal → Read → Type 0
AgreesOnError refusals.Memory read = Unit {0}
AgreesOnError (refusals.Bad at) read = read ≡ Failed Bad at.now
AgreesOnError (refusals.TooDeep at) read = read ≡ Failed TooDeep at.now

-- a value, seen as a tree, and the words after it
abbrev pub Agrees : {X : Type 0} → (X → ParseTree) → Result (X × Bor (List Word)) Refusal → Read
    → Type 0
Agrees view (Ok found) read = read ≡ Parsed (view found.0) found.1.now
Agrees view (Err e) read = AgreesOnError e read

-- an answer of a function that takes no memory
abbrev pub NeverMemory : {X : Type 0} → Result X Refusal → Type 0
NeverMemory (Ok found) = Unit {0}
NeverMemory (Err e) = e ≢ refusals.Memory
