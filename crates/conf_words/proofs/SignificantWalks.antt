-- The words that say something, found as the text is walked.
use Rattle.std.proofs.Common.{◌≡◌, ℕ, ◌+◌, ◌≤◌, cond, List, [], ◌∷◌, ◌++◌, length, drop, map, Option, Some, refl, sym, subst, ◌∙◌, ap, arith, append_assoc, append-nil}
use Rattle.std.specs.Prelude.{MatchOption}
use Rattle.std.proofs.lemmas.List.{length-append}
use Rattle.conf_scan.specs.Lex.{Lexes, Stops, IsLexFault}
use Rattle.conf_lex.specs.Walks.{IsWordStep}
use Rattle.conf_scan.specs.Spots.{IsSpot, IsStuckFrom, LexesFrom}
use Rattle.conf_lex.specs.Words.{words_from}
use Rattle.conf_scan.specs.declared.lexer.Spot.{Spot}
use Rattle.conf_scan.specs.declared.token.LexFault.{LexFault}
use Rattle.conf_scan.specs.declared.token.LexFault.TheVariants as faults
use Rattle.conf_scan.specs.declared.token.Token.{Token}
use Rattle.conf_lex.specs.declared.word.Word.{Word}
use Rattle.conf_words.specs.Significant.{behind, depth_of, is_significant, significant, significant_words, AreWordsOf}
use Rattle.conf_words.specs.declared.significant.Region.{Region}
use Rattle.conf_words.specs.declared.significant.Region.TheVariants as regions
use Rattle.conf_words.proofs.SignificantSteps.{depth_more, significant_more}

-- There are tokens before the place: whatever stands behind it completes them, and says the rest, or is refused where the text is.
pub record IsWalked (text : List ℕ) (found : List Word) (region : Region) (to : Spot) : Type 0 where
  pub front : List Token
  pub spot : IsSpot text to
  pub deep : depth_of region ≤ to.at
  pub lexes : (more : List Token) → LexesFrom text to more → Lexes 0 text (front ++ more)
  pub stops : (more : List Token) (place : ℕ) → Stops to.at (drop to.at text) more place → Stops 0 text (front ++ more) place
  pub words : (more : List Token) → LexesFrom text to more → significant_words text (front ++ more) ≡ found ++ map (λ p. p.1) (significant region (words_from text (length front) 0 more))

pub walk_none : (text : List ℕ) → IsWalked text [] regions.Statements (record { at = 0; plain = 0 })
walk_none text =
    record {
      front = [];
      spot = record { within = omega arith; plain = λ k below. absurd (omega (arith, below)) };
      deep = omega arith;
      lexes = λ more rest. rest;
      stops = λ more place rest. rest;
      words = λ more rest. refl;
    }

pub walk_more : (text : List ℕ) (found : List Word) (region : Region) (from to : Spot) (word : Word) → IsWordStep text from word to → IsWalked text found region from
    → IsWalked text (found ++ cond (is_significant region word) (word ∷ []) []) (behind region word) to
walk_more text found region from to word step walked =
    let front = walked.front in let made = step.made in
    record {
      front = front ++ made;
      spot = step.spot;
      deep = omega (arith, depth_more region word, walked.deep, step.rises);
      lexes = λ more rest. rw append_assoc (walked.lexes (made ++ more) (step.lexes more rest));
      stops = λ more place rest. rw append_assoc (walked.stops (made ++ more) place (step.stops more place rest));
      words = λ more rest.
          let now = words_from text (length front) 0 (made ++ more) in
          let later = words_from text (length front + length made) 0 more in
          ap (λ (ts : List Token). significant_words text ts) (append_assoc front made more)
          ∙ significant_more (λ p. p.1) now later (length front, word) region (significant_words text (front ++ (made ++ more))) found (step.words (length front) more rest) (walked.words (made ++ more) (step.lexes more rest))
          ∙ ap (λ (n : ℕ). (found ++ cond (is_significant region word) (word ∷ []) []) ++ map (λ p. p.1) (significant (behind region word) (words_from text n 0 more))) (sym (length-append front made));
    }

pub walk_ends : (text : List ℕ) (found : List Word) (region : Region) (to : Spot) → IsWalked text found region to → LexesFrom text to [] → AreWordsOf text found
walk_ends text found region to walked none =
    (walked.front, rw append-nil at (walked.lexes [] none), sym (ap (λ (ts : List Token). significant_words text ts) (sym (append-nil walked.front)) ∙ walked.words [] none ∙ append-nil found))

pub walk_stuck : (text : List ℕ) (found : List Word) (region : Region) (to : Spot) (fault : LexFault) → IsWalked text found region to → IsStuckFrom text to fault → IsLexFault text fault
walk_stuck text found region to (faults.Bad place) walked stuck = (walked.front, rw append-nil at (walked.stops [] place stuck))
walk_stuck text found region to faults.Memory walked stuck = tt

-- want of memory says nothing of a text
pub no_memory : (text : List ℕ) (fault : LexFault) → fault ≡ faults.Memory → IsLexFault text fault
no_memory text fault is = subst (λ (f : LexFault). IsLexFault text f) (sym is) tt

-- the word that stands next
pub walked_on : (text : List ℕ) (from to : Spot) (word : Word) (found : Option (Word × Spot)) → found ≡ Some (word, to) → MatchOption found (LexesFrom text from []) (λ next. IsWordStep text from next.0 next.1) → IsWordStep text from word to
walked_on text from to word found is step = let P : Option (Word × Spot) → Type 0 = λ o. MatchOption o (LexesFrom text from []) (λ next. IsWordStep text from next.0 next.1) in subst P is step
