-- Statements that were read one after another, and the words behind them.
use Rattle.std.proofs.Common.{◌≡◌, ℕ, false, Option, None, List, ◌++◌, length, refl, sym, ap, subst, ◌∙◌, append_assoc}
use Rattle.conf_lex.specs.declared.word.Word.{Word}
use Rattle.conf_lex.specs.Grammar.{ParseTree, NoWords, Single, Snoc, yield, begins, or_later, can_continue_in, DerivesLongest, too_deep}
use Rattle.conf_lex.specs.Reading.{Parsed}
use Rattle.conf_lex.proofs.Good.{Taken, never, begins-front}
use Rattle.expr_syntax.specs.Syntax.{rule}
use Rattle.expr_syntax.proofs.Tested.{good_at}
use Rattle.conf_syntax.specs.Syntax.{statement, config}
use Rattle.conf_tree.specs.Readers.{statement_at, whole_at, EndsInLast}
use Rattle.conf_tree.proofs.ConfigSteps.{statement_checked, ended_at, whole_is, whole_more}
use Rattle.conf_tree.proofs.Behind.{ended_behind, fails_behind}

-- the statements of this tree were read, and the rest is left
pub record IsRow (k : ℕ) (words : List Word) (t : ParseTree) (rest : List Word) : Type 0 where
  pub fits : DerivesLongest rule t config
  pub front : words ≡ yield t ++ rest
  pub levels : too_deep t k ≡ None
  pub stops : begins (can_continue_in rule t config) rest ≡ false
  pub reads : whole_at k words ≡ ended_at k t rest

pub row_none : (k : ℕ) (words : List Word) → IsRow k words (Single NoWords) words
row_none k words = record { fits = tt; front = refl; levels = refl; stops = never words; reads = whole_is k words }

none_after : (d e : Option (List Word)) (more : List Word) → d ≡ None → e ≡ None → or_later d more e ≡ None
none_after d e more first second = rw (first, second) refl

statement_taken : (k : ℕ) (ws : List Word) (s : ParseTree) (rest : List Word) → statement_at k ws ≡ Parsed s rest → Taken rule k statement ws s rest
unfolding statement_at
statement_taken k ws s rest got = (good_at k statement statement_checked).got ws s rest got

pub row_more : (k : ℕ) (words : List Word) (t : ParseTree) (ws : List Word) (s : ParseTree) (rest : List Word) → IsRow k words t ws → statement_at k ws ≡ Parsed s rest → IsRow k words (Snoc t s) rest
row_more k words t ws s rest h got =
    let taken = statement_taken k ws s rest got in
    let munch : begins (can_continue_in rule t config) (yield s ++ rest) ≡ false = subst (λ (u : List Word). begins (can_continue_in rule t config) u ≡ false) taken.front h.stops in
    record {
      fits = (h.fits, taken.fits, begins-front (can_continue_in rule t config) (yield s) rest munch);
      front = h.front ∙ ap (λ (u : List Word). yield t ++ u) taken.front ∙ sym (append_assoc (yield t) (yield s) rest);
      levels = none_after (too_deep t k) (too_deep s k) (yield s) h.levels taken.shallow;
      stops = taken.stops;
      reads = h.reads ∙ whole_more k t ws s rest got;
    }

-- what is refused is refused of the rest alone
pub row_last : (k : ℕ) (words : List Word) (t : ParseTree) (rest : List Word) (left : ℕ) → IsRow k words t rest → left ≡ length rest → EndsInLast k words left
row_last k words t rest left h count =
    record {
      front = yield t;
      last = rest;
      tree = t;
      cut = h.front;
      count = sym count;
      fits = h.fits;
      whole = refl;
      levels = h.levels;
      alone = λ why end failed. fails_behind t (whole_at k rest) why end (sym (ended_behind k t rest) ∙ sym h.reads ∙ failed);
    }
