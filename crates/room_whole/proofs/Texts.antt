-- A text that an actor was told answers its query over the table as it stood at its position.
use Rattle.std.proofs.Common.{◌≡◌, ℕ, suc, ◌+◌, List, [], ◌∷◌, ◌++◌, length, map, reverse, take, sym, ap, subst, ◌∙◌, arith, append_assoc}
use Rattle.std.proofs.lemmas.List.{reverse-reverse, take-map}
use mathlib.Core.List.{IsPrefix}
use Rattle.atomic_table.specs.Seated.{TableId}
use Rattle.attrs.specs.History.{Content, after, empty}
use Rattle.attrs.specs.declared.journal.JEntry.{JEntry}
use Rattle.jour_rule.specs.declared.views.Entry.{Entry}
use Rattle.jour_rule.specs.declared.views.Terms.{Terms}
use Rattle.jour.specs.Seats.{front, journal}
use Rattle.rec_words.specs.Entries.{Spells}
use Rattle.core_machine.specs.Histories.{content_of, front as front_at}
use Rattle.core_machine.specs.Legal.{Joined, Printed, join}
use Rattle.core_machine.specs.Lines.{Line}
use Rattle.core_machine.proofs.Beginnings.{front_begins}
use Rattle.core_setup.specs.Setup.{Setup}
use Rattle.table_shared.specs.Opening.{TableOpening}
use Rattle.table_shared.specs.Records.{AreRecords, at_first, change_of, content_after, records_front}
use Rattle.table_shared.proofs.Histories.{same_records}
use Rattle.phase_legal.specs.Shown.{PassView}
use Rattle.phase_actors.specs.Texts.{IsAnswer, IsText}
use Rattle.phase_actors.specs.declared.actor.Told.{Told}
use Rattle.room_ends.specs.Prints.{PrintsText}

take_behind : {X : Type 0} (xs ys : List X) (n : ℕ) → take (length xs + n) (xs ++ ys) ≡ xs ++ take n ys
take_behind [] ys n = let none : 0 + n ≡ n = omega arith in ap (λ k. take k ys) none
take_behind (x ∷ xs) ys n = let next : suc (length xs) + n ≡ suc (length xs + n) = omega arith in ap (λ k. take k (x ∷ (xs ++ ys))) next ∙ ap (λ l. x ∷ l) (take_behind xs ys n)

-- what the first entries of a history leave
front_content : (before said : List JEntry) (n at : ℕ) → at ≡ length before + n → content_of (front_at at (reverse (map change_of (before ++ said)))) ≡ after empty (map change_of (before ++ take n said))
front_content before said n at is =
    let all : List JEntry = before ++ said in
    ap (after empty) (front_begins at (reverse (map change_of all)))
    ∙ ap (λ l. after empty (take at l)) (reverse-reverse (map change_of all))
    ∙ ap (after empty) (take-map change_of at all)
    ∙ ap (λ k. after empty (map change_of (take k all))) is
    ∙ ap (λ l. after empty (map change_of l)) (take_behind before said n)

module _ (one : (words : List ℕ) (a b : JEntry) → Spells a words → Spells b words → a ≡ b) (setup : Setup) (lines : List Line) (past : Joined) (p : Printed) (told : Told) (passes : List PassView) (is : IsText setup passes told)
    (here : TableId × Terms TableOpening) (before : List JEntry) (entries : List Entry) (said : List JEntry) (start : here.1.start ≡ length before) (content : (part : List JEntry) → content_after here.1.opening part ≡ after empty (map change_of (before ++ part)))
    (records : AreRecords here.1.opening (at_first here.1.opening) entries said) (history : (join past p).history told.table ≡ reverse (map change_of (before ++ said)))
    (mine : journal is.pass ≡ here) (seen : IsPrefix (front is.pass.1) entries) where
  abbrev read : List Entry
  read = front is.pass_then.1

  then_here : journal is.pass_then ≡ here
  then_here = sym is.grown.0 ∙ mine

  opening_is : is.pass_then.1.seen.terms.opening ≡ here.1.opening
  opening_is = ap (λ (j : TableId × Terms TableOpening). j.1.opening) then_here

  seen_then : IsPrefix read entries
  seen_then = (is.grown.1.0 ++ seen.0, sym (append_assoc read is.grown.1.0 seen.0) ∙ ap (λ z. z ++ seen.0) is.grown.1.1 ∙ seen.1)

  records_then : AreRecords here.1.opening (at_first here.1.opening) read is.text.0
  records_then = subst (λ (o : TableOpening). AreRecords o (at_first o) read is.text.0) opening_is is.text.1

  front_records : AreRecords here.1.opening (at_first here.1.opening) read (take (length read) said)
  front_records = records_front here.1.opening (at_first here.1.opening) read seen_then.0 said (subst (λ z. AreRecords here.1.opening (at_first here.1.opening) z said) (sym seen_then.1) records)

  same_said : is.text.0 ≡ take (length read) said
  same_said = same_records one here.1.opening (at_first here.1.opening) read is.text.0 (take (length read) said) records_then front_records

  at_is : told.at ≡ length before + length read
  at_is =
      let begins = ap (λ (j : TableId × Terms TableOpening). j.1.start) then_here in
      let place = is.position in
      omega (arith, place, begins, start)

  content_then : content_after is.pass_then.1.seen.terms.opening is.text.0 ≡ content_of (front_at told.at ((join past p).history told.table))
  content_then =
      ap (λ (o : TableOpening). content_after o is.text.0) opening_is
      ∙ ap (content_after here.1.opening) same_said
      ∙ content (take (length read) said)
      ∙ sym (front_content before said (length read) told.at at_is)
      ∙ ap (λ h. content_of (front_at told.at h)) (sym history)

  pub prints_text : PrintsText setup lines past p told
  prints_text = record {
    query = is.query;
    query_is = is.query_is;
    table_is = sym is.table;
    text = subst (λ (c : Content). IsAnswer setup is.query c told.text.items) content_then is.text.2;
  }
