-- A question as it goes on: an option more, none more, an expression.
use Rattle.std.proofs.Common.{◌≡◌, ◌∙◌, sym, ap, refl, subst, ℕ, zero, suc, ◌+◌, Bool, true, false, ◌||◌, List, [], ◌∷◌, ◌++◌, length, Option, Some, None, append_assoc, arith, inl, inr}
use Rattle.std.specs.Prelude.{is_none, codes, IfSome}
use Rattle.std.specs.List.{list_all, flat_map}
use Rattle.std.specs.List.Sorted.{IsPermutation}
use Rattle.std.proofs.lemmas.Bool.{and_parts, and_from, false≢true}
use Rattle.std.proofs.lemmas.List.{append-nil, length-append}
use Rattle.std.proofs.lemmas.List.Sorted.{IsPermutation-refl, IsPermutation-sym, IsPermutation-trans, IsPermutation-append_left, IsPermutation-middle}
use Rattle.text.specs.Lines.{words_of, behind_word, behind_words}
use Rattle.queries.specs.Question.{Asked, Part, part_words, is_well_named, parts_of, condition_words}
use Rattle.queries.specs.Inside.{only, put, put_condition, with_condition, BeginsWith, BeginsWithNone, GoesOn, Ends, IsOpen}
use Rattle.queries.proofs.Labels.{no_where, no_words, same_part}
use Rattle.queries.proofs.Growing.{put_grows, put_keeps, only_some}
use Rattle.queries.proofs.Tallies.{no_put, asked_same, same_filter}

same_behind : (text : List ℕ) (m n : ℕ) → m ≡ n → behind_words m text ≡ behind_words n text
same_behind text m n same = ap (λ (k : ℕ). behind_words k text) same

-- what stands behind words behind words
pub behind_more : (m n : ℕ) (text : List ℕ) → behind_words n (behind_words m text) ≡ behind_words (m + n) text
behind_more zero n text = same_behind text n (0 + n) (omega arith)
behind_more (suc m) n text = behind_more m n (behind_word text) ∙ same_behind text (suc (m + n)) (suc m + n) (omega arith)

more_words : (front more : List (List ℕ)) → length front + (length more + 1) ≡ length (front ++ more) + 1
more_words front more = omega (arith, length-append front more)

-- a place that is told from a rest
pub behind_front : (left rest : List ℕ) (front more : List (List ℕ)) (text : List ℕ) → rest ≡ behind_words (length front) left
    → text ≡ behind_words (length more + 1) rest → text ≡ behind_words (length (front ++ more) + 1) left
behind_front left rest front more text rest_is text_is =
    text_is ∙ ap (λ (r : List ℕ). behind_words (length more + 1) r) rest_is ∙ behind_more (length front) (length more + 1) left
    ∙ same_behind left (length front + (length more + 1)) (length (front ++ more) + 1) (more_words front more)

pub front_behind : (left rest : List ℕ) (front more : List (List ℕ)) (text : List ℕ) → rest ≡ behind_words (length front) left
    → text ≡ behind_words (length (front ++ more) + 1) left → text ≡ behind_words (length more + 1) rest
front_behind left rest front more text rest_is text_is =
    text_is ∙ same_behind left (length (front ++ more) + 1) (length front + (length more + 1)) (sym (more_words front more)) ∙ sym (behind_more (length front) (length more + 1) left)
    ∙ ap (λ (r : List ℕ). behind_words (length more + 1) r) (sym rest_is)

pub some_behind : (condition : Option (List ℕ)) (P Q : List ℕ → Type 0) → ((text : List ℕ) → P text → Q text) → IfSome condition P → IfSome condition Q
some_behind None P Q more is = tt
some_behind (Some text) P Q more is = more text is

-- one option more
more_parts : (old new : Asked) (p : Part) (parts last : List Part) → IsPermutation (p ∷ parts_of old) (parts_of new)
    → IsPermutation (parts_of new ++ parts) last → IsPermutation (parts_of old ++ p ∷ parts) last
more_parts old new p parts last grows same =
    IsPermutation-trans (parts_of old ++ p ∷ parts) (p ∷ (parts_of old ++ parts)) last (IsPermutation-middle (parts_of old) p parts)
    (IsPermutation-trans (p ∷ (parts_of old ++ parts)) (parts_of new ++ parts) last (IsPermutation-append_left parts (p ∷ parts_of old) (parts_of new) grows) same)

less_parts : (old new : Asked) (p : Part) (parts last : List Part) → IsPermutation (p ∷ parts_of old) (parts_of new)
    → IsPermutation (parts_of old ++ p ∷ parts) last → IsPermutation (parts_of new ++ parts) last
less_parts old new p parts last grows same =
    IsPermutation-trans (parts_of new ++ parts) (p ∷ (parts_of old ++ parts)) last
    (IsPermutation-append_left parts (parts_of new) (p ∷ parts_of old) (IsPermutation-sym (p ∷ parts_of old) (parts_of new) grows))
    (IsPermutation-trans (p ∷ (parts_of old ++ parts)) (parts_of old ++ p ∷ parts) last
    (IsPermutation-sym (parts_of old ++ p ∷ parts) (p ∷ (parts_of old ++ parts)) (IsPermutation-middle (parts_of old) p parts)) same)

pub turn_on : (old now : Asked) (left rest : List ℕ) (p : Part) → BeginsWith left p rest → put old p ≡ Some now → (new : Asked) → GoesOn now rest new → GoesOn old left new
turn_on old now left rest p begins set new goes = record {
  parts = p ∷ goes.parts;
  whole = begins.whole ∙ ap (λ (l : List (List ℕ)). part_words p ++ l) goes.whole
      ∙ sym (append_assoc (part_words p) (flat_map part_words goes.parts) (condition_words new.condition));
  parts_are = more_parts old now p goes.parts (parts_of new) (put_grows old now p set) goes.parts_are;
  names_are = and_from (is_well_named p) (list_all is_well_named goes.parts) begins.named goes.names_are;
  pick_is = goes.pick_is ∙ (put_keeps old now p set).0;
  condition_is = some_behind new.condition (λ text. text ≡ behind_words (length (flat_map part_words goes.parts) + 1) rest)
      (λ text. text ≡ behind_words (length (part_words p ++ flat_map part_words goes.parts) + 1) left)
      (λ text is. behind_front left rest (part_words p) (flat_map part_words goes.parts) text begins.rest_is is) goes.condition_is;
  one_table = goes.one_table;
  one_choice = goes.one_choice;
}

no_condition : (p : Part) (more : List (List ℕ)) (condition : Option (List ℕ)) → part_words p ++ more ≡ condition_words condition → ⊥
no_condition p more None same = no_words p more (sym same)
no_condition p more (Some text) same = no_where p (words_of text) more (sym same)

-- the first option of what is left
first_option : (old now : Asked) (left rest : List ℕ) (p : Part) (new : Asked) → BeginsWith left p rest → put old p ≡ Some now → (parts : List Part)
    → words_of left ≡ flat_map part_words parts ++ condition_words new.condition → IsPermutation (parts_of old ++ parts) (parts_of new)
    → list_all is_well_named parts ≡ true → new.pick ≡ old.pick
    → IfSome new.condition (λ text. text ≡ behind_words (length (flat_map part_words parts) + 1) left)
    → is_none new.table || is_none new.export ≡ true → is_none new.filter || is_none new.condition ≡ true → GoesOn now rest new
first_option old now left rest p new begins set [] whole same names pick condition one_table one_choice =
    absurd (no_condition p (words_of rest) new.condition (sym begins.whole ∙ whole))
first_option old now left rest p new begins set (q ∷ parts) whole same names pick condition one_table one_choice =
    let both = same_part p q (words_of rest) (flat_map part_words parts ++ condition_words new.condition)
    (sym begins.whole ∙ whole ∙ append_assoc (part_words q) (flat_map part_words parts) (condition_words new.condition)) in
    let P : Part → Type 0 = λ r. IsPermutation (parts_of old ++ r ∷ parts) (parts_of new) in
    let Q : Part → Type 0 = λ r. IfSome new.condition (λ text. text ≡ behind_words (length (part_words r ++ flat_map part_words parts) + 1) left) in
    record {
      parts = parts;
      whole = both.1;
      parts_are = less_parts old now p parts (parts_of new) (put_grows old now p set) (subst P (sym both.0) same);
      names_are = (and_parts (is_well_named q) (list_all is_well_named parts) names).1;
      pick_is = pick ∙ sym (put_keeps old now p set).0;
      condition_is = some_behind new.condition (λ text. text ≡ behind_words (length (part_words p ++ flat_map part_words parts) + 1) left)
          (λ text. text ≡ behind_words (length (flat_map part_words parts) + 1) rest)
          (λ text is. front_behind left rest (part_words p) (flat_map part_words parts) text begins.rest_is is) (subst Q (sym both.0) condition);
      one_table = one_table;
      one_choice = one_choice;
    }

pub turn_back : (old now : Asked) (left rest : List ℕ) (p : Part) → BeginsWith left p rest → put old p ≡ Some now → (new : Asked) → GoesOn old left new → GoesOn now rest new
turn_back old now left rest p begins set new goes =
    first_option old now left rest p new begins set goes.parts goes.whole goes.parts_are goes.names_are goes.pick_is goes.condition_is goes.one_table goes.one_choice

-- no option more
none_more : (old : Asked) (left rest : List ℕ) (p : Part) (new : Asked) → BeginsWith left p rest → put old p ≡ None → (parts : List Part)
    → words_of left ≡ flat_map part_words parts ++ condition_words new.condition → IsPermutation (parts_of old ++ parts) (parts_of new)
    → is_none new.table || is_none new.export ≡ true → ⊥
none_more old left rest p new begins none [] whole same one_table = no_condition p (words_of rest) new.condition (sym begins.whole ∙ whole)
none_more old left rest p new begins none (q ∷ parts) whole same one_table =
    let both = same_part p q (words_of rest) (flat_map part_words parts ++ condition_words new.condition)
    (sym begins.whole ∙ whole ∙ append_assoc (part_words q) (flat_map part_words parts) (condition_words new.condition)) in
    let P : Part → Type 0 = λ r. IsPermutation (parts_of old ++ r ∷ parts) (parts_of new) in
    no_put old new p parts (subst P (sym both.0) same) one_table none

pub turn_none : (old : Asked) (left rest : List ℕ) (p : Part) → BeginsWith left p rest → put old p ≡ None → (new : Asked) → GoesOn old left new → ⊥
turn_none old left rest p begins none new goes = none_more old left rest p new begins none goes.parts goes.whole goes.parts_are goes.one_table

-- ---- the end

-- without an option more the questions have the same options
with_none : (old new : Asked) → IsPermutation (parts_of old ++ []) (parts_of new) → IsPermutation (parts_of old) (parts_of new)
with_none old new same = let P : List Part → Type 0 = λ l. IsPermutation l (parts_of new) in subst P (append-nil (parts_of old)) same

or_none : (b : Bool) → b || false ≡ true → b ≡ true
or_none true is = refl
or_none false is = is

or_left : (a b : Bool) → a ≡ true → a || b ≡ true
or_left true b is = refl
or_left false b is = absurd (false≢true is)

or_right : (a b : Bool) → b ≡ true → a || b ≡ true
or_right true b is = refl
or_right false b is = is

put_made : (old new : Asked) (text : List ℕ) → is_none new.filter ≡ true → old.filter ≡ new.filter → with_condition text old ≡ new → put_condition old text ≡ Some new
put_made old new text free same set =
    let test : is_none old.filter ≡ true = ap (λ (o : Option (List ℕ)). is_none o) same ∙ free in
    ap (λ (t : Bool). only t (with_condition text old)) test ∙ ap Some set

end_by : (old new : Asked) (left : List ℕ) → IsOpen old → (condition : Option (List ℕ)) → new.condition ≡ condition
    → words_of left ≡ condition_words condition → IsPermutation (parts_of old) (parts_of new) → new.pick ≡ old.pick
    → IfSome condition (λ text. text ≡ behind_words 1 left) → is_none new.filter || is_none condition ≡ true → Ends old left new
end_by old new left is_open None condition_is whole same pick place one_choice = inl (whole, sym (asked_same old new same (sym pick) (is_open.condition ∙ sym condition_is)))
end_by old new left is_open (Some text) condition_is whole same pick place one_choice =
    let set : with_condition text old ≡ new = asked_same (with_condition text old) new same (sym pick) (sym condition_is) in
    inr (text, whole, place, put_made old new text (or_none (is_none new.filter) one_choice) (same_filter old new same) set)

ends_of : (old new : Asked) (left : List ℕ) → IsOpen old → BeginsWithNone left → (parts : List Part)
    → words_of left ≡ flat_map part_words parts ++ condition_words new.condition → IsPermutation (parts_of old ++ parts) (parts_of new)
    → list_all is_well_named parts ≡ true → new.pick ≡ old.pick
    → IfSome new.condition (λ text. text ≡ behind_words (length (flat_map part_words parts) + 1) left)
    → is_none new.filter || is_none new.condition ≡ true → Ends old left new
ends_of old new left is_open none [] whole same names pick condition one_choice =
    end_by old new left is_open new.condition refl whole (with_none old new same) pick condition one_choice
ends_of old new left is_open none (q ∷ parts) whole same names pick condition one_choice =
    absurd (none q (flat_map part_words parts ++ condition_words new.condition)
    (whole ∙ append_assoc (part_words q) (flat_map part_words parts) (condition_words new.condition)) (and_parts (is_well_named q) (list_all is_well_named parts) names).0)

-- where no option comes, what is left ends the question
pub goes_ends : (old : Asked) (left : List ℕ) → IsOpen old → BeginsWithNone left → (new : Asked) → GoesOn old left new → Ends old left new
goes_ends old left is_open none new goes =
    ends_of old new left is_open none goes.parts goes.whole goes.parts_are goes.names_are goes.pick_is goes.condition_is goes.one_choice

all_parts : (q : Asked) → IsPermutation (parts_of q ++ []) (parts_of q)
all_parts q = let P : List Part → Type 0 = λ l. IsPermutation l (parts_of q) in subst P (sym (append-nil (parts_of q))) (IsPermutation-refl (parts_of q))

goes_nowhere : (old : Asked) (left : List ℕ) → IsOpen old → words_of left ≡ [] → GoesOn old left old
goes_nowhere old left is_open none =
    let P : Option (List ℕ) → Type 0 = λ o. IfSome o (λ text. text ≡ behind_words 1 left) in
    record {
      parts = [];
      whole = none ∙ sym (ap (λ (o : Option (List ℕ)). condition_words o) is_open.condition);
      parts_are = all_parts old;
      names_are = refl;
      pick_is = refl;
      condition_is = subst P (sym is_open.condition) tt;
      one_table = is_open.one_table;
      one_choice = or_right (is_none old.filter) (is_none old.condition) (ap (λ (o : Option (List ℕ)). is_none o) is_open.condition);
    }

goes_where : (old : Asked) (left text : List ℕ) → IsOpen old → words_of left ≡ codes "where" ∷ words_of text → text ≡ behind_words 1 left → is_none old.filter ≡ true
    → GoesOn old left (with_condition text old)
goes_where old left text is_open whole place free = record {
  parts = [];
  whole = whole;
  parts_are = all_parts old;
  names_are = refl;
  pick_is = refl;
  condition_is = place;
  one_table = is_open.one_table;
  one_choice = or_left (is_none old.filter) false free;
}

pub ends_go : (old : Asked) (left : List ℕ) → IsOpen old → (new : Asked) → Ends old left new → GoesOn old left new
ends_go old left is_open new (inl is) = let P : Asked → Type 0 = λ q. GoesOn old left q in subst P (sym is.1) (goes_nowhere old left is_open is.0)
ends_go old left is_open new (inr is) =
    let set = only_some (is_none old.filter) (with_condition is.0 old) new is.3 in
    let P : Asked → Type 0 = λ q. GoesOn old left q in
    subst P set.1 (goes_where old left is.0 is_open is.1 is.2 set.0)
