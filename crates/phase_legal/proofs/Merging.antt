-- The turns of a phase are a merge of its lines.
use Rattle.std.proofs.Common.{◌≡◌, ℕ, zero, suc, ◌+◌, ◌<◌, ◌≤◌, ◌⊎◌, inl, inr, Bool, true, false, cond, List, [], ◌∷◌, ◌++◌, length, map, reverse, Option, Some, None, refl, sym, ap, ◌∙◌, arith, append-nil, append_assoc}
use Rattle.std.specs.Prelude.{slice_get, slice_index, ◌==◌, ◌&&◌, if◌then◌else◌}
use Rattle.std.proofs.Math.Nat.{le_refl}
use Rattle.std.proofs.lemmas.List.{map-append, reverse-append, reverse-reverse, length-reverse}
use Rattle.std.proofs.lemmas.Bool.Decides.{eqb_tells}
use Rattle.jour_rule.specs.declared.views.Entry.{Entry}
use Rattle.jour_rule.specs.Journal.{receipts}
use Rattle.core_machine.specs.Lines.{Line, Apply, Take, Push, Show, Turn, turn_of}
use Rattle.core_machine.specs.Merges.{IsMerge, asked, picked}
use Rattle.core_machine.proofs.Contents.{if_true, if_false}
use Rattle.phase_legal.specs.Turns.{AreByHands, AreOfActors, AreStarts, AreTurnsOf, hand_in, line_at, named, place_of, told, turn_in, turn_words, turns_told, words_in}

-- the words of a maker's entries
abbrev pub by_maker : ℕ → List Entry → List (List ℕ)
by_maker k [] = []
by_maker k (e ∷ es) = if e.maker == k then e.words ∷ by_maker k es else by_maker k es

pub words_by : (n k : ℕ) (es : List Entry) → words_in (receipts n k es) ≡ by_maker k es
words_by n k [] = refl
words_by n k (e ∷ es) = elim (e.maker == k) as (λ b. words_in (cond b ((suc n, e.words) ∷ receipts (suc n) k es) (receipts (suc n) k es)) ≡ (if b then e.words ∷ by_maker k es else by_maker k es)) [
  | true ↦ ap (λ z. e.words ∷ z) (words_by (suc n) k es)
  | false ↦ words_by (suc n) k es
]

pub by_both : (k : ℕ) (xs ys : List Entry) → by_maker k (xs ++ ys) ≡ by_maker k xs ++ by_maker k ys
by_both k [] ys = refl
by_both k (e ∷ xs) ys = elim (e.maker == k) as (λ b. (if b then e.words ∷ by_maker k (xs ++ ys) else by_maker k (xs ++ ys)) ≡ (if b then e.words ∷ by_maker k xs else by_maker k xs) ++ by_maker k ys) [
  | true ↦ ap (λ z. e.words ∷ z) (by_both k xs ys)
  | false ↦ by_both k xs ys
]

-- where a maker has no entry, the first is another's
by_none : (k : ℕ) (e : Entry) (es : List Entry) → by_maker k (e ∷ es) ≡ [] → (e.maker ≡ k → ⊥) × (by_maker k es ≡ [])
by_none k e es none = elim (eqb_tells e.maker k) [
  | inl w ↦ absurd (let two : e.words ∷ by_maker k es ≡ [] = sym (if_true (e.maker == k) (e.words ∷ by_maker k es) (by_maker k es) w.0) ∙ none in cc)
  | inr w ↦ (w.1, sym (if_false (e.maker == k) (e.words ∷ by_maker k es) (by_maker k es) w.0) ∙ none)
]

pub by_hands_front : (lines : List Line) (starter : ℕ) (xs ys : List Entry) → AreByHands lines starter (xs ++ ys) → AreByHands lines starter xs
by_hands_front lines starter [] ys are = tt
by_hands_front lines starter (x ∷ xs) ys are = (are.0, by_hands_front lines starter xs ys are.1)

pub by_hands_behind : (lines : List Line) (starter : ℕ) (xs ys : List Entry) → AreByHands lines starter (xs ++ ys) → AreByHands lines starter ys
by_hands_behind lines starter [] ys are = are
by_hands_behind lines starter (x ∷ xs) ys are = by_hands_behind lines starter xs ys are.1

-- ---- places and lines

abbrev pub second : List ℕ → ℕ
second words = slice_index words 1

abbrev pub turn_at : List Line → ℕ → Turn
turn_at lines n = turn_in (line_at lines n)

places_back : (xs : List ℕ) → map second (map turn_words xs) ≡ xs
places_back [] = refl
places_back (x ∷ xs) = ap (λ z. x ∷ z) (places_back xs)

pub get_middle : {X : Type 0} (xs ys : List X) (y : X) → slice_get (xs ++ y ∷ ys) (length xs) ≡ Some y
get_middle [] ys y = refl
get_middle (x ∷ xs) ys y = get_middle xs ys y

-- an entry of another hand than the starter's is a turn of that hand's actor
of_actor : (lines : List Line) (starter : ℕ) (e : Entry) → e.maker ≡ hand_in starter (line_at lines (place_of e)) → (e.maker ≡ starter → ⊥) → (told lines e).actor ≡ e.maker
of_actor lines starter e is other = by_line (line_at lines (place_of e)) is
  where
    by_line : (line : Option Line) → e.maker ≡ hand_in starter line → (turn_in line).actor ≡ e.maker
    by_line None by = absurd (other by)
    by_line (Some (Apply a)) by = sym by
    by_line (Some (Take n)) by = absurd (other by)
    by_line (Some (Push n)) by = absurd (other by)
    by_line (Some (Show q)) by = absurd (other by)

picked_both : (a : ℕ) (xs ys : List Turn) → picked a (xs ++ ys) ≡ picked a xs ++ picked a ys
picked_both a [] ys = refl
picked_both a (t ∷ xs) ys = elim (t.actor == a) as (λ b. (if b then t ∷ picked a (xs ++ ys) else picked a (xs ++ ys)) ≡ (if b then t ∷ picked a xs else picked a xs) ++ picked a ys) [
  | true ↦ ap (λ z. t ∷ z) (picked_both a xs ys)
  | false ↦ picked_both a xs ys
]

-- an actor's turns are those at the places that its hand has told
pub picked_by : (lines : List Line) (starter a : ℕ) (es : List Entry) → AreByHands lines starter es → by_maker starter es ≡ [] → picked a (turns_told lines es) ≡ map (turn_at lines) (reverse (map second (by_maker a es)))
picked_by lines starter a [] are none = refl
picked_by lines starter a (e ∷ es) are none =
    let past = by_none starter e es none in
    let same : (told lines e).actor ≡ e.maker = of_actor lines starter e are.0 past.0 in
    let more = picked_by lines starter a es are.1 past.1 in
    ap (picked a) (reverse-append (told lines e ∷ []) (map (told lines) es))
    ∙ picked_both a (turns_told lines es) (told lines e ∷ [])
    ∙ elim (eqb_tells e.maker a) [
      | inl w ↦
          ap (λ z. picked a (turns_told lines es) ++ z) (if_true ((told lines e).actor == a) (told lines e ∷ []) [] (ap (λ z. z == a) same ∙ w.0))
          ∙ ap (λ z. z ++ told lines e ∷ []) more
          ∙ sym (map-append (turn_at lines) (reverse (map second (by_maker a es))) (place_of e ∷ []))
          ∙ ap (map (turn_at lines)) (sym (reverse-append (place_of e ∷ []) (map second (by_maker a es))))
          ∙ ap (λ z. map (turn_at lines) (reverse (map second z))) (sym (if_true (e.maker == a) (e.words ∷ by_maker a es) (by_maker a es) w.0))
      | inr w ↦
          ap (λ z. picked a (turns_told lines es) ++ z) (if_false ((told lines e).actor == a) (told lines e ∷ []) [] (ap (λ z. z == a) same ∙ w.0))
          ∙ append-nil (picked a (turns_told lines es))
          ∙ more
          ∙ ap (λ z. map (turn_at lines) (reverse (map second z))) (sym (if_false (e.maker == a) (e.words ∷ by_maker a es) (by_maker a es) w.0))
    ]

named_if : (b : Bool) (f : ℕ → Turn) (n : ℕ) (t : Turn) (ns : List ℕ) (ts : List Turn) → f n ≡ t → map f ns ≡ ts → map f (if b then n ∷ ns else ns) ≡ (if b then t ∷ ts else ts)
named_if true f n t ns ts is more = λ i. is i ∷ more i
named_if false f n t ns ts is more = more

-- where a line stands behind others
line_behind : (lines later earlier : List Line) (line : Line) → lines ≡ reverse (line ∷ earlier) ++ later → lines ≡ reverse earlier ++ line ∷ later
line_behind lines later earlier line e = e ∙ ap (λ z. z ++ later) (reverse-append (line ∷ []) earlier) ∙ append_assoc (reverse earlier) (line ∷ []) later

line_here : (lines later earlier : List Line) (line : Line) → lines ≡ reverse (line ∷ earlier) ++ later → slice_get lines (length earlier) ≡ Some line
line_here lines later earlier line e =
    ap (λ z. slice_get z (length earlier)) (line_behind lines later earlier line e)
    ∙ ap (slice_get (reverse earlier ++ line ∷ later)) (sym (length-reverse earlier))
    ∙ get_middle (reverse earlier) later line

-- the operations at the places of an actor's lines are those that it asks for
pub named_asked : (a i : ℕ) (lines later back : List Line) → lines ≡ reverse back ++ later → map (turn_at lines) (named a i back) ≡ asked a i back
named_asked a i lines later [] e = refl
named_asked a i lines later (Apply x ∷ earlier) e =
    named_if ((x.actor == a) && (x.protocol == i)) (turn_at lines) (suc (length earlier)) (turn_of x) (named a i earlier) (asked a i earlier)
    (ap turn_in (line_here lines later earlier (Apply x) e))
    (named_asked a i lines (Apply x ∷ later) earlier (line_behind lines later earlier (Apply x) e))
named_asked a i lines later (Take n ∷ earlier) e = named_asked a i lines (Take n ∷ later) earlier (line_behind lines later earlier (Take n) e)
named_asked a i lines later (Push n ∷ earlier) e = named_asked a i lines (Push n ∷ later) earlier (line_behind lines later earlier (Push n) e)
named_asked a i lines later (Show q ∷ earlier) e = named_asked a i lines (Show q ∷ later) earlier (line_behind lines later earlier (Show q) e)

not_both : (b c : Bool) → b ≡ false → (b && c) ≡ false
not_both b c e = ap (λ z. z && c) e

-- who isn't among the actors asks for nothing
asked_none : (a i actors : ℕ) (lines later back : List Line) → AreOfActors actors lines → actors ≤ a → lines ≡ reverse back ++ later → asked a i back ≡ []
asked_none a i actors lines later [] few w e = refl
asked_none a i actors lines later (Apply x ∷ earlier) few w e =
    let below = few (length earlier) x (line_here lines later earlier (Apply x) e) in
    let test : (x.actor == a) ≡ false = elim (eqb_tells x.actor a) [ inl v ↦ absurd (let same = v.1 in omega (arith, below, w, same)) | inr v ↦ v.0 ] in
    if_false ((x.actor == a) && (x.protocol == i)) (turn_of x ∷ asked a i earlier) (asked a i earlier) (not_both (x.actor == a) (x.protocol == i) test)
    ∙ asked_none a i actors lines (Apply x ∷ later) earlier few w (line_behind lines later earlier (Apply x) e)
asked_none a i actors lines later (Take n ∷ earlier) few w e = asked_none a i actors lines (Take n ∷ later) earlier few w (line_behind lines later earlier (Take n) e)
asked_none a i actors lines later (Push n ∷ earlier) few w e = asked_none a i actors lines (Push n ∷ later) earlier few w (line_behind lines later earlier (Push n) e)
asked_none a i actors lines later (Show q ∷ earlier) few w e = asked_none a i actors lines (Show q ∷ later) earlier few w (line_behind lines later earlier (Show q) e)

-- no hand has a number above the starter's
hand_most : (lines : List Line) (starter : ℕ) → AreOfActors starter lines → (place : ℕ) → hand_in starter (line_at lines place) ≤ starter
hand_most lines starter few zero = le_refl starter
hand_most lines starter few (suc n) = by_line (slice_get lines n) refl
  where
    by_line : (line : Option Line) → slice_get lines n ≡ line → hand_in starter line ≤ starter
    by_line None at = le_refl starter
    by_line (Some (Apply a)) at = let below = few n a at in omega (arith, below)
    by_line (Some (Take k)) at = le_refl starter
    by_line (Some (Push k)) at = le_refl starter
    by_line (Some (Show q)) at = le_refl starter

by_beyond : (lines : List Line) (starter a : ℕ) → AreOfActors starter lines → starter < a → (es : List Entry) → AreByHands lines starter es → by_maker a es ≡ []
by_beyond lines starter a few w [] are = refl
by_beyond lines starter a few w (e ∷ es) are =
    let most = hand_most lines starter few (place_of e) in
    let is = are.0 in
    if_false (e.maker == a) (e.words ∷ by_maker a es) (by_maker a es) (elim (eqb_tells e.maker a) [ inl v ↦ absurd (let same = v.1 in omega (arith, most, is, w, same)) | inr v ↦ v.0 ])
    ∙ by_beyond lines starter a few w es are.1

-- a start is recorded by the starter's hand alone
pub starts_by : (lines : List Line) (starter a : ℕ) → a < starter → (es : List Entry) → AreStarts es → AreByHands lines starter es → by_maker a es ≡ []
starts_by lines starter a w [] starts are = refl
starts_by lines starter a w (e ∷ es) starts are =
    let is : e.maker ≡ starter = are.0 ∙ ap (λ z. hand_in starter (line_at lines z)) starts.0 in
    if_false (e.maker == a) (e.words ∷ by_maker a es) (by_maker a es) (elim (eqb_tells e.maker a) [ inl v ↦ absurd (let same = v.1 in omega (arith, is, w, same)) | inr v ↦ v.0 ])
    ∙ starts_by lines starter a w es starts.1 are.1

less_or : (a b : ℕ) → (a < b) ⊎ (b ≤ a)
less_or a zero = inr (omega arith)
less_or zero (suc b) = inl (omega arith)
less_or (suc a) (suc b) = elim (less_or a b) [ inl w ↦ inl (omega (arith, w)) | inr w ↦ inr (omega (arith, w)) ]

-- what was recorded behind the starts isn't the starter's
pub rest_by : (n starter : ℕ) (begun rest : List Entry) → words_in (receipts n starter (begun ++ rest)) ≡ words_in (receipts n starter begun) → by_maker starter rest ≡ []
rest_by n starter begun rest same = nothing (by_maker starter begun) (by_maker starter rest) (sym (by_both starter begun rest) ∙ sym (words_by n starter (begun ++ rest)) ∙ same ∙ words_by n starter begun)
  where
    nothing : (xs ys : List (List ℕ)) → xs ++ ys ≡ xs → ys ≡ []
    nothing [] ys e = e
    nothing (x ∷ xs) ys e = nothing xs ys (let h : x ∷ (xs ++ ys) ≡ x ∷ xs = e in cc)

pub turns_both : (lines : List Line) (xs ys : List Entry) → turns_told lines (xs ++ ys) ≡ turns_told lines ys ++ turns_told lines xs
turns_both lines xs ys = ap reverse (map-append (told lines) xs ys) ∙ reverse-append (map (told lines) xs) (map (told lines) ys)

pub merged :
    (lines : List Line) (starter n i : ℕ) (begun rest : List Entry) → AreByHands lines starter (begun ++ rest) → AreStarts begun
    → words_in (receipts n starter (begun ++ rest)) ≡ words_in (receipts n starter begun) → AreOfActors starter lines
    → ((actor : ℕ) → actor < starter → AreTurnsOf actor i (reverse lines) (receipts n actor (begun ++ rest)))
    → IsMerge (reverse lines) i (turns_told lines rest) (turns_told lines begun) (turns_told lines (begun ++ rest))
merged lines starter n i begun rest are starts ended few each =
    let hands : AreByHands lines starter rest = by_hands_behind lines starter begun rest are in
    let others : by_maker starter rest ≡ [] = rest_by n starter begun rest ended in
    let whole : lines ≡ reverse (reverse lines) ++ [] = sym (reverse-reverse lines) ∙ sym (append-nil (reverse (reverse lines))) in record {
      all = turns_both lines begun rest;
      each = λ a. picked_by lines starter a rest hands others ∙ elim (less_or a starter) [
        | inl w ↦
            let told_by : by_maker a rest ≡ map turn_words (reverse (named a i (reverse lines))) =
            ap (λ z. z ++ by_maker a rest) (sym (starts_by lines starter a w begun starts (by_hands_front lines starter begun rest are)))
            ∙ sym (by_both a begun rest) ∙ sym (words_by n a (begun ++ rest)) ∙ each a w in
            ap (λ z. map (turn_at lines) (reverse (map second z))) told_by
            ∙ ap (λ z. map (turn_at lines) (reverse z)) (places_back (reverse (named a i (reverse lines))))
            ∙ ap (map (turn_at lines)) (reverse-reverse (named a i (reverse lines)))
            ∙ named_asked a i lines [] (reverse lines) whole
        | inr w ↦ ap (λ z. map (turn_at lines) (reverse (map second z))) (elim (less_or starter a) [
          | inl v ↦ by_beyond lines starter a few v rest hands
          | inr v ↦ ap (λ z. by_maker z rest) (let e : a ≡ starter = omega (arith, v, w) in e) ∙ others
        ]) ∙ sym (asked_none a i starter lines [] (reverse lines) few w whole)
      ];
    }
