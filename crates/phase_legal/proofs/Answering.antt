-- What an actor was told in its phase is right in the whole history.
use Rattle.std.proofs.Common.{◌≡◌, ℕ, zero, suc, ◌+◌, ◌<◌, ◌≤◌, ◌⊎◌, inl, inr, Bool, true, false, List, [], ◌∷◌, ◌++◌, length, map, reverse, Some, None, refl, sym, ap, subst, ◌∙◌, arith, append-nil, append_assoc, length-append}
use Rattle.std.specs.Prelude.{slice_get, ◌==◌, ◌&&◌, if◌then◌else◌}
use Rattle.std.proofs.Math.Nat.{le_refl}
use Rattle.std.proofs.lemmas.List.{map-append, reverse-append, length-reverse, length-map}
use mathlib.Core.List.{IsPrefix}
use Rattle.attrs.specs.History.{Content, after}
use Rattle.attrs.specs.declared.journal.JEntry.{JEntry}
use Rattle.attrs.specs.declared.route.Change.{Change}
use Rattle.import_core.specs.declared.operation.Op.{Op}
use Rattle.jour_rule.specs.declared.views.Entry.{Entry}
use Rattle.jour_rule.specs.Journal.{receipts}
use Rattle.jour.specs.Seats.{front, journal, number_of}
use Rattle.core_machine.specs.Histories.{front as front_at, own}
use Rattle.core_machine.specs.Lines.{Line, Apply, Take, Push, Show, Reply, Turn, ops_of, turn_of}
use Rattle.core_machine.specs.Merges.{asked, picked}
use Rattle.core_machine.specs.Replies.{Answers, IsReply, Question, latest, needed}
use Rattle.core_machine.specs.Rules.{Rules, changes}
use Rattle.core_machine.proofs.Contents.{front_all}
use Rattle.core_machine.proofs.PhaseEnds.{ops_append}
use Rattle.core_machine.proofs.Replying.{front_on, needed_le, needed_more}
use Rattle.table_shared.specs.Opening.{TableOpening}
use Rattle.table_shared.specs.Records.{AreRecords, at_first, change_of}
use Rattle.phase_legal.specs.Changes.{AreMade, IsAlone, changes_in, entered, given, made_by}
use Rattle.phase_legal.specs.Ended.{HasEnded, histories}
use Rattle.phase_legal.specs.Shown.{AreTold, HandView, IsSeen, IsTold, PassView, Room, start_of}
use Rattle.phase_legal.specs.Turns.{AreByHands, AreStarts, named, turn_words, turns_told, words_in}
use Rattle.phase_legal.proofs.Made.{given_on, made_here, those_both, those_made}
use Rattle.phase_legal.proofs.Merging.{by_both, by_hands_behind, by_hands_front, by_maker, picked_by, rest_by, second, starts_by, turn_at, turns_both, words_by}

-- ---- places

found : {X : Type 0} (xs : List X) (i : ℕ) → ((x : X) × (slice_get xs i ≡ Some x)) ⊎ ((slice_get xs i ≡ None) × (length xs ≤ i))
found [] i = inr (refl, omega arith)
found (x ∷ xs) zero = inl (x, refl)
found (x ∷ xs) (suc i) = elim (found xs i) [ inl w ↦ inl w | inr w ↦ inr (w.0, let v = w.1 in omega (arith, v)) ]

within : {X : Type 0} (xs : List X) (i : ℕ) (x : X) → slice_get xs i ≡ Some x → i < length xs
within xs i x at = elim (found xs i) [ inl w ↦ inside xs i x at | inr w ↦ absurd (let e : None ≡ Some x = sym w.0 ∙ at in cc) ]
  where
    inside : {X : Type 0} (xs : List X) (i : ℕ) (x : X) → slice_get xs i ≡ Some x → i < length xs
    inside [] i x at = absurd (let e : None ≡ Some x = at in cc)
    inside (y ∷ xs) zero x at = omega arith
    inside (y ∷ xs) (suc i) x at = let more = inside xs i x at in omega (arith, more)

here : {X : Type 0} (xs : List X) (i : ℕ) → i < length xs → (x : X) × (slice_get xs i ≡ Some x)
here [] i w = absurd (omega (arith, w))
here (x ∷ xs) zero w = (x, refl)
here (x ∷ xs) (suc i) w = here xs i (omega (arith, w))

prefix_then : {X : Type 0} (xs ys zs : List X) → IsPrefix xs ys → IsPrefix ys zs → IsPrefix xs zs
prefix_then xs ys zs p q = (p.0 ++ q.0, sym (append_assoc xs p.0 q.0) ∙ ap (λ z. z ++ q.0) p.1 ∙ q.1)

-- a front of two lists is one of the first, or goes on into the second
parted : {X : Type 0} (xs ys zs more : List X) → xs ++ more ≡ ys ++ zs → ((tail : List X) × (xs ++ tail ≡ ys)) ⊎ ((mid : List X) × (xs ≡ ys ++ mid) × (mid ++ more ≡ zs))
parted [] ys zs more e = inl (ys, refl)
parted (x ∷ xs) [] zs more e = inr (x ∷ xs, refl, e)
parted (x ∷ xs) (y ∷ ys) zs more e =
    let same : x ≡ y = (let h : x ∷ (xs ++ more) ≡ y ∷ (ys ++ zs) = e in cc) in
    let rest : xs ++ more ≡ ys ++ zs = (let h : x ∷ (xs ++ more) ≡ y ∷ (ys ++ zs) = e in cc) in
    elim (parted xs ys zs more rest) [
      | inl w ↦ inl (w.0, λ i. same i ∷ w.1 i)
      | inr w ↦ inr (w.0, (λ i. same i ∷ w.1 i), w.2)
    ]

nil_first : {X : Type 0} (xs ys : List X) → xs ++ ys ≡ [] → xs ≡ []
nil_first [] ys e = refl
nil_first (x ∷ xs) ys e = absurd (let two : x ∷ (xs ++ ys) ≡ [] = e in cc)

-- ---- what an actor needs

named_if : (b : Bool) (n : ℕ) (t : Turn) (ns : List ℕ) (ts : List Turn) → length ns ≡ length ts → length (if b then n ∷ ns else ns) ≡ length (if b then t ∷ ts else ts)
named_if true n t ns ts e = ap suc e
named_if false n t ns ts e = e

named_length : (a i : ℕ) (lines : List Line) → length (named a i lines) ≡ length (asked a i lines)
named_length a i [] = refl
named_length a i (Apply x ∷ lines) = named_if ((x.actor == a) && (x.protocol == i)) (suc (length lines)) (turn_of x) (named a i lines) (asked a i lines) (named_length a i lines)
named_length a i (Take n ∷ lines) = named_length a i lines
named_length a i (Push n ∷ lines) = named_length a i lines
named_length a i (Show q ∷ lines) = named_length a i lines

picked_le : (a : ℕ) (t : Turn) (ts : List Turn) → length (picked a ts) ≤ length (picked a (t ∷ ts))
picked_le a t ts = elim (t.actor == a) as (λ b. length (picked a ts) ≤ length (if b then t ∷ picked a ts else picked a ts)) [ true ↦ omega arith | false ↦ le_refl (length (picked a ts)) ]

picked_more : (a : ℕ) (more ts : List Turn) → length (picked a ts) ≤ length (picked a (more ++ ts))
picked_more a [] ts = le_refl (length (picked a ts))
picked_more a (t ∷ more) ts = let x = picked_more a more ts in let y = picked_le a t (more ++ ts) in omega (arith, x, y)

-- later turns need no more for an actor's first ones
needed_on : (rules : Rules) (i : ℕ) (base : List Op) (a n : ℕ) (more ts : List Turn) → n ≤ length (picked a ts) → needed rules i base a n (more ++ ts) ≡ needed rules i base a n ts
needed_on rules i base a n [] ts w = refl
needed_on rules i base a n (t ∷ more) ts w =
    needed_more rules i base a n t (more ++ ts) (let x = picked_more a more ts in omega (arith, w, x)) ∙ needed_on rules i base a n more ts w

module _ (rules : Rules) (lines : List Line) (starter i a : ℕ) (w : a < starter) (past : List Turn) (begun rest : List Entry) (hands : AreByHands lines starter (begun ++ rest)) (starts : AreStarts begun) (others : by_maker starter rest ≡ []) where
  base : List Op
  base = ops_of (turns_told lines begun ++ past)

  -- What it needs behind the lines so far is at most what the turns that its hand has seen give, and
  -- what was before.
  needed_by : (m n : ℕ) (seen more : List Entry) → seen ++ more ≡ begun ++ rest → length (words_in (receipts m a seen)) ≡ n
      → needed rules i (ops_of (turns_told lines begun ++ past)) a n (turns_told lines rest)
      ≤ length (given rules i (ops_of past) (ops_of (turns_told lines seen))) + length (changes rules i (ops_of past))
  needed_by m n seen more e count = elim (parted seen begun rest more e) [
    | inl u ↦
        let none : by_maker a seen ≡ [] = nil_first (by_maker a seen) (by_maker a u.0) (sym (by_both a seen u.0) ∙ ap (by_maker a) u.1 ∙ starts_by lines starter a w begun starts (by_hands_front lines starter begun rest hands)) in
        let zero_is : n ≡ 0 = sym count ∙ ap length (words_by m a seen ∙ none) in
        let e : needed rules i (ops_of (turns_told lines begun ++ past)) a n (turns_told lines rest) ≡ 0 =
        ap (λ z. needed rules i (ops_of (turns_told lines begun ++ past)) a z (turns_told lines rest)) zero_is
        ∙ ap (needed rules i (ops_of (turns_told lines begun ++ past)) a 0) (sym (append-nil (turns_told lines rest)))
        ∙ needed_on rules i (ops_of (turns_told lines begun ++ past)) a 0 (turns_told lines rest) [] (omega arith) in
        omega (arith, e)
    | inr u ↦
        let mid : List Entry = u.0 in
        let by_mid : AreByHands lines starter mid = by_hands_front lines starter mid more (subst (AreByHands lines starter) (sym u.2) (by_hands_behind lines starter begun rest hands)) in
        let none : by_maker starter mid ≡ [] = nil_first (by_maker starter mid) (by_maker starter more) (sym (by_both starter mid more) ∙ ap (by_maker starter) u.2 ∙ others) in
        let few : length (picked a (turns_told lines mid)) ≡ n =
        ap length (picked_by lines starter a mid by_mid none)
        ∙ length-map (reverse (map second (by_maker a mid))) (turn_at lines) ∙ length-reverse (map second (by_maker a mid)) ∙ length-map (by_maker a mid) second
        ∙ ap (λ z. length (z ++ by_maker a mid)) (sym (starts_by lines starter a w begun starts (by_hands_front lines starter begun rest hands)))
        ∙ ap length (sym (by_both a begun mid)) ∙ ap (λ z. length (by_maker a z)) (sym u.1) ∙ ap length (sym (words_by m a seen)) ∙ count in
        let same : needed rules i (ops_of (turns_told lines begun ++ past)) a n (turns_told lines rest) ≡ needed rules i (ops_of (turns_told lines begun ++ past)) a n (turns_told lines mid) =
        ap (λ z. needed rules i (ops_of (turns_told lines begun ++ past)) a n (turns_told lines z)) (sym u.2)
        ∙ ap (needed rules i (ops_of (turns_told lines begun ++ past)) a n) (turns_both lines mid more)
        ∙ needed_on rules i (ops_of (turns_told lines begun ++ past)) a n (turns_told lines more) (turns_told lines mid) (omega (arith, few)) in
        let le = needed_le rules i (ops_of (turns_told lines begun ++ past)) a n (turns_told lines mid) in
        let all : ops_of (turns_told lines mid) ++ ops_of (turns_told lines begun ++ past) ≡ ops_of (turns_told lines seen) ++ ops_of past =
        sym (ops_append (turns_told lines mid) (turns_told lines begun ++ past))
        ∙ ap ops_of (sym (append_assoc (turns_told lines mid) (turns_told lines begun) past))
        ∙ ap (λ z. ops_of (z ++ past)) (sym (turns_both lines begun mid) ∙ ap (turns_told lines) (sym u.1))
        ∙ ops_append (turns_told lines seen) past in
        let gives : length (changes rules i (ops_of (turns_told lines mid) ++ ops_of (turns_told lines begun ++ past))) ≡ length (given rules i (ops_of past) (ops_of (turns_told lines seen))) + length (changes rules i (ops_of past)) =
        ap (λ z. length (changes rules i z)) all ∙ ap length (given_on rules i (ops_of past) (ops_of (turns_told lines seen)))
        ∙ length-append (given rules i (ops_of past) (ops_of (turns_told lines seen))) (changes rules i (ops_of past)) in
        omega (arith, same, le, gives)
  ]

-- ---- what a pass has seen

records_parted : (opening : TableOpening) (before : Content) (es more : List Entry) (said : List JEntry) → AreRecords opening before (es ++ more) said
    → (first : List JEntry) × (later : List JEntry) × (said ≡ first ++ later) × AreRecords opening before es first
records_parted opening before [] more said are = ([], said, refl, tt)
records_parted opening before (e ∷ es) more [] are = absurd are
records_parted opening before (e ∷ es) more (s ∷ said) are =
    let rest = records_parted opening (after before (change_of s ∷ [])) es more said are.1 in
    (s ∷ rest.0, rest.1, ap (λ z. s ∷ z) rest.2, (are.0, rest.3))

records_length : (opening : TableOpening) (before : Content) (es : List Entry) (said : List JEntry) → AreRecords opening before es said → length said ≡ length es
records_length opening before [] [] are = refl
records_length opening before [] (s ∷ said) are = absurd are
records_length opening before (e ∷ es) [] are = absurd are
records_length opening before (e ∷ es) (s ∷ said) are = ap suc (records_length opening (after before (change_of s ∷ [])) es said are.1)

made_length : (rs : List (ℕ × List ℕ)) (made : List (ℕ × Change)) → AreMade rs made → length made ≡ length rs
made_length [] [] are = refl
made_length [] (m ∷ made) are = absurd are
made_length (r ∷ rs) [] are = absurd are
made_length (r ∷ rs) (m ∷ made) are = ap suc (made_length rs made are.1)

module _ (opening : TableOpening) (content : Content) (es : List Entry) (said : List JEntry) (before : List Change) (records : AreRecords opening content es said) where
  -- how long the history is
  history_length : length (reverse (map change_of said) ++ before) ≡ length es + length before
  history_length =
      length-append (reverse (map change_of said)) before
      ∙ ap (λ z. z + length before) (length-reverse (map change_of said) ∙ length-map said change_of ∙ records_length opening content es said records)

  -- a source's changes up to there are those that the pass has of its port, and those of before
  own_seen : (i port : ℕ) (seen : List Entry) → IsAlone (λ num. num == i) opening port → IsPrefix seen es
      → length (own i (front_at (length before + length seen) (reverse (map change_of said) ++ before))) ≡ length (receipts (length before) port seen) + length (own i before)
  own_seen i port seen alone p =
      let parts = records_parted opening content seen p.0 said (subst (λ z. AreRecords opening content z said) (sym p.1) records) in
      let first : List Change = map change_of parts.0 in
      let at : length before + length seen ≡ length (reverse first ++ before) =
      (let a = length-append (reverse first) before in let b = length-reverse first in let c = length-map parts.0 change_of in let d = records_length opening content seen parts.0 parts.3 in omega (arith, a, b, c, d)) in
      let split : reverse (map change_of said) ++ before ≡ reverse (map change_of parts.1) ++ (reverse first ++ before) =
      ap (λ z. reverse (map change_of z) ++ before) parts.2 ∙ ap (λ z. reverse z ++ before) (map-append change_of parts.0 parts.1)
      ∙ ap (λ z. z ++ before) (reverse-append first (map change_of parts.1)) ∙ append_assoc (reverse (map change_of parts.1)) (reverse first) before in
      let there : front_at (length before + length seen) (reverse (map change_of said) ++ before) ≡ reverse first ++ before =
      ap (front_at (length before + length seen)) split
      ∙ front_on (length before + length seen) (reverse (map change_of parts.1)) (reverse first ++ before) (omega (arith, at))
      ∙ ap (λ z. front_at z (reverse first ++ before)) at
      ∙ front_all (reverse first ++ before) in
      ap (λ z. length (own i z)) there
      ∙ ap length (those_both (λ num. num == i) (reverse first) before)
      ∙ length-append (own i (reverse first)) (own i before)
      ∙ ap (λ z. length z + length (own i before)) (those_made (λ num. num == i) opening port alone content (length before) seen parts.0 parts.3)
      ∙ ap (λ z. z + length (own i before)) (length-reverse (changes_in (made_by (length before) port (entered seen parts.0)))
      ∙ length-map (made_by (length before) port (entered seen parts.0)) (λ (m : ℕ × Change). m.1)
      ∙ made_length (receipts (length before) port seen) (made_by (length before) port (entered seen parts.0)) (made_here opening content (length before) port seen parts.0 parts.3))

-- ---- replies

module _ (room : Room) (starter actor : ℕ) (few : actor < starter) (hands : List HandView) (passes : List PassView)
    (begun rest : ℕ → List Entry) (entries : ℕ → List Entry) (said : ℕ → List JEntry) (before : ℕ → List Change)
    (end : HasEnded room starter begun rest entries said before)
    (returned : (i : ℕ) (hand : HandView) → slice_get hands i ≡ Some hand → IsPrefix (front hand.1) (begun i ++ rest i))
    (heard : (t : ℕ) (pass : PassView) → slice_get passes t ≡ Some pass → IsPrefix (front pass.1) (entries t)) where
  answer : (q : Question) (low : ℕ) (r : Reply) → IsTold room actor hands passes q r → low ≤ r.at
      → IsReply room.rules (λ i. ops_of (turns_told room.lines (begun i) ++ room.past i)) (histories said before) (λ i. turns_told room.lines (rest i)) actor q low r
  answer q low r o least =
      let t : ℕ = q.ask.table in
      let was = o.acting in
      let table = here room.tables t (let n = within o.passes_then t o.pass o.pass_at in let c = was.passes_are.count in omega (arith, n, c)) in
      let now = here passes t (let n = within o.passes_then t o.pass o.pass_at in let c = o.passes_grown.count in omega (arith, n, c)) in
      let opening : TableOpening = table.0.1.opening in
      let records : AreRecords opening (at_first opening) (entries t) (said t) = end.records t table.0 table.1 in
      let is_its : journal o.pass ≡ table.0 = was.passes_are.each t table.0 o.pass table.1 o.pass_at in
      let start : o.pass.1.seen.terms.start ≡ length (before t) = ap (λ j. j.1.start) is_its ∙ end.starts t table.0 table.1 in
      let all : IsPrefix (front o.pass.1) (entries t) = prefix_then (front o.pass.1) (front now.0.1) (entries t) (o.passes_grown.each t o.pass now.0 o.pass_at now.1).1 (heard t now.0 now.1) in
      let place : r.at ≡ length (before t) + length (front o.pass.1) = o.position ∙ ap (λ z. z + length (front o.pass.1)) start in record {
        table = o.table;
        query = o.query;
        within = (let a = history_length opening (at_first opening) (entries t) (said t) (before t) records in let d = length-append (front o.pass.1) all.0 in let e = ap length all.1 in omega (arith, a, d, e, place));
        later = least;
        seen = λ i on. elim (found room.turns i) [
          | inl turns ↦
              let inside = within room.turns i turns.0 turns.1 in
              let port = here room.ports i (let c = end.ports in omega (arith, inside, c)) in
              let h = here o.hands_then i (let c = was.hands_are.count in omega (arith, inside, c)) in
              let h2 = here hands i (let n = within o.hands_then i h.0 h.1 in let c = o.hands_grown.count in omega (arith, n, c)) in
              let number : number_of h.0.1.role ≡ actor = (was.hands_are.each i turns.0 h.0 turns.1 h.1).1 in
              let seen : IsSeen room i port.0 h.0 o.pass = was.seen i port.0 h.0 o.pass port.1 h.1 (ap (slice_get o.passes_then) on ∙ o.pass_at) in
              let n : ℕ = length (asked actor i q.lines) in
              let count : length (words_in (receipts h.0.1.seen.terms.start actor (front h.0.1))) ≡ n =
              ap (λ z. length (words_in (receipts h.0.1.seen.terms.start z (front h.0.1)))) (sym number)
              ∙ ap length (was.said i h.0 h.1) ∙ length-map (reverse (named actor i q.lines)) turn_words ∙ length-reverse (named actor i q.lines) ∙ named_length actor i q.lines in
              let its = end.turns i in
              let whole : IsPrefix (front h.0.1) (begun i ++ rest i) = prefix_then (front h.0.1) (front h2.0.1) (begun i ++ rest i) (o.hands_grown.each i h.0 h2.0 h.1 h2.1).1 (returned i h2.0 h2.1) in
              let need = needed_by room.rules room.lines starter i actor few (room.past i) (begun i) (rest i) its.hands its.starts (rest_by its.start starter (begun i) (rest i) its.ended) h.0.1.seen.terms.start n (front h.0.1) whole.0 whole.1 count in
              let alone : IsAlone (λ num. num == i) opening port.0 = end.alone i port.0 table.0 port.1 (ap (slice_get room.tables) on ∙ table.1) in
              let has : length (own i (front_at r.at (histories said before t))) ≡ length (receipts (length (before t)) port.0 (front o.pass.1)) + length (own i (before t)) =
              ap (λ z. length (own i (front_at z (histories said before t)))) place
              ∙ own_seen opening (at_first opening) (entries t) (said t) (before t) records i port.0 (front o.pass.1) alone all in
              let rs : length (receipts o.pass.1.seen.terms.start port.0 (front o.pass.1)) ≡ length (receipts (length (before t)) port.0 (front o.pass.1)) = ap (λ z. length (receipts z port.0 (front o.pass.1))) start in
              let old : length (own i (before t)) ≡ length (changes room.rules i (ops_of (room.past i))) = ap (λ z. length (own i (before z))) (sym on) ∙ ap length (end.exact i) in
              omega (arith, need, seen, has, rs, old)
          | inr none ↦
              let e : needed room.rules i (ops_of (turns_told room.lines (begun i) ++ room.past i)) actor (length (asked actor i q.lines)) (turns_told room.lines (rest i)) ≡ 0 =
              ap (λ z. needed room.rules i (ops_of (turns_told room.lines (begun i) ++ room.past i)) actor (length (asked actor i q.lines)) (turns_told room.lines z)) (end.beyond i none.1) in
              omega (arith, e)
        ];
      }

  pub answers : (all : List Question) (rs : List Reply) → AreTold room actor hands passes all rs
      → Answers room.rules (λ t. length (before t)) (λ i. ops_of (turns_told room.lines (begun i) ++ room.past i)) (histories said before) (λ i. turns_told room.lines (rest i)) actor all rs
  answers [] [] are = tt
  answers [] (r ∷ rs) are = absurd are
  answers (q ∷ more) [] are = absurd are
  answers (q ∷ more) (r ∷ rs) are =
      let o = are.0 in
      let table = here room.tables q.ask.table (let n = within o.passes_then q.ask.table o.pass o.pass_at in let c = o.acting.passes_are.count in omega (arith, n, c)) in
      let head : start_of (slice_get room.tables q.ask.table) ≡ length (before q.ask.table) = ap start_of table.1 ∙ end.starts q.ask.table table.0 table.1 in
      (answer q (latest q.ask.table (length (before q.ask.table)) rs) r o (subst (λ z. latest q.ask.table z rs ≤ r.at) head are.1), answers more rs are.2)
