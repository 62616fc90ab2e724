-- A feed of an exporter, which comes in chunks, and the withdrawals of one that goes down are the
-- machine's.
use Rattle.std.proofs.Common.{◌≡◌, ℕ, ◌≤◌, max, inl, inr, Bool, true, false, not, List, [], ◌∷◌, ◌++◌, reverse, Option, Some, None, refl, sym, ◌∙◌, ap, subst, arith, length, is_some, option_map}
use Rattle.std.specs.Prelude.{◌&&◌, ◌||◌, if◌then◌else◌}
use Rattle.std.specs.List.{filter}
use Rattle.std.specs.Map.{keys_of}
use Rattle.std.specs.List.Sorted.{IsStrictlySortedBy}
use Rattle.std.proofs.Math.Nat.{le_refl}
use Rattle.std.proofs.lemmas.List.{append_assoc, reverse-append}
use Rattle.std.proofs.lemmas.List.Kept.{IsStrictlySortedBy-filter}
use Rattle.bits_ip.specs.Prefix.{Net, precedes}
use Rattle.attrs.specs.declared.journal.Chunk.{Chunk}
use Rattle.attrs.specs.declared.judge.Verdict.{Verdict}
use Rattle.attrs.specs.declared.route.Change.{Change}
use Rattle.attrs.specs.declared.route.Route.{Route}
use Rattle.attrs.proofs.Nets.{net_cases, precedes_chain}
use Rattle.export_core.specs.declared.exporter.Pushed.TheVariants as answers
use Rattle.export_core.specs.declared.floors.FeedState.TheVariants.{Done, From}
use Rattle.export_core.specs.declared.log.Key.{Key}
use Rattle.export_core.specs.declared.log.LogItem.TheVariants.{Up, Down, Reload}
use Rattle.export_core.specs.declared.log.Sending.{Sending}
use Rattle.export_core.specs.declared.marks.Mark.{Mark}
use Rattle.export_core.specs.Calls.{AreStanding, Feeds, Flushes, FlushesBy, is_chosen}
use Rattle.export_core.specs.Calls as calls
use Rattle.export_core.specs.Candidates.{best_in, covers, floor_of, is_below, is_from}
use Rattle.export_core.specs.Keys.{key_cmp, same_key}
use Rattle.export_core.specs.Logs.{account, value_of}
use Rattle.export_core.specs.Marks.{holds, is_due, joined}
use Rattle.export_core.specs.Marks as exporter
use Rattle.export_core.specs.Standing.{standing_at}
use Rattle.export_core.specs.States.{State, feed_after, is_ahead, reach, reach_of}
use Rattle.export_core.proofs.Keys.{key_tells}
use Rattle.export_core.proofs.MarkLists.{holds-filter}
use Rattle.export_core.proofs.Nets.{before_first}
use Rattle.core_machine.specs.Channels.{Channel, IsFed, closed, fed, is_open, opened, renewed}
use Rattle.core_machine.specs.Enters.{comes_before, standing_keys}
use Rattle.core_machine.specs.Histories.{front}
use Rattle.core_machine.specs.Marks.{Marked, find, marked_keys, put_all, unmarked}
use Rattle.core_machine.specs.Match.{IsHeadChunk, IsWithin, Matches, MatchesFed, MatchesFlushed, MatchesRead, is_wanted, mark_of}
use Rattle.core_machine.specs.Pipes.{candidate}
use Rattle.core_machine.specs.Rules.{Rules}
use Rattle.core_machine.proofs.Contents.{front_all, if_false, if_true, none_some, some_same}
use Rattle.core_machine.proofs.Entering.{standing_ascends, standing_told}
use Rattle.core_machine.proofs.KeyLists.{Above, ascending_one, by_net, choice, chosen, chosen_ascends, less_is}
use Rattle.core_machine.proofs.MarkOrder.{keys_put_all}
use Rattle.core_machine.proofs.MarkSteps.{find_in, find_out, once_all, was_due}
use Rattle.core_machine.proofs.Matching.{due_mark, kept_spec, kept_value, longer_read, mark_same, some_mark}
use Rattle.core_machine.proofs.OneState.{find_none, held_append}

-- ---- where a feed stands

ahead_in : (from upto : Option Net) (pos : ℕ) (k : Key) → covers (record { from = from; upto = upto; at = pos }) k ≡ true → (is_ahead (From from) k ≡ true) × (is_ahead (feed_after upto) k ≡ false)
ahead_in from None pos k e = (first_true (is_from from k.net) true e, refl) where
  first_true : (a b : Bool) → (a && b) ≡ true → a ≡ true
  first_true true b f = refl
  first_true false b f = absurd (let bad : false ≡ true = f in cc)
ahead_in from (Some next) pos k e = by_case (is_from from k.net) (precedes k.net next) e where
  by_case : (a b : Bool) → (a && b) ≡ true → (a ≡ true) × (not b ≡ false)
  by_case true true f = (refl, refl)
  by_case true false f = absurd (let bad : false ≡ true = f in cc)
  by_case false b f = absurd (let bad : false ≡ true = f in cc)

ahead_out : (from upto : Option Net) (pos : ℕ) (k : Key) → ((next : Net) → upto ≡ Some next → is_from from next ≡ true) → covers (record { from = from; upto = upto; at = pos }) k ≡ false → is_ahead (feed_after upto) k ≡ is_ahead (From from) k
ahead_out from None pos k f e = sym (no_first (is_from from k.net) e) where
  no_first : (a : Bool) → (a && true) ≡ false → a ≡ false
  no_first true g = absurd (let bad : true ≡ false = g in cc)
  no_first false g = refl
ahead_out None (Some next) pos k f e = ap not e
ahead_out (Some first) (Some next) pos k f e = by_case (precedes k.net first) refl where
  not_true : (b : Bool) → not b ≡ true → b ≡ false
  not_true true g = absurd (let bad : false ≡ true = g in cc)
  not_true false g = refl

  rest_false : (a b : Bool) → a ≡ false → (not a && b) ≡ false → b ≡ false
  rest_false true b g h = absurd (let bad : true ≡ false = g in cc)
  rest_false false b g h = h

  by_case : (b : Bool) → precedes k.net first ≡ b → not (precedes k.net next) ≡ not (precedes k.net first)
  by_case true g = ap not (before_first k.net first next g (not_true (precedes next first) (f next refl)) ∙ sym g)
  by_case false g = ap not (rest_false (precedes k.net first) (precedes k.net next) g e ∙ sym g)

-- what has been fed is before what a chunk covers
fed_before : (from : Option Net) (a b : Net) → is_from from a ≡ false → is_from from b ≡ true → precedes a b ≡ true
fed_before None a b ea eb = absurd (let bad : true ≡ false = ea in cc)
fed_before (Some first) a b ea eb = elim (net_cases a b) [
  | inl w ↦ absurd (let bad : false ≡ true = sym ea ∙ ap (λ k. not (precedes k first)) w ∙ eb in cc)
  | inr w ↦ elim w [
    | inl z ↦ z
    | inr z ↦ absurd (apart (precedes a first) (precedes b first) ea eb (precedes_chain b a first z))
  ]
] where
  apart : (x y : Bool) → not x ≡ false → not y ≡ true → (x ≡ true → y ≡ true) → ⊥
  apart true true ex ey f = let bad : false ≡ true = ey in cc
  apart true false ex ey f = let bad : false ≡ true = f refl in cc
  apart false y ex ey f = let bad : true ≡ false = ex in cc

-- ---- lists of keys

above_all : (a : Key) (ys : List Key) → ((b : Key) → holds b ys ≡ true → comes_before a b ≡ true) → Above a ys
above_all a [] lt = tt
above_all a (y ∷ ys) lt = (less_is (key_cmp a y) (lt y (here y ys)), above_all a ys (λ b e. lt b (later (same_key y b) (holds b ys) e))) where
  here : (y : Key) (ys : List Key) → holds y (y ∷ ys) ≡ true
  here y ys = elim (key_tells y y) [ inl w ↦ ap (λ b. b || holds y ys) w.0 | inr w ↦ absurd (w.1 refl) ]

  later : (a b : Bool) → b ≡ true → (a || b) ≡ true
  later true b e = refl
  later false b e = e

above_append : (a : Key) (xs ys : List Key) → Above a xs → ((b : Key) → holds b ys ≡ true → comes_before a b ≡ true) → Above a (xs ++ ys)
above_append a [] ys all lt = above_all a ys lt
above_append a (x ∷ xs) ys all lt = (all.0, above_append a xs ys all.1 lt)

append_ascends : (xs ys : List Key) → IsStrictlySortedBy key_cmp xs → IsStrictlySortedBy key_cmp ys → ((a b : Key) → holds a xs ≡ true → holds b ys ≡ true → comes_before a b ≡ true) → IsStrictlySortedBy key_cmp (xs ++ ys)
unfolding IsStrictlySortedBy
append_ascends [] ys sx sy lt = sy
append_ascends (x ∷ xs) ys sx sy lt = (above_append x xs ys sx.0 (λ b e. lt x b (here x xs) e), append_ascends xs ys sx.1 sy (λ a b e f. lt a b (later (same_key x a) (holds a xs) e) f)) where
  here : (y : Key) (ys : List Key) → holds y (y ∷ ys) ≡ true
  here y ys = elim (key_tells y y) [ inl w ↦ ap (λ b. b || holds y ys) w.0 | inr w ↦ absurd (w.1 refl) ]

  later : (a b : Bool) → b ≡ true → (a || b) ≡ true
  later true b e = refl
  later false b e = e

append_holds : (k : Key) (xs ys : List Key) → holds k (xs ++ ys) ≡ (holds k xs || holds k ys)
append_holds k [] ys = refl
append_holds k (x ∷ xs) ys = ap (λ b. same_key x k || b) (append_holds k xs ys) ∙ joins (same_key x k) (holds k xs) (holds k ys) where
  joins : (a b c : Bool) → (a || (b || c)) ≡ ((a || b) || c)
  joins true b c = refl
  joins false b c = refl

-- those without a mark as a filter
abbrev without : List Marked → Key → Bool
without ms k = not (is_some (find k ms))

unmarked_filter : (ks : List Key) (ms : List Marked) → unmarked ks ms ≡ filter (without ms) ks
unmarked_filter [] ms = refl
unmarked_filter (k ∷ ks) ms = ap (λ l. if is_some (find k ms) then l else k ∷ l) (unmarked_filter ks ms) ∙ swap (is_some (find k ms)) (filter (without ms) ks) where
  swap : (b : Bool) (l : List Key) → (if b then l else k ∷ l) ≡ (if not b then k ∷ l else l)
  swap true l = refl
  swap false l = refl

unmarked_ascends : (ks : List Key) (ms : List Marked) → IsStrictlySortedBy key_cmp ks → IsStrictlySortedBy key_cmp (unmarked ks ms)
unmarked_ascends ks ms s = subst (IsStrictlySortedBy key_cmp) (sym (unmarked_filter ks ms)) (IsStrictlySortedBy-filter key_cmp (without ms) ks s)

unmarked_holds : (k : Key) (ks : List Key) (ms : List Marked) → holds k (unmarked ks ms) ≡ (holds k ks && without ms k)
unmarked_holds k ks ms = ap (holds k) (unmarked_filter ks ms) ∙ holds-filter k (without ms) ks

-- ---- tests

three : (a b c : Bool) → (a || b || c) ≡ (a || (b || c))
three true true c = refl
three true false c = refl
three false true c = refl
three false false c = refl

and_first : (a b : Bool) → (a && b) ≡ true → a ≡ true
and_first true b e = refl
and_first false b e = absurd (let bad : false ≡ true = e in cc)

not_false : (a b : Bool) → (not a && b) ≡ true → a ≡ false
not_false true b e = absurd (let bad : false ≡ true = e in cc)
not_false false b e = refl

or_no : (b : Bool) → (b || false) ≡ b
or_no true = refl
or_no false = refl

and_no : (b : Bool) → (b && false) ≡ false
and_no true = refl
and_no false = refl

or_parts : (a b : Bool) → (a || b) ≡ false → (a ≡ false) × (b ≡ false)
or_parts true b e = absurd (let bad : true ≡ false = e in cc)
or_parts false b e = (refl, e)

either : {P : Type 0} (b : Bool) → (b ≡ true → P) → (b ≡ false → P) → P
either true f g = f refl
either false f g = g refl

module _ (g : Rules) (c : ℕ) (h : List Change) where
  -- a feed's mark of a net
  abbrev fresh : Bool → Key → Option Marked → Mark
  fresh due k old = record { at = length h; candidate = candidate g c k (front (length h) h); due = due || was_due old }

  mark_fed : (k : Key) (ks : List Key) (due : Bool) (ms : List Marked) → option_map (mark_of g c h k) (find k (put_all ks (length h) due ms)) ≡ (if holds k ks then Some (fresh due k (find k ms)) else option_map (mark_of g c h k) (find k ms))
  mark_fed k ks due ms = elim (holds k ks) as (λ b. holds k ks ≡ b → option_map (mark_of g c h k) (find k (put_all ks (length h) due ms)) ≡ (if b then Some (fresh due k (find k ms)) else option_map (mark_of g c h k) (find k ms))) [
    | true ↦ λ e. let p = find_in k ks (length h) due ms e in
        ap (option_map (mark_of g c h k)) p.there
        ∙ ap Some (mark_same p.mark.at (length h) (candidate g c k (front p.mark.at h)) (candidate g c k (front (length h) h)) p.mark.due (due || was_due (find k ms)) p.at_is (ap (λ n. candidate g c k (front n h)) p.at_is) p.due_is)
    | false ↦ λ e. ap (option_map (mark_of g c h k)) (find_out k ks (length h) due ms e)
  ] refl

-- what a feed marks stands at the head
fed_within : (head : ℕ) (due : Bool) (keys : List Key) (ch : Channel) → is_open ch ≡ true → IsWithin head ch → IsWithin head (fed keys due head ch)
fed_within head due keys ch up w = record {
  once = once_all keys head due ch.marks w.once;
  idle = λ shut. absurd (let bad : true ≡ false = sym up ∙ shut in cc);
  read = λ _. ((w.read up).0, le_refl head);
  marks = λ k x e. elim (holds k keys) as (λ b. holds k keys ≡ b → x.at ≤ head) [
    | true ↦ λ is. let p = find_in k keys head due ch.marks is in let same : p.mark ≡ x = some_same (sym p.there ∙ e) in subst (λ (y : Marked). y.at ≤ head) same (omega (arith, p.at_is))
    | false ↦ λ is. w.marks k x (sym (find_out k keys head due ch.marks is) ∙ e)
  ] refl;
}

module _ {J : Type 0} (verdict : J → Net → Route → Verdict) (g : Rules) (c : ℕ) (h : List Change) where
  -- ---- the beginnings of feeds, and the end of a stretch

  pub up_matches : (e : State J) (ch : Channel) → Matches verdict g c h e ch → MatchesFed verdict g c h false [] (calls.begun (length h) e) (opened (length h) ch)
  unfolding IsStrictlySortedBy
  up_matches e ch m = record {
    up = refl;
    within = record { once = tt; idle = λ _. refl; read = λ _. (le_refl (length h), le_refl (length h)); marks = λ k x none. absurd (none_some none) };
    resembles = record {
      spec = m.like.resembles.spec;
      value = m.like.resembles.value;
      position = refl;
      order = refl;
      marks = λ k. refl;
      log = reverse-append e.log (Up (length h) ∷ []) ∙ ap (λ l. Up (length h) ∷ l) m.like.resembles.log;
    };
    read = λ k. omega arith;
    rest = refl;
    refresh = refl;
    ascend = tt;
    are = λ k. refl;
  }

  pub refresh_matches : (e : State J) (ch : Channel) → is_open ch ≡ true → Matches verdict g c h e ch → MatchesFed verdict g c h true [] (calls.refreshed e) (renewed ch)
  unfolding IsStrictlySortedBy
  refresh_matches e ch up all = let m = all.like in record {
    up = up;
    within = record { once = m.within.once; idle = m.within.idle; read = m.within.read; marks = m.within.marks };
    resembles = record {
      spec = m.resembles.spec;
      value = m.resembles.value;
      position = m.resembles.position;
      order = m.resembles.order;
      marks = m.resembles.marks;
      log = reverse-append e.log (Reload ∷ []) ∙ ap (λ l. Reload ∷ l) m.resembles.log;
    };
    read = λ k. m.read k;
    rest = all.rest;
    refresh = refl;
    ascend = tt;
    are = λ k. refl;
  }

  -- the end of a stretch, whatever is left of what stood
  pub down_like : (e : State J) (ch : Channel) → MatchesRead verdict g c h e ch → Matches verdict g c h (calls.ended e) (closed ch)
  down_like e ch m = record {
    like = record {
      within = record { once = tt; idle = λ _. refl; read = λ up. absurd (let bad : false ≡ true = up in cc); marks = λ k x none. absurd (none_some none) };
      resembles = record {
        spec = m.resembles.spec;
        value = m.resembles.value;
        position = m.resembles.position;
        order = refl;
        marks = λ k. refl;
        log = reverse-append e.log (Down ∷ []) ∙ ap (λ l. Down ∷ l) m.resembles.log;
      };
      read = m.read;
      feed = refl;
    };
    rest = refl;
  }

  pub down_matches : (e : State J) (ch : Channel) → Matches verdict g c h e ch → Matches verdict g c h (calls.ended e) (closed ch)
  down_matches e ch m = down_like e ch m.like

  -- ---- the end of a feed

  pub feed_matches : (due : Bool) (keys : List Key) (e : State J) (ch : Channel) → e.feed ≡ Done → MatchesFed verdict g c h due keys e ch
      → IsFed g c h due ch (fed keys due (length h) ch) × Matches verdict g c h e (fed keys due (length h) ch)
  feed_matches due keys e ch done m = let low = m.within.read m.up in (
    (keys, record { ascend = m.ascend; are = λ k. m.are k ∙ ap (λ f. not (is_ahead f k) && is_wanted verdict g c h ch k) done }, refl),
    record {
      like = record { within = fed_within (length h) due keys ch m.up m.within; resembles = m.resembles; read = λ k. m.read k ∙ ap (λ f. if is_ahead f k then max ch.position ch.floor else max (max ch.position ch.floor) (length h)) done ∙ omega (arith, low.0, low.1); feed = done };
      rest = m.rest;
    },
  )

  -- ---- a chunk

  module _ (due : Bool) (keys : List Key) (chunk : Chunk) (e e' : State J) (ch : Channel) (m : MatchesFed verdict g c h due keys e ch) (was : e.feed ≡ From chunk.from) (is : IsHeadChunk g c e.spec h chunk) (t : Feeds chunk e e') where
    abbrev wanted : Key → Bool
    wanted k = is_wanted verdict g c h ch k

    abbrev over : Key → Bool
    over k = covers (floor_of chunk) k

    abbrev now : Key → Bool
    now k = not (is_ahead e'.feed k) && wanted k

    -- in the chunk's range
    ahead_before : (k : Key) → over k ≡ true → is_ahead e.feed k ≡ true
    ahead_before k o = ap (λ f. is_ahead f k) was ∙ (ahead_in chunk.from chunk.upto chunk.at k o).0

    passed_after : (k : Key) → over k ≡ true → is_ahead e'.feed k ≡ false
    passed_after k o = ap (λ f. is_ahead f k) t.feed ∙ (ahead_in chunk.from chunk.upto chunk.at k o).1

    not_yet : (k : Key) → over k ≡ true → holds k keys ≡ false
    not_yet k o = m.are k ∙ ap (λ b. not b && wanted k) (ahead_before k o)

    old_mark : (k : Key) → over k ≡ true → exporter.find k e.marks ≡ option_map (mark_of g c h k) (find k ch.marks)
    old_mark k o = m.resembles.marks k ∙ mark_fed g c h k keys due ch.marks ∙ if_false (holds k keys) (Some (fresh g c h due k (find k ch.marks))) (option_map (mark_of g c h k) (find k ch.marks)) (not_yet k o)

    now_in : (k : Key) → over k ≡ true → now k ≡ wanted k
    now_in k o = ap (λ b. not b && wanted k) (passed_after k o)

    chosen_in : (k : Key) → over k ≡ true → is_chosen chunk e k ≡ wanted k
    chosen_in k o =
        let a = is_some (best_in e.spec k chunk.rows) in
        let b = is_some (exporter.find k e.marks) in
        let d = is_some (standing_at k e.log) in
        ap (λ x. x && (a || b || d)) o ∙ three a b d
        ∙ ap (λ o. is_some o || (b || d)) (is.best k o)
        ∙ ap (λ x. is_some (candidate g c k h) || (x || d)) (ap (λ o. is_some o) (old_mark k o) ∙ some_mark g c h k (find k ch.marks))
        ∙ ap (λ l. is_some (candidate g c k h) || (is_some (find k ch.marks) || is_some (value_of (account k l)))) m.resembles.log

    -- outside of it
    same_ahead : (k : Key) → over k ≡ false → is_ahead e'.feed k ≡ is_ahead e.feed k
    same_ahead k o = ap (λ f. is_ahead f k) t.feed ∙ ahead_out chunk.from chunk.upto chunk.at k is.range.forward o ∙ ap (λ f. is_ahead f k) (sym was)

    now_out : (k : Key) → over k ≡ false → now k ≡ holds k keys
    now_out k o = ap (λ b. not b && wanted k) (same_ahead k o) ∙ sym (m.are k)

    chosen_out : (k : Key) → over k ≡ false → is_chosen chunk e k ≡ false
    chosen_out k o = ap (λ x. x && (is_some (best_in e.spec k chunk.rows) || is_some (exporter.find k e.marks) || is_some (standing_at k e.log))) o

    added_in : (k : Key) → over k ≡ true → holds k t.order.0 ≡ (wanted k && without ch.marks k)
    added_in k o = t.order.2.are k ∙ ap (λ b. b && not (is_some (exporter.find k e.marks))) (chosen_in k o) ∙ ap (λ b. wanted k && not b) (ap (λ o. is_some o) (old_mark k o) ∙ some_mark g c h k (find k ch.marks))

    added_out : (k : Key) → over k ≡ false → holds k t.order.0 ≡ false
    added_out k o = t.order.2.are k ∙ ap (λ b. b && not (is_some (exporter.find k e.marks))) (chosen_out k o)

    -- the keys that have been fed now
    abbrev all : List Key
    all = keys ++ (marked_keys ch.marks ++ t.order.0)

    abbrev more : List Key
    more = chosen now all

    wanted_no : (k : Key) → find k ch.marks ≡ None → (wanted k && without ch.marks k) ≡ false → wanted k ≡ false
    wanted_no k none f = sym (and_yes (wanted k)) ∙ ap (λ b. wanted k && not b) (sym (ap (λ o. is_some o) none)) ∙ f where
      and_yes : (b : Bool) → (b && true) ≡ b
      and_yes true = refl
      and_yes false = refl

    more_are : (k : Key) → holds k more ≡ now k
    more_are k = choice now all (λ k none.
        let p = held_append k keys (marked_keys ch.marks ++ t.order.0) none in
        let q = held_append k (marked_keys ch.marks) t.order.0 p.1 in
        either (over k)
        (λ o. now_in k o ∙ wanted_no k (find_none k ch.marks q.0) (sym (added_in k o) ∙ q.1))
        (λ o. now_out k o ∙ p.0)) k

    marks_more : (k : Key) → exporter.find k e'.marks ≡ option_map (mark_of g c h k) (find k (put_all more (length h) due ch.marks))
    marks_more k =
        let old = find k ch.marks in
        let new : Mark = record { at = chunk.at; candidate = best_in e.spec k chunk.rows; due = e.refreshing } in
        t.marks k ∙ either (over k)
        (λ o. ap (λ b. if b then Some (joined (exporter.find k e.marks) new) else exporter.find k e.marks) (chosen_in k o)
        ∙ elim (wanted k) as (λ b. (if b then Some (joined (exporter.find k e.marks) new) else exporter.find k e.marks) ≡ (if b then Some (fresh g c h due k old) else option_map (mark_of g c h k) old)) [
          | true ↦ ap Some (mark_same chunk.at (length h) (best_in e.spec k chunk.rows) (candidate g c k (front (length h) h)) (e.refreshing || is_due (exporter.find k e.marks)) (due || was_due old) is.at
              (is.best k o ∙ ap (candidate g c k) (sym (front_all h)))
              (ap (λ b. b || is_due (exporter.find k e.marks)) m.refresh ∙ ap (λ o. due || is_due o) (old_mark k o) ∙ ap (λ b. due || b) (due_mark g c h k old)))
          | false ↦ old_mark k o
        ]
        ∙ ap (λ b. if b then Some (fresh g c h due k old) else option_map (mark_of g c h k) old) (sym (more_are k ∙ now_in k o)))
        (λ o. ap (λ b. if b then Some (joined (exporter.find k e.marks) new) else exporter.find k e.marks) (chosen_out k o)
        ∙ m.resembles.marks k ∙ mark_fed g c h k keys due ch.marks
        ∙ ap (λ b. if b then Some (fresh g c h due k old) else option_map (mark_of g c h k) old) (sym (more_are k ∙ now_out k o)))
        ∙ sym (mark_fed g c h k more due ch.marks)

    order_more : unmarked more ch.marks ≡ unmarked keys ch.marks ++ t.order.0
    order_more = ascending_one (unmarked more ch.marks) (unmarked keys ch.marks ++ t.order.0) (unmarked_ascends more ch.marks (chosen_ascends now all))
        (append_ascends (unmarked keys ch.marks) t.order.0 (unmarked_ascends keys ch.marks m.ascend) t.order.2.ascend before)
        (λ k. unmarked_holds k more ch.marks ∙ ap (λ b. b && without ch.marks k) (more_are k) ∙ either (over k)
        (λ o. ap (λ b. b && without ch.marks k) (now_in k o) ∙ sym (added_in k o) ∙ ap (λ b. (b && without ch.marks k) || holds k t.order.0) (sym (not_yet k o)) ∙ ap (λ b. b || holds k t.order.0) (sym (unmarked_holds k keys ch.marks)) ∙ sym (append_holds k (unmarked keys ch.marks) t.order.0))
        (λ o. ap (λ b. b && without ch.marks k) (now_out k o) ∙ sym (unmarked_holds k keys ch.marks) ∙ sym (or_no (holds k (unmarked keys ch.marks))) ∙ ap (λ b. holds k (unmarked keys ch.marks) || b) (sym (added_out k o)) ∙ sym (append_holds k (unmarked keys ch.marks) t.order.0))) where
          before : (a b : Key) → holds a (unmarked keys ch.marks) ≡ true → holds b t.order.0 ≡ true → comes_before a b ≡ true
          before a b ha hb =
              let in_keys : holds a keys ≡ true = and_first (holds a keys) (without ch.marks a) (sym (unmarked_holds a keys ch.marks) ∙ ha) in
              let passed_a : is_ahead e.feed a ≡ false = not_false (is_ahead e.feed a) (wanted a) (sym (m.are a) ∙ in_keys) in
              let over_b : over b ≡ true = and_first (over b) (is_some (best_in e.spec b chunk.rows) || is_some (exporter.find b e.marks) || is_some (standing_at b e.log))
              (and_first (is_chosen chunk e b) (not (is_some (exporter.find b e.marks))) (sym (t.order.2.are b) ∙ hb)) in
              by_net a b (fed_before chunk.from a.net b.net (ap (λ f. is_ahead f a) (sym was) ∙ passed_a) (and_first (is_from chunk.from b.net) (is_below chunk.upto b.net) over_b))

    pub chunk_matches : (more : List Key) × MatchesFed verdict g c h due more e' ch
    chunk_matches = (
      more,
      record {
        up = m.up;
        within = m.within;
        resembles = record {
          spec = kept_spec verdict g c h e e' t.spec m.resembles.spec;
          value = kept_value verdict g c h e e' t.spec t.judge m.resembles.value;
          position = t.position ∙ m.resembles.position;
          order = t.order.1 ∙ ap (λ l. l ++ t.order.0) (m.resembles.order ∙ keys_put_all keys (length h) due ch.marks m.ascend)
              ∙ append_assoc (marked_keys ch.marks) (unmarked keys ch.marks) t.order.0 ∙ ap (λ l. marked_keys ch.marks ++ l) (sym order_more)
              ∙ sym (keys_put_all more (length h) due ch.marks (chosen_ascends now all));
          marks = marks_more;
          log = ap reverse t.log ∙ m.resembles.log;
        };
        read = λ k. t.read k ∙ either (over k)
            (λ o. if_true (over k) (max chunk.at (reach_of e k)) (reach_of e k) o
            ∙ ap (λ n. max n (reach_of e k)) is.at ∙ ap (λ n. max (length h) n) (m.read k ∙ if_true (is_ahead e.feed k) (max ch.position ch.floor) (max (max ch.position ch.floor) (length h)) (ahead_before k o))
            ∙ (let swap : max (length h) (max ch.position ch.floor) ≡ max (max ch.position ch.floor) (length h) = omega arith in swap)
            ∙ sym (if_false (is_ahead e'.feed k) (max ch.position ch.floor) (max (max ch.position ch.floor) (length h)) (passed_after k o)))
            (λ o. if_false (over k) (max chunk.at (reach_of e k)) (reach_of e k) o ∙ m.read k ∙ ap (λ b. if b then max ch.position ch.floor else max (max ch.position ch.floor) (length h)) (sym (same_ahead k o)));
        rest = t.flushing ∙ m.rest;
        refresh = t.refreshing ∙ m.refresh;
        ascend = chosen_ascends now all;
        are = more_are;
      },
    )

-- ---- the withdrawals of what stands

module _ {J : Type 0} (verdict : J → Net → Route → Verdict) (g : Rules) (c : ℕ) (h : List Change) where
  pub flush_begins : (e : State J) (ch : Channel) → AreStanding e.log e.left → Matches verdict g c h e ch → MatchesFlushed verdict g c h (standing_keys ch.log) e ch
  flush_begins e ch are m = record {
    like = m.like;
    left = ascending_one e.left (standing_keys ch.log) are.ascend (standing_ascends ch.log)
        (λ k. are.are k ∙ ap (λ l. is_some (value_of (account k l))) m.like.resembles.log ∙ sym (standing_told k ch.log));
  }

  pub flush_goes_on : (keys : List Key) (x : Sending) (e e' : State J) (ch : Channel) → Flushes x e e' → MatchesFlushed verdict g c h keys e ch
      → (x.value ≡ None) × (left : List Key) × (keys ≡ x.key ∷ left) × MatchesFlushed verdict g c h left e' ch
  flush_goes_on keys x e e' ch f m = (
    f.value,
    e'.left,
    sym m.left ∙ f.left,
    record {
      like = record {
        within = m.like.within;
        resembles = record {
          spec = kept_spec verdict g c h e e' f.spec m.like.resembles.spec;
          value = kept_value verdict g c h e e' f.spec f.judge m.like.resembles.value;
          position = f.position ∙ m.like.resembles.position;
          order = ap keys_of f.marks ∙ m.like.resembles.order;
          marks = λ k. ap (exporter.find k) f.marks ∙ m.like.resembles.marks k;
          log = ap reverse f.log ∙ m.like.resembles.log;
        };
        read = λ k. ap (λ n. reach n e'.floors k) f.position ∙ ap (λ fs. reach e.position fs k) f.floors ∙ m.like.read k;
        feed = f.feed ∙ m.like.feed;
      };
      left = refl;
    },
  )

  pub flush_ends : (keys : List Key) (told told' : Option (List Sending)) (e e' : State J) (ch : Channel) → FlushesBy e e' told told' answers.Nothing → MatchesFlushed verdict g c h keys e ch → keys ≡ []
  flush_ends keys told told' e e' ch f m = sym m.left ∙ f.0

  pub flushed_down : (keys : List Key) (e : State J) (ch : Channel) → MatchesFlushed verdict g c h keys e ch → Matches verdict g c h (calls.ended e) (closed ch)
  flushed_down keys e ch m = down_like verdict g c h e ch m.like

  pub flushed_longer : (x : Change) (keys : List Key) (e : State J) (ch : Channel) → MatchesFlushed verdict g c h keys e ch → MatchesFlushed verdict g c (x ∷ h) keys e ch
  flushed_longer x keys e ch m = record { like = longer_read verdict g c h x e ch m.like; left = m.left }
