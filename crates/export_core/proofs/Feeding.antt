-- A chunk: which nets it marks, and that it keeps what the exporter stands for.
use Rattle.std.proofs.Common.{◌≡◌, ℕ, ◌+◌, ◌<◌, ◌≤◌, inl, inr, Bool, true, false, not, List, [], ◌∷◌, ◌++◌, reverse, Option, Some, None, refl, sym, ◌∙◌, ap, subst, arith, cond, is_some, option_map, option_and_then, get_or, length, drop, map}
use Rattle.std.specs.Prelude.{◌==◌, ◌||◌, ◌&&◌, if◌then◌else◌, slice_get}
use Rattle.std.specs.List.Sorted.{IsStrictlySortedBy}
use Rattle.std.specs.Map.{keys_of}
use Rattle.std.specs.Map.Iter.{deref_pair}
use denote.Bor.{Bor}
use Rattle.std.specs.BTreeMap.Range.{entries_between}
use Rattle.std.proofs.lemmas.Grind.{fold-append}
use Rattle.std.proofs.lemmas.List.{drop_more, map-append}
use Rattle.std.proofs.lemmas.List.Kept.{IsStrictlySortedBy-filter}
use Rattle.bits_ip.specs.Prefix.{Net, precedes, same_net}
use Rattle.export_core.specs.Keys.{key_cmp, same_key}
use Rattle.export_core.specs.declared.log.Key.{Key}
use Rattle.attrs.specs.declared.attributes.Attrs.{Attrs}
use Rattle.attrs.specs.declared.journal.Chunk.{Chunk}
use Rattle.attrs.specs.declared.judge.Verdict.{Verdict}
use Rattle.attrs.specs.declared.route.Route.{Route}
use Rattle.attrs.specs.declared.route.Row.{Row}
use Rattle.export_core.specs.declared.passing.ExportSpec.{ExportSpec}
use Rattle.export_core.specs.declared.floors.FeedState.TheVariants.{From}
use Rattle.export_core.specs.declared.floors.Floor.{Floor}
use Rattle.export_core.specs.declared.marks.Mark.{Mark}
use Rattle.export_core.specs.Calls.{Feeds, AreAdded, is_chosen}
use Rattle.export_core.specs.Candidates.{AddsNone, IsChunk, best_in, candidate_of, first_of, told_first, covers, end_bound, first_bound, floor_of, is_from}
use Rattle.export_core.specs.Lanes.{IsLane, tally}
use Rattle.export_core.specs.Logs.{Course, stretch, reloads, account}
use Rattle.export_core.specs.Marks.{at, find, holds, is_due, joined, unmarked_of, with_candidate}
use Rattle.export_core.specs.Standing.{standing_at}
use Rattle.export_core.specs.States.{State, Stands, StandsFor, value_for, lane_of, reach, reach_of, higher, is_ahead, IsChunkAt, feed_after}
use Rattle.export_core.proofs.LaneSteps.{lane-read, lane-marked, lane-passed}
use Rattle.export_core.proofs.MarkLists.{Writes, written, holds-push, holds-filter}
use Rattle.export_core.proofs.Keys.{key_tells, take_if, skip_if, holds-keys_of, at_between}
use Rattle.export_core.proofs.Nets.{before_first, net_tells}
use Rattle.export_core.proofs.Keys.{same_key_itself}
use Rattle.attrs.proofs.Nets.{same_net_itself}
use Rattle.std.proofs.lemmas.Bool.Decides.{eqb_tells}
use Rattle.export_core.proofs.Taking.{same_value}

-- the candidates that the rows give, from the last row on

told_map : (o : Option Route) (p : Option Route) → told_first o (option_map (λ r. Some r) p) ≡ option_map (λ r. Some r) (first_of o p)
told_map None p = refl
told_map (Some r) p = refl

map_if : (b : Bool) (x y : Option Route) (o : Option (Option Route)) → o ≡ option_map (λ r. Some r) y → (if b then told_first x o else o) ≡ option_map (λ r. Some r) (if b then first_of x y else y)
map_if true x y o e = ap (told_first x) e ∙ told_map x y
map_if false x y o e = e

-- one more row is among the candidates
pub rows_step : (spec : ExportSpec) (q : Key) (rows : List Row) (i : ℕ) (d : Row) (old new : List (Key × Option Route)) → i < length rows
    → at q old ≡ option_map (λ r. Some r) (best_in spec q (drop (i + 1) rows))
    → at q new ≡ (if same_net q.net (get_or rows i d).net then told_first (candidate_of spec q.num (get_or rows i d).routes) (at q old) else at q old)
    → at q new ≡ option_map (λ r. Some r) (best_in spec q (drop i rows))
rows_step spec q rows i d old new lt was put =
    let row = get_or rows i d in
    put ∙ map_if (same_net q.net row.net) (candidate_of spec q.num row.routes) (best_in spec q (drop (i + 1) rows)) (at q old) was
    ∙ ap (λ (rs : List Row). option_map (λ (r : Route). Some r) (best_in spec q rs)) (sym (drop_more rows i d lt))

if_yes : {X : Type 0} (b : Bool) (x y : X) → b ≡ true → (if b then x else y) ≡ x
if_yes b x y e = rw e refl

if_no : {X : Type 0} (b : Bool) (x y : X) → b ≡ false → (if b then x else y) ≡ y
if_no b x y e = rw e refl

-- the best route of a net is its candidate
pub best_put : (net : Net) (r : Route) (routes : List Route) (old new : List (Key × Option Route)) → slice_get routes 0 ≡ Some r → Writes (record { net = net; num = 0 }) (Some (Some r)) old new
    → (q : Key) → at q new ≡ (if same_net q.net net then told_first (if q.num == 0 then slice_get routes 0 else None) (at q old) else at q old)
best_put net r routes old new first writes q =
    let k : Key = record { net = net; num = 0 } in
    elim (key_tells k q) [
      | inl w ↦ subst (λ (q : Key). at q new ≡ (if same_net q.net net then told_first (if q.num == 0 then slice_get routes 0 else None) (at q old) else at q old)) w.1
          (take_if _ (written k (Some (Some r)) old new writes k) (same_key_itself k) ∙ ap (λ o. told_first o (at k old)) (sym first) ∙ sym (if_yes (same_net net net) (told_first (slice_get routes 0) (at k old)) (at k old) (same_net_itself net)))
      | inr w ↦ skip_if _ (written k (Some (Some r)) old new writes q) w.0 ∙ elim (net_tells q.net net) [
        | inl v ↦ elim (eqb_tells q.num 0) [
          | inl z ↦ absurd (w.1 (λ i. record { net = sym v.1 i; num = sym z.1 i }))
          | inr z ↦ sym (if_yes (same_net q.net net) (told_first (if q.num == 0 then slice_get routes 0 else None) (at q old)) (at q old) v.0 ∙ ap (λ b. told_first (if b then slice_get routes 0 else None) (at q old)) z.0)
        ]
        | inr v ↦ sym (if_no (same_net q.net net) (told_first (if q.num == 0 then slice_get routes 0 else None) (at q old)) (at q old) v.0)
      ]
    ]

-- nets that are added with no candidate

pub none_added : (asked : Bool) (k : Key) (old new : List (Key × Option Route)) → asked ≡ true → is_some (at k old) ≡ false → Writes k (Some None) old new → AddsNone (λ q. asked && same_key k q) old new
none_added asked k old new ask missing writes q = elim (key_tells k q) [
  | inl w ↦ take_if _ (written k (Some None) old new writes q) w.0 ∙ sym (none_there (at q old) (asked && same_key k q) (subst (λ n. is_some (at n old) ≡ false) w.1 missing) (both_true asked (same_key k q) ask w.0))
  | inr w ↦ skip_if _ (written k (Some None) old new writes q) w.0 ∙ sym (not_asked (at q old) (asked && same_key k q) (second_false asked (same_key k q) w.0))
] where
  none_there : (o : Option (Option Route)) (b : Bool) → is_some o ≡ false → b ≡ true → (if is_some o then o else (if b then Some None else None)) ≡ Some None
  none_there None b e f = rw f refl
  none_there (Some x) b e f = absurd (let bad : true ≡ false = e in cc)

  not_asked : (o : Option (Option Route)) (b : Bool) → b ≡ false → (if is_some o then o else (if b then Some None else None)) ≡ o
  not_asked None b f = rw f refl
  not_asked (Some x) b f = refl

  both_true : (a b : Bool) → a ≡ true → b ≡ true → (a && b) ≡ true
  both_true a b e f = rw (e, f) refl

  second_false : (a b : Bool) → b ≡ false → (a && b) ≡ false
  second_false true b f = f
  second_false false b f = refl

pub none_kept : (asked there : Bool) (k : Key) (es : List (Key × Option Route)) → (asked && not there) ≡ false → there ≡ is_some (at k es) → AddsNone (λ q. asked && same_key k q) es es
none_kept asked there k es not_both e q = sym (by_case (at q es) (asked && same_key k q) (λ missing yes. elim (key_tells k q) [
  | inl w ↦ let gone : there ≡ false = e ∙ subst (λ n. is_some (at n es) ≡ false) (sym w.1) missing in let ask : asked ≡ true = first_true asked (same_key k q) yes in absurd (let bad : false ≡ true = sym not_both ∙ rw (gone, ask) refl in cc)
  | inr w ↦ absurd (let bad : false ≡ true = sym w.0 ∙ second_true asked (same_key k q) yes in cc)
])) where
  first_true : (a b : Bool) → (a && b) ≡ true → a ≡ true
  first_true true b f = refl
  first_true false b f = absurd (let bad : false ≡ true = f in cc)

  second_true : (a b : Bool) → (a && b) ≡ true → b ≡ true
  second_true true b f = f
  second_true false b f = absurd (let bad : false ≡ true = f in cc)

  by_case : (o : Option (Option Route)) (b : Bool) → (is_some o ≡ false → b ≡ true → ⊥) → (if is_some o then o else (if b then Some None else None)) ≡ o
  by_case (Some x) b f = refl
  by_case None false f = refl
  by_case None true f = absurd (f refl refl)

pub adds_one : (o mid new : Option (Option Route)) (t t' s : Bool) → mid ≡ (if is_some o then o else (if t then Some None else None)) → new ≡ (if is_some mid then mid else (if s then Some None else None)) → t' ≡ (t || s) → new ≡ (if is_some o then o else (if t' then Some None else None))
adds_one (Some x) mid new t t' s em en et = en ∙ rw em refl
adds_one None mid new true t' s em en et = en ∙ rw (em, et) refl
adds_one None mid new false t' s em en et = en ∙ rw (em, et) refl

spread : (a b c : Bool) → (a && (b || c)) ≡ ((a && b) || (a && c))
spread true b c = refl
spread false b c = refl

-- one more net is added
pub adds_next : (asked : Key → Bool) (k : Key) (keys keys' : List Key) (old mid new : List (Key × Option Route)) → AddsNone (λ q. asked q && holds q keys) old mid → AddsNone (λ q. asked k && same_key k q) mid new → keys' ≡ keys ++ k ∷ [] → AddsNone (λ q. asked q && holds q keys') old new
adds_next asked k keys keys' old mid new a b e q =
    let same : (asked k && same_key k q) ≡ (asked q && same_key k q) = elim (key_tells k q) [ inl w ↦ ap (λ n. asked n && same_key k q) w.1 | inr w ↦ rw w.0 (both_false (asked k) (asked q)) ] in
    adds_one (at q old) (at q mid) (at q new) (asked q && holds q keys) (asked q && holds q keys') (asked k && same_key k q) (a q) (b q)
    (rw (e, holds-push q k keys) (spread (asked q) (holds q keys) (same_key k q)) ∙ ap (λ s. (asked q && holds q keys) || s) (sym same)) where
      both_false : (a b : Bool) → (a && false) ≡ (b && false)
      both_false true true = refl
      both_false true false = refl
      both_false false true = refl
      both_false false false = refl

-- all nets in the range have been asked
pub adds_all : {X : Type 0} (f : Floor) (asked : Key → Bool) (es : List (Key × X)) (keys : List Key) (old new : List (Key × Option Route)) → keys ≡ keys_of (entries_between key_cmp (first_bound f.from) (end_bound f.upto) es)
    → ((q : Key) → asked q ≡ true → is_some (at q es) ≡ true) → AddsNone (λ q. asked q && holds q keys) old new → AddsNone (λ q. covers f q && asked q) old new
adds_all f asked es keys old new e there a q =
    let held : holds q keys ≡ is_some (cond (covers f q) (at q es) None) = ap (λ ks. holds q ks) e ∙ holds-keys_of q (entries_between key_cmp (first_bound f.from) (end_bound f.upto) es) ∙ ap (λ o. is_some o) (at_between f q es) in
    a q ∙ ap (λ (b : Bool). if is_some (at q old) then at q old else (if b then Some None else None)) (ap (λ b. asked q && b) held ∙ by_case (covers f q) (asked q) (at q es) (there q)) where
      by_case : {X : Type 0} (c a : Bool) (o : Option X) → (a ≡ true → is_some o ≡ true) → (a && is_some (cond c o None)) ≡ (c && a)
      by_case true true o t = t refl
      by_case true false o t = refl
      by_case false true o t = refl
      by_case false false o t = refl

-- what stands among the candidates: the chosen nets, each with its best route
candidate_at : (b : Bool) (row : Option Route) (marked stands : Bool) (c0 c1 c2 : Option (Option Route)) → (b ≡ false → row ≡ None) → c0 ≡ option_map (λ r. Some r) row → c1 ≡ (if is_some c0 then c0 else (if b && marked then Some None else None)) → c2 ≡ (if is_some c1 then c1 else (if b && stands then Some None else None))
    → c2 ≡ (if b && (is_some row || marked || stands) then Some row else None)
candidate_at true (Some r) marked stands c0 c1 c2 w e0 e1 e2 = e2 ∙ rw (e1, e0) refl
candidate_at true None true stands c0 c1 c2 w e0 e1 e2 = e2 ∙ rw (e1, e0) refl
candidate_at true None false true c0 c1 c2 w e0 e1 e2 = e2 ∙ rw (e1, e0) refl
candidate_at true None false false c0 c1 c2 w e0 e1 e2 = e2 ∙ rw (e1, e0) refl
candidate_at false (Some r) marked stands c0 c1 c2 w e0 e1 e2 = absurd (let bad : Some r ≡ None = w refl in cc)
candidate_at false None marked stands c0 c1 c2 w e0 e1 e2 = e2 ∙ rw (e1, e0) refl

with_if : (pos : ℕ) (due b : Bool) (row : Option Route) (old : Option Mark) → with_candidate pos due (if b then Some row else None) old ≡ (if b then Some (joined old (record { at = pos; candidate = row; due = due })) else old)
with_if pos due true row old = refl
with_if pos due false row old = refl

some_if : (b : Bool) (row : Option Route) → is_some (if b then Some row else None) ≡ b
some_if true row = refl
some_if false row = refl

pub reach_more : (p : ℕ) (k : Key) (fs : List Floor) (f : Floor) → reach p (fs ++ f ∷ []) k ≡ higher k (reach p fs k) f
reach_more p k fs f = fold-append (higher k) p fs (f ∷ [])

ahead_in : (from upto : Option Net) (pos : ℕ) (k : Key) → covers (record { from = from; upto = upto; at = pos }) k ≡ true → (is_ahead (From from) k ≡ true) × (is_ahead (feed_after upto) k ≡ false)
ahead_in from None pos k e = (first_true (is_from from k.net) true e, refl) where
  first_true : (a b : Bool) → (a && b) ≡ true → a ≡ true
  first_true true b f = refl
  first_true false b f = absurd (let bad : false ≡ true = f in cc)
ahead_in from (Some next) pos k e = by_case (is_from from k.net) (precedes k.net next) e where
  by_case : (a b : Bool) → (a && b) ≡ true → (a ≡ true) × (not b ≡ false)
  by_case true true f = (refl, refl)
  by_case true false f = absurd (let bad : false ≡ true = f in cc)
  by_case false b f = absurd (let bad : false ≡ true = f in cc)

ahead_out : (from upto : Option Net) (pos : ℕ) (k : Key) → ((next : Net) → upto ≡ Some next → is_from from next ≡ true) → covers (record { from = from; upto = upto; at = pos }) k ≡ false → is_ahead (feed_after upto) k ≡ is_ahead (From from) k
ahead_out from None pos k f e = sym (no_first (is_from from k.net) e) where
  no_first : (a : Bool) → (a && true) ≡ false → a ≡ false
  no_first true g = absurd (let bad : true ≡ false = g in cc)
  no_first false g = refl
ahead_out None (Some next) pos k f e = ap not e
ahead_out (Some first) (Some next) pos k f e = by_case (precedes k.net first) refl where
  not_true : (b : Bool) → not b ≡ true → b ≡ false
  not_true true g = absurd (let bad : false ≡ true = g in cc)
  not_true false g = refl

  rest_false : (a b : Bool) → a ≡ false → (not a && b) ≡ false → b ≡ false
  rest_false true b g h = absurd (let bad : true ≡ false = g in cc)
  rest_false false b g h = h

  by_case : (b : Bool) → precedes k.net first ≡ b → not (precedes k.net next) ≡ not (precedes k.net first)
  by_case true g = ap not (before_first k.net first next g (not_true (precedes next first) (f next refl)) ∙ sym g)
  by_case false g = ap not (rest_false (precedes k.net first) (precedes k.net next) g e ∙ sym g)

higher_in : (k : Key) (r : ℕ) (f : Floor) → covers f k ≡ true → r ≤ f.at → higher k r f ≡ f.at
higher_in k r f e up = rw e (omega arith)

higher_out : (k : Key) (r : ℕ) (f : Floor) → covers f k ≡ false → higher k r f ≡ r
higher_out k r f e = rw e refl

due_more : (a b coming : Bool) → coming ≡ b → (tally (b || a) + tally false ≤ tally a + tally coming) × ((b || a) ≡ false → (a ≡ false) × (coming ≡ false))
due_more true true coming e = rw e (omega arith, λ d. absurd (let bad : true ≡ false = d in cc))
due_more true false coming e = rw e (omega arith, λ d. absurd (let bad : true ≡ false = d in cc))
due_more false true coming e = rw e (omega arith, λ d. absurd (let bad : true ≡ false = d in cc))
due_more false false coming e = rw e (omega arith, λ d. (refl, refl))

none_chosen : (row : Option Route) (mark : Option Mark) (value : Option Attrs) → (true && (is_some row || is_some mark || is_some value)) ≡ false → (row ≡ None) × (mark ≡ None) × (value ≡ None)
none_chosen None None None e = (refl, refl, refl)
none_chosen (Some r) mark value e = absurd (let bad : true ≡ false = e in cc)
none_chosen None (Some m) value e = absurd (let bad : true ≡ false = e in cc)
none_chosen None None (Some v) e = absurd (let bad : true ≡ false = e in cc)

chosen_out : (b : Bool) (x y : Option Mark) → b ≡ false → (if b then x else y) ≡ y
chosen_out b x y e = rw e refl

chosen_in : (b : Bool) (x y : Option Mark) → b ≡ true → (if b then x else y) ≡ x
chosen_in b x y e = rw e refl

out_false : (a b : Bool) → a ≡ false → (a && b) ≡ false
out_false a b e = rw e refl

either : {P : Type 0} (b : Bool) → (b ≡ true → P) → (b ≡ false → P) → P
either true f g = f refl
either false f g = g refl

module _ {J : Type 0} where
  -- what the calls inside of a feed's turn give
  pub record Turns (chunk : Chunk) (stands : Key → Bool) (e e' : State J) : Type 0 where
    pub spec : e'.spec ≡ e.spec
    pub judge : e'.judge ≡ e.judge
    pub log : e'.log ≡ e.log
    pub position : e'.position ≡ e.position
    pub refreshing : e'.refreshing ≡ e.refreshing
    pub flushing : e'.flushing ≡ e.flushing
    pub left : e'.left ≡ e.left
    pub feed : e'.feed ≡ feed_after chunk.upto
    pub floors : e'.floors ≡ e.floors ++ floor_of chunk ∷ []
    pub chunk_is : IsChunk e.spec chunk
    pub stands_are : (k : Key) → stands k ≡ is_some (standing_at k e.log)
    pub rows : List (Key × Option Route)
    pub with_marks : List (Key × Option Route)
    pub with_sent : List (Key × Option Route)
    pub rows_are : (k : Key) → at k rows ≡ option_map (λ r. Some r) (best_in e.spec k chunk.rows)
    pub marks_are : AddsNone (λ k. covers (floor_of chunk) k && is_some (find k e.marks)) rows with_marks
    pub sent_are : AddsNone (λ k. covers (floor_of chunk) k && stands k) with_marks with_sent
    pub ascend : IsStrictlySortedBy key_cmp (keys_of with_sent)
    pub marks : (q : Key) → find q e'.marks ≡ with_candidate chunk.at e.refreshing (at q with_sent) (find q e.marks)
    pub order : keys_of e'.marks ≡ keys_of e.marks ++ unmarked_of e.marks (keys_of with_sent)

  chosen_at : (chunk : Chunk) (stands : Key → Bool) (e e' : State J) (t : Turns chunk stands e e') (k : Key) → at k t.with_sent ≡ (if is_chosen chunk e k then Some (best_in e.spec k chunk.rows) else None)
  chosen_at chunk stands e e' t k =
      candidate_at (covers (floor_of chunk) k) (best_in e.spec k chunk.rows) (is_some (find k e.marks)) (stands k) (at k t.rows) (at k t.with_marks) (at k t.with_sent) (t.chunk_is.within k) (t.rows_are k) (t.marks_are k) (t.sent_are k)
      ∙ ap (λ b. if covers (floor_of chunk) k && (is_some (best_in e.spec k chunk.rows) || is_some (find k e.marks) || b) then Some (best_in e.spec k chunk.rows) else None) (t.stands_are k)

  turn_marks : (chunk : Chunk) (stands : Key → Bool) (e e' : State J) → Turns chunk stands e e' → (k : Key) → find k e'.marks ≡ (if is_chosen chunk e k then Some (joined (find k e.marks) (record { at = chunk.at; candidate = best_in e.spec k chunk.rows; due = e.refreshing })) else find k e.marks)
  turn_marks chunk stands e e' t k =
      t.marks k ∙ ap (λ o. with_candidate chunk.at e.refreshing o (find k e.marks)) (chosen_at chunk stands e e' t k)
      ∙ with_if chunk.at e.refreshing (is_chosen chunk e k) (best_in e.spec k chunk.rows) (find k e.marks)

  turn_added : (chunk : Chunk) (stands : Key → Bool) (e e' : State J) (t : Turns chunk stands e e') → AreAdded chunk e (unmarked_of e.marks (keys_of t.with_sent))
  turn_added chunk stands e e' t = record {
    ascend = IsStrictlySortedBy-filter key_cmp _ (keys_of t.with_sent) t.ascend;
    are = λ k. holds-filter k _ (keys_of t.with_sent)
        ∙ ap (λ b. b && not (is_some (find k e.marks))) (holds-keys_of k t.with_sent ∙ ap (λ o. is_some o) (chosen_at chunk stands e e' t k) ∙ some_if (is_chosen chunk e k) (best_in e.spec k chunk.rows));
  }

  -- what they come to
  pub feeds_of : (chunk : Chunk) (stands : Key → Bool) (e e' : State J) → Turns chunk stands e e' → Feeds chunk e e'
  feeds_of chunk stands e e' t = record {
    spec = t.spec;
    judge = t.judge;
    log = t.log;
    position = t.position;
    refreshing = t.refreshing;
    flushing = t.flushing;
    left = t.left;
    feed = t.feed;
    read = λ k. rw (t.floors, t.position) (reach_more e.position k e.floors (floor_of chunk));
    marks = turn_marks chunk stands e e' t;
    order = (unmarked_of e.marks (keys_of t.with_sent), t.order, turn_added chunk stands e e' t);
  }

  -- the same of an equal state
  pub feeds_from : (chunk : Chunk) (e0 e e' : State J) → e0 ≡ e → Feeds chunk e0 e' → Feeds chunk e e'
  feeds_from chunk e0 e e' same t = subst (λ e. Feeds chunk e e') same t

  module _ (value : Key → Route → Option Attrs) (c : Course) (chunk : Chunk) (e e' : State J) (s : Stands value c e) (t : Feeds chunk e e') (was : e.feed ≡ From chunk.from) (later : (k : Key) → reach_of e k ≤ chunk.at) (is_chunk : IsChunk e.spec chunk) (is : IsChunkAt e.spec c chunk) (stays_up : e.flushing ≡ false) (h : ℕ) (is_open : stretch (reverse e.log) ≡ Some h) (k : Key) where
    before : IsLane value c k h (reloads (reverse e.log)) (lane_of e k)
    before = s.lanes stays_up h is_open k

    same_account : account k (reverse e'.log) ≡ account k (reverse e.log)
    same_account = ap (λ l. account k (reverse l)) t.log

    fed_out : covers (floor_of chunk) k ≡ false → IsLane value c k h (reloads (reverse e.log)) (lane_of e' k)
    fed_out out =
        let r : reach_of e' k ≡ reach_of e k = t.read k ∙ higher_out k (reach_of e k) (floor_of chunk) out in
        let a : is_ahead e'.feed k ≡ is_ahead e.feed k = rw (t.feed, was) (ahead_out chunk.from chunk.upto chunk.at k is_chunk.forward out) in
        let m : find k e'.marks ≡ find k e.marks = t.marks k ∙ chosen_out (is_chosen chunk e k) _ (find k e.marks) (out_false (covers (floor_of chunk) k) _ out) in
        lane-read value c k h (reloads (reverse e.log)) (lane_of e k) (lane_of e' k) before (omega arith) (omega (arith, before.within)) a (rw (a, t.refreshing) refl) m same_account (λ p low high. ap (c.best k) (omega arith))

    fed_in : covers (floor_of chunk) k ≡ true → IsLane value c k h (reloads (reverse e.log)) (lane_of e' k)
    fed_in over =
        let r : reach_of e' k ≡ chunk.at = t.read k ∙ higher_in k (reach_of e k) (floor_of chunk) over (later k) in
        let up : reach_of e k ≤ reach_of e' k = let l = later k in omega arith in
        let a = ahead_in chunk.from chunk.upto chunk.at k over in
        let ahead : is_ahead e.feed k ≡ true = rw was a.0 in
        let passed_by : is_ahead e'.feed k ≡ false = rw t.feed a.1 in
        let best : c.best k (reach_of e' k) ≡ best_in e.spec k chunk.rows = ap (c.best k) r ∙ is.best k over in
        let m : Mark = record { at = chunk.at; candidate = best_in e.spec k chunk.rows; due = e.refreshing } in
        let old = find k e.marks in
        let d = due_more (is_due old) e.refreshing (is_ahead e.feed k && e.refreshing) (rw ahead refl) in
        either (is_chosen chunk e k)
        (λ yes.
        let em : find k e'.marks ≡ Some (joined old m) = t.marks k ∙ chosen_in (is_chosen chunk e k) (Some (joined old m)) old yes in
        lane-marked value c k h (reloads (reverse e.log)) (lane_of e k) (lane_of e' k) (joined old m) before em (sym r) up (omega (arith, is.told)) best same_account (rw passed_by d.0) (λ due _. d.1 due))
        (λ unchosen.
        let w = none_chosen (best_in e.spec k chunk.rows) old (standing_at k e.log) (ap (λ b. b && (is_some (best_in e.spec k chunk.rows) || is_some old || is_some (standing_at k e.log))) (sym over) ∙ unchosen) in
        let em : find k e'.marks ≡ None = t.marks k ∙ chosen_out (is_chosen chunk e k) (Some (joined old m)) old unchosen ∙ w.1 in
        lane-passed value c k h (reloads (reverse e.log)) (lane_of e k) (lane_of e' k) before w.1 em w.2 (rw passed_by refl) up (omega (arith, is.told)) (best ∙ w.0) same_account)

  fed_stands : (value : Key → Route → Option Attrs) (c : Course) (chunk : Chunk) (e e' : State J) → Feeds chunk e e' → e.feed ≡ From chunk.from → ((k : Key) → reach_of e k ≤ chunk.at) → IsChunk e.spec chunk → IsChunkAt e.spec c chunk → Stands value c e → Stands value c e'
  fed_stands value c chunk e e' t was later is_chunk is s = record {
    follows = rw t.log s.follows;
    lanes = λ n h is_open k. let stays : e.flushing ≡ false = sym t.flushing ∙ n in let o : stretch (reverse e.log) ≡ Some h = rw t.log at is_open in
        subst (λ n. IsLane value c k h n (lane_of e' k)) (ap (λ l. reloads (reverse l)) (sym t.log))
        (either (covers (floor_of chunk) k) (fed_in value c chunk e e' s t was later is_chunk is stays h o k) (fed_out value c chunk e e' s t was later is_chunk is stays h o k));
  }

  -- a chunk of the history keeps that the exporter stands for it
  pub fed_stands_for : (verdict : J → Net → Route → Verdict) (c : Course) (chunk : Chunk) (e e' : State J) → Feeds chunk e e' → e.feed ≡ From chunk.from → ((k : Key) → reach_of e k ≤ chunk.at) → IsChunk e.spec chunk → IsChunkAt e.spec c chunk → StandsFor verdict c e → StandsFor verdict c e'
  fed_stands_for verdict c chunk e e' t was later is_chunk is s = subst (λ f. Stands f c e') (same_value verdict e e' t.spec t.judge) (fed_stands (value_for verdict e) c chunk e e' t was later is_chunk is s)

-- the keys of one more entry
pub keys_more : {X : Type 0} (entries : List (Bor Key × Bor X)) (entry : Bor Key × Bor X) → keys_of (map deref_pair (entries ++ entry ∷ [])) ≡ keys_of (map deref_pair entries) ++ entry.0.now ∷ []
keys_more entries entry = ap keys_of (map-append deref_pair entries (entry ∷ [])) ∙ map-append (λ e. e.0) (map deref_pair entries) (deref_pair entry ∷ [])

-- what stands in a place has one
pub inner_there : {X : Type 0} (o : Option (Option X)) → is_some (option_and_then (λ m. m) o) ≡ true → is_some o ≡ true
inner_there None e = e
inner_there (Some x) e = refl
