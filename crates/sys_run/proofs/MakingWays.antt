-- The ways that code finds are the machine's.
use Rattle.std.proofs.Common.{◌≡◌, ℕ, zero, suc, ◌+◌, ◌-◌, ◌<◌, ◌≤◌, ◌⊎◌, inl, inr, Bool, true, false, not, List, [], ◌∷◌, ◌++◌, Option, Some, None, refl, sym, ◌∙◌, ap, subst, arith, length, is_some, set, take, get_or}
use Rattle.std.specs.Prelude.{◌==◌, ◌&&◌, if◌then◌else◌, option_map, slice_get}
use Rattle.std.specs.declared.alloc.Global.{Global}
use Rattle.std.specs.declared.vec.Vec.{Vec}
use Rattle.std.proofs.lemmas.Bool.Decides.{eqb_tells}
use Rattle.std.proofs.lemmas.List.{append-nil}
use Rattle.std.proofs.lemmas.Option.{none-some, same_Some}
use Rattle.core_machine.specs.Pipes.{ends_with}
use Rattle.core_machine.specs.Rules.{Rules}
use Rattle.core_machine.specs.Ways.{Found, gone_on, level, levels, tried, with_way}
use Rattle.core_setup.specs.Channels.{Channel}
use Rattle.core_setup.proofs.PairLemmas.{cases_same, get-set, get-set_other, get_within, length-set_at, take_one_more}
use Rattle.sys_run.specs.Made.{AreFound, AreLists, AreWithin, IsWithin, directions_in, direction_of, found_from, given, given_all, given_one, goes_on, gone_all, gone_one, way_of}
use Rattle.sys_run.specs.declared.ways.Direction.{Direction}
use Rattle.sys_run.specs.declared.ways.Way.{Way}

-- ---- one direction

if_yes : {A : Type 0} (b : Bool) (x y : A) → b ≡ true → (if b then x else y) ≡ x
if_yes b x y e = ap (λ t. if t then x else y) e

if_no : {A : Type 0} (b : Bool) (x y : A) → b ≡ false → (if b then x else y) ≡ y
if_no b x y e = ap (λ t. if t then x else y) e

same_is : (a b : ℕ) → a ≡ b → (a == b) ≡ true
same_is a b e = elim (eqb_tells a b) [ inl w ↦ w.0 | inr w ↦ absurd (w.1 e) ]

apart_is : (a b : ℕ) → (a ≡ b → ⊥) → (a == b) ≡ false
apart_is a b e = elim (eqb_tells a b) [ inl w ↦ absurd (e w.1) | inr w ↦ w.0 ]

false_true : {A : Type 0} → false ≡ true → A
false_true e = cc

-- no direction goes on
pub not_gone : (len : ℕ) (d : Direction) (f : Found) → goes_on len (f d.reads) (f d.writes) ≡ false → gone_one len d f ≡ f
not_gone len d f e = by (f d.reads) e where
  by : (o : Option (List ℕ)) → goes_on len o (f d.writes) ≡ false → gone_on d.channel len d.writes f o ≡ f
  by None e = refl
  by (Some ds) e = if_no ((length ds == len) && not (is_some (f d.writes))) (with_way d.writes (d.channel ∷ ds) f) f e

-- one goes on from a way of this length
pub record IsGone (len : ℕ) (d : Direction) (f : Found) : Type 0 where
  pub ds : List ℕ
  pub here : f d.reads ≡ Some ds
  pub long : length ds ≡ len
  pub new : gone_one len d f ≡ with_way d.writes (d.channel ∷ ds) f

both_first : (a b : Bool) → (a && b) ≡ true → a ≡ true
both_first true b e = refl
both_first false b e = false_true e

pub is_gone : (len : ℕ) (d : Direction) (f : Found) → goes_on len (f d.reads) (f d.writes) ≡ true → IsGone len d f
is_gone len d f e = by (f d.reads) refl e where
  by : (o : Option (List ℕ)) → f d.reads ≡ o → goes_on len o (f d.writes) ≡ true → IsGone len d f
  by None r e = false_true e
  by (Some ds) r e = record {
    ds = ds;
    here = r;
    long = elim (eqb_tells (length ds) len) [ inl w ↦ w.1 | inr w ↦ false_true (sym w.0 ∙ both_first (length ds == len) (not (is_some (f d.writes))) e) ];
    new = ap (gone_on d.channel len d.writes f) r ∙ if_yes ((length ds == len) && not (is_some (f d.writes))) (with_way d.writes (d.channel ∷ ds) f) f e;
  }

pub put_found : (tables len : ℕ) (d : Direction) (held : List (Option Way)) (f : Found) → d.writes < length held → AreFound tables held f → goes_on len (f d.reads) (f d.writes) ≡ true
    → AreFound tables (set held d.writes (Some (record { len = len + 1; last = Some d.channel }))) (gone_one len d f)
put_found tables len d held f w are e = record {
  count = length-set_at held d.writes way ∙ are.count;
  each = λ t x there. by t x there (cases_same t d.writes);
} where
  gone : IsGone len d f
  gone = is_gone len d f e

  way : Option Way
  way = Some (record { len = len + 1; last = Some d.channel })

  by : (t : ℕ) (x : Option Way) → slice_get (set held d.writes way) t ≡ Some x → ((t ≡ d.writes) ⊎ (t ≡ d.writes → ⊥)) → x ≡ option_map way_of (gone_one len d f t)
  by t x there (inl same) =
      let long : len + 1 ≡ suc (length gone.ds) = omega (arith, gone.long) in
      let new : gone_one len d f t ≡ Some (d.channel ∷ gone.ds) = ap (λ (g : Found). g t) gone.new ∙ if_yes (d.writes == t) (Some (d.channel ∷ gone.ds)) (f t) (same_is d.writes t (sym same)) in
      sym (same_Some way x (sym (get-set held d.writes way w) ∙ ap (slice_get (set held d.writes way)) (sym same) ∙ there))
      ∙ ap (λ n. let y : Way = record { len = n; last = Some d.channel } in Some y) long
      ∙ sym (ap (option_map way_of) new)
  by t x there (inr apart) =
      let new : gone_one len d f t ≡ f t = ap (λ (g : Found). g t) gone.new ∙ if_no (d.writes == t) (Some (d.channel ∷ gone.ds)) (f t) (apart_is d.writes t (λ e. apart (sym e))) in
      are.each t x (sym (get-set_other held d.writes t way apart) ∙ there) ∙ sym (ap (option_map way_of) new)

-- ---- all directions, level by level

pub gone_append : (len : ℕ) (xs ys : List Direction) (f : Found) → gone_all len (xs ++ ys) f ≡ gone_all len ys (gone_all len xs f)
gone_append len [] ys f = refl
gone_append len (x ∷ xs) ys f = gone_append len xs ys (gone_one len x f)

-- rules say the channels' tables, from a number on
pub record Says (g : Rules) (n : ℕ) (ch : Channel) : Type 0 where
  pub target : g.target n ≡ ch.target
  pub reads : g.reads n ≡ ch.reads

abbrev pub SayAll : Rules → ℕ → List Channel → Type 0
SayAll g n chs = (j : ℕ) (ch : Channel) → slice_get chs j ≡ Some ch → Says g (j + n) ch

module _ (g : Rules) where
  zero_on : (n : ℕ) → n ≡ zero + n
  zero_on n = omega arith

  one_on : (j n : ℕ) → suc j + n ≡ j + (n + 1)
  one_on j n = omega arith

  first_says : (n : ℕ) (ch : Channel) (chs : List Channel) → SayAll g n (ch ∷ chs) → Says g n ch
  first_says n ch chs say = subst (λ m. Says g m ch) (sym (zero_on n)) (say zero ch refl)

  others_say : (n : ℕ) (ch : Channel) (chs : List Channel) → SayAll g n (ch ∷ chs) → SayAll g (n + 1) chs
  others_say n ch chs say = λ j x e. subst (λ m. Says g m x) (one_on j n) (say (suc j) x e)

  one_level : (len n : ℕ) (ch : Channel) (f : Found) → Says g n ch → gone_all len (direction_of n ch.reads ch.target) (level g len n f) ≡ level g len (suc n) f
  one_level len n ch f says = by ch.target says.target where
    found : Found
    found = level g len n f

    by : (o : Option ℕ) → g.target n ≡ o → gone_all len (direction_of n ch.reads o) found ≡ tried g n len (g.target n) found
    by None e = sym (ap (λ o. tried g n len o found) e)
    by (Some t) e = ap (λ r. gone_on n len t found (found r)) (sym says.reads) ∙ sym (ap (λ o. tried g n len o found) e)

  levels_on : (len n : ℕ) (chs : List Channel) (f : Found) → SayAll g n chs → gone_all len (directions_in n chs) (level g len n f) ≡ level g len (n + length chs) f
  levels_on len n [] f say = ap (λ m. level g len m f) (let e : n ≡ n + 0 = omega arith in e)
  levels_on len n (ch ∷ chs) f say =
      gone_append len (direction_of n ch.reads ch.target) (directions_in (n + 1) chs) (level g len n f)
      ∙ ap (gone_all len (directions_in (n + 1) chs)) (one_level len n ch f (first_says n ch chs say) ∙ ap (λ m. level g len m f) (let e : suc n ≡ n + 1 = omega arith in e))
      ∙ levels_on len (n + 1) chs f (others_say n ch chs say)
      ∙ ap (λ m. level g len m f) (let e : n + 1 + length chs ≡ n + suc (length chs) = omega arith in e)

  pub levels_are : (i home len : ℕ) (chs : List Channel) → SayAll g 0 chs → g.channels ≡ length chs → g.table i ≡ home → found_from (directions_in 0 chs) home len ≡ levels g i len
  levels_are i home zero chs say many at = ap (λ h. (λ table. if h == table then Some [] else None)) (sym at)
  levels_are i home (suc len) chs say many at =
      ap (gone_all len (directions_in 0 chs)) (levels_are i home len chs say many at)
      ∙ levels_on len 0 chs (levels g i len) say
      ∙ ap (λ m. level g len m (levels g i len)) (let e : 0 + length chs ≡ g.channels = omega (arith, many) in e)

-- ---- which sources each channel passes

there : (place number c : ℕ) (test : Bool) (lists : ℕ → List ℕ) → place ≡ c → given place test number lists c ≡ lists c ++ (if test then number ∷ [] else [])
there place number c test lists e = if_yes (place == c) (lists c ++ (if test then number ∷ [] else [])) (lists c) (same_is place c e)

elsewhere : (place number c : ℕ) (test : Bool) (lists : ℕ → List ℕ) → (place ≡ c → ⊥) → given place test number lists c ≡ lists c
elsewhere place number c test lists e = if_no (place == c) (lists c ++ (if test then number ∷ [] else [])) (lists c) (apart_is place c e)

pub given_append : (f : Found) (number : ℕ) (xs ys : List Direction) (lists : ℕ → List ℕ) → given_all f number (xs ++ ys) lists ≡ given_all f number ys (given_all f number xs lists)
given_append f number [] ys lists = refl
given_append f number (x ∷ xs) ys lists = given_append f number xs ys (given_one f number x lists)

module _ (f : Found) (number : ℕ) where
  one_before : (n reads : ℕ) (target : Option ℕ) (lists : ℕ → List ℕ) (c : ℕ) → (n ≡ c → ⊥) → given_all f number (direction_of n reads target) lists c ≡ lists c
  one_before n reads None lists c lt = refl
  one_before n reads (Some t) lists c lt = elsewhere n number c (ends_with n (f t)) lists lt

  all_before : (n : ℕ) (chs : List Channel) (lists : ℕ → List ℕ) (c : ℕ) → c < n → given_all f number (directions_in n chs) lists c ≡ lists c
  all_before n [] lists c lt = refl
  all_before n (ch ∷ chs) lists c lt =
      ap (λ (l : ℕ → List ℕ). l c) (given_append f number (direction_of n ch.reads ch.target) (directions_in (n + 1) chs) lists)
      ∙ all_before (n + 1) chs (given_all f number (direction_of n ch.reads ch.target) lists) c (omega (arith, lt))
      ∙ one_before n ch.reads ch.target lists c (λ e. let bad : 1 ≤ 0 = omega (arith, lt, e) in omega (arith, bad))

  -- what is given by a channel that writes this
  abbrev more_of : ℕ → Option ℕ → List ℕ
  more_of c None = []
  more_of c (Some t) = if ends_with c (f t) then number ∷ [] else []

  one_here : (n reads : ℕ) (target : Option ℕ) (lists : ℕ → List ℕ) → given_all f number (direction_of n reads target) lists n ≡ lists n ++ more_of n target
  one_here n reads None lists = sym (append-nil (lists n))
  one_here n reads (Some t) lists = there n number n (ends_with n (f t)) lists refl

  pub given_from : (n : ℕ) (chs : List Channel) (lists : ℕ → List ℕ) (j : ℕ) (ch : Channel) → slice_get chs j ≡ Some ch
      → given_all f number (directions_in n chs) lists (j + n) ≡ lists (j + n) ++ more_of (j + n) ch.target
  given_from n [] lists j ch e = absurd (none-some ch e)
  given_from n (x ∷ chs) lists zero ch e =
      let z : zero + n ≡ n = omega arith in
      subst (λ m. given_all f number (directions_in n (x ∷ chs)) lists m ≡ lists m ++ more_of m ch.target) (sym z)
      (ap (λ (l : ℕ → List ℕ). l n) (given_append f number (direction_of n x.reads x.target) (directions_in (n + 1) chs) lists)
      ∙ all_before (n + 1) chs (given_all f number (direction_of n x.reads x.target) lists) n (omega arith)
      ∙ one_here n x.reads x.target lists
      ∙ ap (λ (y : Channel). lists n ++ more_of n y.target) (same_Some x ch e))
  given_from n (x ∷ chs) lists (suc j) ch e =
      let z : j + (n + 1) ≡ suc j + n = omega arith in
      let rest = given_all f number (direction_of n x.reads x.target) lists in
      ap (λ (l : ℕ → List ℕ). l (suc j + n)) (given_append f number (direction_of n x.reads x.target) (directions_in (n + 1) chs) lists)
      ∙ subst (λ m. given_all f number (directions_in (n + 1) chs) rest m ≡ rest m ++ more_of m ch.target) z (given_from (n + 1) chs rest j ch e)
      ∙ ap (λ l. l ++ more_of (suc j + n) ch.target) (one_before n x.reads x.target lists (suc j + n) (λ e. let bad : 1 ≤ 0 = omega (arith, e) in omega (arith, bad)))

-- a list with one more at a place
pub lists_given : (place number : ℕ) (held : List (Vec ℕ Global)) (lists : ℕ → List ℕ) (old new : Vec ℕ Global) → slice_get held place ≡ Some old → new.items ≡ old.items ++ number ∷ [] → AreLists held lists
    → AreLists (set held place new) (given place true number lists)
lists_given place number held lists old new at more are = λ c x e. by c x e (cases_same c place) where
  by : (c : ℕ) (x : Vec ℕ Global) → slice_get (set held place new) c ≡ Some x → ((c ≡ place) ⊎ (c ≡ place → ⊥)) → x.items ≡ given place true number lists c
  by c x e (inl same) =
      let w = get_within held place old at in
      let is : new ≡ x = same_Some new x (sym (get-set held place new w) ∙ ap (slice_get (set held place new)) (sym same) ∙ e) in
      ap (λ (v : Vec ℕ Global). v.items) (sym is) ∙ more ∙ ap (λ l. l ++ number ∷ []) (are place old at ∙ ap lists (sym same))
      ∙ sym (there place number c true lists (sym same))
  by c x e (inr apart) =
      are c x (sym (get-set_other held place c new apart) ∙ e) ∙ sym (elsewhere place number c true lists (λ e. apart (sym e)))

-- and with none
pub lists_kept : (place number : ℕ) (held : List (Vec ℕ Global)) (lists : ℕ → List ℕ) → AreLists held lists → AreLists held (given place false number lists)
lists_kept place number held lists are = λ c x e. are c x e ∙ sym (by c (cases_same c place)) where
  by : (c : ℕ) → ((c ≡ place) ⊎ (c ≡ place → ⊥)) → given place false number lists c ≡ lists c
  by c (inl same) = there place number c false lists (sym same) ∙ append-nil (lists c)
  by c (inr apart) = elsewhere place number c false lists (λ e. apart (sym e))

-- ---- lists that grow

pub push_get : {X : Type 0} (xs : List X) (x : X) (j : ℕ) (y : X) → slice_get (xs ++ x ∷ []) j ≡ Some y → (slice_get xs j ≡ Some y) ⊎ ((j ≡ length xs) × (x ≡ y))
push_get [] x zero y e = inr (refl, same_Some x y e)
push_get [] x (suc j) y e = absurd (none-some y e)
push_get (z ∷ xs) x zero y e = inl e
push_get (z ∷ xs) x (suc j) y e = elim (push_get xs x j y e) [ inl at ↦ inl at | inr is ↦ inr (ap suc is.0, is.1) ]

pub found_push : (tables : ℕ) (held new : List (Option Way)) (way : Option Way) (f : Found) → new ≡ held ++ way ∷ [] → way ≡ option_map way_of (f tables) → AreFound tables held f → AreFound (tables + 1) new f
found_push tables held new way f more is are = subst (λ (l : List (Option Way)). AreFound (tables + 1) l f) (sym more) (record {
  count = length_push held way ∙ ap (λ n. n + 1) are.count;
  each = λ t w e. elim (push_get held way t w e) [
    | inl at ↦ are.each t w at
    | inr last ↦ sym last.1 ∙ is ∙ ap (λ n. option_map way_of (f n)) (sym (last.0 ∙ are.count))
  ];
}) where
  length_push : (xs : List (Option Way)) (x : Option Way) → length (xs ++ x ∷ []) ≡ length xs + 1
  length_push [] x = refl
  length_push (y ∷ xs) x = let e = length_push xs x in omega (arith, e)

pub lists_push : (held new : List (Vec ℕ Global)) (v : Vec ℕ Global) → new ≡ held ++ v ∷ [] → v.items ≡ [] → AreLists held (λ c. []) → AreLists new (λ c. [])
lists_push held new v more none are = λ c x e. elim (push_get held v c x (ap (λ l. slice_get l c) (sym more) ∙ e)) [
  | inl at ↦ are c x at
  | inr last ↦ ap (λ (w : Vec ℕ Global). w.items) (sym last.1) ∙ none
]

pub gone_more : (len : ℕ) (xs : List Direction) (x : Direction) (f : Found) → gone_all len (xs ++ x ∷ []) f ≡ gone_one len x (gone_all len xs f)
gone_more len xs x f = gone_append len xs (x ∷ []) f

pub given_more : (f : Found) (number : ℕ) (xs : List Direction) (x : Direction) (lists : ℕ → List ℕ) → given_all f number (xs ++ x ∷ []) lists ≡ given_one f number x (given_all f number xs lists)
given_more f number xs x lists = given_append f number xs (x ∷ []) lists

-- ---- a loop over a list

pub read_at : {X : Type 0} (xs : List X) (k : ℕ) (default : X) → k < length xs → slice_get xs k ≡ Some (get_or xs k default)
read_at [] k default w = absurd (let bad : 1 ≤ 0 = omega (arith, w) in omega (arith, bad))
read_at (x ∷ xs) zero default w = refl
read_at (x ∷ xs) (suc k) default w = read_at xs k default (omega (arith, w))

pub within_same : (tables others channels : ℕ) (d : Direction) → tables ≡ others → IsWithin tables channels d → IsWithin others channels d
within_same tables others channels d e is = record { channel = is.channel; reads = subst (λ n. d.reads < n) e is.reads; writes = subst (λ n. d.writes < n) e is.writes }

pub gone_turn : (len k : ℕ) (xs : List Direction) (x : Direction) (f : Found) → slice_get xs k ≡ Some x → gone_one len x (gone_all len (take k xs) f) ≡ gone_all len (take (k + 1) xs) f
gone_turn len k xs x f e = sym (ap (λ l. gone_all len l f) (take_one_more xs k x e) ∙ gone_more len (take k xs) x f)

pub given_turn : (f : Found) (number k : ℕ) (xs : List Direction) (x : Direction) (lists : ℕ → List ℕ) → slice_get xs k ≡ Some x → given_one f number x (given_all f number (take k xs) lists) ≡ given_all f number (take (k + 1) xs) lists
given_turn f number k xs x lists e = sym (ap (λ l. given_all f number l lists) (take_one_more xs k x e) ∙ given_more f number (take k xs) x lists)

pub found_none : (held : List (Option Way)) (f : Found) → held ≡ [] → AreFound 0 held f
found_none held f e = subst (λ (l : List (Option Way)). AreFound 0 l f) (sym e) (record { count = refl; each = λ t w at. absurd (none-some w at) })

pub item_read : {X : Type 0} (xs : List X) (k : ℕ) (x : X) → k < length xs → x ≡ get_or xs k x → slice_get xs k ≡ Some x
item_read xs k x w e = read_at xs k x w ∙ ap (λ y. Some y) (sym e)

pub within_count : (tables channels others : ℕ) (d : Direction) → channels ≡ others → IsWithin tables channels d → IsWithin tables others d
within_count tables channels others d e is = record { channel = subst (λ n. d.channel < n) e is.channel; reads = is.reads; writes = is.writes }

pub longer : {X : Type 0} (xs ys : List X) (x : X) → ys ≡ xs ++ x ∷ [] → length ys ≡ length xs + 1
longer {X} xs ys x e = ap length e ∙ by xs where
  by : (zs : List X) → length (zs ++ x ∷ []) ≡ length zs + 1
  by [] = refl
  by (z ∷ zs) = let h = by zs in omega (arith, h)

pub lists_none : (held : List (Vec ℕ Global)) → held ≡ [] → (length held ≡ 0) × AreLists held (λ c. [])
lists_none held e = (ap length e, λ c x at. absurd (none-some x (ap (λ l. slice_get l c) (sym e) ∙ at)))

pub within_moved : (t u c d : ℕ) (xs ys : List Direction) → t ≡ u → c ≡ d → xs ≡ ys → AreWithin t c xs → AreWithin u d ys
within_moved t u c d xs ys et ec ex are = subst (λ (l : List Direction). AreWithin u d l) ex (subst (λ n. AreWithin u n xs) ec (subst (λ n. AreWithin n c xs) et are))

pub given_moved : (xs ys : List Direction) (t u m n home : ℕ) (held : List (Vec ℕ Global)) (lists : ℕ → List ℕ) → xs ≡ ys → t ≡ u → m ≡ n
    → AreLists held (given_all (found_from xs home (t - 1)) m xs lists) → AreLists held (given_all (found_from ys home (u - 1)) n ys lists)
given_moved xs ys t u m n home held lists ex et em are =
    subst (λ (l : List Direction). AreLists held (given_all (found_from l home (u - 1)) n l lists)) ex
    (subst (λ k. AreLists held (given_all (found_from xs home (u - 1)) k xs lists)) em
    (subst (λ k. AreLists held (given_all (found_from xs home (k - 1)) m xs lists)) et are))
