-- Lists that get one item more, one after another.
use Rattle.std.proofs.Common.{◌≡◌, ℕ, zero, suc, ◌+◌, ◌<◌, ◌≤◌, arith, inl, inr, List, [], ◌∷◌, ◌++◌, length, set, Some, None, refl, sym, ap, subst, ◌∙◌, append-nil, length-append}
use Rattle.std.specs.Prelude.{slice_get}
use Rattle.std.specs.declared.alloc.Global.{Global}
use Rattle.std.specs.declared.vec.Vec.{Vec}
use Rattle.core_setup.proofs.PairLemmas.{cases_same, get-set, get-set_other, get_here, get_one, get_within, length-set_at}
use Rattle.core_setup.proofs.Numbered.{none_some, some_same}
use Rattle.phase_legal.specs.Shown.{AreBeside}
use Rattle.phase_room.specs.Dealt.{AreLonger, alone}
use Rattle.phase_room.specs.Opened.{AreOfEach}

last_at : {X : Type 0} (xs : List X) (x : X) → slice_get (xs ++ x ∷ []) (length xs) ≡ Some x
last_at [] x = refl
last_at (y ∷ xs) x = last_at xs x

none_at : {X : Type 0} (xs : List X) → slice_get xs (length xs) ≡ None
none_at [] = refl
none_at (y ∷ xs) = none_at xs

other_at : {X : Type 0} (xs : List X) (x : X) (k : ℕ) → (k ≡ length xs → ⊥) → slice_get (xs ++ x ∷ []) k ≡ slice_get xs k
other_at [] x zero apart = absurd (apart refl)
other_at [] x (suc k) apart = refl
other_at (y ∷ xs) x zero apart = refl
other_at (y ∷ xs) x (suc k) apart = other_at xs x k (λ e. apart (ap suc e))

-- a place of a list with one item more is one of before, or the last one
pub last_or_before : {A : Type 0} (P : ℕ → A → Type 0) (xs : List A) (x m : A) (k : ℕ) → ((i : ℕ) (y : A) → slice_get xs i ≡ Some y → P i y) → P (length xs) x → slice_get (xs ++ x ∷ []) k ≡ Some m → P k m
last_or_before P [] x m zero were last e = subst (P zero) (some_same e) last
last_or_before P [] x m (suc k) were last e = none_some e
last_or_before P (y ∷ xs) x m zero were last e = were zero m e
last_or_before P (y ∷ xs) x m (suc k) were last e = last_or_before (λ i z. P (suc i) z) xs x m k (λ i z at. were (suc i) z at) last e

-- all items of a list with one more
pub all_more : {A : Type 0} (Q : A → Type 0) (xs more : List A) (x : A) → ((i : ℕ) (y : A) → slice_get xs i ≡ Some y → Q y) → Q x → more ≡ xs ++ x ∷ [] → (i : ℕ) (y : A) → slice_get more i ≡ Some y → Q y
all_more Q xs more x all last e i y at = last_or_before (λ j z. Q z) xs x y i all last (ap (λ z. slice_get z i) (sym e) ∙ at)

pub all_none : {A : Type 0} (Q : A → Type 0) (xs : List A) → xs ≡ [] → (i : ℕ) (y : A) → slice_get xs i ≡ Some y → Q y
all_none Q xs e i y at = none_some (ap (λ z. slice_get z i) (sym e) ∙ at)

pub longer_by_one : {A : Type 0} (xs more : List A) (x : A) (n : ℕ) → length xs ≡ n → more ≡ xs ++ x ∷ [] → length more ≡ n + 1
longer_by_one xs more x n many e = let same = ap length e in let both = length-append xs (x ∷ []) in omega (arith, same, both, many)

pub none_longer : {X : Type 0} (old : List (Vec X Global)) → AreLonger old old []
none_longer old = record { count = refl; each = λ place was at. (was, at, sym (append-nil was.items)) }

pub within_all : {X : Type 0} (done rest all : List X) (x : X) → done ++ x ∷ rest ≡ all → length done < length all
within_all done rest all x e = let same = ap length e in let both = length-append done (x ∷ rest) in omega (arith, same, both)

module _ {X : Type 0} (old new : List (Vec X Global)) (done : List X) (x : X) (v w : Vec X Global) (are : AreLonger old new done) (within : length done < length new) (at : slice_get new (length done) ≡ Some v) (more : w.items ≡ v.items ++ x ∷ []) where
  here : (place : ℕ) (was : Vec X Global) → slice_get old place ≡ Some was → place ≡ length done
      → (now : Vec X Global) × (slice_get (set new (length done) w) place ≡ Some now) × (now.items ≡ was.items ++ alone (slice_get (done ++ x ∷ []) place))
  here place was there e =
      let h = are.each place was there in
      let same : v ≡ h.0 = get_one new (length done) v h.0 at (ap (slice_get new) (sym e) ∙ h.1) in
      let nothing : alone (slice_get done place) ≡ [] = ap (λ k. alone (slice_get done k)) e ∙ ap alone (none_at done) in
      let one : alone (slice_get (done ++ x ∷ []) place) ≡ x ∷ [] = ap (λ k. alone (slice_get (done ++ x ∷ []) k)) e ∙ ap alone (last_at done x) in (
        w,
        ap (slice_get (set new (length done) w)) e ∙ get-set new (length done) w within,
        more ∙ ap (λ z. z ++ x ∷ []) (ap (λ (u : Vec X Global). u.items) same ∙ h.2 ∙ ap (λ z. was.items ++ z) nothing ∙ append-nil was.items) ∙ ap (λ z. was.items ++ z) (sym one),
      )

  apart_from : (place : ℕ) (was : Vec X Global) → slice_get old place ≡ Some was → (place ≡ length done → ⊥)
      → (now : Vec X Global) × (slice_get (set new (length done) w) place ≡ Some now) × (now.items ≡ was.items ++ alone (slice_get (done ++ x ∷ []) place))
  apart_from place was there apart =
      let h = are.each place was there in
      (h.0, get-set_other new (length done) place w apart ∙ h.1, h.2 ∙ ap (λ z. was.items ++ alone z) (sym (other_at done x place apart)))

  pub one_longer : AreLonger old (set new (length done) w) (done ++ x ∷ [])
  one_longer = record {
    count = length-set_at new (length done) w ∙ are.count;
    each = λ place was there. elim (cases_same place (length done)) [ inl e ↦ here place was there e | inr apart ↦ apart_from place was there apart ];
  }

-- ---- of each table

beside_more : {X Y : Type 0} (P : X → Y → Type 0) (xs : List X) (ys : List Y) (x : X) (y : Y) → AreBeside P xs ys → P x y → AreBeside P (xs ++ x ∷ []) (ys ++ y ∷ [])
beside_more {X} {Y} P xs ys x y are p = record {
  count = let many = are.count in let left = length-append xs (x ∷ []) in let right = length-append ys (y ∷ []) in omega (arith, many, left, right);
  each = λ i a b here there. last_or_before (λ j z. (c : Y) → slice_get (ys ++ y ∷ []) j ≡ Some c → P z c) xs x a i were last here b there;
}
  where
    were : (j : ℕ) (z : X) → slice_get xs j ≡ Some z → (c : Y) → slice_get (ys ++ y ∷ []) j ≡ Some c → P z c
    were j z at c there =
        let less = get_within xs j z at in
        let many = are.count in
        are.each j z c at (sym (other_at ys y j (λ e. let bad : 1 ≤ 0 = omega (arith, less, many, e) in omega (arith, bad))) ∙ there)

    last : (c : Y) → slice_get (ys ++ y ∷ []) (length xs) ≡ Some c → P x c
    last c there = subst (P x) (some_same (sym (last_at ys y) ∙ ap (slice_get (ys ++ y ∷ [])) are.count ∙ there)) p

pub of_each_more : {T X : Type 0} (P : ℕ → T → X → Type 0) (tables more : List T) (table : T) (old new : List (Vec X Global)) (items : List X) → AreLonger old new items → AreOfEach P tables old → length items ≡ length old → ((number : ℕ) (x : X) → slice_get items number ≡ Some x → P number table x)
    → more ≡ tables ++ table ∷ [] → AreOfEach P more new
of_each_more P tables more table old new items longer were many each pushed number list at =
    let inside = get_within new number list at in
    let count = longer.count in
    let was = get_here old number (omega (arith, inside, count)) in
    let item = get_here items number (omega (arith, inside, count, many)) in
    let now = longer.each number was.0 was.1 in
    let same = get_one new number now.0 list now.1 at in
    let items_are : list.items ≡ was.0.items ++ item.0 ∷ [] = ap (λ (v : Vec _ Global). v.items) (sym same) ∙ now.2 ∙ ap (λ z. was.0.items ++ alone z) item.1 in
    subst (λ z. AreBeside (P number) z list.items) (sym pushed)
    (subst (AreBeside (P number) (tables ++ table ∷ [])) (sym items_are) (beside_more (P number) tables was.0.items table item.0 (were number was.0 was.1) (each number item.0 item.1)))

pub of_each_none : {T X : Type 0} (P : ℕ → T → X → Type 0) (tables : List T) (lists : List (Vec X Global)) → tables ≡ [] → ((place : ℕ) (list : Vec X Global) → slice_get lists place ≡ Some list → list.items ≡ []) → AreOfEach P tables lists
of_each_none P tables lists none empty number list at =
    subst (λ z. AreBeside (P number) z list.items) (sym none)
    (subst (AreBeside (P number) []) (sym (empty number list at)) (record { count = refl; each = λ i a b here there. none_some here }))
