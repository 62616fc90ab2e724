-- What loops of a report say so far.
use Rattle.std.proofs.Common.{◌≡◌, ℕ, suc, ◌+◌, ◌<◌, ◌≤◌, List, [], ◌∷◌, ◌++◌, get_or, length, map, take, Some, refl, sym, ap, subst, ◌∙◌, append_assoc, arith, zero-add}
use Rattle.std.specs.Prelude.{slice_get}
use Rattle.std.specs.declared.alloc.Global.{Global}
use Rattle.std.specs.declared.vec.Vec.{Vec}
use Rattle.std.proofs.lemmas.List.{append-nil, take_all}
use Rattle.std.proofs.lemmas.Option.{slice_get_read}
use Rattle.report.specs.declared.phase.ReplyReport.{ReplyReport}
use Rattle.core_setup.specs.Pairs.{Pairs}
use Rattle.core_setup.proofs.PairLemmas.{length_front, pairs_end, pairs_length, pairs_push, pairs_turn, take_one_more}
use Rattle.sys_run.specs.declared.parts.TableParts.{TableParts}
use Rattle.phase_actors.specs.declared.actor.Told.{Told}
use Rattle.room_ends.specs.declared.ended.MemberEnded.{MemberEnded}
use Rattle.room_report.specs.Inside.{Adds, Reports, Served, Serves, all_lengths, lengths_in, name_or_none, replies_told, reply_of, served, served_in}

-- an item that a loop over a slice reads
pub item_read : {X : Type 0} (xs : List X) (i : ℕ) (x : X) → i < length xs → x ≡ get_or xs i x → slice_get xs i ≡ Some x
item_read xs i x w e = slice_get_read xs (length xs) i x refl w e

-- ---- a report for each item

module _ {X Y : Type 0} (report : ℕ → X → Y) where
  pub reports_turn : (xs : List X) (ys zs : List Y) (k : ℕ) (x : X) (y : Y) → slice_get xs k ≡ Some x → zs ≡ ys ++ y ∷ [] → Reports report (take k xs) ys → y ≡ report k x → Reports report (take (k + 1) xs) zs
  reports_turn xs ys zs k x y e ez ps is = pairs_turn (λ n x r. r ≡ report n x) xs ys zs k x y e ez ps is

  pub reports_end : (xs : List X) (ys : List Y) (k : ℕ) → length xs ≤ k → Reports report (take k xs) ys → Reports report xs ys
  reports_end xs ys k w ps = pairs_end (λ n x r. r ≡ report n x) xs ys k w ps

-- a loop by value: one more behind those that are done
pub push_here : {X Y : Type 0} (P : ℕ → X → Y → Type 0) (xs : List X) (ys zs : List Y) (k : ℕ) (x : X) (y : Y) → k ≡ length xs → zs ≡ ys ++ y ∷ [] → Pairs P 0 xs ys → P k x y
    → Pairs P 0 (xs ++ x ∷ []) zs
push_here {Y} P xs ys zs k x y ek ez ps p =
    subst (λ (l : List Y). Pairs P 0 (xs ++ x ∷ []) l) (sym ez) (pairs_push P 0 xs ys x y ps (subst (λ m. P m x y) (ek ∙ sym (zero-add (length xs))) p))

-- ---- one for each channel

module _ {J : Type 0} where
  served_more : (n : ℕ) (xs : List (MemberEnded J)) (x : MemberEnded J) → served n (xs ++ x ∷ []) ≡ served n xs ++ served_in (n + length xs) x
  served_more n [] x = let here : n ≡ n + 0 = omega arith in append-nil (served_in n x) ∙ ap (λ m. served_in m x) here
  served_more n (y ∷ xs) x =
      let further : n + 1 + length xs ≡ n + suc (length xs) = omega arith in
      ap (λ l. served_in n y ++ l) (served_more (n + 1) xs x ∙ ap (λ m. served (n + 1) xs ++ served_in m x) further)
      ∙ sym (append_assoc (served_in n y) (served (n + 1) xs) (served_in (n + suc (length xs)) x))

  lengths_more : (xs : List (MemberEnded J)) (x : MemberEnded J) → all_lengths (xs ++ x ∷ []) ≡ all_lengths xs ++ lengths_in x
  lengths_more [] x = append-nil (lengths_in x)
  lengths_more (y ∷ xs) x = ap (λ l. lengths_in y ++ l) (lengths_more xs x) ∙ sym (append_assoc (lengths_in y) (all_lengths xs) (lengths_in x))

  pub lengths_turn : (xs : List (MemberEnded J)) (ys zs : List ℕ) (k : ℕ) (x : MemberEnded J) → slice_get xs k ≡ Some x → ys ≡ all_lengths (take k xs) → zs ≡ ys ++ lengths_in x → zs ≡ all_lengths (take (k + 1) xs)
  lengths_turn xs ys zs k x e so more = more ∙ ap (λ (l : List ℕ). l ++ lengths_in x) so ∙ sym (lengths_more (take k xs) x) ∙ ap all_lengths (sym (take_one_more xs k x e))

  pub lengths_end : (xs : List (MemberEnded J)) (ys : List ℕ) (k : ℕ) → length xs ≤ k → ys ≡ all_lengths (take k xs) → ys ≡ all_lengths xs
  lengths_end xs ys k w so = so ∙ ap all_lengths (take_all k xs w)

module _ {J Y : Type 0} (R : ℕ → Served J → Y → Type 0) where
  -- two calls that add one each
  pub adds_two : (a b : Served J) (ys between zs : List Y) → Adds R (a ∷ []) ys between → Adds R (b ∷ []) between zs → Adds R (a ∷ b ∷ []) ys zs
  adds_two a b ys between zs first second = (first.0, subst (λ (l : List Y). Adds R (b ∷ []) l zs) first.1 second, first.2)

  adds_pairs : (front more : List (Served J)) (ys zs : List Y) → Pairs R 0 front ys → Adds R more ys zs → Pairs R 0 (front ++ more) zs
  adds_pairs front [] ys zs ps same = subst (λ (l : List (Served J)). Pairs R 0 l zs) (sym (append-nil front)) (subst (λ (l : List Y). Pairs R 0 front l) (sym same) ps)
  adds_pairs front (s ∷ more) ys zs ps adds =
      let many : length ys ≡ 0 + length front = let h = pairs_length R 0 front ys ps in omega (arith, h) in
      subst (λ (l : List (Served J)). Pairs R 0 l zs) (append_assoc front (s ∷ []) more)
      (adds_pairs (front ++ s ∷ []) more (ys ++ adds.0 ∷ []) zs (pairs_push R 0 front ys s adds.0 ps (subst (λ n. R n s adds.0) many adds.2)) adds.1)

  pub serves_turn : (xs : List (MemberEnded J)) (ys zs : List Y) (k : ℕ) (x : MemberEnded J) → slice_get xs k ≡ Some x → Serves R (take k xs) ys → Adds R (served_in k x) ys zs → Serves R (take (k + 1) xs) zs
  serves_turn xs ys zs k x e ps more =
      let many : k ≡ 0 + length (take k xs) = let h = length_front xs k x e in omega (arith, h) in
      subst (λ (l : List (Served J)). Pairs R 0 l zs) (sym (ap (served 0) (take_one_more xs k x e) ∙ served_more 0 (take k xs) x))
      (adds_pairs (served 0 (take k xs)) (served_in (0 + length (take k xs)) x) ys zs ps (subst (λ n. Adds R (served_in n x) ys zs) many more))

  pub serves_end : (xs : List (MemberEnded J)) (ys : List Y) (k : ℕ) → length xs ≤ k → Serves R (take k xs) ys → Serves R xs ys
  serves_end xs ys k w ps = subst (λ (l : List (MemberEnded J)). Serves R l ys) (take_all k xs w) ps

-- ---- replies

pub map_push : {A B : Type 0} (f : A → B) (xs : List A) (x : A) → map f (xs ++ x ∷ []) ≡ map f xs ++ f x ∷ []
map_push f [] x = refl
map_push f (y ∷ xs) x = ap (λ l. f y ∷ l) (map_push f xs x)

pub mapped_turn : {A B : Type 0} (f : A → B) (xs : List A) (ys zs : List B) (k : ℕ) (x : A) → slice_get xs k ≡ Some x → zs ≡ ys ++ f x ∷ [] → ys ≡ map f (take k xs) → zs ≡ map f (take (k + 1) xs)
mapped_turn f xs ys zs k x e more was = more ∙ ap (λ l. l ++ f x ∷ []) was ∙ sym (ap (map f) (take_one_more xs k x e) ∙ map_push f (take k xs) x)

told_more : (tables : List TableParts) (actors : List (List ℕ)) (n : ℕ) (xs : List (Vec Told Global)) (x : Vec Told Global)
    → replies_told tables actors n (xs ++ x ∷ []) ≡ replies_told tables actors n xs ++ map (reply_of tables (name_or_none (slice_get actors (n + length xs)))) x.items
told_more tables actors n [] x =
    let here : n ≡ n + 0 = omega arith in
    append-nil (map (reply_of tables (name_or_none (slice_get actors n))) x.items) ∙ ap (λ m. map (reply_of tables (name_or_none (slice_get actors m))) x.items) here
told_more tables actors n (y ∷ xs) x =
    let further : n + 1 + length xs ≡ n + suc (length xs) = omega arith in
    let first = map (reply_of tables (name_or_none (slice_get actors n))) y.items in
    let rest = replies_told tables actors (n + 1) xs in
    ap (λ (l : List ReplyReport). first ++ l) (told_more tables actors (n + 1) xs x ∙ ap (λ m. rest ++ map (reply_of tables (name_or_none (slice_get actors m))) x.items) further)
    ∙ sym (append_assoc first rest (map (reply_of tables (name_or_none (slice_get actors (n + suc (length xs))))) x.items))

pub told_turn : (tables : List TableParts) (actors : List (List ℕ)) (xs : List (Vec Told Global)) (ys zs : List ReplyReport) (k : ℕ) (x : Vec Told Global) (actor : List ℕ) → slice_get xs k ≡ Some x
    → actor ≡ name_or_none (slice_get actors k) → ys ≡ replies_told tables actors 0 (take k xs) → zs ≡ ys ++ map (reply_of tables actor) x.items → zs ≡ replies_told tables actors 0 (take (k + 1) xs)
told_turn tables actors xs ys zs k x actor e named so more =
    let many : k ≡ 0 + length (take k xs) = let h = length_front xs k x e in omega (arith, h) in
    more ∙ ap (λ (l : List ReplyReport). l ++ map (reply_of tables actor) x.items) so
    ∙ ap (λ (a : List ℕ). replies_told tables actors 0 (take k xs) ++ map (reply_of tables a) x.items) (named ∙ ap (λ n. name_or_none (slice_get actors n)) many)
    ∙ sym (told_more tables actors 0 (take k xs) x) ∙ ap (replies_told tables actors 0) (sym (take_one_more xs k x e))

pub told_end : (tables : List TableParts) (actors : List (List ℕ)) (xs : List (Vec Told Global)) (ys : List ReplyReport) (k : ℕ) → length xs ≤ k → ys ≡ replies_told tables actors 0 (take k xs) → ys ≡ replies_told tables actors 0 xs
told_end tables actors xs ys k w so = so ∙ ap (replies_told tables actors 0) (take_all k xs w)
