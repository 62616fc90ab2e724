-- Histories that are read backwards: their fronts, and the contents that they leave.
use Rattle.std.proofs.Common.{◌≡◌, ◌≢◌, ℕ, ◌+◌, ◌<◌, ◌≤◌, inl, inr, Bool, true, false, cond, List, [], ◌∷◌, ◌++◌, Option, Some, None, refl, sym, ◌∙◌, ap, subst, arith, length, reverse}
use Rattle.std.specs.Prelude.{◌==◌, ◌&&◌, nat_lt, not, unwrap_or, if◌then◌else◌, ⊤}
use Rattle.std.proofs.lemmas.List.{reverse-append}
use Rattle.std.proofs.lemmas.Bool.Decides.{nat_tests, eqb_tells}
use Rattle.bits_ip.specs.Prefix.{Net, same_net}
use Rattle.attrs.specs.declared.route.Change.{Change}
use Rattle.attrs.specs.declared.route.Route.{Route}
use Rattle.attrs.specs.History.{Content, after, empty, is_of, last_of, IsReal}
use Rattle.attrs.proofs.Histories.{after-append, last_of-push, IsReal-push}
use Rattle.export_core.proofs.Nets.{net_tells}
use Rattle.core_machine.specs.Histories.{AreFrom, AreReal, content_of, entry, front, of_those, own}

pub some_same : {A : Type 0} {x y : A} → Some x ≡ Some y → x ≡ y
some_same e = cc

pub none_some : {A : Type 0} {x : A} → None ≡ Some x → ⊥
none_some e = cc

pub if_lt : {A : Type 0} (a b : ℕ) (x y : A) → a < b → (if nat_lt a b then x else y) ≡ x
if_lt a b x y w = grind (arith, nat_tests)

if_le : {A : Type 0} (a b : ℕ) (x y : A) → b ≤ a → (if nat_lt a b then x else y) ≡ y
if_le a b x y w = grind (arith, nat_tests)

pub if_true : {A : Type 0} (b : Bool) (x y : A) → b ≡ true → (if b then x else y) ≡ x
if_true b x y e = rw e refl

pub if_false : {A : Type 0} (b : Bool) (x y : A) → b ≡ false → (if b then x else y) ≡ y
if_false b x y e = rw e refl

-- a position of a history is one of the longer history
pub front_more : (p : ℕ) (c : Change) (h : List Change) → p ≤ length h → front p (c ∷ h) ≡ front p h
front_more p c h w = if_le (length h) p (c ∷ h) (front p h) w

pub front_all : (h : List Change) → front (length h) h ≡ h
front_all [] = refl
front_all (c ∷ h) = if_lt (length h) (length (c ∷ h)) (c ∷ h) (front (length (c ∷ h)) h) (omega arith)

pub entry_lt : (p : ℕ) (h : List Change) (c : Change) → entry p h ≡ Some c → p < length h
entry_lt p [] c e = absurd (none_some e)
entry_lt p (d ∷ h) c e = elim (eqb_tells (length h) p) [
  | inl w ↦ omega (arith, w.1)
  | inr w ↦ omega (arith, entry_lt p h c (sym (if_false (length h == p) (Some d) (entry p h) w.0) ∙ e))
]

pub entry_none : (p : ℕ) (h : List Change) → entry p h ≡ None → length h ≤ p
entry_none p [] e = omega arith
entry_none p (d ∷ h) e = elim (eqb_tells (length h) p) [
  | inl w ↦ absurd (none_some (sym e ∙ if_true (length h == p) (Some d) (entry p h) w.0))
  | inr w ↦ let o = entry_none p h (sym (if_false (length h == p) (Some d) (entry p h) w.0) ∙ e) in omega (arith, o, (λ (z : length h ≡ p). w.1 z))
]

-- the change that is read at a position is what the next position's front has more
pub front_next : (p : ℕ) (h : List Change) (c : Change) → entry p h ≡ Some c → front (p + 1) h ≡ c ∷ front p h
front_next p [] c e = absurd (none_some e)
front_next p (d ∷ h) c e = elim (eqb_tells (length h) p) [
  | inl w ↦ let dc : d ≡ c = some_same (sym (if_true (length h == p) (Some d) (entry p h) w.0) ∙ e) in
      if_lt (length h) (p + 1) (d ∷ h) (front (p + 1) h) (omega (arith, w.1))
      ∙ ap (λ x. x ∷ h) dc ∙ ap (λ l. c ∷ l) (sym (front_more p d h (omega (arith, w.1)) ∙ subst (λ n. front n h ≡ h) w.1 (front_all h)))
  | inr w ↦ let there : entry p h ≡ Some c = sym (if_false (length h == p) (Some d) (entry p h) w.0) ∙ e in
      let lt = entry_lt p h c there in
      front_more (p + 1) d h (omega arith) ∙ front_next p h c there ∙ ap (λ l. c ∷ l) (sym (front_more p d h (omega arith)))
]

pub eqb_no : (a b : ℕ) → a ≢ b → (a == b) ≡ false
eqb_no a b e = elim (eqb_tells a b) [ inl w ↦ absurd (e w.1) | inr w ↦ w.0 ]

pub eqb_yes : (a b : ℕ) → a ≡ b → (a == b) ≡ true
eqb_yes a b e = elim (eqb_tells a b) [ inl w ↦ w.0 | inr w ↦ absurd (w.1 e) ]

-- the changes of those sources that pass a test
abbrev pub AllOf : (ℕ → Bool) → List Change → Type 0
AllOf test [] = ⊤
AllOf test (c ∷ h) = (test c.num ≡ true) × AllOf test h

pub those_in : (test : ℕ → Bool) (c : Change) (h : List Change) → test c.num ≡ true → of_those test (c ∷ h) ≡ c ∷ of_those test h
those_in test c h e = if_true (test c.num) (c ∷ of_those test h) (of_those test h) e

pub those_out : (test : ℕ → Bool) (c : Change) (h : List Change) → test c.num ≡ false → of_those test (c ∷ h) ≡ of_those test h
those_out test c h e = if_false (test c.num) (c ∷ of_those test h) (of_those test h) e

pub those_more : (test : ℕ → Bool) (cs h : List Change) → AllOf test cs → of_those test (cs ++ h) ≡ cs ++ of_those test h
those_more test [] h a = refl
those_more test (c ∷ cs) h a = those_in test c (cs ++ h) a.0 ∙ ap (λ l. c ∷ l) (those_more test cs h a.1)

pub those_less : (test : ℕ → Bool) (cs h : List Change) → AllOf (λ n. not (test n)) cs → of_those test (cs ++ h) ≡ of_those test h
those_less test [] h a = refl
those_less test (c ∷ cs) h a = those_out test c (cs ++ h) (not_true (test c.num) a.0) ∙ those_less test cs h a.1 where
  not_true : (b : Bool) → not b ≡ true → b ≡ false
  not_true true e = absurd (let bad : false ≡ true = e in cc)
  not_true false e = refl

pub own_all : (i : ℕ) (cs : List Change) → AreFrom i cs → AllOf (λ num. num == i) cs
own_all i [] a = tt
own_all i (c ∷ cs) a = (eqb_yes c.num i a.0.change, own_all i cs a.1)

pub all_of : (test : ℕ → Bool) (i : ℕ) (cs : List Change) → AreFrom i cs → test i ≡ true → AllOf test cs
all_of test i [] a e = tt
all_of test i (c ∷ cs) a e = (ap test a.0.change ∙ e, all_of test i cs a.1 e)

-- a source's own changes
pub own_named : (i : ℕ) (c : Change) (h : List Change) → c.num ≡ i → own i (c ∷ h) ≡ c ∷ own i h
own_named i c h e = those_in (λ num. num == i) c h (eqb_yes c.num i e)

pub own_other : (i : ℕ) (c : Change) (h : List Change) → c.num ≢ i → own i (c ∷ h) ≡ own i h
own_other i c h e = those_out (λ num. num == i) c h (eqb_no c.num i e)

-- ---- contents

reverse_push : (c : Change) (h : List Change) → reverse (c ∷ h) ≡ reverse h ++ c ∷ []
reverse_push c h = reverse-append (c ∷ []) h

by_test : (b : Bool) (x : Option Route) (o : Option (Option Route)) → unwrap_or (cond b (Some x) o) None ≡ (if b then x else unwrap_or o None)
by_test true x o = refl
by_test false x o = refl

-- the content with one more change
pub content_more : (c : Change) (h : List Change) (net : Net) (num : ℕ) → content_of (c ∷ h) net num ≡ (if is_of net num c then c.new else content_of h net num)
content_more c h net num =
    ap (λ l. after empty l net num) (reverse_push c h)
    ∙ ap (λ o. unwrap_or o (empty net num)) (last_of-push net num (reverse h) c)
    ∙ by_test (is_of net num c) c.new (last_of net num (reverse h))

and_left : (a b : Bool) → a ≡ false → (a && b) ≡ false
and_left true b e = absurd (let bad : true ≡ false = e in cc)
and_left false b e = refl

and_right : (a b : Bool) → b ≡ false → (a && b) ≡ false
and_right true b e = e
and_right false b e = refl

pub content_past_net : (c : Change) (h : List Change) (net : Net) (num : ℕ) → c.net ≢ net → content_of (c ∷ h) net num ≡ content_of h net num
content_past_net c h net num other = content_more c h net num ∙ elim (net_tells net c.net) [
  | inl w ↦ absurd (other (sym w.1))
  | inr w ↦ if_false (is_of net num c) c.new (content_of h net num) (and_left (same_net net c.net) (num == c.num) w.0)
]

pub content_past_num : (c : Change) (h : List Change) (net : Net) (num : ℕ) → c.num ≢ num → content_of (c ∷ h) net num ≡ content_of h net num
content_past_num c h net num other = content_more c h net num ∙ elim (eqb_tells num c.num) [
  | inl w ↦ absurd (other (sym w.1))
  | inr w ↦ if_false (is_of net num c) c.new (content_of h net num) (and_right (same_net net c.net) (num == c.num) w.0)
]

-- what stands for a source is what the changes of any sources say among which it is
pub content_those : (test : ℕ → Bool) (net : Net) (i : ℕ) (h : List Change) → test i ≡ true → content_of h net i ≡ content_of (of_those test h) net i
content_those test net i [] e = refl
content_those test net i (c ∷ h) e = elim (test c.num) as (λ b. test c.num ≡ b → content_of (c ∷ h) net i ≡ content_of (of_those test (c ∷ h)) net i) [
  | true ↦ λ q. content_more c h net i
      ∙ elim (is_of net i c) as (λ b. (if b then c.new else content_of h net i) ≡ (if b then c.new else content_of (of_those test h) net i)) [ true ↦ refl | false ↦ content_those test net i h e ]
      ∙ sym (content_more c (of_those test h) net i)
      ∙ ap (λ l. content_of l net i) (sym (those_in test c h q))
  | false ↦ λ q. content_past_num c h net i (λ w. let bad : true ≡ false = sym e ∙ ap test (sym w) ∙ q in cc) ∙ content_those test net i h e ∙ ap (λ l. content_of l net i) (sym (those_out test c h q))
] refl

pub content_own : (net : Net) (i : ℕ) (h : List Change) → content_of h net i ≡ content_of (own i h) net i
content_own net i h = content_those (λ num. num == i) net i h (eqb_yes i i refl)

-- one more change that differs from what stands
pub real_more : (c : Change) (h : List Change) → AreReal h → content_of h c.net c.num ≢ c.new → AreReal (c ∷ h)
real_more c h real differs = subst (IsReal empty) (sym (reverse_push c h)) (IsReal-push empty (reverse h) c real differs)

real_split : (start : Content) (changes : List Change) (c : Change) → IsReal start (changes ++ c ∷ []) → IsReal start changes × (after start changes c.net c.num ≢ c.new)
real_split start [] c r = (tt, r.0)
real_split start (d ∷ changes) c r =
    let s = real_split (after start (d ∷ [])) changes c r.1 in
    ((r.0, s.0), λ e. s.1 (sym (after-append start (d ∷ []) changes c.net c.num) ∙ e))

pub real_less : (c : Change) (h : List Change) → AreReal (c ∷ h) → AreReal h × (content_of h c.net c.num ≢ c.new)
real_less c h real = real_split empty (reverse h) c (subst (IsReal empty) (reverse_push c h) real)
