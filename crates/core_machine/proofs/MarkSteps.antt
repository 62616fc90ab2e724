-- Marks by key.
use Rattle.std.proofs.Common.{◌≡◌, ◌≢◌, ℕ, inl, inr, Bool, true, false, List, [], ◌∷◌, Option, Some, None, refl, sym, ◌∙◌, ap, subst}
use Rattle.std.specs.Prelude.{◌||◌, if◌then◌else◌}
use Rattle.export_core.specs.declared.log.Key.{Key}
use Rattle.export_core.specs.Keys.{same_key}
use Rattle.export_core.specs.Marks.{holds}
use Rattle.export_core.proofs.Keys.{key_tells, same_key_itself}
use Rattle.core_machine.specs.Marks.{AreOnce, Marked, find, put, put_all}
use Rattle.core_machine.proofs.Contents.{if_true, if_false}

abbrev pub was_due : Option Marked → Bool
was_due None = false
was_due (Some m) = m.due

pub find_here : (m : Marked) (xs : List Marked) → find m.key (m ∷ xs) ≡ Some m
find_here m xs = if_true (same_key m.key m.key) (Some m) (find m.key xs) (same_key_itself m.key)

pub find_past : (k : Key) (m : Marked) (xs : List Marked) → m.key ≢ k → find k (m ∷ xs) ≡ find k xs
find_past k m xs other = elim (key_tells m.key k) [ inl w ↦ absurd (other w.1) | inr w ↦ if_false (same_key m.key k) (Some m) (find k xs) w.0 ]

or_false : (b : Bool) → (b || false) ≡ b
or_false true = refl
or_false false = refl

-- a mark that was put
pub record IsPut (at : ℕ) (due : Bool) (old new : Option Marked) : Type 0 where
  pub mark : Marked
  pub there : new ≡ Some mark
  pub at_is : mark.at ≡ at
  pub due_is : mark.due ≡ (due || was_due old)

pub find_put : (m : Marked) (xs : List Marked) → IsPut m.at m.due (find m.key xs) (find m.key (put m xs))
find_put m [] = record { mark = m; there = find_here m []; at_is = refl; due_is = sym (or_false m.due) }
find_put m (x ∷ xs) = elim (key_tells x.key m.key) [
  | inl w ↦
      let n : Marked = record m { due = m.due || x.due } in
      let e : put m (x ∷ xs) ≡ n ∷ xs = if_true (same_key x.key m.key) (n ∷ xs) (x ∷ put m xs) w.0 in
      let old : find m.key (x ∷ xs) ≡ Some x = if_true (same_key x.key m.key) (Some x) (find m.key xs) w.0 in
      record { mark = n; there = ap (find m.key) e ∙ find_here n xs; at_is = refl; due_is = ap (λ o. m.due || was_due o) (sym old) }
  | inr w ↦
      let n : Marked = record m { due = m.due || x.due } in
      let e : put m (x ∷ xs) ≡ x ∷ put m xs = if_false (same_key x.key m.key) (n ∷ xs) (x ∷ put m xs) w.0 in
      let p = find_put m xs in
      record { mark = p.mark; there = ap (find m.key) e ∙ find_past m.key x (put m xs) w.1 ∙ p.there; at_is = p.at_is; due_is = p.due_is ∙ ap (λ o. m.due || was_due o) (sym (find_past m.key x xs w.1)) }
]

pub find_put_other : (k : Key) (m : Marked) (xs : List Marked) → m.key ≢ k → find k (put m xs) ≡ find k xs
find_put_other k m [] other = find_past k m [] other
find_put_other k m (x ∷ xs) other =
    let n : Marked = record m { due = m.due || x.due } in
    elim (key_tells x.key m.key) [
      | inl w ↦ ap (find k) (if_true (same_key x.key m.key) (n ∷ xs) (x ∷ put m xs) w.0) ∙ find_past k n xs other ∙ sym (find_past k x xs (λ e. other (sym w.1 ∙ e)))
      | inr w ↦ ap (find k) (if_false (same_key x.key m.key) (n ∷ xs) (x ∷ put m xs) w.0)
          ∙ elim (same_key x.key k) as (λ b. (if b then Some x else find k (put m xs)) ≡ (if b then Some x else find k xs)) [ true ↦ refl | false ↦ find_put_other k m xs other ]
    ]

pub once_put : (m : Marked) (xs : List Marked) → AreOnce xs → AreOnce (put m xs)
once_put m [] o = (refl, tt)
once_put m (x ∷ xs) o =
    let n : Marked = record m { due = m.due || x.due } in
    elim (key_tells x.key m.key) [
      | inl w ↦ subst AreOnce (sym (if_true (same_key x.key m.key) (n ∷ xs) (x ∷ put m xs) w.0)) (subst (λ k. find k xs ≡ None) w.1 o.0, o.1)
      | inr w ↦ subst AreOnce (sym (if_false (same_key x.key m.key) (n ∷ xs) (x ∷ put m xs) w.0)) (find_put_other x.key m xs (λ e. w.1 (sym e)) ∙ o.0, once_put m xs o.1)
    ]

pub once_all : (ks : List Key) (at : ℕ) (due : Bool) (xs : List Marked) → AreOnce xs → AreOnce (put_all ks at due xs)
once_all [] at due xs o = o
once_all (k ∷ ks) at due xs o = once_all ks at due (put (record { key = k; at = at; due = due }) xs) (once_put (record { key = k; at = at; due = due }) xs o)

pub find_out : (k : Key) (ks : List Key) (at : ℕ) (due : Bool) (xs : List Marked) → holds k ks ≡ false → find k (put_all ks at due xs) ≡ find k xs
find_out k [] at due xs e = refl
find_out k (x ∷ ks) at due xs e =
    let m : Marked = record { key = x; at = at; due = due } in
    elim (key_tells x k) [
      | inl w ↦ absurd (let bad : true ≡ false = ap (λ b. b || holds k ks) (sym w.0) ∙ e in cc)
      | inr w ↦ find_out k ks at due (put m xs) (ap (λ b. b || holds k ks) (sym w.0) ∙ e) ∙ find_put_other k m xs w.1
    ]

or_again : (a b : Bool) → (a || (a || b)) ≡ (a || b)
or_again true b = refl
or_again false b = refl

pub find_in : (k : Key) (ks : List Key) (at : ℕ) (due : Bool) (xs : List Marked) → holds k ks ≡ true → IsPut at due (find k xs) (find k (put_all ks at due xs))
find_in k [] at due xs e = absurd (let bad : false ≡ true = e in cc)
find_in k (x ∷ ks) at due xs e =
    let m : Marked = record { key = x; at = at; due = due } in
    elim (key_tells x k) [
      | inl w ↦
          let p = subst (λ q. IsPut at due (find q xs) (find q (put m xs))) w.1 (find_put m xs) in
          elim (holds k ks) as (λ b. holds k ks ≡ b → IsPut at due (find k xs) (find k (put_all ks at due (put m xs)))) [
            | true ↦ λ is. let r = find_in k ks at due (put m xs) is in
                record { mark = r.mark; there = r.there; at_is = r.at_is; due_is = r.due_is ∙ ap (λ o. due || was_due o) p.there ∙ ap (λ b. due || b) p.due_is ∙ or_again due (was_due (find k xs)) }
            | false ↦ λ is. record { mark = p.mark; there = find_out k ks at due (put m xs) is ∙ p.there; at_is = p.at_is; due_is = p.due_is }
          ] refl
      | inr w ↦ subst (λ o. IsPut at due o (find k (put_all ks at due (put m xs)))) (find_put_other k m xs w.1)
          (find_in k ks at due (put m xs) (ap (λ b. b || holds k ks) (sym w.0) ∙ e))
    ]
