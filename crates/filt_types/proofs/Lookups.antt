-- What stands for a name: maps and sets of names, and the list of variables.
use Rattle.std.proofs.Common.{◌≡◌, ℕ, zero, suc, arith, ◌+◌, ◌<◌, ◌≤◌, ◌==◌, Bool, true, false, cond, ◌||◌, if◌then◌else◌, List, [], ◌∷◌, map, length, drop, get_or, Option, Some, None, option_map, option_copied, is_some, nat_eq, refl, ap, ◌∙◌, sym, Vec, Bor}
use Rattle.std.proofs.lemmas.Bool.{eq-eqb, eqb-true}
use Rattle.std.specs.Cmp.Lexicographic.{pointwise}
use Rattle.std.specs.Global.{Global}
use Rattle.std.specs.List.{list_any}
use Rattle.std.specs.Map.{lookup}
use Rattle.filt_meaning.specs.Names.{named_in, same_name}
use Rattle.filt_types.specs.Scenes.{is_declared}

abbrev Key : Type 0
Key = Vec ℕ Global

pub same_truth : (b c : Bool) → (b ≡ true → c ≡ true) → (c ≡ true → b ≡ true) → b ≡ c
same_truth true c p q = sym (p refl)
same_truth false true p q = q refl
same_truth false false p q = refl

nat_flip : (a b : ℕ) → nat_eq a b ≡ nat_eq b a
nat_flip a b = same_truth (nat_eq a b) (nat_eq b a) (λ e. eq-eqb b a (sym (eqb-true a b e))) (λ e. eq-eqb a b (sym (eqb-true b a e)))

pub same_flip : (a b : List ℕ) → same_name a b ≡ same_name b a
same_flip [] [] = refl
same_flip [] (y ∷ b) = refl
same_flip (x ∷ a) [] = refl
same_flip (x ∷ a) (y ∷ b) = rw (nat_flip x y, same_flip a b) refl

pub next_item : {A : Type 0} (xs : List A) (i : ℕ) (x : A) → i < length xs → x ≡ get_or xs i x → drop i xs ≡ x ∷ drop (i + 1) xs
next_item [] i x lt is = absurd (omega arith)
next_item (y ∷ ys) zero x lt is = rw is refl
next_item (y ∷ ys) (suc i) x lt is = let e : suc i + 1 ≡ suc (i + 1) = omega arith in rw e (next_item ys i x (omega arith) is)

got_again : {A : Type 0} (xs : List A) (i : ℕ) (d : A) → i < length xs → get_or xs i d ≡ get_or xs i (get_or xs i d)
got_again [] i d lt = absurd (omega arith)
got_again (y ∷ ys) zero d lt = refl
got_again (y ∷ ys) (suc i) d lt = got_again ys i d (omega arith)

pub next_got : {A : Type 0} (xs : List A) (i : ℕ) (d : A) → i < length xs → drop i xs ≡ get_or xs i d ∷ drop (i + 1) xs
next_got xs i d lt = next_item xs i (get_or xs i d) lt (got_again xs i d lt)

pub nothing_left : {A : Type 0} (xs : List A) (i : ℕ) → length xs ≤ i → drop i xs ≡ []
nothing_left [] zero le = refl
nothing_left [] (suc i) le = refl
nothing_left (x ∷ xs) zero le = absurd (omega arith)
nothing_left (x ∷ xs) (suc i) le = nothing_left xs i (omega arith)

by_test : {X Y : Type 0} (f : X → Y) (x : X) (b : Bool) (o : Option X) (p : Option Y) → option_map f o ≡ p → option_map f (cond b (Some x) o) ≡ (if b then Some (f x) else p)
by_test f x true o p h = refl
by_test f x false o p h = h

-- a look-up by the bytes of a key, in a list of names and what stands for them
pub looked_up : {X Y : Type 0} (f : X → Y) (name : List ℕ) (es : List (Key × X)) → option_map f (lookup (λ k. pointwise nat_eq name k.items) es) ≡ named_in (map (λ (e : Key × X). (e.0.items, f e.1)) es) name
looked_up f name [] = refl
looked_up {X = X} {Y = Y} f name (e ∷ es) = by_test f e.1 (same_name name e.0.items) (lookup (λ k. pointwise nat_eq name k.items) es) (named_in (map (λ (e : Key × X). (e.0.items, f e.1)) es) name) (looked_up f name es)
    ∙ ap (λ (b : Bool). if b then Some (f e.1) else named_in (map (λ (e : Key × X). (e.0.items, f e.1)) es) name) (same_flip name e.0.items)

pub lent : {X Y : Type 0} (f : X → Y) (found : Option (Bor X)) (o : Option X) → option_copied found ≡ o → option_map (λ (x : Bor X). f x.now) found ≡ option_map f o
lent f None o is = rw (← is) refl
lent f (Some x) o is = rw (← is) refl

by_key : {X : Type 0} (x : X) (b : Bool) (o : Option X) (c : Bool) → is_some o ≡ c → is_some (cond b (Some x) o) ≡ (b || c)
by_key x true o c h = refl
by_key x false o c h = h

pub is_looked_up : {X Y : Type 0} (f : X → Y) (name : List ℕ) (es : List (Key × X)) → is_some (lookup (λ k. pointwise nat_eq name k.items) es) ≡ is_declared (map (λ (e : Key × X). (e.0.items, f e.1)) es) name
is_looked_up f name [] = refl
is_looked_up {X = X} {Y = Y} f name (e ∷ es) = by_key e.1 (same_name name e.0.items) (lookup (λ k. pointwise nat_eq name k.items) es) (is_declared (map (λ (e : Key × X). (e.0.items, f e.1)) es) name) (is_looked_up f name es)
    ∙ ap (λ (b : Bool). b || is_declared (map (λ (e : Key × X). (e.0.items, f e.1)) es) name) (same_flip name e.0.items)

pub is_among : (name : List ℕ) (ks : List Key) → list_any (λ k. pointwise nat_eq name k.items) ks ≡ list_any (λ n. same_name n name) (map (λ (k : Key). k.items) ks)
is_among name [] = refl
is_among name (k ∷ ks) = rw (same_flip name k.items, is_among name ks) refl

pub or_four : (a b c d e g h i : Bool) → a ≡ e → b ≡ g → c ≡ h → d ≡ i → (((a || b) || c) || d) ≡ (e || g || h || i)
or_four true b c d e g h i p q r s = rw (← p) refl
or_four false true c d e g h i p q r s = rw (← p, ← q) refl
or_four false false true d e g h i p q r s = rw (← p, ← q, ← r) refl
or_four false false false d e g h i p q r s = rw (← p, ← q, ← r, ← s) refl

pub vec_length : {A : Type 0} (v : Vec A Global) → length v.items ≡ v.len
vec_length v = sym v.ok.0

eqb-by : (a b : ℕ) (c : Bool) → (a == b) ≡ c → (a ≡ b → ⊥) → c ≡ false
eqb-by a b true is other = absurd (other (eqb-true a b is))
eqb-by a b false is other = refl

pub eqb-not : (a b : ℕ) → (a ≡ b → ⊥) → (a == b) ≡ false
eqb-not a b other = eqb-by a b (a == b) refl other
