-- Which variable of a frame a name is that is seen, and that a name that is declared is another.
use Rattle.std.proofs.Common.{◌≡◌, ℕ, Bool, true, false, ◌||◌, if◌then◌else◌, List, [], ◌∷◌, ◌++◌, map, Option, Some, None, refl, sym, ap, ◌∙◌, subst, append_assoc, append-nil, true≢false}
use Rattle.std.specs.Bool.{⊤}
use Rattle.std.specs.List.{list_any}
use Rattle.filt_meaning.specs.declared.value.Sort.{Sort}
use Rattle.filt_meaning.specs.Names.{same_name, named_in}
use Rattle.filt_types.specs.Scenes.{Scene, Variable, Variables, variable_in, is_declared, is_seen}
use Rattle.filt_laws.proofs.Refused.{some_is}
use Rattle.filt_laws.proofs.Slots.{Slot, slot_in, or_sort, name_is, name_self}

-- a variable that isn't a loop's
abbrev pub var : Slot → Variable
var s = record { name = s.0; sort = s.1; of_loop = false }

abbrev pub vars : List Slot → Variables
vars slots = map var slots

-- What is seen is in the frame, at the last place of its name; a constant isn't.
pub record Sees (scene : Scene) (vs : Variables) (slots : List Slot) : Type 0 where
  pub variables : (name : List ℕ) (v : Variable) → variable_in vs name ≡ Some v
      → slot_in slots name ≡ Some v.sort
  pub constants : (name : List ℕ) → is_declared scene.constants name ≡ true
      → slot_in slots name ≡ None

-- the frame has these variables
abbrev pub Hosts : List Slot → List Slot → Type 0
Hosts slots [] = ⊤
Hosts slots (d ∷ ds) = (slot_in slots d.0 ≡ Some d.1) × Hosts slots ds

-- each of these isn't seen where it is declared
abbrev pub Fresh : Scene → Variables → List Slot → Type 0
Fresh scene vs [] = ⊤
Fresh scene vs (d ∷ ds) = (is_seen scene vs d.0 ≡ false) × Fresh scene (vs ++ var d ∷ []) ds

-- ---- what is seen

any_push : (f : Variable → Bool) (vs : Variables) (x : Variable)
    → list_any f (vs ++ x ∷ []) ≡ (f x || list_any f vs)
any_push f [] x = refl
any_push f (v ∷ vs) x = rw (any_push f vs x) (flip_or (f v) (f x) (list_any f vs))
  where
    flip_or : (a b c : Bool) → (a || (b || c)) ≡ (b || (a || c))
    flip_or true true c = refl
    flip_or true false c = refl
    flip_or false b c = refl

seen_push : (scene : Scene) (vs : Variables) (x : Variable) (name : List ℕ)
    → is_seen scene (vs ++ x ∷ []) name ≡ (same_name x.name name || is_seen scene vs name)
seen_push scene vs x name =
    rw (any_push (λ (v : Variable). same_name v.name name) vs x)
    (go (same_name x.name name) _ _ _ _)
  where
    go : (a b c d e : Bool) → ((((a || b) || c) || d) || e) ≡ (a || (((b || c) || d) || e))
    go true b c d e = refl
    go false b c d e = refl

or_right : (a b : Bool) → b ≡ true → (a || b) ≡ true
or_right true b e = refl
or_right false b e = e

or_left : (a b : Bool) → a ≡ true → (a || b) ≡ true
or_left true b e = refl
or_left false b e = absurd (cc)

pub seen_more : (scene : Scene) (vs : Variables) (x : Variable) (name : List ℕ)
    → is_seen scene vs name ≡ true → is_seen scene (vs ++ x ∷ []) name ≡ true
seen_more scene vs x name e =
    seen_push scene vs x name ∙ or_right (same_name x.name name) (is_seen scene vs name) e

pub seen_here : (scene : Scene) (vs : Variables) (x : Variable)
    → is_seen scene (vs ++ x ∷ []) x.name ≡ true
seen_here scene vs x =
    seen_push scene vs x x.name
    ∙ or_left (same_name x.name x.name) (is_seen scene vs x.name) (name_self x.name)

variable_any : (vs : Variables) (name : List ℕ) (v : Variable) → variable_in vs name ≡ Some v
    → list_any (λ (w : Variable). same_name w.name name) vs ≡ true
variable_any [] name v e = absurd (cc)
variable_any (w ∷ vs) name v e = go (same_name w.name name) e (variable_any vs name v)
  where
    go : (b : Bool) → (if b then Some w else variable_in vs name) ≡ Some v
        → (variable_in vs name ≡ Some v
        → list_any (λ (w : Variable). same_name w.name name) vs ≡ true)
        → (b || list_any (λ (w : Variable). same_name w.name name) vs) ≡ true
    go true e h = refl
    go false e h = h e

pub variable_seen : (scene : Scene) (vs : Variables) (name : List ℕ) (v : Variable)
    → variable_in vs name ≡ Some v → is_seen scene vs name ≡ true
variable_seen scene vs name v e =
    rw (variable_any vs name v e) refl

pub constant_seen : (scene : Scene) (vs : Variables) (name : List ℕ)
    → is_declared scene.constants name ≡ true → is_seen scene vs name ≡ true
constant_seen scene vs name e = rw e (go (list_any (λ (v : Variable). same_name v.name name) vs) _ _)
  where
    go : (a c d : Bool) → (((a || true) || c) || d) ≡ true
    go true c d = refl
    go false c d = refl

pub named_declared : {A : Type 0} (xs : List (List ℕ × A)) (name : List ℕ) (a : A)
    → named_in xs name ≡ Some a → is_declared xs name ≡ true
named_declared [] name a e = absurd (cc)
named_declared (x ∷ xs) name a e = go (same_name x.0 name) e (named_declared xs name a)
  where
    go : (b : Bool) → (if b then Some x.1 else named_in xs name) ≡ Some a
        → (named_in xs name ≡ Some a → is_declared xs name ≡ true)
        → (b || is_declared xs name) ≡ true
    go true e h = refl
    go false e h = h e

-- ---- fresh names

-- a name that is seen isn't one of those that are declared
other_name : (scene : Scene) (vs : Variables) (a b : List ℕ) → is_seen scene vs a ≡ false
    → is_seen scene vs b ≡ true → same_name a b ≡ false
other_name scene vs a b f s = go (same_name a b) refl
  where
    go : (t : Bool) → same_name a b ≡ t → t ≡ false
    go false e = refl
    go true e =
        absurd
        (true≢false (sym s ∙ ap (λ (n : List ℕ). is_seen scene vs n) (sym (name_is a b e)) ∙ f))

pub not_later : (scene : Scene) (vs : Variables) (ds : List Slot) (name : List ℕ)
    → Fresh scene vs ds → is_seen scene vs name ≡ true → slot_in ds name ≡ None
not_later scene vs [] name f s = refl
not_later scene vs (d ∷ ds) name f s =
    let rest : slot_in ds name ≡ None =
    not_later scene (vs ++ var d ∷ []) ds name f.1 (seen_more scene vs (var d) name s) in
    let other : same_name d.0 name ≡ false = other_name scene vs d.0 name f.0 s in
    rw (rest, other) refl

pub slot_before : (slots own : List Slot) (name : List ℕ) → slot_in own name ≡ None
    → slot_in (slots ++ own) name ≡ slot_in slots name
slot_before [] own name e = e
slot_before (s ∷ ss) own name e =
    ap (λ (o : Option Sort). or_sort (same_name s.0 name) s.1 o) (slot_before ss own name e)

pub slot_behind : (slots own : List Slot) (name : List ℕ) (k : Sort) → slot_in own name ≡ Some k
    → slot_in (slots ++ own) name ≡ Some k
slot_behind [] own name k e = e
slot_behind (s ∷ ss) own name k e =
    ap (λ (o : Option Sort). or_sort (same_name s.0 name) s.1 o) (slot_behind ss own name k e)

pub fresh_append : (scene : Scene) (vs : Variables) (ds es : List Slot) → Fresh scene vs ds
    → Fresh scene (vs ++ vars ds) es → Fresh scene vs (ds ++ es)
fresh_append scene vs [] es f g =
    subst (λ (ws : Variables). Fresh scene ws es) (append-nil vs) g
fresh_append scene vs (d ∷ ds) es f g = (
  f.0,
  fresh_append scene (vs ++ var d ∷ []) ds es f.1
      (subst (λ (ws : Variables). Fresh scene ws es)
      (sym (append_assoc vs (var d ∷ []) (vars ds))) g),
)

pub fresh_before : (scene : Scene) (vs ws : Variables) (ds : List Slot)
    → ((name : List ℕ) → is_seen scene ws name ≡ true → is_seen scene vs name ≡ true)
    → Fresh scene vs ds → Fresh scene ws ds
fresh_before scene vs ws [] h f = tt
fresh_before scene vs ws (d ∷ ds) h f = (
  unseen d.0 f.0,
  fresh_before scene (vs ++ var d ∷ []) (ws ++ var d ∷ []) ds
      (λ name e. pushed name e) f.1,
)
  where
    unseen : (name : List ℕ) → is_seen scene vs name ≡ false → is_seen scene ws name ≡ false
    unseen name e = go (is_seen scene ws name) refl
      where
        go : (b : Bool) → is_seen scene ws name ≡ b → b ≡ false
        go false eb = refl
        go true eb = absurd (true≢false (sym (h name eb) ∙ e))

    pushed : (name : List ℕ) → is_seen scene (ws ++ var d ∷ []) name ≡ true
        → is_seen scene (vs ++ var d ∷ []) name ≡ true
    pushed name e =
        seen_push scene vs (var d) name
        ∙ go (same_name d.0 name) (is_seen scene ws name)
        (sym (seen_push scene ws (var d) name) ∙ e) (h name)
      where
        go : (a b : Bool) → (a || b) ≡ true → (b ≡ true → is_seen scene vs name ≡ true)
            → (a || is_seen scene vs name) ≡ true
        go true b e k = refl
        go false b e k = k e

-- ---- the variables of blocks and loops

pub sees_within : (scene : Scene) (vs : Variables) (slots own : List Slot) → Sees scene vs slots
    → Fresh scene vs own → Sees scene vs (slots ++ own)
sees_within scene vs slots own s f = record {
  variables = λ name v e.
      slot_before slots own name
      (not_later scene vs own name f (variable_seen scene vs name v e)) ∙ s.variables name v e;
  constants = λ name e.
      slot_before slots own name
      (not_later scene vs own name f (constant_seen scene vs name e)) ∙ s.constants name e;
}

pub hosts_own : (scene : Scene) (vs : Variables) (front own : List Slot) → Fresh scene vs own
    → Hosts (front ++ own) own
hosts_own scene vs front [] f = tt
hosts_own scene vs front (d ∷ ds) f =
    let later : slot_in ds d.0 ≡ None =
    not_later scene (vs ++ var d ∷ []) ds d.0 f.1 (seen_here scene vs (var d)) in
    let here : slot_in (d ∷ ds) d.0 ≡ Some d.1 = rw (later, name_self d.0) refl in (
      slot_behind front (d ∷ ds) d.0 d.1 here,
      subst (λ (slots : List Slot). Hosts slots ds) (append_assoc front (d ∷ []) ds)
          (hosts_own scene (vs ++ var d ∷ []) (front ++ d ∷ []) ds f.1),
    )

-- the variable of a loop is none of those that its body declares for the block round it
pub hosts_loop : (scene : Scene) (vs : Variables) (slots : List Slot) (i : Slot) (ds : List Slot)
    → is_seen scene vs i.0 ≡ true → Fresh scene vs ds → Hosts slots ds
    → Hosts (slots ++ i ∷ []) ds
hosts_loop scene vs slots i [] s f h = tt
hosts_loop scene vs slots i (d ∷ ds) s f h =
    let other : same_name i.0 d.0 ≡ false = seen_other in
    let none : slot_in (i ∷ []) d.0 ≡ None = rw other refl in (
      slot_before slots (i ∷ []) d.0 none ∙ h.0,
      hosts_loop scene (vs ++ var d ∷ []) slots i ds (seen_more scene vs (var d) i.0 s) f.1 h.1,
    )
  where
    seen_other : same_name i.0 d.0 ≡ false
    seen_other = go (same_name i.0 d.0) refl
      where
        go : (t : Bool) → same_name i.0 d.0 ≡ t → t ≡ false
        go false e = refl
        go true e =
            absurd
            (true≢false (sym s ∙ ap (λ (n : List ℕ). is_seen scene vs n) (name_is i.0 d.0 e) ∙ f.0))

abbrev or_variable : Option Variable → Bool → Variable → Option Variable
or_variable (Some w) b x = Some w
or_variable None true x = Some x
or_variable None false x = None

variable_push : (vs : Variables) (x : Variable) (name : List ℕ)
    → variable_in (vs ++ x ∷ []) name
    ≡ or_variable (variable_in vs name) (same_name x.name name) x
variable_push [] x name = go (same_name x.name name)
  where
    go : (b : Bool) → (if b then Some x else None) ≡ or_variable None b x
    go true = refl
    go false = refl
variable_push (v ∷ vs) x name = go (same_name v.name name) (variable_push vs x name)
  where
    go : (b : Bool)
        → variable_in (vs ++ x ∷ []) name
        ≡ or_variable (variable_in vs name) (same_name x.name name) x
        → (if b then Some v else variable_in (vs ++ x ∷ []) name)
        ≡ or_variable (if b then Some v else variable_in vs name) (same_name x.name name) x
    go true e = refl
    go false e = e

pub sees_push : (scene : Scene) (vs : Variables) (slots : List Slot) (x : Variable)
    → Sees scene vs slots → slot_in slots x.name ≡ Some x.sort
    → Sees scene (vs ++ x ∷ []) slots
sees_push scene vs slots x s h = record {
  variables = λ name v e.
      go name v (variable_in vs name) refl (same_name x.name name) refl
      (sym (variable_push vs x name) ∙ e);
  constants = s.constants;
}
  where
    go : (name : List ℕ) (v : Variable) (o : Option Variable) → variable_in vs name ≡ o
        → (b : Bool) → same_name x.name name ≡ b → or_variable o b x ≡ Some v
        → slot_in slots name ≡ Some v.sort
    go name v (Some w) eo b eb e = s.variables name v (eo ∙ e)
    go name v None eo true eb e =
        ap (λ (n : List ℕ). slot_in slots n) (sym (name_is x.name name eb))
        ∙ h ∙ ap (λ (y : Variable). Some y.sort) (some_is x v e)
    go name v None eo false eb e = absurd (cc)

pub sees_more : (scene : Scene) (vs : Variables) (slots ds : List Slot) → Sees scene vs slots
    → Hosts slots ds → Sees scene (vs ++ vars ds) slots
sees_more scene vs slots [] s h =
    subst (λ (ws : Variables). Sees scene ws slots) (sym (append-nil vs)) s
sees_more scene vs slots (d ∷ ds) s h =
    subst (λ (ws : Variables). Sees scene ws slots) (append_assoc vs (var d ∷ []) (vars ds))
    (sees_more scene (vs ++ var d ∷ []) slots ds (sees_push scene vs slots (var d) s h.0) h.1)

pub hosts_front : (slots ds es : List Slot) → Hosts slots (ds ++ es) → Hosts slots ds
hosts_front slots [] es h = tt
hosts_front slots (d ∷ ds) es h = (h.0, hosts_front slots ds es h.1)

pub hosts_back : (slots ds es : List Slot) → Hosts slots (ds ++ es) → Hosts slots es
hosts_back slots [] es h = h
hosts_back slots (d ∷ ds) es h = hosts_back slots ds es h.1

pub sees_nothing : (scene : Scene) → Sees scene [] []
sees_nothing scene = record {
  variables = λ name v e. absurd (cc);
  constants = λ name e. refl;
}
