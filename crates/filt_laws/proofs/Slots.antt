-- The variables of a frame with their sorts, which of them a name is, and which values fit.
use Rattle.std.proofs.Common.{◌≡◌, ℕ, suc, Bool, true, false, slice_get, slice_set, List, [], ◌∷◌, ◌++◌, length, take, Option, Some, None, refl, sym, ap, subst}
use Rattle.std.specs.Bool.{⊤}
use Rattle.std.specs.Cmp.Lexicographic.{same_text, other_text}
use Rattle.filt_meaning.specs.declared.value.Sort.{Sort}
use Rattle.filt_meaning.specs.declared.value.Sort.TheVariants as sorts
use Rattle.filt_meaning.specs.Values.{Val, sort_of, default_of}
use Rattle.filt_meaning.specs.Flow.{Frame}
use Rattle.filt_meaning.specs.Meaning.{names_of, defaults}
use Rattle.filt_meaning.specs.Names.{same_name, place_in, or_here, further}
use Rattle.filt_meaning.specs.Names as names
use Rattle.filt_laws.proofs.Refused.{some_is}

-- ---- names

pub name_is : (a b : List ℕ) → same_name a b ≡ true → a ≡ b
name_is a b e = same_text a b (sym e)

pub name_self : (a : List ℕ) → same_name a a ≡ true
name_self a = go (same_name a a) refl
  where
    go : (b : Bool) → same_name a a ≡ b → b ≡ true
    go true e = refl
    go false e = absurd (other_text a a (sym e) refl)

-- ---- sorts by names

-- a variable of a frame: its name, and the sort of its values
abbrev pub Slot : Type 0
Slot = names.Variable

abbrev pub or_sort : Bool → Sort → Option Sort → Option Sort
or_sort here k (Some l) = Some l
or_sort true k None = Some k
or_sort false k None = None

-- the sort of the last variable of that name
abbrev pub slot_in : List Slot → List ℕ → Option Sort
slot_in [] name = None
slot_in (s ∷ ss) name = or_sort (same_name s.0 name) s.1 (slot_in ss name)

-- values of these variables
abbrev pub Fits : List Slot → Frame → Type 0
Fits [] [] = ⊤
Fits [] (v ∷ vs) = ⊥
Fits (s ∷ ss) [] = ⊥
Fits (s ∷ ss) (v ∷ vs) = (sort_of v ≡ s.1) × Fits ss vs

-- where a variable of that name stands, and what may be done there
pub record Place (slots : List Slot) (vals : Frame) (name : List ℕ) (k : Sort) : Type 0 where
  pub place : ℕ
  pub is_place : place_in (names_of slots) name ≡ Some place
  pub held : Val
  pub is_held : slice_get vals place ≡ Some held
  pub of_sort : sort_of held ≡ k
  pub set_fits : (w : Val) → sort_of w ≡ k → Fits slots (slice_set vals place w)

pub no_place : (slots : List Slot) (name : List ℕ) → slot_in slots name ≡ None
    → place_in (names_of slots) name ≡ None
no_place [] name e = refl
no_place (s ∷ ss) name e =
    go (same_name s.0 name) (slot_in ss name) (place_in (names_of ss) name) (no_place ss name) e
  where
    go : (b : Bool) (o : Option Sort) (p : Option ℕ) → (o ≡ None → p ≡ None)
        → or_sort b s.1 o ≡ None → or_here b (further p) ≡ None
    go b (Some l) p h e = absurd (cc)
    go true None p h e = absurd (cc)
    go false None p h e = rw (h refl) refl

further_in : (s : Slot) (ss : List Slot) (v : Val) (vs : Frame) (name : List ℕ) (k : Sort)
    → sort_of v ≡ s.1 → Fits ss vs → Place ss vs name k → Place (s ∷ ss) (v ∷ vs) name k
further_in s ss v vs name k f g p = record {
  place = suc p.place;
  is_place = rw p.is_place refl;
  held = p.held;
  is_held = p.is_held;
  of_sort = p.of_sort;
  set_fits = λ w e. (f, p.set_fits w e);
}

here_in : (s : Slot) (ss : List Slot) (v : Val) (vs : Frame) (name : List ℕ)
    → sort_of v ≡ s.1 → Fits ss vs → same_name s.0 name ≡ true
    → place_in (names_of ss) name ≡ None → Place (s ∷ ss) (v ∷ vs) name s.1
here_in s ss v vs name f g h p = record {
  place = 0;
  is_place = rw (p, h) refl;
  held = v;
  is_held = refl;
  of_sort = f;
  set_fits = λ w e. (e, g);
}

here_or_further : (s : Slot) (ss : List Slot) (v : Val) (vs : Frame) (name : List ℕ) (k : Sort)
    → sort_of v ≡ s.1 → Fits ss vs → (b : Bool) → same_name s.0 name ≡ b
    → (o : Option Sort) → slot_in ss name ≡ o
    → ((l : Sort) → slot_in ss name ≡ Some l → Place ss vs name l)
    → or_sort b s.1 o ≡ Some k → Place (s ∷ ss) (v ∷ vs) name k
here_or_further s ss v vs name k f g b eb (Some l) eo h e =
    subst (λ (k : Sort). Place (s ∷ ss) (v ∷ vs) name k) (some_is l k e)
    (further_in s ss v vs name l f g (h l eo))
here_or_further s ss v vs name k f g true eb None eo h e =
    subst (λ (k : Sort). Place (s ∷ ss) (v ∷ vs) name k) (some_is s.1 k e)
    (here_in s ss v vs name f g eb (no_place ss name eo))
here_or_further s ss v vs name k f g false eb None eo h e = absurd (cc)

pub place_found : (slots : List Slot) (vals : Frame) (name : List ℕ) (k : Sort)
    → slot_in slots name ≡ Some k → Fits slots vals → Place slots vals name k
place_found [] vals name k e f = absurd (cc)
place_found (s ∷ ss) [] name k e f = absurd f
place_found (s ∷ ss) (v ∷ vs) name k e f =
    here_or_further s ss v vs name k f.0 f.1 (same_name s.0 name) refl (slot_in ss name) refl
    (λ l eq. place_found ss vs name l eq f.1) e

-- ---- frames

pub fits_append : (slots more : List Slot) (vals others : Frame) → Fits slots vals
    → Fits more others → Fits (slots ++ more) (vals ++ others)
fits_append [] more [] others f g = g
fits_append [] more (v ∷ vs) others f g = absurd f
fits_append (s ∷ ss) more [] others f g = absurd f
fits_append (s ∷ ss) more (v ∷ vs) others f g = (f.0, fits_append ss more vs others f.1 g)

pub fits_length : (slots : List Slot) (vals : Frame) → Fits slots vals
    → length vals ≡ length slots
fits_length [] [] f = refl
fits_length [] (v ∷ vs) f = absurd f
fits_length (s ∷ ss) [] f = absurd f
fits_length (s ∷ ss) (v ∷ vs) f = ap suc (fits_length ss vs f.1)

pub fits_take : (slots more : List Slot) (after : Frame) → Fits (slots ++ more) after
    → Fits slots (take (length slots) after)
fits_take [] more after f = tt
fits_take (s ∷ ss) more [] f = absurd f
fits_take (s ∷ ss) more (v ∷ vs) f = (f.0, fits_take ss more vs f.1)

pub default_sort : (k : Sort) → sort_of (default_of k) ≡ k
default_sort sorts.Int = refl
default_sort _ = refl

pub fits_defaults : (own : List Slot) → Fits own (defaults own)
fits_defaults [] = tt
fits_defaults (s ∷ ss) = (default_sort s.1, fits_defaults ss)
