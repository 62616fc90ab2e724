-- The functions that are seen.
use Rattle.std.proofs.Common.{◌≡◌, ℕ, suc, zero, ◌+◌, List, [], ◌∷◌, ◌++◌, length, length-append, append_assoc, Some, refl, sym, ap, ◌∙◌, arith}
use Rattle.std.proofs.lemmas.List.{append-nil}
use Rattle.std.specs.Prelude.{slice_get}
use Rattle.filt_meaning.specs.Names.{Around, Doing}
use Rattle.filt_code.specs.declared.code.Routine.{Routine}
use Rattle.filt_code.specs.Codes.{Setting, doing, setting, with_routine, with_routines}
use Rattle.filt_compile.specs.declared.seen.Seen.{Seen}
use Rattle.filt_compile.specs.Emits.{Sees}

pub around_of : (s : Setting) (rs : List Routine) → (with_routines s rs).around ≡ s.around
around_of s [] = refl
around_of s (r ∷ rs) = around_of (with_routine s (doing s r)) rs

length_of : (s : Setting) (rs : List Routine) → length (with_routines s rs).functions ≡ length s.functions + length rs
length_of s [] = omega arith
length_of s (r ∷ rs) = omega (arith, length_of (with_routine s (doing s r)) rs, length-append s.functions (doing s r ∷ []))

none_before : (n : ℕ) → 0 + n ≡ n
none_before n = omega arith

pub counted : (around : Around) (rs : List Routine) → length (setting around rs).functions ≡ length rs
counted around rs =
    length_of (record { around = around; functions = [] }) rs ∙ none_before (length rs)

-- as many as are seen
pub seen_count : (seen : Seen) (s : Setting) → Sees seen s → length s.functions ≡ length seen.routines.now
seen_count seen s few = ap (λ (ds : List Doing). length ds) few ∙ counted s.around seen.routines.now

-- those of a setting that is made of them
pub sees_setting : (seen : Seen) (around : Around) (rs : List Routine) → seen.routines.now ≡ rs → Sees seen (setting around rs)
sees_setting seen around rs is =
    ap (λ (a : Around). (setting a rs).functions) (sym (around_of (record { around = around; functions = [] }) rs))
    ∙ ap (λ (rs' : List Routine). (setting (setting around rs).around rs').functions) (sym is)

-- ---- one of them

front_of : (s : Setting) (rs : List Routine) → (more : List Doing) × ((with_routines s rs).functions ≡ s.functions ++ more)
front_of s [] = ([], sym (append-nil s.functions))
front_of s (r ∷ rs) =
    let h = front_of (with_routine s (doing s r)) rs in
    (doing s r ∷ h.0, h.1 ∙ append_assoc s.functions (doing s r ∷ []) h.0)

got_behind : (ds more : List Doing) (d : Doing) (n : ℕ) → n ≡ length ds → slice_get (ds ++ d ∷ more) n ≡ Some d
got_behind [] more d zero is = refl
got_behind [] more d (suc n) is = absurd (omega (arith, is))
got_behind (x ∷ ds) more d zero is = absurd (omega (arith, is))
got_behind (x ∷ ds) more d (suc n) is = got_behind ds more d n (omega (arith, is))

found_in : (s : Setting) (rs : List Routine) (n place : ℕ) (r : Routine) → place ≡ length s.functions + n → slice_get rs n ≡ Some r → (t : Setting) × (t.around ≡ s.around) × (slice_get (with_routines s rs).functions place ≡ Some (doing t r))
found_in s [] n place r far is = absurd (cc)
found_in s (x ∷ rs) zero place r far is =
    let same : x ≡ r = cc in
    let h = front_of (with_routine s (doing s x)) rs in
    let e : (with_routines s (x ∷ rs)).functions ≡ s.functions ++ doing s x ∷ h.0 = h.1 ∙ append_assoc s.functions (doing s x ∷ []) h.0 in
    (s, refl, ap (λ (ds : List Doing). slice_get ds place) e ∙ got_behind s.functions h.0 (doing s x) place (omega (arith, far)) ∙ ap (λ (r : Routine). Some (doing s r)) same)
found_in s (x ∷ rs) (suc n) place r far is =
    found_in (with_routine s (doing s x)) rs n place r (omega (arith, far, length-append s.functions (doing s x ∷ []))) is

-- what it does, over those before it
pub function_at : (seen : Seen) (s : Setting) (n : ℕ) (r : Routine) → Sees seen s → slice_get seen.routines.now n ≡ Some r → (t : Setting) × (t.around ≡ s.around) × (slice_get s.functions n ≡ Some (doing t r))
function_at seen s n r few is =
    let empty : Setting = record { around = s.around; functions = [] } in
    let h = found_in empty seen.routines.now n n r (omega arith) is in
    (h.0, h.1, ap (λ (ds : List Doing). slice_get ds n) few ∙ h.2)
