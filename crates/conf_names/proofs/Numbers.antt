-- The names that numbers give, and how many of them can be declared.
use Rattle.std.proofs.Common.{◌≡◌, ℕ, zero, suc, arith, ◌+◌, ◌<◌, ◌≤◌, ◌^◌, ◌==◌, Bool, true, false, ◌||◌, ◌&&◌, if◌then◌else◌, List, [], ◌∷◌, ◌++◌, map, length, length-append, refl, ap, ◌∙◌, sym, decimal, true≢false}
use Rattle.std.specs.List.{list_any}
use Rattle.std.specs.Str.Parse.{digits_value}
use Rattle.std.proofs.lemmas.Bool.{eqb-true, eqb-false}
use Rattle.std.proofs.lemmas.Fmt.{decimal_is_IsNumeral_wide}
use Rattle.indexmap.proofs.IndexTableLemmas.Probe.{pigeonhole}
use Rattle.filt_meaning.specs.Names.{same_name}
use Rattle.filt_types.specs.Scenes as scenes
use Rattle.conf_names.specs.Known.{Known, is_declared}
use Rattle.conf_names.specs.Names.{free_from, free_number, names}
use Rattle.conf_names.proofs.Turns.{any_append, or_apart}

-- ---- texts

decimal_tells : (m n : ℕ) → m < 10 ^ 64 → n < 10 ^ 64 → decimal m ≡ decimal n → m ≡ n
decimal_tells m n p q e = sym (decimal_is_IsNumeral_wide m p).1 ∙ ap (digits_value 10) e ∙ (decimal_is_IsNumeral_wide n q).1

tail_of : List ℕ → List ℕ
tail_of [] = []
tail_of (x ∷ xs) = xs

behind_stem : (stem a b : List ℕ) → stem ++ a ≡ stem ++ b → a ≡ b
unfolding tail_of
behind_stem [] a b e = e
behind_stem (x ∷ stem) a b e = behind_stem stem a b (ap tail_of e)

same_by : (x y : ℕ) (a b : List ℕ) (t : Bool) → (x == y) ≡ t → (t && same_name a b) ≡ true → (same_name a b ≡ true → a ≡ b) → (x ∷ a) ≡ (y ∷ b)
same_by x y a b true is h rest = ap (λ (z : ℕ). z ∷ a) (eqb-true x y is) ∙ ap (λ (c : List ℕ). y ∷ c) (rest h)
same_by x y a b false is h rest = absurd (true≢false (sym h))

same_is : (a b : List ℕ) → same_name a b ≡ true → a ≡ b
same_is [] [] h = refl
same_is [] (y ∷ b) h = absurd (true≢false (sym h))
same_is (x ∷ a) [] h = absurd (true≢false (sym h))
same_is (x ∷ a) (y ∷ b) h = same_by x y a b (x == y) refl h (same_is a b)

-- ---- places of names

abbrev place : List (List ℕ) → List ℕ → ℕ
place [] name = 0
place (n ∷ ns) name = if same_name n name then 0 else suc (place ns name)

abbrev is_among : List (List ℕ) → List ℕ → Bool
is_among ns name = list_any (λ n. same_name n name) ns

below_by : (n : List ℕ) (ns : List (List ℕ)) (name : List ℕ) (t : Bool) → same_name n name ≡ t → (t || is_among ns name) ≡ true → (is_among ns name ≡ true → place ns name < length ns) → (if t then 0 else suc (place ns name)) < suc (length ns)
below_by n ns name true is h rest = omega arith
below_by n ns name false is h rest = let lt = rest h in omega (arith, lt)

place_below : (ns : List (List ℕ)) (name : List ℕ) → is_among ns name ≡ true → place ns name < length ns
place_below [] name h = absurd (true≢false (sym h))
place_below (n ∷ ns) name h = below_by n ns name (same_name n name) refl h (place_below ns name)

tells_by : (n : List ℕ) (ns : List (List ℕ)) (a b : List ℕ) (t u : Bool) → same_name n a ≡ t → same_name n b ≡ u → (t || is_among ns a) ≡ true → (u || is_among ns b) ≡ true → (if t then 0 else suc (place ns a)) ≡ (if u then 0 else suc (place ns b)) → (is_among ns a ≡ true → is_among ns b ≡ true → place ns a ≡ place ns b → a ≡ b) → a ≡ b
tells_by n ns a b true true p q h k e rest = sym (same_is n a p) ∙ same_is n b q
tells_by n ns a b true false p q h k e rest = absurd (omega (arith, e))
tells_by n ns a b false true p q h k e rest = absurd (omega (arith, e))
tells_by n ns a b false false p q h k e rest = rest h k (omega (arith, e))

place_tells : (ns : List (List ℕ)) (a b : List ℕ) → is_among ns a ≡ true → is_among ns b ≡ true → place ns a ≡ place ns b → a ≡ b
place_tells [] a b h k e = absurd (true≢false (sym h))
place_tells (n ∷ ns) a b h k e = tells_by n ns a b (same_name n a) (same_name n b) refl refl h k e (place_tells ns a b)

-- ---- all names that are declared

abbrev all_names : Known → List (List ℕ)
all_names known = map (λ e. e.0) known.scene.constants ++ (map (λ e. e.0) known.scene.functions ++ known.scene.others)

any_names : {A : Type 0} (named : List (List ℕ × A)) (name : List ℕ) → scenes.is_declared named name ≡ is_among (map (λ (e : List ℕ × A). e.0) named) name
any_names [] name = refl
any_names (x ∷ named) name = ap (λ (b : Bool). same_name x.0 name || b) (any_names named name)

declared_among : (known : Known) (name : List ℕ) → is_declared known name ≡ is_among (all_names known) name
declared_among known name = or_apart (scenes.is_declared known.scene.constants name) (scenes.is_declared known.scene.functions name) (is_among known.scene.others name) ∙ sym (
    any_append (λ n. same_name n name) (map (λ e. e.0) known.scene.constants) (map (λ e. e.0) known.scene.functions ++ known.scene.others)
    ∙ ap (λ (b : Bool). is_among (map (λ e. e.0) known.scene.constants) name || b) (any_append (λ n. same_name n name) (map (λ e. e.0) known.scene.functions) known.scene.others)
    ∙ ap (λ (b : Bool). b || (is_among (map (λ e. e.0) known.scene.functions) name || is_among known.scene.others name)) (sym (any_names known.scene.constants name))
    ∙ ap (λ (b : Bool). scenes.is_declared known.scene.constants name || (b || is_among known.scene.others name)) (sym (any_names known.scene.functions name)))

length_names : {A : Type 0} (named : List (List ℕ × A)) → length (map (λ (e : List ℕ × A). e.0) named) ≡ length named
length_names [] = refl
length_names (x ∷ named) = ap (λ (n : ℕ). suc n) (length_names named)

count_names : (known : Known) → length (all_names known) ≡ names known
count_names known =
    let a = length-append (map (λ e. e.0) known.scene.constants) (map (λ e. e.0) known.scene.functions ++ known.scene.others) in
    let b = length-append (map (λ e. e.0) known.scene.functions) known.scene.others in
    let c = length_names known.scene.constants in
    let d = length_names known.scene.functions in
    omega (arith, a, b, c, d)

-- ---- the least number

-- each number before the one that is found gives a declared name
least_by : (known : Known) (stem : List ℕ) (count first n : ℕ) (t : Bool) → is_declared known (stem ++ decimal first) ≡ t → first ≤ n → n < (if t then free_from known stem count (suc first) else first) → (suc first ≤ n → n < free_from known stem count (suc first) → is_declared known (stem ++ decimal n) ≡ true) → is_declared known (stem ++ decimal n) ≡ true
least_by known stem count first n true is from upto rest = by_place (n == first) refl
  where
    by_place : (b : Bool) → (n == first) ≡ b → is_declared known (stem ++ decimal n) ≡ true
    by_place true e = ap (λ (m : ℕ). is_declared known (stem ++ decimal m)) (eqb-true n first e) ∙ is
    by_place false e = rest (omega (arith, from, eqb-false n first e)) upto
least_by known stem count first n false is from upto rest = absurd (omega (arith, from, upto))

pub declared_before : (known : Known) (stem : List ℕ) (count first n : ℕ) → first ≤ n → n < free_from known stem count first → is_declared known (stem ++ decimal n) ≡ true
declared_before known stem zero first n from upto = absurd (omega (arith, from, upto))
declared_before known stem (suc count) first n from upto = least_by known stem count first n (is_declared known (stem ++ decimal first)) refl from upto (declared_before known stem count (suc first) n)

-- what is found isn't declared, or it is the number behind all
found_by : (known : Known) (stem : List ℕ) (count first : ℕ) (t : Bool) → is_declared known (stem ++ decimal first) ≡ t → is_declared known (stem ++ decimal (if t then free_from known stem count (suc first) else first)) ≡ true → (is_declared known (stem ++ decimal (free_from known stem count (suc first))) ≡ true → free_from known stem count (suc first) ≡ suc first + count) → (if t then free_from known stem count (suc first) else first) ≡ first + suc count
found_by known stem count first true is h rest = let e = rest h in omega (arith, e)
found_by known stem count first false is h rest = absurd (true≢false (sym h ∙ is))

last_of_all : (known : Known) (stem : List ℕ) (count first : ℕ) → is_declared known (stem ++ decimal (free_from known stem count first)) ≡ true → free_from known stem count first ≡ first + count
last_of_all known stem zero first h = omega arith
last_of_all known stem (suc count) first h = found_by known stem count first (is_declared known (stem ++ decimal first)) refl h (last_of_all known stem count (suc first))

-- so many names as there are and one more can't all be declared
too_many : (known : Known) (stem : List ℕ) → names known + 1 < 10 ^ 64 → ((n : ℕ) → 1 ≤ n → n ≤ names known + 1 → is_declared known (stem ++ decimal n) ≡ true) → ⊥
too_many known stem small all =
    let among = λ (i : ℕ) (lt : i < names known + 1). sym (declared_among known (stem ++ decimal (i + 1))) ∙ all (i + 1) (omega arith) (omega (arith, lt)) in
    let le = pigeonhole (names known + 1) (names known) (λ i. place (all_names known) (stem ++ decimal (i + 1)))
    (λ i lt. let below = place_below (all_names known) (stem ++ decimal (i + 1)) (among i lt) in omega (arith, below, count_names known))
    (λ i j lt less e. let is = decimal_tells (i + 1) (j + 1) (omega (arith, lt, small)) (omega (arith, less, small)) (behind_stem stem (decimal (i + 1)) (decimal (j + 1)) (place_tells (all_names known) (stem ++ decimal (i + 1)) (stem ++ decimal (j + 1)) (among i lt) (among j less) e)) in omega (arith, is)) in
    omega (arith, le)

up_to : (known : Known) (stem : List ℕ) → is_declared known (stem ++ decimal (free_number known stem)) ≡ true → (n : ℕ) → 1 ≤ n → n ≤ names known + 1 → is_declared known (stem ++ decimal n) ≡ true
up_to known stem taken n from upto = by_last (n == free_number known stem) refl
  where
    by_last : (b : Bool) → (n == free_number known stem) ≡ b → is_declared known (stem ++ decimal n) ≡ true
    by_last true e = ap (λ (m : ℕ). is_declared known (stem ++ decimal m)) (eqb-true n (free_number known stem) e) ∙ taken
    by_last false e = declared_before known stem (names known) 1 n from (omega (arith, upto, last_of_all known stem (names known) 1 taken, eqb-false n (free_number known stem) e))

free_by : (known : Known) (stem : List ℕ) → names known + 1 < 10 ^ 64 → (t : Bool) → is_declared known (stem ++ decimal (free_number known stem)) ≡ t → t ≡ false
free_by known stem small true is = absurd (too_many known stem small (up_to known stem is))
free_by known stem small false is = refl

pub is_free : (known : Known) (stem : List ℕ) → names known + 1 < 10 ^ 64 → is_declared known (stem ++ decimal (free_number known stem)) ≡ false
is_free known stem small = free_by known stem small (is_declared known (stem ++ decimal (free_number known stem))) refl

-- ---- the search for it

pub found_here : (known : Known) (stem : List ℕ) (left number total : ℕ) → 0 < left → is_declared known (stem ++ decimal number) ≡ false → total ≡ free_from known stem left number → total ≡ number
found_here known stem zero number total some free is = absurd (omega (arith, some))
found_here known stem (suc left) number total some free is = is ∙ ap (λ (b : Bool). if b then free_from known stem left (suc number) else number) free

pub found_later : (known : Known) (stem : List ℕ) (left number total less next : ℕ) → 0 < left → is_declared known (stem ++ decimal number) ≡ true → total ≡ free_from known stem left number → left ≡ suc less → next ≡ suc number → total ≡ free_from known stem less next
found_later known stem zero number total less next some taken is down up = absurd (omega (arith, some))
found_later known stem (suc left) number total less next some taken is down up =
    let same : left ≡ less = omega (arith, down) in
    is ∙ ap (λ (b : Bool). if b then free_from known stem left (suc number) else number) taken
    ∙ ap (λ (n : ℕ). free_from known stem n (suc number)) same ∙ ap (λ (n : ℕ). free_from known stem less n) (sym up)
