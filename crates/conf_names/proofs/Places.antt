-- The number of a name among others, and of a table.
use Rattle.std.proofs.Common.{◌≡◌, ℕ, suc, ◌+◌, ◌<◌, ◌≤◌, Bool, true, false, cond, not, nat_eq, nat_lt, if◌then◌else◌, List, [], ◌∷◌, length, map, Option, Some, None, position, refl, sym, ap, ◌∙◌, arith, Vec}
use Rattle.std.proofs.lemmas.List.{length-map}
use Rattle.std.specs.Cmp.Lexicographic.{pointwise}
use Rattle.std.specs.Global.{Global}
use Rattle.std.specs.List.{position_or_len}
use Rattle.std.specs.Map.{keys_of}
use Rattle.std.proofs.lemmas.Option.{none-some, same_Some}
use Rattle.std.proofs.lemmas.Bool.{ltb-false}
use Rattle.bits_ip.specs.declared.address.Family.{Family}
use Rattle.filt_meaning.specs.Names.{named_in, same_name}
use Rattle.filt_types.proofs.Lookups.{same_flip}
use Rattle.conf_names.specs.Known.{Known, known_number, place_in, table_number}

-- ---- numbers of names

abbrev pub Key : Type 0
Key = Vec ℕ Global

abbrev pub is_key : List ℕ → Key → Bool
is_key name k = pointwise nat_eq name k.items

next_place : (b : Bool) (n m : ℕ) → n ≡ m → (if b then 0 else suc n) ≡ cond (not b) (1 + m) 0
next_place true n m is = refl
next_place false n m is = omega (arith, is)

place_found : (name : List ℕ) (ks : List Key) → place_in (map (λ (k : Key). k.items) ks) name ≡ position_or_len (is_key name) ks
place_found name [] = refl
place_found name (k ∷ ks) = ap (λ (b : Bool). if b then 0 else suc (place_in (map (λ (k : Key). k.items) ks) name)) (same_flip k.items name)
    ∙ next_place (same_name name k.items) (place_in (map (λ (k : Key). k.items) ks) name) (position_or_len (is_key name) ks) (place_found name ks)

at_most : (b : Bool) (n m : ℕ) → n ≤ m → (if b then 0 else suc n) ≤ suc m
at_most true n m le = omega arith
at_most false n m le = omega (arith, le)

place_within : (name : List ℕ) (ns : List (List ℕ)) → place_in ns name ≤ length ns
place_within name [] = omega arith
place_within name (n ∷ ns) = at_most (same_name n name) (place_in ns name) (length ns) (place_within name ns)

taken : (p n m : ℕ) → Some n ≡ cond (nat_lt p m) (Some p) None → n ≡ p
taken p n m is = by (nat_lt p m) is
  where
    by : (b : Bool) → Some n ≡ cond b (Some p) None → n ≡ p
    by true h = same_Some n p h
    by false h = absurd (none-some n (sym h))

not_taken : (p m : ℕ) → None ≡ cond (nat_lt p m) (Some p) None → p ≤ m → m ≡ p
not_taken p m is le = by (nat_lt p m) refl is
  where
    by : (b : Bool) → nat_lt p m ≡ b → None ≡ cond b (Some p) None → m ≡ p
    by true lt h = absurd (none-some p h)
    by false lt h = omega (arith, le, ltb-false p m lt)

pub place_is : (name : List ℕ) (ks : List Key) (n : ℕ) → Some n ≡ position (is_key name) ks → n ≡ place_in (map (λ (k : Key). k.items) ks) name
place_is name ks n is = taken (position_or_len (is_key name) ks) n (length ks) is ∙ sym (place_found name ks)

pub place_none : (name : List ℕ) (ks : List Key) → None ≡ position (is_key name) ks → length ks ≡ place_in (map (λ (k : Key). k.items) ks) name
place_none name ks is =
    not_taken (position_or_len (is_key name) ks) (length ks) is (omega (arith, place_found name ks, place_within name (map (λ (k : Key). k.items) ks), length-map ks (λ (k : Key). k.items)))
    ∙ sym (place_found name ks)

fst_mapped : {X : Type 0} (es : List (Key × X)) → map (λ (t : List ℕ × X). t.0) (map (λ (e : Key × X). (e.0.items, e.1)) es) ≡ map (λ (k : Key). k.items) (keys_of es)
fst_mapped [] = refl
fst_mapped (e ∷ es) = ap (λ (l : List (List ℕ)). e.0.items ∷ l) (fst_mapped es)

pub entry_is : {X : Type 0} (name : List ℕ) (es : List (Key × X)) (n : ℕ) → Some n ≡ position (is_key name) (keys_of es) → n ≡ place_in (map (λ (t : List ℕ × X). t.0) (map (λ (e : Key × X). (e.0.items, e.1)) es)) name
entry_is name es n is = place_is name (keys_of es) n is ∙ ap (λ (ns : List (List ℕ)). place_in ns name) (sym (fst_mapped es))

keys_length : {X : Type 0} (es : List (Key × X)) → length (keys_of es) ≡ length es
keys_length [] = refl
keys_length (e ∷ es) = ap suc (keys_length es)

pub entry_none : {X : Type 0} (name : List ℕ) (es : List (Key × X)) (n : ℕ) → None ≡ position (is_key name) (keys_of es) → n ≡ length es → n ≡ place_in (map (λ (t : List ℕ × X). t.0) (map (λ (e : Key × X). (e.0.items, e.1)) es)) name
entry_none name es n is all = all ∙ sym (keys_length es) ∙ place_none name (keys_of es) is ∙ ap (λ (ns : List (List ℕ)). place_in ns name) (sym (fst_mapped es))

-- ---- numbers of tables

abbrev Tables : Type 0
Tables = List (List ℕ × Family)

below_by : (b : Bool) (f g : Family) (rest : Option Family) (place len : ℕ) → (if b then Some g else rest) ≡ Some f → (rest ≡ Some f → place < len) → (if b then 0 else suc place) < suc len
below_by true f g rest place len h again = omega arith
below_by false f g rest place len h again = let lt = again h in omega (arith, lt)

named_below : (ts : Tables) (name : List ℕ) (f : Family) → named_in ts name ≡ Some f → place_in (map (λ t. t.0) ts) name < length ts
named_below [] name f h = absurd (none-some f h)
named_below (t ∷ ts) name f h = below_by (same_name t.0 name) f t.1 (named_in ts name) (place_in (map (λ (x : List ℕ × Family). x.0) ts) name) (length ts) h (named_below ts name f)

number_below : (known : Known) (name : List ℕ) (o : Option Family) (n : ℕ) → named_in known.tables name ≡ o → known_number known name ≡ Some n → n < length known.tables
number_below known name None n none h = absurd (none-some n (sym (ap (λ (o : Option Family). option_number o) none) ∙ h))
  where
    option_number : Option Family → Option ℕ
    option_number None = None
    option_number (Some f) = Some (table_number known name)
number_below known name (Some f) n some h =
    let is : table_number known name ≡ n = same_Some (table_number known name) n (sym (ap (λ (o : Option Family). option_number o) some) ∙ h) in
    omega (arith, is, named_below known.tables name f some)
  where
    option_number : Option Family → Option ℕ
    option_number None = None
    option_number (Some f) = Some (table_number known name)

pub known_below : (known : Known) (name : List ℕ) (n : ℕ) → known_number known name ≡ Some n → n < length known.tables
known_below known name n h = number_below known name (named_in known.tables name) n refl h
