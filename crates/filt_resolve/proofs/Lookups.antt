-- Names of constants and functions that are looked up in a map.
use Rattle.std.proofs.Common.{◌≡◌, ℕ, suc, ◌+◌, Bool, true, false, cond, if◌then◌else◌, nat_eq, nat_lt, List, [], ◌∷◌, length, map, Option, Some, None, option_map, position, refl, sym, ap, ◌∙◌, arith, length-append, rules, not, true≢false, Vec}
use Rattle.std.specs.List.{position_or_len}
use Prim.Native.Nat.compare
use Rattle.std.specs.Global.{Global}
use Rattle.std.specs.Map.{keys_of}
use Rattle.std.specs.Cmp.Lexicographic.{pointwise}
use Rattle.conf_ast.specs.declared.named.Name.{Name}
use Rattle.conf_ast.specs.Names.{name_bytes}
use Rattle.filt_meaning.specs.declared.fixed.Fixed.{Fixed}
use Rattle.filt_meaning.specs.Seen.{val_of_fixed}
use Rattle.filt_meaning.specs.Values.{Val}
use Rattle.filt_meaning.specs.Names.{Around, same_name, named_in, constant_of, function_of}
use Rattle.filt_meaning.specs.declared.scope.Scope.{Scope}
use Rattle.filt_meaning.specs.declared.scope.TFunction.{TFunction}
use Rattle.filt_meaning.specs.Scopes.{constant_values, function_trees, tables_of, named, context_of}
use Rattle.filt_meaning.specs.Trees.{Tables, function, with_function, with_functions}
use Rattle.filt_resolve.specs.Seen.{at_place}
use Rattle.filt_items.proofs.Lookups.{is_key}

pub mapped_length : {A B : Type 0} (f : A → B) (xs : List A) → length (map f xs) ≡ length xs
mapped_length f [] = refl
mapped_length f (x ∷ xs) = ap suc (mapped_length f xs)

-- ---- maps

zero_below : (n : ℕ) → nat_lt 0 (suc n) ≡ true
zero_below n = search rules

sucs_below : (p n : ℕ) → nat_lt (1 + p) (suc n) ≡ nat_lt p n
sucs_below p n = let e : 1 + p ≡ suc p = omega arith in rw (e, compare.suc-suc (suc p) n) refl

next_by : (b : Bool) (p : ℕ) → cond b (Some (1 + p)) None ≡ option_map suc (cond b (Some p) None)
next_by true p = ap Some (omega arith)
next_by false p = refl

pub position_next : {K : Type 0} (test : K → Bool) (k : K) (ks : List K) → position test (k ∷ ks) ≡ cond (test k) (Some 0) (option_map suc (position test ks))
position_next test k ks = go (test k) (position_or_len test ks) (length ks)
  where
    go : (b : Bool) (p n : ℕ) → cond (nat_lt (cond (not b) (1 + p) 0) (suc n)) (Some (cond (not b) (1 + p) 0)) None ≡ cond b (Some 0) (option_map suc (cond (nat_lt p n) (Some p) None))
    go true p n = ap (λ (c : Bool). cond c (Some 0) None) (zero_below n)
    go false p n = ap (λ (c : Bool). cond c (Some (1 + p)) None) (sucs_below p n) ∙ next_by (nat_lt p n) p

found_next : {A : Type 0} (a : A) (xs : List A) (o : Option ℕ) → at_place (a ∷ xs) (option_map suc o) ≡ at_place xs o
found_next a xs None = refl
found_next a xs (Some n) = refl

found_by : {A : Type 0} (x : A) (xs : List A) (b c : Bool) → b ≡ c → (o : Option A) (p : Option ℕ) → o ≡ at_place xs p → (if c then Some x else o) ≡ at_place (x ∷ xs) (cond b (Some 0) (option_map suc p))
found_by x xs true true s o p h = refl
found_by x xs true false s o p h = absurd (true≢false s)
found_by x xs false true s o p h = absurd (true≢false (sym s))
found_by x xs false false s o p h = h ∙ sym (found_next x xs p)

-- what is found in a list of names with what they stand for stands at the place of the key
pub found_at : {K X A : Type 0} (test : K → Bool) (f : K → List ℕ) (name : List ℕ) → ((k : K) → test k ≡ same_name (f k) name) → (es : List (K × X)) (xs : List A) → length xs ≡ length es → named_in (named (map (λ e. f e.0) es) xs) name ≡ at_place xs (position test (keys_of es))
found_at test f name same [] [] l = refl
found_at test f name same [] (x ∷ xs) l = absurd (omega arith)
found_at test f name same (e ∷ es) [] l = absurd (omega arith)
found_at test f name same (e ∷ es) (x ∷ xs) l =
    found_by x xs (test e.0) (same_name (f e.0) name) (same e.0) (named_in (named (map (λ e. f e.0) es) xs) name) (position test (keys_of es)) (found_at test f name same es xs (omega arith)) ∙ sym (ap (λ (o : Option ℕ). at_place (x ∷ xs) o) (position_next test e.0 (keys_of es)))

both_named : {K X A : Type 0} (f : K → List ℕ) (g : X → A) (es : List (K × X)) → map (λ e. (f e.0, g e.1)) es ≡ named (map (λ e. f e.0) es) (map g (map (λ e. e.1) es))
both_named f g [] = refl
both_named f g (e ∷ es) = rw (both_named f g es) refl

-- ---- tables

pub constants_stay : (t : Tables) (fs : List TFunction) → (with_functions t fs).constants ≡ t.constants
constants_stay t [] = refl
constants_stay t (f ∷ fs) = constants_stay (with_function t (function t f)) fs

pub around_stays : (t : Tables) (fs : List TFunction) → (with_functions t fs).around ≡ t.around
around_stays t [] = refl
around_stays t (f ∷ fs) = around_stays (with_function t (function t f)) fs

pub functions_length : (t : Tables) (fs : List TFunction) → length (with_functions t fs).functions ≡ length t.functions + length fs
functions_length t [] = omega arith
functions_length t (f ∷ fs) = let d = function t f in functions_length (with_function t d) fs ∙ omega (arith, length-append t.functions (d ∷ []))

pub constants_are : (around : Around) (scope : Scope) → (tables_of around scope).constants ≡ map val_of_fixed (constant_values scope)
constants_are around scope = constants_stay _ (function_trees scope)

pub around_is : (around : Around) (scope : Scope) → (tables_of around scope).around ≡ around
around_is around scope = around_stays _ (function_trees scope)

-- ---- look-ups in a scope

pub constant_found : (text : List ℕ) (around : Around) (scope : Scope) (variables : List (List ℕ)) (name : Name) (key : List ℕ) (r : Option ℕ) → key ≡ name_bytes text name → r ≡ position (λ (k : Vec ℕ Global). pointwise nat_eq key k.items) (keys_of scope.constants.entries)
    → constant_of (context_of text around scope variables) name ≡ at_place (tables_of around scope).constants r
constant_found text around scope variables name key r is at =
    ap (λ (l : List (List ℕ × Val)). named_in l (name_bytes text name)) (both_named (λ (k : Vec ℕ Global). k.items) val_of_fixed scope.constants.entries)
    ∙ found_at (λ (k : Vec ℕ Global). pointwise nat_eq key k.items) (λ (k : Vec ℕ Global). k.items) (name_bytes text name) (is_key key (name_bytes text name) is) scope.constants.entries (map val_of_fixed (constant_values scope)) (mapped_length val_of_fixed (constant_values scope) ∙ mapped_length (λ (e : Vec ℕ Global × Fixed). e.1) scope.constants.entries)
    ∙ ap (λ (xs : List Val). at_place xs (position (λ (k : Vec ℕ Global). pointwise nat_eq key k.items) (keys_of scope.constants.entries))) (sym (constants_are around scope))
    ∙ ap (λ (o : Option ℕ). at_place (tables_of around scope).constants o) (sym at)

pub function_found : (text : List ℕ) (around : Around) (scope : Scope) (variables : List (List ℕ)) (name : Name) (key : List ℕ) (r : Option ℕ) → key ≡ name_bytes text name → r ≡ position (λ (k : Vec ℕ Global). pointwise nat_eq key k.items) (keys_of scope.functions.entries)
    → function_of (context_of text around scope variables) name ≡ at_place (tables_of around scope).functions r
function_found text around scope variables name key r is at =
    found_at (λ (k : Vec ℕ Global). pointwise nat_eq key k.items) (λ (k : Vec ℕ Global). k.items) (name_bytes text name) (is_key key (name_bytes text name) is) scope.functions.entries (tables_of around scope).functions (functions_length (record { around = around; constants = map val_of_fixed (constant_values scope); functions = [] }) (function_trees scope) ∙ omega (arith, mapped_length (λ (e : Vec ℕ Global × TFunction). e.1) scope.functions.entries))
    ∙ ap (λ (o : Option ℕ). at_place (tables_of around scope).functions o) (sym at)
