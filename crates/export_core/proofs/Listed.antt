-- The entries of some keys.
use Rattle.std.proofs.Common.{◌≡◌, Bool, true, false, List, [], ◌∷◌, Option, Some, None, refl, inl, inr, sym, ◌∙◌, ap, cond, is_some, option_map}
use Rattle.std.specs.Prelude.{◌||◌}
use Rattle.std.specs.List.{cons_option, filter}
use Rattle.std.specs.Map.{keys_of}
use Rattle.std.specs.BTreeMap.{is_at}
use Rattle.export_core.specs.declared.log.Key.{Key}
use Rattle.export_core.specs.Keys.{key_cmp, same_key}
use Rattle.export_core.specs.Marks.{at, entries_by, holds}
use Rattle.export_core.proofs.Keys.{is_at_is, key_tells, same_key_flip}

keys_with : {X : Type 0} (k : Key) (es : List (Key × X)) (rest : List Key) (o : Option X) → keys_of es ≡ rest → keys_of (cons_option (option_map (λ v. (k, v)) o) es) ≡ cond (is_some o) (k ∷ rest) rest
keys_with k es rest None e = e
keys_with k es rest (Some v) e = ap (λ l. k ∷ l) e

pub keys_by : {X : Type 0} (f : Key → Option X) (ks : List Key) → keys_of (entries_by f ks) ≡ filter (λ k. is_some (f k)) ks
keys_by f [] = refl
keys_by f (k ∷ ks) = keys_with k (entries_by f ks) (filter (λ k. is_some (f k)) ks) (f k) (keys_by f ks)

none_held : {X : Type 0} (b : Bool) (o : Option X) → o ≡ None → cond b o None ≡ None
none_held true o e = e
none_held false o e = refl

test_here : (k x : Key) (b : Bool) → same_key x k ≡ b → is_at (key_cmp k) x ≡ b
test_here k x b e = is_at_is k x ∙ same_key_flip k x ∙ e

at_named : {X : Type 0} (k x : Key) (es : List (Key × X)) (held : Bool) (there o : Option X) → o ≡ there → same_key x k ≡ true → at k es ≡ cond held there None → at k (cons_option (option_map (λ v. (x, v)) o) es) ≡ there
at_named k x es held there None e s r = r ∙ none_held held there (sym e) ∙ e
at_named k x es held there (Some v) e s r = ap (λ b. cond b (Some v) (at k es)) (test_here k x true s) ∙ e

at_other : {X : Type 0} (k x : Key) (es : List (Key × X)) (there o : Option X) → same_key x k ≡ false → at k es ≡ there → at k (cons_option (option_map (λ v. (x, v)) o) es) ≡ there
at_other k x es there None s r = r
at_other k x es there (Some v) s r = ap (λ b. cond b (Some v) (at k es)) (test_here k x false s) ∙ r

-- what the entries have at a key that stands in the list
pub at_by : {X : Type 0} (f : Key → Option X) (k : Key) (ks : List Key) → at k (entries_by f ks) ≡ cond (holds k ks) (f k) None
at_by f k [] = refl
at_by f k (x ∷ ks) = elim (key_tells x k) [
  | inl w ↦ at_named k x (entries_by f ks) (holds k ks) (f k) (f x) (ap f w.1) w.0 (at_by f k ks) ∙ sym (ap (λ b. cond (b || holds k ks) (f k) None) w.0)
  | inr w ↦ at_other k x (entries_by f ks) (cond (holds k ks) (f k) None) (f x) w.0 (at_by f k ks) ∙ sym (ap (λ b. cond (b || holds k ks) (f k) None) w.0)
]
