-- Names that are looked up in a map.
use Rattle.std.proofs.Common.{◌≡◌, ℕ, ◌-◌, Bool, true, false, cond, if◌then◌else◌, nat_eq, List, [], ◌∷◌, map, Option, Some, None, option_map, refl, sym, ap, ◌∙◌, true≢false, Vec, Bor}
use Rattle.std.specs.Global.{Global}
use Rattle.std.specs.Map.{lookup}
use Rattle.std.specs.Cmp.Lexicographic.{pointwise}
use Rattle.std.proofs.lemmas.Cmp.{nat_list_eq_equiv}
use Rattle.std.specs.Option.{option_copied}
use Rattle.conf_ast.specs.declared.named.Name.{Name}
use Rattle.conf_ast.specs.Names.{name_bytes}
use Rattle.filt_meaning.specs.declared.fixed.Fixed.{Fixed}
use Rattle.filt_meaning.specs.Seen.{val_of_fixed}
use Rattle.filt_meaning.specs.Names.{Around, same_name, named_in, constant_of}
use Rattle.filt_meaning.specs.declared.scope.Scope.{Scope}
use Rattle.filt_meaning.specs.Scopes.{context_of}

shown_by : {X A : Type 0} (g : X → A) (x : X) (b c : Bool) → b ≡ c → (o : Option A) (r : Option X) → o ≡ option_map g r → (if c then Some (g x) else o) ≡ option_map g (cond b (Some x) r)
shown_by g x true true s o r h = refl
shown_by g x true false s o r h = absurd (true≢false s)
shown_by g x false true s o r h = absurd (true≢false (sym s))
shown_by g x false false s o r h = h

pub found_in : {K X A : Type 0} (test : K → Bool) (f : K → List ℕ) (g : X → A) (name : List ℕ) → ((k : K) → test k ≡ same_name (f k) name) → (es : List (K × X)) → named_in (map (λ e. (f e.0, g e.1)) es) name ≡ option_map g (lookup test es)
found_in test f g name same [] = refl
found_in test f g name same (e ∷ es) = shown_by g e.1 (test e.0) (same_name (f e.0) name) (same e.0) (named_in (map (λ e. (f e.0, g e.1)) es) name) (lookup test es) (found_in test f g name same es)

pub is_key : (key : List ℕ) (name : List ℕ) → key ≡ name → (k : Vec ℕ Global) → pointwise nat_eq key k.items ≡ same_name k.items name
is_key key name is k = ap (λ (n : List ℕ). pointwise nat_eq n k.items) is ∙ nat_list_eq_equiv.symm name k.items

shown_value : (r : Option (Bor Fixed)) → option_map (λ v. val_of_fixed v.now) r ≡ option_map val_of_fixed (option_copied r)
shown_value None = refl
shown_value (Some v) = refl

pub constant_shown : (text : List ℕ) (around : Around) (scope : Scope) (variables : List (List ℕ)) (name : Name) (key : List ℕ) (r : Option (Bor Fixed)) → key ≡ name_bytes text name → option_copied r ≡ lookup (λ (k : Vec ℕ Global). pointwise nat_eq key k.items) scope.constants.entries
    → option_map (λ v. val_of_fixed v.now) r ≡ constant_of (context_of text around scope variables) name
constant_shown text around scope variables name key r is at =
    shown_value r ∙ ap (λ (o : Option Fixed). option_map val_of_fixed o) at
    ∙ sym (found_in (λ (k : Vec ℕ Global). pointwise nat_eq key k.items) (λ (k : Vec ℕ Global). k.items) val_of_fixed (name_bytes text name) (is_key key (name_bytes text name) is) scope.constants.entries)
