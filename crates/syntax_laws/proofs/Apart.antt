-- No text is spelled in two of the tables.
use Rattle.std.proofs.Common.{◌≡◌, ℕ, Bool, true, false, cond, ◌&&◌, List, [], ◌∷◌, Option, Some, None, refl, sym, ap, subst, ◌∙◌, inl, inr}
use Rattle.std.specs.Bool.{nat_eq}
use Rattle.std.specs.Cmp.Lexicographic.{pointwise, same_text}
use Rattle.std.proofs.lemmas.Bool.{cases_Bool}
use Rattle.conf_ast.specs.declared.attribute.Attribute.{Attribute}
use Rattle.conf_lex.specs.declared.symbol.Symbol.{Symbol}
use Rattle.conf_lex.specs.Attributes.{attribute_of, constant_of, attribute_spellings, constant_spellings}
use Rattle.conf_lex.specs.Symbols.{lookup, symbol_of, spellings}

abbrev is_none : {X : Type 0} → Option X → Bool
is_none None = true
is_none (Some x) = false

none_is : {X : Type 0} → (o : Option X) → is_none o ≡ true → o ≡ None
none_is None h = refl
none_is (Some x) h = absurd cc

both : (a b : Bool) → (a && b) ≡ true → (a ≡ true) × (b ≡ true)
both true b e = (refl, e)
both false b e = absurd cc

-- no spelling of the first table stands in the second
abbrev apart : {X Y : Type 0} → List (List ℕ × X) → List (List ℕ × Y) → Bool
apart [] ys = true
apart (e ∷ es) ys = is_none (lookup e.0 ys) && apart es ys

apart_none : {X Y : Type 0} → (xs : List (List ℕ × X)) (ys : List (List ℕ × Y)) (text : List ℕ) (x : X) → apart xs ys ≡ true → lookup text xs ≡ Some x → lookup text ys ≡ None
apart_none [] ys text x ok found = absurd cc
apart_none {X = X} {Y = Y} (e ∷ es) ys text x ok found = elim (cases_Bool (pointwise nat_eq e.0 text)) [
  | inl is ↦ subst (λ (t : List ℕ). lookup t ys ≡ None) (same_text e.0 text (sym is)) (none_is (lookup e.0 ys) (both _ _ ok).0)
  | inr other ↦ apart_none es ys text x (both _ _ ok).1 (sym (ap (λ (b : Bool). cond b (Some e.1) (lookup text es)) other) ∙ found)
]

pub symbol_apart : (text : List ℕ) (s : Symbol) → symbol_of text ≡ Some s → (attribute_of text ≡ None) × (constant_of text ≡ None)
unfolding symbol_of attribute_of constant_of
symbol_apart text s is = (apart_none spellings attribute_spellings text s refl is, apart_none spellings constant_spellings text s refl is)

pub attribute_apart : (text : List ℕ) (a : Attribute) → attribute_of text ≡ Some a → constant_of text ≡ None
unfolding attribute_of constant_of
attribute_apart text a is = apart_none attribute_spellings constant_spellings text a refl is
