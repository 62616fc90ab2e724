-- Lists of changes, one after another.
use Rattle.std.proofs.Common.{◌≡◌, ◌≢◌, ℕ, Bool, true, false, cond, List, [], ◌∷◌, ◌++◌, Option, Some, None, refl, sym, ap, ◌∙◌}
use Rattle.std.specs.Prelude.{unwrap_or}
use Rattle.bits_ip.specs.Prefix.{Net}
use Rattle.attrs.specs.declared.route.Route.{Route}
use Rattle.attrs.specs.declared.route.Change.{Change}
use Rattle.attrs.specs.History.{Content, is_of, or_else, last_of, after, IsReal}

or_else_assoc : {X : Type 0} → (a b c : Option X) → or_else (or_else a b) c ≡ or_else a (or_else b c)
or_else_assoc None b c = refl
or_else_assoc (Some x) b c = refl

or_else_none : {X : Type 0} → (a : Option X) → or_else a None ≡ a
or_else_none None = refl
or_else_none (Some x) = refl

-- the last change of a key in two lists is the second's, or else the first's
pub last_of-append : (net : Net) (num : ℕ) (first later : List Change) → last_of net num (first ++ later) ≡ or_else (last_of net num later) (last_of net num first)
last_of-append net num [] later = sym (or_else_none (last_of net num later))
last_of-append net num (c ∷ cs) later =
    let this : Option (Option Route) = cond (is_of net num c) (Some c.new) None in
    ap (λ o. or_else o this) (last_of-append net num cs later) ∙ or_else_assoc (last_of net num later) (last_of net num cs) this

or_else_if : {X : Type 0} → (b : Bool) (x : X) (other : Option X) → or_else (cond b (Some x) None) other ≡ cond b (Some x) other
or_else_if true x other = refl
or_else_if false x other = refl

-- the last change of a key, with one more change
pub last_of-push : (net : Net) (num : ℕ) (changes : List Change) (c : Change) → last_of net num (changes ++ c ∷ []) ≡ cond (is_of net num c) (Some c.new) (last_of net num changes)
last_of-push net num changes c = last_of-append net num changes (c ∷ []) ∙ or_else_if (is_of net num c) c.new (last_of net num changes)

or_else_default : {X : Type 0} → (a b : Option X) (x : X) → unwrap_or (or_else a b) x ≡ unwrap_or a (unwrap_or b x)
or_else_default None b x = refl
or_else_default (Some y) b x = refl

-- the content after two lists is that after the second, from the content after the first
pub after-append : (start : Content) (first later : List Change) (net : Net) (num : ℕ) → after start (first ++ later) net num ≡ after (after start first) later net num
after-append start first later net num =
    ap (λ o. unwrap_or o (start net num)) (last_of-append net num first later)
    ∙ or_else_default (last_of net num later) (last_of net num first) (start net num)

-- a list stays real with one more change that differs from what stands for its key
pub IsReal-push : (start : Content) (changes : List Change) (c : Change) → IsReal start changes → (after start changes c.net c.num ≢ c.new) → IsReal start (changes ++ c ∷ [])
IsReal-push start [] c real differs = (differs, tt)
IsReal-push start (h ∷ hs) c real differs =
    (real.0, IsReal-push (after start (h ∷ [])) hs c real.1 (λ same. differs (after-append start (h ∷ []) hs c.net c.num ∙ same)))
