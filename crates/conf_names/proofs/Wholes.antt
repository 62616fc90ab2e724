-- What is refused first in what has several parts.
use Rattle.std.proofs.Common.{◌≡◌, ℕ, Bool, true, false, not, ◌||◌, nat_lt, List, [], ◌∷◌, ◌++◌, map, Option, Some, None, option_map, refl, ap, ◌∙◌}
use Rattle.std.specs.List.{list_any}
use Rattle.conf_ast.specs.declared.named.Name.{Name}
use Rattle.conf_ast.specs.declared.kind.ConfKind.TheVariants as kinds
use Rattle.conf_names.specs.declared.refusal.Refusal.{Refusal}
use Rattle.conf_names.specs.Known.{Known, is_declared}
use Rattle.conf_names.specs.Names.{declaring, most_protocols, name_too_long, place_of}
use Rattle.conf_names.specs.Refusals.{first_in, refused_if}
use Rattle.conf_names.proofs.Firsts.{first_two}

pub first_three : (xs ys zs : List Refusal) (f g h i : Option Refusal) → g ≡ first_in f xs → h ≡ first_in g ys → i ≡ first_in h zs → i ≡ first_in f (xs ++ ys ++ zs)
first_three xs ys zs f g h i p q r = first_two (xs ++ ys) zs f h i (first_two xs ys f g h p q) r

pub first_four : (xs ys zs us : List Refusal) (f g h i j : Option Refusal) → g ≡ first_in f xs → h ≡ first_in g ys → i ≡ first_in h zs → j ≡ first_in i us → j ≡ first_in f (xs ++ ys ++ zs ++ us)
first_four xs ys zs us f g h i j p q r s = first_two (xs ++ ys ++ zs) us f i j (first_three xs ys zs f g h i p q r) s

pub first_five : (xs ys zs us vs : List Refusal) (f g h i j k : Option Refusal) → g ≡ first_in f xs → h ≡ first_in g ys → i ≡ first_in h zs → j ≡ first_in i us → k ≡ first_in j vs → k ≡ first_in f (xs ++ ys ++ zs ++ us ++ vs)
first_five xs ys zs us vs f g h i j k p q r s t = first_two (xs ++ ys ++ zs ++ us) vs f j k (first_four xs ys zs us f g h i j p q r s) t

-- a protocol of which it is told whether one of its names is declared
pub one_more_first : (known : Known) (at place : ℕ) (name : Option Name) (names : List (List ℕ)) (taken full : Bool) (f g h i : Option Refusal) → taken ≡ list_any (is_declared known) names → place ≡ place_of at name → full ≡ not (nat_lt known.protocols most_protocols) → g ≡ first_in f (refused_if taken place kinds.DuplicateName) → h ≡ first_in g (name_too_long known name) → i ≡ first_in h (refused_if full place kinds.Limit) → i ≡ first_in f (declaring known at name names)
one_more_first known at place name names taken full f g h i is here over p q r =
    first_three (refused_if (list_any (is_declared known) names) (place_of at name) kinds.DuplicateName) (name_too_long known name) (refused_if (not (nat_lt known.protocols most_protocols)) (place_of at name) kinds.Limit) f g h i
    (p ∙ ap (λ (b : Bool). first_in f (refused_if b place kinds.DuplicateName)) is ∙ ap (λ (n : ℕ). first_in f (refused_if (list_any (is_declared known) names) n kinds.DuplicateName)) here)
    q
    (r ∙ ap (λ (b : Bool). first_in h (refused_if b place kinds.Limit)) over ∙ ap (λ (n : ℕ). first_in h (refused_if (not (nat_lt known.protocols most_protocols)) n kinds.Limit)) here)

-- ---- truths

pub or_three : (a b c d e g : Bool) → a ≡ d → b ≡ e → c ≡ g → ((a || b) || c) ≡ ((d || e) || g)
or_three a b c d e g p q r = rw (p, q, r) refl

pub or_false : (a : Bool) → (a || false) ≡ a
or_false true = refl
or_false false = refl

-- one of three
pub any_three : {A : Type 0} (p : A → Bool) (x y z : A) (a b c : Bool) → a ≡ p x → b ≡ p y → c ≡ p z → (a || (b || c)) ≡ list_any p (x ∷ y ∷ z ∷ [])
any_three p x y z a b c d e g = rw (d, e, g, or_false (p z)) refl

pub any_viewed : {A B : Type 0} (p : B → Bool) (f : A → B) (xs : List A) → list_any (λ x. p (f x)) xs ≡ list_any p (map f xs)
any_viewed p f [] = refl
any_viewed p f (x ∷ xs) = ap (λ (b : Bool). p (f x) || b) (any_viewed p f xs)

pub option_same : {A : Type 0} (o : Option A) → o ≡ option_map (λ (a : A). a) o
option_same None = refl
option_same (Some a) = refl
