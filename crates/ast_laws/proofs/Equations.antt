-- Equations of several arguments, and of lists.
use Rattle.std.proofs.Common.{◌≡◌, List, [], ◌∷◌, ◌++◌, map, refl, ap, ◌∙◌}

pub two : {A B C : Type 0} (f : A → B → C) (a c : A) (b d : B) → a ≡ c → b ≡ d → f a b ≡ f c d
two {A = A} {B = B} f a c b d p q = ap (λ (x : A). f x b) p ∙ ap (λ (x : B). f c x) q

pub three : {A B C D : Type 0} (f : A → B → C → D) (a d : A) (b e : B) (c g : C) → a ≡ d → b ≡ e → c ≡ g → f a b c ≡ f d e g
three {A = A} f a d b e c g p q r = ap (λ (x : A). f x b c) p ∙ two (f d) b e c g q r

pub append_nil : {A : Type 0} (xs : List A) → xs ++ [] ≡ xs
append_nil [] = refl
append_nil {A = A} (x ∷ xs) = ap (λ (ys : List A). x ∷ ys) (append_nil xs)

pub two_maps : {A B C : Type 0} (f : A → B) (g : B → C) (k : A → C) → ((a : A) → g (f a) ≡ k a) → (xs : List A) → map g (map f xs) ≡ map k xs
two_maps f g k same [] = refl
two_maps {C = C} f g k same (x ∷ xs) = ap (λ (y : C). y ∷ map g (map f xs)) (same x) ∙ ap (λ (ys : List C). k x ∷ ys) (two_maps f g k same xs)

pub three_maps : {A B C D : Type 0} (f : A → B) (g : B → C) (h : C → D) (k : A → D) → ((a : A) → h (g (f a)) ≡ k a) → (xs : List A) → map h (map g (map f xs)) ≡ map k xs
three_maps f g h k same [] = refl
three_maps {D = D} f g h k same (x ∷ xs) = ap (λ (y : D). y ∷ map h (map g (map f xs))) (same x) ∙ ap (λ (ys : List D). k x ∷ ys) (three_maps f g h k same xs)
