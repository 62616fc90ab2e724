-- The first word of an option tells which it is.
use Rattle.std.proofs.Common.{◌≡◌, ◌∙◌, sym, ap, refl, ℕ, ◌+◌, ◌==◌, Bool, true, cond, List, [], ◌∷◌, ◌++◌, length, arith}
use Rattle.std.specs.Prelude.{codes, not}
use Rattle.std.specs.List.{list_all}
use Rattle.queries.specs.declared.parts.Label.{Label}
use Rattle.queries.specs.declared.parts.Label.TheVariants as labels
use Rattle.queries.specs.Question.{Part, Table, Protocol, Export, Filter, Primary, All, Count, part_words}
use Rattle.queries.specs.Inside.{label_text}

pub heads_same : (a b : List ℕ) (xs ys : List (List ℕ)) → a ∷ xs ≡ b ∷ ys → a ≡ b
heads_same a b xs ys same = cc

pub tails_same : (a b : List ℕ) (xs ys : List (List ℕ)) → a ∷ xs ≡ b ∷ ys → xs ≡ ys
tails_same a b xs ys same = cc

pub none_is_some : (a : List ℕ) (xs : List (List ℕ)) → a ∷ xs ≡ [] → ⊥
none_is_some a xs same = cc

-- the first byte and the length tell the words apart
pub mark : List ℕ → ℕ
mark [] = 0
mark (b ∷ more) = b + length (b ∷ more)

marked : ℕ → Label
marked n = cond (n == 121) labels.Table (cond (n == 120) labels.Protocol (cond (n == 107) labels.Export (cond (n == 108) labels.Filter
    (cond (n == 119) labels.Primary (cond (n == 100) labels.All labels.Count)))))

marked_label : (l : Label) → marked (mark (label_text l)) ≡ l
unfolding mark marked
marked_label labels.Table = refl
marked_label labels.Protocol = refl
marked_label labels.Export = refl
marked_label labels.Filter = refl
marked_label labels.Primary = refl
marked_label labels.All = refl
marked_label labels.Count = refl

pub labels_same : (l m : Label) → label_text l ≡ label_text m → l ≡ m
labels_same l m same = sym (marked_label l) ∙ ap (λ (w : List ℕ). marked (mark w)) same ∙ marked_label m

pub where_is_no_label : (l : Label) → codes "where" ≡ label_text l → ⊥
unfolding mark
where_is_no_label labels.Table same = omega (arith, ap mark same)
where_is_no_label labels.Protocol same = omega (arith, ap mark same)
where_is_no_label labels.Export same = omega (arith, ap mark same)
where_is_no_label labels.Filter same = omega (arith, ap mark same)
where_is_no_label labels.Primary same = omega (arith, ap mark same)
where_is_no_label labels.All same = omega (arith, ap mark same)
where_is_no_label labels.Count same = omega (arith, ap mark same)

pub for_is_no_label : (l : Label) → codes "for" ≡ label_text l → ⊥
unfolding mark
for_is_no_label labels.Table same = omega (arith, ap mark same)
for_is_no_label labels.Protocol same = omega (arith, ap mark same)
for_is_no_label labels.Export same = omega (arith, ap mark same)
for_is_no_label labels.Filter same = omega (arith, ap mark same)
for_is_no_label labels.Primary same = omega (arith, ap mark same)
for_is_no_label labels.All same = omega (arith, ap mark same)
for_is_no_label labels.Count same = omega (arith, ap mark same)

pub in_is_no_label : (l : Label) → codes "in" ≡ label_text l → ⊥
in_is_no_label labels.Table same = omega (arith, ap length same)
in_is_no_label labels.Protocol same = omega (arith, ap length same)
in_is_no_label labels.Export same = omega (arith, ap length same)
in_is_no_label labels.Filter same = omega (arith, ap length same)
in_is_no_label labels.Primary same = omega (arith, ap length same)
in_is_no_label labels.All same = omega (arith, ap length same)
in_is_no_label labels.Count same = omega (arith, ap length same)

pub for_is_not_where : codes "for" ≡ codes "where" → ⊥
for_is_not_where same = omega (arith, ap length same)

pub in_is_not_where : codes "in" ≡ codes "where" → ⊥
in_is_not_where same = omega (arith, ap length same)

pub for_is_not_in : codes "for" ≡ codes "in" → ⊥
for_is_not_in same = omega (arith, ap length same)

-- no byte of a word is a slash
abbrev pub is_no_slash : ℕ → Bool
is_no_slash b = not (b == 47)

abbrev pub has_no_slash : List ℕ → Bool
has_no_slash word = list_all is_no_slash word

pub label_has_no_slash : (l : Label) → has_no_slash (label_text l) ≡ true
label_has_no_slash labels.Table = refl
label_has_no_slash labels.Protocol = refl
label_has_no_slash labels.Export = refl
label_has_no_slash labels.Filter = refl
label_has_no_slash labels.Primary = refl
label_has_no_slash labels.All = refl
label_has_no_slash labels.Count = refl

-- ---- options

abbrev pub label_for : Part → Label
label_for (Table name) = labels.Table
label_for (Protocol name) = labels.Protocol
label_for (Export name) = labels.Export
label_for (Filter name) = labels.Filter
label_for Primary = labels.Primary
label_for All = labels.All
label_for Count = labels.Count

-- the words behind the first
abbrev pub name_words : Part → List (List ℕ)
name_words (Table name) = name ∷ []
name_words (Protocol name) = name ∷ []
name_words (Export name) = name ∷ []
name_words (Filter name) = name ∷ []
name_words Primary = []
name_words All = []
name_words Count = []

pub words_begin : (p : Part) → part_words p ≡ label_text (label_for p) ∷ name_words p
words_begin (Table name) = refl
words_begin (Protocol name) = refl
words_begin (Export name) = refl
words_begin (Filter name) = refl
words_begin Primary = refl
words_begin All = refl
words_begin Count = refl

pub words_go_on : (p : Part) (more : List (List ℕ)) → part_words p ++ more ≡ label_text (label_for p) ∷ (name_words p ++ more)
words_go_on p more = ap (λ (l : List (List ℕ)). l ++ more) (words_begin p)

pub first_label : (l : Label) (p : Part) (xs ys : List (List ℕ)) → label_text l ∷ xs ≡ part_words p ++ ys → label_for p ≡ l
first_label l p xs ys same = sym (labels_same l (label_for p) (heads_same _ _ _ _ (same ∙ words_go_on p ys)))

pub no_where : (p : Part) (xs ys : List (List ℕ)) → codes "where" ∷ xs ≡ part_words p ++ ys → ⊥
no_where p xs ys same = where_is_no_label (label_for p) (heads_same _ _ _ _ (same ∙ words_go_on p ys))

pub no_words : (p : Part) (ys : List (List ℕ)) → [] ≡ part_words p ++ ys → ⊥
no_words p ys same = none_is_some _ _ (sym (words_go_on p ys) ∙ sym same)

names_same : (a b : List ℕ) (xs ys : List (List ℕ)) → a ∷ [] ++ xs ≡ b ∷ [] ++ ys → (a ≡ b) × (xs ≡ ys)
names_same a b xs ys same = (heads_same a b xs ys same, tails_same a b xs ys same)

same_behind : (p q : Part) (xs ys : List (List ℕ)) → label_for p ≡ label_for q → name_words p ++ xs ≡ name_words q ++ ys → (p ≡ q) × (xs ≡ ys)
same_behind (Table a) (Table b) xs ys label same = let both = names_same a b xs ys same in (ap Table both.0, both.1)
same_behind (Table a) _ xs ys label same = absurd (cc)
same_behind (Protocol a) (Protocol b) xs ys label same = let both = names_same a b xs ys same in (ap Protocol both.0, both.1)
same_behind (Protocol a) _ xs ys label same = absurd (cc)
same_behind (Export a) (Export b) xs ys label same = let both = names_same a b xs ys same in (ap Export both.0, both.1)
same_behind (Export a) _ xs ys label same = absurd (cc)
same_behind (Filter a) (Filter b) xs ys label same = let both = names_same a b xs ys same in (ap Filter both.0, both.1)
same_behind (Filter a) _ xs ys label same = absurd (cc)
same_behind Primary Primary xs ys label same = (refl, same)
same_behind Primary _ xs ys label same = absurd (cc)
same_behind All All xs ys label same = (refl, same)
same_behind All _ xs ys label same = absurd (cc)
same_behind Count Count xs ys label same = (refl, same)
same_behind Count _ xs ys label same = absurd (cc)

-- words begin with one option at most
pub same_part : (p q : Part) (xs ys : List (List ℕ)) → part_words p ++ xs ≡ part_words q ++ ys → (p ≡ q) × (xs ≡ ys)
same_part p q xs ys same =
    let whole = sym (words_go_on p xs) ∙ same ∙ words_go_on q ys in
    same_behind p q xs ys (labels_same _ _ (heads_same _ _ _ _ whole)) (tails_same _ _ _ _ whole)
