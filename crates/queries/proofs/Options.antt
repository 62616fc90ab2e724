-- The option at the front of a text.
use Rattle.std.proofs.Common.{◌≡◌, ◌∙◌, sym, ap, ℕ, true, List, [], ◌∷◌, ◌++◌, length, inl, inr}
use Rattle.std.specs.Prelude.{codes}
use Rattle.text.specs.Lines.{words_of, behind_word, behind_words}
use Rattle.queries.specs.declared.parts.Label.{Label}
use Rattle.queries.specs.declared.parts.Label.TheVariants as labels
use Rattle.queries.specs.Name.{is_name}
use Rattle.queries.specs.Question.{Asked, Part, Table, Protocol, Export, Filter, Primary, All, Count, part_words, is_well_named}
use Rattle.queries.specs.Inside.{label_text, BeginsWith, BeginsWithNone, BeginsWithName, HasNoName, Ends}
use Rattle.queries.proofs.Labels.{heads_same, tails_same, none_is_some, label_for, words_go_on, first_label, no_words}

-- a label and a name
pub named_begins : (text behind name rest : List ℕ) (label : List ℕ) (part : Part) → words_of text ≡ label ∷ words_of behind → behind ≡ behind_word text → BeginsWithName behind name rest
    → part_words part ≡ label ∷ name ∷ [] → is_well_named part ≡ is_name name → BeginsWith text part rest
named_begins text behind name rest label part cut behind_is found words named = record {
  whole = cut ∙ ap (λ (l : List (List ℕ)). label ∷ l) found.whole ∙ sym (ap (λ (l : List (List ℕ)). l ++ words_of rest) words);
  rest_is = found.rest_is ∙ ap behind_word behind_is ∙ sym (ap (λ (l : List (List ℕ)). behind_words (length l) text) words);
  named = named ∙ found.named;
}

-- a label alone
pub flag_begins : (text behind : List ℕ) (label : List ℕ) (part : Part) → words_of text ≡ label ∷ words_of behind → behind ≡ behind_word text
    → part_words part ≡ label ∷ [] → is_well_named part ≡ true → BeginsWith text part behind
flag_begins text behind label part cut behind_is words named = record {
  whole = cut ∙ sym (ap (λ (l : List (List ℕ)). l ++ words_of behind) words);
  rest_is = behind_is ∙ sym (ap (λ (l : List (List ℕ)). behind_words (length l) text) words);
  named = named;
}

-- a label without a name
unnamed_part : (l : Label) (p : Part) (xs more : List (List ℕ)) → label_for p ≡ l → label_text l ∷ xs ≡ part_words p ++ more → is_well_named p ≡ true → HasNoName xs
    → (l ≡ labels.Primary → ⊥) → (l ≡ labels.All → ⊥) → (l ≡ labels.Count → ⊥) → ⊥
unnamed_part l (Table name) xs more same whole named none a b c = none name more (tails_same _ _ _ _ whole) named
unnamed_part l (Protocol name) xs more same whole named none a b c = none name more (tails_same _ _ _ _ whole) named
unnamed_part l (Export name) xs more same whole named none a b c = none name more (tails_same _ _ _ _ whole) named
unnamed_part l (Filter name) xs more same whole named none a b c = none name more (tails_same _ _ _ _ whole) named
unnamed_part l Primary xs more same whole named none a b c = a (sym same)
unnamed_part l All xs more same whole named none a b c = b (sym same)
unnamed_part l Count xs more same whole named none a b c = c (sym same)

pub unnamed : (l : Label) (text : List ℕ) (xs : List (List ℕ)) → words_of text ≡ label_text l ∷ xs → HasNoName xs
    → (l ≡ labels.Primary → ⊥) → (l ≡ labels.All → ⊥) → (l ≡ labels.Count → ⊥) → BeginsWithNone text
unnamed l text xs cut none a b c = λ part more whole named.
    let same = sym cut ∙ whole in
    unnamed_part l part xs more (first_label l part xs more same) same named none a b c

-- no words
pub no_first : (text : List ℕ) → words_of text ≡ [] → BeginsWithNone text
no_first text none = λ part more whole named. no_words part more (sym none ∙ whole)

-- another word
pub no_label : (text word : List ℕ) (xs : List (List ℕ)) → words_of text ≡ word ∷ xs → ((label : Label) → word ≡ label_text label → ⊥) → BeginsWithNone text
no_label text word xs cut none = λ part more whole named. none (label_for part) (heads_same _ _ _ _ (sym cut ∙ whole ∙ words_go_on part more))

-- ---- the end

pub no_end : (old : Asked) (text word : List ℕ) (xs : List (List ℕ)) → words_of text ≡ word ∷ xs → (word ≡ codes "where" → ⊥) → (new : Asked) → Ends old text new → ⊥
no_end old text word xs cut other new (inl is) = none_is_some word xs (sym cut ∙ is.0)
no_end old text word xs cut other new (inr is) = other (heads_same _ _ _ _ (sym cut ∙ is.1))
