-- The optional parts of an `add`.
use Rattle.std.proofs.Common.{◌≡◌, ◌∙◌, sym, ap, refl, subst, ℕ, List, [], ◌∷◌, ◌++◌, length, arith, Option, Some, None, inl, inr}
use Rattle.std.specs.Prelude.{codes}
use Rattle.announcements.specs.Grammar.{IsDecimal}
use Rattle.announcements.specs.Grammar.{IsOption, IsCom}
use Rattle.announcements.specs.Reading.{BeginsNot, BeginWithOption, BeginWithOptions, AreOptions}
use Rattle.announcements.proofs.Words.{first_byte}

pub numbers_agree : (word : List ℕ) (m n : ℕ) → IsDecimal word m → IsDecimal word n → m ≡ n
numbers_agree word m n one other = sym one.value ∙ other.value

-- the words of an option that was read
pub option_words : (label : List ℕ) (words rest : List (List ℕ)) (value : Option ℕ) → BeginWithOption label words value rest
    → (front : List (List ℕ)) × (words ≡ front ++ rest) × IsOption label front value
option_words label words rest None is = ([], sym is.0, refl)
option_words label words rest (Some n) is = (label ∷ is.0 ∷ [], is.1, (is.0, refl, is.2))

option_begins : (label : List ℕ) (words front rest : List (List ℕ)) (value : Option ℕ) → words ≡ front ++ rest → IsOption label front value → BeginsNot label rest
    → BeginWithOption label words value rest
option_begins label words front rest None whole is other =
    let same : words ≡ rest = whole ∙ ap (λ (l : List (List ℕ)). l ++ rest) is in
    (sym same, λ more e. other more (sym same ∙ e))
option_begins label words front rest (Some n) whole is other = (is.0, whole ∙ ap (λ (l : List (List ℕ)). l ++ rest) is.1, is.2)

-- one option begins some words
pub option_same : (label : List ℕ) (words rest rest' : List (List ℕ)) (value value' : Option ℕ) → BeginWithOption label words value rest → BeginWithOption label words value' rest'
    → (value ≡ value') × (rest ≡ rest')
option_same label words rest rest' None None one other = (refl, one.0 ∙ sym other.0)
option_same label words rest rest' None (Some n) one other = absurd (one.1 (other.0 ∷ rest') other.1)
option_same label words rest rest' (Some m) None one other = absurd (other.1 (one.0 ∷ rest) one.1)
option_same label words rest rest' (Some m) (Some n) one other =
    let whole : label ∷ one.0 ∷ rest ≡ label ∷ other.0 ∷ rest' = sym one.1 ∙ other.1 in
    let word : one.0 ≡ other.0 = cc in
    let behind : rest ≡ rest' = cc in
    let P : List ℕ → Type 0 = λ w. IsDecimal w m in
    (ap (λ (k : ℕ). Some k) (numbers_agree other.0 m n (subst P word one.2) other.2), behind)

option_begins_not : (label other : List ℕ) (front rest : List (List ℕ)) (value : Option ℕ) → (label ≡ other → ⊥) → IsOption other front value → BeginsNot label rest → BeginsNot label (front ++ rest)
option_begins_not label other front rest None differ is behind = λ more e. behind more (sym (ap (λ (l : List (List ℕ)). l ++ rest) is) ∙ e)
option_begins_not label other front rest (Some n) differ is behind = λ more e. (
    let whole : other ∷ is.0 ∷ rest ≡ label ∷ more = sym (ap (λ (l : List (List ℕ)). l ++ rest) is.1) ∙ e in
    let same : label ≡ other = cc in
    differ same)

com_begins_not : (label : List ℕ) (words : List (List ℕ)) (coms : List (ℕ × ℕ)) → (label ≡ codes "com" → ⊥) → IsCom words coms → BeginsNot label words
com_begins_not label words coms differ (inl is) = λ more e. (
    let none : [] ≡ label ∷ more = sym is.0 ∙ e in
    cc)
com_begins_not label words coms differ (inr is) = λ more e. (
    let whole : codes "com" ∷ is.first ∷ is.more ≡ label ∷ more = sym is.whole ∙ e in
    let same : label ≡ codes "com" = cc in
    differ same)

med_not_lp : codes "med" ≡ codes "lp" → ⊥
med_not_lp e = omega (arith, ap length e)

med_not_igp : codes "med" ≡ codes "igp" → ⊥
med_not_igp e = omega (arith, first_byte 109 105 _ _ e)

med_not_com : codes "med" ≡ codes "com" → ⊥
med_not_com e = omega (arith, first_byte 109 99 _ _ e)

lp_not_igp : codes "lp" ≡ codes "igp" → ⊥
lp_not_igp e = omega (arith, ap length e)

lp_not_com : codes "lp" ≡ codes "com" → ⊥
lp_not_com e = omega (arith, ap length e)

igp_not_com : codes "igp" ≡ codes "com" → ⊥
igp_not_com e = omega (arith, first_byte 105 99 _ _ e)

-- the numbers of the optional parts, and the words of their communities
pub options_begin : (words : List (List ℕ)) (med lp igp : Option ℕ) (coms : List (ℕ × ℕ)) → (are : AreOptions words med lp igp coms) → BeginWithOptions words med lp igp are.com_words
options_begin words med lp igp coms are = record {
  behind_med = are.lp_words ++ (are.igp_words ++ are.com_words);
  behind_lp = are.igp_words ++ are.com_words;
  med_is = option_begins (codes "med") words are.med_words (are.lp_words ++ (are.igp_words ++ are.com_words)) med are.whole are.med_is
      (option_begins_not (codes "med") (codes "lp") are.lp_words (are.igp_words ++ are.com_words) lp med_not_lp are.lp_is
      (option_begins_not (codes "med") (codes "igp") are.igp_words are.com_words igp med_not_igp are.igp_is
      (com_begins_not (codes "med") are.com_words coms med_not_com are.com_is)));
  lp_is = option_begins (codes "lp") (are.lp_words ++ (are.igp_words ++ are.com_words)) are.lp_words (are.igp_words ++ are.com_words) lp refl are.lp_is
      (option_begins_not (codes "lp") (codes "igp") are.igp_words are.com_words igp lp_not_igp are.igp_is
      (com_begins_not (codes "lp") are.com_words coms lp_not_com are.com_is));
  igp_is = option_begins (codes "igp") (are.igp_words ++ are.com_words) are.igp_words are.com_words igp refl are.igp_is
      (com_begins_not (codes "igp") are.com_words coms igp_not_com are.com_is);
}

pub moved : (label : List ℕ) (words words' rest : List (List ℕ)) (value : Option ℕ) → words ≡ words' → BeginWithOption label words value rest → BeginWithOption label words' value rest
moved label words words' rest value same is = subst (λ (l : List (List ℕ)). BeginWithOption label l value rest) same is

pub options_same : (words rest rest' : List (List ℕ)) (med lp igp med' lp' igp' : Option ℕ) → BeginWithOptions words med lp igp rest → BeginWithOptions words med' lp' igp' rest'
    → (med ≡ med') × (lp ≡ lp') × (igp ≡ igp') × (rest ≡ rest')
options_same words rest rest' med lp igp med' lp' igp' one other =
    let first = option_same (codes "med") words one.behind_med other.behind_med med med' one.med_is other.med_is in
    let second = option_same (codes "lp") other.behind_med one.behind_lp other.behind_lp lp lp' (moved _ _ _ _ lp first.1 one.lp_is) other.lp_is in
    let third = option_same (codes "igp") other.behind_lp rest rest' igp igp' (moved _ _ _ _ igp second.1 one.igp_is) other.igp_is in
    (first.0, second.0, third.0, third.1)

-- the optional parts of what was read
pub options_read : (words rest : List (List ℕ)) (med lp igp : Option ℕ) (coms : List (ℕ × ℕ)) → BeginWithOptions words med lp igp rest → IsCom rest coms → AreOptions words med lp igp coms
options_read words rest med lp igp coms begin given =
    let first = option_words (codes "med") words begin.behind_med med begin.med_is in
    let second = option_words (codes "lp") begin.behind_med begin.behind_lp lp begin.lp_is in
    let third = option_words (codes "igp") begin.behind_lp rest igp begin.igp_is in
    record {
      med_words = first.0;
      lp_words = second.0;
      igp_words = third.0;
      com_words = rest;
      whole = first.1 ∙ ap (λ (l : List (List ℕ)). first.0 ++ l) second.1 ∙ ap (λ (l : List (List ℕ)). first.0 ++ (second.0 ++ l)) third.1;
      med_is = first.2;
      lp_is = second.2;
      igp_is = third.2;
      com_is = given;
    }
