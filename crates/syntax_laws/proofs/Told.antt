-- Whether some bytes spell a number or an address: a search tells.
use Rattle.std.proofs.Common.{◌≡◌, ◌∙◌, sym, ap, refl, subst, ℕ, zero, suc, ◌+◌, ◌<◌, ◌≤◌, ◌^◌, List, [], ◌∷◌, ◌++◌, length, take, drop, append_assoc, arith, inl, inr, ◌⊎◌}
use Rattle.std.specs.Prelude.{replicate}
use Rattle.std.specs.Char.{digit_value}
use Rattle.std.specs.Str.Parse.{AllDigits, digits_value}
use Rattle.std.proofs.lemmas.Bool.Decides.{leb_tells, eqb_tells}
use Rattle.std.proofs.lemmas.List.{length-append, drop-drop}
use Rattle.bits_ip.specs.Text.{v4_text, groups, joined, IsGroup, AreGroups, IsWhole, IsShortened, IsAddrText}
use Rattle.bits_ip.specs.declared.address.Addr.TheVariants.{V4, V6}
use Rattle.conf_scan.specs.Shapes.{IsNumber}
use Rattle.conf_scan.proofs.Reached.{take_length, drop_length}

-- it holds or it doesn't
abbrev pub Told : Type 0 → Type 0
Told P = P ⊎ (P → ⊥)

-- there is one, or there is none
abbrev pub Found : {X : Type 0} → (X → Type 0) → Type 0
Found P = ((x : _) × P x) ⊎ ((x : _) → P x → ⊥)

pub told_both : {P Q : Type 0} → Told P → Told Q → Told (P × Q)
told_both (inl p) (inl q) = inl (p, q)
told_both (inl p) (inr none) = inr (λ both. none both.1)
told_both (inr none) q = inr (λ both. none both.0)

told_as : {P Q : Type 0} → (P → Q) → (Q → P) → Told P → Told Q
told_as to from (inl p) = inl (to p)
told_as to from (inr none) = inr (λ q. none (from q))

pub told_less : (a b : ℕ) → Told (a < b)
told_less a b = elim (leb_tells b a) [
  | inl more ↦ inr (λ less. omega (arith, less, more.1))
  | inr less ↦ inl less.1
]

told_most : (a b : ℕ) → Told (a ≤ b)
told_most a b = elim (leb_tells a b) [
  | inl most ↦ inl most.1
  | inr more ↦ inr (λ most. omega (arith, most, more.1))
]

told_number : (a b : ℕ) → Told (a ≡ b)
told_number a b = elim (eqb_tells a b) [
  | inl same ↦ inl same.1
  | inr other ↦ inr other.1
]

heads_same : (x y : ℕ) (a b : List ℕ) → x ∷ a ≡ y ∷ b → x ≡ y
heads_same x y a b same = cc

tails_same : (x y : ℕ) (a b : List ℕ) → x ∷ a ≡ y ∷ b → a ≡ b
tails_same x y a b same = cc

told_word : (a b : List ℕ) → Told (a ≡ b)
told_word [] [] = inl refl
told_word [] (y ∷ b) = inr (λ same. cc)
told_word (x ∷ a) [] = inr (λ same. cc)
told_word (x ∷ a) (y ∷ b) = elim (told_both (told_number x y) (told_word a b)) [
  | inl same ↦ inl (ap (λ (n : ℕ). n ∷ a) same.0 ∙ ap (λ (l : List ℕ). y ∷ l) same.1)
  | inr other ↦ inr (λ same. other (heads_same x y a b same, tails_same x y a b same))
]

none_more : (P : ℕ → Type 0) (k n : ℕ) → ((m : ℕ) → (m < k) × P m → ⊥) → (P k → ⊥) → n < suc k → P n → ⊥
none_more P k n none not_last small is = elim (leb_tells k n) [
  | inl last ↦
      let same : n ≡ k = omega (arith, small, last.1) in
      not_last (subst P same is)
  | inr less ↦ none n (less.1, is)
]

-- the numbers below a bound are searched
found_below : (P : ℕ → Type 0) → ((n : ℕ) → Told (P n)) → (k : ℕ) → Found (λ (n : ℕ). (n < k) × P n)
found_below P each zero = inr (λ n is. omega (arith, is.0))
found_below P each (suc k) = elim (each k) [
  | inl is ↦ inl (k, (omega arith, is))
  | inr not_last ↦
      elim (found_below P each k) [
        | inl found ↦ inl (found.0, (omega (arith, found.1.0), found.1.1))
        | inr none ↦ inr (λ n is. none_more P k n none not_last is.0 is.1)
      ]
]

-- numbers

told_digits : (radix : ℕ) (word : List ℕ) → Told (AllDigits radix word)
told_digits radix [] = inl tt
told_digits radix (b ∷ word) = told_both (told_less (digit_value b) radix) (told_digits radix word)

pub found_number : (radix : ℕ) (digits : List ℕ) → Found (IsNumber radix digits)
found_number radix digits = elim (told_both (told_less 0 (length digits)) (told_less (digits_value radix digits) (2 ^ 32))) [
  | inl is ↦ inl (digits_value radix digits, record { some = is.0; value = refl; fits = is.1 })
  | inr none ↦ inr (λ n is. none (is.some, subst (λ (m : ℕ). m < 2 ^ 32) (sym is.value) is.fits))
]

-- addresses of IPv4

pub found_v4 : (word : List ℕ) → Found (λ (n : ℕ). IsAddrText word (V4 n))
found_v4 word = found_below (λ n. word ≡ v4_text n) (λ n. told_word word (v4_text n)) (2 ^ 32)

-- addresses of IPv6

told_group : (word : List ℕ) (g : ℕ) → Told (IsGroup word g)
told_group word g = elim (told_both (told_both (told_less 0 (length word)) (told_digits 16 word)) (told_both (told_most (length word) 4) (told_number (digits_value 16 word) g))) [
  | inl is ↦ inl ((is.0.0, is.0.1), is.1.0, is.1.1)
  | inr none ↦ inr (λ is. none ((is.0.0, is.0.1), (is.1, is.2)))
]

-- the text is words joined by colons that spell these groups
record Spells (gs text : List ℕ) : Type 0 where
  words : List (List ℕ)
  whole : text ≡ joined words
  are : AreGroups words gs

-- the text is cut at a mark
record Cut (mark : ℕ) (text : List ℕ) (P : List ℕ → List ℕ → Type 0) : Type 0 where
  front : List ℕ
  rest : List ℕ
  whole : text ≡ front ++ mark ∷ rest
  parts : P front rest

abbrev CutAt : ℕ → List ℕ → (List ℕ → List ℕ → Type 0) → ℕ → Type 0
CutAt mark text P k = (text ≡ take k text ++ mark ∷ drop (k + 1) text) × P (take k text) (drop (k + 1) text)

take_front : (mark : ℕ) (text front rest : List ℕ) → text ≡ front ++ mark ∷ rest → take (length front) text ≡ front
take_front mark text front rest whole = ap (λ (l : List ℕ). take (length front) l) whole ∙ take_length front (mark ∷ rest)

drop_front : (mark : ℕ) (text front rest : List ℕ) → text ≡ front ++ mark ∷ rest → drop (length front + 1) text ≡ rest
drop_front mark text front rest whole =
    sym (drop-drop 1 (length front) text) ∙ ap (λ (l : List ℕ). drop 1 (drop (length front) l)) whole ∙ ap (λ (l : List ℕ). drop 1 l) (drop_length front (mark ∷ rest))

cut_place : (mark : ℕ) (text : List ℕ) (P : List ℕ → List ℕ → Type 0) (front rest : List ℕ) → text ≡ front ++ mark ∷ rest → P front rest → (length front < suc (length text)) × CutAt mark text P (length front)
cut_place mark text P front rest whole is =
    let before = take_front mark text front rest whole in
    let behind = drop_front mark text front rest whole in
    let cut : text ≡ take (length front) text ++ mark ∷ drop (length front + 1) text =
    whole ∙ ap (λ (l : List ℕ). l ++ mark ∷ rest) (sym before) ∙ ap (λ (l : List ℕ). take (length front) text ++ mark ∷ l) (sym behind) in
    let Q : List ℕ → Type 0 = λ l. P l (drop (length front + 1) text) in
    let R : List ℕ → Type 0 = λ l. P front l in
    (omega (arith, ap (λ (l : List ℕ). length l) whole, length-append front (mark ∷ rest)), (cut, subst Q (sym before) (subst R (sym behind) is)))

told_cut : (mark : ℕ) (text : List ℕ) (P : List ℕ → List ℕ → Type 0) → ((front rest : List ℕ) → Told (P front rest)) → Told (Cut mark text P)
told_cut mark text P each = elim (found_below (CutAt mark text P) (λ k. told_both (told_word text (take k text ++ mark ∷ drop (k + 1) text)) (each (take k text) (drop (k + 1) text))) (suc (length text))) [
  | inl is ↦ inl (record { front = take is.0 text; rest = drop (is.0 + 1) text; whole = is.1.1.0; parts = is.1.1.1 })
  | inr none ↦ inr (λ cut. none (length cut.front) (cut_place mark text P cut.front cut.rest cut.whole cut.parts))
]

-- one group
one_spells : (text : List ℕ) (g : ℕ) → IsGroup text g → Spells (g ∷ []) text
one_spells text g is = record { words = text ∷ []; whole = refl; are = (is, tt) }

one_spelled : (text : List ℕ) (g : ℕ) (words : List (List ℕ)) → text ≡ joined words → AreGroups words (g ∷ []) → IsGroup text g
one_spelled text g [] whole are = absurd are
one_spelled text g (w ∷ []) whole are = let P : List ℕ → Type 0 = λ l. IsGroup l g in subst P (sym whole) are.0
one_spelled text g (w ∷ v ∷ words) whole are = absurd are.1

-- two or more
more_spells : (text : List ℕ) (g h : ℕ) (gs front rest : List ℕ) → text ≡ front ++ 58 ∷ rest → IsGroup front g → (words : List (List ℕ)) → rest ≡ joined words → AreGroups words (h ∷ gs) → Spells (g ∷ h ∷ gs) text
more_spells text g h gs front rest whole first [] behind are = absurd are
more_spells text g h gs front rest whole first (w ∷ words) behind are =
    record { words = front ∷ w ∷ words; whole = whole ∙ ap (λ (l : List ℕ). front ++ 58 ∷ l) behind; are = (first, are) }

abbrev FirstAndMore : ℕ → ℕ → List ℕ → List ℕ → List ℕ → Type 0
FirstAndMore g h gs front rest = IsGroup front g × Spells (h ∷ gs) rest

more_spelled : (text : List ℕ) (g h : ℕ) (gs : List ℕ) (words : List (List ℕ)) → text ≡ joined words → AreGroups words (g ∷ h ∷ gs) → Cut 58 text (FirstAndMore g h gs)
more_spelled text g h gs [] whole are = absurd are
more_spelled text g h gs (w ∷ []) whole are = absurd are.1
more_spelled text g h gs (w ∷ v ∷ words) whole are =
    record { front = w; rest = joined (v ∷ words); whole = whole; parts = (are.0, record { words = v ∷ words; whole = refl; are = are.1 }) }

none_spelled : (text : List ℕ) (words : List (List ℕ)) → text ≡ joined words → AreGroups words [] → text ≡ []
none_spelled text [] whole are = whole
none_spelled text (w ∷ words) whole are = absurd are

none_spells : (text : List ℕ) → text ≡ [] → Spells [] text
none_spells text is = record { words = []; whole = is; are = tt }

told_spells : (gs text : List ℕ) → Told (Spells gs text)
told_spells [] text = told_as (λ is. none_spells text is) (λ is. none_spelled text is.words is.whole is.are) (told_word text [])
told_spells (g ∷ []) text = told_as (λ is. one_spells text g is) (λ is. one_spelled text g is.words is.whole is.are) (told_group text g)
told_spells (g ∷ h ∷ gs) text =
    told_as (λ is. more_spells text g h gs is.front is.rest is.whole is.parts.0 is.parts.1.words is.parts.1.whole is.parts.1.are) (λ is. more_spelled text g h gs is.words is.whole is.are)
    (told_cut 58 text (FirstAndMore g h gs) (λ front rest. told_both (told_group front g) (told_spells (h ∷ gs) rest)))

-- two colons in place of so many groups behind so many others
abbrev Behind : List ℕ → List ℕ → List ℕ → Type 0
Behind after none back = (none ≡ []) × Spells after back

abbrev Around : List ℕ → List ℕ → List ℕ → List ℕ → Type 0
Around before after front rest = Spells before front × Cut 58 rest (Behind after)

record ShortAt (gs text : List ℕ) (i zeros : ℕ) : Type 0 where
  some : 1 ≤ zeros
  groups_are : gs ≡ take i gs ++ replicate zeros 0 ++ drop (i + zeros) gs
  cut : Cut 58 text (Around (take i gs) (drop (i + zeros) gs))

short_at : (gs text : List ℕ) (i n : ℕ) → 1 ≤ n → gs ≡ take i gs ++ replicate n 0 ++ drop (i + n) gs → Cut 58 text (Around (take i gs) (drop (i + n) gs)) → ShortAt gs text i n
short_at gs text i n some are cut = record { some = some; groups_are = are; cut = cut }

told_short_at : (gs text : List ℕ) (i zeros : ℕ) → Told (ShortAt gs text i zeros)
told_short_at gs text i zeros =
    told_as (λ is. short_at gs text i zeros is.0.0 is.0.1 is.1) (λ is. ((is.some, is.groups_are), is.cut))
    (told_both (told_both (told_most 1 zeros) (told_word gs (take i gs ++ replicate zeros 0 ++ drop (i + zeros) gs)))
    (told_cut 58 text (Around (take i gs) (drop (i + zeros) gs)) (λ front rest. told_both (told_spells (take i gs) front)
    (told_cut 58 rest (Behind (drop (i + zeros) gs)) (λ none back. told_both (told_word none []) (told_spells (drop (i + zeros) gs) back))))))

shortened : (gs text : List ℕ) (i zeros : ℕ) → ShortAt gs text i zeros → IsShortened text gs
shortened gs text i zeros is =
    let front = is.cut.parts.0 in
    let later = is.cut.parts.1 in
    let back = later.parts.1 in
    record {
      front = front.words;
      back = back.words;
      before = take i gs;
      behind = drop (i + zeros) gs;
      zeros = zeros;
      whole = is.cut.whole ∙ ap (λ (l : List ℕ). is.cut.front ++ 58 ∷ l) (later.whole ∙ ap (λ (l : List ℕ). l ++ 58 ∷ later.rest) later.parts.0 ∙ ap (λ (l : List ℕ). 58 ∷ l) back.whole) ∙ ap (λ (l : List ℕ). l ++ 58 ∷ 58 ∷ joined back.words) front.whole;
      front_are = front.are;
      back_are = back.are;
      some = is.some;
      groups_are = is.groups_are;
    }

zero_groups : ℕ → List ℕ
zero_groups n = replicate n 0

zeros_len : (n : ℕ) → length (zero_groups n) ≡ n
unfolding zero_groups
zeros_len zero = refl
zeros_len (suc n) = omega (arith, zeros_len n)

-- one after another, from the first on
three_parts : (gs before behind : List ℕ) (n : ℕ) → gs ≡ before ++ replicate n 0 ++ behind → gs ≡ before ++ (zero_groups n ++ behind)
unfolding zero_groups
three_parts gs before behind n are = are ∙ append_assoc before (replicate n 0) behind

-- where the groups are cut
cut_groups : (gs before middle behind : List ℕ) (n : ℕ) → gs ≡ before ++ (middle ++ behind) → length middle ≡ n → (take (length before) gs ≡ before) × (drop (length before + n) gs ≡ behind)
cut_groups gs before middle behind n are len = (
  ap (λ (l : List ℕ). take (length before) l) are ∙ take_length before (middle ++ behind),
  sym (drop-drop n (length before) gs) ∙ ap (λ (l : List ℕ). drop n (drop (length before) l)) are ∙ ap (λ (l : List ℕ). drop n l) (drop_length before (middle ++ behind))
      ∙ ap (λ (k : ℕ). drop k (middle ++ behind)) (sym len) ∙ drop_length middle behind,
)

spells_as : (before gs text : List ℕ) → before ≡ gs → Spells gs text → Spells before text
spells_as before gs text same is = let P : List ℕ → Type 0 = λ l. Spells l text in subst P (sym same) is

record Shortens (gs text : List ℕ) (i zeros : ℕ) : Type 0 where
  few : i < suc (length gs)
  few_zeros : zeros < suc (length gs)
  at : ShortAt gs text i zeros

shortens : (gs text : List ℕ) (is : IsShortened text gs) → Shortens gs text (length is.before) is.zeros
shortens gs text is =
    let parts = three_parts gs is.before is.behind is.zeros is.groups_are in
    let zero_len = zeros_len is.zeros in
    let cut = cut_groups gs is.before (zero_groups is.zeros) is.behind is.zeros parts zero_len in
    let len : length gs ≡ length is.before + length (zero_groups is.zeros ++ is.behind) = ap (λ (l : List ℕ). length l) parts ∙ length-append is.before (zero_groups is.zeros ++ is.behind) in
    let more = length-append (zero_groups is.zeros) is.behind in
    record {
      few = omega (arith, len);
      few_zeros = omega (arith, len, more, zero_len);
      at = record {
        some = is.some;
        groups_are = is.groups_are ∙ ap (λ (l : List ℕ). l ++ replicate is.zeros 0 ++ is.behind) (sym cut.0) ∙ ap (λ (l : List ℕ). take (length is.before) gs ++ replicate is.zeros 0 ++ l) (sym cut.1);
        cut = record {
          front = joined is.front;
          rest = 58 ∷ joined is.back;
          whole = is.whole;
          parts = (
            spells_as (take (length is.before) gs) is.before (joined is.front) cut.0 (record { words = is.front; whole = refl; are = is.front_are }),
            record {
              front = [];
              rest = joined is.back;
              whole = refl;
              parts = (refl, spells_as (drop (length is.before + is.zeros) gs) is.behind (joined is.back) cut.1 (record { words = is.back; whole = refl; are = is.back_are }));
            },
          );
        };
      };
    }

abbrev WithZeros : List ℕ → List ℕ → ℕ → Type 0
WithZeros gs text i = (zeros : ℕ) × (zeros < suc (length gs)) × ShortAt gs text i zeros

told_zeros : (gs text : List ℕ) (i : ℕ) → Told (WithZeros gs text i)
told_zeros gs text i = elim (found_below (λ zeros. ShortAt gs text i zeros) (λ zeros. told_short_at gs text i zeros) (suc (length gs))) [
  | inl is ↦ inl (is.0, is.1.0, is.1.1)
  | inr none ↦ inr (λ is. none is.0 (is.1, is.2))
]

told_shortened : (gs text : List ℕ) → Told (IsShortened text gs)
told_shortened gs text = elim (found_below (WithZeros gs text) (told_zeros gs text) (suc (length gs))) [
  | inl is ↦ inl (shortened gs text is.0 is.1.1.0 is.1.1.2)
  | inr none ↦ inr (λ is. let at = shortens gs text is in none (length is.before) (at.few, (is.zeros, at.few_zeros, at.at)))
]

told_whole : (gs text : List ℕ) → Told (IsWhole text gs)
told_whole gs text = told_as (λ is. record { words = is.words; whole = is.whole; groups_are = is.are }) (λ is. record { words = is.words; whole = is.whole; are = is.groups_are }) (told_spells gs text)

told_either : {P Q : Type 0} → Told P → Told Q → Told (P ⊎ Q)
told_either (inl p) q = inl (inl p)
told_either (inr none) (inl q) = inl (inr q)
told_either (inr none) (inr neither) = inr (λ is. elim is [ inl p ↦ none p | inr q ↦ neither q ])

pub found_v6 : (word : List ℕ) → Found (λ (n : ℕ). IsAddrText word (V6 n))
found_v6 word = found_below (λ n. IsWhole word (groups n) ⊎ IsShortened word (groups n)) (λ n. told_either (told_whole (groups n) word) (told_shortened (groups n) word)) (2 ^ 128)
