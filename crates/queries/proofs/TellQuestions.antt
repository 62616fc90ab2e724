-- Each text is a question or none, and one at most.
use Rattle.std.proofs.Common.{◌≡◌, ◌∙◌, sym, ap, refl, ℕ, zero, suc, ◌≤◌, Bool, true, false, cond, ◌||◌, List, [], ◌∷◌, length, drop, Option, Some, None, arith, inl, inr, ◌⊎◌}
use Rattle.std.specs.Prelude.{codes}
use Rattle.std.proofs.lemmas.Bool.{cases_Bool, false≢true}
use Rattle.std.proofs.lemmas.List.{length-append}
use Rattle.bits_ip.specs.Address.{width_of}
use Rattle.bits_ip.specs.Prefix.{Net}
use Rattle.bits_ip.specs.Text.{IsNetText}
use Rattle.bits_ip.specs.declared.address.Addr.{Addr}
use Rattle.attrs.specs.declared.route.Select.{Select}
use Rattle.attrs.specs.declared.route.Select.TheVariants as picks
use Rattle.text.specs.Lines.{words_of, behind_word, begins_word, is_blank, onto}
use Rattle.queries.specs.declared.parts.Label.{Label}
use Rattle.queries.specs.declared.parts.Label.TheVariants as labels
use Rattle.queries.specs.Name.{is_name}
use Rattle.queries.specs.Question.{Asked, IsPlace, IsQuestion, Part, Table, Protocol, Export, Filter, Primary, All, Count, part_words, is_well_named, plain}
use Rattle.queries.specs.Inside.{put, put_condition, label_text, BeginsWith, BeginsWithNone, BeginsWithName, HasNoName, BeginsWithNet, HasNoNet, GoesOn, Ends, IsOpen, Selects}
use Rattle.queries.proofs.Labels.{heads_same, none_is_some, words_begin}
use Rattle.queries.proofs.Growing.{put_open}
use Rattle.queries.proofs.Options.{named_begins, flag_begins, no_first, unnamed, no_label, no_end}
use Rattle.queries.proofs.Selectors.{selects_none, selects_all, selects_exact, selects_for, selects_in, for_alone, in_alone, other_net}
use Rattle.queries.proofs.ToldAddresses.{Found, told_word, found_net, found_addr}
use Rattle.queries.proofs.Whole.{plain_open}
use Rattle.queries.proofs.Turns.{turn_on, turn_back, turn_none, goes_ends, ends_go}

abbrev pub full_net : Addr → Net
full_net addr = record { addr = addr; len = width_of addr }

-- there is one and no other, or there is none
abbrev pub FoundOne : {X : Type 0} → (X → Type 0) → Type 0
FoundOne P = ((x : _) × P x × ((y : _) → P y → y ≡ x)) ⊎ ((x : _) → P x → ⊥)

-- ---- words

onto_drop : (b : ℕ) (words : List (List ℕ)) → drop 1 (onto b words) ≡ drop 1 words
onto_drop b [] = refl
onto_drop b (word ∷ words) = refl

behind_step : (blank begins : Bool) (b : ℕ) (bytes : List ℕ) → words_of (behind_word bytes) ≡ drop 1 (words_of bytes)
    → words_of (cond (blank || begins) (behind_word bytes) bytes) ≡ drop 1 (cond blank (words_of bytes) (cond begins (onto b (words_of bytes)) ((b ∷ []) ∷ words_of bytes)))
behind_step true begins b bytes before = before
behind_step false true b bytes before = before ∙ sym (onto_drop b (words_of bytes))
behind_step false false b bytes before = refl

behind_drop : (text : List ℕ) → words_of (behind_word text) ≡ drop 1 (words_of text)
behind_drop [] = refl
behind_drop (b ∷ bytes) = behind_step (is_blank b) (begins_word bytes) b bytes (behind_drop bytes)

words_behind : (text word : List ℕ) (more : List (List ℕ)) → words_of text ≡ word ∷ more → words_of (behind_word text) ≡ more
words_behind text word more cut = behind_drop text ∙ ap (λ (l : List (List ℕ)). drop 1 l) cut

cut_whole : (text word : List ℕ) (more : List (List ℕ)) → words_of text ≡ word ∷ more → words_of text ≡ word ∷ words_of (behind_word text)
cut_whole text word more cut = cut ∙ ap (λ (l : List (List ℕ)). word ∷ l) (sym (words_behind text word more cut))

empty_or_more : {P : Type 0} (words : List (List ℕ)) → (words ≡ [] → P) → ((word : List ℕ) (more : List (List ℕ)) → words ≡ word ∷ more → P) → P
empty_or_more [] none some = none refl
empty_or_more (word ∷ more) none some = some word more refl

-- ---- nets

found_place : (word : List ℕ) → Found (IsPlace word)
found_place word = elim (found_net word) [
  | inl is ↦ inl (is.0, inl is.1)
  | inr none ↦
      elim (found_addr word) [
        | inl is ↦ inl (full_net is.0, inr (is.1, refl))
        | inr other ↦ inr (λ net place. elim place [ inl it ↦ none net it | inr it ↦ other net.addr it.0 ])
      ]
]

no_more : (P : List ℕ → Net → Type 0) (words : List (List ℕ)) → words ≡ [] → HasNoNet P words
no_more P words none word more net is holds = none_is_some word more (sym is ∙ none)

net_begins : (P : List ℕ → Net → Type 0) (text word : List ℕ) (more : List (List ℕ)) (net : Net) → words_of text ≡ word ∷ more → P word net → BeginsWithNet P text net (behind_word text)
net_begins P text word more net cut is = record { word = word; whole = cut_whole text word more cut; rest_is = refl; net_is = is }

abbrev NetTold : (List ℕ → Net → Type 0) → List ℕ → Type 0
NetTold P text = ((net : Net) × BeginsWithNet P text net (behind_word text)) ⊎ HasNoNet P (words_of text)

net_told_at : (P : List ℕ → Net → Type 0) → ((word : List ℕ) → Found (P word)) → (text word : List ℕ) (more : List (List ℕ)) → words_of text ≡ word ∷ more → NetTold P text
net_told_at P found text word more cut = elim (found word) [
  | inl is ↦ inl (is.0, net_begins P text word more is.0 cut is.1)
  | inr none ↦ inr (other_net P (words_of text) word more cut none)
]

net_told : (P : List ℕ → Net → Type 0) → ((word : List ℕ) → Found (P word)) → (text : List ℕ) → NetTold P text
net_told P found text = empty_or_more (words_of text) (λ none. inr (no_more P (words_of text) none)) (λ word more cut. net_told_at P found text word more cut)

abbrev Selected : List ℕ → Type 0
Selected text = ((pick : Select) × (rest : List ℕ) × Selects text pick rest) ⊎ ((asked : Asked) → IsQuestion text asked → ⊥)

for_told : (text word : List ℕ) (more : List (List ℕ)) → words_of text ≡ word ∷ more → word ≡ codes "for" → Selected text
for_told text word more cut same = elim (net_told IsPlace found_place (behind_word text)) [
  | inl is ↦ inl (picks.For is.0, behind_word (behind_word text), selects_for text word (behind_word text) (behind_word (behind_word text)) is.0 (cut_whole text word more cut) refl same is.1)
  | inr none ↦ inr (for_alone text word (behind_word text) (cut_whole text word more cut) same none)
]

in_told : (text word : List ℕ) (more : List (List ℕ)) → words_of text ≡ word ∷ more → word ≡ codes "in" → Selected text
in_told text word more cut same = elim (net_told IsNetText found_net (behind_word text)) [
  | inl is ↦ inl (picks.Within is.0, behind_word (behind_word text), selects_in text word (behind_word text) (behind_word (behind_word text)) is.0 (cut_whole text word more cut) refl same is.1)
  | inr none ↦ inr (in_alone text word (behind_word text) (cut_whole text word more cut) same none)
]

selected_at : (text word : List ℕ) (more : List (List ℕ)) → words_of text ≡ word ∷ more → Selected text
selected_at text word more cut = elim (told_word word (codes "for")) [
  | inl same ↦ for_told text word more cut same
  | inr no_for ↦
      elim (told_word word (codes "in")) [
        | inl same ↦ in_told text word more cut same
        | inr no_in ↦
            elim (found_net word) [
              | inl is ↦ inl (picks.Exact is.0, behind_word text, selects_exact text word (behind_word text) is.0 (cut_whole text word more cut) refl is.1)
              | inr none ↦ inl (picks.All, text, selects_all text word more cut no_for no_in none)
            ]
      ]
]

selected : (text : List ℕ) → Selected text
selected text = empty_or_more (words_of text) (λ none. inl (picks.All, text, selects_none text none)) (λ word more cut. selected_at text word more cut)

-- ---- options

abbrev NameTold : List ℕ → Type 0
NameTold text = ((name : List ℕ) × BeginsWithName text name (behind_word text)) ⊎ HasNoName (words_of text)

name_told_at : (text word : List ℕ) (more : List (List ℕ)) → words_of text ≡ word ∷ more → NameTold text
name_told_at text word more cut = elim (cases_Bool (is_name word)) [
  | inl is ↦ inl (word, record { whole = cut_whole text word more cut; rest_is = refl; named = is })
  | inr not ↦ inr (λ name later whole named. false≢true (sym not ∙ ap (λ (w : List ℕ). is_name w) (heads_same _ _ _ _ (sym cut ∙ whole)) ∙ named))
]

name_told : (text : List ℕ) → NameTold text
name_told text = empty_or_more (words_of text) (λ none. inr (λ name later whole named. none_is_some name later (sym whole ∙ none))) (λ word more cut. name_told_at text word more cut)

abbrev PartTold : List ℕ → Type 0
PartTold text = ((part : Part) × (rest : List ℕ) × BeginsWith text part rest) ⊎ BeginsWithNone text

named_told : (l : Label) (make : List ℕ → Part) (text : List ℕ) (more : List (List ℕ)) → words_of text ≡ label_text l ∷ more
    → ((name : List ℕ) → part_words (make name) ≡ label_text l ∷ name ∷ []) → ((name : List ℕ) → is_well_named (make name) ≡ is_name name)
    → (l ≡ labels.Primary → ⊥) → (l ≡ labels.All → ⊥) → (l ≡ labels.Count → ⊥) → PartTold text
named_told l make text more cut words named a b c = elim (name_told (behind_word text)) [
  | inl is ↦ inl (
    make is.0,
    behind_word (behind_word text),
    named_begins text (behind_word text) is.0 (behind_word (behind_word text)) (label_text l) (make is.0)
        (cut_whole text (label_text l) more cut) refl is.1 (words is.0) (named is.0),
  )
  | inr none ↦ inr (unnamed l text (words_of (behind_word text)) (cut_whole text (label_text l) more cut) none a b c)
]

flag_told : (label : List ℕ) (part : Part) (text : List ℕ) (more : List (List ℕ)) → words_of text ≡ label ∷ more → part_words part ≡ label ∷ [] → is_well_named part ≡ true → PartTold text
flag_told label part text more cut words named = inl (part, behind_word text, flag_begins text (behind_word text) label part (cut_whole text label more cut) refl words named)

label_told : (l : Label) (text : List ℕ) (more : List (List ℕ)) → words_of text ≡ label_text l ∷ more → PartTold text
label_told labels.Table text more cut = named_told labels.Table Table text more cut (λ name. refl) (λ name. refl) (λ is. cc) (λ is. cc) (λ is. cc)
label_told labels.Protocol text more cut = named_told labels.Protocol Protocol text more cut (λ name. refl) (λ name. refl) (λ is. cc) (λ is. cc) (λ is. cc)
label_told labels.Export text more cut = named_told labels.Export Export text more cut (λ name. refl) (λ name. refl) (λ is. cc) (λ is. cc) (λ is. cc)
label_told labels.Filter text more cut = named_told labels.Filter Filter text more cut (λ name. refl) (λ name. refl) (λ is. cc) (λ is. cc) (λ is. cc)
label_told labels.Primary text more cut = flag_told (codes "primary") Primary text more cut refl refl
label_told labels.All text more cut = flag_told (codes "all") All text more cut refl refl
label_told labels.Count text more cut = flag_told (codes "count") Count text more cut refl refl

abbrev IsOther : List ℕ → Type 0
IsOther word = (l : Label) → word ≡ label_text l → ⊥

other_word : (word : List ℕ) → (word ≡ codes "table" → ⊥) → (word ≡ codes "protocol" → ⊥) → (word ≡ codes "export" → ⊥) → (word ≡ codes "filter" → ⊥)
    → (word ≡ codes "primary" → ⊥) → (word ≡ codes "all" → ⊥) → (word ≡ codes "count" → ⊥) → IsOther word
other_word word t p e f b a c labels.Table = t
other_word word t p e f b a c labels.Protocol = p
other_word word t p e f b a c labels.Export = e
other_word word t p e f b a c labels.Filter = f
other_word word t p e f b a c labels.Primary = b
other_word word t p e f b a c labels.All = a
other_word word t p e f b a c labels.Count = c

found_label : (word : List ℕ) → ((l : Label) × (word ≡ label_text l)) ⊎ IsOther word
found_label word = elim (told_word word (codes "table")) [
  | inl is ↦ inl (labels.Table, is)
  | inr t ↦
      elim (told_word word (codes "protocol")) [
        | inl is ↦ inl (labels.Protocol, is)
        | inr p ↦
            elim (told_word word (codes "export")) [
              | inl is ↦ inl (labels.Export, is)
              | inr e ↦
                  elim (told_word word (codes "filter")) [
                    | inl is ↦ inl (labels.Filter, is)
                    | inr f ↦
                        elim (told_word word (codes "primary")) [
                          | inl is ↦ inl (labels.Primary, is)
                          | inr b ↦
                              elim (told_word word (codes "all")) [
                                | inl is ↦ inl (labels.All, is)
                                | inr a ↦
                                    elim (told_word word (codes "count")) [
                                      | inl is ↦ inl (labels.Count, is)
                                      | inr c ↦ inr (other_word word t p e f b a c)
                                    ]
                              ]
                        ]
                  ]
            ]
      ]
]

part_told_at : (text word : List ℕ) (more : List (List ℕ)) → words_of text ≡ word ∷ more → PartTold text
part_told_at text word more cut = elim (found_label word) [
  | inl is ↦ label_told is.0 text more (cut ∙ ap (λ (w : List ℕ). w ∷ more) is.1)
  | inr other ↦ inr (no_label text word more cut other)
]

part_told : (text : List ℕ) → PartTold text
part_told text = empty_or_more (words_of text) (λ none. inr (no_first text none)) (λ word more cut. part_told_at text word more cut)

-- ---- the end

none_ends : (old new : Asked) (text : List ℕ) → words_of text ≡ [] → Ends old text new → new ≡ old
none_ends old new text none (inl is) = is.1
none_ends old new text none (inr is) = absurd (none_is_some _ _ (sym is.1 ∙ none))

where_ends : (old new : Asked) (text : List ℕ) (more : List (List ℕ)) → words_of text ≡ codes "where" ∷ more → Ends old text new → put_condition old (behind_word text) ≡ Some new
where_ends old new text more cut (inl is) = absurd (none_is_some _ _ (sym cut ∙ is.0))
where_ends old new text more cut (inr is) = ap (λ (t : List ℕ). put_condition old t) (sym is.2) ∙ is.3

some_same : (a b : Asked) (o : Option Asked) → o ≡ Some a → o ≡ Some b → a ≡ b
some_same a b o one other = cc

none_some : (a : Asked) (o : Option Asked) → o ≡ None → o ≡ Some a → ⊥
none_some a o none is = cc

ends_where : (old : Asked) (text : List ℕ) (more : List (List ℕ)) → words_of text ≡ codes "where" ∷ more → (o : Option Asked) → put_condition old (behind_word text) ≡ o → FoundOne (Ends old text)
ends_where old text more cut None is = inr (λ new ends. none_some new (put_condition old (behind_word text)) is (where_ends old new text more cut ends))
ends_where old text more cut (Some new) is = inl (
  new,
  inr (behind_word text, cut_whole text (codes "where") more cut, refl, is),
  λ other ends. some_same other new (put_condition old (behind_word text)) (where_ends old other text more cut ends) is,
)

ends_at : (old : Asked) (text word : List ℕ) (more : List (List ℕ)) → words_of text ≡ word ∷ more → FoundOne (Ends old text)
ends_at old text word more cut = elim (told_word word (codes "where")) [
  | inl is ↦ ends_where old text more (cut ∙ ap (λ (w : List ℕ). w ∷ more) is) (put_condition old (behind_word text)) refl
  | inr other ↦ inr (λ new ends. no_end old text word more cut other new ends)
]

ends_told : (old : Asked) (text : List ℕ) → FoundOne (Ends old text)
ends_told old text = empty_or_more (words_of text) (λ none. inl (old, inl (none, refl), λ new ends. none_ends old new text none ends)) (λ word more cut. ends_at old text word more cut)

-- ---- the whole

as_told : {X : Type 0} (P Q : X → Type 0) → ((x : X) → P x → Q x) → ((x : X) → Q x → P x) → FoundOne P → FoundOne Q
as_told P Q to from (inl is) = inl (is.0, to is.0 is.1, λ y q. is.2 y (from y q))
as_told P Q to from (inr none) = inr (λ y q. none y (from y q))

one_less : (text rest : List ℕ) (p : Part) (n : ℕ) → BeginsWith text p rest → length (words_of text) ≤ suc n → length (words_of rest) ≤ n
one_less text rest p n begins few =
    omega (arith, few, ap (λ (l : List (List ℕ)). length l) begins.whole, length-append (part_words p) (words_of rest), ap (λ (l : List (List ℕ)). length l) (words_begin p))

none_less : (text rest : List ℕ) (p : Part) → BeginsWith text p rest → length (words_of text) ≤ 0 → ⊥
none_less text rest p begins few =
    omega (arith, few, ap (λ (l : List (List ℕ)). length l) begins.whole, length-append (part_words p) (words_of rest), ap (λ (l : List (List ℕ)). length l) (words_begin p))

-- an option more is read, and the rest is told
told_by_put : (old : Asked) (text rest : List ℕ) (p : Part) → BeginsWith text p rest → (o : Option Asked) → put old p ≡ o
    → ((now : Asked) → put old p ≡ Some now → FoundOne (GoesOn now rest)) → FoundOne (GoesOn old text)
told_by_put old text rest p begins None is next = inr (turn_none old text rest p begins is)
told_by_put old text rest p begins (Some now) is next = as_told (GoesOn now rest) (GoesOn old text) (turn_on old now text rest p begins is) (turn_back old now text rest p begins is) (next now is)

told_by_end : (old : Asked) (text : List ℕ) → IsOpen old → BeginsWithNone text → FoundOne (GoesOn old text)
told_by_end old text is_open none = as_told (Ends old text) (GoesOn old text) (ends_go old text is_open) (goes_ends old text is_open none) (ends_told old text)

goes_by : (old : Asked) (text : List ℕ) → IsOpen old → PartTold text
    → ((rest : List ℕ) (p : Part) → BeginsWith text p rest → (now : Asked) → put old p ≡ Some now → FoundOne (GoesOn now rest)) → FoundOne (GoesOn old text)
goes_by old text is_open (inl is) next = told_by_put old text is.1 is.0 is.2 (put old is.0) refl (next is.1 is.0 is.2)
goes_by old text is_open (inr none) next = told_by_end old text is_open none

goes_told : (n : ℕ) (old : Asked) (text : List ℕ) → length (words_of text) ≤ n → IsOpen old → FoundOne (GoesOn old text)
goes_told zero old text few is_open = goes_by old text is_open (part_told text) (λ rest p begins now set. absurd (none_less text rest p begins few))
goes_told (suc n) old text few is_open =
    goes_by old text is_open (part_told text) (λ rest p begins now set. goes_told n now rest (one_less text rest p n begins few) (put_open old now p set is_open))

told_by_selector : (text : List ℕ) → Selected text → FoundOne (IsQuestion text)
told_by_selector text (inl is) = as_told (GoesOn (plain is.0) is.1) (IsQuestion text) (λ asked. (is.2 asked).1) (λ asked. (is.2 asked).0)
    (goes_told (length (words_of is.1)) (plain is.0) is.1 (omega arith) (plain_open is.0))
told_by_selector text (inr none) = inr none

-- a text is one question, or none
pub question_told : (text : List ℕ) → FoundOne (IsQuestion text)
question_told text = told_by_selector text (selected text)

same_by : (text : List ℕ) → FoundOne (IsQuestion text) → (a b : Asked) → IsQuestion text a → IsQuestion text b → a ≡ b
same_by text (inl is) a b one other = is.2 a one ∙ sym (is.2 b other)
same_by text (inr none) a b one other = absurd (none a one)

pub questions_same : (text : List ℕ) (a b : Asked) → IsQuestion text a → IsQuestion text b → a ≡ b
questions_same text = same_by text (question_told text)

either_by : (text : List ℕ) → FoundOne (IsQuestion text) → ((asked : Asked) × IsQuestion text asked) ⊎ ((asked : Asked) → IsQuestion text asked → ⊥)
either_by text (inl is) = inl (is.0, is.1)
either_by text (inr none) = inr none

pub question_or_none : (text : List ℕ) → ((asked : Asked) × IsQuestion text asked) ⊎ ((asked : Asked) → IsQuestion text asked → ⊥)
question_or_none text = either_by text (question_told text)

-- without words
pub plain_asked : (text : List ℕ) (asked : Asked) → words_of text ≡ [] → IsQuestion text asked → asked ≡ plain picks.All
plain_asked text asked none is =
    none_ends (plain picks.All) asked text none (goes_ends (plain picks.All) text (plain_open picks.All) (no_first text none) asked ((selects_none text none asked).0 is))

pub plain_question : (text : List ℕ) (asked : Asked) → words_of text ≡ [] → asked ≡ plain picks.All → IsQuestion text asked
plain_question text asked none is = (selects_none text none asked).1 (ends_go (plain picks.All) text (plain_open picks.All) asked (inl (none, is)))
