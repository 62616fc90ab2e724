-- The words that say which nets are meant.
use Rattle.std.proofs.Common.{◌≡◌, ◌∙◌, sym, ap, refl, subst, ℕ, ◌+◌, true, List, [], ◌∷◌, ◌++◌, length, Option, Some, None, append_assoc, arith, inl, inr}
use Rattle.std.specs.Prelude.{codes, decimal, IfSome, MatchOption, ◌-◌, ◌%◌, ◌^◌}
use Rattle.std.specs.List.{list_all, flat_map}
use Rattle.std.proofs.lemmas.Bool.{and_parts, false≢true}
use Rattle.std.proofs.lemmas.List.Sums.{list_all-from_AllPass}
use Rattle.std.proofs.lemmas.List.{append_cancel_left}
use Rattle.std.proofs.lemmas.List.Sorted.{IsPermutation-sym}
use Rattle.bits_ip.specs.Address.{number_of, width_of}
use Rattle.bits_ip.specs.Prefix.{Net, IsPrefix}
use Rattle.bits_ip.specs.Text.{IsAddrText, IsNetText, is_addr_byte}
use Rattle.bits_ip.specs.declared.address.Addr.{Addr}
use Rattle.bits_ip.specs.declared.address.Addr.TheVariants.{V4, V6}
use Rattle.bits_ip.proofs.Nets.{addr_texts_agree, net_texts_agree, addr_spelling_bytes}
use Rattle.attrs.specs.declared.route.Select.{Select}
use Rattle.attrs.specs.declared.route.Select.TheVariants as picks
use Rattle.text.specs.Lines.{words_of, behind_word, behind_words}
use Rattle.queries.specs.Question.{Asked, IsPlace, IsSelector, IsQuestion, Part, part_words, parts_of, condition_words, plain}
use Rattle.queries.specs.Inside.{GoesOn, Selects, BeginsWithNet, HasNoNet}
use Rattle.queries.specs.Inside.{label_text}
use Rattle.queries.proofs.Labels.{heads_same, tails_same, none_is_some, label_for, words_go_on, has_no_slash, label_has_no_slash, for_is_no_label, in_is_no_label, for_is_not_where, in_is_not_where, for_is_not_in, is_no_slash}
use Rattle.queries.proofs.Turns.{behind_front, front_behind, some_behind}

-- ---- a selector and what it leaves

pub question_made : (text rest : List ℕ) (pick : Select) (selector : List (List ℕ)) → words_of text ≡ selector ++ words_of rest → rest ≡ behind_words (length selector) text → IsSelector selector pick
    → (asked : Asked) → GoesOn (plain pick) rest asked → IsQuestion text asked
question_made text rest pick selector whole rest_is selects asked goes =
    let P : Select → Type 0 = λ p. IsSelector selector p in
    let words = flat_map part_words goes.parts in
    record {
      selector = selector;
      parts = goes.parts;
      front = selector ++ words;
      front_is = refl;
      whole = whole ∙ ap (λ (l : List (List ℕ)). selector ++ l) goes.whole ∙ sym (append_assoc selector words (condition_words asked.condition));
      selector_is = subst P (sym goes.pick_is) selects;
      parts_are = IsPermutation-sym goes.parts (parts_of asked) goes.parts_are;
      names_are = goes.names_are;
      condition_is = some_behind asked.condition (λ t. t ≡ behind_words (length words + 1) rest) (λ t. t ≡ behind_words (length (selector ++ words) + 1) text)
          (λ t is. behind_front text rest selector words t rest_is is) goes.condition_is;
      one_table = goes.one_table;
      one_choice = goes.one_choice;
    }

-- a question begins with this selector
pub question_taken : (text rest : List ℕ) (pick : Select) (selector : List (List ℕ)) → words_of text ≡ selector ++ words_of rest → rest ≡ behind_words (length selector) text
    → (asked : Asked) (is : IsQuestion text asked) → is.selector ≡ selector → asked.pick ≡ pick → GoesOn (plain pick) rest asked
question_taken text rest pick selector whole rest_is asked is same picked =
    let words = flat_map part_words is.parts in
    let front : is.front ≡ selector ++ words = is.front_is ∙ ap (λ (l : List (List ℕ)). l ++ words) same in
    let behind : selector ++ words_of rest ≡ selector ++ (words ++ condition_words asked.condition) =
    sym whole ∙ is.whole ∙ ap (λ (l : List (List ℕ)). l ++ condition_words asked.condition) front ∙ append_assoc selector words (condition_words asked.condition) in
    let P : List (List ℕ) → Type 0 = λ l. IfSome asked.condition (λ t. t ≡ behind_words (length l + 1) text) in
    record {
      parts = is.parts;
      whole = append_cancel_left selector (words_of rest) (words ++ condition_words asked.condition) behind;
      parts_are = IsPermutation-sym (parts_of asked) is.parts is.parts_are;
      names_are = is.names_are;
      pick_is = picked;
      condition_is = some_behind asked.condition (λ t. t ≡ behind_words (length (selector ++ words) + 1) text) (λ t. t ≡ behind_words (length words + 1) rest)
          (λ t at. front_behind text rest selector words t rest_is at) (subst P front is.condition_is);
      one_table = is.one_table;
      one_choice = is.one_choice;
    }

-- ---- how a question begins

-- a word that no selector begins with
record IsOwn (word : List ℕ) : Type 0 where
  no_slash : has_no_slash word ≡ true
  no_for : word ≡ codes "for" → ⊥
  no_in : word ≡ codes "in" → ⊥

own_part : (p : Part) (xs more : List (List ℕ)) (word : List ℕ) → word ∷ more ≡ part_words p ++ xs → IsOwn word
own_part p xs more word same =
    let label : word ≡ label_text (label_for p) = heads_same _ _ _ _ (same ∙ words_go_on p xs) in
    record {
      no_slash = ap (λ (w : List ℕ). has_no_slash w) label ∙ label_has_no_slash (label_for p);
      no_for = λ is. for_is_no_label (label_for p) (sym is ∙ label);
      no_in = λ is. in_is_no_label (label_for p) (sym is ∙ label);
    }

own_where : (word : List ℕ) → word ≡ codes "where" → IsOwn word
own_where word same = record {
  no_slash = ap (λ (w : List ℕ). has_no_slash w) same;
  no_for = λ is. for_is_not_where (sym is ∙ same);
  no_in = λ is. in_is_not_where (sym is ∙ same);
}

own_condition : (condition : Option (List ℕ)) (word : List ℕ) (more : List (List ℕ)) → word ∷ more ≡ condition_words condition → IsOwn word
own_condition None word more same = absurd (none_is_some word more same)
own_condition (Some text) word more same = own_where word (heads_same _ _ _ _ same)

own_options : (parts : List Part) (condition : Option (List ℕ)) (word : List ℕ) (more : List (List ℕ)) → word ∷ more ≡ flat_map part_words parts ++ condition_words condition → IsOwn word
own_options [] condition word more same = own_condition condition word more same
own_options (p ∷ parts) condition word more same =
    own_part p (flat_map part_words parts ++ condition_words condition) more word (same ∙ append_assoc (part_words p) (flat_map part_words parts) (condition_words condition))

-- `for` or `in`, and a net
abbrev Labelled : List ℕ → (List ℕ → Net → Type 0) → Net → List (List ℕ) → List ℕ → List (List ℕ) → Type 0
Labelled label P net selector word more =
    (second : List ℕ) × (rest : List (List ℕ)) × (word ≡ label) × (more ≡ second ∷ rest) × (selector ≡ label ∷ second ∷ []) × P second net

-- what the first word of a question is, by what is asked for
abbrev Opens : Select → List (List ℕ) → List ℕ → List (List ℕ) → Type 0
Opens picks.All selector word more = (selector ≡ []) × IsOwn word
Opens (picks.Exact net) selector word more = (selector ≡ word ∷ []) × IsNetText word net
Opens (picks.For net) selector word more = Labelled (codes "for") IsPlace net selector word more
Opens (picks.Within net) selector word more = Labelled (codes "in") IsNetText net selector word more

labelled : (label : List ℕ) (P : List ℕ → Net → Type 0) (net : Net) (selector tail : List (List ℕ)) (word : List ℕ) (more : List (List ℕ)) → word ∷ more ≡ selector ++ tail
    → (second : List ℕ) → selector ≡ label ∷ second ∷ [] → P second net → Labelled label P net selector word more
labelled label P net selector tail word more same second selector_is is =
    let whole : word ∷ more ≡ label ∷ second ∷ tail = same ∙ ap (λ (l : List (List ℕ)). l ++ tail) selector_is in
    (second, tail, heads_same _ _ _ _ whole, tails_same _ _ _ _ whole, selector_is, is)

opens_by : (pick : Select) (selector : List (List ℕ)) (parts : List Part) (condition : Option (List ℕ)) (word : List ℕ) (more : List (List ℕ)) → IsSelector selector pick
    → word ∷ more ≡ selector ++ (flat_map part_words parts ++ condition_words condition) → Opens pick selector word more
opens_by picks.All selector parts condition word more is same =
    (is, own_options parts condition word more (same ∙ ap (λ (l : List (List ℕ)). l ++ (flat_map part_words parts ++ condition_words condition)) is))
opens_by (picks.Exact net) selector parts condition word more is same =
    let tail = flat_map part_words parts ++ condition_words condition in
    let whole : word ∷ more ≡ is.0 ∷ tail = same ∙ ap (λ (l : List (List ℕ)). l ++ tail) is.1 in
    let first : word ≡ is.0 = heads_same _ _ _ _ whole in
    let P : List ℕ → Type 0 = λ w. IsNetText w net in
    (is.1 ∙ ap (λ (w : List ℕ). w ∷ []) (sym first), subst P (sym first) is.2)
opens_by (picks.For net) selector parts condition word more is same =
    labelled (codes "for") IsPlace net selector (flat_map part_words parts ++ condition_words condition) word more same is.0 is.1 is.2
opens_by (picks.Within net) selector parts condition word more is same =
    labelled (codes "in") IsNetText net selector (flat_map part_words parts ++ condition_words condition) word more same is.0 is.1 is.2

opens : (text : List ℕ) (asked : Asked) (word : List ℕ) (more : List (List ℕ)) (is : IsQuestion text asked) → words_of text ≡ word ∷ more → Opens asked.pick is.selector word more
opens text asked word more is cut =
    let words = flat_map part_words is.parts in
    opens_by asked.pick is.selector is.parts asked.condition word more is.selector_is
    (sym cut ∙ is.whole ∙ ap (λ (l : List (List ℕ)). l ++ condition_words asked.condition) is.front_is ∙ append_assoc is.selector words (condition_words asked.condition))

-- ---- a net's word

no_slash_inside : (front back : List ℕ) → has_no_slash (front ++ 47 ∷ back) ≡ true → ⊥
no_slash_inside [] back all = false≢true all
no_slash_inside (b ∷ front) back all = no_slash_inside front back (and_parts (is_no_slash b) (has_no_slash (front ++ 47 ∷ back)) all).1

no_net : (word : List ℕ) (net : Net) → has_no_slash word ≡ true → IsNetText word net → ⊥
no_net word net none is = no_slash_inside is.front (decimal net.len) (ap (λ (w : List ℕ). has_no_slash w) (sym is.whole) ∙ none)

for_no_net : (word : List ℕ) (net : Net) → word ≡ codes "for" → IsNetText word net → ⊥
for_no_net word net same is = no_net word net (ap (λ (w : List ℕ). has_no_slash w) same) is

in_no_net : (word : List ℕ) (net : Net) → word ≡ codes "in" → IsNetText word net → ⊥
in_no_net word net same is = no_net word net (ap (λ (w : List ℕ). has_no_slash w) same) is

-- ---- which nets are meant

abbrev Meant : Select → List (List ℕ) → Select → List (List ℕ) → Type 0
Meant pick selector pick' selector' = (selector ≡ selector') × (pick ≡ pick')

-- a net alone
exact_by : (pick : Select) (selector : List (List ℕ)) (word : List ℕ) (more : List (List ℕ)) (net : Net) → IsNetText word net → Opens pick selector word more
    → Meant pick selector (picks.Exact net) (word ∷ [])
exact_by picks.All selector word more net is opened = absurd (no_net word net opened.1.no_slash is)
exact_by (picks.Exact other) selector word more net is opened = (opened.0, ap picks.Exact (net_texts_agree word other net opened.1 is))
exact_by (picks.For other) selector word more net is opened = absurd (for_no_net word net opened.2 is)
exact_by (picks.Within other) selector word more net is opened = absurd (in_no_net word net opened.2 is)

-- another word that is no net
all_by : (pick : Select) (selector : List (List ℕ)) (word : List ℕ) (more : List (List ℕ)) → (word ≡ codes "for" → ⊥) → (word ≡ codes "in" → ⊥) → ((net : Net) → IsNetText word net → ⊥)
    → Opens pick selector word more → Meant pick selector picks.All []
all_by picks.All selector word more no_for no_in none opened = (opened.0, refl)
all_by (picks.Exact other) selector word more no_for no_in none opened = absurd (none other opened.1)
all_by (picks.For other) selector word more no_for no_in none opened = absurd (no_for opened.2)
all_by (picks.Within other) selector word more no_for no_in none opened = absurd (no_in opened.2)

-- `for`
for_by : (pick : Select) (selector : List (List ℕ)) (word : List ℕ) (more : List (List ℕ)) → word ≡ codes "for" → Opens pick selector word more
    → (net : Net) × (pick ≡ picks.For net) × Labelled (codes "for") IsPlace net selector word more
for_by picks.All selector word more same opened = absurd (opened.1.no_for same)
for_by (picks.Exact other) selector word more same opened = absurd (for_no_net word other same opened.1)
for_by (picks.For other) selector word more same opened = (other, refl, opened)
for_by (picks.Within other) selector word more same opened = absurd (for_is_not_in (sym same ∙ opened.2))

-- `in`
in_by : (pick : Select) (selector : List (List ℕ)) (word : List ℕ) (more : List (List ℕ)) → word ≡ codes "in" → Opens pick selector word more
    → (net : Net) × (pick ≡ picks.Within net) × Labelled (codes "in") IsNetText net selector word more
in_by picks.All selector word more same opened = absurd (opened.1.no_in same)
in_by (picks.Exact other) selector word more same opened = absurd (in_no_net word other same opened.1)
in_by (picks.For other) selector word more same opened = absurd (for_is_not_in (sym opened.2 ∙ same))
in_by (picks.Within other) selector word more same opened = (other, refl, opened)

-- a word spells one place
no_slash_byte : (front back : List ℕ) → list_all is_addr_byte (front ++ 47 ∷ back) ≡ true → ⊥
no_slash_byte [] back all = false≢true all
no_slash_byte (b ∷ front) back all = no_slash_byte front back (and_parts (is_addr_byte b) (list_all is_addr_byte (front ++ 47 ∷ back)) all).1

pub net_no_addr : (word : List ℕ) (net : Net) (addr : Addr) → IsNetText word net → IsAddrText word addr → ⊥
net_no_addr word net addr is other =
    no_slash_byte is.front (decimal net.len) (ap (λ (w : List ℕ). list_all is_addr_byte w) (sym is.whole) ∙ list_all-from_AllPass is_addr_byte word (addr_spelling_bytes word addr other))

net_of : Addr → ℕ → Net
net_of addr len = record { addr = addr; len = len }

full_same : (a b : Net) → a.addr ≡ b.addr → a.len ≡ width_of a.addr → b.len ≡ width_of b.addr → a ≡ b
unfolding net_of
full_same a b addr one other =
    let len : a.len ≡ b.len = one ∙ ap (λ x. width_of x) addr ∙ sym other in
    ap (λ x. net_of x a.len) addr ∙ ap (λ k. net_of b.addr k) len

pub places_agree : (word : List ℕ) (a b : Net) → IsPlace word a → IsPlace word b → a ≡ b
places_agree word a b (inl one) (inl other) = net_texts_agree word a b one other
places_agree word a b (inl one) (inr other) = absurd (net_no_addr word a b.addr one other.0)
places_agree word a b (inr one) (inl other) = absurd (net_no_addr word b a.addr other one.0)
places_agree word a b (inr one) (inr other) = full_same a b (addr_texts_agree word a.addr b.addr one.0 other.0) one.1 other.1

width_whole : (addr : Addr) → number_of addr % 2 ^ (width_of addr - width_of addr) ≡ 0
width_whole (V4 n) = omega arith
width_whole (V6 n) = omega arith

pub other_net : (P : List ℕ → Net → Type 0) (words : List (List ℕ)) (word : List ℕ) (more : List (List ℕ)) → words ≡ word ∷ more → ((net : Net) → P word net → ⊥) → HasNoNet P words
other_net P words word more cut none word' more' net is holds =
    let Q : List ℕ → Type 0 = λ w. P w net in
    none net (subst Q (heads_same _ _ _ _ (sym is ∙ cut)) holds)

-- what is no prefix is an address or no place
pub place_from : (word : List ℕ) (found : Option Net) → ((net : Net) → IsNetText word net → ⊥)
    → MatchOption found ((addr : Addr) → IsAddrText word addr → ⊥) (λ net. IsAddrText word net.addr × (net.len ≡ width_of net.addr))
    → MatchOption found ((net : Net) → IsPlace word net → ⊥) (λ net. IsPlace word net)
place_from word None none is = λ net place. elim place [ inl it ↦ none net it | inr it ↦ is net.addr it.0 ]
place_from word (Some net) none is = inr is

-- each address is a prefix of full length
pub full_is_prefix : (addr : Addr) → IsPrefix addr (width_of addr)
full_is_prefix addr = record { within = omega arith; host_bits = width_whole addr }

-- ---- what a selector selects

none_by : (pick : Select) (selector tail : List (List ℕ)) → IsSelector selector pick → [] ≡ selector ++ tail → Meant pick selector picks.All []
none_by picks.All selector tail is same = (is, refl)
none_by (picks.Exact net) selector tail is same = absurd (none_is_some _ _ (sym (same ∙ ap (λ (l : List (List ℕ)). l ++ tail) is.1)))
none_by (picks.For net) selector tail is same = absurd (none_is_some _ _ (sym (same ∙ ap (λ (l : List (List ℕ)). l ++ tail) is.1)))
none_by (picks.Within net) selector tail is same = absurd (none_is_some _ _ (sym (same ∙ ap (λ (l : List (List ℕ)). l ++ tail) is.1)))

no_words_mean_all : (text : List ℕ) (asked : Asked) (is : IsQuestion text asked) → words_of text ≡ [] → Meant asked.pick is.selector picks.All []
no_words_mean_all text asked is none =
    let words = flat_map part_words is.parts in
    none_by asked.pick is.selector (words ++ condition_words asked.condition) is.selector_is
    (sym none ∙ is.whole ∙ ap (λ (l : List (List ℕ)). l ++ condition_words asked.condition) is.front_is ∙ append_assoc is.selector words (condition_words asked.condition))

selects_as : (text rest : List ℕ) (pick : Select) (selector : List (List ℕ)) → words_of text ≡ selector ++ words_of rest → rest ≡ behind_words (length selector) text → IsSelector selector pick
    → ((asked : Asked) (is : IsQuestion text asked) → Meant asked.pick is.selector pick selector) → Selects text pick rest
selects_as text rest pick selector whole rest_is selects means = λ asked. (
  (λ is. let meant = means asked is in question_taken text rest pick selector whole rest_is asked is meant.0 meant.1),
  question_made text rest pick selector whole rest_is selects asked,
)

pub selects_none : (text : List ℕ) → words_of text ≡ [] → Selects text picks.All text
selects_none text none = selects_as text text picks.All [] refl refl refl (λ asked is. no_words_mean_all text asked is none)

pub selects_all : (text word : List ℕ) (more : List (List ℕ)) → words_of text ≡ word ∷ more → (word ≡ codes "for" → ⊥) → (word ≡ codes "in" → ⊥) → ((net : Net) → IsNetText word net → ⊥)
    → Selects text picks.All text
selects_all text word more cut no_for no_in none =
    selects_as text text picks.All [] refl refl refl (λ asked is. all_by asked.pick is.selector word more no_for no_in none (opens text asked word more is cut))

pub selects_exact : (text word rest : List ℕ) (net : Net) → words_of text ≡ word ∷ words_of rest → rest ≡ behind_word text → IsNetText word net → Selects text (picks.Exact net) rest
selects_exact text word rest net cut rest_is is =
    selects_as text rest (picks.Exact net) (word ∷ []) cut rest_is (word, refl, is)
    (λ asked q. exact_by asked.pick q.selector word (words_of rest) net is (opens text asked word (words_of rest) q cut))

-- behind a label
second_same : (a b : List ℕ) (xs ys more : List (List ℕ)) → more ≡ a ∷ xs → more ≡ b ∷ ys → a ≡ b
second_same a b xs ys more one other = heads_same a b xs ys (sym one ∙ other)

for_means : (pick : Select) (selector : List (List ℕ)) (word : List ℕ) (more : List (List ℕ)) (second : List ℕ) (rest : List (List ℕ)) (net : Net)
    → word ≡ codes "for" → more ≡ second ∷ rest → IsPlace second net → Opens pick selector word more → Meant pick selector (picks.For net) (codes "for" ∷ second ∷ [])
for_means pick selector word more second rest net same more_is place opened =
    let found = for_by pick selector word more same opened in
    let labelled_by = found.2 in
    let agreed : labelled_by.0 ≡ second = second_same _ _ _ _ more labelled_by.3 more_is in
    let P : List ℕ → Type 0 = λ w. IsPlace w found.0 in
    (labelled_by.4 ∙ ap (λ (w : List ℕ). codes "for" ∷ w ∷ []) agreed, found.1 ∙ ap picks.For (places_agree second found.0 net (subst P agreed labelled_by.5) place))

in_means : (pick : Select) (selector : List (List ℕ)) (word : List ℕ) (more : List (List ℕ)) (second : List ℕ) (rest : List (List ℕ)) (net : Net)
    → word ≡ codes "in" → more ≡ second ∷ rest → IsNetText second net → Opens pick selector word more → Meant pick selector (picks.Within net) (codes "in" ∷ second ∷ [])
in_means pick selector word more second rest net same more_is is opened =
    let found = in_by pick selector word more same opened in
    let labelled_by = found.2 in
    let agreed : labelled_by.0 ≡ second = second_same _ _ _ _ more labelled_by.3 more_is in
    let P : List ℕ → Type 0 = λ w. IsNetText w found.0 in
    (labelled_by.4 ∙ ap (λ (w : List ℕ). codes "in" ∷ w ∷ []) agreed, found.1 ∙ ap picks.Within (net_texts_agree second found.0 net (subst P agreed labelled_by.5) is))

behind_two : (text behind rest : List ℕ) → behind ≡ behind_word text → rest ≡ behind_word behind → rest ≡ behind_words 2 text
behind_two text behind rest one two = two ∙ ap behind_word one

pub selects_for : (text word behind rest : List ℕ) (net : Net) → words_of text ≡ word ∷ words_of behind → behind ≡ behind_word text → word ≡ codes "for"
    → BeginsWithNet IsPlace behind net rest → Selects text (picks.For net) rest
selects_for text word behind rest net cut behind_is same found =
    let whole : words_of text ≡ codes "for" ∷ found.word ∷ words_of rest = cut ∙ ap (λ (w : List ℕ). w ∷ words_of behind) same ∙ ap (λ (l : List (List ℕ)). codes "for" ∷ l) found.whole in
    selects_as text rest (picks.For net) (codes "for" ∷ found.word ∷ []) whole (behind_two text behind rest behind_is found.rest_is) (found.word, refl, found.net_is)
    (λ asked q. for_means asked.pick q.selector word (words_of behind) found.word (words_of rest) net same found.whole found.net_is (opens text asked word (words_of behind) q cut))

pub selects_in : (text word behind rest : List ℕ) (net : Net) → words_of text ≡ word ∷ words_of behind → behind ≡ behind_word text → word ≡ codes "in"
    → BeginsWithNet IsNetText behind net rest → Selects text (picks.Within net) rest
selects_in text word behind rest net cut behind_is same found =
    let whole : words_of text ≡ codes "in" ∷ found.word ∷ words_of rest = cut ∙ ap (λ (w : List ℕ). w ∷ words_of behind) same ∙ ap (λ (l : List (List ℕ)). codes "in" ∷ l) found.whole in
    selects_as text rest (picks.Within net) (codes "in" ∷ found.word ∷ []) whole (behind_two text behind rest behind_is found.rest_is) (found.word, refl, found.net_is)
    (λ asked q. in_means asked.pick q.selector word (words_of behind) found.word (words_of rest) net same found.whole found.net_is (opens text asked word (words_of behind) q cut))

pub for_alone : (text word behind : List ℕ) → words_of text ≡ word ∷ words_of behind → word ≡ codes "for" → HasNoNet IsPlace (words_of behind) → (asked : Asked) → IsQuestion text asked → ⊥
for_alone text word behind cut same none asked is =
    let found = for_by asked.pick is.selector word (words_of behind) same (opens text asked word (words_of behind) is cut) in
    none found.2.0 found.2.1 found.0 found.2.3 found.2.5

pub in_alone : (text word behind : List ℕ) → words_of text ≡ word ∷ words_of behind → word ≡ codes "in" → HasNoNet IsNetText (words_of behind) → (asked : Asked) → IsQuestion text asked → ⊥
in_alone text word behind cut same none asked is =
    let found = in_by asked.pick is.selector word (words_of behind) same (opens text asked word (words_of behind) is cut) in
    none found.2.0 found.2.1 found.0 found.2.3 found.2.5
