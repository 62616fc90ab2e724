-- Each line has a form or none: a search tells.
use Rattle.std.proofs.Common.{◌≡◌, ◌∙◌, sym, ap, refl, subst, ℕ, ◌<◌, ◌^◌, List, [], ◌∷◌, ◌++◌, length, arith, inl, inr, ◌⊎◌, Option, Some, None}
use Rattle.std.specs.Prelude.{codes}
use Rattle.bits_ip.specs.Prefix.{Net}
use Rattle.bits_ip.specs.Text.{v4_text, IsAddrText, IsNetText}
use Rattle.bits_ip.specs.declared.address.Addr.{Addr}
use Rattle.attrs.specs.Text.{origin_text}
use Rattle.attrs.specs.declared.attributes.Origin.{Origin}
use Rattle.import_core.specs.declared.operation.Given.{Given}
use Rattle.script_lines.specs.declared.commands.Verb.{Verb}
use Rattle.script_lines.specs.declared.commands.Verb.TheVariants as verbs
use Rattle.script_lines.specs.declared.commands.Reload.{Reload}
use Rattle.script_lines.specs.declared.commands.Reload.TheVariants as reloads
use Rattle.script_lines.specs.Grammar.{IsDel, AreName, AreWordAndName, IsActor}
use Rattle.announcements.specs.Grammar.{IsDecimal, AreCommunities, IsCommunity, IsCom, IsAdd, each_once}
use Rattle.script_lines.specs.Grammar.{Command, Open, Close, Add, Del, Disable, Enable, ReloadIn, ReloadOut, ShowRoute, IsCommand, Form, Sync, Take, Push, Says, AreForm, HasForm}
use Rattle.queries.specs.Name.{is_name}
use Rattle.queries.specs.Question.{Asked, IsQuestion}
use Rattle.text.specs.Lines.{behind_words, words_of}
use Rattle.script_lines.specs.Grammar as grammar
use Rattle.script_lines.specs.declared.reading.Mark.{Mark}
use Rattle.script_lines.specs.declared.reading.Mark.TheVariants as marks
use Rattle.script_lines.specs.Inside.{AreStep, IsReload, verb_text, mark_text}
use Rattle.announcements.specs.Reading.{HasNoNumber, BeginWithNumbers, IsVia, IsOrigin, IsPathAndOrigin, LacksNumber, BeginWithOption, BeginWithOptions, AreNoOptions, AreOnce}
use Rattle.announcements.proofs.AddParts.{no_via, no_origin, no_path_behind, no_options_behind, no_com_behind, add_read}
use Rattle.script_lines.proofs.CommandParts.{command_made, no_verb, no_command, no_open, no_close, no_add, no_del, no_disable, no_enable, no_reload, no_show}
use Rattle.announcements.proofs.Words.{first_byte, heads_same, words_behind}
use Rattle.announcements.proofs.CommunityWords.{once_of_com}
use Rattle.script_lines.proofs.LineParts.{step_made, no_take, no_push, no_sync, no_mark, no_speaker, no_spoken, spoken_made}
use Rattle.announcements.proofs.Options.{options_begin, option_same, moved}
use Rattle.queries.proofs.ToldAddresses.{Told, Found, told_both, told_most, told_number, told_word, found_v4, found_addr, found_net}
use Rattle.script_lines.proofs.ToldWords.{told_true, found_decimal, found_origin, found_community}

-- no words begin as some do
no_words : (word : List ℕ) (words : List (List ℕ)) → [] ≡ word ∷ words → ⊥
no_words word words same = cc

no_number_first : (word : List ℕ) (words : List (List ℕ)) → ((n : ℕ) → IsDecimal word n → ⊥) → HasNoNumber (word ∷ words)
no_number_first word words none first more n same is = none n (subst (λ (w : List ℕ). IsDecimal w n) (sym (heads_same word first words more same)) is)

-- the numbers at the front of some words
pub numbers_of : (words : List (List ℕ)) → (numbers : List ℕ) × (rest : List (List ℕ)) × BeginWithNumbers words numbers rest
numbers_of [] = ([], [], record { front = []; whole = refl; numbers_are = tt; longest = λ word more n same is. no_words word more same })
numbers_of (word ∷ words) = elim (found_decimal word) [
  | inl is ↦
      let more = numbers_of words in (
        is.0 ∷ more.0,
        more.1,
        record {
          front = word ∷ more.2.front;
          whole = ap (λ (l : List (List ℕ)). word ∷ l) more.2.whole;
          numbers_are = (is.1, more.2.numbers_are);
          longest = more.2.longest;
        },
      )
  | inr none ↦ ([], word ∷ words, record { front = []; whole = refl; numbers_are = tt; longest = no_number_first word words none })
]

-- one option
number_behind : (label : List ℕ) (words more : List (List ℕ)) → words ≡ label ∷ more → ((value : Option ℕ) × (rest : List (List ℕ)) × BeginWithOption label words value rest) ⊎ LacksNumber label words
number_behind label words [] cut = inr ([], cut, λ word more n same is. no_words word more same)
number_behind label words (word ∷ rest) cut = elim (found_decimal word) [
  | inl is ↦ inl (Some is.0, rest, (word, cut, is.1))
  | inr none ↦ inr (word ∷ rest, cut, no_number_first word rest none)
]

option_of : (label : List ℕ) (words : List (List ℕ)) → ((value : Option ℕ) × (rest : List (List ℕ)) × BeginWithOption label words value rest) ⊎ LacksNumber label words
option_of label [] = inl (None, [], (refl, λ more same. no_words label more same))
option_of label (word ∷ words) = elim (told_word word label) [
  | inl same ↦ number_behind label (word ∷ words) words (ap (λ (w : List ℕ). w ∷ words) same)
  | inr other ↦ inl (None, word ∷ words, (refl, λ more same. other (heads_same word label words more same)))
]

lacks_none : (label : List ℕ) (words rest : List (List ℕ)) (value : Option ℕ) → LacksNumber label words → BeginWithOption label words value rest → ⊥
lacks_none label words rest None lacks is = is.1 lacks.0 lacks.1
lacks_none label words rest (Some n) lacks is = lacks.2 is.0 rest n (words_behind label label lacks.0 (is.0 ∷ rest) (sym lacks.1 ∙ is.1)) is.2

-- the options in their order
no_med : (words : List (List ℕ)) → LacksNumber (codes "med") words → AreNoOptions words
no_med words lacks med lp igp coms are =
    let begin = options_begin words med lp igp coms are in
    lacks_none (codes "med") words begin.behind_med med lacks begin.med_is

no_lp : (words behind : List (List ℕ)) (value : Option ℕ) → BeginWithOption (codes "med") words value behind → LacksNumber (codes "lp") behind → AreNoOptions words
no_lp words behind value read lacks med lp igp coms are =
    let begin = options_begin words med lp igp coms are in
    let first = option_same (codes "med") words begin.behind_med behind med value begin.med_is read in
    lacks_none (codes "lp") behind begin.behind_lp lp lacks (moved _ _ _ _ lp first.1 begin.lp_is)

no_igp : (words behind last : List (List ℕ)) (value second : Option ℕ) → BeginWithOption (codes "med") words value behind → BeginWithOption (codes "lp") behind second last
    → LacksNumber (codes "igp") last → AreNoOptions words
no_igp words behind last value second read second_read lacks med lp igp coms are =
    let begin = options_begin words med lp igp coms are in
    let first = option_same (codes "med") words begin.behind_med behind med value begin.med_is read in
    let next = option_same (codes "lp") behind begin.behind_lp last lp second (moved _ _ _ _ lp first.1 begin.lp_is) second_read in
    lacks_none (codes "igp") last are.com_words igp lacks (moved _ _ _ _ igp next.1 begin.igp_is)

pub options_of : (words : List (List ℕ)) → ((med : Option ℕ) × (lp : Option ℕ) × (igp : Option ℕ) × (rest : List (List ℕ)) × BeginWithOptions words med lp igp rest) ⊎ AreNoOptions words
options_of words = elim (option_of (codes "med") words) [
  | inl med ↦
      elim (option_of (codes "lp") med.1) [
        | inl lp ↦
            elim (option_of (codes "igp") lp.1) [
              | inl igp ↦ inl (med.0, lp.0, igp.0, igp.1, record { behind_med = med.1; behind_lp = lp.1; med_is = med.2; lp_is = lp.2; igp_is = igp.2 })
              | inr lacks ↦ inr (no_igp words med.1 lp.1 med.0 lp.0 med.2 lp.2 lacks)
            ]
        | inr lacks ↦ inr (no_lp words med.1 med.0 med.2 lacks)
      ]
  | inr lacks ↦ inr (no_med words lacks)
]

no_first_community : (word : List ℕ) (words : List (List ℕ)) → ((pair : ℕ × ℕ) → IsCommunity word pair → ⊥) → (pairs : List (ℕ × ℕ)) → AreCommunities (word ∷ words) pairs → ⊥
no_first_community word words none [] are = are
no_first_community word words none (pair ∷ pairs) are = none pair are.0

no_more_communities : (word : List ℕ) (words : List (List ℕ)) → ((pairs : List (ℕ × ℕ)) → AreCommunities words pairs → ⊥) → (pairs : List (ℕ × ℕ)) → AreCommunities (word ∷ words) pairs → ⊥
no_more_communities word words none [] are = are
no_more_communities word words none (pair ∷ pairs) are = none pairs are.1

-- communities
communities_of : (words : List (List ℕ)) → Found (AreCommunities words)
communities_of [] = inl ([], tt)
communities_of (word ∷ words) = elim (found_community word) [
  | inl is ↦
      elim (communities_of words) [
        | inl more ↦ inl (is.0 ∷ more.0, (is.1, more.1))
        | inr none ↦ inr (no_more_communities word words none)
      ]
  | inr none ↦ inr (no_first_community word words none)
]

once_of : (words : List (List ℕ)) → Found (AreOnce words)
once_of words = elim (communities_of words) [
  | inl are ↦ inl (each_once are.0, record { pairs = are.0; pairs_are = are.1; once = refl })
  | inr none ↦ inr (λ coms once. none once.pairs once.pairs_are)
]

no_pairs : (words : List (List ℕ)) (coms : List (ℕ × ℕ)) → words ≡ codes "com" ∷ [] → IsCom words coms → ⊥
no_pairs words coms label (inl is) = no_words (codes "com") [] (sym is.0 ∙ label)
no_pairs words coms label (inr is) = no_words is.first is.more (words_behind (codes "com") (codes "com") [] (is.first ∷ is.more) (sym label ∙ is.whole))

com_behind : (words rest : List (List ℕ)) → words ≡ codes "com" ∷ rest → Found (IsCom words)
com_behind words [] label = inr (λ coms is. no_pairs words coms label is)
com_behind words (first ∷ more) label = elim (once_of (first ∷ more)) [
  | inl is ↦ inl (is.0, inr (record { first = first; more = more; pairs = is.1.pairs; whole = label; pairs_are = is.1.pairs_are; once = is.1.once }))
  | inr none ↦ inr (λ coms is. none coms (once_of_com words (first ∷ more) label coms is))
]

no_com : (word : List ℕ) (words : List (List ℕ)) (coms : List (ℕ × ℕ)) → (word ≡ codes "com" → ⊥) → IsCom (word ∷ words) coms → ⊥
no_com word words coms other (inl is) = no_words word words (sym is.0)
no_com word words coms other (inr is) = other (heads_same word (codes "com") words (is.first ∷ is.more) is.whole)

pub com_of : (words : List (List ℕ)) → Found (IsCom words)
com_of [] = inl ([], inl (refl, refl))
com_of (word ∷ words) = elim (told_word word (codes "com")) [
  | inl same ↦ com_behind (word ∷ words) words (ap (λ (w : List ℕ). w ∷ words) same)
  | inr other ↦ inr (λ coms is. no_com word words coms other is)
]

-- the front of an `add`
abbrev IsAnyVia : List (List ℕ) → Type 0
IsAnyVia words = (net : Net) × (gateway : Addr) × (rest : List (List ℕ)) × IsVia words net gateway rest

short_via : {X : Type 0} (a b c d e : X) (xs : List X) (words : List X) → words ≡ a ∷ b ∷ c ∷ d ∷ xs → length words < 4 → ⊥
short_via a b c d e xs words same short = omega (arith, short, ap length same)

no_short_via : (words : List (List ℕ)) → length words < 4 → (net : Net) (gateway : Addr) (more : List (List ℕ)) → IsVia words net gateway more → ⊥
no_short_via words short net gateway more is = short_via is.net_word (codes "via") is.gateway_word (codes "path") (codes "path") more words is.whole short

parts_same : {X : Type 0} (a b c d e f g h : X) (xs ys : List X) → a ∷ b ∷ c ∷ d ∷ xs ≡ e ∷ f ∷ g ∷ h ∷ ys → (a ≡ e) × (b ≡ f) × (c ≡ g) × (d ≡ h)
parts_same a b c d e f g h xs ys same =
    let first : a ≡ e = cc in
    let second : b ≡ f = cc in
    let third : c ≡ g = cc in
    let fourth : d ≡ h = cc in
    (first, second, third, fourth)

via_made : (a b c d : List ℕ) (rest : List (List ℕ)) (net : Net) (gateway : Addr) → IsNetText a net → b ≡ codes "via" → IsAddrText c gateway → d ≡ codes "path"
    → IsVia (a ∷ b ∷ c ∷ d ∷ rest) net gateway rest
via_made a b c d rest net gateway net_is via gateway_is path = record {
  net_word = a;
  gateway_word = c;
  whole = ap (λ (w : List ℕ). a ∷ w ∷ c ∷ d ∷ rest) via ∙ ap (λ (w : List ℕ). a ∷ codes "via" ∷ c ∷ w ∷ rest) path;
  net_is = net_is;
  gateway_is = gateway_is;
}

via_four : (a b c d : List ℕ) (rest : List (List ℕ)) → Told (IsAnyVia (a ∷ b ∷ c ∷ d ∷ rest))
via_four a b c d rest = elim (told_both (told_word b (codes "via")) (told_word d (codes "path"))) [
  | inl labels ↦
      elim (found_net a) [
        | inl net ↦
            elim (found_addr c) [
              | inl gateway ↦ inl (net.0, gateway.0, rest, via_made a b c d rest net.0 gateway.0 net.1 labels.0 gateway.1 labels.1)
              | inr none ↦ inr (λ is. (
                  let same = parts_same _ _ _ _ _ _ _ _ _ _ is.3.whole in
                  none is.1 (subst (λ (w : List ℕ). IsAddrText w is.1) (sym same.2) is.3.gateway_is)))
            ]
        | inr none ↦ inr (λ is. (
            let same = parts_same _ _ _ _ _ _ _ _ _ _ is.3.whole in
            none is.0 (subst (λ (w : List ℕ). IsNetText w is.0) (sym same.0) is.3.net_is)))
      ]
  | inr others ↦ inr (λ is. (
      let same = parts_same _ _ _ _ _ _ _ _ _ _ is.3.whole in
      others (same.1, same.3)))
]

via_of : (words : List (List ℕ)) → Told (IsAnyVia words)
via_of [] = inr (λ is. no_short_via [] (omega arith) is.0 is.1 is.2 is.3)
via_of (a ∷ []) = inr (λ is. no_short_via (a ∷ []) (omega arith) is.0 is.1 is.2 is.3)
via_of (a ∷ b ∷ []) = inr (λ is. no_short_via (a ∷ b ∷ []) (omega arith) is.0 is.1 is.2 is.3)
via_of (a ∷ b ∷ c ∷ []) = inr (λ is. no_short_via (a ∷ b ∷ c ∷ []) (omega arith) is.0 is.1 is.2 is.3)
via_of (a ∷ b ∷ c ∷ d ∷ rest) = via_four a b c d rest

-- the path and the origin of an `add`
abbrev IsAnyOrigin : List (List ℕ) → Type 0
IsAnyOrigin words = (origin : Origin) × (rest : List (List ℕ)) × IsOrigin words origin rest

origin_behind : (words : List (List ℕ)) (a b : List ℕ) (rest : List (List ℕ)) → words ≡ a ∷ b ∷ rest → Told (IsAnyOrigin words)
origin_behind words a b rest cut = elim (told_word a (codes "origin")) [
  | inl label ↦
      elim (found_origin b) [
        | inl origin ↦ inl (origin.0, rest, cut ∙ ap (λ (w : List ℕ). w ∷ b ∷ rest) label ∙ ap (λ (w : List ℕ). codes "origin" ∷ w ∷ rest) origin.1)
        | inr none ↦ inr (λ is. none is.0 (heads_same b (origin_text is.0) rest is.1 (words_behind a (codes "origin") (b ∷ rest) (origin_text is.0 ∷ is.1) (sym cut ∙ is.2))))
      ]
  | inr other ↦ inr (λ is. other (heads_same a (codes "origin") (b ∷ rest) (origin_text is.0 ∷ is.1) (sym cut ∙ is.2)))
]

short_origin : {X : Type 0} (a b : X) (xs words : List X) → words ≡ a ∷ b ∷ xs → length words < 2 → ⊥
short_origin a b xs words same short = omega (arith, short, ap length same)

origin_of : (words : List (List ℕ)) → Told (IsAnyOrigin words)
origin_of [] = inr (λ is. short_origin (codes "origin") (origin_text is.0) is.1 [] is.2 (omega arith))
origin_of (a ∷ []) = inr (λ is. short_origin (codes "origin") (origin_text is.0) is.1 (a ∷ []) is.2 (omega arith))
origin_of (a ∷ b ∷ rest) = origin_behind (a ∷ b ∷ rest) a b rest refl

abbrev IsAnyPath : List (List ℕ) → Type 0
IsAnyPath words = (path : List ℕ) × (origin : Origin) × (rest : List (List ℕ)) × IsPathAndOrigin words path origin rest

path_made : (words rest behind : List (List ℕ)) (numbers : List ℕ) (origin : Origin) → BeginWithNumbers words numbers rest → IsOrigin rest origin behind → IsPathAndOrigin words numbers origin behind
path_made words rest behind numbers origin begin is = record {
  path_words = begin.front;
  whole = begin.whole ∙ ap (λ (l : List (List ℕ)). begin.front ++ l) is;
  path_is = begin.numbers_are;
}

path_of : (words : List (List ℕ)) → Told (IsAnyPath words)
path_of words =
    let begin = numbers_of words in
    elim (origin_of begin.1) [
      | inl origin ↦ inl (begin.0, origin.0, origin.1, path_made words begin.1 origin.1 begin.0 origin.0 begin.2 origin.2)
      | inr none ↦ inr (λ is. no_origin words begin.1 begin.0 begin.2 (λ origin more other. none (origin, more, other)) is.0 is.1 is.2 is.3)
    ]

-- the rest of an `add`
abbrev IsAnyAdd : List (List ℕ) → Type 0
IsAnyAdd words = (net : Net) × (given : Given) × IsAdd words net given

given_of : Addr → List ℕ → Origin → Option ℕ → Option ℕ → Option ℕ → List (ℕ × ℕ) → Given
given_of gw path origin med lp igp coms = record { gw = gw; path = path; origin = origin; med = med; lp = lp; igp = igp; coms = coms }

add_made : (words rest behind last : List (List ℕ)) (net : Net) (gw : Addr) (path : List ℕ) (origin : Origin) (med lp igp : Option ℕ) (coms : List (ℕ × ℕ)) → IsVia words net gw rest
    → IsPathAndOrigin rest path origin behind → BeginWithOptions behind med lp igp last → IsCom last coms → IsAdd words net (given_of gw path origin med lp igp coms)
unfolding given_of
add_made words rest behind last net gw path origin med lp igp coms via read begin coms_are =
    add_read words rest behind last net (given_of gw path origin med lp igp coms) via read begin coms_are

add_of : (words : List (List ℕ)) → Told (IsAnyAdd words)
add_of words = elim (via_of words) [
  | inl via ↦
      elim (path_of via.2) [
        | inl path ↦
            elim (options_of path.2) [
              | inl options ↦
                  elim (com_of options.3) [
                    | inl coms ↦
                        inl (
                          via.0,
                          given_of via.1 path.0 path.1 options.0 options.1 options.2 coms.0,
                          add_made words via.2 path.2 options.3 via.0 via.1 path.0 path.1 options.0 options.1 options.2 coms.0 via.3 path.3 options.4 coms.1,
                        )
                    | inr none ↦
                        inr (λ is.
                        no_com_behind words via.2 path.2 options.3 via.0 via.1 path.0 path.1 options.0 options.1 options.2 via.3 path.3 options.4 none is.0 is.1 is.2)
                  ]
              | inr none ↦ inr (λ is. no_options_behind words via.2 path.2 via.0 via.1 path.0 path.1 via.3 path.3 none is.0 is.1 is.2)
            ]
        | inr none ↦ inr (λ is. no_path_behind words via.2 via.0 via.1 via.3 (λ path origin more other. none (path, origin, more, other)) is.0 is.1 is.2)
      ]
  | inr none ↦ inr (λ is. no_via words (λ net gateway more other. none (net, gateway, more, other)) is.0 is.1 is.2)
]

-- the other commands
open_of : (words : List (List ℕ)) → Told ((id : ℕ) × (words ≡ v4_text id ∷ []) × (id < 2 ^ 32))
open_of [] = inr (λ is. no_words _ _ is.1)
open_of (word ∷ []) = elim (found_v4 word) [
  | inl is ↦ inl (is.0, ap (λ (w : List ℕ). w ∷ []) is.1.1, is.1.0)
  | inr none ↦ inr (λ is. none is.0 (is.2, heads_same word (v4_text is.0) [] [] is.1))
]
open_of (word ∷ second ∷ words) = inr (λ is. no_words second words (sym (words_behind word (v4_text is.0) (second ∷ words) [] is.1)))

end_of : (words : List (List ℕ)) → Told (words ≡ [])
end_of [] = inl refl
end_of (word ∷ words) = inr (λ is. no_words word words (sym is))

del_of : (words : List (List ℕ)) → Told ((net : Net) × IsDel words net)
del_of [] = inr (λ is. no_words _ _ is.1.whole)
del_of (word ∷ []) = elim (found_net word) [
  | inl is ↦ inl (is.0, record { word = word; whole = refl; net_is = is.1 })
  | inr none ↦ inr (λ is. none is.0 (subst (λ (w : List ℕ). IsNetText w is.0) (sym (heads_same word is.1.word [] [] is.1.whole)) is.1.net_is))
]
del_of (word ∷ second ∷ words) = inr (λ is. no_words second words (sym (words_behind word is.1.word (second ∷ words) [] is.1.whole)))

name_of : (words : List (List ℕ)) → Found (AreName words)
name_of [] = inr (λ name is. no_words _ _ is.0)
name_of (word ∷ []) = elim (told_true (is_name word)) [
  | inl is ↦ inl (word, (refl, is))
  | inr none ↦ inr (λ name is. none (ap is_name (heads_same word name [] [] is.0) ∙ is.1))
]
name_of (word ∷ second ∷ words) = inr (λ name is. no_words second words (sym (words_behind word name (second ∷ words) [] is.0)))

word_and_name_of : (label : List ℕ) (words : List (List ℕ)) → Found (AreWordAndName label words)
word_and_name_of label [] = inr (λ name is. no_words _ _ is.0)
word_and_name_of label (word ∷ words) = elim (told_word word label) [
  | inl same ↦
      elim (name_of words) [
        | inl is ↦ inl (is.0, (ap (λ (w : List ℕ). w ∷ words) same ∙ ap (λ (l : List (List ℕ)). label ∷ l) is.1.0, is.1.1))
        | inr none ↦ inr (λ name is. none name (words_behind word label words (name ∷ []) is.0, is.1))
      ]
  | inr other ↦ inr (λ name is. other (heads_same word label words (name ∷ []) is.0))
]

abbrev IsAnyReload : List (List ℕ) → Type 0
IsAnyReload words = (reload : Reload) × (name : List ℕ) × IsReload words reload name

no_reload_of : (words : List (List ℕ)) → ((name : List ℕ) → AreName words name → ⊥) → ((name : List ℕ) → AreWordAndName (codes "in") words name → ⊥)
    → ((name : List ℕ) → AreWordAndName (codes "out") words name → ⊥) → (reload : Reload) (name : List ℕ) → IsReload words reload name → ⊥
no_reload_of words both in_none out_none reloads.Both name is = both name is
no_reload_of words both in_none out_none reloads.In name is = in_none name is
no_reload_of words both in_none out_none reloads.Out name is = out_none name is

reload_of : (words : List (List ℕ)) → IsAnyReload words ⊎ ((reload : Reload) (name : List ℕ) → IsReload words reload name → ⊥)
reload_of words = elim (name_of words) [
  | inl is ↦ inl (reloads.Both, is.0, is.1)
  | inr both ↦
      elim (word_and_name_of (codes "in") words) [
        | inl is ↦ inl (reloads.In, is.0, is.1)
        | inr in_none ↦
            elim (word_and_name_of (codes "out") words) [
              | inl is ↦ inl (reloads.Out, is.0, is.1)
              | inr out_none ↦ inr (no_reload_of words both in_none out_none)
            ]
      ]
]

reload_command : (bytes : List ℕ) (rest : List (List ℕ)) (reload : Reload) (name : List ℕ) → IsReload rest reload name → (c : Command) × IsCommand bytes (codes "reload" ∷ rest) c
reload_command bytes rest reloads.Both name is = (grammar.Reload name, command_made bytes (grammar.Reload name) rest is)
reload_command bytes rest reloads.In name is = (ReloadIn name, command_made bytes (ReloadIn name) rest is)
reload_command bytes rest reloads.Out name is = (ReloadOut name, command_made bytes (ReloadOut name) rest is)

route_of : (words : List (List ℕ)) → Told ((more : List (List ℕ)) × (words ≡ codes "route" ∷ more))
route_of [] = inr (λ is. no_words _ _ is.1)
route_of (word ∷ more) = elim (told_word word (codes "route")) [
  | inl same ↦ inl (more, ap (λ (w : List ℕ). w ∷ more) same)
  | inr other ↦ inr (λ is. other (heads_same word (codes "route") more is.0 is.1))
]

-- the first words of commands, tried one after another
abbrev IsVerb : List ℕ → Verb → Type 0
IsVerb word verb = word ≡ verb_text verb

tried : (word : List ℕ) (verb : Verb) → Found (IsVerb word) ⊎ (word ≡ verb_text verb → ⊥)
tried word verb = elim (told_word word (verb_text verb)) [
  | inl is ↦ inl (inl (verb, is))
  | inr other ↦ inr other
]

no_verb_word : (word : List ℕ) → (word ≡ codes "open" → ⊥) → (word ≡ codes "close" → ⊥) → (word ≡ codes "add" → ⊥) → (word ≡ codes "del" → ⊥) → (word ≡ codes "disable" → ⊥)
    → (word ≡ codes "enable" → ⊥) → (word ≡ codes "reload" → ⊥) → (word ≡ codes "show" → ⊥) → (verb : Verb) → word ≡ verb_text verb → ⊥
no_verb_word word one two three four five six seven eight verbs.Open is = one is
no_verb_word word one two three four five six seven eight verbs.Close is = two is
no_verb_word word one two three four five six seven eight verbs.Add is = three is
no_verb_word word one two three four five six seven eight verbs.Del is = four is
no_verb_word word one two three four five six seven eight verbs.Disable is = five is
no_verb_word word one two three four five six seven eight verbs.Enable is = six is
no_verb_word word one two three four five six seven eight verbs.Reload is = seven is
no_verb_word word one two three four five six seven eight verbs.Show is = eight is

found_verb : (word : List ℕ) → Found (IsVerb word)
found_verb word = elim (tried word verbs.Open) [
  | inl is ↦ is
  | inr one ↦
      elim (tried word verbs.Close) [
        | inl is ↦ is
        | inr two ↦
            elim (tried word verbs.Add) [
              | inl is ↦ is
              | inr three ↦
                  elim (tried word verbs.Del) [
                    | inl is ↦ is
                    | inr four ↦
                        elim (tried word verbs.Disable) [
                          | inl is ↦ is
                          | inr five ↦
                              elim (tried word verbs.Enable) [
                                | inl is ↦ is
                                | inr six ↦
                                    elim (tried word verbs.Reload) [
                                      | inl is ↦ is
                                      | inr seven ↦
                                          elim (tried word verbs.Show) [
                                            | inl is ↦ is
                                            | inr eight ↦ inr (no_verb_word word one two three four five six seven eight)
                                          ]
                                    ]
                              ]
                        ]
                  ]
            ]
      ]
]

-- a channel's name and a number
abbrev IsAnyStep : List (List ℕ) → Type 0
IsAnyStep words = (name : List ℕ) × (count : ℕ) × AreStep words name count

step_words : (name word : List ℕ) → Told (IsAnyStep (name ∷ word ∷ []))
step_words name word = elim (told_true (is_name name)) [
  | inl is ↦
      elim (found_decimal word) [
        | inl number ↦ inl (name, number.0, record { number = word; whole = refl; name_is = is; count_is = number.1 })
        | inr none ↦ inr (λ step.
            none step.1 (subst (λ (w : List ℕ). IsDecimal w step.1) (sym (heads_same word step.2.number [] [] (words_behind name step.0 (word ∷ []) (step.2.number ∷ []) step.2.whole))) step.2.count_is))
      ]
  | inr none ↦ inr (λ step. none (ap is_name (heads_same name step.0 (word ∷ []) (step.2.number ∷ []) step.2.whole) ∙ step.2.name_is))
]

two_words : {X : Type 0} (a b c d e : X) (xs : List X) → a ∷ b ∷ c ∷ xs ≡ d ∷ e ∷ [] → ⊥
two_words a b c d e xs same = omega (arith, ap length same)

step_of : (words : List (List ℕ)) → Told (IsAnyStep words)
step_of [] = inr (λ step. no_words _ _ step.2.whole)
step_of (name ∷ []) = inr (λ step. no_words _ _ (words_behind name step.0 [] (step.2.number ∷ []) step.2.whole))
step_of (name ∷ word ∷ []) = step_words name word
step_of (name ∷ word ∷ more ∷ words) = inr (λ step. two_words _ _ _ _ _ _ step.2.whole)

-- that a text is a question or none
abbrev pub ToldQuestions : Type 0
ToldQuestions = (rest : List ℕ) → Found (IsQuestion rest)

module _ (told : ToldQuestions) (bytes : List ℕ) where
  no_question : (rest more : List (List ℕ)) → rest ≡ codes "route" ∷ more → ((asked : Asked) → IsQuestion bytes asked → ⊥) → (c : Command) → IsCommand bytes (codes "show" ∷ rest) c → ⊥
  no_question rest more cut none = no_show bytes rest (λ others asked same is. none asked is)

  show_of : (rest : List (List ℕ)) → Found (IsCommand bytes (codes "show" ∷ rest))
  show_of rest = elim (route_of rest) [
    | inl cut ↦
        elim (told bytes) [
          | inl is ↦ inl (ShowRoute is.0, command_made bytes (ShowRoute is.0) rest (cut.0, cut.1, is.1))
          | inr none ↦ inr (no_question rest cut.0 cut.1 none)
        ]
    | inr none ↦ inr (no_show bytes rest (λ more asked same is. none (more, same)))
  ]

  -- a command, by its first word
  at_word : (verb : Verb) (rest : List (List ℕ)) → Found (IsCommand bytes (verb_text verb ∷ rest))
  at_word verbs.Open rest = elim (open_of rest) [
    | inl is ↦ inl (Open is.0, command_made bytes (Open is.0) rest (is.1, is.2))
    | inr none ↦ inr (no_open bytes rest (λ id same small. none (id, same, small)))
  ]
  at_word verbs.Close rest = elim (end_of rest) [
    | inl is ↦ inl (Close, command_made bytes Close rest is)
    | inr filled ↦ inr (no_close bytes rest filled)
  ]
  at_word verbs.Add rest = elim (add_of rest) [
    | inl is ↦ inl (Add is.0 is.1, command_made bytes (Add is.0 is.1) rest is.2)
    | inr none ↦ inr (no_add bytes rest (λ net given is. none (net, given, is)))
  ]
  at_word verbs.Del rest = elim (del_of rest) [
    | inl is ↦ inl (Del is.0, command_made bytes (Del is.0) rest is.1)
    | inr none ↦ inr (no_del bytes rest (λ net is. none (net, is)))
  ]
  at_word verbs.Disable rest = elim (name_of rest) [
    | inl is ↦ inl (Disable is.0, command_made bytes (Disable is.0) rest is.1)
    | inr none ↦ inr (no_disable bytes rest none)
  ]
  at_word verbs.Enable rest = elim (name_of rest) [
    | inl is ↦ inl (Enable is.0, command_made bytes (Enable is.0) rest is.1)
    | inr none ↦ inr (no_enable bytes rest none)
  ]
  at_word verbs.Reload rest = elim (reload_of rest) [
    | inl is ↦ inl (reload_command bytes rest is.0 is.1 is.2)
    | inr none ↦ inr (no_reload bytes rest none)
  ]
  at_word verbs.Show rest = show_of rest

  command_of : (words : List (List ℕ)) → Found (IsCommand bytes words)
  command_of [] = inr (no_command bytes [] refl)
  command_of (word ∷ rest) = elim (found_verb word) [
    | inl is ↦
        let P : List ℕ → Type 0 = λ w. Found (IsCommand bytes (w ∷ rest)) in
        subst P (sym is.1) (at_word is.0 rest)
    | inr none ↦ inr (no_verb bytes (word ∷ rest) rest word refl none)
  ]

  -- a line, by its first word
  sync_found : (rest : List (List ℕ)) → Found (AreForm bytes (codes "sync" ∷ rest))
  sync_found rest = elim (end_of rest) [
    | inl none ↦ inl (Sync, ap (λ (l : List (List ℕ)). codes "sync" ∷ l) none)
    | inr filled ↦ inr (no_sync bytes rest filled)
  ]

  take_found : (rest : List (List ℕ)) → Found (AreForm bytes (codes "!take" ∷ rest))
  take_found rest = elim (step_of rest) [
    | inl step ↦ inl (Take step.0 step.1, step_made bytes (codes "!take") rest step.0 step.1 step.2)
    | inr none ↦ inr (no_take bytes rest (λ name count step. none (name, count, step)))
  ]

  push_found : (rest : List (List ℕ)) → Found (AreForm bytes (codes "!push" ∷ rest))
  push_found rest = elim (step_of rest) [
    | inl step ↦ inl (Push step.0 step.1, step_made bytes (codes "!push") rest step.0 step.1 step.2)
    | inr none ↦ inr (no_push bytes rest (λ name count step. none (name, count, step)))
  ]

  as_word : (label word : List ℕ) (rest : List (List ℕ)) → word ≡ label → Found (AreForm bytes (label ∷ rest)) → Found (AreForm bytes (word ∷ rest))
  as_word label word rest is found =
      let P : List ℕ → Type 0 = λ w. Found (AreForm bytes (w ∷ rest)) in
      subst P (sym is) found

  told_actor : (name : List ℕ) → Told (IsActor name)
  told_actor name = told_both (told_true (is_name name)) (told_most (length name) 64)

  spoken_form : (actor : List ℕ) (rest : List (List ℕ)) → Found (AreForm bytes ((64 ∷ actor) ∷ rest))
  spoken_form actor rest = elim (told_actor actor) [
    | inl speaks ↦
        elim (command_of rest) [
          | inl is ↦ inl (Says actor is.0, spoken_made bytes actor rest is.0 speaks is.1)
          | inr none ↦ inr (no_spoken bytes actor rest none)
        ]
    | inr none ↦ inr (no_speaker bytes actor rest none)
  ]

  no_marks : (word : List ℕ) → (word ≡ codes "sync" → ⊥) → (word ≡ codes "!take" → ⊥) → (word ≡ codes "!push" → ⊥) → (mark : Mark) → word ≡ mark_text mark → ⊥
  no_marks word one two three marks.Sync is = one is
  no_marks word one two three marks.Take is = two is
  no_marks word one two three marks.Push is = three is

  -- a line in which nobody speaks
  work_form : (word : List ℕ) (rest : List (List ℕ)) → ((actor : List ℕ) → word ≡ 64 ∷ actor → ⊥) → Found (AreForm bytes (word ∷ rest))
  work_form word rest silent = elim (told_word word (codes "sync")) [
    | inl is ↦ as_word (codes "sync") word rest is (sync_found rest)
    | inr one ↦
        elim (told_word word (codes "!take")) [
          | inl is ↦ as_word (codes "!take") word rest is (take_found rest)
          | inr two ↦
              elim (told_word word (codes "!push")) [
                | inl is ↦ as_word (codes "!push") word rest is (push_found rest)
                | inr three ↦ inr (no_mark bytes word rest (no_marks word one two three) silent)
              ]
        ]
  ]

  silent_word : (b : ℕ) (word actor : List ℕ) → (b ≡ 64 → ⊥) → b ∷ word ≡ 64 ∷ actor → ⊥
  silent_word b word actor other same = other (first_byte b 64 word actor same)

  no_form : (form : Form) → AreForm bytes [] form → ⊥
  no_form Sync is = no_words _ _ is
  no_form (Take channel count) is = no_words _ _ is.whole
  no_form (Push channel count) is = no_words _ _ is.whole
  no_form (Says actor command) is = no_words _ _ is.whole

  empty_word : (actor : List ℕ) → [] ≡ 64 ∷ actor → ⊥
  empty_word actor same = cc

  words_form : (words : List (List ℕ)) → Found (AreForm bytes words)
  words_form [] = inr no_form
  words_form ([] ∷ rest) = work_form [] rest empty_word
  words_form ((b ∷ word) ∷ rest) = elim (told_number b 64) [
    | inl is ↦
        let P : ℕ → Type 0 = λ n. Found (AreForm bytes ((n ∷ word) ∷ rest)) in
        subst P (sym is) (spoken_form word rest)
    | inr other ↦ work_form (b ∷ word) rest (λ actor same. silent_word b word actor other same)
  ]

pub form_of : ToldQuestions → (line : List ℕ) → Found (HasForm line)
form_of told line = words_form told (behind_words 3 line) (words_of line)
