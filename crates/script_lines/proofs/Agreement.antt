-- Words have one form at most.
use Rattle.std.proofs.Common.{◌≡◌, ◌∙◌, sym, ap, refl, subst, ℕ, List, [], ◌∷◌, length, arith}
use Rattle.std.specs.Prelude.{codes}
use Rattle.bits_ip.specs.Prefix.{Net}
use Rattle.bits_ip.specs.Text.{IsAddrText, IsNetText, v4_text}
use Rattle.bits_ip.specs.declared.address.Addr.TheVariants.{V4}
use Rattle.bits_ip.proofs.Nets.{addr_texts_agree, net_texts_agree}
use Rattle.attrs.specs.Text.{origin_text}
use Rattle.attrs.specs.declared.attributes.Origin.{Origin}
use Rattle.attrs.specs.declared.attributes.Origin.TheVariants.{Igp, Egp, Incomplete}
use Rattle.import_core.specs.declared.operation.Given.{Given}
use Rattle.script_lines.specs.Grammar.{IsDel, IsStep, IsBehind, IsCommand, first_word}
use Rattle.announcements.specs.Grammar.{IsDecimal, AreDecimals, IsAdd, IsCom}
use Rattle.script_lines.specs.Grammar.{Command, Open, Close, Add, Del, Disable, Enable, ReloadIn, ReloadOut, ShowRoute, Form, Sync, Take, Push, Says, AreForm, HasForm}
use Rattle.queries.specs.Question.{Asked, IsQuestion}
use Rattle.text.specs.Lines.{behind_words, words_of}
use Rattle.script_lines.specs.Grammar as grammar
use Rattle.announcements.specs.Reading.{BeginWithOptions}
use Rattle.announcements.proofs.AddKept.{given_same}
use Rattle.announcements.proofs.AddParts.{tail_of, third_same, via_of_add, path_of_add, options_begin_add, paths_same}
use Rattle.script_lines.proofs.CommandParts.{verb_for, text_for, verbs_same}
use Rattle.announcements.proofs.Words.{first_byte, heads_same, words_behind}
use Rattle.announcements.proofs.CommunityWords.{coms_agree}
use Rattle.script_lines.proofs.LineParts.{sync_not_take, sync_not_push, take_not_push, sync_not_spoken, take_not_spoken, push_not_spoken}
use Rattle.announcements.proofs.Options.{numbers_agree, options_same}

numbers_of_words : (words : List (List ℕ)) (a b : List ℕ) → AreDecimals words a → AreDecimals words b → a ≡ b
numbers_of_words [] [] [] one other = refl
numbers_of_words [] [] (n ∷ b) one other = absurd other
numbers_of_words [] (m ∷ a) b one other = absurd one
numbers_of_words (w ∷ words) [] b one other = absurd one
numbers_of_words (w ∷ words) (m ∷ a) [] one other = absurd other
numbers_of_words (w ∷ words) (m ∷ a) (n ∷ b) one other =
    ap (λ (k : ℕ). k ∷ a) (numbers_agree w m n one.0 other.0) ∙ ap (λ (l : List ℕ). n ∷ l) (numbers_of_words words a b one.1 other.1)

origins_agree : (a b : Origin) → origin_text a ≡ origin_text b → a ≡ b
origins_agree Igp Igp same = refl
origins_agree Igp Egp same = absurd (omega (arith, first_byte 105 101 _ _ same))
origins_agree Igp Incomplete same = absurd (omega (arith, ap length same))
origins_agree Egp Igp same = absurd (omega (arith, first_byte 101 105 _ _ same))
origins_agree Egp Egp same = refl
origins_agree Egp Incomplete same = absurd (omega (arith, first_byte 101 105 _ _ same))
origins_agree Incomplete Igp same = absurd (omega (arith, ap length same))
origins_agree Incomplete Egp same = absurd (omega (arith, first_byte 105 101 _ _ same))
origins_agree Incomplete Incomplete same = refl

first_same : {X : Type 0} (words : List X) (a b c d e f g h : X) (xs ys : List X) → words ≡ a ∷ b ∷ c ∷ d ∷ xs → words ≡ e ∷ f ∷ g ∷ h ∷ ys → (a ≡ e) × (c ≡ g)
first_same words a b c d e f g h xs ys one other =
    let first : a ≡ e = cc in
    let third : c ≡ g = cc in
    (first, third)

second_same : (a b x y : List ℕ) (xs ys : List (List ℕ)) → a ∷ x ∷ xs ≡ b ∷ y ∷ ys → x ≡ y
second_same a b x y xs ys same = cc

adds_agree : (words : List (List ℕ)) (net net' : Net) (given given' : Given) → IsAdd words net given → IsAdd words net' given' → (net ≡ net') × (given ≡ given')
adds_agree words net net' given given' one other =
    let mine = via_of_add words net given one in
    let theirs = via_of_add words net' given' other in
    let firsts = first_same words _ _ _ _ _ _ _ _ _ _ mine.whole theirs.whole in
    let my_path = path_of_add words _ net' given'.gw theirs net given one in
    let their_path = path_of_add words _ net' given'.gw theirs net' given' other in
    let paths = paths_same _ given.path given'.path given.origin given'.origin (tail_of words net given one) (tail_of words net' given' other) my_path their_path in
    let tail = third_same _ _ _ _ _ _ paths.1 in
    let moved = subst (λ (l : List (List ℕ)). BeginWithOptions l given.med given.lp given.igp one.com_words) tail (options_begin_add words net given one) in
    let same =
    options_same (tail_of words net' given' other) one.com_words other.com_words given.med given.lp given.igp given'.med given'.lp given'.igp moved
    (options_begin_add words net' given' other) in
    let P : List ℕ → Type 0 = λ w. IsNetText w net in
    let Q : List ℕ → Type 0 = λ w. IsAddrText w given.gw in
    let R : List (List ℕ) → Type 0 = λ l. AreDecimals l given.path in
    let S : List (List ℕ) → Type 0 = λ l. IsCom l given.coms in
    let gw = addr_texts_agree theirs.gateway_word given.gw given'.gw (subst Q firsts.1 mine.gateway_is) theirs.gateway_is in
    let path = numbers_of_words their_path.path_words given.path given'.path (subst R paths.0 my_path.path_is) their_path.path_is in
    let origin = origins_agree given.origin given'.origin (second_same _ _ _ _ _ _ paths.1) in
    let coms = coms_agree other.com_words given.coms given'.coms (subst S same.3 one.com_is) other.com_is in (
      net_texts_agree theirs.net_word net net' (subst P firsts.0 mine.net_is) theirs.net_is,
      given_same given given' gw path origin same.0 same.1 same.2 coms,
    )

dels_agree : (words : List (List ℕ)) (net net' : Net) → IsDel words net → IsDel words net' → net ≡ net'
dels_agree words net net' one other =
    let whole : one.word ∷ [] ≡ other.word ∷ [] = sym one.whole ∙ other.whole in
    let word : one.word ≡ other.word = cc in
    let P : List ℕ → Type 0 = λ w. IsNetText w net in
    net_texts_agree other.word net net' (subst P word one.net_is) other.net_is

v4_same : (m n : ℕ) → V4 m ≡ V4 n → m ≡ n
v4_same m n same = cc

in_not_out : codes "in" ≡ codes "out" → ⊥
in_not_out e = omega (arith, ap length e)

one_not_two : (a b c : List ℕ) → a ∷ [] ≡ b ∷ c ∷ [] → ⊥
one_not_two a b c same = omega (arith, ap length same)

same_name : (words : List (List ℕ)) (a b : List ℕ) → words ≡ a ∷ [] → words ≡ b ∷ [] → a ≡ b
same_name words a b one other = heads_same a b [] [] (sym one ∙ other)

same_second : (words : List (List ℕ)) (w a b : List ℕ) → words ≡ w ∷ a ∷ [] → words ≡ w ∷ b ∷ [] → a ≡ b
same_second words w a b one other = heads_same a b [] [] (words_behind w w (a ∷ []) (b ∷ []) (sym one ∙ other))

-- steps
step_names : (label a b m n : List ℕ) (words : List (List ℕ)) → words ≡ label ∷ a ∷ m ∷ [] → words ≡ label ∷ b ∷ n ∷ [] → (a ≡ b) × (m ≡ n)
step_names label a b m n words one other =
    let whole : label ∷ a ∷ m ∷ [] ≡ label ∷ b ∷ n ∷ [] = sym one ∙ other in
    let first : a ≡ b = cc in
    let second : m ≡ n = cc in
    (first, second)

steps_agree : (label : List ℕ) (words : List (List ℕ)) (a b : List ℕ) (m n : ℕ) → IsStep label words a m → IsStep label words b n → (a ≡ b) × (m ≡ n)
steps_agree label words a b m n one other =
    let parts = step_names label a b one.number other.number words one.whole other.whole in
    let P : List ℕ → Type 0 = λ w. IsDecimal w m in
    (parts.0, numbers_agree other.number m n (subst P parts.1 one.count_is) other.count_is)

both_begin : (words : List (List ℕ)) (a b : List ℕ) (xs ys : List (List ℕ)) → words ≡ a ∷ xs → words ≡ b ∷ ys → a ≡ b
both_begin words a b xs ys one other = heads_same a b xs ys (sym one ∙ other)

actors_same : (a b : List ℕ) → 64 ∷ a ≡ 64 ∷ b → a ≡ b
actors_same a b same = cc

-- that a text is one question at most
abbrev pub OneQuestion : Type 0
OneQuestion = (rest : List ℕ) (a b : Asked) → IsQuestion rest a → IsQuestion rest b → a ≡ b

module _ (one_question : OneQuestion) where
  -- one command of each first word has these words behind it
  behind_agree : (bytes : List ℕ) (rest : List (List ℕ)) (c d : Command) → verb_for c ≡ verb_for d → IsBehind bytes c rest → IsBehind bytes d rest → c ≡ d
  behind_agree bytes rest (Open m) (Open n) same one other =
      ap Open (v4_same m n (addr_texts_agree (v4_text m) (V4 m) (V4 n) (one.1, refl) (other.1, same_name rest _ _ one.0 other.0)))
  behind_agree bytes rest (Open m) _ same one other = absurd (cc)
  behind_agree bytes rest Close Close same one other = refl
  behind_agree bytes rest Close _ same one other = absurd (cc)
  behind_agree bytes rest (Add net given) (Add net' given') same one other =
      let parts = adds_agree rest net net' given given' one other in
      ap (λ (n : Net). Add n given) parts.0 ∙ ap (λ (g : Given). Add net' g) parts.1
  behind_agree bytes rest (Add net given) _ same one other = absurd (cc)
  behind_agree bytes rest (Del net) (Del net') same one other = ap Del (dels_agree rest net net' one other)
  behind_agree bytes rest (Del net) _ same one other = absurd (cc)
  behind_agree bytes rest (Disable a) (Disable b) same one other = ap Disable (same_name rest a b one.0 other.0)
  behind_agree bytes rest (Disable a) _ same one other = absurd (cc)
  behind_agree bytes rest (Enable a) (Enable b) same one other = ap Enable (same_name rest a b one.0 other.0)
  behind_agree bytes rest (Enable a) _ same one other = absurd (cc)
  behind_agree bytes rest (grammar.Reload a) (grammar.Reload b) same one other = ap grammar.Reload (same_name rest a b one.0 other.0)
  behind_agree bytes rest (grammar.Reload a) (ReloadIn b) same one other = absurd (one_not_two a _ b (sym one.0 ∙ other.0))
  behind_agree bytes rest (grammar.Reload a) (ReloadOut b) same one other = absurd (one_not_two a _ b (sym one.0 ∙ other.0))
  behind_agree bytes rest (grammar.Reload a) _ same one other = absurd (cc)
  behind_agree bytes rest (ReloadIn a) (grammar.Reload b) same one other = absurd (one_not_two b _ a (sym other.0 ∙ one.0))
  behind_agree bytes rest (ReloadIn a) (ReloadIn b) same one other = ap ReloadIn (same_second rest _ a b one.0 other.0)
  behind_agree bytes rest (ReloadIn a) (ReloadOut b) same one other = absurd (in_not_out (heads_same _ _ _ _ (sym one.0 ∙ other.0)))
  behind_agree bytes rest (ReloadIn a) _ same one other = absurd (cc)
  behind_agree bytes rest (ReloadOut a) (grammar.Reload b) same one other = absurd (one_not_two b _ a (sym other.0 ∙ one.0))
  behind_agree bytes rest (ReloadOut a) (ReloadIn b) same one other = absurd (in_not_out (heads_same _ _ _ _ (sym other.0 ∙ one.0)))
  behind_agree bytes rest (ReloadOut a) (ReloadOut b) same one other = ap ReloadOut (same_second rest _ a b one.0 other.0)
  behind_agree bytes rest (ReloadOut a) _ same one other = absurd (cc)
  behind_agree bytes rest (ShowRoute a) (ShowRoute b) same one other = ap ShowRoute (one_question bytes a b one.2 other.2)
  behind_agree bytes rest (ShowRoute a) _ same one other = absurd (cc)

  commands_agree : (bytes : List ℕ) (words : List (List ℕ)) (c d : Command) → IsCommand bytes words c → IsCommand bytes words d → c ≡ d
  commands_agree bytes words c d one other =
      let whole = sym one.whole ∙ other.whole in
      let firsts = heads_same (first_word c) (first_word d) one.rest other.rest whole in
      let rests = words_behind (first_word c) (first_word d) one.rest other.rest whole in
      behind_agree bytes other.rest c d (verbs_same (verb_for c) (verb_for d) (sym (text_for c) ∙ firsts ∙ text_for d)) (subst (IsBehind bytes c) rests one.rest_is) other.rest_is

  words_agree : (bytes : List ℕ) (words : List (List ℕ)) (a b : Form) → AreForm bytes words a → AreForm bytes words b → a ≡ b
  words_agree bytes words Sync Sync one other = refl
  words_agree bytes words Sync (Take b n) one other = absurd (sync_not_take (both_begin words _ _ _ _ one other.whole))
  words_agree bytes words Sync (Push b n) one other = absurd (sync_not_push (both_begin words _ _ _ _ one other.whole))
  words_agree bytes words Sync (Says b d) one other = absurd (sync_not_spoken b (both_begin words _ _ _ _ one other.whole))
  words_agree bytes words (Take a m) Sync one other = absurd (sync_not_take (both_begin words _ _ _ _ other one.whole))
  words_agree bytes words (Take a m) (Take b n) one other =
      let parts = steps_agree (codes "!take") words a b m n one other in
      ap (λ (l : List ℕ). Take l m) parts.0 ∙ ap (λ (k : ℕ). Take b k) parts.1
  words_agree bytes words (Take a m) (Push b n) one other = absurd (take_not_push (both_begin words _ _ _ _ one.whole other.whole))
  words_agree bytes words (Take a m) (Says b d) one other = absurd (take_not_spoken b (both_begin words _ _ _ _ one.whole other.whole))
  words_agree bytes words (Push a m) Sync one other = absurd (sync_not_push (both_begin words _ _ _ _ other one.whole))
  words_agree bytes words (Push a m) (Take b n) one other = absurd (take_not_push (both_begin words _ _ _ _ other.whole one.whole))
  words_agree bytes words (Push a m) (Push b n) one other =
      let parts = steps_agree (codes "!push") words a b m n one other in
      ap (λ (l : List ℕ). Push l m) parts.0 ∙ ap (λ (k : ℕ). Push b k) parts.1
  words_agree bytes words (Push a m) (Says b d) one other = absurd (push_not_spoken b (both_begin words _ _ _ _ one.whole other.whole))
  words_agree bytes words (Says a c) Sync one other = absurd (sync_not_spoken a (both_begin words _ _ _ _ other one.whole))
  words_agree bytes words (Says a c) (Take b n) one other = absurd (take_not_spoken a (both_begin words _ _ _ _ other.whole one.whole))
  words_agree bytes words (Says a c) (Push b n) one other = absurd (push_not_spoken a (both_begin words _ _ _ _ other.whole one.whole))
  words_agree bytes words (Says a c) (Says b d) one other =
      let whole = sym one.whole ∙ other.whole in
      let actor = actors_same a b (heads_same _ _ _ _ whole) in
      let P : List (List ℕ) → Type 0 = λ l. IsCommand bytes l c in
      let command = commands_agree bytes other.rest c d (subst P (words_behind _ _ _ _ whole) one.command_is) other.command_is in
      ap (λ (l : List ℕ). Says l c) actor ∙ ap (λ (e : Command). Says b e) command

  pub forms_agree : (line : List ℕ) (a b : Form) → HasForm line a → HasForm line b → a ≡ b
  forms_agree line a b one other = words_agree (behind_words 3 line) (words_of line) a b one other
