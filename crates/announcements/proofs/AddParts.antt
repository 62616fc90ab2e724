-- What the words of an `add` leave open once their front is read.
use Rattle.std.proofs.Common.{◌≡◌, ◌∙◌, sym, ap, refl, subst, ℕ, List, [], ◌∷◌, ◌++◌, arith, Option}
use Rattle.std.specs.Prelude.{codes}
use Rattle.std.proofs.lemmas.List.{append_assoc}
use Rattle.bits_ip.specs.Prefix.{Net}
use Rattle.bits_ip.specs.declared.address.Addr.{Addr}
use Rattle.attrs.specs.Text.{origin_text}
use Rattle.attrs.specs.declared.attributes.Origin.{Origin}
use Rattle.import_core.specs.declared.operation.Given.{Given}
use Rattle.announcements.specs.Grammar.{IsDecimal}
use Rattle.announcements.specs.Grammar.{AreDecimals, IsAdd, IsCom}
use Rattle.announcements.specs.Reading.{HasNoNumber, BeginWithNumbers, IsVia, IsOrigin, IsPathAndOrigin, BeginWithOptions, AreOptions, AreNoOptions}
use Rattle.bits_ip.specs.Text.{IsNetText}
use Rattle.announcements.proofs.Words.{heads_same}
use Rattle.announcements.proofs.Options.{options_begin, options_same, options_read}

-- the numbers at the front of some words end where a word that is none comes
path_split : (front : List (List ℕ)) (numbers : List ℕ) (rest : List (List ℕ)) → AreDecimals front numbers → HasNoNumber rest
    → (path_words : List (List ℕ)) (path : List ℕ) (word : List ℕ) (more : List (List ℕ)) → AreDecimals path_words path → ((n : ℕ) → IsDecimal word n → ⊥)
    → front ++ rest ≡ path_words ++ word ∷ more → (front ≡ path_words) × (rest ≡ word ∷ more)
path_split [] numbers rest are none [] path word more path_are other same = (refl, same)
path_split [] numbers rest are none (v ∷ path_words) [] word more path_are other same = absurd path_are
path_split [] numbers rest are none (v ∷ path_words) (n ∷ path) word more path_are other same = absurd (none v (path_words ++ word ∷ more) n same path_are.0)
path_split (f ∷ front) [] rest are none path_words path word more path_are other same = absurd are
path_split (f ∷ front) (m ∷ numbers) rest are none [] path word more path_are other same =
    let first : f ≡ word = cc in
    let P : List ℕ → Type 0 = λ w. IsDecimal w m in
    absurd (other m (subst P first are.0))
path_split (f ∷ front) (m ∷ numbers) rest are none (v ∷ path_words) [] word more path_are other same = absurd path_are
path_split (f ∷ front) (m ∷ numbers) rest are none (v ∷ path_words) (n ∷ path) word more path_are other same =
    let first : f ≡ v = cc in
    let behind : front ++ rest ≡ path_words ++ word ∷ more = cc in
    let parts = path_split front numbers rest are.1 none path_words path word more path_are.1 other behind in
    (ap (λ (l : List (List ℕ)). f ∷ l) parts.0 ∙ ap (λ (w : List ℕ). w ∷ path_words) first, parts.1)

origin_no_number : (n : ℕ) → IsDecimal (codes "origin") n → ⊥
origin_no_number n is = let first = is.numeral.1.0 in absurd (omega (arith, first))

none_is_origin : (more : List (List ℕ)) → HasNoNumber (codes "origin" ∷ more)
none_is_origin more = λ word behind n same is. (
    let first : word ≡ codes "origin" = cc in
    let P : List ℕ → Type 0 = λ w. IsDecimal w n in
    origin_no_number n (subst P first is))

path_same : (words rest : List (List ℕ)) (numbers path : List ℕ) (origin : Origin) (more : List (List ℕ)) → (begin : BeginWithNumbers words numbers rest) → (is : IsPathAndOrigin words path origin more)
    → (begin.front ≡ is.path_words) × IsOrigin rest origin more
path_same words rest numbers path origin more begin is =
    path_split begin.front numbers rest begin.numbers_are begin.longest is.path_words path (codes "origin") (origin_text origin ∷ more) is.path_is origin_no_number
    (sym begin.whole ∙ is.whole)

pub no_origin : (words rest : List (List ℕ)) (numbers : List ℕ) → BeginWithNumbers words numbers rest
    → ((origin : Origin) (more : List (List ℕ)) → IsOrigin rest origin more → ⊥) → (path : List ℕ) (origin : Origin) (more : List (List ℕ)) → IsPathAndOrigin words path origin more → ⊥
no_origin words rest numbers begin none path origin more is = none origin more (path_same words rest numbers path origin more begin is).1

-- one path and one origin begin some words
pub paths_same : (words : List (List ℕ)) (path path' : List ℕ) (origin origin' : Origin) (rest rest' : List (List ℕ)) → (one : IsPathAndOrigin words path origin rest)
    → (other : IsPathAndOrigin words path' origin' rest') → (one.path_words ≡ other.path_words) × (codes "origin" ∷ origin_text origin ∷ rest ≡ codes "origin" ∷ origin_text origin' ∷ rest')
paths_same words path path' origin origin' rest rest' one other =
    path_split one.path_words path (codes "origin" ∷ origin_text origin ∷ rest) one.path_is (none_is_origin _)
    other.path_words path' (codes "origin") (origin_text origin' ∷ rest') other.path_is origin_no_number (sym one.whole ∙ other.whole)

pub third_same : {X : Type 0} (a b c d : X) (xs ys : List X) → a ∷ b ∷ xs ≡ c ∷ d ∷ ys → xs ≡ ys
third_same a b c d xs ys same = cc

pub same_behind : {X : Type 0} (words : List X) (a b c d e f g h : X) (xs ys : List X) → words ≡ a ∷ b ∷ c ∷ d ∷ xs → words ≡ e ∷ f ∷ g ∷ h ∷ ys → xs ≡ ys
same_behind words a b c d e f g h xs ys one other = cc

-- the words of an `add` behind its origin
abbrev pub tail_of : (words : List (List ℕ)) (net : Net) (given : Given) → IsAdd words net given → List (List ℕ)
tail_of words net given is = is.med_words ++ (is.lp_words ++ (is.igp_words ++ is.com_words))

five_joined : {X : Type 0} (p m l i c : List X) (x y : X) → (((p ++ x ∷ y ∷ m) ++ l) ++ i) ++ c ≡ p ++ x ∷ y ∷ (m ++ (l ++ (i ++ c)))
five_joined p m l i c x y = append_assoc ((p ++ x ∷ y ∷ m) ++ l) i c ∙ append_assoc (p ++ x ∷ y ∷ m) l (i ++ c) ∙ append_assoc p (x ∷ y ∷ m) (l ++ (i ++ c))

pub via_of_add : (words : List (List ℕ)) (net : Net) (given : Given) → (is : IsAdd words net given)
    → IsVia words net given.gw (is.path_words ++ codes "origin" ∷ origin_text given.origin ∷ tail_of words net given is)
via_of_add words net given is = record {
  net_word = is.net_word;
  gateway_word = is.gateway_word;
  whole = is.whole
      ∙ ap (λ (l : List (List ℕ)). is.net_word ∷ codes "via" ∷ is.gateway_word ∷ codes "path" ∷ l)
      (five_joined is.path_words is.med_words is.lp_words is.igp_words is.com_words (codes "origin") (origin_text given.origin));
  net_is = is.net_is;
  gateway_is = is.gateway_is;
}

pub no_via : (words : List (List ℕ)) → ((net : Net) (gateway : Addr) (more : List (List ℕ)) → IsVia words net gateway more → ⊥)
    → (net : Net) (given : Given) → IsAdd words net given → ⊥
no_via words none net given is = none net given.gw _ (via_of_add words net given is)

pub no_net_first : (words rest : List (List ℕ)) (word : List ℕ) → words ≡ word ∷ rest → ((net : Net) → IsNetText word net → ⊥) → (net : Net) (gateway : Addr) (more : List (List ℕ)) → IsVia words net gateway more → ⊥
no_net_first words rest word cut none net gateway more is =
    let P : List ℕ → Type 0 = λ w. IsNetText w net in
    none net (subst P (heads_same is.net_word word _ rest (sym is.whole ∙ cut)) is.net_is)

-- the path and the origin of an `add` stand behind its `via`
pub path_of_add : (words rest : List (List ℕ)) (net : Net) (gateway : Addr) → IsVia words net gateway rest → (other : Net) (given : Given) → (is : IsAdd words other given)
    → IsPathAndOrigin rest given.path given.origin (tail_of words other given is)
path_of_add words rest net gateway via other given is = record {
  path_words = is.path_words;
  whole = same_behind words _ _ _ _ _ _ _ _ _ _ via.whole (via_of_add words other given is).whole;
  path_is = is.path_is;
}

pub no_path_behind : (words rest : List (List ℕ)) (net : Net) (gateway : Addr) → IsVia words net gateway rest
    → ((path : List ℕ) (origin : Origin) (more : List (List ℕ)) → IsPathAndOrigin rest path origin more → ⊥) → (other : Net) (given : Given) → IsAdd words other given → ⊥
no_path_behind words rest net gateway via none other given is = none given.path given.origin _ (path_of_add words rest net gateway via other given is)

pub options_of_add : (words : List (List ℕ)) (net : Net) (given : Given) → (is : IsAdd words net given) → AreOptions (tail_of words net given is) given.med given.lp given.igp given.coms
options_of_add words net given is = record {
  med_words = is.med_words;
  lp_words = is.lp_words;
  igp_words = is.igp_words;
  com_words = is.com_words;
  whole = refl;
  med_is = is.med_is;
  lp_is = is.lp_is;
  igp_is = is.igp_is;
  com_is = is.com_is;
}

pub options_begin_add : (words : List (List ℕ)) (net : Net) (given : Given) → (is : IsAdd words net given)
    → BeginWithOptions (tail_of words net given is) given.med given.lp given.igp is.com_words
unfolding options_of_add
options_begin_add words net given is = options_begin (tail_of words net given is) given.med given.lp given.igp given.coms (options_of_add words net given is)

-- the words behind the path and the origin that were read are those of each `add` of these words
same_tail : (words rest behind : List (List ℕ)) (net : Net) (gateway : Addr) (path : List ℕ) (origin : Origin) → IsVia words net gateway rest → IsPathAndOrigin rest path origin behind
    → (other : Net) (given : Given) → (is : IsAdd words other given) → tail_of words other given is ≡ behind
same_tail words rest behind net gateway path origin via read other given is =
    third_same _ _ _ _ _ _ (paths_same rest given.path path given.origin origin _ behind (path_of_add words rest net gateway via other given is) read).1

pub no_options_behind : (words rest behind : List (List ℕ)) (net : Net) (gateway : Addr) (path : List ℕ) (origin : Origin) → IsVia words net gateway rest → IsPathAndOrigin rest path origin behind
    → AreNoOptions behind → (other : Net) (given : Given) → IsAdd words other given → ⊥
no_options_behind words rest behind net gateway path origin via read none other given is =
    none given.med given.lp given.igp given.coms
    (subst (λ (l : List (List ℕ)). AreOptions l given.med given.lp given.igp given.coms) (same_tail words rest behind net gateway path origin via read other given is) (options_of_add words other given is))

pub no_com_behind : (words rest behind last : List (List ℕ)) (net : Net) (gateway : Addr) (path : List ℕ) (origin : Origin) (med lp igp : Option ℕ) → IsVia words net gateway rest
    → IsPathAndOrigin rest path origin behind → BeginWithOptions behind med lp igp last → ((coms : List (ℕ × ℕ)) → IsCom last coms → ⊥) → (other : Net) (given : Given) → IsAdd words other given → ⊥
no_com_behind words rest behind last net gateway path origin med lp igp via read begin none other given is =
    let tail = same_tail words rest behind net gateway path origin via read other given is in
    let moved = subst (λ (l : List (List ℕ)). BeginWithOptions l given.med given.lp given.igp is.com_words) tail (options_begin_add words other given is) in
    let same = options_same behind is.com_words last given.med given.lp given.igp med lp igp moved begin in
    none given.coms (subst (λ (l : List (List ℕ)). IsCom l given.coms) same.3 is.com_is)

-- what was read is an `add`
pub add_read : (words rest behind last : List (List ℕ)) (net : Net) (given : Given) → IsVia words net given.gw rest → IsPathAndOrigin rest given.path given.origin behind
    → BeginWithOptions behind given.med given.lp given.igp last → IsCom last given.coms → IsAdd words net given
add_read words rest behind last net given via read begin coms_are =
    let options = options_read behind last given.med given.lp given.igp given.coms begin coms_are in
    record {
      net_word = via.net_word;
      gateway_word = via.gateway_word;
      path_words = read.path_words;
      med_words = options.med_words;
      lp_words = options.lp_words;
      igp_words = options.igp_words;
      com_words = options.com_words;
      whole = via.whole
          ∙ ap (λ (l : List (List ℕ)). via.net_word ∷ codes "via" ∷ via.gateway_word ∷ codes "path" ∷ l)
          (read.whole ∙ ap (λ (l : List (List ℕ)). read.path_words ++ codes "origin" ∷ origin_text given.origin ∷ l) options.whole
          ∙ sym (five_joined read.path_words options.med_words options.lp_words options.igp_words options.com_words (codes "origin") (origin_text given.origin)));
      net_is = via.net_is;
      gateway_is = via.gateway_is;
      path_is = read.path_is;
      med_is = options.med_is;
      lp_is = options.lp_is;
      igp_is = options.igp_is;
      com_is = options.com_is;
    }
