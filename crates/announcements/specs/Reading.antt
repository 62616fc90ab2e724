-- For contracts of readers: what a front of the words says, where no longer front says it, and what is
-- kept of numbers that may be too large.
-- Not modelled: where in the line a word stands.
-- From: own.
-- Example: of a path with a number that is too large nothing is kept, and it is read to its end.
use Rattle.std.specs.Prelude.{◌≡◌, ℕ, Bool, true, false, not, ◌&&◌, ◌==◌}
use Rattle.std.specs.Prelude.{nat_le, if◌then◌else◌, IsTrue, List, [], ◌∷◌, ◌++◌}
use Rattle.std.specs.Prelude.{length, codes, Option, None, Some, ⊤}
use Rattle.std.specs.List.{list_all}
use Rattle.bits_ip.specs.Prefix.{Net}
use Rattle.bits_ip.specs.Text.{IsAddrText, IsNetText}
use Rattle.bits_ip.specs.declared.address.Addr.{Addr}
use Rattle.attrs.specs.Clist.{has_pair}
use Rattle.attrs.specs.Text.{origin_text}
use Rattle.attrs.specs.declared.attributes.Origin.{Origin}
use Rattle.import_core.specs.declared.operation.Given.{Given}
use Rattle.announcements.specs.declared.refusal.Refusal.{Refusal}
use Rattle.announcements.specs.declared.refusal.Refusal.TheVariants as refusals
use Rattle.announcements.specs.declared.add.Announcement.{Announcement}
use Rattle.announcements.specs.Grammar.{IsDecimal, AreDecimals, IsOption, IsCommunity, IsCom}
use Rattle.announcements.specs.Grammar.{AreCommunities, each_once, IsAdd}
use Rattle.announcements.specs.Limits.{fits, option_fits, path_fits}
use Rattle.announcements.specs.Limits.{pair_fits, given_fits}

-- the value, where it passes
abbrev pub kept : {X : Type 0} → (X → Bool) → X → Option X
kept test x = if test x then Some x else None

-- what is kept of such a value
abbrev pub IsKept : {X : Type 0} → (X → Bool) → (X → Type 0) → Option X → Type 0
IsKept test P value = (x : _) × P x × (value ≡ kept test x)

-- what holds where the form is the reason
abbrev pub IfForm : Refusal → Type 0 → Type 0
IfForm refusals.Form P = P
IfForm refusals.Memory P = ⊤

-- the first of these words spells no number
abbrev pub HasNoNumber : List (List ℕ) → Type 0
HasNoNumber words =
    (word : List ℕ) (more : List (List ℕ)) (n : ℕ) → words ≡ word ∷ more → IsDecimal word n → ⊥

-- The first word spells a number, of which this is kept.
pub record BeginWithNumber (words : List (List ℕ)) (number : Option ℕ) (rest : List (List ℕ))
    : Type 0 where
  pub word : List ℕ
  pub whole : words ≡ word ∷ rest
  pub n : ℕ
  pub number_is : IsDecimal word n
  pub kept_is : number ≡ kept fits n

-- The words begin with these numbers, and no further one, and go on with the rest.
pub record BeginWithNumbers (words : List (List ℕ)) (numbers : List ℕ) (rest : List (List ℕ))
    : Type 0 where
  pub front : List (List ℕ)
  pub whole : words ≡ front ++ rest
  pub numbers_are : AreDecimals front numbers
  pub longest : HasNoNumber rest

-- So do these, of which this is kept where all fit.
pub record ReadsNumbers (words : List (List ℕ)) (items : List ℕ) (fit : Bool)
    (rest : List (List ℕ)) : Type 0 where
  pub raw : List ℕ
  pub begin : BeginWithNumbers words raw rest
  pub fit_is : fit ≡ list_all fits raw
  pub kept_is : fit ≡ true → items ≡ raw

-- a number more, of which this is kept
abbrev pub KeepsNumber : Option ℕ → List ℕ → Bool → List ℕ → Bool → Type 0
KeepsNumber None old old_fit new new_fit = new_fit ≡ false
KeepsNumber (Some n) old old_fit new new_fit = (new_fit ≡ old_fit) × (new ≡ old ++ n ∷ [])

-- NET via IP path, and the rest
pub record IsVia (words : List (List ℕ)) (net : Net) (gateway : Addr) (rest : List (List ℕ))
    : Type 0 where
  pub net_word : List ℕ
  pub gateway_word : List ℕ
  pub whole : words ≡ net_word ∷ codes "via" ∷ gateway_word ∷ codes "path" ∷ rest
  pub net_is : IsNetText net_word net
  pub gateway_is : IsAddrText gateway_word gateway

-- origin ORIGIN, and the rest
abbrev pub IsOrigin : List (List ℕ) → Origin → List (List ℕ) → Type 0
IsOrigin words origin rest = words ≡ codes "origin" ∷ origin_text origin ∷ rest

-- NUMBERS origin ORIGIN, and the rest
pub record IsPathAndOrigin (words : List (List ℕ)) (path : List ℕ) (origin : Origin)
    (rest : List (List ℕ)) : Type 0 where
  pub path_words : List (List ℕ)
  pub whole : words ≡ path_words ++ codes "origin" ∷ origin_text origin ∷ rest
  pub path_is : AreDecimals path_words path

-- So do these, and this is kept of the path.
pub record ReadsPath (words : List (List ℕ)) (path : Option (List ℕ)) (origin : Origin)
    (rest : List (List ℕ)) : Type 0 where
  pub raw : List ℕ
  pub is : IsPathAndOrigin words raw origin rest
  pub kept_is : path ≡ kept path_fits raw

-- the words don't begin with this one
abbrev pub BeginsNot : List ℕ → List (List ℕ) → Type 0
BeginsNot label words = (more : List (List ℕ)) → words ≡ label ∷ more → ⊥

-- An optional part at the front, and what follows it. Where it isn't there its label doesn't come.
abbrev pub BeginWithOption : List ℕ → List (List ℕ) → Option ℕ → List (List ℕ) → Type 0
BeginWithOption label words None rest = (rest ≡ words) × BeginsNot label words
BeginWithOption label words (Some n) rest =
    (word : List ℕ) × (words ≡ label ∷ word ∷ rest) × IsDecimal word n

-- so do these, and this is kept of the number
pub record ReadsOption (label : List ℕ) (words : List (List ℕ)) (value : Option (Option ℕ))
    (rest : List (List ℕ)) : Type 0 where
  pub raw : Option ℕ
  pub is : BeginWithOption label words raw rest
  pub kept_is : value ≡ kept option_fits raw

-- the label comes, and no number behind it
abbrev pub LacksNumber : List ℕ → List (List ℕ) → Type 0
LacksNumber label words = (more : List (List ℕ)) × (words ≡ label ∷ more) × HasNoNumber more

-- the optional numbers of an `add` in their order, and the rest
pub record BeginWithOptions (words : List (List ℕ)) (med lp igp : Option ℕ)
    (rest : List (List ℕ)) : Type 0 where
  pub behind_med : List (List ℕ)
  pub behind_lp : List (List ℕ)
  pub med_is : BeginWithOption (codes "med") words med behind_med
  pub lp_is : BeginWithOption (codes "lp") behind_med lp behind_lp
  pub igp_is : BeginWithOption (codes "igp") behind_lp igp rest

-- so do these, and this is kept of each number
pub record ReadsOptions (words : List (List ℕ)) (med lp igp : Option (Option ℕ))
    (rest : List (List ℕ)) : Type 0 where
  pub raw_med : Option ℕ
  pub raw_lp : Option ℕ
  pub raw_igp : Option ℕ
  pub begin : BeginWithOptions words raw_med raw_lp raw_igp rest
  pub med_is : med ≡ kept option_fits raw_med
  pub lp_is : lp ≡ kept option_fits raw_lp
  pub igp_is : igp ≡ kept option_fits raw_igp

-- the optional parts of an `add`, to the line's end
pub record AreOptions (words : List (List ℕ)) (med lp igp : Option ℕ) (coms : List (ℕ × ℕ))
    : Type 0 where
  pub med_words : List (List ℕ)
  pub lp_words : List (List ℕ)
  pub igp_words : List (List ℕ)
  pub com_words : List (List ℕ)
  pub whole : words ≡ med_words ++ (lp_words ++ (igp_words ++ com_words))
  pub med_is : IsOption (codes "med") med_words med
  pub lp_is : IsOption (codes "lp") lp_words lp
  pub igp_is : IsOption (codes "igp") igp_words igp
  pub com_is : IsCom com_words coms

-- no optional parts are these words
abbrev pub AreNoOptions : List (List ℕ) → Type 0
AreNoOptions words =
    (med lp igp : Option ℕ) (coms : List (ℕ × ℕ)) → AreOptions words med lp igp coms → ⊥

abbrev pub is_no_colon : ℕ → Bool
is_no_colon b = not (b == 58)

-- cut at the first colon
pub record IsCut (word left right : List ℕ) : Type 0 where
  pub whole : word ≡ left ++ 58 ∷ right
  pub first : IsTrue (list_all is_no_colon left)

-- what fits a number of sixteen bits
abbrev pub part_fits : ℕ → Bool
part_fits n = nat_le n 65535

-- what is kept of a part, by what is kept of a number
abbrev pub part_kept : Option ℕ → Option ℕ
part_kept None = None
part_kept (Some n) = kept part_fits n

-- the list with this community, which is put last where it is a new one
abbrev pub with_pair : List (ℕ × ℕ) → ℕ × ℕ → List (ℕ × ℕ)
with_pair pairs pair = if has_pair pairs pair then pairs else pairs ++ pair ∷ []

-- The list has this community now, if it fits.
pub record Puts (pair : ℕ × ℕ) (old : List (ℕ × ℕ)) (fit : Bool) (new : List (ℕ × ℕ)) : Type 0 where
  pub fit_is : fit ≡ (pair_fits pair && nat_le (length (with_pair old pair)) 64)
  pub added : fit ≡ true → new ≡ with_pair old pair

-- The word is a community, and the list has it now, if all fit.
pub record AddsOne (word : List ℕ) (old_fit : Bool) (old : List (ℕ × ℕ)) (new_fit : Bool)
    (new : List (ℕ × ℕ)) : Type 0 where
  pub pair : ℕ × ℕ
  pub pair_is : IsCommunity word pair
  pub puts : old_fit ≡ true → Puts pair old new_fit new
  pub stays : old_fit ≡ false → new_fit ≡ false

-- these words spell communities, which are these, each once
pub record AreOnce (words : List (List ℕ)) (coms : List (ℕ × ℕ)) : Type 0 where
  pub pairs : List (ℕ × ℕ)
  pub pairs_are : AreCommunities words pairs
  pub once : coms ≡ each_once pairs

-- an `add`, and what is kept of it
pub record ReadsAdd (words : List (List ℕ)) (said : Announcement) : Type 0 where
  pub given : Given
  pub is : IsAdd words said.net given
  pub gateway_is : said.gateway ≡ given.gw
  pub kept_is : said.given ≡ kept given_fits given
