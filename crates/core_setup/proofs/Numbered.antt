-- Protocols and channels by their numbers.
use Rattle.std.proofs.Common.{◌≡◌, ◌≢◌, ℕ, zero, suc, ◌+◌, ◌<◌, ◌≤◌, inl, inr, Bool, true, false, List, [], ◌∷◌, ◌++◌, Option, Some, None, refl, sym, ◌∙◌, ap, subst, arith, length, is_some}
use Rattle.std.specs.Prelude.{◌==◌, ◌||◌, if◌then◌else◌, slice_get, IsSome, option_and_then}
use Rattle.std.specs.List.{AllByRecursion}
use Rattle.std.proofs.lemmas.Bool.{false≢true}
use Rattle.std.proofs.lemmas.Bool.Decides.{eqb_tells}
use Rattle.attrs.specs.declared.attributes.Kind.{Kind}
use Rattle.attrs.specs.declared.attributes.Kind.TheVariants.{Bgp, Static}
use Rattle.bits_ip.specs.declared.address.Family.{Family}
use Rattle.export_core.specs.Candidates.{among}
use Rattle.core_machine.specs.Rules.{AreApart}
use Rattle.core_setup.specs.Channels.{Channel, channel_at, channels, channels_from, channels_in, numbers_of, session}
use Rattle.core_setup.specs.Protocols.{protocol_at, table_in}
use Rattle.core_setup.specs.Queries.{exports_at, exports_in}
use Rattle.core_setup.specs.Setup.{AreProtocols, Body, Exports, ExportsFrom, FitsBody, HasSession, IsPipe, IsSetup, IsSource, Pipe, Protocol, Setup, Source, family_at}

pub none_some : {A : Type 0} {B : Type 0} {x : A} → None ≡ Some x → B
none_some e = cc

pub some_same : {A : Type 0} {x y : A} → Some x ≡ Some y → x ≡ y
some_same e = cc

-- ---- what holds of all items

pub all_append : {X : Type 0} (P : X → Type 0) (xs ys : List X) → AllByRecursion P xs → AllByRecursion P ys → AllByRecursion P (xs ++ ys)
all_append P [] ys a b = b
all_append P (x ∷ xs) ys a b = (a.0, all_append P xs ys a.1 b)

pub all_at : {X : Type 0} (P : X → Type 0) (xs : List X) (k : ℕ) (x : X) → AllByRecursion P xs → slice_get xs k ≡ Some x → P x
all_at P [] k x a e = none_some e
all_at P (y ∷ xs) zero x a e = subst P (some_same e) a.0
all_at P (y ∷ xs) (suc k) x a e = all_at P xs k x a.1 e

pub beyond_none : {X : Type 0} (xs : List X) (i : ℕ) → length xs ≤ i → slice_get xs i ≡ None
beyond_none [] i le = refl
beyond_none (x ∷ xs) zero le = absurd (let bad : 1 ≤ 0 = omega (arith, le) in omega (arith, bad))
beyond_none (x ∷ xs) (suc i) le = beyond_none xs i (omega (arith, le))

-- ---- protocols

nothing_first : (n : ℕ) → n ≡ zero + n
nothing_first n = omega arith

one_further : (i n : ℕ) → i + (n + 1) ≡ suc i + n
one_further i n = omega arith

nothing_more : (i : ℕ) → i + 0 ≡ i
nothing_more i = omega arith

protocol_from : (tables : List (List ℕ × Family)) (n : ℕ) (ps : List Protocol) (i : ℕ) (p : Protocol) → AreProtocols tables n ps → slice_get ps i ≡ Some p → FitsBody tables (i + n) p.body
protocol_from tables n [] i p are e = none_some e
protocol_from tables n (q ∷ ps) zero p are e =
    subst (λ k. FitsBody tables k p.body) (nothing_first n) (subst (λ (x : Protocol). FitsBody tables n x.body) (some_same e) are.0)
protocol_from tables n (q ∷ ps) (suc i) p are e =
    subst (λ k. FitsBody tables k p.body) (one_further i n) (protocol_from tables (n + 1) ps i p are.1 e)

pub protocol_is : (setup : Setup) (i : ℕ) (p : Protocol) → IsSetup setup → protocol_at setup i ≡ Some p → FitsBody setup.tables i p.body
protocol_is setup i p is e = subst (λ k. FitsBody setup.tables k p.body) (nothing_more i) (protocol_from setup.tables 0 setup.protocols i p is.protocols e)

-- ---- channels

-- what holds of each channel
pub record Belongs (setup : Setup) (ch : Channel) : Type 0 where
  pub protocol : Protocol
  pub there : protocol_at setup ch.owner ≡ Some protocol
  pub own : ch.target ≡ None → ch.reads ≡ table_in (length setup.tables) protocol.body
  pub apart : (table : ℕ) → ch.target ≡ Some table → ch.reads ≢ table
  pub within : ch.reads < length setup.tables
  pub every : ch.exports.spec.every ≡ is_some ch.target
  -- a protocol with routes of its own has no other channel
  pub sends : (s : Source) → protocol.body ≡ IsSource s → s.exports ≡ Some ch.exports

module _ (setup : Setup) (n : ℕ) (p : Protocol) (there : protocol_at setup n ≡ Some p) where
  session_belongs : (table : ℕ) (k : Kind) (o : Option Exports) → table ≡ table_in (length setup.tables) p.body → table < length setup.tables
      → ((s : Source) → p.body ≡ IsSource s → s.exports ≡ o)
      → HasSession k (family_at setup.tables table) n o → AllByRecursion (Belongs setup) (session setup.tables n p.name table o)
  session_belongs table k None same within own has = tt
  session_belongs table Static (Some exports) same within own has = absurd has
  session_belongs table Bgp (Some exports) same within own has = (
    record {
      protocol = p;
      there = there;
      own = λ e. same;
      apart = λ t e. none_some e;
      within = within;
      every = has.every;
      sends = own;
    },
    tt,
  )

  one_source : (s t : Source) → IsSource s ≡ IsSource t → s ≡ t
  one_source s t e = cc

  no_source : {A : Type 0} (q : Pipe) (s : Source) → IsPipe q ≡ IsSource s → A
  no_source q s e = cc

  body_belongs : (b : Body) → p.body ≡ b → FitsBody setup.tables n b → AllByRecursion (Belongs setup) (channels_in setup.tables n p.name b)
  body_belongs (IsSource s) e fits = session_belongs s.table s.spec.kind s.exports (sym (ap (table_in (length setup.tables)) e)) fits.table
      (λ t f. ap (λ (x : Source). x.exports) (one_source t s (sym f ∙ e))) fits.session
  body_belongs (IsPipe q) e fits = (
    record {
      protocol = p;
      there = there;
      own = λ f. none_some (sym f);
      apart = λ t f same. fits.apart (same ∙ sym (some_same f));
      within = fits.primary;
      every = refl;
      sends = λ s f. no_source q s (sym e ∙ f);
    },
    (
      record {
        protocol = p;
        there = there;
        own = λ f. none_some (sym f);
        apart = λ t f same. fits.apart (sym (same ∙ sym (some_same f)));
        within = fits.peer;
        every = refl;
        sends = λ s f. no_source q s (sym e ∙ f);
      },
      tt,
    ),
  )

module _ (setup : Setup) where
  all_belong : (n : ℕ) (ps : List Protocol) → ((k : ℕ) (p : Protocol) → slice_get ps k ≡ Some p → protocol_at setup (k + n) ≡ Some p) → AreProtocols setup.tables n ps
      → AllByRecursion (Belongs setup) (channels_from setup.tables n ps)
  all_belong n [] at are = tt
  all_belong n (p ∷ ps) at are =
      let here : protocol_at setup n ≡ Some p = subst (λ k. protocol_at setup k ≡ Some p) (sym (nothing_first n)) (at zero p refl) in
      all_append (Belongs setup) (channels_in setup.tables n p.name p.body) (channels_from setup.tables (n + 1) ps) (body_belongs setup n p here p.body refl are.0)
      (all_belong (n + 1) ps (λ k q e. subst (λ m. protocol_at setup m ≡ Some q) (sym (one_further k n)) (at (suc k) q e)) are.1)

  pub channel_belongs : (c : ℕ) (ch : Channel) → IsSetup setup → channel_at setup c ≡ Some ch → Belongs setup ch
  channel_belongs c ch is e =
      all_at (Belongs setup) (channels setup) c ch
      (all_belong 0 setup.protocols (λ k p f. subst (λ m. protocol_at setup m ≡ Some p) (sym (nothing_more k)) f) is.protocols) e

-- ---- the numbers of a protocol's channels

one_of : (a b : Bool) → (a || b) ≡ true → (a ≡ false → b ≡ true)
one_of true b e f = absurd (false≢true (sym f))
one_of false b e f = e

neither : (a b : Bool) → a ≡ false → b ≡ false → (a || b) ≡ false
neither a b e f = ap (λ t. t || b) e ∙ f

other_is : (a b : ℕ) → a ≢ b → (a == b) ≡ false
other_is a b apart = elim (eqb_tells a b) [ inl w ↦ absurd (apart w.1) | inr w ↦ w.0 ]

pub itself_is : (a : ℕ) → (a == a) ≡ true
itself_is a = elim (eqb_tells a a) [ inl w ↦ w.0 | inr w ↦ absurd (w.1 refl) ]

first_of : (a b : Bool) → a ≡ true → (a || b) ≡ true
first_of a b e = ap (λ t. t || b) e

second_of : (a b : Bool) → b ≡ true → (a || b) ≡ true
second_of true b e = refl
second_of false b e = e

-- a channel of this protocol, among these
record IsListed (owner n : ℕ) (chs : List Channel) (c : ℕ) : Type 0 where
  k : ℕ
  ch : Channel
  number : c ≡ k + n
  there : slice_get chs k ≡ Some ch
  own : ch.owner ≡ owner

module _ (owner : ℕ) where
  abbrev with_first : Bool → ℕ → List Channel → List ℕ
  with_first t n chs = if t then n ∷ numbers_of owner (n + 1) chs else numbers_of owner (n + 1) chs

  further : (n : ℕ) (x : Channel) (chs : List Channel) (c : ℕ) → IsListed owner (n + 1) chs c → IsListed owner n (x ∷ chs) c
  further n x chs c is = record { k = suc is.k; ch = is.ch; number = is.number ∙ one_further is.k n; there = is.there; own = is.own }

  listed_is : (n : ℕ) (chs : List Channel) (c : ℕ) → among c (numbers_of owner n chs) ≡ true → IsListed owner n chs c
  listed_is n [] c e = absurd (false≢true e)
  listed_is n (x ∷ chs) c e = by (x.owner == owner) refl e (λ h. listed_is (n + 1) chs c h) where
    by : (t : Bool) → (x.owner == owner) ≡ t → among c (with_first t n chs) ≡ true → (among c (numbers_of owner (n + 1) chs) ≡ true → IsListed owner (n + 1) chs c) → IsListed owner n (x ∷ chs) c
    by false f h again = further n x chs c (again h)
    by true f h again = elim (eqb_tells n c) [
      | inl w ↦ record {
        k = zero;
        ch = x;
        number = sym w.1 ∙ nothing_first n;
        there = refl;
        own = elim (eqb_tells x.owner owner) [ inl v ↦ v.1 | inr v ↦ absurd (false≢true (sym v.0 ∙ f)) ];
      }
      | inr w ↦ further n x chs c (again (one_of (n == c) (among c (numbers_of owner (n + 1) chs)) h w.0))
    ]

  below_is : (n m : ℕ) (chs : List Channel) → m < n → among m (numbers_of owner n chs) ≡ false
  below_is n m [] lt = refl
  below_is n m (x ∷ chs) lt = by (x.owner == owner) (below_is (n + 1) m chs (omega (arith, lt))) where
    by : (t : Bool) → among m (numbers_of owner (n + 1) chs) ≡ false → among m (with_first t n chs) ≡ false
    by false rest = rest
    by true rest = neither (n == m) (among m (numbers_of owner (n + 1) chs)) (other_is n m (λ e. absurd (let bad : 1 ≤ 0 = omega (arith, lt, e) in omega (arith, bad)))) rest

  pub numbers_apart : (n : ℕ) (chs : List Channel) → AreApart (numbers_of owner n chs)
  numbers_apart n [] = tt
  numbers_apart n (x ∷ chs) = by (x.owner == owner) (numbers_apart (n + 1) chs) where
    by : (t : Bool) → AreApart (numbers_of owner (n + 1) chs) → AreApart (with_first t n chs)
    by false rest = rest
    by true rest = (below_is (n + 1) n chs (omega arith), rest)

  there_is : (n : ℕ) (chs : List Channel) (k : ℕ) (ch : Channel) → slice_get chs k ≡ Some ch → ch.owner ≡ owner → among (k + n) (numbers_of owner n chs) ≡ true
  there_is n [] k ch e own = none_some e
  there_is n (x ∷ chs) zero ch e own =
      let yes_here : (x.owner == owner) ≡ true = ap (λ (y : Channel). y.owner == owner) (some_same e) ∙ ap (λ o. o == owner) own ∙ itself_is owner in
      ap (λ t. among (zero + n) (with_first t n chs)) yes_here
      ∙ first_of (n == zero + n) (among (zero + n) (numbers_of owner (n + 1) chs)) (ap (λ m. n == m) (sym (nothing_first n)) ∙ itself_is n)
  there_is n (x ∷ chs) (suc k) ch e own =
      by (x.owner == owner) (subst (λ m. among m (numbers_of owner (n + 1) chs) ≡ true) (one_further k n) (there_is (n + 1) chs k ch e own))
    where
      by : (t : Bool) → among (suc k + n) (numbers_of owner (n + 1) chs) ≡ true → among (suc k + n) (with_first t n chs) ≡ true
      by false rest = rest
      by true rest = second_of (n == suc k + n) (among (suc k + n) (numbers_of owner (n + 1) chs)) rest

-- a number that is listed for a protocol is that of a channel of it
pub listed_owner : (setup : Setup) (i c : ℕ) → among c (numbers_of i 0 (channels setup)) ≡ true → (ch : Channel) × (channel_at setup c ≡ Some ch) × (ch.owner ≡ i)
listed_owner setup i c e =
    let is = listed_is i 0 (channels setup) c e in
    (is.ch, ap (slice_get (channels setup)) (is.number ∙ nothing_more is.k) ∙ is.there, is.own)

-- and each channel is listed for its protocol
pub channel_listed : (setup : Setup) (c : ℕ) (ch : Channel) → channel_at setup c ≡ Some ch → among c (numbers_of ch.owner 0 (channels setup)) ≡ true
channel_listed setup c ch e =
    subst (λ m. among m (numbers_of ch.owner 0 (channels setup)) ≡ true) (nothing_more c) (there_is ch.owner 0 (channels setup) c ch e refl)

-- ---- the channel of a protocol that has one

-- the channel of this protocol is there, with these exports
record HasChannel (owner : ℕ) (chs : List Channel) : Type 0 where
  place : ℕ
  ch : Channel
  there : slice_get chs place ≡ Some ch
  own : ch.owner ≡ owner

pub get_behind : {X : Type 0} (xs ys : List X) (k : ℕ) → slice_get (xs ++ ys) (length xs + k) ≡ slice_get ys k
get_behind [] ys k = ap (slice_get ys) (sym (nothing_first k))
get_behind (x ∷ xs) ys k =
    let next : length (x ∷ xs) + k ≡ suc (length xs + k) = omega arith in
    ap (slice_get (x ∷ (xs ++ ys))) next ∙ get_behind xs ys k

module _ (tables : List (List ℕ × Family)) where
  has_first : (n table : ℕ) (name : List ℕ) (b : Body) (rest : List Channel) → ExportsFrom table b → HasChannel n (channels_in tables n name b ++ rest)
  has_first n table name (IsPipe q) rest is = absurd is
  has_first n table name (IsSource s) rest is = by s.exports is.1 where
    by : (o : Option Exports) → IsSome o → HasChannel n (session tables n name s.table o ++ rest)
    by None some = absurd (false≢true some)
    by (Some exports) some = record {
      place = zero;
      ch = record { name = name; owner = n; reads = s.table; target = None; exports = exports };
      there = refl;
      own = refl;
    }

  has_later : (n owner : ℕ) (p : Protocol) (rest : List Channel) → HasChannel owner rest → HasChannel owner (channels_in tables n p.name p.body ++ rest)
  has_later n owner p rest has = record {
    place = length (channels_in tables n p.name p.body) + has.place;
    ch = has.ch;
    there = get_behind (channels_in tables n p.name p.body) rest has.place ∙ has.there;
    own = has.own;
  }

  has_from : (n table : ℕ) (ps : List Protocol) (i : ℕ) (p : Protocol) → slice_get ps i ≡ Some p → ExportsFrom table p.body → HasChannel (i + n) (channels_from tables n ps)
  has_from n table [] i p e is = none_some e
  has_from n table (q ∷ ps) zero p e is =
      subst (λ k. HasChannel k (channels_from tables n (q ∷ ps))) (nothing_first n)
      (has_first n table q.name q.body (channels_from tables (n + 1) ps) (subst (λ (x : Protocol). ExportsFrom table x.body) (sym (some_same e)) is))
  has_from n table (q ∷ ps) (suc i) p e is =
      has_later n (suc i + n) q (channels_from tables (n + 1) ps) (subst (λ k. HasChannel k (channels_from tables (n + 1) ps)) (one_further i n) (has_from (n + 1) table ps i p e is))

own_exports : (table : ℕ) (b : Body) (exports : Exports) → ExportsFrom table b → ((s : Source) → b ≡ IsSource s → s.exports ≡ Some exports) → exports_in b ≡ Some exports
own_exports table (IsPipe q) exports is sends = absurd is
own_exports table (IsSource s) exports is sends = sends s refl

module _ (setup : Setup) (i table : ℕ) (p : Protocol) (there : slice_get setup.protocols i ≡ Some p) (is : ExportsFrom table p.body) where
  -- there is one
  pub exports_listed : (c : ℕ) × (among c (numbers_of i 0 (channels setup)) ≡ true)
  exports_listed =
      let has = has_from setup.tables 0 table setup.protocols i p there is in
      (has.place, subst (λ k. among has.place (numbers_of k 0 (channels setup)) ≡ true) (has.own ∙ nothing_more i) (channel_listed setup has.place has.ch has.there))

  -- and each one of it has its exports
  pub exports_own : (c : ℕ) (ch : Channel) → IsSetup setup → channel_at setup c ≡ Some ch → ch.owner ≡ i → exports_at setup.protocols i ≡ Some ch.exports
  exports_own c ch fits e own =
      let b = channel_belongs setup c ch fits e in
      let same : b.protocol ≡ p = some_same (sym b.there ∙ ap (protocol_at setup) own ∙ there) in
      ap (option_and_then (λ (q : Protocol). exports_in q.body)) there
      ∙ own_exports table p.body ch.exports is (λ s f. b.sends s (ap (λ (q : Protocol). q.body) same ∙ f))
