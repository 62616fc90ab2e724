-- Channels, directions and the sources that they pass, of the parts of protocols.
use Rattle.std.proofs.Common.{◌≡◌, ℕ, zero, suc, ◌+◌, ◌-◌, ◌<◌, ◌≤◌, List, [], ◌∷◌, ◌++◌, Option, Some, None, refl, sym, ◌∙◌, ap, subst, arith, length, map, take, append_assoc}
use Rattle.std.specs.Prelude.{if◌then◌else◌, option_map, slice_get}
use Rattle.std.specs.List.{AllByRecursion}
use Rattle.std.specs.declared.alloc.Global.{Global}
use Rattle.std.specs.declared.vec.Vec.{Vec}
use Rattle.std.proofs.lemmas.List.{append-nil, length-append, length-map}
use Rattle.std.proofs.lemmas.Option.{slice_get-map}
use Rattle.attrs.specs.declared.judge.Verdict.{Verdict}
use Rattle.attrs.specs.declared.route.Route.{Route}
use Rattle.bits_ip.specs.Prefix.{Net}
use Rattle.bits_ip.specs.declared.address.Family.{Family}
use Rattle.core_machine.specs.Pipes.{ends_with, passes, passes_to}
use Rattle.core_machine.specs.Rules.{Rules}
use Rattle.core_machine.specs.Ways.{Found, levels}
use Rattle.core_setup.specs.Channels.{Channel, channel_at, channels, channels_from, channels_in, reads_at, session, target_at}
use Rattle.core_setup.specs.Protocols.{passed_below, protocol_at, rules_of, rules_with, table_at, table_in}
use Rattle.core_setup.specs.Setup.{AreProtocols, Body, Exports, FitsBody, IsPipe, IsSetup, IsSource, Protocol, Setup}
use Rattle.core_setup.proofs.Numbered.{all_append}
use Rattle.core_setup.proofs.PairLemmas.{get_here, get_within, length_front, take_one_more}
use Rattle.sys_run.specs.Made.{AreLists, AreWithin, IsWithin, directions_in, direction_of, found_from, given_all, seen_in}
use Rattle.show_route.specs.declared.query.Query.{Query}
use Rattle.sys_run.specs.Parts.{body_seen, protocol_seen, setup_seen, table_seen}
use Rattle.sys_run.specs.declared.parts.ProtocolParts.{ProtocolParts}
use Rattle.sys_run.specs.declared.parts.TableParts.{TableParts}
use Rattle.sys_run.specs.declared.ways.Direction.{Direction}
use Rattle.sys_run.proofs.MakingWays.{SayAll, given_from, levels_are}

-- ---- channels of one more protocol

module _ {J : Type 0} (verdict : J → Net → Route → Verdict) (tables : List (List ℕ × Family)) where
  abbrev pub of_parts : ℕ → ProtocolParts J → List Channel
  of_parts number p = channels_in tables number p.name (body_seen verdict p.body)

  channels_push : (n : ℕ) (ps : List (ProtocolParts J)) (p : ProtocolParts J)
      → channels_from tables n (map (protocol_seen verdict) (ps ++ p ∷ [])) ≡ channels_from tables n (map (protocol_seen verdict) ps) ++ of_parts (n + length ps) p
  channels_push n [] p = append-nil (of_parts n p) ∙ ap (λ m. of_parts m p) (let e : n ≡ n + 0 = omega arith in e)
  channels_push n (q ∷ ps) p =
      ap (λ l. of_parts n q ++ l) (channels_push (n + 1) ps p)
      ∙ sym (append_assoc (of_parts n q) (channels_from tables (n + 1) (map (protocol_seen verdict) ps)) (of_parts (n + 1 + length ps) p))
      ∙ ap (λ m. (of_parts n q ++ channels_from tables (n + 1) (map (protocol_seen verdict) ps)) ++ of_parts m p) (let e : n + 1 + length ps ≡ n + suc (length ps) = omega arith in e)

  pub seen_push : (ps : List (ProtocolParts J)) (p : ProtocolParts J) → seen_in verdict tables (ps ++ p ∷ []) ≡ seen_in verdict tables ps ++ of_parts (length ps) p
  seen_push ps p = channels_push 0 ps p ∙ ap (λ m. seen_in verdict tables ps ++ of_parts m p) (let e : 0 + length ps ≡ length ps = omega arith in e)

  pub seen_turn : (xs : List (ProtocolParts J)) (k : ℕ) (x : ProtocolParts J) → slice_get xs k ≡ Some x → seen_in verdict tables (take (k + 1) xs) ≡ seen_in verdict tables (take k xs) ++ of_parts k x
  seen_turn xs k x e =
      ap (seen_in verdict tables) (take_one_more xs k x e) ∙ seen_push (take k xs) x
      ∙ ap (λ m. seen_in verdict tables (take k xs) ++ of_parts m x) (let f : length (take k xs) ≡ k = omega (arith, length_front xs k x e) in f)

  pub count_turn : (xs : List (ProtocolParts J)) (k count more : ℕ) (x : ProtocolParts J) → slice_get xs k ≡ Some x → count ≡ length (seen_in verdict tables (take k xs)) → more ≡ length (of_parts k x)
      → count + more ≡ length (seen_in verdict tables (take (k + 1) xs))
  count_turn xs k count more x e is some =
      let whole = ap length (seen_turn xs k x e) ∙ length-append (seen_in verdict tables (take k xs)) (of_parts k x) in
      omega (arith, is, some, whole)

  directions_append : (n : ℕ) (xs ys : List Channel) → directions_in n (xs ++ ys) ≡ directions_in n xs ++ directions_in (n + length xs) ys
  directions_append n [] ys = ap (λ m. directions_in m ys) (let e : n ≡ n + 0 = omega arith in e)
  directions_append n (x ∷ xs) ys =
      let here = direction_of n x.reads x.target in
      ap (λ l. here ++ l) (directions_append (n + 1) xs ys)
      ∙ sym (append_assoc here (directions_in (n + 1) xs) (directions_in (n + 1 + length xs) ys))
      ∙ ap (λ m. (here ++ directions_in (n + 1) xs) ++ directions_in m ys) (let e : n + 1 + length xs ≡ n + suc (length xs) = omega arith in e)

  pub directions_turn : (xs : List (ProtocolParts J)) (k count : ℕ) (x : ProtocolParts J) (old new : List Direction) → slice_get xs k ≡ Some x → count ≡ length (seen_in verdict tables (take k xs))
      → old ≡ directions_in 0 (seen_in verdict tables (take k xs)) → new ≡ old ++ directions_in count (of_parts k x) → new ≡ directions_in 0 (seen_in verdict tables (take (k + 1) xs))
  directions_turn xs k count x old new e is was more =
      let seen = seen_in verdict tables (take k xs) in
      more ∙ ap (λ l. l ++ directions_in count (of_parts k x)) was
      ∙ ap (λ m. directions_in 0 seen ++ directions_in m (of_parts k x)) (let z : count ≡ 0 + length seen = omega (arith, is) in z)
      ∙ sym (directions_append 0 seen (of_parts k x)) ∙ sym (ap (directions_in 0) (seen_turn xs k x e))

-- ---- directions within bounds

record Within (tables : ℕ) (ch : Channel) : Type 0 where
  pub reads : ch.reads < tables
  pub writes : (t : ℕ) → ch.target ≡ Some t → t < tables

some_same : {A : Type 0} {x y : A} → Some x ≡ Some y → x ≡ y
some_same e = cc

none_some : {A B : Type 0} {x : A} → None ≡ Some x → B
none_some e = cc

body_within : (tables : List (List ℕ × Family)) (n : ℕ) (name : List ℕ) (b : Body) → FitsBody tables n b → AllByRecursion (Within (length tables)) (channels_in tables n name b)
body_within tables n name (IsSource p) fits = by p.exports where
  by : (o : Option Exports) → AllByRecursion (Within (length tables)) (session tables n name p.table o)
  by None = tt
  by (Some exports) = (record { reads = fits.table; writes = λ t e. none_some e }, tt)
body_within tables n name (IsPipe p) fits = (
  record { reads = fits.primary; writes = λ t e. subst (λ m. m < length tables) (some_same e) fits.peer },
  (record { reads = fits.peer; writes = λ t e. subst (λ m. m < length tables) (some_same e) fits.primary }, tt),
)

all_within : (tables : List (List ℕ × Family)) (n : ℕ) (ps : List Protocol) → AreProtocols tables n ps → AllByRecursion (Within (length tables)) (channels_from tables n ps)
all_within tables n [] are = tt
all_within tables n (p ∷ ps) are =
    all_append (Within (length tables)) (channels_in tables n p.name p.body) (channels_from tables (n + 1) ps) (body_within tables n p.name p.body are.0) (all_within tables (n + 1) ps are.1)

one_within : (tables count n reads : ℕ) (o : Option ℕ) (rest : List Direction) → n < count → reads < tables → ((t : ℕ) → o ≡ Some t → t < tables) → AreWithin tables count rest → AreWithin tables count (direction_of n reads o ++ rest)
one_within tables count n reads None rest le here writes others k d e = others k d e
one_within tables count n reads (Some t) rest le here writes others zero d e = subst (IsWithin tables count) (some_same e) (record { channel = le; reads = here; writes = writes t refl })
one_within tables count n reads (Some t) rest le here writes others (suc k) d e = others k d e

within_from : (tables count n : ℕ) (chs : List Channel) → AllByRecursion (Within tables) chs → n + length chs ≤ count → AreWithin tables count (directions_in n chs)
within_from tables count n [] all le = λ k d e. none_some e
within_from tables count n (ch ∷ chs) all le =
    one_within tables count n ch.reads ch.target (directions_in (n + 1) chs) (omega (arith, le)) all.0.reads all.0.writes (within_from tables count (n + 1) chs all.1 (omega (arith, le)))

pub directions_within : (setup : Setup) → IsSetup setup → AreWithin (length setup.tables) (length (channels setup)) (directions_in 0 (channels setup))
directions_within setup is = within_from (length setup.tables) (length (channels setup)) 0 (channels setup) (all_within setup.tables 0 setup.protocols is.protocols) (omega arith)

-- ---- which sources each passes

module _ (setup : Setup) where
  rules_say : (g : Rules) → ((c : ℕ) → g.target c ≡ target_at (channel_at setup c)) → ((c : ℕ) → g.reads c ≡ reads_at (length setup.tables) (channel_at setup c)) → SayAll g 0 (channels setup)
  rules_say g targets reads j ch e =
      let at : channel_at setup (j + 0) ≡ Some ch = ap (slice_get (channels setup)) (let z : j + 0 ≡ j = omega arith in z) ∙ e in record {
        target = targets (j + 0) ∙ ap target_at at;
        reads = reads (j + 0) ∙ ap (reads_at (length setup.tables)) at;
      }

  pub passed_turn : (k home : ℕ) (held : List (Vec ℕ Global)) → home ≡ table_at (length setup.tables) (protocol_at setup k) → length held ≡ length (channels setup)
      → AreLists held (given_all (found_from (directions_in 0 (channels setup)) home (length setup.tables - 1)) k (directions_in 0 (channels setup)) (λ c. passed_below (rules_of setup) c k))
      → AreLists held (λ c. passed_below (rules_of setup) c (suc k))
  passed_turn k home held at many are = λ c x e.
      let w = get_within held c x e in
      let ch = get_here (channels setup) c (omega (arith, w, many)) in
      let same : c + 0 ≡ c = omega arith in
      are c x e ∙ subst (λ m. given_all found k (directions_in 0 (channels setup)) below m ≡ below m ++ more m ch.0.target) same (given_from found k 0 (channels setup) below c ch.0 ch.1)
      ∙ ap (λ l. below c ++ l) (writes c ch.0.target (ap target_at ch.1))
    where
      without : Rules
      without = rules_with (λ table i. None) setup

      found : Found
      found = found_from (directions_in 0 (channels setup)) home (length setup.tables - 1)

      below : ℕ → List ℕ
      below c = passed_below (rules_of setup) c k

      more : ℕ → Option ℕ → List ℕ
      more c None = []
      more c (Some t) = if ends_with c (found t) then k ∷ [] else []

      ways_are : found ≡ levels without k (length setup.tables - 1)
      ways_are = levels_are without k home (length setup.tables - 1) (channels setup) (rules_say without (λ c. refl) (λ c. refl)) refl (sym at)

      writes : (c : ℕ) (o : Option ℕ) → (rules_of setup).target c ≡ o → more c o ≡ (if passes (rules_of setup) c k then k ∷ [] else [])
      writes c None e = sym (ap (λ o. if passes_to (rules_of setup) c k o then k ∷ [] else []) e)
      writes c (Some t) e =
          ap (λ (f : Found). if ends_with c (f t) then k ∷ [] else []) ways_are
          ∙ sym (ap (λ o. if passes_to (rules_of setup) c k o then k ∷ [] else []) e)

  pub lists_till : (held : List (Vec ℕ Global)) (m n : ℕ) → m ≡ n → AreLists held (λ c. passed_below (rules_of setup) c m) → AreLists held (λ c. passed_below (rules_of setup) c n)
  lists_till held m n e are = subst (λ k. AreLists held (λ c. passed_below (rules_of setup) c k)) e are

-- the table of a protocol's routes
pub home_is : {J : Type 0} (verdict : J → Net → Route → Verdict) (parts : List TableParts) (xs : List (ProtocolParts J)) (cells : ℕ) (choices : List J) (queries : List Query) (k tables home : ℕ) (x : ProtocolParts J) → slice_get xs k ≡ Some x → length parts ≡ tables
    → home ≡ table_in tables (body_seen verdict x.body)
    → home ≡ table_at (length (setup_seen verdict parts xs cells choices queries).tables) (protocol_at (setup_seen verdict parts xs cells choices queries) k)
home_is verdict parts xs cells choices queries k tables home x there e is =
    is ∙ ap (λ n. table_in n (body_seen verdict x.body)) (sym (length-map parts table_seen ∙ e))
    ∙ sym (ap (table_at (length (setup_seen verdict parts xs cells choices queries).tables)) (slice_get-map (protocol_seen verdict) xs k ∙ ap (option_map (protocol_seen verdict)) there))
