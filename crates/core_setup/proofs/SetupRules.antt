-- Tables and protocols say rules as the machine asks for them.
use Rattle.std.proofs.Common.{◌≡◌, ◌≢◌, ℕ, zero, suc, ◌-◌, ◌≤◌, Bool, true, false, List, [], ◌∷◌, ◌++◌, Option, Some, None, refl, sym, ◌∙◌, ap, subst, arith, length}
use Rattle.std.proofs.lemmas.Bool.{false≢true}
use Rattle.bits_ip.specs.Prefix.{Net}
use Rattle.attrs.specs.declared.route.Change.{Change}
use Rattle.import_core.specs.declared.operation.Op.{Op}
use Rattle.import_core.specs.Imports.{AreInOrder, route_at}
use Rattle.import_core.proofs.Routes.{sorted_nil}
use Rattle.export_core.specs.Candidates.{among}
use Rattle.core_machine.specs.Histories.{AreFrom, AreReal, content_of}
use Rattle.core_machine.specs.Rules.{AreWays, Fits, IsRules, Rules, changes, is_up, signalled}
use Rattle.core_machine.specs.Ways.{Found, HasWays, level, levels, tried}
use Rattle.core_setup.specs.Channels.{Channel, channel_at, channels, numbers_of, owner_at, reads_at, target_at}
use Rattle.core_setup.specs.Protocols.{accepted_at, effect_at, effect_in, first_at, is_pipe, pipe_is_up, protocol_at, rules_of, rules_with, src_at, table_at, ways}
use Rattle.core_setup.specs.Setup.{Body, FitsBody, IsPipe, IsSetup, IsSource, Pipe, Protocol, Setup, Source}
use Rattle.core_setup.proofs.Admitted.{all_own}
use Rattle.core_setup.proofs.Chained.{all_leave, all_of, all_real}
use Rattle.core_setup.proofs.Choosing.{best_of_all, best_same}
use Rattle.core_setup.proofs.Numbered.{beyond_none, channel_belongs, channel_listed, listed_owner, none_some, numbers_apart, protocol_is}
use Rattle.core_setup.proofs.Ordered.{accepted_ordered}
use Rattle.core_setup.proofs.Signalled.{pipe_fits, signals_fit, up_of}

-- ---- what a kind of protocol comes to

abbrev body_changes : Body → List Op → List Change
body_changes b [] = []
body_changes b (op ∷ earlier) = (effect_in b earlier op).changes ++ body_changes b earlier

abbrev body_up : Body → List Op → Bool
body_up b [] = is_pipe b
body_up b (op ∷ earlier) = signalled (effect_in b earlier op).signal (body_up b earlier)

source_changes : (p : Source) (ops : List Op) → body_changes (IsSource p) ops ≡ all_of p ops
source_changes p [] = refl
source_changes p (op ∷ earlier) = ap (λ cs. (effect_in (IsSource p) earlier op).changes ++ cs) (source_changes p earlier)

pipe_changes : (p : Pipe) (ops : List Op) → body_changes (IsPipe p) ops ≡ []
pipe_changes p [] = refl
pipe_changes p (op ∷ earlier) = pipe_changes p earlier

source_up : (p : Source) (ops : List Op) → body_up (IsSource p) ops ≡ up_of p ops
source_up p [] = refl
source_up p (op ∷ earlier) = ap (signalled (effect_in (IsSource p) earlier op).signal) (source_up p earlier)

pipe_up : (p : Pipe) (ops : List Op) → body_up (IsPipe p) ops ≡ pipe_is_up ops
pipe_up p [] = refl
pipe_up p (op ∷ earlier) = ap (signalled (effect_in (IsPipe p) earlier op).signal) (pipe_up p earlier)

body_own : (tables : _) (i : ℕ) (b : Body) → FitsBody tables i b → (ops : List Op) → AreFrom i (body_changes b ops)
body_own tables i (IsSource p) fits ops = subst (AreFrom i) (sym (source_changes p ops)) (subst (λ n. AreFrom n (all_of p ops)) fits.source (all_own p ops))
body_own tables i (IsPipe p) fits ops = subst (AreFrom i) (sym (pipe_changes p ops)) tt

body_real : (b : Body) (ops : List Op) → AreReal (body_changes b ops)
body_real (IsSource p) ops = subst AreReal (sym (source_changes p ops)) (all_real p ops)
body_real (IsPipe p) ops = subst AreReal (sym (pipe_changes p ops)) tt

body_fits : (b : Body) (ops : List Op) (op : Op) → Fits (effect_in b ops op).signal (body_up b ops)
body_fits (IsSource p) ops op = subst (Fits (effect_in (IsSource p) ops op).signal) (sym (source_up p ops)) (signals_fit p ops op)
body_fits (IsPipe p) ops op = subst (Fits (effect_in (IsPipe p) ops op).signal) (sym (pipe_up p ops)) (pipe_fits (pipe_is_up ops) op)

-- ---- what the rules say of a protocol's number

module _ (setup : Setup) (i : ℕ) where
  changes_none : protocol_at setup i ≡ None → (ops : List Op) → changes (rules_of setup) i ops ≡ []
  changes_none e [] = refl
  changes_none e (op ∷ earlier) =
      ap (λ o. (effect_at o earlier op).changes ++ changes (rules_of setup) i earlier) e ∙ changes_none e earlier

  changes_some : (p : Protocol) → protocol_at setup i ≡ Some p → (ops : List Op) → changes (rules_of setup) i ops ≡ body_changes p.body ops
  changes_some p e [] = refl
  changes_some p e (op ∷ earlier) =
      ap (λ o. (effect_at o earlier op).changes ++ changes (rules_of setup) i earlier) e
      ∙ ap (λ cs. (effect_in p.body earlier op).changes ++ cs) (changes_some p e earlier)

  up_none : protocol_at setup i ≡ None → (ops : List Op) → is_up (rules_of setup) i ops ≡ false
  up_none e [] = ap first_at e
  up_none e (op ∷ earlier) = ap (λ o. signalled (effect_at o earlier op).signal (is_up (rules_of setup) i earlier)) e ∙ up_none e earlier

  up_some : (p : Protocol) → protocol_at setup i ≡ Some p → (ops : List Op) → is_up (rules_of setup) i ops ≡ body_up p.body ops
  up_some p e [] = ap first_at e
  up_some p e (op ∷ earlier) =
      ap (λ o. signalled (effect_at o earlier op).signal (is_up (rules_of setup) i earlier)) e
      ∙ ap (signalled (effect_in p.body earlier op).signal) (up_some p e earlier)

  own_is : IsSetup setup → (ops : List Op) → AreFrom i (changes (rules_of setup) i ops)
  own_is is ops = by (protocol_at setup i) refl where
    by : (o : Option Protocol) → protocol_at setup i ≡ o → AreFrom i (changes (rules_of setup) i ops)
    by None e = subst (AreFrom i) (sym (changes_none e ops)) tt
    by (Some p) e = subst (AreFrom i) (sym (changes_some p e ops)) (body_own setup.tables i p.body (protocol_is setup i p is e) ops)

  real_is : (ops : List Op) → AreReal (changes (rules_of setup) i ops)
  real_is ops = by (protocol_at setup i) refl where
    by : (o : Option Protocol) → protocol_at setup i ≡ o → AreReal (changes (rules_of setup) i ops)
    by None e = subst AreReal (sym (changes_none e ops)) tt
    by (Some p) e = subst AreReal (sym (changes_some p e ops)) (body_real p.body ops)

  fits_is : (ops : List Op) (op : Op) → Fits (effect_at (protocol_at setup i) ops op).signal (is_up (rules_of setup) i ops)
  fits_is ops op = by (protocol_at setup i) refl where
    by : (o : Option Protocol) → protocol_at setup i ≡ o → Fits (effect_at o ops op).signal (is_up (rules_of setup) i ops)
    by None e = tt
    by (Some p) e = subst (Fits (effect_in p.body ops op).signal) (sym (up_some p e ops)) (body_fits p.body ops op)

  made_in : (p : Protocol) → protocol_at setup i ≡ Some p → (b : Body) → p.body ≡ b → FitsBody setup.tables i b → (ops : List Op) (net : Net)
      → content_of (changes (rules_of setup) i ops) net i ≡ route_at net (accepted_at (Some p) ops)
  made_in p e (IsSource s) body fits ops net =
      ap (λ cs. content_of cs net i) (changes_some p e ops ∙ ap (λ b. body_changes b ops) body ∙ source_changes s ops)
      ∙ ap (λ n. content_of (all_of s ops) net n) (sym fits.source)
      ∙ all_leave s ops net
      ∙ sym (ap (λ b. route_at net (accepted_at (Some (record p { body = b })) ops)) body)
  made_in p e (IsPipe q) body fits ops net =
      ap (λ cs. content_of cs net i) (changes_some p e ops ∙ ap (λ b. body_changes b ops) body ∙ pipe_changes q ops)
      ∙ sym (ap (λ b. route_at net (accepted_at (Some (record p { body = b })) ops)) body)

  made_is : IsSetup setup → (ops : List Op) (net : Net) → content_of (changes (rules_of setup) i ops) net i ≡ route_at net (accepted_at (protocol_at setup i) ops)
  made_is is ops net = by (protocol_at setup i) refl where
    by : (o : Option Protocol) → protocol_at setup i ≡ o → content_of (changes (rules_of setup) i ops) net i ≡ route_at net (accepted_at o ops)
    by None e = ap (λ cs. content_of cs net i) (changes_none e ops)
    by (Some p) e = made_in p e p.body refl (protocol_is setup i p is e) ops net

  order_is : (ops : List Op) → AreInOrder (accepted_at (protocol_at setup i) ops)
  order_is ops = by (protocol_at setup i) where
    by_body : (p : Protocol) (b : Body) → AreInOrder (accepted_at (Some (record p { body = b })) ops)
    by_body p (IsSource s) = accepted_ordered s ops
    by_body p (IsPipe q) = sorted_nil

    by : (o : Option Protocol) → AreInOrder (accepted_at o ops)
    by None = sorted_nil
    by (Some p) = by_body p p.body

  source_is : IsSetup setup → (src_at i (protocol_at setup i)).num ≡ i
  source_is is = by (protocol_at setup i) refl where
    by_body : (p : Protocol) (b : Body) → FitsBody setup.tables i b → (src_at i (Some (record p { body = b }))).num ≡ i
    by_body p (IsSource s) fits = fits.source
    by_body p (IsPipe q) fits = refl

    by : (o : Option Protocol) → protocol_at setup i ≡ o → (src_at i o).num ≡ i
    by None e = refl
    by (Some p) e = by_body p p.body (protocol_is setup i p is e)

-- ---- and of a channel's

nobody : (setup : Setup) → protocol_at setup (length setup.protocols) ≡ None
nobody setup = let le : length setup.protocols ≤ length setup.protocols = omega arith in beyond_none setup.protocols (length setup.protocols) le

module _ (setup : Setup) (c : ℕ) where
  belongs_is : (i : ℕ) → among c (numbers_of i 0 (channels setup)) ≡ true → owner_at (length setup.protocols) (channel_at setup c) ≡ i
  belongs_is i e = let ch = listed_owner setup i c e in ap (owner_at (length setup.protocols)) ch.1 ∙ ch.2

  -- one that isn't there is of no protocol
  never_up : channel_at setup c ≡ None → (ops : List Op) → is_up (rules_of setup) (owner_at (length setup.protocols) (channel_at setup c)) ops ≡ false
  never_up e ops = ap (λ o. is_up (rules_of setup) (owner_at (length setup.protocols) o) ops) e ∙ up_none setup (length setup.protocols) (nobody setup) ops

  all_is : among c (numbers_of (owner_at (length setup.protocols) (channel_at setup c)) 0 (channels setup)) ≡ false → (ops : List Op)
      → is_up (rules_of setup) (owner_at (length setup.protocols) (channel_at setup c)) ops ≡ false
  all_is none ops = by (channel_at setup c) refl where
    by : (o : Option Channel) → channel_at setup c ≡ o → is_up (rules_of setup) (owner_at (length setup.protocols) (channel_at setup c)) ops ≡ false
    by None e = never_up e ops
    by (Some ch) e =
        absurd (false≢true (sym none ∙ ap (λ o. among c (numbers_of (owner_at (length setup.protocols) o) 0 (channels setup))) e ∙ channel_listed setup c ch e))

  no_more_is : length (channels setup) ≤ c → (ops : List Op) → is_up (rules_of setup) (owner_at (length setup.protocols) (channel_at setup c)) ops ≡ false
  no_more_is le ops = never_up (beyond_none (channels setup) c le) ops

  reads_own_is : IsSetup setup → target_at (channel_at setup c) ≡ None
      → reads_at (length setup.tables) (channel_at setup c) ≡ table_at (length setup.tables) (protocol_at setup (owner_at (length setup.protocols) (channel_at setup c)))
  reads_own_is is none = by (channel_at setup c) refl where
    by : (o : Option Channel) → channel_at setup c ≡ o → reads_at (length setup.tables) o ≡ table_at (length setup.tables) (protocol_at setup (owner_at (length setup.protocols) o))
    by None e = sym (ap (table_at (length setup.tables)) (nobody setup))
    by (Some ch) e =
        let b = channel_belongs setup c ch is e in
        b.own (sym (ap target_at e) ∙ none) ∙ sym (ap (table_at (length setup.tables)) b.there)

  apart_is : IsSetup setup → (table : ℕ) → target_at (channel_at setup c) ≡ Some table → reads_at (length setup.tables) (channel_at setup c) ≢ table
  apart_is is table some = by (channel_at setup c) refl some where
    by : (o : Option Channel) → channel_at setup c ≡ o → target_at o ≡ Some table → reads_at (length setup.tables) o ≢ table
    by None e t = none_some t
    by (Some ch) e t = (channel_belongs setup c ch is e).apart table t

-- ---- ways

module _ (setup : Setup) (f g : ℕ → ℕ → Option (List ℕ)) (i : ℕ) where
  -- the levels don't read the ways
  tried_same : (d len : ℕ) (o : Option ℕ) (found : Found) → tried (rules_with f setup) d len o found ≡ tried (rules_with g setup) d len o found
  tried_same d len None found = refl
  tried_same d len (Some table) found = refl

  level_same : (len n : ℕ) (found other : Found) → found ≡ other → level (rules_with f setup) len n found ≡ level (rules_with g setup) len n other
  level_same len zero found other e = e
  level_same len (suc d) found other e =
      ap (tried (rules_with f setup) d len (target_at (channel_at setup d))) (level_same len d found other e)
      ∙ tried_same d len (target_at (channel_at setup d)) (level (rules_with g setup) len d other)

  levels_same : (len : ℕ) → levels (rules_with f setup) i len ≡ levels (rules_with g setup) i len
  levels_same zero = refl
  levels_same (suc len) = level_same len (length (channels setup)) (levels (rules_with f setup) i len) (levels (rules_with g setup) i len) (levels_same len)

pub has_ways : (setup : Setup) → HasWays (rules_of setup)
has_ways setup table i = ap (λ (found : Found). found table) (levels_same setup (λ table i. None) (ways setup) i (length setup.tables - 1))

-- That the ways that are found level by level are ways is a law of the machine.
module _ (ways_are : (rules : Rules) → 1 ≤ rules.tables → HasWays rules → AreWays rules) where
  pub setup_ways : (setup : Setup) → IsSetup setup → AreWays (rules_of setup)
  setup_ways setup is = ways_are (rules_of setup) is.tables (has_ways setup)

  pub setup_rules : (setup : Setup) → IsSetup setup → IsRules (rules_of setup)
  setup_rules setup is = record {
    same = λ routes others e. best_same (length setup.protocols) routes others e;
    best = λ content net routes none are. best_of_all (length setup.protocols) (content net) routes none are.sources are.are;
    own = λ i ops. own_is setup i is ops;
    real = λ i ops. real_is setup i ops;
    made = λ i ops net. made_is setup i is ops net;
    order = λ i ops. order_is setup i ops;
    absent = λ i ops le. changes_none setup i (beyond_none setup.protocols i le) ops;
    fits = λ i ops op. fits_is setup i ops op;
    told = λ i attrs others e. ap (λ (r : _). r.attrs) e;
    source = λ i attrs. source_is setup i is;
    belongs = λ i c e. belongs_is setup c i e;
    once = λ i. numbers_apart i 0 (channels setup);
    all = λ c none ops. all_is setup c none ops;
    no_more = λ c le ops. no_more_is setup c le ops;
    reads_own = λ c none. reads_own_is setup c is none;
    apart = λ c table some. apart_is setup c is table some;
    ways = setup_ways setup is;
  }
