-- Tables and channels that are made, as the machine begins with them.
use Rattle.std.proofs.Common.{◌≡◌, ℕ, zero, suc, ◌+◌, ◌<◌, ◌≤◌, ◌⊎◌, inl, inr, Bool, true, false, List, [], ◌∷◌, ◌++◌, Option, Some, None, refl, sym, ◌∙◌, ap, subst, arith, length, take, is_some, get_or, set, append_assoc}
use Rattle.std.specs.Prelude.{◌==◌, ◌&&◌, ◌||◌, nat_lt, slice_get, if◌then◌else◌}
use Rattle.std.specs.List.{AllByRecursion}
use Rattle.std.specs.declared.alloc.Global.{Global}
use Rattle.std.specs.declared.vec.Vec.{Vec}
use Rattle.std.proofs.Math.Path.{fun_ext}
use Rattle.std.proofs.lemmas.List.{append-nil}
use Rattle.std.proofs.lemmas.Bool.Decides.{eqb_tells, nat_tests}
use Rattle.attrs.specs.declared.judge.Verdict.{Verdict}
use Rattle.attrs.specs.declared.attributes.Kind.{Kind}
use Rattle.attrs.specs.declared.attributes.Kind.TheVariants.{Bgp, Static}
use Rattle.attrs.specs.declared.route.Route.{Route}
use Rattle.bits_ip.specs.Prefix.{Net}
use Rattle.bits_ip.specs.declared.address.Family.{Family}
use Rattle.export_core.specs.Candidates.{among}
use Rattle.export_core.specs.Passing.{value_by}
use Rattle.export_core.specs.declared.passing.ExportSpec.{ExportSpec}
use Rattle.import_core.specs.Decisions.{Filter}
use Rattle.core_machine.specs.Channels as machine
use Rattle.core_machine.specs.Channels.{IsFed, is_open, new_channel, opened}
use Rattle.core_machine.specs.Machine.{Obeys, State, start, with_channel}
use Rattle.core_machine.specs.Match.{IsSpecOf}
use Rattle.core_machine.specs.Rules.{AreWays, IsRules, Rise, Rules}
use Rattle.core_machine.proofs.Beginnings.{pipe_opens}
use Rattle.core_machine.proofs.Levels.{are_ways}
use Rattle.core_machine.proofs.Matching.{new_matches}
use Rattle.core_setup.specs.Channels.{Channel, channel_at, channels, channels_from, channels_in, family_or_first, owner_at, reads_at, session, target_at}
use Rattle.core_setup.specs.Pairs.{Pairs}
use Rattle.core_setup.specs.Protocols.{exports_of, exports_to, first_at, is_pipe, protocol_at, rules_of, sources}
use Rattle.core_setup.specs.Setup.{AreProtocols, Body, Exports, FitsBody, HasSession, IsPipe, IsSetup, IsSource, Protocol, Setup, family_at}
use Rattle.core_setup.proofs.Numbered.{all_append, beyond_none, channel_belongs}
use Rattle.core_setup.proofs.PairLemmas.{get_here, length_front, one_here, take_one_more, pairs_all, pairs_length, weaker_here}
use Rattle.core_setup.proofs.Passed.{spec_is, value_is}
use Rattle.core_setup.proofs.SetupRules.{setup_ways}
use Rattle.run_tables.specs.Channels.{IsChannel}
use Rattle.run_tables.specs.Routes.{AreReaders, AreRoutes}
use Rattle.run_tables.specs.Tables.{IsTable}
use Rattle.run_tables.specs.declared.channel.Channel.{Channel as Held}
use Rattle.run_tables.specs.declared.routes.Routes.{Routes}
use Rattle.run_tables.specs.declared.table.Table.{Table}
use Rattle.sys_run.proofs.MakingWays.{item_read, lists_given}
use Rattle.sys_run.specs.Made.{AreLists, AreNew, IsNewChannel, given, opened_to, readers_from, readers_in}

-- ---- tests of numbers

same_number : (a b : ℕ) → a ≡ b → (a == b) ≡ true
same_number a b e = elim (eqb_tells a b) [ inl w ↦ w.0 | inr w ↦ absurd (w.1 e) ]

other_number : (a b : ℕ) → (a ≡ b → ⊥) → (a == b) ≡ false
other_number a b e = elim (eqb_tells a b) [ inl w ↦ absurd (e w.1) | inr w ↦ w.0 ]

is_below : (a b : ℕ) → a < b → nat_lt a b ≡ true
is_below a b w = grind (arith, nat_tests)

not_below : (a b : ℕ) → b ≤ a → nat_lt a b ≡ false
not_below a b w = grind (arith, nat_tests)

below_or_not : (a b : ℕ) → (a < b) ⊎ (b ≤ a)
below_or_not a b = grind (arith, nat_tests)

and_false : (a : Bool) → (a && false) ≡ false
and_false true = refl
and_false false = refl

some_same : {A : Type 0} {x y : A} → Some x ≡ Some y → x ≡ y
some_same e = cc

none_some : {A B : Type 0} {x : A} → None ≡ Some x → B
none_some e = cc

-- ---- readers of tables

module _ {J : Type 0} where
  below_first : (n : ℕ) (held : List (Held J)) (t c : ℕ) → c < n → among c (readers_from n held t) ≡ false
  below_first n [] t c lt = refl
  below_first n (h ∷ held) t c lt = by (h.table == t) (below_first (n + 1) held t c (omega (arith, lt))) where
    by : (b : Bool) → among c (readers_from (n + 1) held t) ≡ false → among c ((if b then n ∷ [] else []) ++ readers_from (n + 1) held t) ≡ false
    by true rest = ap (λ x. x || among c (readers_from (n + 1) held t)) (other_number n c (λ e. let bad : 1 ≤ 0 = omega (arith, lt, e) in omega (arith, bad))) ∙ rest
    by false rest = rest

  beyond_last : (n : ℕ) (held : List (Held J)) (t c : ℕ) → n + length held ≤ c → among c (readers_from n held t) ≡ false
  beyond_last n [] t c le = refl
  beyond_last n (h ∷ held) t c le = by (h.table == t) (beyond_last (n + 1) held t c (omega (arith, le))) where
    by : (b : Bool) → among c (readers_from (n + 1) held t) ≡ false → among c ((if b then n ∷ [] else []) ++ readers_from (n + 1) held t) ≡ false
    by true rest = ap (λ x. x || among c (readers_from (n + 1) held t)) (other_number n c (λ e. let bad : 1 ≤ 0 = omega (arith, le, e) in omega (arith, bad))) ∙ rest
    by false rest = rest

  reader_here : (n : ℕ) (held : List (Held J)) (t j : ℕ) (h : Held J) → slice_get held j ≡ Some h → among (j + n) (readers_from n held t) ≡ (h.table == t)
  reader_here n [] t j h e = none_some e
  reader_here n (x ∷ held) t zero h e =
      subst (λ m. among m (readers_from n (x ∷ held) t) ≡ (h.table == t)) (let z : n ≡ zero + n = omega arith in z)
      (by (x.table == t) (below_first (n + 1) held t n (omega arith)) ∙ ap (λ (y : Held J). y.table == t) (some_same e)) where
        by : (b : Bool) → among n (readers_from (n + 1) held t) ≡ false → among n ((if b then n ∷ [] else []) ++ readers_from (n + 1) held t) ≡ b
        by true rest = ap (λ x. x || among n (readers_from (n + 1) held t)) (same_number n n refl)
        by false rest = rest
  reader_here n (x ∷ held) t (suc j) h e =
      by (x.table == t) (subst (λ m. among m (readers_from (n + 1) held t) ≡ (h.table == t)) (let z : j + (n + 1) ≡ suc j + n = omega arith in z) (reader_here (n + 1) held t j h e)) where
        by : (b : Bool) → among (suc j + n) (readers_from (n + 1) held t) ≡ (h.table == t) → among (suc j + n) ((if b then n ∷ [] else []) ++ readers_from (n + 1) held t) ≡ (h.table == t)
        by true rest = ap (λ x. x || among (suc j + n) (readers_from (n + 1) held t)) (other_number n (suc j + n) (λ e. let bad : 1 ≤ 0 = omega (arith, e) in omega (arith, bad))) ∙ rest
        by false rest = rest

  no_lower : (n : ℕ) (held : List (Held J)) (t place c : ℕ) → slice_get (readers_from n held t) place ≡ Some c → n ≤ c
  no_lower n [] t place c e = none_some e
  no_lower n (h ∷ held) t place c e = by (h.table == t) place e (λ p w. no_lower (n + 1) held t p c w) where
    by : (b : Bool) (p : ℕ) → slice_get ((if b then n ∷ [] else []) ++ readers_from (n + 1) held t) p ≡ Some c → ((q : ℕ) → slice_get (readers_from (n + 1) held t) q ≡ Some c → n + 1 ≤ c) → n ≤ c
    by true zero e rest = let same : n ≡ c = some_same e in omega (arith, same)
    by true (suc p) e rest = let w = rest p e in omega (arith, w)
    by false p e rest = let w = rest p e in omega (arith, w)

  once_only : (n : ℕ) (held : List (Held J)) (t place c : ℕ) → slice_get (readers_from n held t) place ≡ Some c → among c (take place (readers_from n held t)) ≡ false
  once_only n [] t place c e = none_some e
  once_only n (h ∷ held) t place c e = by (h.table == t) place e (λ p w. once_only (n + 1) held t p c w) (λ p w. no_lower (n + 1) held t p c w) where
    by : (b : Bool) (p : ℕ) → slice_get ((if b then n ∷ [] else []) ++ readers_from (n + 1) held t) p ≡ Some c
        → ((q : ℕ) → slice_get (readers_from (n + 1) held t) q ≡ Some c → among c (take q (readers_from (n + 1) held t)) ≡ false)
        → ((q : ℕ) → slice_get (readers_from (n + 1) held t) q ≡ Some c → n + 1 ≤ c)
        → among c (take p ((if b then n ∷ [] else []) ++ readers_from (n + 1) held t)) ≡ false
    by true zero e rest low = refl
    by true (suc p) e rest low =
        ap (λ x. x || among c (take p (readers_from (n + 1) held t))) (other_number n c (λ same. let w = low p e in let bad : 1 ≤ 0 = omega (arith, w, same) in omega (arith, bad))) ∙ rest p e
    by false p e rest low = rest p e

  pub readers_are : (rules : Rules) (held : List (Held J)) (t : ℕ) → ((c : ℕ) (h : Held J) → slice_get held c ≡ Some h → h.table ≡ rules.reads c) → AreReaders rules (length held) t (readers_in held t)
  readers_are rules held t reads = record {
    are = λ c. by c (below_or_not c (length held));
    once = λ place c e. once_only 0 held t place c e;
  } where
    by : (c : ℕ) → ((c < length held) ⊎ (length held ≤ c)) → among c (readers_in held t) ≡ (nat_lt c (length held) && (rules.reads c == t))
    by c (inl w) =
        let h = get_here held c w in
        subst (λ m. among m (readers_in held t) ≡ (h.0.table == t)) (let z : c + 0 ≡ c = omega arith in z) (reader_here 0 held t c h.0 h.1)
        ∙ ap (λ n. n == t) (reads c h.0 h.1) ∙ sym (ap (λ b. b && (rules.reads c == t)) (is_below c (length held) w))
    by c (inr w) = beyond_last 0 held t c (omega (arith, w)) ∙ sym (ap (λ b. b && (rules.reads c == t)) (not_below c (length held) w))

-- ---- what holds of each channel of a setup

all_at : {X : Type 0} (P : X → Type 0) (xs : List X) (k : ℕ) (x : X) → AllByRecursion P xs → slice_get xs k ≡ Some x → P x
all_at P [] k x a e = none_some e
all_at P (y ∷ xs) zero x a e = subst P (some_same e) a.0
all_at P (y ∷ xs) (suc k) x a e = all_at P xs k x a.1 e

family_there : (o : Option Family) (tables : List (List ℕ × Family)) (n : ℕ) → family_at tables n ≡ o → n < length tables → family_at tables n ≡ Some (family_or_first (family_at tables n))
family_there (Some f) tables n e w = e ∙ ap (λ o. Some (family_or_first o)) (sym e)
family_there None tables n e w = by (get_here tables n w) where
  by : ((x : List ℕ × Family) × (slice_get tables n ≡ Some x)) → family_at tables n ≡ Some (family_or_first (family_at tables n))
  by h = absurd (none_some (sym e ∙ ap (λ o. family_by o) h.1)) where
    family_by : Option (List ℕ × Family) → Option Family
    family_by None = None
    family_by (Some table) = Some table.1

record Stands (setup : Setup) (ch : Channel) : Type 0 where
  pub first : is_some ch.target ≡ first_at (protocol_at setup ch.owner)
  pub family : family_at setup.tables ch.reads ≡ Some ch.exports.spec.family

module _ (setup : Setup) where
  session_stands : (n : ℕ) (name : List ℕ) (table : ℕ) (k : Kind) (o : Option Exports) → first_at (protocol_at setup n) ≡ false → HasSession k (family_at setup.tables table) n o → AllByRecursion (Stands setup) (session setup.tables n name table o)
  session_stands n name table k None first has = tt
  session_stands n name table Static (Some exports) first has = absurd has
  session_stands n name table Bgp (Some exports) first has = (record { first = sym first; family = has.family }, tt)

  body_stands : (n : ℕ) (name : List ℕ) (b : Body) → first_at (protocol_at setup n) ≡ is_pipe b → FitsBody setup.tables n b → AllByRecursion (Stands setup) (channels_in setup.tables n name b)
  body_stands n name (IsSource p) first fits = session_stands n name p.table p.spec.kind p.exports first fits.session
  body_stands n name (IsPipe p) first fits = (
    record { first = sym first; family = family_there (family_at setup.tables p.primary) setup.tables p.primary refl fits.primary },
    (record { first = sym first; family = family_there (family_at setup.tables p.peer) setup.tables p.peer refl fits.peer }, tt),
  )

  all_stand : (n : ℕ) (ps : List Protocol) → ((k : ℕ) (p : Protocol) → slice_get ps k ≡ Some p → protocol_at setup (k + n) ≡ Some p) → AreProtocols setup.tables n ps → AllByRecursion (Stands setup) (channels_from setup.tables n ps)
  all_stand n [] at are = tt
  all_stand n (p ∷ ps) at are =
      let here : protocol_at setup n ≡ Some p = subst (λ k. protocol_at setup k ≡ Some p) (let z : zero + n ≡ n = omega arith in z) (at zero p refl) in
      all_append (Stands setup) (channels_in setup.tables n p.name p.body) (channels_from setup.tables (n + 1) ps) (body_stands n p.name p.body (ap first_at here) are.0)
      (all_stand (n + 1) ps (λ k q e. subst (λ m. protocol_at setup m ≡ Some q) (let z : suc k + n ≡ k + (n + 1) = omega arith in z) (at (suc k) q e)) are.1)

  stands : IsSetup setup → (c : ℕ) (ch : Channel) → channel_at setup c ≡ Some ch → Stands setup ch
  stands is c ch e = all_at (Stands setup) (channels setup) c ch (all_stand 0 setup.protocols (λ k p f. subst (λ m. protocol_at setup m ≡ Some p) (let z : k ≡ k + 0 = omega arith in z) f) is.protocols) e

-- ---- the states between the openings

abbrev made : (ℕ → machine.Channel) → State
made chs = record { history = λ table. []; ops = λ i. []; channels = chs; replies = [] }

module _ (r : Rules) where
  abbrev one : Bool → machine.Channel
  one b = if b then opened 0 new_channel else new_channel

  pub nothing_opened : (c : ℕ) → (opened_to r 0).channels c ≡ new_channel
  nothing_opened c = ap (λ b. one (b && r.first (r.owner c))) (not_below c 0 (omega arith))

  pub not_yet : (c : ℕ) → (opened_to r c).channels c ≡ new_channel
  not_yet c = ap (λ b. one (b && r.first (r.owner c))) (not_below c c (omega arith))

  further : (c x : ℕ) → (x ≡ c → ⊥) → nat_lt x c ≡ nat_lt x (c + 1)
  further c x apart = by (below_or_not x c) where
    by : ((x < c) ⊎ (c ≤ x)) → nat_lt x c ≡ nat_lt x (c + 1)
    by (inl w) = is_below x c w ∙ sym (is_below x (c + 1) (omega (arith, w)))
    by (inr w) = not_below x c w ∙ sym (not_below x (c + 1) (by_two (below_or_not x (c + 1)))) where
      by_two : ((x < c + 1) ⊎ (c + 1 ≤ x)) → c + 1 ≤ x
      by_two (inl v) = absurd (apart (omega (arith, v, w)))
      by_two (inr v) = v

  pub passed_over : (c : ℕ) → r.first (r.owner c) ≡ false → opened_to r c ≡ opened_to r (c + 1)
  passed_over c none = ap made (fun_ext at) where
    at : (x : ℕ) → (opened_to r c).channels x ≡ (opened_to r (c + 1)).channels x
    at x = elim (eqb_tells x c) [
      | inl w ↦ ap (λ b. one (nat_lt x c && b)) (ap (λ n. r.first (r.owner n)) w.1 ∙ none) ∙ ap one (and_false (nat_lt x c) ∙ sym (and_false (nat_lt x (c + 1))))
          ∙ sym (ap (λ b. one (nat_lt x (c + 1) && b)) (ap (λ n. r.first (r.owner n)) w.1 ∙ none))
      | inr w ↦ ap (λ b. one (b && r.first (r.owner x))) (further c x w.1)
    ]

  pub opened_one : (c : ℕ) → r.first (r.owner c) ≡ true → with_channel c (opened 0 new_channel) (opened_to r c) ≡ opened_to r (c + 1)
  opened_one c some = ap made (fun_ext at) where
    at : (x : ℕ) → (if c == x then opened 0 new_channel else (opened_to r c).channels x) ≡ (opened_to r (c + 1)).channels x
    at x = elim (eqb_tells c x) [
      | inl w ↦ ap (λ b. if b then opened 0 new_channel else (opened_to r c).channels x) w.0
          ∙ sym (ap (λ b. one (b && r.first (r.owner x))) (is_below x (c + 1) (omega (arith, w.1))) ∙ ap one (ap (λ n. r.first (r.owner n)) (sym w.1) ∙ some))
      | inr w ↦ ap (λ b. if b then opened 0 new_channel else (opened_to r c).channels x) w.0
          ∙ ap (λ b. one (b && r.first (r.owner x))) (further c x (λ e. w.1 (sym e)))
    ]

  pub all_opened : (n : ℕ) → ((c : ℕ) → n ≤ c → r.first (r.owner c) ≡ false) → opened_to r n ≡ start r
  all_opened n none = ap made (fun_ext (λ x. at x (below_or_not x n))) where
    at : (x : ℕ) → ((x < n) ⊎ (n ≤ x)) → (opened_to r n).channels x ≡ (start r).channels x
    at x (inl w) = ap (λ b. one (b && r.first (r.owner x))) (is_below x n w)
    at x (inr w) = ap (λ b. one (b && r.first (r.owner x))) (not_below x n w) ∙ sym (ap one (none x w))

  -- a pipe's direction rises
  pub risen : (c : ℕ) (t : State) → IsRules r → r.first (r.owner c) ≡ true → Obeys Rise r c (opened_to r c) t → t ≡ opened_to r (c + 1)
  risen c t are some obeys =
      let fed : IsFed r c [] false (opened 0 new_channel) obeys.0 = subst (λ (ch : machine.Channel). IsFed r c [] false (opened 0 ch) obeys.0) (not_yet c) obeys.1 in
      let new : obeys.0 ≡ opened 0 new_channel = pipe_opens r c obeys.0 are some fed ∙ ap one some in
      obeys.2 ∙ ap (λ (ch : machine.Channel). with_channel c ch (opened_to r c)) new ∙ opened_one c some

pub none_beyond : (setup : Setup) (c : ℕ) → length (channels setup) ≤ c → (rules_of setup).first ((rules_of setup).owner c) ≡ false
none_beyond setup c le =
    ap (λ o. first_at (protocol_at setup (owner_at (length setup.protocols) o))) (beyond_none (channels setup) c le)
    ∙ ap first_at (beyond_none setup.protocols (length setup.protocols) (omega arith))

-- whether a channel is a direction
pub first_is : (setup : Setup) (c : ℕ) (ch : Channel) → IsSetup setup → channel_at setup c ≡ Some ch → (rules_of setup).first ((rules_of setup).owner c) ≡ is_some ch.target
first_is setup c ch is e = ap (λ o. first_at (protocol_at setup (owner_at (length setup.protocols) o))) e ∙ sym (stands setup is c ch e).first

-- ---- all that is made

module _ {J : Type 0} (verdict : J → Net → Route → Verdict) where
  family_to : (target : Option ℕ) (passed : List ℕ) (exports : Exports) → (exports_to target passed exports).spec.family ≡ exports.spec.family
  family_to None passed exports = refl
  family_to (Some table) passed exports = refl

  new_channel_is : (setup : Setup) → IsSetup setup → (c : ℕ) (seen : Channel) (held : Held J) → channel_at setup c ≡ Some seen → IsNewChannel verdict (sources setup) c seen held
      → IsChannel verdict (rules_of setup) c (family_at setup.tables seen.reads) [] held new_channel
  new_channel_is setup is c seen held there new = record {
    table = new.table ∙ sym (ap (reads_at (length setup.tables)) there);
    target = new.target ∙ sym (ap target_at there);
    cursor = new.cursor;
    exporter = record {
      matches = new_matches verdict (rules_of setup) c [] held.exporter
          (subst (IsSpecOf (rules_of setup) c) (sym new.spec) (spec_is setup is ways c seen there))
          (λ k r. ap (λ (s : ExportSpec). value_by s (verdict held.exporter.judge) k r) new.spec ∙ ap (λ (f : Filter). value_by (exports_of setup c seen).spec f k r) new.filter ∙ value_is setup is ways c seen there k r)
          new.position new.floors new.feed new.marks new.log new.rest;
      family_is = (stands setup is c seen there).family ∙ ap (λ f. Some f) (sym (ap (λ (s : ExportSpec). s.family) new.spec ∙ family_to seen.target (sources setup c) seen.exports));
      told = (let z : 0 ≤ 0 = omega arith in z);
    };
  } where
    ways : AreWays (rules_of setup)
    ways = setup_ways are_ways setup is

  pub reads_are : (setup : Setup) (held : List (Held J)) → Pairs (IsNewChannel verdict (sources setup)) 0 (channels setup) held → (c : ℕ) (h : Held J) → slice_get held c ≡ Some h → h.table ≡ (rules_of setup).reads c
  reads_are setup held are c h e =
      let seen = one_here (IsNewChannel verdict (sources setup)) (channels setup) held are c h e in
      seen.2.table ∙ sym (ap (reads_at (length setup.tables)) seen.1)

  pub routes_are : (setup : Setup) (routes : Routes J) → AreNew verdict setup routes.cells routes.tables.items routes.channels.items routes.sources.items
      → length routes.readers.items ≡ length routes.tables.items → AreLists routes.readers.items (readers_in routes.channels.items) → AreRoutes verdict setup (opened_to (rules_of setup) 0) routes
  routes_are setup routes new many readers = record {
    setup_is = new.setup_is;
    rules_are = new.rules_are;
    cells = new.cells_are;
    tables = weaker_here (λ n seen table. (rules : Rules) → IsTable rules seen.1 [] table) (λ n seen table. IsTable (rules_of setup) seen.1 [] table) setup.tables routes.tables.items (λ j x y _ _ is. is (rules_of setup)) new.tables_are;
    readers = pairs_all (λ n seen (numbers : Vec ℕ Global). AreReaders (rules_of setup) (length (channels setup)) n numbers.items) setup.tables routes.readers.items
        (pairs_length (λ n seen table. (rules : Rules) → IsTable rules seen.1 [] table) 0 setup.tables routes.tables.items new.tables_are ∙ sym many)
        (λ j x (numbers : Vec ℕ Global) _ e.
        subst (λ l. AreReaders (rules_of setup) (length (channels setup)) j l) (sym (readers j numbers e))
        (subst (λ n. AreReaders (rules_of setup) n j (readers_in routes.channels.items j)) (sym (pairs_length (IsNewChannel verdict (sources setup)) 0 (channels setup) routes.channels.items new.channels_are))
        (readers_are (rules_of setup) routes.channels.items j (reads_are setup routes.channels.items new.channels_are))));
    channels = weaker_here (IsNewChannel verdict (sources setup)) (λ c seen held. IsChannel verdict (rules_of setup) c (family_at setup.tables seen.reads) [] held ((opened_to (rules_of setup) 0).channels c)) (channels setup) routes.channels.items
        (λ c seen held there _ is. subst (IsChannel verdict (rules_of setup) c (family_at setup.tables seen.reads) [] held) (sym (nothing_opened (rules_of setup) c)) (new_channel_is setup new.setup_is c seen held there is)) new.channels_are;
    beyond = λ c _. ap is_open (nothing_opened (rules_of setup) c);
    sources = new.sources_are;
  }

  pub channels_many : (setup : Setup) (s : State) (routes : Routes J) → AreRoutes verdict setup s routes → length (channels setup) ≡ length routes.channels.items
  channels_many setup s routes are =
      pairs_length (λ c seen held. IsChannel verdict (rules_of setup) c (family_at setup.tables seen.reads) (s.history seen.reads) held (s.channels c)) 0 (channels setup) routes.channels.items are.channels

  pub pipe_is : (setup : Setup) (s : State) (routes : Routes J) (n : ℕ) (held : Held J) → AreRoutes verdict setup s routes → n < length routes.channels.items → held ≡ get_or routes.channels.items n held
      → (rules_of setup).first ((rules_of setup).owner n) ≡ is_some held.target
  pipe_is setup s routes n held are w e =
      let seen = one_here (λ c seen held. IsChannel verdict (rules_of setup) c (family_at setup.tables seen.reads) (s.history seen.reads) held (s.channels c)) (channels setup) routes.channels.items are.channels n held (item_read routes.channels.items n held w e) in
      first_is setup n seen.0 are.setup_is seen.1 ∙ ap is_some (sym (ap target_at seen.1)) ∙ sym (ap is_some seen.2.target)

  pub reads_within : (setup : Setup) (held : List (Held J)) → IsSetup setup → Pairs (IsNewChannel verdict (sources setup)) 0 (channels setup) held → (c : ℕ) (h : Held J) → slice_get held c ≡ Some h → h.table < length setup.tables
  reads_within setup held is are c h e =
      let seen = one_here (IsNewChannel verdict (sources setup)) (channels setup) held are c h e in
      subst (λ n. n < length setup.tables) (sym seen.2.table) (channel_belongs setup c seen.0 is seen.1).within

  pub tables_many : (setup : Setup) (tables : List Table) → Pairs (λ n seen table. (rules : Rules) → IsTable rules seen.1 [] table) 0 setup.tables tables → length setup.tables ≡ length tables
  tables_many setup tables are = pairs_length (λ n seen table. (rules : Rules) → IsTable rules seen.1 [] table) 0 setup.tables tables are

readers_push : {J : Type 0} (n : ℕ) (xs : List (Held J)) (x : Held J) (t : ℕ) → readers_from n (xs ++ x ∷ []) t ≡ readers_from n xs t ++ (if x.table == t then (n + length xs) ∷ [] else [])
readers_push n [] x t = append-nil (if x.table == t then n ∷ [] else []) ∙ ap (λ m. if x.table == t then m ∷ [] else []) (let e : n ≡ n + 0 = omega arith in e)
readers_push n (y ∷ xs) x t =
    let here = if y.table == t then n ∷ [] else [] in
    ap (λ l. here ++ l) (readers_push (n + 1) xs x t ∙ ap (λ m. readers_from (n + 1) xs t ++ (if x.table == t then m ∷ [] else [])) (let e : n + 1 + length xs ≡ n + suc (length xs) = omega arith in e))
    ∙ sym (append_assoc here (readers_from (n + 1) xs t) (if x.table == t then (n + suc (length xs)) ∷ [] else []))

pub readers_turn : {J : Type 0} (cs : List (Held J)) (k : ℕ) (x : Held J) (held : List (Vec ℕ Global)) (old new : Vec ℕ Global) (number : ℕ) → slice_get cs k ≡ Some x → number ≡ k
    → slice_get held x.table ≡ Some old → new.items ≡ old.items ++ number ∷ [] → AreLists held (readers_in (take k cs)) → AreLists (set held x.table new) (readers_in (take (k + 1) cs))
readers_turn cs k x held old new number at is there more are = λ c v e.
    lists_given x.table number held (readers_in (take k cs)) old new there more are c v e ∙ sym (turned c)
  where
    turned : (c : ℕ) → readers_in (take (k + 1) cs) c ≡ given x.table true number (readers_in (take k cs)) c
    turned c =
        ap (λ l. readers_in l c) (take_one_more cs k x at) ∙ readers_push 0 (take k cs) x c
        ∙ ap (λ m. readers_in (take k cs) c ++ (if x.table == c then m ∷ [] else [])) (let z : 0 + length (take k cs) ≡ number = omega (arith, is, length_front cs k x at) in z)
        ∙ by (x.table == c)
      where
        by : (b : Bool) → readers_in (take k cs) c ++ (if b then number ∷ [] else []) ≡ (if b then readers_in (take k cs) c ++ number ∷ [] else readers_in (take k cs) c)
        by true = refl
        by false = append-nil (readers_in (take k cs) c)
