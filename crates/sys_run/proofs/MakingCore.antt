-- A core that has played nothing.
use Rattle.std.proofs.Common.{◌≡◌, ℕ, zero, suc, ◌+◌, ◌-◌, ◌<◌, ◌≤◌, inl, inr, Bool, true, false, List, [], ◌∷◌, ◌++◌, Option, Some, None, refl, sym, ◌∙◌, ap, subst, arith, length, map, take}
use Rattle.std.specs.Prelude.{◌==◌, slice_get, option_map, if◌then◌else◌}
use Rattle.std.specs.declared.alloc.Global.{Global}
use Rattle.std.specs.declared.vec.Vec.{Vec}
use Rattle.std.proofs.lemmas.Bool.Decides.{eqb_tells}
use Rattle.std.proofs.lemmas.List.{append-nil, length-append, length-map}
use Rattle.std.proofs.lemmas.Option.{none-some, same_Some, slice_get-map}
use Rattle.attrs.specs.declared.judge.Verdict.{Verdict}
use Rattle.attrs.specs.declared.route.Route.{Route}
use Rattle.bits_ip.specs.Prefix.{Net}
use Rattle.bits_ip.specs.declared.address.Family.{Family}
use Rattle.import_core.specs.Importers.{Importing}
use Rattle.core_machine.specs.Channels.{is_open, new_channel, opened}
use Rattle.core_machine.specs.Legal.{nothing}
use Rattle.core_machine.specs.Machine.{start}
use Rattle.core_setup.specs.Channels as setups
use Rattle.core_setup.specs.Channels.{channels, channels_from, channels_in, numbers_of, session}
use Rattle.core_setup.specs.Pairs.{Pairs}
use Rattle.core_setup.specs.Protocols.{rules_of}
use Rattle.core_setup.specs.Setup.{Body, Exports, IsPipe, IsSource, Protocol, Setup}
use Rattle.core_setup.proofs.PairLemmas.{one_here, pairs_all, pairs_length}
use Rattle.run_tables.specs.Routes.{AreRoutes}
use Rattle.sys_run.specs.Cores.{Does, IsCore, PlaysAs, counted}
use Rattle.sys_run.specs.Made.{IsMade, IsMadeBody, IsMadeProtocol, channels_before}
use Rattle.show_route.specs.declared.query.Query.{Query}
use Rattle.sys_run.specs.Parts.{body_seen, protocol_seen, setup_seen, table_seen}
use Rattle.sys_run.specs.Playing.{HasPlayed, silent}
use Rattle.sys_run.specs.declared.made.Made.{Made}
use Rattle.sys_run.specs.declared.parts.BodyParts.{BodyParts}
use Rattle.sys_run.specs.declared.parts.BodyParts.TheVariants as parts
use Rattle.sys_run.specs.declared.parts.ProtocolParts.{ProtocolParts}
use Rattle.sys_run.specs.declared.parts.TableParts.{TableParts}
use Rattle.sys_run.specs.declared.player.Answered.{Answered}
use Rattle.sys_run.specs.declared.player.Core.{Core}
use Rattle.sys_run.specs.declared.protocol.Body.{Body as HeldBody}
use Rattle.sys_run.specs.declared.protocol.Body.TheVariants as body
use Rattle.sys_run.specs.declared.protocol.Protocol.{Protocol as HeldProtocol}
use Rattle.sys_run.proofs.MakingParts.{of_parts, seen_turn}

-- ---- the numbers of a protocol's channels

itself : (a b : ℕ) → a ≡ b → (a == b) ≡ true
itself a b e = elim (eqb_tells a b) [ inl w ↦ w.0 | inr w ↦ absurd (w.1 e) ]

another : (a b : ℕ) → (a ≡ b → ⊥) → (a == b) ≡ false
another a b e = elim (eqb_tells a b) [ inl w ↦ absurd (e w.1) | inr w ↦ w.0 ]

abbrev with_number : Bool → ℕ → List ℕ → List ℕ
with_number b n more = if b then n ∷ more else more

numbers_join : (i n : ℕ) (xs ys : List setups.Channel) → numbers_of i n (xs ++ ys) ≡ numbers_of i n xs ++ numbers_of i (n + length xs) ys
numbers_join i n [] ys = ap (λ m. numbers_of i m ys) (let e : n ≡ n + 0 = omega arith in e)
numbers_join i n (x ∷ xs) ys =
    ap (with_number (x.owner == i) n) (numbers_join i (n + 1) xs ys ∙ ap (λ m. numbers_of i (n + 1) xs ++ numbers_of i m ys) (let e : n + 1 + length xs ≡ n + suc (length xs) = omega arith in e))
    ∙ by (x.owner == i) (numbers_of i (n + 1) xs) (numbers_of i (n + suc (length xs)) ys)
  where
    by : (b : Bool) (l m : List ℕ) → with_number b n (l ++ m) ≡ with_number b n l ++ m
    by true l m = refl
    by false l m = refl

module _ (tables : List (List ℕ × Family)) where
  own_numbers : (m n : ℕ) (name : List ℕ) (b : Body) → numbers_of m n (channels_in tables m name b) ≡ counted n (length (channels_in tables m name b))
  own_numbers m n name (IsSource p) = by p.exports where
    by : (o : Option Exports) → numbers_of m n (session tables m name p.table o) ≡ counted n (length (session tables m name p.table o))
    by None = refl
    by (Some x) = ap (λ t. with_number t n []) (itself m m refl)
  own_numbers m n name (IsPipe p) =
      ap (λ t. with_number t n (with_number t (n + 1) [])) (itself m m refl)

  no_numbers : (i m n : ℕ) (name : List ℕ) (b : Body) → (m ≡ i → ⊥) → numbers_of i n (channels_in tables m name b) ≡ []
  no_numbers i m n name (IsSource p) apart = by p.exports where
    by : (o : Option Exports) → numbers_of i n (session tables m name p.table o) ≡ []
    by None = refl
    by (Some x) = ap (λ t. with_number t n []) (another m i apart)
  no_numbers i m n name (IsPipe p) apart =
      ap (λ t. with_number t n (with_number t (n + 1) [])) (another m i apart)

  none_before : (i m n : ℕ) (ps : List Protocol) → i < m → numbers_of i n (channels_from tables m ps) ≡ []
  none_before i m n [] w = refl
  none_before i m n (p ∷ ps) w =
      numbers_join i n (channels_in tables m p.name p.body) (channels_from tables (m + 1) ps)
      ∙ ap (λ l. l ++ numbers_of i (n + length (channels_in tables m p.name p.body)) (channels_from tables (m + 1) ps)) (no_numbers i m n p.name p.body (λ e. omega (arith, w, e)))
      ∙ none_before i (m + 1) (n + length (channels_in tables m p.name p.body)) ps (omega (arith, w))

  numbers_are : (m n : ℕ) (ps : List Protocol) (k : ℕ) (p : Protocol) → slice_get ps k ≡ Some p
      → numbers_of (k + m) n (channels_from tables m ps) ≡ counted (n + length (channels_from tables m (take k ps))) (length (channels_in tables (k + m) p.name p.body))
  numbers_are m n [] k p e = absurd (none-some p e)
  numbers_are m n (q ∷ ps) zero p e =
      subst (λ i. numbers_of i n (channels_from tables m (q ∷ ps)) ≡ counted (n + 0) (length (channels_in tables i p.name p.body))) (let z : m ≡ zero + m = omega arith in z)
      (numbers_join m n (channels_in tables m q.name q.body) (channels_from tables (m + 1) ps)
      ∙ ap (λ l. numbers_of m n (channels_in tables m q.name q.body) ++ l) (none_before m (m + 1) (n + length (channels_in tables m q.name q.body)) ps (omega arith))
      ∙ append-nil (numbers_of m n (channels_in tables m q.name q.body))
      ∙ own_numbers m n q.name q.body
      ∙ ap (λ k. counted k (length (channels_in tables m q.name q.body))) (let z : n ≡ n + 0 = omega arith in z)
      ∙ ap (λ (x : Protocol). counted (n + 0) (length (channels_in tables m x.name x.body))) (same_Some q p e))
  numbers_are m n (q ∷ ps) (suc k) p e =
      let here = channels_in tables m q.name q.body in
      numbers_join (suc k + m) n here (channels_from tables (m + 1) ps)
      ∙ ap (λ l. l ++ numbers_of (suc k + m) (n + length here) (channels_from tables (m + 1) ps)) (no_numbers (suc k + m) m n q.name q.body (λ f. omega (arith, f)))
      ∙ subst (λ i. numbers_of i (n + length here) (channels_from tables (m + 1) ps) ≡ counted (n + length here + length (channels_from tables (m + 1) (take k ps))) (length (channels_in tables i p.name p.body)))
      (let z : k + (m + 1) ≡ suc k + m = omega arith in z) (numbers_are (m + 1) (n + length here) ps k p e)
      ∙ ap (λ j. counted j (length (channels_in tables (suc k + m) p.name p.body)))
      (let z = length-append here (channels_from tables (m + 1) (take k ps)) in omega (arith, z))

  fewer : {J : Type 0} (verdict : J → Net → Route → Verdict) (m k : ℕ) (ps : List (ProtocolParts J)) → length (channels_from tables m (map (protocol_seen verdict) (take k ps))) ≤ length (channels_from tables m (map (protocol_seen verdict) ps))
  fewer verdict m k [] = by k where
    by : (j : ℕ) → length (channels_from tables m (map (protocol_seen verdict) (take j []))) ≤ 0
    by zero = omega arith
    by (suc j) = omega arith
  fewer verdict m zero (p ∷ ps) = omega arith
  fewer verdict m (suc k) (p ∷ ps) =
      let here = channels_in tables m p.name (body_seen verdict p.body) in
      let w = fewer verdict (m + 1) k ps in
      let a = length-append here (channels_from tables (m + 1) (map (protocol_seen verdict) (take k ps))) in
      let b = length-append here (channels_from tables (m + 1) (map (protocol_seen verdict) ps)) in
      omega (arith, w, a, b)

map_take : {X Y : Type 0} (f : X → Y) (k : ℕ) (xs : List X) → map f (take k xs) ≡ take k (map f xs)
map_take f zero xs = refl
map_take f (suc k) [] = refl
map_take f (suc k) (x ∷ xs) = ap (λ l. f x ∷ l) (map_take f k xs)

tables_seen : (n : ℕ) (tables : List TableParts) → Pairs (λ n seen (held : TableParts). (seen ≡ (held.name, held.family))) n (map table_seen tables) tables
tables_seen n [] = tt
tables_seen n (t ∷ tables) = (refl, tables_seen (n + 1) tables)

module _ {J : Type 0} (verdict : J → Net → Route → Verdict) where
  names_seen : (ps : List (ProtocolParts J)) → map (λ (p : ProtocolParts J). p.name) ps ≡ map (λ (p : Protocol). p.name) (map (protocol_seen verdict) ps)
  names_seen [] = refl
  names_seen (p ∷ ps) = ap (λ l. p.name ∷ l) (names_seen ps)

  body_is : (p : BodyParts J) (held : HeldBody J) → IsMadeBody verdict p held → Does verdict (body_seen verdict p) [] held
  body_is (parts.Source p) (body.Source held) is = record {
    table = is.0;
    kind = is.1;
    spec = ap (λ (e : Importing J). e.spec) is.2;
    judge = ap (λ (e : Importing J). verdict e.judge) is.2;
    imports = ap (λ (e : Importing J). e.imports) is.2;
  }
  body_is (parts.Source p) (body.Pipe up) is = absurd is
  body_is (parts.Pipe p) (body.Source held) is = absurd is
  body_is (parts.Pipe p) (body.Pipe up) is = is

  module _ (tables : List TableParts) (protocols : List (ProtocolParts J)) (cells : ℕ) (choices : List J) (queries : List Query) where
    abbrev seen : Setup
    seen = setup_seen verdict tables protocols cells choices queries

    plays_as : (i : ℕ) (p : ProtocolParts J) (held : HeldProtocol J) → slice_get protocols i ≡ Some p → IsMadeProtocol verdict (map table_seen tables) protocols i p held
        → PlaysAs verdict seen i (protocol_seen verdict p) [] [] held
    plays_as i p held at is = record {
      body = body_is p.body held.body is.body;
      ordered = omega (arith, is.from, is.upto, grown);
      within = omega (arith, is.upto, fewer (map table_seen tables) verdict 0 (suc i) protocols);
      belong = subst (λ k. numbers_of k 0 (channels seen) ≡ counted held.from (held.upto - held.from)) (let z : i + 0 ≡ i = omega arith in z)
          (numbers_are (map table_seen tables) 0 0 (map (protocol_seen verdict) protocols) i (protocol_seen verdict p) (slice_get-map (protocol_seen verdict) protocols i ∙ ap (option_map (protocol_seen verdict)) at)
          ∙ ap (λ n. counted n (length (channels_in (map table_seen tables) (i + 0) p.name (body_seen verdict p.body)))) first
          ∙ ap (counted held.from) many);
      fits = tt;
      new = [];
      since = refl;
      done = is.done;
    } where
      next : i + 1 ≡ suc i
      next = omega arith

      grown : length (channels_before verdict (map table_seen tables) protocols (suc i)) ≡ length (channels_before verdict (map table_seen tables) protocols i) + length (of_parts verdict (map table_seen tables) i p)
      grown = ap (λ k. length (channels_before verdict (map table_seen tables) protocols k)) (sym next) ∙ ap length (seen_turn verdict (map table_seen tables) protocols i p at)
          ∙ length-append (channels_before verdict (map table_seen tables) protocols i) (of_parts verdict (map table_seen tables) i p)

      first : 0 + length (channels_from (map table_seen tables) 0 (take i (map (protocol_seen verdict) protocols))) ≡ held.from
      first = let e = ap (λ l. length (channels_from (map table_seen tables) 0 l)) (map_take (protocol_seen verdict) i protocols) in omega (arith, e, is.from)

      many : length (channels_in (map table_seen tables) (i + 0) p.name (body_seen verdict p.body)) ≡ held.upto - held.from
      many = let e = ap (λ k. length (of_parts verdict (map table_seen tables) k p)) (let z : i + 0 ≡ i = omega arith in z) in omega (arith, e, grown, is.from, is.upto)

    pub made_core : (passed : ℕ → List ℕ) (made : Made J) (core : Core J) → AreRoutes verdict seen (start (rules_of seen)) core.routes → IsMade verdict (map table_seen tables) passed protocols made
        → core.names.items ≡ made.names.items → core.protocols.items ≡ made.protocols.items → core.channels.items ≡ made.channel_names.items → core.tables.items ≡ tables → core.replies.items ≡ [] → core.phases ≡ 0
        → core.choices.items ≡ choices → core.queries.items ≡ queries → (actors : List (List ℕ)) → HasPlayed verdict seen actors [] [] core
    made_core passed made core routes is names bodies channel_names same_tables no_replies phases same_choices same_queries actors = record {
      state = start (rules_of seen);
      printed = [];
      plays = refl;
      are = tt;
      rests = record { core_is = core_is; agrees = record { history = λ n. refl; ops = λ i. refl; logs = λ c. refl }; phases_are = phases };
    } where
      up_is : (b : Bool) → is_open (if b then opened 0 new_channel else new_channel) ≡ b
      up_is true = refl
      up_is false = refl

      core_is : IsCore verdict seen nothing (silent (start (rules_of seen))) core
      core_is = record {
        routes = routes;
        protocols = subst (λ (l : List (HeldProtocol J)). Pairs (λ i p held. PlaysAs verdict seen i p [] [] held) 0 seen.protocols l) (sym bodies)
            (pairs_all (λ i p held. PlaysAs verdict seen i p [] [] held) seen.protocols made.protocols.items
            (length-map protocols (protocol_seen verdict) ∙ pairs_length (IsMadeProtocol verdict (map table_seen tables) protocols) 0 protocols made.protocols.items is.bodies)
            (λ j q held eq eh.
            let p = one_here (IsMadeProtocol verdict (map table_seen tables) protocols) protocols made.protocols.items is.bodies j held eh in
            let same : protocol_seen verdict p.0 ≡ q = same_Some (protocol_seen verdict p.0) q (sym (slice_get-map (protocol_seen verdict) protocols j ∙ ap (option_map (protocol_seen verdict)) p.1) ∙ eq) in
            subst (λ (x : Protocol). PlaysAs verdict seen j x [] [] held) same (plays_as j p.0 held p.1 p.2)));
        up = λ c. up_is ((rules_of seen).first ((rules_of seen).owner c));
        histories = λ n. ([], refl);
        operations = λ i. ([], refl);
        logs = λ c. (((start (rules_of seen)).channels c).log, sym (append-nil ((start (rules_of seen)).channels c).log));
        replies = λ actor held e. absurd (none-some held (ap (λ (xs : List (Vec Answered Global)). slice_get xs actor) (sym no_replies) ∙ e));
        channels = channel_names ∙ is.channel_names;
        tables = subst (λ (xs : List TableParts). Pairs (λ n seen (held : TableParts). (seen ≡ (held.name, held.family))) 0 (map table_seen tables) xs) (sym same_tables) (tables_seen 0 tables);
        names = names ∙ is.names ∙ names_seen protocols;
        choices = ap (map verdict) same_choices;
        queries = same_queries;
      }
