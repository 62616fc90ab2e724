-- The core behind an operation of a protocol.
use Rattle.std.proofs.Common.{◌≡◌, ℕ, zero, suc, ◌-◌, ◌≤◌, ◌<◌, inl, inr, ◌⊎◌, Bool, true, false, List, [], ◌∷◌, ◌++◌, Some, length, reverse, set, refl, sym, ap, subst, ◌∙◌, arith, append_assoc}
use Rattle.std.specs.Prelude.{IfSome, IsSome, None, Option, option_map, slice_get}
use Rattle.std.specs.List.{All, AllByRecursion}
use Rattle.std.specs.declared.alloc.Global.{Global}
use Rattle.std.specs.declared.vec.Vec.{Vec}
use Rattle.std.proofs.lemmas.List.{map-append, reverse-append, reverse-reverse}
use Rattle.std.proofs.lemmas.List.Elements.{All-nil, All-push, All-same}
use Rattle.bits_ip.specs.Address.{family_of}
use Rattle.bits_ip.specs.Prefix.{Net}
use Rattle.bits_ip.specs.declared.address.Family.{Family}
use Rattle.attrs.specs.declared.judge.Verdict.{Verdict}
use Rattle.attrs.specs.declared.route.Change.{Change}
use Rattle.attrs.specs.declared.route.Route.{Route}
use Rattle.export_core.specs.Candidates.{among}
use Rattle.export_core.specs.declared.log.LogItem.{LogItem}
use Rattle.import_core.specs.declared.operation.Op.{Op}
use Rattle.import_core.specs.declared.step.Done.{Done}
use Rattle.core_machine.specs.Channels.{is_open}
use Rattle.core_machine.specs.Histories.{AreFrom, IsFrom}
use Rattle.core_machine.specs.Legal.{Joined}
use Rattle.core_machine.specs.Lines.{Act, Reply, Turn, ops_of, turn_of}
use Rattle.core_machine.specs.Machine.{AllObey, Applies, State, appended, with_turn}
use Rattle.core_machine.specs.Machine.{set as at_set}
use Rattle.core_machine.specs.Replies.{replies_to}
use Rattle.core_machine.specs.Rules.{Effect, Fits, IsRules, Rules, Signal, Stay, is_up, signalled}
use Rattle.core_machine.proofs.Growing.{set_here as at_here, set_there as at_there}
use Rattle.core_setup.specs.Announced.{FitsProtocol, FitsTable}
use Rattle.core_setup.specs.Pairs.{Pairs}
use Rattle.core_setup.specs.Protocols.{effect_at, effect_in, protocol_at, rules_of, signal_of, table_at, table_in}
use Rattle.core_setup.specs.Reports.{dones}
use Rattle.core_setup.specs.Setup.{Body as SeenBody, FitsBody, IsPipe, IsSource, Protocol as SeenProtocol, Setup}
use Rattle.core_setup.proofs.Admitted.{all_reverse, fitting}
use Rattle.core_setup.proofs.Numbered.{beyond_none, protocol_is}
use Rattle.core_setup.proofs.PairLemmas.{cases_same, get_here, get_one, get_within, one_here, pairs_length, set_here, weaker_here}
use Rattle.run_tables.specs.Routes.{AdmitsAt, AreRoutes}
use Rattle.run_tables.specs.Tables.{TellsSource}
use Rattle.run_tables.specs.declared.routes.Routes.{Routes}
use Rattle.run_tables.proofs.Changing.{from_recursion}
use Rattle.run_tables.proofs.Routing.{TableIs, are_same, tables_length}
use Rattle.sys_run.specs.Cores.{AllFit, AreAdmitted, Does, ImportsTo, IsAnswered, IsCore, PlaysAs, counted, made_by, table_of}
use Rattle.sys_run.specs.declared.player.Core.{Core}
use Rattle.sys_run.specs.declared.protocol.Body.{Body}
use Rattle.sys_run.specs.declared.protocol.Body.TheVariants.{Pipe, Source}
use Rattle.sys_run.specs.declared.protocol.Protocol.{Protocol}
use Rattle.sys_run.specs.declared.protocol.Turned.{Turned}
use Rattle.sys_run.proofs.CoreSteps.{Behind, answered_on}
use Rattle.sys_run.proofs.Operating.{Turns}
use Rattle.sys_run.proofs.OperatingChannels.{Told, all_told, behind_appended, counted_among}

push_reverse : {A : Type 0} (x : A) (xs : List A) → reverse (x ∷ xs) ≡ reverse xs ++ x ∷ []
push_reverse x xs = reverse-append (x ∷ []) xs

set_twice : {A : Type 0} (xs : List A) (i : ℕ) (a b : A) → set (set xs i a) i b ≡ set xs i b
set_twice [] i a b = refl
set_twice (x ∷ xs) zero a b = refl
set_twice (x ∷ xs) (suc i) a b = ap (λ ys. x ∷ ys) (set_twice xs i a b)

-- who stays is told to do nothing
pub all_stay : (rules : Rules) (cs : List ℕ) (s : State) → AllObey Stay rules cs s s
all_stay rules [] s = refl
all_stay rules (c ∷ cs) s = (s, refl, all_stay rules cs s)

pub act_same : (a : Act) (i : ℕ) (op : Op) → a.protocol ≡ i → a.op ≡ op → (let b : Act = record { actor = a.actor; line = a.line; protocol = i; op = op } in b) ≡ a
act_same a i op ei eo =
    ap (λ n. let b : Act = record { actor = a.actor; line = a.line; protocol = n; op = op } in b) (sym ei)
    ∙ ap (λ o. let b : Act = record { actor = a.actor; line = a.line; protocol = a.protocol; op = o } in b) (sym eo)

-- ---- changes of one source

are_front : (i : ℕ) (xs ys : List Change) → AreFrom i (xs ++ ys) → AreFrom i xs
are_front i [] ys a = tt
are_front i (x ∷ xs) ys a = (a.0, are_front i xs ys a.1)

sourced : (i n : ℕ) → i < n → (xs : List Change) → AreFrom i xs → All (λ (c : Change). IsSome c.new → c.num < n) (reverse xs)
sourced i n w [] a = All-nil (λ (c : Change). IsSome c.new → c.num < n)
sourced i n w (x ∷ xs) a =
    All-same (λ (c : Change). IsSome c.new → c.num < n) (reverse (x ∷ xs)) (reverse xs ++ x ∷ []) (push_reverse x xs)
    (All-push (λ (c : Change). IsSome c.new → c.num < n) (reverse xs) x (sourced i n w xs a.1) (λ some. let e = a.0.change in omega (arith, w, e)))

module _ {J : Type 0} (verdict : J → Net → Route → Verdict) (setup : Setup) where
  -- ---- a protocol

  pub plays_more : (i : ℕ) (p : SeenProtocol) (base ops : List Turn) (held after : Protocol J) (turn : Turn) (over : Bool) → protocol_at setup i ≡ Some p
      → PlaysAs verdict setup i p base ops held → Does verdict p.body (turn.op ∷ ops_of ops) after.body → over ≡ (effect_in p.body (ops_of ops) turn.op).over
      → after.from ≡ held.from → after.upto ≡ held.upto → after.done.items ≡ held.done.items ++ record { op = turn.op; over = over } ∷ [] → FitsTable setup.tables p.body turn.op
      → PlaysAs verdict setup i p base (turn ∷ ops) after
  plays_more i p base ops held after turn over ep is does o low high noted fits = record {
    body = does;
    ordered = let w = is.ordered in omega (arith, w, low, high);
    within = let w = is.within in omega (arith, w, high);
    belong = is.belong ∙ ap (λ n. counted n (held.upto - n)) (sym low) ∙ ap (λ n. counted after.from (n - after.from)) (sym high);
    fits = (fits, is.fits);
    new = turn ∷ is.new;
    since = ap (λ l. turn ∷ l) is.since;
    done = noted ∙ ap (λ (l : List Done). l ++ record { op = turn.op; over = over } ∷ []) is.done
        ∙ ap (λ (d : Done). reverse (dones (rules_of setup) i (ops_of base) (ops_of is.new)) ++ d ∷ []) last
        ∙ sym (push_reverse (record { op = turn.op; over = ((rules_of setup).gives i (ops_of is.new ++ ops_of base) turn.op).over }) (dones (rules_of setup) i (ops_of base) (ops_of is.new)));
  } where
    over_is : over ≡ ((rules_of setup).gives i (ops_of is.new ++ ops_of base) turn.op).over
    over_is = o ∙ sym (ap (λ q. (effect_at q (ops_of ops) turn.op).over) ep)
        ∙ ap (λ l. ((rules_of setup).gives i l turn.op).over) (ap ops_of is.since ∙ map-append (λ (t : Turn). t.op) is.new base)

    last : (let d : Done = record { op = turn.op; over = over } in d) ≡ record { op = turn.op; over = ((rules_of setup).gives i (ops_of is.new ++ ops_of base) turn.op).over }
    last = ap (λ b. let d : Done = record { op = turn.op; over = b } in d) over_is

  -- where a protocol's changes come to
  made_is : (p : SeenBody) (earlier : List Op) (op : Op) (body : Body J) (cs : List Change) (none : ℕ) (s : State) → Does verdict p (op ∷ earlier) body → cs ≡ (effect_in p earlier op).changes
      → appended (rules_of setup) (table_of body) (made_by body cs) s ≡ appended (rules_of setup) (table_in none p) (effect_in p earlier op).changes s
  made_is (IsSource p) earlier op (Source held) cs none s does e =
      ap (λ n. appended (rules_of setup) n cs s) does.table ∙ ap (λ l. appended (rules_of setup) p.table l s) e
  made_is (IsSource p) earlier op (Pipe up) cs none s does e = absurd does
  made_is (IsPipe p) earlier op (Source held) cs none s does e = absurd does
  made_is (IsPipe p) earlier op (Pipe up) cs none s does e = refl

  imports_to : (i : ℕ) (p : SeenBody) (ops : List Op) (body : Body J) (n : ℕ) → length setup.tables ≡ n → FitsBody setup.tables i p → Does verdict p ops body → ImportsTo n body
  imports_to i (IsSource p) ops (Source held) n len fits does = let w = fits.table in let e = does.table in omega (arith, len, w, e)
  imports_to i (IsSource p) ops (Pipe up) n len fits does = absurd does
  imports_to i (IsPipe p) ops (Source held) n len fits does = absurd does
  imports_to i (IsPipe p) ops (Pipe up) n len fits does = tt

-- ---- the changes of an operation are of the protocol's table

tells_from : (i num : ℕ) (o : Option Route) → num ≡ i → IfSome o (λ (route : Route). route.src.num ≡ i) → TellsSource num o
tells_from i num None e is = tt
tells_from i num (Some route) e is = is ∙ sym e

module _ {J : Type 0} (verdict : J → Net → Route → Verdict) (setup : Setup) (s : State) (routes : Routes J) (are : AreRoutes verdict setup s routes) (i : ℕ) where
  admits_one : (n : ℕ) (seen : List ℕ × Family) → slice_get setup.tables n ≡ Some seen → (c : Change) → (family_of c.net.addr ≡ seen.1) × IsFrom i c → AdmitsAt n routes c
  admits_one n seen es c is table et =
      let at = one_here (TableIs setup s) setup.tables routes.tables.items are.tables n table et in
      record {
        family_is = is.0 ∙ ap (λ (t : List ℕ × Family). t.1) (get_one setup.tables n seen at.0 es at.1) ∙ sym at.2.family_is;
        source = tells_from i c.num c.new is.1.change is.1.route;
      }

  pub body_admitted : (p : SeenBody) (earlier : List Op) (op : Op) (body : Body J) (changes : List Change) → FitsBody setup.tables i p → Does verdict p (op ∷ earlier) body
      → changes ≡ reverse (effect_in p earlier op).changes → AllByRecursion (FitsTable setup.tables p) (op ∷ earlier) → AreAdmitted body routes changes
  body_admitted (IsSource p) earlier op (Source held) changes fits does e told =
      let seen = get_here setup.tables p.table fits.table in
      let all = fitting setup.tables i p seen.0.1 fits (ap (option_map (λ (t : List ℕ × Family). t.1)) seen.1) earlier op told in
      let P : Change → Type 0 = λ c. (family_of c.net.addr ≡ seen.0.1) × IsFrom i c in
      subst (λ n. All (AdmitsAt n routes) changes) (sym does.table)
      (All-same (AdmitsAt p.table routes) changes (reverse (effect_in (IsSource p) earlier op).changes) e
      (from_recursion P (AdmitsAt p.table routes) (admits_one p.table seen.0 seen.1) (reverse (effect_in (IsSource p) earlier op).changes) (all_reverse P (effect_in (IsSource p) earlier op).changes all)))
  body_admitted (IsSource p) earlier op (Pipe up) changes fits does e told = absurd does
  body_admitted (IsPipe p) earlier op (Source held) changes fits does e told = absurd does
  body_admitted (IsPipe p) earlier op (Pipe up) changes fits does e told = All-nil (AdmitsAt 0 routes)

module _ {J : Type 0} (verdict : J → Net → Route → Verdict) (setup : Setup) (past : Joined) where
  abbrev pub Plays : (ℕ → List Turn) → ℕ → SeenProtocol → Protocol J → Type 0
  Plays ops j p held = PlaysAs verdict setup j p (past.ops j) (ops j) held

  -- the operation's effect, and the state behind its changes
  abbrev pub effect : ℕ → Op → State → Effect
  effect i op s = (rules_of setup).gives i (ops_of (s.ops i)) op

  abbrev pub changed : ℕ → Op → State → State
  changed i op s = appended (rules_of setup) ((rules_of setup).table i) (effect i op s).changes s

  -- the same, where the turn is noted
  abbrev pub noted : ℕ → Turn → State → State
  noted i turn s = with_turn i turn (changed i turn.op s)

  -- ---- the core, where an operation was done

  pub acted : (s t : State) (core : Core J) (a : Act) (routes : Routes J) (protocols : Vec (Protocol J) Global) → IsCore verdict setup past s core → Applies (rules_of setup) a s t
      → AreRoutes verdict setup t routes → Pairs (Plays (at_set a.protocol (turn_of a ∷ s.ops a.protocol) s.ops)) 0 setup.protocols protocols.items
      → IsCore verdict setup past t (record core { routes = routes; protocols = protocols })
  acted s t core a routes protocols are applies now plays = record {
    routes = now;
    protocols = subst (λ (ops : ℕ → List Turn). Pairs (Plays ops) 0 setup.protocols protocols.items) (sym eops) plays;
    up = λ c. up c (among c (rules.belong i)) refl (cases_same i (rules.owner c));
    histories = λ n. ((history n).0 ++ (are.histories n).0, (history n).1 ∙ ap (λ h. (history n).0 ++ h) (are.histories n).1 ∙ sym (append_assoc (history n).0 (are.histories n).0 (past.history n)));
    operations = λ j. operations j (cases_same i j);
    logs = λ c. ((log c).0 ++ (are.logs c).0, (log c).1 ∙ ap (λ h. (log c).0 ++ h) (are.logs c).1 ∙ sym (append_assoc (log c).0 (are.logs c).0 (past.logs c)));
    replies = λ actor held e. subst (λ (rs : List Reply). Pairs (λ n answered reply. IsAnswered setup t answered reply) 0 held.items (reverse (replies_to actor rs))) (sym (d.replies ∙ b.replies))
        (weaker_here (λ n answered reply. IsAnswered setup s answered reply) (λ n answered reply. IsAnswered setup t answered reply) held.items (reverse (replies_to actor s.replies))
        (λ n answered reply _ _ is. answered_on setup s t answered reply history is) (are.replies actor held e));
    channels = are.channels;
    tables = are.tables;
    names = are.names;
    choices = are.choices;
    queries = are.queries;
  } where
    rules : Rules
    rules = rules_of setup

    i : ℕ
    i = a.protocol

    ok : IsRules (rules_of setup)
    ok = are.routes.rules_are

    turns : ℕ → List Turn
    turns = at_set a.protocol (turn_of a ∷ s.ops a.protocol) s.ops

    signal : Signal
    signal = (effect a.protocol a.op s).signal

    b : Behind s (changed a.protocol a.op s)
    b = behind_appended (rules_of setup) are.routes.rules_are ((rules_of setup).table a.protocol) (effect a.protocol a.op s).changes s

    d : Told (effect a.protocol a.op s).signal (noted a.protocol (turn_of a) s) t (λ j. among j ((rules_of setup).belong a.protocol))
    d = all_told (rules_of setup) are.routes.rules_are (effect a.protocol a.op s).signal ((rules_of setup).belong a.protocol) (noted a.protocol (turn_of a) s) t (are.routes.rules_are.once a.protocol) applies

    eops : t.ops ≡ at_set a.protocol (turn_of a ∷ s.ops a.protocol) s.ops
    eops = d.ops ∙ ap (λ (ops : ℕ → List Turn). at_set a.protocol (turn_of a ∷ ops a.protocol) ops) b.ops

    history : (n : ℕ) → (cs : List Change) × (t.history n ≡ cs ++ s.history n)
    history n = ((d.history n).0 ++ (b.history n).0, (d.history n).1 ∙ ap (λ h. (d.history n).0 ++ h) (b.history n).1 ∙ sym (append_assoc (d.history n).0 (b.history n).0 (s.history n)))

    log : (c : ℕ) → (xs : List LogItem) × ((t.channels c).log ≡ xs ++ (s.channels c).log)
    log c = ((d.logs c).0 ++ (b.logs c).0, (d.logs c).1 ∙ ap (λ h. (d.logs c).0 ++ h) (b.logs c).1 ∙ sym (append_assoc (d.logs c).0 (b.logs c).0 (s.channels c).log))

    operations : (j : ℕ) → ((a.protocol ≡ j) ⊎ (a.protocol ≡ j → ⊥)) → (more : List Turn) × (t.ops j ≡ more ++ past.ops j)
    operations j (inl same) = (
      turn_of a ∷ (are.operations a.protocol).0,
      ap (λ (ops : ℕ → List Turn). ops j) eops ∙ at_here a.protocol (turn_of a ∷ s.ops a.protocol) s.ops j same ∙ ap (λ l. turn_of a ∷ l) (are.operations a.protocol).1
          ∙ ap (λ n. turn_of a ∷ ((are.operations a.protocol).0 ++ past.ops n)) same,
    )
    operations j (inr apart) = ((are.operations j).0, ap (λ (ops : ℕ → List Turn). ops j) eops ∙ at_there a.protocol (turn_of a ∷ s.ops a.protocol) s.ops j apart ∙ (are.operations j).1)

    up : (c : ℕ) (told : Bool) → among c ((rules_of setup).belong a.protocol) ≡ told → ((a.protocol ≡ (rules_of setup).owner c) ⊎ (a.protocol ≡ (rules_of setup).owner c → ⊥))
        → is_open (t.channels c) ≡ is_up (rules_of setup) ((rules_of setup).owner c) (ops_of (t.ops ((rules_of setup).owner c)))
    up c true e case =
        let own : (rules_of setup).owner c ≡ a.protocol = are.routes.rules_are.belongs a.protocol c e in
        let was : is_open ((changed a.protocol a.op s).channels c) ≡ is_up (rules_of setup) a.protocol (ops_of (s.ops a.protocol)) = b.up c ∙ are.up c ∙ ap (λ n. is_up (rules_of setup) n (ops_of (s.ops n))) own in
        let behind : is_open (t.channels c) ≡ is_up (rules_of setup) a.protocol (ops_of (turn_of a ∷ s.ops a.protocol)) = d.here c e ∙ ap (signalled (effect a.protocol a.op s).signal) was in
        behind
        ∙ sym (ap (λ n. is_up (rules_of setup) n (ops_of (t.ops n))) own ∙ ap (λ (ops : ℕ → List Turn). is_up (rules_of setup) a.protocol (ops_of (ops a.protocol))) eops
        ∙ ap (λ l. is_up (rules_of setup) a.protocol (ops_of l)) (at_here a.protocol (turn_of a ∷ s.ops a.protocol) s.ops a.protocol refl))
    up c false e (inl same) =
        let none : among c ((rules_of setup).belong ((rules_of setup).owner c)) ≡ false = subst (λ n. among c ((rules_of setup).belong n) ≡ false) same e in
        d.there c e ∙ b.up c ∙ are.up c ∙ are.routes.rules_are.all c none (ops_of (s.ops ((rules_of setup).owner c))) ∙ sym (are.routes.rules_are.all c none (ops_of (t.ops ((rules_of setup).owner c))))
    up c false e (inr apart) =
        d.there c e ∙ b.up c ∙ are.up c
        ∙ sym (ap (λ (ops : ℕ → List Turn). is_up (rules_of setup) ((rules_of setup).owner c) (ops_of (ops ((rules_of setup).owner c)))) eops
        ∙ ap (λ l. is_up (rules_of setup) ((rules_of setup).owner c) (ops_of l)) (at_there a.protocol (turn_of a ∷ s.ops a.protocol) s.ops ((rules_of setup).owner c) apart))

  protocols_length : (s : State) (core : Core J) → IsCore verdict setup past s core → length setup.protocols ≡ length core.protocols.items
  protocols_length s core are = pairs_length (Plays s.ops) 0 setup.protocols core.protocols.items are.protocols

  -- who isn't there does nothing
  pub unacted : (s : State) (core : Core J) (a : Act) → IsCore verdict setup past s core → length core.protocols.items ≤ a.protocol
      → (t : State) × Applies (rules_of setup) a s t × IsCore verdict setup past t core
  unacted s core a are far = (
    t,
    applies,
    acted s t core a core.routes core.protocols are applies (are_same verdict setup s t core.routes (λ n. refl) (λ c. refl) are.routes)
        (weaker_here (Plays s.ops) (Plays (at_set a.protocol (turn_of a ∷ s.ops a.protocol) s.ops)) setup.protocols core.protocols.items
        (λ j p held _ eh is. subst (λ ops. PlaysAs verdict setup j p (past.ops j) ops held) (sym (at_there a.protocol (turn_of a ∷ s.ops a.protocol) s.ops j
        (λ same. let w = get_within core.protocols.items j held eh in omega (arith, w, far, same)))) is) are.protocols),
  ) where
    t : State
    t = with_turn a.protocol (turn_of a) s

    none : effect a.protocol a.op s ≡ record { changes = []; signal = Stay; over = false }
    none = ap (λ q. effect_at q (ops_of (s.ops a.protocol)) a.op) (beyond_none setup.protocols a.protocol (let n = protocols_length s core are in omega (arith, n, far)))

    applies : Applies (rules_of setup) a s (with_turn a.protocol (turn_of a) s)
    applies = subst (λ (e : Effect). AllObey e.signal (rules_of setup) ((rules_of setup).belong a.protocol) (with_turn a.protocol (turn_of a) (appended (rules_of setup) ((rules_of setup).table a.protocol) e.changes s)) (with_turn a.protocol (turn_of a) s)) (sym none)
        (all_stay (rules_of setup) ((rules_of setup).belong a.protocol) (with_turn a.protocol (turn_of a) s))

  -- ---- an operation, step by step

  pub record IsTurned (s : State) (i : ℕ) (op : Op) (held : Protocol J) (body : Body J) (turned : Turned) : Type 0 where
    pub p : SeenProtocol
    pub there : protocol_at setup i ≡ Some p
    pub plays : PlaysAs verdict setup i p (past.ops i) (s.ops i) held
    pub turns : Turns verdict (ops_of (s.ops i)) op p.body body turned

  module _ (s : State) (core : Core J) (are : IsCore verdict setup past s core) (i : ℕ) (op : Op) (held : Protocol J) (body : Body J) (turned : Turned) where
    pub turned_of : slice_get core.protocols.items i ≡ Some held
        → ((p : SeenBody) (earlier : List Op) → Does verdict p earlier held.body → Turns verdict earlier op p body turned)
        → IsTurned s i op held body turned
    turned_of eh turns = let one = one_here (Plays s.ops) setup.protocols core.protocols.items are.protocols i held eh in
        record { p = one.0; there = one.1; plays = one.2; turns = turns one.0.body (ops_of (s.ops i)) one.2.body }

    effect_is : (is : IsTurned s i op held body turned) → effect i op s ≡ effect_in is.p.body (ops_of (s.ops i)) op
    effect_is is = ap (λ q. effect_at q (ops_of (s.ops i)) op) is.there

    pub sources_are : IsTurned s i op held body turned → (changes : List Change) → changes ≡ turned.changes → All (λ (c : Change). IsSome c.new → c.num < length core.routes.sources.items) changes
    sources_are is changes e =
        let below : i < length core.routes.sources.items = let w = get_within setup.protocols i is.p is.there in let n = are.routes.sources.count in omega (arith, w, n) in
        let all = are_front i (effect i op s).changes _ (are.routes.rules_are.own i (op ∷ ops_of (s.ops i))) in
        let back : changes ≡ reverse (effect i op s).changes =
        sym (reverse-reverse changes) ∙ ap reverse (ap reverse e ∙ is.turns.1 ∙ sym (ap (λ (f : Effect). f.changes) (effect_is is))) in
        All-same (λ (c : Change). IsSome c.new → c.num < length core.routes.sources.items) changes (reverse (effect i op s).changes) back
        (sourced i (length core.routes.sources.items) below (effect i op s).changes all)

    -- what it was told fits its table
    pub fits_here : (is : IsTurned s i op held body turned) → FitsProtocol setup i op → FitsTable setup.tables is.p.body op
    fits_here is fits = subst (λ o. IfSome o (λ (p : SeenProtocol). FitsTable setup.tables p.body op)) is.there fits

    pub admitted_there : IsTurned s i op held body turned → FitsProtocol setup i op → (changes : List Change) → changes ≡ turned.changes → AreAdmitted body core.routes changes
    admitted_there is fits changes e =
        body_admitted verdict setup s core.routes are.routes i is.p.body (ops_of (s.ops i)) op body changes (protocol_is setup i is.p are.routes.setup_is is.there) is.turns.0
        (sym (reverse-reverse changes) ∙ ap reverse (ap reverse e ∙ is.turns.1)) (fits_here is fits, is.plays.fits)

    pub imports_there : IsTurned s i op held body turned → ImportsTo (length core.routes.tables.items) body
    imports_there is =
        imports_to verdict setup i is.p.body (op ∷ ops_of (s.ops i)) body (length core.routes.tables.items) (tables_length verdict setup s core.routes are.routes)
        (protocol_is setup i is.p are.routes.setup_is is.there) is.turns.0

    pub changed_is : (is : IsTurned s i op held body turned) (changes : List Change) (routes : Routes J) (turn : Turn) → turn.op ≡ op → changes ≡ turned.changes
        → AreRoutes verdict setup (appended (rules_of setup) (table_of body) (made_by body (reverse changes)) s) routes → AreRoutes verdict setup (with_turn i turn (changed i op s)) routes
    changed_is is changes routes turn eo e now =
        let made = made_is verdict setup is.p.body (ops_of (s.ops i)) op body (reverse changes) (length setup.tables) s is.turns.0 (ap reverse e ∙ is.turns.1) in
        let whole : appended (rules_of setup) (table_of body) (made_by body (reverse changes)) s ≡ changed i op s =
        made ∙ ap (λ q. appended (rules_of setup) (table_at (length setup.tables) q) (effect_at q (ops_of (s.ops i)) op).changes s) (sym is.there) in
        are_same verdict setup (changed i op s) (with_turn i turn (changed i op s)) routes (λ n. refl) (λ c. refl)
        (subst (λ u. AreRoutes verdict setup u routes) whole now)

    pub signal_fits : (is : IsTurned s i op held body turned) (turn : Turn) → AllFit (signal_of turned.mark) held.from held.upto (with_turn i turn (changed i op s))
    signal_fits is turn = λ c low high.
        let ordered = is.plays.ordered in
        let listed : among c ((rules_of setup).belong i) ≡ true = ap (among c) is.plays.belong ∙ counted_among held.from (held.upto - held.from) c low (omega (arith, high, ordered)) in
        let own : (rules_of setup).owner c ≡ i = are.routes.rules_are.belongs i c listed in
        let b = behind_appended (rules_of setup) are.routes.rules_are ((rules_of setup).table i) (effect i op s).changes s in
        let up : is_open ((changed i op s).channels c) ≡ is_up (rules_of setup) i (ops_of (s.ops i)) = b.up c ∙ are.up c ∙ ap (λ n. is_up (rules_of setup) n (ops_of (s.ops n))) own in
        subst (λ q. Fits (signal_of turned.mark) q) (sym up)
        (subst (λ m. Fits m (is_up (rules_of setup) i (ops_of (s.ops i)))) (sym (is.turns.2 ∙ sym (ap (λ (f : Effect). f.signal) (effect_is is)))) (are.routes.rules_are.fits i (ops_of (s.ops i)) op))

    pub applied : (is : IsTurned s i op held body turned) (a : Act) (t : State) → a.protocol ≡ i → a.op ≡ op
        → AllObey (signal_of turned.mark) (rules_of setup) (counted held.from (held.upto - held.from)) (with_turn i (turn_of a) (changed i op s)) t → Applies (rules_of setup) a s t
    applied is a t ei eo all =
        let signal : signal_of turned.mark ≡ (effect i op s).signal = is.turns.2 ∙ sym (ap (λ (f : Effect). f.signal) (effect_is is)) in
        let here : AllObey (effect i op s).signal (rules_of setup) ((rules_of setup).belong i) (with_turn i (turn_of a) (changed i op s)) t =
        subst (λ m. AllObey m (rules_of setup) ((rules_of setup).belong i) (with_turn i (turn_of a) (changed i op s)) t) signal
        (subst (λ cs. AllObey (signal_of turned.mark) (rules_of setup) cs (with_turn i (turn_of a) (changed i op s)) t) (sym is.plays.belong) all) in
        subst (λ n. AllObey (effect n a.op s).signal (rules_of setup) ((rules_of setup).belong n) (with_turn n (turn_of a) (changed n a.op s)) t) (sym ei)
        (subst (λ o. AllObey (effect i o s).signal (rules_of setup) ((rules_of setup).belong i) (with_turn i (turn_of a) (changed i o s)) t) (sym eo) here)

    pub operation_done : (is : IsTurned s i op held body turned) (a : Act) (t : State) (routes : Routes J) (protocols : Vec (Protocol J) Global) (mid after : Protocol J)
        → a.protocol ≡ i → a.op ≡ op → slice_get core.protocols.items i ≡ Some held
        → AllObey (signal_of turned.mark) (rules_of setup) (counted held.from (held.upto - held.from)) (with_turn i (turn_of a) (changed i op s)) t
        → AreRoutes verdict setup t routes → protocols.items ≡ set (set core.protocols.items i mid) i after → after.body ≡ body
        → after.from ≡ held.from → after.upto ≡ held.upto → after.done.items ≡ held.done.items ++ record { op = op; over = turned.over } ∷ [] → FitsProtocol setup i op
        → (t : State) × Applies (rules_of setup) a s t × IsCore verdict setup past t (record core { routes = routes; protocols = protocols })
    operation_done is a t routes protocols mid after ei eo eh all now items body_is low high kept fits = (
      t,
      applied is a t ei eo all,
      acted s t core a routes protocols are (applied is a t ei eo all) now
          (subst (λ (l : List (Protocol J)). Pairs (Plays (at_set a.protocol (turn_of a ∷ s.ops a.protocol) s.ops)) 0 setup.protocols l) (sym (items ∙ set_twice core.protocols.items i mid after))
          (set_here (Plays s.ops) (Plays (at_set a.protocol (turn_of a ∷ s.ops a.protocol) s.ops)) setup.protocols core.protocols.items i after
          (λ j q x apart _ _ old. subst (λ ops. PlaysAs verdict setup j q (past.ops j) ops x) (sym (at_there a.protocol (turn_of a ∷ s.ops a.protocol) s.ops j (λ same. apart (sym same ∙ ei)))) old)
          (λ q x eq ex old. subst (λ ops. PlaysAs verdict setup i q (past.ops i) ops after) (sym (at_here a.protocol (turn_of a ∷ s.ops a.protocol) s.ops i ei ∙ ap (λ n. turn_of a ∷ s.ops n) ei))
          (subst (λ (z : SeenProtocol). PlaysAs verdict setup i z (past.ops i) (turn_of a ∷ s.ops i) after) (get_one setup.protocols i is.p q is.there eq) more))
          are.protocols)),
    ) where
      more : PlaysAs verdict setup i is.p (past.ops i) (turn_of a ∷ s.ops i) after
      more = plays_more verdict setup i is.p (past.ops i) (s.ops i) held after (turn_of a) turned.over is.there is.plays
          (subst (λ o. Does verdict is.p.body (o ∷ ops_of (s.ops i)) after.body) (sym eo) (subst (λ x. Does verdict is.p.body (op ∷ ops_of (s.ops i)) x) (sym body_is) is.turns.0))
          (subst (λ o. turned.over ≡ (effect_in is.p.body (ops_of (s.ops i)) o).over) (sym eo) is.turns.3) low high
          (kept ∙ ap (λ o. held.done.items ++ record { op = o; over = turned.over } ∷ []) (sym eo))
          (subst (FitsTable setup.tables is.p.body) (sym eo) (fits_here is fits))
