-- The core behind a channel's steps by hand, and behind the rounds of a sync.
use Rattle.std.proofs.Common.{◌≡◌, ℕ, zero, suc, ◌-◌, ◌≤◌, inl, inr, ◌⊎◌, Bool, true, false, List, [], ◌∷◌, ◌++◌, Option, Some, None, length, refl, sym, ap, subst, ◌∙◌, arith, append_assoc, reverse, is_some}
use Rattle.std.specs.Prelude.{if◌then◌else◌}
use Rattle.std.proofs.lemmas.List.{length-append}
use Rattle.bits_ip.specs.Prefix.{Net}
use Rattle.attrs.specs.declared.attributes.Attrs.{Attrs}
use Rattle.attrs.specs.declared.judge.Verdict.{Verdict}
use Rattle.attrs.specs.declared.route.Change.{Change}
use Rattle.attrs.specs.declared.route.Route.{Route}
use Rattle.export_core.specs.Logs.{stretch}
use Rattle.export_core.specs.declared.log.LogItem.{LogItem}
use Rattle.export_core.specs.declared.log.LogItem.TheVariants.{Sent}
use Rattle.core_machine.specs.Channels as machine
use Rattle.core_machine.specs.Channels.{answer, is_open, logged, push_one, pushed, take_one, times, value_at}
use Rattle.core_machine.specs.Histories.{content_of, front}
use Rattle.core_machine.specs.Legal.{Joined}
use Rattle.core_machine.specs.Lines.{Reply, Turn, ops_of}
use Rattle.core_machine.specs.Machine.{State, arrived, gained, if_open, push_at, takes, with_channel}
use Rattle.core_machine.specs.Marks.{Marked}
use Rattle.core_machine.specs.Replies.{replies_to}
use Rattle.core_machine.specs.Rounds.{pushed_out, round, taken_up, turned, turns_to}
use Rattle.core_machine.specs.Rules.{IsRules, Rules, is_up}
use Rattle.core_machine.proofs.Growing.{more_arrived, set_here as at_here, set_there as at_there, some_list}
use Rattle.core_machine.proofs.OneChannel.{take_log, times_keeps}
use Rattle.core_machine.proofs.Contents.{if_false}
use Rattle.core_machine.proofs.Replying.{front_on}
use Rattle.core_machine.proofs.WholeState.{push_open}
use Rattle.core_setup.specs.Pairs.{Pairs}
use Rattle.core_setup.specs.Protocols.{rules_of}
use Rattle.core_setup.specs.Queries.{choice_of, sends_of}
use Rattle.core_setup.specs.Reports.{protocol_names, table_name}
use Rattle.core_setup.specs.Setup.{Setup}
use Rattle.core_setup.proofs.PairLemmas.{cases_same, weaker_here}
use Rattle.show_route.specs.Shown.{IsReply}
use Rattle.run_tables.specs.Routes.{AreRoutes}
use Rattle.run_tables.proofs.Routing.{channels_length}
use Rattle.run_tables.specs.declared.routes.Routes.{Routes}
use Rattle.sys_run.specs.Cores.{IsAnswered, IsCore, PlaysAs}
use Rattle.sys_run.specs.declared.player.Answered.{Answered}
use Rattle.sys_run.specs.declared.player.Core.{Core}

-- what channels' steps leave
pub record Behind (s t : State) : Type 0 where
  pub history : (n : ℕ) → (cs : List Change) × (t.history n ≡ cs ++ s.history n)
  pub ops : t.ops ≡ s.ops
  pub replies : t.replies ≡ s.replies
  pub logs : (c : ℕ) → (xs : List LogItem) × ((t.channels c).log ≡ xs ++ (s.channels c).log)
  pub up : (c : ℕ) → is_open (t.channels c) ≡ is_open (s.channels c)

pub behind_same : (s : State) → Behind s s
behind_same s = record { history = λ n. ([], refl); ops = refl; replies = refl; logs = λ c. ([], refl); up = λ c. refl }

pub behind_then : (s t u : State) → Behind s t → Behind t u → Behind s u
behind_then s t u a b = record {
  history = λ n. ((b.history n).0 ++ (a.history n).0, (b.history n).1 ∙ ap (λ h. (b.history n).0 ++ h) (a.history n).1 ∙ sym (append_assoc (b.history n).0 (a.history n).0 (s.history n)));
  ops = b.ops ∙ a.ops;
  replies = b.replies ∙ a.replies;
  logs = λ c. ((b.logs c).0 ++ (a.logs c).0, (b.logs c).1 ∙ ap (λ h. (b.logs c).0 ++ h) (a.logs c).1 ∙ sym (append_assoc (b.logs c).0 (a.logs c).0 (s.channels c).log));
  up = λ c. b.up c ∙ a.up c;
}

pub behind_times : (f : State → State) → ((s : State) → Behind s (f s)) → (n : ℕ) (s : State) → Behind s (times n f s)
behind_times f step zero s = behind_same s
behind_times f step (suc n) s = behind_then s (times n f s) (f (times n f s)) (behind_times f step n s) (step (times n f s))

-- a step of an open channel alone
pub behind_if : (c : ℕ) (f : State → State) (s : State) → Behind s (f s) → Behind s (if_open c f s)
behind_if c f s step = on (is_open (s.channels c)) where
  on : (b : Bool) → Behind s (if b then f s else s)
  on true = step
  on false = behind_same s

module _ (rules : Rules) (c : ℕ) where
  takes_log : (h : List Change) (n : ℕ) (ch : machine.Channel) → (times n (take_one rules c h) ch).log ≡ ch.log
  takes_log h n ch = times_keeps (λ (x : machine.Channel). x.log ≡ ch.log) (take_one rules c h) (λ x e. take_log rules c h x ∙ e) n ch refl

  -- a channel with a log that goes on
  with_logs : (ch : machine.Channel) (s : State) (xs : List LogItem) → ch.log ≡ xs ++ (s.channels c).log → (j : ℕ) → ((c ≡ j) ⊎ (c ≡ j → ⊥)) → (ys : List LogItem) × (((with_channel c ch s).channels j).log ≡ ys ++ (s.channels j).log)
  with_logs ch s xs e j (inl same) = (xs, ap (λ (x : machine.Channel). x.log) (at_here c ch s.channels j same) ∙ e ∙ ap (λ n. xs ++ (s.channels n).log) same)
  with_logs ch s xs e j (inr apart) = ([], ap (λ (x : machine.Channel). x.log) (at_there c ch s.channels j apart))

  with_up : (ch : machine.Channel) (s : State) → is_open ch ≡ is_open (s.channels c) → (j : ℕ) → ((c ≡ j) ⊎ (c ≡ j → ⊥)) → is_open ((with_channel c ch s).channels j) ≡ is_open (s.channels j)
  with_up ch s e j (inl same) = ap is_open (at_here c ch s.channels j same) ∙ e ∙ ap (λ n. is_open (s.channels n)) same
  with_up ch s e j (inr apart) = ap is_open (at_there c ch s.channels j apart)

  behind_with : (ch : machine.Channel) (s : State) (xs : List LogItem) → ch.log ≡ xs ++ (s.channels c).log → is_open ch ≡ is_open (s.channels c) → Behind s (with_channel c ch s)
  behind_with ch s xs e up = record {
    history = λ n. ([], refl);
    ops = refl;
    replies = refl;
    logs = λ j. with_logs ch s xs e j (cases_same c j);
    up = λ j. with_up ch s up j (cases_same c j);
  }

  pub behind_takes : (n : ℕ) (s : State) → Behind s (takes rules c n s)
  behind_takes n s =
      let h = s.history (rules.reads c) in
      let e = takes_log h n (s.channels c) in
      behind_with (times n (take_one rules c h) (s.channels c)) s [] e (ap (λ l. is_some (stretch l)) e)

  -- ---- pushes

  logged_more : (o : Option Bool) (m : Marked) (v : Option Attrs) (log : List LogItem) → (xs : List LogItem) × (logged o m v log ≡ xs ++ log)
  logged_more None m v log = ([], refl)
  logged_more (Some again) m v log = (Sent (record { at = m.at; key = m.key; value = v; again = again }) ∷ [], refl)

  pushed_more : (h : List Change) (ms : List Marked) (ch : machine.Channel) → (xs : List LogItem) × ((pushed rules c h ms ch).log ≡ xs ++ ch.log)
  pushed_more h [] ch = ([], refl)
  pushed_more h (m ∷ ms) ch = logged_more (answer rules c h m ch) m (value_at rules c h m) ch.log

  behind_arrived : (ok : IsRules rules) (o : Option ℕ) (x : Option Change) (s : State) → Behind s (arrived rules o x s)
  behind_arrived ok None x s = behind_same s
  behind_arrived ok (Some t) x s = let m = more_arrived rules ok t x s in record {
    history = λ n. on n (cases_same t n);
    ops = m.ops;
    replies = m.replies;
    logs = λ c. ([], m.logs c);
    up = λ c. ap (λ l. is_some (stretch l)) (m.logs c);
  } where
    on : (n : ℕ) → ((t ≡ n) ⊎ (t ≡ n → ⊥)) → (cs : List Change) × ((arrived rules (Some t) x s).history n ≡ cs ++ s.history n)
    on n (inl same) = (some_list x, subst (λ n. (arrived rules (Some t) x s).history n ≡ some_list x ++ s.history n) same (more_arrived rules ok t x s).here)
    on n (inr apart) = ([], (more_arrived rules ok t x s).there n apart)

  pub behind_push : (ok : IsRules rules) (s : State) → Behind s (push_at rules c s)
  behind_push ok s =
      let h = s.history (rules.reads c) in
      let ch = s.channels c in
      let u = arrived rules (rules.target c) (gained rules c h ch.marks ch) s in
      let a = behind_arrived ok (rules.target c) (gained rules c h ch.marks ch) s in
      let new = push_one rules c h ch in record {
        history = a.history;
        ops = a.ops;
        replies = a.replies;
        logs = λ j. logs j (cases_same c j) a;
        up = λ j. ups j (cases_same c j) a;
      } where
        logs : (j : ℕ) → ((c ≡ j) ⊎ (c ≡ j → ⊥)) → Behind s (arrived rules (rules.target c) (gained rules c (s.history (rules.reads c)) (s.channels c).marks (s.channels c)) s) → (xs : List LogItem) × (((push_at rules c s).channels j).log ≡ xs ++ (s.channels j).log)
        logs j (inl same) a =
            let more = pushed_more (s.history (rules.reads c)) (s.channels c).marks (s.channels c) in (
              more.0,
              ap (λ (x : machine.Channel). x.log) (at_here c (push_one rules c (s.history (rules.reads c)) (s.channels c)) (arrived rules (rules.target c) (gained rules c (s.history (rules.reads c)) (s.channels c).marks (s.channels c)) s).channels j same)
                  ∙ more.1 ∙ ap (λ n. more.0 ++ (s.channels n).log) same,
            )
        logs j (inr apart) a =
            ((a.logs j).0, ap (λ (x : machine.Channel). x.log) (at_there c (push_one rules c (s.history (rules.reads c)) (s.channels c)) (arrived rules (rules.target c) (gained rules c (s.history (rules.reads c)) (s.channels c).marks (s.channels c)) s).channels j apart) ∙ (a.logs j).1)

        ups : (j : ℕ) → ((c ≡ j) ⊎ (c ≡ j → ⊥)) → Behind s (arrived rules (rules.target c) (gained rules c (s.history (rules.reads c)) (s.channels c).marks (s.channels c)) s) → is_open ((push_at rules c s).channels j) ≡ is_open (s.channels j)
        ups j (inl same) a = subst (λ n. is_open ((push_at rules c s).channels n) ≡ is_open (s.channels n)) same (push_open rules ok c s)
        ups j (inr apart) a = ap is_open (at_there c (push_one rules c (s.history (rules.reads c)) (s.channels c)) (arrived rules (rules.target c) (gained rules c (s.history (rules.reads c)) (s.channels c).marks (s.channels c)) s).channels j apart) ∙ a.up j

-- ---- rounds

module _ (rules : Rules) (ok : IsRules rules) where
  behind_turn : (c : ℕ) (s : State) → Behind s (turned rules c s)
  behind_turn c s =
      behind_if c (λ u. pushed_out rules c (taken_up rules c u)) s
      (behind_then s (taken_up rules c s) (pushed_out rules c (taken_up rules c s)) (behind_takes rules c (length (s.history (rules.reads c)) - (s.channels c).position) s)
      (behind_times (push_at rules c) (behind_push rules c ok) (length ((taken_up rules c s).channels c).marks) (taken_up rules c s)))

  behind_turns : (n : ℕ) (s : State) → Behind s (turns_to rules n s)
  behind_turns zero s = behind_same s
  behind_turns (suc c) s = behind_then s (turns_to rules c s) (turned rules c (turns_to rules c s)) (behind_turns c s) (behind_turn c (turns_to rules c s))

  pub behind_rounds : (n : ℕ) (s : State) → Behind s (times n (round rules) s)
  behind_rounds n s = behind_times (round rules) (λ s. behind_turns rules.channels s) n s

-- ---- the core

pub answered_on : (setup : Setup) (s t : State) (held : Answered) (reply : Reply) → ((n : ℕ) → (cs : List Change) × (t.history n ≡ cs ++ s.history n)) → IsAnswered setup s held reply → IsAnswered setup t held reply
answered_on setup s t held reply grown is = record {
  query = is.query;
  query_is = is.query_is;
  table_is = is.table_is;
  table = is.table;
  at = is.at;
  within = let w = is.within in omega (arith, w, ap length e, length-append cs (s.history n));
  text = subst (λ h. IsReply (protocol_names setup) (table_name setup n) is.query (choice_of setup is.query) (sends_of setup is.query) (content_of h) held.text.items)
      (sym (ap (front reply.at) e ∙ front_on reply.at cs (s.history n) is.within)) is.text;
} where
  n : ℕ
  n = is.query.table

  cs : List Change
  cs = (grown n).0

  e : t.history n ≡ cs ++ s.history n
  e = (grown n).1

module _ {J : Type 0} (verdict : J → Net → Route → Verdict) (setup : Setup) (past : Joined) where
  pub core_behind : (s t : State) (core : Core J) (routes : Routes J) → IsCore verdict setup past s core → AreRoutes verdict setup t routes → Behind s t → IsCore verdict setup past t (record core { routes = routes })
  core_behind s t core routes are now b = record {
    routes = now;
    protocols = subst (λ (ops : ℕ → List Turn). Pairs (λ i p held. PlaysAs verdict setup i p (past.ops i) (ops i) held) 0 setup.protocols core.protocols.items) (sym b.ops) are.protocols;
    up = λ c. b.up c ∙ are.up c ∙ ap (λ (ops : ℕ → List Turn). is_up (rules_of setup) ((rules_of setup).owner c) (ops_of (ops ((rules_of setup).owner c)))) (sym b.ops);
    histories = λ n. ((b.history n).0 ++ (are.histories n).0, (b.history n).1 ∙ ap (λ h. (b.history n).0 ++ h) (are.histories n).1 ∙ sym (append_assoc (b.history n).0 (are.histories n).0 (past.history n)));
    operations = λ i. ((are.operations i).0, ap (λ (ops : ℕ → List Turn). ops i) b.ops ∙ (are.operations i).1);
    logs = λ c. ((b.logs c).0 ++ (are.logs c).0, (b.logs c).1 ∙ ap (λ h. (b.logs c).0 ++ h) (are.logs c).1 ∙ sym (append_assoc (b.logs c).0 (are.logs c).0 (past.logs c)));
    replies = λ actor held e. subst (λ (rs : List Reply). Pairs (λ n answered reply. IsAnswered setup t answered reply) 0 held.items (reverse (replies_to actor rs))) (sym b.replies)
        (weaker_here (λ n answered reply. IsAnswered setup s answered reply) (λ n answered reply. IsAnswered setup t answered reply) held.items (reverse (replies_to actor s.replies))
        (λ n answered reply _ _ is. answered_on setup s t answered reply b.history is) (are.replies actor held e));
    channels = are.channels;
    tables = are.tables;
    names = are.names;
    choices = are.choices;
    queries = are.queries;
  }

  -- a channel that isn't there does nothing
  pub none_there : (s : State) (core : Core J) (c : ℕ) (f : State → State) → IsCore verdict setup past s core → length core.routes.channels.items ≤ c → if_open c f s ≡ s
  none_there s core c f are le =
      if_false (is_open (s.channels c)) (f s) s (are.routes.beyond c (let n = channels_length verdict setup s core.routes are.routes in omega (arith, le, n)))
