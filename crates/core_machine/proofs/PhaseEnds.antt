-- Phases: what an actor is told, the sync, and that what is printed is legal.
use Rattle.std.proofs.Common.{◌≡◌, ℕ, ◌≤◌, inl, inr, Bool, true, false, List, [], ◌∷◌, ◌++◌, Option, Some, None, refl, sym, ◌∙◌, ap, subst, arith, length, is_some, option_map}
use Rattle.std.specs.Prelude.{◌==◌, if◌then◌else◌}
use Rattle.std.proofs.Math.Nat.{le_refl}
use Rattle.std.proofs.Math.Path.{fun_ext}
use Rattle.std.proofs.lemmas.List.{append_cancel_right, append_assoc, length-append}
use Rattle.std.proofs.lemmas.Bool.Decides.{eqb_tells}
use Rattle.bits_ip.specs.Prefix.{Net}
use Rattle.attrs.specs.declared.route.Change.{Change}
use Rattle.attrs.specs.declared.route.Route.{Route}
use Rattle.attrs.specs.History.{Content, empty}
use Rattle.attrs.specs.Selection.{IsBest}
use Rattle.attrs.proofs.Rows.{Contains-nothing}
use Rattle.import_core.specs.declared.operation.Op.{Op}
use Rattle.export_core.specs.declared.log.Key.{Key}
use Rattle.export_core.specs.declared.log.LogItem.TheVariants.{Up}
use Rattle.export_core.specs.Lanes.{IsLane}
use Rattle.export_core.specs.Logs.{stretch, account, value_of, Follows, Settled}
use Rattle.export_core.specs.Passing.{passed}
use Rattle.core_machine.specs.Channels.{is_open, new_channel, opened, times}
use Rattle.core_machine.specs.Enters.{enters}
use Rattle.core_machine.specs.Histories.{AreReal, content_of, of_those, own}
use Rattle.core_machine.specs.Legal.{AreLegal, IsLegal, Joined, Printed, join, nothing, started}
use Rattle.core_machine.specs.Lines.{Act, Ask, Line, Apply, Take, Push, Show, Reply, Turn, ops_of, turn_of}
use Rattle.core_machine.specs.Machine.{Applies, Begins, Plays, State, Steps, if_open, push_at, start, takes}
use Rattle.core_machine.specs.Merges.{asked}
use Rattle.core_machine.specs.Phases.{Comes, IsPhase, PlaysAll, Prints}
use Rattle.core_machine.specs.Pipes.{candidate, candidate_in, course_of, ends_with, is_pipe, passes}
use Rattle.core_machine.specs.Replies.{Answers, Question, needed, questions, replies_to}
use Rattle.core_machine.specs.Rounds.{AreSettled, round}
use Rattle.core_machine.specs.Rules.{IsRules, Rules, Rise, changes, is_up}
use Rattle.core_machine.specs.Signals.{AreSignals, IsPlace, Notice, notices, without_sends}
use Rattle.core_machine.specs.SyncState.{IsSyncState, along, along_way, content}
use Rattle.core_machine.proofs.Contents.{content_own, content_those, eqb_yes, front_all, if_true, if_false, none_some, some_same}
use Rattle.core_machine.proofs.ChannelSteps.{lane}
use Rattle.core_machine.proofs.Entering.{closed_blank, stands_entered}
use Rattle.core_machine.proofs.FeedSteps.{settles}
use Rattle.core_machine.proofs.Growing.{IsOn, set_here, set_there}
use Rattle.core_machine.proofs.OneChannel.{IsKept, pipe_candidate, plain_candidate, some_key}
use Rattle.core_machine.proofs.Replying.{turns_of, picked_asked, AllWithin, all_within, needed_more, needed_le, answers_on, latest_le}
use Rattle.core_machine.proofs.Tables.{passes_is}
use Rattle.core_machine.proofs.WholeState.{IsState, act_step, begins_keeps, given, logs_of, owned, plays_keeps, push_line, rounds_keep, rounds_step, take_line}

abbrev opening : Notice
opening = record { signal = Rise; ops = [] }

best_none : (o : Option Route) → IsBest [] o → o ≡ None
best_none None is = refl
best_none (Some r) is = absurd (Contains-nothing r is.0)

pub ops_append : (a b : List Turn) → ops_of (a ++ b) ≡ ops_of a ++ ops_of b
ops_append [] b = refl
ops_append (t ∷ a) b = ap (λ l. t.op ∷ l) (ops_append a b)

module _ (g : Rules) (ok : IsRules g) where
  place_first : (c : ℕ) (t : Option ℕ) → IsPlace g [] c 0 [] t
  place_first c None = refl
  place_first c (Some t) = λ e. refl

  -- no route is the best of none
  pub none_chosen : g.choose (λ num. None) ≡ None
  none_chosen = best_none (g.choose (λ num. None)) (ok.best empty some_key.net [] (λ num w. refl) (record { sources = tt; are = λ num. refl }))

  same_none : (b : Bool) → let n : Option Route = None in (if b then n else n) ≡ n
  same_none true = refl
  same_none false = refl

  pub no_route : (c : ℕ) (k : Key) → candidate g c k [] ≡ None
  no_route c k = elim (is_pipe g c) as (λ b. is_pipe g c ≡ b → candidate g c k [] ≡ None) [
    | true ↦ λ e. pipe_candidate g c k (content_of []) e ∙ same_none (passes g c k.num)
    | false ↦ λ e. plain_candidate g c k (content_of []) e ∙ elim (k.num == 0) as (λ b. (if b then g.choose (λ num. None) else None) ≡ None) [ true ↦ none_chosen | false ↦ refl ]
  ] refl

  pub start_is : IsState g ok (start g)
  start_is = record {
    exact = record { real = λ t. tt; exact = λ i. refl; entered = λ d t e. sym (no_enters (g.first (g.owner d))); no_others = λ t i e. refl };
    keeps = λ c. keeps c (g.first (g.owner c)) refl;
  } where
    no_enters : (b : Bool) → enters g (if b then opened 0 new_channel else new_channel).log ≡ []
    no_enters true = refl
    no_enters false = refl

    lanes : (c : ℕ) (h : ℕ) (k : Key) → 0 ≡ h → IsLane (g.value c) (course_of g c []) k h 0 (lane (course_of g c []) false false (opened 0 new_channel) k)
    lanes c h k z = record {
      begun = omega arith;
      within = le_refl 0;
      after = λ x e. absurd (none_some e);
      mark = λ m e. absurd (none_some e);
      still = λ a b. sym (ap (passed (g.value c) k) (no_route c k));
      count = le_refl 0;
      fresh = λ a b some. absurd (let bad : false ≡ true = some in cc);
    }

    keeps : (c : ℕ) (b : Bool) → g.first (g.owner c) ≡ b → IsKept g ok [] c [] (if b then opened 0 new_channel else new_channel)
    keeps c true e = record {
      channel = record { follows = (tt, (refl, le_refl 0, le_refl 0)); lanes = λ h o k. lanes c h k (some_same o); once = tt };
      up = sym e;
      marks = subst (AreSignals g [] c (Up 0 ∷ [])) (sym (ap (λ (b : Bool). if b then opening ∷ [] else []) e)) ((refl, place_first c (g.target c)), tt);
    }
    keeps c false e = record {
      channel = record { follows = tt; lanes = λ h o k. absurd (none_some o); once = tt };
      up = sym e;
      marks = subst (AreSignals g [] c []) (sym (ap (λ (b : Bool). if b then opening ∷ [] else []) e)) tt;
    }

  pub quiet_start : (s : State) → IsState g ok s → IsState g ok (record s { replies = [] })
  quiet_start s is = record { exact = is.exact; keeps = is.keeps }

  -- the state before the sync
  pub before_sync : (starts : List Act) (lines : List Line) (s t : State) (p : IsPhase g starts lines s t) → IsState g ok s → IsState g ok p.played
  before_sync starts lines s t p is = plays_keeps g ok lines p.begun p.played p.plays (begins_keeps g ok starts (record s { replies = [] }) p.begun p.begins (quiet_start s is))

  pub phase_keeps : (starts : List Act) (lines : List Line) (s t : State) → IsPhase g starts lines s t → IsState g ok s → IsState g ok t
  phase_keeps starts lines s t p is = subst (IsState g ok) (sym p.end) (rounds_keep g ok p.rounds p.played (before_sync starts lines s t p is))

  pub phase_settled : (starts : List Act) (lines : List Line) (s t : State) → IsPhase g starts lines s t → AreSettled g t
  phase_settled starts lines s t p = subst (AreSettled g) (sym p.end) p.sync.end

  abbrev pub Grown : Joined → State → Type 0
  Grown past s = (t : ℕ) → (cs : List Change) × (s.history t ≡ cs ++ past.history t)

  abbrev pub Grew : State → State → Type 0
  Grew s u = (n : ℕ) → (ds : List Change) × (u.history n ≡ ds ++ s.history n)

  grown_on : (past : Joined) (s u : State) → Grew s u → Grown past s → Grown past u
  grown_on past s u more k t = let a = more t in let b = k t in (a.0 ++ b.0, a.1 ∙ ap (λ h. a.0 ++ h) b.1 ∙ sym (append_assoc a.0 b.0 (past.history t)))

  -- what the operations before the lines have done
  record IsBegun (past : Joined) (starts : List Act) (s : State) : Type 0 where
    grown : Grown past s
    ops : (i : ℕ) → s.ops i ≡ started starts i ++ past.ops i
    replies : s.replies ≡ []

  begun_act : (past : Joined) (starts : List Act) (x : Act) (s t : State) → Applies g x s t → IsState g ok s → IsBegun past starts s → IsBegun past (x ∷ starts) t
  begun_act past starts x s t p is k =
      let i = x.protocol in
      let turn = turn_of x in
      let a = act_step g ok x s t p is in
      record {
        grown = grown_on past s t a.grew k.grown;
        ops = λ j. ap (λ o. o j) a.ops ∙ elim (eqb_tells i j) [
          | inl w ↦ set_here i (turn ∷ s.ops i) s.ops j w.1 ∙ ap (λ o. turn ∷ o) (ap s.ops w.1 ∙ k.ops j) ∙ ap (λ ops. ops ++ past.ops j) (sym (if_true (i == j) (turn ∷ started starts j) (started starts j) w.0))
          | inr w ↦ set_there i (turn ∷ s.ops i) s.ops j w.1 ∙ k.ops j ∙ ap (λ ops. ops ++ past.ops j) (sym (if_false (i == j) (turn ∷ started starts j) (started starts j) w.0))
        ];
        replies = a.replies ∙ k.replies;
      }

  begun : (past : Joined) (starts : List Act) (s t : State) → Begins g starts s t → IsState g ok s → IsBegun past [] s → IsBegun past starts t
  begun past [] s t p is k = subst (IsBegun past []) (sym p) k
  begun past (x ∷ earlier) s t p is k = begun_act past earlier x p.0 t p.2 (begins_keeps g ok earlier s p.0 p.1 is) (begun past earlier s p.0 p.1 is k)

  -- what the lines of the phase have told
  pub record IsTold (past : Joined) (base : ℕ → List Turn) (lines : List Line) (s : State) : Type 0 where
    pub grown : Grown past s
    pub ops : (i : ℕ) → s.ops i ≡ turns_of i lines ++ base i
    pub answers : (a : ℕ) → Answers g (λ t. length (past.history t)) (λ i. ops_of (base i)) s.history (λ i. turns_of i lines) a (questions a lines) (replies_to a s.replies)

  told_apply : (past : Joined) (base : ℕ → List Turn) (lines : List Line) (x : Act) (s t : State) → Applies g x s t → IsState g ok s → IsTold past base lines s → IsTold past base (Apply x ∷ lines) t
  told_apply past base lines x s t p is k =
      let i = x.protocol in
      let m = act_step g ok x s t p is in
      let turn = turn_of x in
      record {
        grown = grown_on past s t m.grew k.grown;
        ops = λ j. ap (λ o. o j) m.ops ∙ elim (eqb_tells i j) [
          | inl w ↦ set_here i (turn ∷ s.ops i) s.ops j w.1 ∙ ap (λ o. turn ∷ o) (ap s.ops w.1 ∙ k.ops j) ∙ ap (λ ts. ts ++ base j) (sym (if_true (i == j) (turn ∷ turns_of j lines) (turns_of j lines) w.0))
          | inr w ↦ set_there i (turn ∷ s.ops i) s.ops j w.1 ∙ k.ops j ∙ ap (λ ts. ts ++ base j) (sym (if_false (i == j) (turn ∷ turns_of j lines) (turns_of j lines) w.0))
        ];
        answers = λ a.
            subst (λ rs. Answers g (λ t. length (past.history t)) (λ i. ops_of (base i)) t.history (λ j. turns_of j (Apply x ∷ lines)) a (questions a lines) (replies_to a rs)) (sym m.replies)
            (answers_on g (λ t. length (past.history t)) (λ i. ops_of (base i)) s.history t.history (λ j. turns_of j lines) (λ j. turns_of j (Apply x ∷ lines)) a (questions a lines) (replies_to a s.replies) m.grew
            (λ j n w. elim (i == j) as (λ b. needed g j (ops_of (base j)) a n (if b then turn ∷ turns_of j lines else turns_of j lines) ≡ needed g j (ops_of (base j)) a n (turns_of j lines)) [
              | true ↦ needed_more g j (ops_of (base j)) a n turn (turns_of j lines) w
              | false ↦ refl
            ])
            (λ j. subst (λ n. AllWithin a j n (questions a lines)) (ap length (sym (picked_asked a j lines))) (all_within a j lines))
            (k.answers a));
      }

  told_show : (past : Joined) (base : ℕ → List Turn) (lines : List Line) (q : Ask) (s t : State) → Steps g (Show q) s t → IsState g ok s → IsTold past base lines s → IsTold past base (Show q ∷ lines) t
  told_show past base lines q s t p is k =
      let h = s.history q.table in
      let r : Reply = record { actor = q.actor; table = q.table; at = length h; query = q.query } in
      let question : Question = record { ask = q; lines = lines } in
      let before = k.grown q.table in
      let low : length (past.history q.table) ≤ length h = omega (arith, ap length before.1, length-append before.0 (past.history q.table)) in
      subst (IsTold past base (Show q ∷ lines)) (sym p) (record {
        grown = k.grown;
        ops = k.ops;
        answers = λ a. elim (q.actor == a) as (λ d. Answers g (λ t. length (past.history t)) (λ i. ops_of (base i)) s.history (λ i. turns_of i lines) a (if d then question ∷ questions a lines else questions a lines) (if d then r ∷ replies_to a s.replies else replies_to a s.replies)) [
          | true ↦ (
            record {
              table = refl;
              query = refl;
              within = le_refl (length h);
              later = latest_le g (λ t. length (past.history t)) (λ i. ops_of (base i)) s.history (λ i. turns_of i lines) a q.table (questions a lines) (replies_to a s.replies) low (k.answers a);
              seen = λ i on. subst (λ n. needed g i (ops_of (base i)) a (length (asked a i lines)) (turns_of i lines) ≤ n)
                  (ap (λ o. length (changes g i o)) (sym (ap ops_of (k.ops i) ∙ ops_append (turns_of i lines) (base i))) ∙ ap length (sym (ap (λ n. own i (s.history n)) (sym on) ∙ is.exact.exact i)) ∙ ap (λ f. length (own i f)) (sym (front_all h)))
                  (needed_le g i (ops_of (base i)) a (length (asked a i lines)) (turns_of i lines));
            },
            k.answers a,
          )
          | false ↦ k.answers a
        ];
      })

  -- a step that leaves operations and replies
  told_on : (past : Joined) (base : ℕ → List Turn) (lines : List Line) (s u : State) → IsOn g ok s u → IsTold past base lines s → IsTold past base lines u
  told_on past base lines s u on k = record {
    grown = grown_on past s u on.grew k.grown;
    ops = λ i. ap (λ o. o i) on.ops ∙ k.ops i;
    answers = λ a. subst (λ rs. Answers g (λ t. length (past.history t)) (λ i. ops_of (base i)) u.history (λ j. turns_of j lines) a (questions a lines) (replies_to a rs)) (sym on.replies)
        (answers_on g (λ t. length (past.history t)) (λ i. ops_of (base i)) s.history u.history (λ j. turns_of j lines) (λ j. turns_of j lines) a (questions a lines) (replies_to a s.replies) on.grew (λ j n w. refl)
        (λ j. subst (λ n. AllWithin a j n (questions a lines)) (ap length (sym (picked_asked a j lines))) (all_within a j lines)) (k.answers a));
  }

  told_step : (past : Joined) (base : ℕ → List Turn) (lines : List Line) (line : Line) (s t : State) → Steps g line s t → IsState g ok s → IsTold past base lines s → IsTold past base (line ∷ lines) t
  told_step past base lines (Apply x) s t p is k = told_apply past base lines x s t p is k
  told_step past base lines (Take n) s t p is k = subst (IsTold past base (Take n ∷ lines)) (sym p) (let u = if_open n.channel (takes g n.channel n.number) s in let r = told_on past base lines s u (take_line g ok n.number n.channel s is).on k in record { grown = r.grown; ops = r.ops; answers = r.answers })
  told_step past base lines (Push n) s t p is k = subst (IsTold past base (Push n ∷ lines)) (sym p) (let u = if_open n.channel (times n.number (push_at g n.channel)) s in let r = told_on past base lines s u (push_line g ok n.number n.channel s is).on k in record { grown = r.grown; ops = r.ops; answers = r.answers })
  told_step past base lines (Show q) s t p is k = told_show past base lines q s t p is k

  pub told_plays : (past : Joined) (base : ℕ → List Turn) (lines : List Line) (s t : State) → Plays g lines s t → IsState g ok s → IsTold past base [] s → IsTold past base lines t
  told_plays past base [] s t p is k = subst (IsTold past base []) (sym p) k
  told_plays past base (line ∷ earlier) s t p is k = told_step past base earlier line p.0 t p.2 (plays_keeps g ok earlier s p.0 p.1 is) (told_plays past base earlier s p.0 p.1 is k)

  -- the phases joined are those of the state
  pub record Agrees (past : Joined) (s : State) : Type 0 where
    pub history : (t : ℕ) → past.history t ≡ s.history t
    pub ops : (i : ℕ) → past.ops i ≡ s.ops i

  pub phase_told : (past : Joined) (starts : List Act) (lines : List Line) (s t : State) → Agrees past s → IsPhase g starts lines s t → IsState g ok s → IsTold past (λ i. started starts i ++ past.ops i) lines t
  phase_told past starts lines s t a p is =
      let base = λ (i : ℕ). started starts i ++ past.ops i in
      let s0 : State = record s { replies = [] } in
      let b = begun past starts s0 p.begun p.begins (quiet_start s is) (record { grown = λ t. ([], sym (a.history t)); ops = λ i. sym (a.ops i); replies = refl }) in
      let first : IsTold past base [] p.begun = record { grown = b.grown; ops = b.ops; answers = λ a. subst (λ rs. Answers g (λ t. length (past.history t)) (λ i. ops_of (base i)) p.begun.history (λ i. turns_of i []) a [] (replies_to a rs)) (sym b.replies) tt } in
      let k = told_plays past base lines p.begun p.played p.plays (begins_keeps g ok starts s0 p.begun p.begins (quiet_start s is)) first in
      subst (IsTold past base lines) (sym p.end) (told_on past base lines p.played (times p.rounds (round g) p.played) (rounds_step g ok p.rounds (owned g ok p.played) p.played (before_sync starts lines s t p is)).on k)

  pub record AgreesNow (past : Joined) (s : State) : Type 0 where
    pub history : (t : ℕ) → past.history t ≡ s.history t
    pub ops : (i : ℕ) → past.ops i ≡ s.ops i
    pub logs : (c : ℕ) → past.logs c ≡ (s.channels c).log

  pub joined_agrees : (past : Joined) (t : State) (p : Printed) → Prints g past t p → AgreesNow (join past p) t
  joined_agrees past t p r = record { history = λ n. sym (r.entries n); ops = λ i. sym (r.ops i); logs = λ c. sym (r.items c) }

  -- ---- the content of a table is what the operations say

  abbrev AreSettledLogs : State → Type 0
  AreSettledLogs s = (c : ℕ) → is_open (s.channels c) ≡ true → Settled (g.value c) (course_of g c (s.history (g.reads c))) (s.channels c).log

  pub along_is : (s : State) → IsState g ok s → AreSettledLogs s → (ds : List ℕ) (t : ℕ) (net : Net) (num : ℕ) → g.hops t num ≡ Some ds → content_of (s.history t) net num ≡ along g (given s) net num ds
  along_is s is settled [] t net num e = content_own net num (s.history t) ∙ ap (λ n. content_of (own num (s.history n)) net num) (sym (ok.ways.only_home t num e)) ∙ ap (λ l. content_of l net num) (is.exact.exact num) ∙ ok.made num (given s num) net
  along_is s is settled (d ∷ ds) t net num e =
      let chain = ok.ways.chain t num d ds e in
      let k : Key = record { net = net; num = num } in
      let ch = s.channels d in
      let h = s.history (g.reads d) in
      let pipe : is_pipe g d ≡ true = ap is_some chain.0 in
      let pass : passes g d num ≡ true = passes_is g d t num chain.0 ∙ ap (ends_with d) e ∙ eqb_yes d d refl in
      let kept = is.keeps d in
      let follows = kept.channel.follows in
      let earlier = along g (given s) net num ds in
      let up = is_up g (g.owner d) (given s (g.owner d)) in
      let here : content_of (s.history t) net num ≡ option_map (g.route num) (value_of (account k ch.log)) = content_those (passes g d) net num (s.history t) pass ∙ ap (λ l. content_of l net num) (is.exact.entered d t chain.0) ∙ stands_entered g (g.value d) (course_of g d h) ch.log follows k in
      here ∙ elim (is_open ch) as (λ b. is_open ch ≡ b → option_map (g.route num) (value_of (account k ch.log)) ≡ (if up then option_map (g.route num) (passed (g.value d) k earlier) else None)) [
        | true ↦ λ o. ap (option_map (g.route num)) ((settled d o).right k ∙ ap (passed (g.value d) k) (ap (candidate g d k) (front_all h) ∙ pipe_candidate g d k (content_of h) pipe
            ∙ ap (λ b. if b then content_of h net num else None) pass ∙ along_is s is settled ds (g.reads d) net num chain.1))
            ∙ sym (if_true up (option_map (g.route num) (passed (g.value d) k earlier)) None (sym kept.up ∙ o))
        | false ↦ λ o. ap (option_map (g.route num)) (closed_blank (g.value d) (course_of g d h) ch.log follows (shut (stretch ch.log) o) k)
            ∙ sym (if_false up (option_map (g.route num) (passed (g.value d) k earlier)) None (sym kept.up ∙ o))
      ] refl where
        shut : (o : Option ℕ) → is_some o ≡ false → o ≡ None
        shut None e = refl
        shut (Some h) e = cc

  content_is : (s : State) → IsState g ok s → AreSettledLogs s → (t : ℕ) (net : Net) (num : ℕ) → content_of (s.history t) net num ≡ content g (given s) t net num
  content_is s is settled t net num = elim (g.hops t num) as (λ w. g.hops t num ≡ w → content_of (s.history t) net num ≡ along_way g (given s) net num w) [
    | None ↦ λ e. content_own net num (s.history t) ∙ ap (λ l. content_of l net num) (is.exact.no_others t num e)
    | Some ds ↦ λ e. along_is s is settled ds t net num e
  ] refl

  -- the candidate depends on the content alone
  pub candidate_same : (c : ℕ) (k : Key) (f f2 : Content) → ((net : Net) (num : ℕ) → f net num ≡ f2 net num) → candidate_in g c k f ≡ candidate_in g c k f2
  candidate_same c k f f2 e = elim (is_pipe g c) as (λ b. is_pipe g c ≡ b → candidate_in g c k f ≡ candidate_in g c k f2) [
    | true ↦ λ q. pipe_candidate g c k f q ∙ ap (λ o. if passes g c k.num then o else None) (e k.net k.num) ∙ sym (pipe_candidate g c k f2 q)
    | false ↦ λ q. plain_candidate g c k f q ∙ ap (λ o. if k.num == 0 then o else None) (ok.same (f k.net) (f2 k.net) (e k.net)) ∙ sym (plain_candidate g c k f2 q)
  ] refl

  pub sync_state : (ops : ℕ → List Op) (past : Joined) (t : State) (p : Printed) → ops ≡ given t → Prints g past t p → IsState g ok t → AreSettledLogs t → IsSyncState g ops p.shown
  sync_state ops past t p e r is settled = subst (λ o. IsSyncState g o p.shown) (sym e) (record {
    rows = λ n net num. r.shown.rows n net num ∙ content_is t is settled n net num;
    modes = λ i. r.shown.modes i;
    accepted = λ i. r.shown.accepted i;
    up = λ c. r.shown.up c ∙ (is.keeps c).up;
    standing = λ c k up. let h = t.history (g.reads c) in
        r.shown.standing c k ∙ (settled c ((is.keeps c).up ∙ up)).right k
        ∙ ap (passed (g.value c) k) (ap (candidate g c k) (front_all h) ∙ candidate_same c k (content_of h) (content g (given t) (g.reads c)) (content_is t is settled (g.reads c)));
  })

  pub settled_logs : (t : State) → IsState g ok t → AreSettled g t → AreSettledLogs t
  settled_logs t is a c up = let e = a c up in settles (g.value c) (course_of g c (t.history (g.reads c))) (t.channels c) up e.position e.marks (is.keeps c).channel

  pub phase_legal : (past : Joined) (starts : List Act) (lines : List Line) (s t : State) (p : Printed) → Agrees past s → IsPhase g starts lines s t → Prints g past t p → IsState g ok s → IsLegal g (started starts) past lines p
  phase_legal past starts lines s t p a ph r is =
      let j = joined_agrees past t p r in
      let now = phase_keeps starts lines s t ph is in
      let told = phase_told past starts lines s t a ph is in
      let at_end = settled_logs t now (phase_settled starts lines s t ph) in
      let base = λ (i : ℕ). started starts i ++ past.ops i in
      let all = join past p in
      let eh : all.history ≡ t.history = fun_ext j.history in
      let told_ops : (ℕ → List Turn) → ℕ → List Op = λ o i. ops_of (o i) in
      let eo : all.ops ≡ t.ops = fun_ext j.ops in
      let el : all.logs ≡ logs_of t = fun_ext j.logs in
      record {
        others = λ i. turns_of i lines;
        merge = λ i. record {
          all = append_cancel_right (p.ops i) (turns_of i lines ++ started starts i) (past.ops i) (j.ops i ∙ told.ops i ∙ sym (append_assoc (turns_of i lines) (started starts i) (past.ops i)));
          each = λ a. picked_asked a i lines;
        };
        real = λ n. subst AreReal (sym (j.history n)) (now.exact.real n);
        exact = λ i. ap (own i) (j.history (g.table i)) ∙ now.exact.exact i ∙ ap (changes g i) (ap ops_of (sym (j.ops i)));
        entered = λ d n e. ap (of_those (passes g d)) (j.history n) ∙ now.exact.entered d n e ∙ ap (enters g) (sym (j.logs d));
        no_others = λ n i e. ap (own i) (j.history n) ∙ now.exact.no_others n i e;
        signalled = λ c. subst (λ h. AreSignals g h c (without_sends (all.logs c)) (notices g (g.owner c) (ops_of (all.ops (g.owner c))))) (sym (j.history (g.reads c)))
            (subst (λ l. AreSignals g (t.history (g.reads c)) c (without_sends l) (notices g (g.owner c) (ops_of (all.ops (g.owner c))))) (sym (j.logs c))
            (subst (λ (o : List Turn). AreSignals g (t.history (g.reads c)) c (without_sends (t.channels c).log) (notices g (g.owner c) (ops_of o))) (sym (j.ops (g.owner c))) (now.keeps c).marks));
        follows = λ c. subst (λ h. Follows (g.value c) (course_of g c h) (all.logs c)) (sym (j.history (g.reads c)))
            (subst (Follows (g.value c) (course_of g c (t.history (g.reads c)))) (sym (j.logs c)) (now.keeps c).channel.follows);
        answers = λ a. subst (λ rs. Answers g (λ t. length (past.history t)) (λ i. ops_of (base i)) all.history (λ i. turns_of i lines) a (questions a lines) (replies_to a rs)) r.replies
            (subst (λ h. Answers g (λ t. length (past.history t)) (λ i. ops_of (base i)) h (λ i. turns_of i lines) a (questions a lines) (replies_to a t.replies)) (sym eh) (told.answers a));
        state = sync_state (λ i. ops_of (all.ops i)) past t p (ap told_ops eo) r now at_end;
        settled = λ c up. subst (λ h. Settled (g.value c) (course_of g c h) (all.logs c)) (sym (j.history (g.reads c)))
            (subst (Settled (g.value c) (course_of g c (t.history (g.reads c)))) (sym (j.logs c)) (at_end c (ap (λ l. is_some (stretch l)) (sym (j.logs c)) ∙ up)));
      }

  pub all_legal : (past : Joined) (starts : List Act) (s : State) (scripts : List (List Line)) (printed : List Printed) → Agrees past s → IsState g ok s → PlaysAll g starts past s scripts printed → AreLegal g starts past scripts printed
  all_legal past starts s [] [] a is p = tt
  all_legal past starts s [] (x ∷ xs) a is p = absurd p
  all_legal past starts s (lines ∷ more) [] a is p = absurd p
  all_legal past starts s (lines ∷ more) (x ∷ xs) a is p =
      let j = joined_agrees past p.0 x p.2 in
      (phase_legal past starts lines s p.0 x a p.1 p.2 is, all_legal (join past x) [] p.0 more xs (record { history = j.history; ops = j.ops }) (phase_keeps starts lines s p.0 p.1 is) p.3)

  pub comes_keeps : (phases : List (List Act × List Line)) (s : State) → Comes g phases s → IsState g ok s
  comes_keeps [] s c = subst (IsState g ok) (sym c) start_is
  comes_keeps (phase ∷ earlier) s c = phase_keeps phase.0 phase.1 c.0 s c.2 (comes_keeps earlier c.0 c.1)

pub legal : (g : Rules) (starts : List Act) (scripts : List (List Line)) (printed : List Printed) → IsRules g → PlaysAll g starts nothing (start g) scripts printed → AreLegal g starts nothing scripts printed
legal g starts scripts printed ok p = all_legal g ok nothing starts (start g) scripts printed (record { history = λ t. refl; ops = λ i. refl }) (start_is g ok) p

pub comes_ends : (g : Rules) (phase : List Act × List Line) (earlier : List (List Act × List Line)) (s : State) (c : ℕ) → IsRules g → Comes g (phase ∷ earlier) s → is_open (s.channels c) ≡ true
    → ((s.channels c).position ≡ length (s.history (g.reads c))) × ((s.channels c).marks ≡ []) × Settled (g.value c) (course_of g c (s.history (g.reads c))) (s.channels c).log
comes_ends g phase earlier s c ok p up =
    let a = phase_settled g ok phase.0 phase.1 p.0 s p.2 in
    let e = a c up in
    (e.position, e.marks, settled_logs g ok s (comes_keeps g ok (phase ∷ earlier) s p) a c up)
