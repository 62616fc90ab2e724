-- What the lines keep of the whole state.
use Rattle.std.proofs.Common.{◌≡◌, ◌≢◌, ℕ, zero, suc, ◌-◌, inl, inr, Bool, true, false, List, [], ◌∷◌, ◌++◌, Option, Some, None, refl, sym, ◌∙◌, ap, subst, length, is_some, option_map}
use Rattle.std.specs.Prelude.{◌==◌, ◌||◌, if◌then◌else◌}
use Rattle.std.proofs.lemmas.List.{append_assoc}
use Rattle.std.proofs.lemmas.Bool.Decides.{eqb_tells}
use Rattle.attrs.specs.declared.attributes.Attrs.{Attrs}
use Rattle.attrs.specs.declared.route.Change.{Change}
use Rattle.import_core.specs.declared.operation.Op.{Op}
use Rattle.export_core.specs.declared.log.Key.{Key}
use Rattle.export_core.specs.declared.log.LogItem.{LogItem}
use Rattle.export_core.specs.declared.log.Sending.{Sending}
use Rattle.export_core.specs.Candidates.{among}
use Rattle.export_core.specs.Logs.{stretch, account, value_of, Follows}
use Rattle.export_core.specs.Marks.{holds}
use Rattle.core_machine.specs.Channels.{Channel, answer, closed, fed, is_open, logged, opened, push_one, pushed, renewed, take_one, times, value_at}
use Rattle.core_machine.specs.Enters.{change_to, enters, standing_keys, withdrawn}
use Rattle.core_machine.specs.Histories.{AreFrom, AreReal, content_of, of_those, own}
use Rattle.core_machine.specs.Lines.{Act, Line, Apply, Take, Push, Show, Turn, ops_of, turn_of}
use Rattle.core_machine.specs.Machine.{AllObey, Applies, Begins, Obeys, Plays, State, Steps, appended, arrived, flushed, gain, gained, if_open, left_by, push_at, set, takes, with_channel, with_turn}
use Rattle.core_machine.specs.Marks.{Marked}
use Rattle.core_machine.specs.Pipes.{course_of, is_pipe, passes}
use Rattle.core_machine.specs.Rounds.{pushed_out, round, taken_up, turned, turns_to}
use Rattle.core_machine.specs.Rules.{AreApart, Fits, IsRules, Rules, Signal, Stay, Rise, Fall, Renew, changes, is_up, signalled}
use Rattle.core_machine.proofs.Contents.{AllOf, content_those, if_true, if_false, none_some, real_more, some_same}
use Rattle.core_machine.proofs.Entering.{all_withdrawn, once_standing, real_withdrawn, sent_passes, standing_passes, standing_told, stands_entered, withdrawn_is}
use Rattle.core_machine.proofs.Growing.{IsMore, IsOn, Keeps, more_appended, more_arrived, more_flushed, more_on, on_same, on_then, set_here, set_there, some_list}
use Rattle.core_machine.proofs.OneChannel.{IsDone, IsKept, fall_keeps, open_pushed, push_keeps, renew_keeps, rise_keeps, take_keeps, take_log, times_keeps}
use Rattle.core_machine.proofs.Tables.{IsExact, exact_by, exact_logs, exact_own}

no : {A : Type 0} → true ≡ false → A
no e = absurd (let bad : true ≡ false = e in cc)

-- the operations of each protocol
abbrev pub given : State → ℕ → List Op
given s i = ops_of (s.ops i)

pub all_first : (i : ℕ) (cs ds : List Change) → AreFrom i (cs ++ ds) → AreFrom i cs
all_first i [] ds a = tt
all_first i (c ∷ cs) ds a = (a.0, all_first i cs ds a.1)

abbrev pub logs_of : State → ℕ → List LogItem
logs_of s c = (s.channels c).log

map_apart : (g : Rules) (ok : IsRules g) (i : ℕ) (a b : Option Attrs) → option_map (g.route i) a ≡ option_map (g.route i) b → a ≡ b
map_apart g ok i None None e = refl
map_apart g ok i None (Some y) e = absurd (none_some e)
map_apart g ok i (Some x) None e = absurd (none_some (sym e))
map_apart g ok i (Some x) (Some y) e = ap (λ z. Some z) (ok.told i x y (some_same e))

pub is_target : (g : Rules) (c t : ℕ) → g.target c ≡ Some t → is_pipe g c ≡ true
is_target g c t e = ap is_some e

module _ (g : Rules) (ok : IsRules g) where
  -- a state, with operations that a function gives for each channel
  pub record IsRight (ops : ℕ → List Op) (s : State) : Type 0 where
    pub exact : IsExact g s.history (given s) (logs_of s)
    pub keeps : Keeps g ok ops s

  abbrev pub owned : State → ℕ → List Op
  owned s c = given s (g.owner c)

  abbrev pub IsState : State → Type 0
  IsState s = IsRight (owned s) s

  -- what a step does of a whole state
  pub record IsStep (ops : ℕ → List Op) (s u : State) : Type 0 where
    pub right : IsRight ops u
    pub on : IsOn g ok s u

  -- one channel is changed by what keeps it
  pub one_keeps : (c : ℕ) (ops : List Op) (f : ℕ → List Op) (new : Channel) (s : State) → IsKept g ok (s.history (g.reads c)) c ops new → ((e : ℕ) → c ≢ e → IsKept g ok (s.history (g.reads e)) e (f e) (s.channels e)) → f c ≡ ops
      → Keeps g ok f (with_channel c new s)
  one_keeps c ops f new s k others e = λ j. elim (eqb_tells c j) [
    | inl w ↦ subst (λ q. IsKept g ok (s.history (g.reads q)) q (f q) (set c new s.channels q)) w.1 (subst (λ o. IsKept g ok (s.history (g.reads c)) c o (set c new s.channels c)) (sym e) (subst (IsKept g ok (s.history (g.reads c)) c ops) (sym (set_here c new s.channels c refl)) k))
    | inr w ↦ subst (IsKept g ok (s.history (g.reads j)) j (f j)) (sym (set_there c new s.channels j w.1)) (others j w.1)
  ]

  log_here : (c : ℕ) (new : Channel) (s : State) → logs_of (with_channel c new s) c ≡ new.log
  log_here c new s = ap (λ ch. ch.log) (set_here c new s.channels c refl)

  log_there : (c e : ℕ) (new : Channel) (s : State) → c ≢ e → logs_of (with_channel c new s) e ≡ logs_of s e
  log_there c e new s other = ap (λ ch. ch.log) (set_there c new s.channels e other)

  same_enters : (c : ℕ) (new : Channel) (s : State) → enters g new.log ≡ enters g (s.channels c).log → (d : ℕ) → enters g (logs_of (with_channel c new s) d) ≡ enters g (logs_of s d)
  same_enters c new s e d = elim (eqb_tells c d) [
    | inl w ↦ subst (λ q. enters g (logs_of (with_channel c new s) q) ≡ enters g (logs_of s q)) w.1 (ap (enters g) (log_here c new s) ∙ e)
    | inr w ↦ ap (enters g) (log_there c d new s w.1)
  ]

  -- a channel's step that enters nothing
  pub quiet_step : (c : ℕ) (ops : List Op) (f f2 : ℕ → List Op) (new : Channel) (s : State) → enters g new.log ≡ enters g (s.channels c).log → IsKept g ok (s.history (g.reads c)) c ops new → f2 c ≡ ops → ((e : ℕ) → c ≢ e → f2 e ≡ f e) → IsRight f s → IsRight f2 (with_channel c new s)
  quiet_step c ops f f2 new s e k here there r = record {
    exact = exact_logs g ok s.history (given s) (logs_of s) (logs_of (with_channel c new s)) (same_enters c new s e) r.exact;
    keeps = one_keeps c ops f2 new s k (λ j other. subst (λ o. IsKept g ok (s.history (g.reads j)) j o (s.channels j)) (sym (there j other)) (r.keeps j)) here;
  }

  -- a direction's step that enters changes
  pub enter_step : (d t : ℕ) (cs : List Change) (ops : List Op) (f f2 : ℕ → List Op) (new : Channel) (s u : State) → g.target d ≡ Some t → IsMore g ok t cs s u → AllOf (passes g d) cs → AreReal (cs ++ s.history t)
      → enters g new.log ≡ cs ++ enters g (s.channels d).log → IsKept g ok (s.history (g.reads d)) d ops new → f2 d ≡ ops → ((e : ℕ) → d ≢ e → f2 e ≡ f e) → IsRight f s → IsRight f2 (with_channel d new u)
  enter_step d t cs ops f f2 new s u td m a r more k here there x = let k2 = m.keeps f x.keeps in record {
    exact = exact_by g ok d t cs s.history u.history (given u) (logs_of s) (logs_of (with_channel d new u)) td a r (ap (enters g) (log_here d new u) ∙ more) (λ e other. log_there d e new u other ∙ m.logs e) m.here m.there
        (subst (λ (o : ℕ → List Turn). IsExact g s.history (λ i. ops_of (o i)) (logs_of s)) (sym m.ops) x.exact);
    keeps = one_keeps d ops f2 new u (subst (λ h. IsKept g ok h d ops new) (sym (m.there (g.reads d) (λ e. ok.apart d t td (sym e)))) k)
        (λ j other. subst (λ o. IsKept g ok (u.history (g.reads j)) j o (u.channels j)) (sym (there j other)) (k2 j)) here;
  }

  -- ---- pushes

  enters_pushed : (c : ℕ) (h : List Change) (ms : List Marked) (ch : Channel) → enters g (pushed g c h ms ch).log ≡ some_list (gained g c h ms ch) ++ enters g ch.log
  enters_pushed c h [] ch = refl
  enters_pushed c h (m ∷ ms) ch = let v = value_at g c h m in elim (answer g c h m ch) as (λ a. enters g (logged a m v ch.log) ≡ some_list (gain g a m v) ++ enters g ch.log) [
    | None ↦ refl
    | Some b ↦ elim b as (λ b. enters g (logged (Some b) m v ch.log) ≡ some_list (gain g (Some b) m v) ++ enters g ch.log) [ true ↦ refl | false ↦ refl ]
  ]

  -- what a push enters may come
  pub gained_fits : (d t : ℕ) (h into : List Change) (ms : List Marked) (ch : Channel) → g.target d ≡ Some t → Follows (g.value d) (course_of g d h) (pushed g d h ms ch).log → of_those (passes g d) into ≡ enters g ch.log → AreReal into
      → AllOf (passes g d) (some_list (gained g d h ms ch)) × AreReal (some_list (gained g d h ms ch) ++ into)
  gained_fits d t h into [] ch td f e r = (tt, r)
  gained_fits d t h into (m ∷ ms) ch td f e r = let v = value_at g d h m in
      elim (answer g d h m ch) as (λ a. Follows (g.value d) (course_of g d h) (logged a m v ch.log) → AllOf (passes g d) (some_list (gain g a m v)) × AreReal (some_list (gain g a m v) ++ into)) [
        | None ↦ λ f. (tt, r)
        | Some b ↦ elim b as (λ b. Follows (g.value d) (course_of g d h) (logged (Some b) m v ch.log) → AllOf (passes g d) (some_list (gain g (Some b) m v)) × AreReal (some_list (gain g (Some b) m v) ++ into)) [
          | true ↦ λ f. (tt, r)
          | false ↦ λ f.
              let x : Sending = record { at = m.at; key = m.key; value = v; again = false } in
              let p = sent_passes g d h ch.log x (is_target g d t td) f refl in (
                (p, tt),
                real_more (change_to g m.key v) into r (λ same. f.1.changed refl (map_apart g ok m.key.num v (value_of (account m.key ch.log))
                    (sym same ∙ content_those (passes g d) m.key.net m.key.num into p ∙ ap (λ l. content_of l m.key.net m.key.num) e ∙ stands_entered g (g.value d) (course_of g d h) ch.log f.0 m.key))),
              )
        ]
      ] f

  pub push_step : (c : ℕ) (f : ℕ → List Op) (s : State) → is_open (s.channels c) ≡ true → IsRight f s → IsStep f s (push_at g c s)
  push_step c f s up r =
      let h = s.history (g.reads c) in
      let ch = s.channels c in
      let new = push_one g c h ch in
      let k = push_keeps g ok h c (f c) ch up (r.keeps c) in
      let o = gained g c h ch.marks ch in
      elim (g.target c) as (λ q. g.target c ≡ q → IsStep f s (with_channel c new (arrived g q o s))) [
        | None ↦ λ e. record {
          right = record {
            exact = record {
              real = r.exact.real;
              exact = r.exact.exact;
              no_others = r.exact.no_others;
              entered = λ d t td. r.exact.entered d t td ∙ sym (ap (enters g) (log_there c d new s (λ cd. none_some (sym e ∙ ap g.target cd ∙ td))));
            };
            keeps = one_keeps c (f c) f new s k (λ j other. r.keeps j) refl;
          };
          on = record { grew = λ n. ([], refl); ops = refl; replies = refl };
        }
        | Some t ↦ λ e.
            let fits = gained_fits c t h (s.history t) ch.marks ch e k.channel.follows (r.exact.entered c t e) (r.exact.real t) in
            let m = more_arrived g ok t o s in
            let on = more_on g ok t (some_list o) s (arrived g (Some t) o s) m in
            record {
              right = enter_step c t (some_list o) (f c) f f new s (arrived g (Some t) o s) e m fits.0 fits.1 (enters_pushed c h ch.marks ch) k refl (λ j other. refl) r;
              on = record { grew = on.grew; ops = on.ops; replies = on.replies };
            }
      ] refl

  arrives_log : (q o : Option ℕ) (x : Option Change) (s : State) (c : ℕ) → q ≡ o → (arrived g q x s).channels c ≡ (arrived g o x s).channels c
  arrives_log q o x s c e = ap (λ q. (arrived g q x s).channels c) e

  pub push_open : (c : ℕ) (s : State) → is_open ((push_at g c s).channels c) ≡ is_open (s.channels c)
  push_open c s = let h = s.history (g.reads c) in let ch = s.channels c in let u = arrived g (g.target c) (gained g c h ch.marks ch) s in
      ap is_open (set_here c (push_one g c h ch) u.channels c refl) ∙ open_pushed g h c ch.marks ch

  pub pushes_step : (n c : ℕ) (f : ℕ → List Op) (s : State) → is_open (s.channels c) ≡ true → IsRight f s → IsStep f s (times n (push_at g c) s) × (is_open ((times n (push_at g c) s).channels c) ≡ true)
  pushes_step zero c f s up r = (record { right = r; on = on_same g ok s }, up)
  pushes_step (suc n) c f s up r =
      let p = pushes_step n c f s up r in
      let u = times n (push_at g c) s in
      let q = push_step c f u p.1 p.0.right in (
        record { right = q.right; on = on_then g ok s u (push_at g c u) p.0.on q.on },
        push_open c u ∙ p.1,
      )

  -- ---- takes

  takes_log : (c n : ℕ) (h : List Change) (ch : Channel) → (times n (take_one g c h) ch).log ≡ ch.log
  takes_log c zero h ch = refl
  takes_log c (suc n) h ch = take_log g c h (times n (take_one g c h) ch) ∙ takes_log c n h ch

  pub takes_step : (c n : ℕ) (f : ℕ → List Op) (s : State) → IsRight f s → IsStep f s (takes g c n s)
  takes_step c n f s r =
      let h = s.history (g.reads c) in
      let ch = s.channels c in
      let new = times n (take_one g c h) ch in
      record {
        right = quiet_step c (f c) f f new s (ap (enters g) (takes_log c n h ch)) (times_keeps (IsKept g ok h c (f c)) (take_one g c h) (take_keeps g ok h c (f c)) n ch (r.keeps c)) refl (λ e other. refl) r;
        on = record { grew = λ n. ([], refl); ops = refl; replies = refl };
      }

  pub takes_open : (c n : ℕ) (s : State) → is_open ((takes g c n s).channels c) ≡ is_open (s.channels c)
  takes_open c n s = let h = s.history (g.reads c) in let ch = s.channels c in
      ap is_open (set_here c (times n (take_one g c h) ch) s.channels c refl) ∙ ap (λ l. is_some (stretch l)) (takes_log c n h ch)

  if_open_step : (c : ℕ) (f : ℕ → List Op) (act : State → State) (s : State) → (is_open (s.channels c) ≡ true → IsStep f s (act s)) → IsRight f s → IsStep f s (if_open c act s)
  if_open_step c f act s k r = elim (is_open (s.channels c)) as (λ b. is_open (s.channels c) ≡ b → IsStep f s (if b then act s else s)) [ true ↦ k | false ↦ λ _. record { right = r; on = on_same g ok s } ] refl

  pub turn_step : (c : ℕ) (f : ℕ → List Op) (s : State) → IsRight f s → IsStep f s (turned g c s)
  turn_step c f s r = if_open_step c f (λ u. pushed_out g c (taken_up g c u)) s (λ up.
      let n = length (s.history (g.reads c)) - (s.channels c).position in
      let u = takes g c n s in
      let t = takes_step c n f s r in
      let p = (pushes_step (length (u.channels c).marks) c f u (takes_open c n s ∙ up) t.right).0 in
      record { right = p.right; on = on_then g ok s u (pushed_out g c u) t.on p.on }) r

  pub turns_step : (n : ℕ) (f : ℕ → List Op) (s : State) → IsRight f s → IsStep f s (turns_to g n s)
  turns_step zero f s r = record { right = r; on = on_same g ok s }
  turns_step (suc n) f s r = let u = turns_to g n s in let a = turns_step n f s r in let b = turn_step n f u a.right in record { right = b.right; on = on_then g ok s u (turned g n u) a.on b.on }

  pub rounds_step : (n : ℕ) (f : ℕ → List Op) (s : State) → IsRight f s → IsStep f s (times n (round g) s)
  rounds_step zero f s r = record { right = r; on = on_same g ok s }
  rounds_step (suc n) f s r = let u = times n (round g) s in let a = rounds_step n f s r in let b = turns_step g.channels f u a.right in record { right = b.right; on = on_then g ok s u (round g u) a.on b.on }

  -- ---- operations

  done_keeps : (h : List Change) (c : ℕ) (op : Op) (ops : List Op) (m : Signal) (ch : Channel) → (g.gives (g.owner c) ops op).signal ≡ m → IsDone g ok h c op ops m ch → IsKept g ok h c (op ∷ ops) ch
  done_keeps h c op ops m ch e d = let i = subst (λ n. IsDone g ok h c op ops n ch) (sym e) d in record { channel = i.channel; up = i.up; marks = i.marks }

  some_none : {A : Type 0} (o : Option A) → is_some o ≡ true → o ≢ None
  some_none None e = λ _. let bad : false ≡ true = e in absurd (no (sym bad))
  some_none (Some x) e = λ q. none_some (sym q)

  mapped_some : (i : ℕ) (o : Option Attrs) → is_some o ≡ true → option_map (g.route i) o ≢ None
  mapped_some i None e = λ _. absurd (no (sym e))
  mapped_some i (Some x) e = λ q. none_some (sym q)

  -- what stands as sent is of sources that the direction passes
  standing_pass : (c n : ℕ) (f : ℕ → List Op) (s : State) → g.target c ≡ Some n → IsRight f s → (q : Key) → holds q (standing_keys (s.channels c).log) ≡ true → passes g c q.num ≡ true
  standing_pass c n f s z r q i = let log = (s.channels c).log in standing_passes g c (s.history (g.reads c)) log q (is_target g c n z) (r.keeps c).channel.follows (sym (standing_told q log) ∙ i)

  -- it stands in the table that is written, so that each withdrawal of it is a change
  pub flush_real : (c n : ℕ) (f : ℕ → List Op) (s : State) → g.target c ≡ Some n → IsRight f s → AreReal (withdrawn (standing_keys (s.channels c).log) (s.history n))
  flush_real c n f s z r =
      let log = (s.channels c).log in
      real_withdrawn (standing_keys log) (s.history n) (once_standing log)
      (λ q i none. mapped_some q.num (value_of (account q log)) (sym (standing_told q log) ∙ i)
      (sym (content_those (passes g c) q.net q.num (s.history n) (standing_pass c n f s z r q i) ∙ ap (λ l. content_of l q.net q.num) (r.exact.entered c n z)
      ∙ stands_entered g (g.value c) (course_of g c (s.history (g.reads c))) log (r.keeps c).channel.follows q) ∙ none))
      (r.exact.real n)

  -- and so is what a push enters
  pub push_real : (c n : ℕ) (f : ℕ → List Op) (s : State) → is_open (s.channels c) ≡ true → g.target c ≡ Some n → IsRight f s
      → AreReal (some_list (gained g c (s.history (g.reads c)) (s.channels c).marks (s.channels c)) ++ s.history n)
  push_real c n f s up z r =
      let h = s.history (g.reads c) in
      let ch = s.channels c in
      (gained_fits c n h (s.history n) ch.marks ch z (push_keeps g ok h c (f c) ch up (r.keeps c)).channel.follows (r.exact.entered c n z) (r.exact.real n)).1

  -- one channel, with the operation before it still to be counted
  pub does_step : (c : ℕ) (op : Op) (ops : List Op) (m : Signal) (f f2 : ℕ → List Op) (s t : State) → f c ≡ ops → f2 c ≡ op ∷ ops → ((e : ℕ) → c ≢ e → f2 e ≡ f e)
      → (g.gives (g.owner c) ops op).signal ≡ m → Fits m (is_up g (g.owner c) ops) → (g.target c ≡ None → own (g.owner c) (s.history (g.reads c)) ≡ changes g (g.owner c) (op ∷ ops))
      → Obeys m g c s t → IsRight f s → IsStep f2 s t
  does_step c op ops Stay f f2 s t e e2 same em fit own_is d r =
      let k = subst (λ o. IsKept g ok (s.history (g.reads c)) c o (s.channels c)) e (r.keeps c) in
      subst (IsStep f2 s) (sym d) (record {
        right = record {
          exact = r.exact;
          keeps = λ j. elim (eqb_tells c j) [
            | inl w ↦ subst (λ q. IsKept g ok (s.history (g.reads q)) q (f2 q) (s.channels q)) w.1 (subst (λ o. IsKept g ok (s.history (g.reads c)) c o (s.channels c)) (sym e2)
                (done_keeps (s.history (g.reads c)) c op ops Stay (s.channels c) em (record { channel = k.channel; up = k.up; marks = k.marks })))
            | inr w ↦ subst (λ o. IsKept g ok (s.history (g.reads j)) j o (s.channels j)) (sym (same j w.1)) (r.keeps j)
          ];
        };
        on = on_same g ok s;
      })
  does_step c op ops Rise f f2 s t e e2 same em fit own_is d r =
      let h = s.history (g.reads c) in
      let ch = s.channels c in
      let k = subst (λ o. IsKept g ok h c o ch) e (r.keeps c) in
      let new = fed d.1.0 false (length h) (opened (length h) ch) in
      subst (IsStep f2 s) (sym (d.2 ∙ ap (λ x. with_channel c x s) d.1.2)) (record {
        right = quiet_step c (op ∷ ops) f f2 new s refl (done_keeps h c op ops Rise new em (rise_keeps g ok h c op ops ch d.1.0 own_is fit d.1.1 k)) e2 same r;
        on = record { grew = λ n. ([], refl); ops = refl; replies = refl };
      })
  does_step c op ops Renew f f2 s t e e2 same em fit own_is d r =
      let h = s.history (g.reads c) in
      let ch = s.channels c in
      let k = subst (λ o. IsKept g ok h c o ch) e (r.keeps c) in
      let new = fed d.1.0 true (length h) (renewed ch) in
      subst (IsStep f2 s) (sym (d.2 ∙ ap (λ x. with_channel c x s) d.1.2)) (record {
        right = quiet_step c (op ∷ ops) f f2 new s refl (done_keeps h c op ops Renew new em (renew_keeps g ok h c op ops ch d.1.0 fit d.1.1 k)) e2 same r;
        on = record { grew = λ n. ([], refl); ops = refl; replies = refl };
      })
  does_step c op ops Fall f f2 s t e e2 same em fit own_is d r =
      let h = s.history (g.reads c) in
      let ch = s.channels c in
      let ks = standing_keys ch.log in
      let k = subst (λ o. IsKept g ok h c o ch) e (r.keeps c) in
      let k2 = done_keeps h c op ops Fall (closed ch) em (fall_keeps g ok h c op ops ch fit k) in
      subst (IsStep f2 s) (sym d) (elim (g.target c) as (λ q. g.target c ≡ q → IsStep f2 s (with_channel c (closed ((left_by g q ks s).channels c)) (left_by g q ks s))) [
        | None ↦ λ z. record {
          right = record {
            exact = record {
              real = r.exact.real;
              exact = r.exact.exact;
              no_others = r.exact.no_others;
              entered = λ x n td. r.exact.entered x n td ∙ sym (ap (enters g) (log_there c x (closed ch) s (λ cd. none_some (sym z ∙ ap g.target cd ∙ td))));
            };
            keeps = one_keeps c (op ∷ ops) f2 (closed ch) s k2 (λ j other. subst (λ o. IsKept g ok (s.history (g.reads j)) j o (s.channels j)) (sym (same j other)) (r.keeps j)) e2;
          };
          on = record { grew = λ n. ([], refl); ops = refl; replies = refl };
        }
        | Some n ↦ λ z.
            let u = flushed g n ks s in
            let m = more_flushed g ok n ks s in
            let on = more_on g ok n (withdrawn ks []) s u m in
            let real : AreReal (withdrawn ks [] ++ s.history n) = subst AreReal (withdrawn_is ks (s.history n)) (flush_real c n f s z r) in
            subst (λ x. IsStep f2 s (with_channel c (closed x) u)) (sym (m.same c (ok.apart c n z))) (record {
              right = enter_step c n (withdrawn ks []) (op ∷ ops) f f2 (closed ch) s u z m (all_withdrawn (passes g c) ks [] (standing_pass c n f s z r) tt) real (withdrawn_is ks (enters g ch.log)) k2 e2 same r;
              on = record { grew = on.grew; ops = on.ops; replies = on.replies };
            })
      ] refl)

  -- a channel in no list of its protocol's
  idle_keeps : (h : List Change) (c : ℕ) (op : Op) (ops : List Op) (ch : Channel) → ((o : List Op) → is_up g (g.owner c) o ≡ false) → IsKept g ok h c ops ch → IsKept g ok h c (op ∷ ops) ch
  idle_keeps h c op ops ch never k =
      let m = (g.gives (g.owner c) ops op).signal in
      let fit = ok.fits (g.owner c) ops op in
      elim m as (λ q. m ≡ q → IsKept g ok h c (op ∷ ops) ch) [
        | Stay ↦ λ e. done_keeps h c op ops Stay ch e (record { channel = k.channel; up = k.up; marks = k.marks })
        | Rise ↦ λ e. no (sym (ap (λ q. signalled q (is_up g (g.owner c) ops)) e) ∙ never (op ∷ ops))
        | Fall ↦ λ e. no (sym (subst (λ q. Fits q (is_up g (g.owner c) ops)) e fit) ∙ never ops)
        | Renew ↦ λ e. no (sym (subst (λ q. Fits q (is_up g (g.owner c) ops)) e fit) ∙ never ops)
      ] refl

  -- some channels are still to be told of the last operation
  abbrev pub midway : List ℕ → List Op → (ℕ → List Op) → ℕ → List Op
  midway cs ops f c = if among c cs then ops else f c

  pub does_all_step : (i : ℕ) (op : Op) (ops : List Op) (m : Signal) (cs : List ℕ) (f : ℕ → List Op) (s t : State) → ((c : ℕ) → f c ≡ given s (g.owner c)) → given s i ≡ op ∷ ops → (g.gives i ops op).signal ≡ m → Fits m (is_up g i ops)
      → ((c : ℕ) → among c cs ≡ true → g.owner c ≡ i) → AreApart cs → AllObey m g cs s t → IsRight (midway cs ops f) s → IsStep f s t
  does_all_step i op ops m [] f s t ef eo em fit own_of apart d r = subst (IsStep f s) (sym d) (record { right = r; on = on_same g ok s })
  does_all_step i op ops m (c ∷ cs) f s t ef eo em fit own_of apart d r =
      let u = d.0 in
      let here : among c (c ∷ cs) ≡ true = ap (λ b. b || among c cs) (eqb_same c) in
      let ow : g.owner c ≡ i = own_of c here in
      let fc : f c ≡ op ∷ ops = ef c ∙ ap (given s) ow ∙ eo in
      let step = does_step c op ops m (midway (c ∷ cs) ops f) (midway cs ops f) s u (if_true (among c (c ∷ cs)) ops (f c) here) (if_false (among c cs) ops (f c) apart.0 ∙ fc)
      (λ e other. ap (λ b. if b || among e cs then ops else f e) (sym (eqb_other c e other)))
      (subst (λ q. (g.gives q ops op).signal ≡ m) (sym ow) em) (subst (λ q. Fits m (is_up g q ops)) (sym ow) fit)
      (λ none. ap (λ n. own (g.owner c) (s.history n)) (ok.reads_own c none) ∙ r.exact.exact (g.owner c) ∙ ap (changes g (g.owner c)) (ap (given s) ow ∙ eo)) d.1 r in
      let rest = does_all_step i op ops m cs f u t (λ e. ef e ∙ ap (λ (o : ℕ → List Turn). ops_of (o (g.owner e))) (sym step.on.ops)) (ap (λ (o : ℕ → List Turn). ops_of (o i)) step.on.ops ∙ eo) em fit (λ e a. own_of e (or_right (c == e) (among e cs) a)) apart.1 d.2 step.right in
      record { right = rest.right; on = on_then g ok s u t step.on rest.on } where
        eqb_same : (n : ℕ) → (n == n) ≡ true
        eqb_same n = elim (eqb_tells n n) [ inl w ↦ w.0 | inr w ↦ absurd (w.1 refl) ]

        eqb_other : (a b : ℕ) → a ≢ b → (a == b) ≡ false
        eqb_other a b other = elim (eqb_tells a b) [ inl w ↦ absurd (other w.1) | inr w ↦ w.0 ]

        or_right : (a b : Bool) → b ≡ true → (a || b) ≡ true
        or_right true b e = refl
        or_right false b e = e

  -- what an operation does
  pub record IsActed (a : Act) (s t : State) : Type 0 where
    pub state : IsState t
    pub grew : (n : ℕ) → (cs : List Change) × (t.history n ≡ cs ++ s.history n)
    pub ops : t.ops ≡ set a.protocol (turn_of a ∷ s.ops a.protocol) s.ops
    pub replies : t.replies ≡ s.replies

  pub act_step : (a : Act) (s t : State) → Applies g a s t → IsState s → IsActed a s t
  act_step a s t p is =
      let i = a.protocol in
      let ops = given s i in
      let turn = turn_of a in
      let effect = g.gives i ops a.op in
      let u = appended g (g.table i) effect.changes s in
      let v = with_turn i turn u in
      let m = more_appended g ok (g.table i) effect.changes s in
      let vo : v.ops ≡ set i (turn ∷ s.ops i) s.ops = ap (λ (o : ℕ → List Turn). set i (turn ∷ o i) o) m.ops in
      let vi : given v i ≡ a.op ∷ ops = ap (λ (o : ℕ → List Turn). ops_of (o i)) vo ∙ ap ops_of (set_here i (turn ∷ s.ops i) s.ops i refl) in
      let vj : (j : ℕ) → i ≢ j → given v j ≡ given s j = λ j other. ap (λ (o : ℕ → List Turn). ops_of (o j)) vo ∙ ap ops_of (set_there i (turn ∷ s.ops i) s.ops j other) in
      let x = exact_own g ok i effect.changes s.history u.history (given s) (given v) (logs_of s) (all_first i effect.changes (changes g i ops) (ok.own i (a.op ∷ ops))) (ok.real i (a.op ∷ ops)) (ap (changes g i) vi) vj m.here m.there is.exact in
      let k = m.keeps (owned s) is.keeps in
      let r : IsRight (midway (g.belong i) ops (owned v)) v = record {
        exact = exact_logs g ok u.history (given v) (logs_of s) (logs_of v) (λ d. ap (enters g) (m.logs d)) x;
        keeps = λ c. let Is = λ (o : List Op). IsKept g ok (u.history (g.reads c)) c o (u.channels c) in
            elim (among c (g.belong i)) as (λ b. among c (g.belong i) ≡ b → Is (if b then ops else owned v c)) [
              | true ↦ λ e. subst Is (ap (given s) (ok.belongs i c e)) (k c)
              | false ↦ λ e. elim (eqb_tells i (g.owner c)) [
                | inl w ↦ subst Is (sym (ap (given v) (sym w.1) ∙ vi ∙ ap (λ o. a.op ∷ o) (ap (given s) w.1))) (idle_keeps (u.history (g.reads c)) c a.op (given s (g.owner c)) (u.channels c) (ok.all c (subst (λ q. among c (g.belong q) ≡ false) w.1 e)) (k c))
                | inr w ↦ subst Is (sym (vj (g.owner c) w.1)) (k c)
              ]
            ] refl;
      } in
      let d = does_all_step i a.op ops effect.signal (g.belong i) (owned v) v t (λ c. refl) vi refl (ok.fits i ops a.op) (λ c e. ok.belongs i c e) (ok.once i) p r in
      let grew = more_on g ok (g.table i) effect.changes s u m in
      record {
        state = subst (λ (o : ℕ → List Turn). IsRight (λ c. ops_of (o (g.owner c))) t) (sym d.on.ops) d.right;
        grew = λ n. let x = grew.grew n in let y = d.on.grew n in (y.0 ++ x.0, y.1 ∙ ap (λ l. y.0 ++ l) x.1 ∙ sym (append_assoc y.0 x.0 (s.history n)));
        ops = d.on.ops ∙ vo;
        replies = d.on.replies ∙ m.replies;
      }

  pub begins_keeps : (starts : List Act) (s t : State) → Begins g starts s t → IsState s → IsState t
  begins_keeps [] s t p is = subst IsState (sym p) is
  begins_keeps (a ∷ earlier) s t p is = (act_step a p.0 t p.2 (begins_keeps earlier s p.0 p.1 is)).state

  -- a step that left_by the operations
  state_of : (s t : State) → IsStep (owned s) s t → IsState t
  state_of s t d = subst (λ (o : ℕ → List Turn). IsRight (λ c. ops_of (o (g.owner c))) t) (sym d.on.ops) d.right

  pub push_line : (n c : ℕ) (s : State) → IsState s → IsStep (owned s) s (if_open c (times n (push_at g c)) s)
  push_line n c s is = if_open_step c (owned s) (times n (push_at g c)) s (λ up. (pushes_step n c (owned s) s up is).0) is

  pub take_line : (n c : ℕ) (s : State) → IsState s → IsStep (owned s) s (if_open c (takes g c n) s)
  take_line n c s is = if_open_step c (owned s) (takes g c n) s (λ up. takes_step c n (owned s) s is) is

  pub step_keeps : (line : Line) (s t : State) → Steps g line s t → IsState s → IsState t
  step_keeps (Apply a) s t p is = (act_step a s t p is).state
  step_keeps (Take n) s t p is = subst IsState (sym p) (state_of s (if_open n.channel (takes g n.channel n.number) s) (take_line n.number n.channel s is))
  step_keeps (Push n) s t p is = subst IsState (sym p) (state_of s (if_open n.channel (times n.number (push_at g n.channel)) s) (push_line n.number n.channel s is))
  step_keeps (Show q) s t p is = subst IsState (sym p) (record { exact = is.exact; keeps = is.keeps })

  pub plays_keeps : (lines : List Line) (s t : State) → Plays g lines s t → IsState s → IsState t
  plays_keeps [] s t p is = subst IsState (sym p) is
  plays_keeps (line ∷ earlier) s t p is = step_keeps line p.0 t p.2 (plays_keeps earlier s p.0 p.1 is)

  pub rounds_keep : (n : ℕ) (s : State) → IsState s → IsState (times n (round g) s)
  rounds_keep n s is = state_of s (times n (round g) s) (rounds_step n (owned s) s is)
