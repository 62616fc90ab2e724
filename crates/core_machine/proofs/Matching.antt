-- A take and a push of an exporter, a new one, and a longer history, beside the machine's.
use Rattle.std.proofs.Common.{◌≡◌, ◌≢◌, ℕ, ◌+◌, ◌<◌, ◌≤◌, max, inl, inr, Bool, true, false, List, [], ◌∷◌, ◌++◌, reverse, Option, Some, None, refl, sym, ◌∙◌, ap, subst, arith, length, is_some, option_map}
use Rattle.std.specs.Prelude.{◌==◌, ◌&&◌, ◌||◌, nat_lt, not, slice_get, drop, if◌then◌else◌}
use Rattle.std.specs.Map.{keys_of}
use Rattle.std.proofs.lemmas.Bool.{cases_lt}
use Rattle.std.proofs.lemmas.Bool.Decides.{nat_tests}
use Rattle.std.proofs.lemmas.List.{reverse-append}
use Rattle.bits_ip.specs.Prefix.{Net}
use Rattle.attrs.specs.declared.attributes.Attrs.{Attrs}
use Rattle.attrs.specs.declared.journal.JEntry.{JEntry}
use Rattle.attrs.specs.declared.judge.Verdict.{Verdict}
use Rattle.attrs.specs.declared.route.Change.{Change}
use Rattle.attrs.specs.declared.route.Route.{Route}
use Rattle.attrs.specs.contracts.attributes.AttrsPartialEq.TheImpl as attributes
use Rattle.attrs.proofs.Same.{attrs_decides}
use Rattle.export_core.specs.declared.exporter.Pushed.{Pushed}
use Rattle.export_core.specs.declared.exporter.Pushed.TheVariants as answers
use Rattle.export_core.specs.declared.floors.FeedState.TheVariants.{Done}
use Rattle.export_core.specs.declared.log.Key.{Key}
use Rattle.export_core.specs.declared.log.LogItem.{LogItem}
use Rattle.export_core.specs.declared.log.LogItem.TheVariants.{Sent}
use Rattle.export_core.specs.declared.log.Sending.{Sending}
use Rattle.export_core.specs.declared.marks.Mark.{Mark}
use Rattle.export_core.specs.declared.passing.ExportSpec.{ExportSpec}
use Rattle.export_core.specs.Calls.{IsNews, IsQuiet, Pops, Pushes, PushesOut, PushesQuietly, Takes}
use Rattle.export_core.specs.Calls as calls
use Rattle.export_core.specs.Candidates.{among, key_of_entry, told_of}
use Rattle.export_core.specs.Candidates as exporter_keys
use Rattle.export_core.specs.Histories.{change_of}
use Rattle.export_core.specs.Keys.{same_key}
use Rattle.export_core.specs.Logs.{account, stretch, value_of}
use Rattle.export_core.specs.Marks.{is_due, joined}
use Rattle.export_core.specs.Marks as exporter
use Rattle.export_core.specs.Passing.{passed}
use Rattle.export_core.specs.Standing.{standing_at}
use Rattle.export_core.specs.States.{State, reach, reach_of, value_for}
use Rattle.export_core.proofs.Keys.{key_tells, same_key_itself}
use Rattle.export_core.proofs.Taking.{reach-max, same_value as same_values}
use Rattle.core_machine.specs.Channels.{Channel, answer, is_open, logged, new_channel, push_one, pushed, same_value, send_of, take_one, taken, value_at}
use Rattle.core_machine.specs.Enters.{change_to}
use Rattle.core_machine.specs.Histories.{content_of, front}
use Rattle.core_machine.specs.Machine.{gain, gained}
use Rattle.core_machine.specs.Marks.{AreOnce, Marked, find, marked_keys, put}
use Rattle.core_machine.specs.Match.{IsNextEntry, IsSpecOf, IsWithin, Matches, MatchesRead, Resembles, change_of_sending, mark_of}
use Rattle.core_machine.specs.Pipes.{candidate, heeds, is_pipe, key_of, passes}
use Rattle.core_machine.specs.Rules.{Rules, best_of}
use Rattle.core_machine.proofs.Contents.{entry_lt, eqb_yes, front_more, front_next, if_false, if_true, none_some, some_same}
use Rattle.core_machine.proofs.Entering.{content_key}
use Rattle.core_machine.proofs.MarkOrder.{keys_put}
use Rattle.core_machine.proofs.MarkSteps.{find_here, find_past, find_put, find_put_other, once_put, was_due}
use Rattle.core_machine.proofs.OneChannel.{both, heeds_pipe, heeds_plain, pipe_candidate, pipe_key, plain_candidate, plain_key, stretch_logged}

lt_yes : (a b : ℕ) → a < b → nat_lt a b ≡ true
lt_yes a b w = grind (arith, nat_tests)

lt_no : (a b : ℕ) → b ≤ a → nat_lt a b ≡ false
lt_no a b w = grind (arith, nat_tests)

-- marks with equal parts
pub mark_same : (a b : ℕ) (x y : Option Route) (d f : Bool) → a ≡ b → x ≡ y → d ≡ f → (let m : Mark = record { at = a; candidate = x; due = d } in m) ≡ record { at = b; candidate = y; due = f }
mark_same a b x y d f ea ex ed = λ i. record { at = ea i; candidate = ex i; due = ed i }

module _ (g : Rules) (c : ℕ) (h : List Change) where
  pub some_mark : (k : Key) (o : Option Marked) → is_some (option_map (mark_of g c h k) o) ≡ is_some o
  some_mark k None = refl
  some_mark k (Some m) = refl

  pub due_mark : (k : Key) (o : Option Marked) → is_due (option_map (mark_of g c h k) o) ≡ was_due o
  due_mark k None = refl
  due_mark k (Some m) = refl

and_no : (b : Bool) → (b && false) ≡ false
and_no true = refl
and_no false = refl

-- the same value of each route, and so of a candidate
pub passed_same : (f g : Key → Route → Option Attrs) → ((k : Key) (r : Route) → f k r ≡ g k r) → (k : Key) (o : Option Route) → passed f k o ≡ passed g k o
passed_same f g same k None = refl
passed_same f g same k (Some r) = same k r

-- ---- what an exporter goes by

module _ (g : Rules) (c : ℕ) (spec : ExportSpec) (is : IsSpecOf g c spec) where
  pub heeds_same : (num : ℕ) → exporter_keys.heeds spec num ≡ heeds g c num
  heeds_same num = elim (is_pipe g c) as (λ b. is_pipe g c ≡ b → exporter_keys.heeds spec num ≡ heeds g c num) [
    | true ↦ λ q. ap (λ e. not e || among num spec.sources) (is.every ∙ q) ∙ is.sources q num ∙ sym (heeds_pipe g c num q)
    | false ↦ λ q. ap (λ e. not e || among num spec.sources) (is.every ∙ q) ∙ sym (heeds_plain g c num q)
  ] refl

  pub key_same : (read : JEntry) → key_of_entry spec read ≡ key_of g c (change_of read)
  key_same read = ap (λ (b : Bool). let k : Key = record { net = read.net; num = (if b then read.num else 0) } in k) is.every

  -- the candidate that an entry tells behind its change
  pub told_behind : (h : List Change) (read : JEntry) → read.best ≡ best_of g read.net (change_of read ∷ h) → heeds g c read.num ≡ true → told_of spec read ≡ candidate g c (key_of g c (change_of read)) (change_of read ∷ h)
  told_behind h read best heed =
      let x = change_of read in
      let k = key_of g c x in
      let f = x ∷ h in
      elim (is_pipe g c) as (λ b. is_pipe g c ≡ b → told_of spec read ≡ candidate g c k f) [
        | true ↦ λ q. ap (λ e. if e then read.new else read.best) (is.every ∙ q)
            ∙ sym (pipe_candidate g c k (content_of f) q
            ∙ ap (λ b. if b then content_of f k.net k.num else None) (ap (passes g c) (pipe_key g c x q) ∙ sym (heeds_pipe g c read.num q) ∙ heed)
            ∙ ap (content_of f k.net) (pipe_key g c x q)
            ∙ content_key x h x.net x.num
            ∙ if_true (same_key (record { net = x.net; num = x.num }) (record { net = x.net; num = x.num })) x.new (content_of h x.net x.num) (same_key_itself (record { net = x.net; num = x.num })))
        | false ↦ λ q. ap (λ e. if e then read.new else read.best) (is.every ∙ q) ∙ best
            ∙ sym (plain_candidate g c k (content_of f) q ∙ if_true (k.num == 0) (g.choose (content_of f k.net)) None (eqb_yes k.num 0 (plain_key g c x q)))
      ] refl

  pub told_same : (h : List Change) (ch : Channel) (read : JEntry) → IsNextEntry g h ch read → heeds g c read.num ≡ true → told_of spec read ≡ candidate g c (key_of g c (change_of read)) (front (ch.position + 1) h)
  told_same h ch read next heed =
      let more = front_next ch.position h (change_of read) next.change in
      told_behind (front ch.position h) read (next.best ∙ ap (best_of g read.net) more) heed ∙ ap (candidate g c (key_of g c (change_of read))) (sym more)

-- ---- what holds of each channel

no : {A : Type 0} → true ≡ false → A
no e = absurd (let bad : true ≡ false = e in cc)

-- the position is raised
moved_within : (head : ℕ) (ch : Channel) (at : ℕ) → is_open ch ≡ true → at ≤ head → IsWithin head ch → IsWithin head (record ch { position = at })
moved_within head ch at up le w = record { once = w.once; idle = λ shut. no (sym up ∙ shut); read = λ _. (le, (w.read up).1); marks = w.marks }

-- and a key is marked there
marked_within : (head : ℕ) (ch : Channel) (k : Key) (at : ℕ) → is_open ch ≡ true → at ≤ head → at ≤ head → IsWithin head ch → IsWithin head (record ch { position = at; marks = put (record { key = k; at = at; due = false }) ch.marks })
marked_within head ch k at up le also w =
    let m : Marked = record { key = k; at = at; due = false } in
    let p = find_put m ch.marks in
    record {
      once = once_put m ch.marks w.once;
      idle = λ shut. no (sym up ∙ shut);
      read = λ _. (le, (w.read up).1);
      marks = λ q x e. elim (key_tells k q) [
        | inl z ↦ let same : p.mark ≡ x = some_same (sym p.there ∙ ap (λ n. find n (put m ch.marks)) z.1 ∙ e) in subst (λ (y : Marked). y.at ≤ head) same (omega (arith, p.at_is))
        | inr z ↦ w.marks q x (sym (find_put_other q m ch.marks z.1) ∙ e)
      ];
    }

-- the first mark is taken out
popped_within : (head : ℕ) (ch : Channel) (x : Marked) (xs : List Marked) (log : List LogItem) → ch.marks ≡ x ∷ xs → is_some (stretch log) ≡ is_open ch → IsWithin head ch → IsWithin head (record ch { marks = xs; log = log })
popped_within head ch x xs log is same w =
    let once = subst AreOnce is w.once in
    record {
      once = once.1;
      idle = λ shut. absurd (let bad : x ∷ xs ≡ [] = sym is ∙ w.idle (sym same ∙ shut) in cc);
      read = λ up. w.read (sym same ∙ up);
      marks = λ q y e. elim (key_tells x.key q) [
        | inl z ↦ absurd (none_some (sym (ap (λ n. find n xs) (sym z.1) ∙ once.0) ∙ e))
        | inr z ↦ w.marks q y (ap (find q) is ∙ find_past q x xs z.1 ∙ e)
      ];
    }

module _ {J : Type 0} (verdict : J → Net → Route → Verdict) (g : Rules) (c : ℕ) (h : List Change) where
  pub kept_value : (e e' : State J) → e'.spec ≡ e.spec → e'.judge ≡ e.judge → ((k : Key) (r : Route) → value_for verdict e k r ≡ g.value c k r) → (k : Key) (r : Route) → value_for verdict e' k r ≡ g.value c k r
  kept_value e e' es ej v k r = ap (λ f. f k r) (sym (same_values verdict e e' es ej)) ∙ v k r

  pub kept_spec : (e e' : State J) → e'.spec ≡ e.spec → IsSpecOf g c e.spec → IsSpecOf g c e'.spec
  kept_spec e e' es s = subst (IsSpecOf g c) (sym es) s

  module _ (read : JEntry) (e e' : State J) (ch : Channel) where
    taken_matches : (pos : ℕ) → is_open ch ≡ true → pos ≡ e.position + 1 → IsNextEntry g h ch read → Takes pos read e e' → MatchesRead verdict g c h e ch → MatchesRead verdict g c h e' (taken g c (Some (change_of read)) ch)
    taken_matches pos up ep next t m =
        let at = ch.position + 1 in
        let x = change_of read in
        let own = key_of g c x in
        let mark : Marked = record { key = own; at = at; due = false } in
        let r = m.resembles in
        let here : pos ≡ at = ep ∙ ap (λ n. n + 1) r.position in
        let reached : (k : Key) → reach_of e' k ≡ max at ch.floor = λ k. t.read k ∙ reach-max pos e.position k e.floors (omega arith) ∙ ap (λ n. max pos n) (m.read k) ∙ omega (arith, here) in
        let below = entry_lt ch.position h x next.change in
        let ek : key_of_entry e.spec read ≡ own = key_same g c e.spec r.spec read in
        let low : nat_lt (reach_of e (key_of_entry e.spec read)) pos ≡ nat_lt ch.floor at = ap (λ n. nat_lt n pos) (m.read (key_of_entry e.spec read)) ∙ elim (cases_lt ch.floor at) [
          | inl w ↦ lt_yes (max ch.position ch.floor) pos (omega arith) ∙ sym (lt_yes ch.floor at w)
          | inr w ↦ lt_no (max ch.position ch.floor) pos (omega arith) ∙ sym (lt_no ch.floor at w)
        ] in
        let test = nat_lt ch.floor at && heeds g c x.num in
        let tested : (nat_lt (reach_of e (key_of_entry e.spec read)) pos && exporter_keys.heeds e.spec read.num) ≡ test = ap (λ b. b && exporter_keys.heeds e.spec read.num) low ∙ ap (λ b. nat_lt ch.floor at && b) (heeds_same g c e.spec r.spec read.num) in
        let fresh : Mark = calls.mark_of e.spec pos read in
        let marked : (k : Key) → exporter.find k e'.marks ≡ (if same_key own k && test then Some (joined (exporter.find k e.marks) fresh) else exporter.find k e.marks)
        = λ k. t.marks k ∙ ap (λ q. if same_key q k && (nat_lt (reach_of e (key_of_entry e.spec read)) pos && exporter_keys.heeds e.spec read.num) then Some (joined (exporter.find k e.marks) fresh) else exporter.find k e.marks) ek
        ∙ ap (λ b. if same_key own k && b then Some (joined (exporter.find k e.marks) fresh) else exporter.find k e.marks) tested in
        let ordered : keys_of e'.marks ≡ (if test then calls.order_with own e.marks else keys_of e.marks)
        = t.order ∙ ap (λ b. if b then calls.order_with (key_of_entry e.spec read) e.marks else keys_of e.marks) tested ∙ ap (λ q. if test then calls.order_with q e.marks else keys_of e.marks) ek in
        elim test as (λ b. test ≡ b → MatchesRead verdict g c h e' (record ch { position = at; marks = (if b then put mark ch.marks else ch.marks) })) [
          | true ↦ λ yes_test.
              let p = find_put mark ch.marks in
              record {
                within = marked_within (length h) ch own at up (omega (arith, below)) (omega (arith, below)) m.within;
                resembles = record {
                  spec = kept_spec e e' t.spec r.spec;
                  value = kept_value e e' t.spec t.judge r.value;
                  position = t.position ∙ here;
                  order = ordered ∙ ap (λ b. if b then calls.order_with own e.marks else keys_of e.marks) yes_test
                      ∙ ap (λ b. if b then keys_of e.marks else keys_of e.marks ++ own ∷ []) (ap (λ o. is_some o) (r.marks own) ∙ some_mark g c h own (find own ch.marks))
                      ∙ ap (λ l. if is_some (find own ch.marks) then l else l ++ own ∷ []) r.order ∙ sym (keys_put mark ch.marks);
                  marks = λ k. marked k ∙ ap (λ b. if same_key own k && b then Some (joined (exporter.find k e.marks) fresh) else exporter.find k e.marks) yes_test ∙ elim (key_tells own k) [
                    | inl z ↦ ap (λ b. if b && true then Some (joined (exporter.find k e.marks) fresh) else exporter.find k e.marks) z.0
                        ∙ ap Some (mark_same pos p.mark.at (told_of e.spec read) (candidate g c k (front p.mark.at h)) (is_due (exporter.find k e.marks)) p.mark.due (here ∙ sym p.at_is)
                        (told_same g c e.spec r.spec h ch read next (both (nat_lt ch.floor at) (heeds g c x.num) yes_test).1 ∙ ap (λ n. candidate g c n (front at h)) z.1 ∙ ap (λ n. candidate g c k (front n h)) (sym p.at_is))
                        (ap is_due (r.marks k) ∙ due_mark g c h k (find k ch.marks) ∙ ap (λ n. was_due (find n ch.marks)) (sym z.1) ∙ sym p.due_is))
                        ∙ sym (ap (option_map (mark_of g c h k)) (ap (λ n. find n (put mark ch.marks)) (sym z.1) ∙ p.there))
                    | inr z ↦ ap (λ b. if b && true then Some (joined (exporter.find k e.marks) fresh) else exporter.find k e.marks) z.0
                        ∙ r.marks k ∙ ap (option_map (mark_of g c h k)) (sym (find_put_other k mark ch.marks z.1))
                  ];
                  log = ap reverse t.log ∙ r.log;
                };
                read = reached;
                feed = t.feed ∙ m.feed;
              }
          | false ↦ λ no_test. record {
            within = moved_within (length h) ch at up (omega (arith, below)) m.within;
            resembles = record {
              spec = kept_spec e e' t.spec r.spec;
              value = kept_value e e' t.spec t.judge r.value;
              position = t.position ∙ here;
              order = ordered ∙ ap (λ b. if b then calls.order_with own e.marks else keys_of e.marks) no_test ∙ r.order;
              marks = λ k. marked k ∙ if_false (same_key own k && test) (Some (joined (exporter.find k e.marks) fresh)) (exporter.find k e.marks) (ap (λ b. same_key own k && b) no_test ∙ and_no (same_key own k)) ∙ r.marks k;
              log = ap reverse t.log ∙ r.log;
            };
            read = reached;
            feed = t.feed ∙ m.feed;
          }
        ] refl

    pub take_matches : (pos : ℕ) → is_open ch ≡ true → pos ≡ e.position + 1 → IsNextEntry g h ch read → Takes pos read e e' → Matches verdict g c h e ch → Matches verdict g c h e' (take_one g c h ch)
    take_matches pos up ep next t m = record { like = subst (λ o. MatchesRead verdict g c h e' (taken g c o ch)) (sym next.change) (taken_matches pos up ep next t m.like); rest = t.flushing ∙ m.rest }

-- ---- pushes

nil_of : (ms : List Marked) → marked_keys ms ≡ [] → ms ≡ []
nil_of [] e = refl
nil_of (m ∷ ms) e = absurd (let bad : m.key ∷ marked_keys ms ≡ [] = e in cc)

-- what stands needs no sending
quiet_send : (v last : Option Attrs) (due : Bool) → IsQuiet due v last → send_of (same_value v last) due (is_some v) ≡ None
quiet_send v last due q = ap (λ b. send_of b due (is_some v)) (same_yes v last q.0) ∙ by_due due v q.1 where
  same_yes : (a b : Option Attrs) → a ≡ b → same_value a b ≡ true
  same_yes None None e = refl
  same_yes None (Some y) e = absurd (none_some e)
  same_yes (Some x) None e = absurd (none_some (sym e))
  same_yes (Some x) (Some y) e = (attrs_decides x y).1 (some_same e)

  by_due : (due : Bool) (v : Option Attrs) → (due ≡ true → v ≡ None) → (if due && is_some v then Some true else None) ≡ None
  by_due true v none = ap (λ o. if true && is_some o then Some true else None) (none refl)
  by_due false v none = refl

-- and news is sent, as what it is
news_send : (v last : Option Attrs) (due again : Bool) → IsNews due v last again → send_of (same_value v last) due (is_some v) ≡ Some again
news_send v last due true n =
    let e = n.equal refl in
    ap (λ b. send_of b due (is_some v)) (same_yes v last e.0) ∙ ap (λ b. if b && is_some v then Some true else None) e.1 ∙ ap (λ b. if b then Some true else None) e.2 where
      same_yes : (a b : Option Attrs) → a ≡ b → same_value a b ≡ true
      same_yes None None e = refl
      same_yes None (Some y) e = absurd (none_some e)
      same_yes (Some x) None e = absurd (none_some (sym e))
      same_yes (Some x) (Some y) e = (attrs_decides x y).1 (some_same e)
news_send v last due false n = ap (λ b. send_of b due (is_some v)) (differ v last (n.changed refl)) where
  by_test : (x y : Attrs) (b : Bool) → (attributes.ghosts).eq x y ≡ b → Some x ≢ Some y → b ≡ false
  by_test x y true e other = absurd (other (ap (λ z. Some z) ((attrs_decides x y).0 e)))
  by_test x y false e other = refl

  differ : (a b : Option Attrs) → a ≢ b → same_value a b ≡ false
  differ None None other = absurd (other refl)
  differ None (Some y) other = refl
  differ (Some x) None other = refl
  differ (Some x) (Some y) other = by_test x y (same_value (Some x) (Some y)) refl other

-- a sending with equal parts
sending_same : (x : Sending) (at : ℕ) (k : Key) (v : Option Attrs) → x.at ≡ at → x.key ≡ k → x.value ≡ v → x ≡ record { at = at; key = k; value = v; again = x.again }
sending_same x at k v ea ek ev = λ i. record { at = ea i; key = ek i; value = ev i; again = x.again }

module _ {J : Type 0} (verdict : J → Net → Route → Verdict) (g : Rules) (c : ℕ) (h : List Change) where
  -- what is known of the first mark
  record IsHead (k : Key) (m : Mark) (x : Marked) (xs : List Marked) (e e' : State J) : Type 0 where
    key : k ≡ x.key
    mark : m ≡ mark_of g c h x.key x
    order : keys_of e'.marks ≡ marked_keys xs
    marks : (q : Key) → exporter.find q e'.marks ≡ option_map (mark_of g c h q) (find q xs)
    value : passed (value_for verdict e) k m.candidate ≡ value_at g c h x
    standing : (log : List LogItem) → reverse e.log ≡ log → standing_at k e.log ≡ value_of (account x.key log)

  pops_head : (k : Key) (m : Mark) (x : Marked) (xs : List Marked) (e e' : State J) (ch : Channel) → ch.marks ≡ x ∷ xs → AreOnce (x ∷ xs) → Pops k m e e' → Resembles verdict g c h e ch → IsHead k m x xs e e'
  pops_head k m x xs e e' ch is once p r =
      let order : keys_of e.marks ≡ x.key ∷ marked_keys xs = r.order ∙ ap marked_keys is in
      let ek : k ≡ x.key = some_same (sym p.first ∙ ap (λ l. slice_get l 0) order) in
      let there : find x.key ch.marks ≡ Some x = ap (find x.key) is ∙ find_here x xs in
      let em : m ≡ mark_of g c h x.key x = some_same (sym p.mark ∙ ap (λ q. exporter.find q e.marks) ek ∙ r.marks x.key ∙ ap (option_map (mark_of g c h x.key)) there) in
      record {
        key = ek;
        mark = em;
        order = p.order ∙ ap (drop 1) order;
        marks = λ q. p.marks q ∙ elim (key_tells k q) [
          | inl w ↦ if_true (same_key k q) None (exporter.find q e.marks) w.0 ∙ sym (ap (option_map (mark_of g c h q)) (ap (λ n. find n xs) (sym w.1 ∙ ek) ∙ once.0))
          | inr w ↦ if_false (same_key k q) None (exporter.find q e.marks) w.0 ∙ r.marks q ∙ ap (option_map (mark_of g c h q)) (ap (find q) is ∙ find_past q x xs (λ z. w.1 (ek ∙ z)))
        ];
        value = passed_same (value_for verdict e) (g.value c) r.value k m.candidate ∙ ap (λ (m : Mark). passed (g.value c) k m.candidate) em ∙ ap (λ q. passed (g.value c) q (candidate g c x.key (front x.at h))) ek;
        standing = λ log el. ap (λ l. value_of (account k l)) el ∙ ap (λ q. value_of (account q log)) ek;
      }

  popped_matches : (k : Key) (m : Mark) (x : Marked) (xs : List Marked) (e e' : State J) (ch : Channel) (log : List LogItem) → ch.marks ≡ x ∷ xs → is_some (stretch log) ≡ is_open ch → IsHead k m x xs e e' → Pops k m e e' → reverse e'.log ≡ log → MatchesRead verdict g c h e ch → MatchesRead verdict g c h e' (record ch { marks = xs; log = log })
  popped_matches k m x xs e e' ch log is same head p el s = record {
    within = popped_within (length h) ch x xs log is same s.within;
    resembles = record {
      spec = kept_spec verdict g c h e e' p.spec s.resembles.spec;
      value = kept_value verdict g c h e e' p.spec p.judge s.resembles.value;
      position = p.position ∙ s.resembles.position;
      order = head.order;
      marks = head.marks;
      log = el;
    };
    read = λ q. ap (λ n. reach n e'.floors q) p.position ∙ ap (λ fs. reach e.position fs q) p.floors ∙ s.read q;
    feed = p.feed ∙ s.feed;
  }

  pushed_matches : (answer : Pushed) (told told' : Option (List Sending)) (e e' : State J) (ch : Channel) (ms : List Marked) → ch.marks ≡ ms → AreOnce ms → Pushes verdict e e' told told' answer → MatchesRead verdict g c h e ch → MatchesRead verdict g c h e' (pushed g c h ms ch)
  pushed_matches answers.Nothing told told' e e' ch [] is once p s = subst (λ e. MatchesRead verdict g c h e ch) (sym p.1) s
  pushed_matches answers.Nothing told told' e e' ch (x ∷ xs) is once p s = absurd (let bad : x.key ∷ marked_keys xs ≡ [] = sym (s.resembles.order ∙ ap marked_keys is) ∙ ap keys_of p.0 in cc)
  pushed_matches answers.Quiet told told' e e' ch [] is once p s = absurd (none_some (sym (ap (λ l. slice_get l 0) (s.resembles.order ∙ ap marked_keys is)) ∙ p.2.pops.first))
  pushed_matches answers.Quiet told told' e e' ch (x ∷ xs) is once p s =
      let k = p.0 in
      let m = p.1 in
      let head = pops_head k m x xs e e' ch is once p.2.pops s.resembles in
      let v = value_at g c h x in
      let last = value_of (account x.key ch.log) in
      let quiet : IsQuiet x.due v last = subst (λ d. IsQuiet d v last) (ap (λ (m : Mark). m.due) head.mark)
      (subst (λ w. IsQuiet m.due w last) head.value (subst (IsQuiet m.due (passed (value_for verdict e) k m.candidate)) (head.standing ch.log s.resembles.log) p.2.quiet)) in
      popped_matches k m x xs e e' ch (logged (send_of (same_value v last) x.due (is_some v)) x v ch.log) is (ap (λ o. is_some o) (stretch_logged (send_of (same_value v last) x.due (is_some v)) x v ch.log)) head p.2.pops
      (ap reverse p.2.log ∙ s.resembles.log ∙ sym (ap (λ o. logged o x v ch.log) (quiet_send v last x.due quiet))) s
  pushed_matches answers.Sent told told' e e' ch [] is once p s = absurd (none_some (sym (ap (λ l. slice_get l 0) (s.resembles.order ∙ ap marked_keys is)) ∙ p.2.pops.first))
  pushed_matches answers.Sent told told' e e' ch (x ∷ xs) is once p s =
      let m = p.0 in
      let sent = p.1 in
      let k = sent.key in
      let head = pops_head k m x xs e e' ch is once p.2.pops s.resembles in
      let v = value_at g c h x in
      let last = value_of (account x.key ch.log) in
      let ev : sent.value ≡ v = p.2.value ∙ head.value in
      let news : IsNews x.due v last sent.again = subst (λ d. IsNews d v last sent.again) (ap (λ (m : Mark). m.due) head.mark)
      (subst (λ w. IsNews m.due w last sent.again) ev (subst (λ l. IsNews m.due sent.value l sent.again) (head.standing ch.log s.resembles.log) p.2.news)) in
      let item : sent ≡ record { at = x.at; key = x.key; value = v; again = sent.again } = sending_same sent x.at x.key v (p.2.at ∙ ap (λ (m : Mark). m.at) head.mark) head.key ev in
      popped_matches k m x xs e e' ch (logged (send_of (same_value v last) x.due (is_some v)) x v ch.log) is (ap (λ o. is_some o) (stretch_logged (send_of (same_value v last) x.due (is_some v)) x v ch.log)) head p.2.pops
      (ap reverse p.2.log ∙ reverse-append e.log (Sent sent ∷ []) ∙ ap (λ l. Sent sent ∷ l) s.resembles.log ∙ ap (λ y. Sent y ∷ ch.log) item ∙ sym (ap (λ o. logged o x v ch.log) (news_send v last x.due sent.again news))) s

  steady : (answer : Pushed) (told told' : Option (List Sending)) (e e' : State J) → Pushes verdict e e' told told' answer → e'.flushing ≡ e.flushing
  steady answers.Nothing told told' e e' p = ap (λ (e : State J). e.flushing) p.1
  steady answers.Quiet told told' e e' p = p.2.pops.flushing
  steady answers.Sent told told' e e' p = p.2.pops.flushing

  pub push_matches : (answer : Pushed) (told told' : Option (List Sending)) (e e' : State J) (ch : Channel) → Pushes verdict e e' told told' answer → Matches verdict g c h e ch → Matches verdict g c h e' (push_one g c h ch)
  push_matches answer told told' e e' ch p s = record { like = pushed_matches answer told told' e e' ch ch.marks refl s.like.within.once p s.like; rest = steady answer told told' e e' p ∙ s.rest }

  -- ---- what comes of a push in the table that is written

  none_pops : (k : Key) (m : Mark) (e e' : State J) (ch : Channel) → ch.marks ≡ [] → Pops k m e e' → Resembles verdict g c h e ch → ⊥
  none_pops k m e e' ch is p r = none_some (sym (ap (λ l. slice_get l 0) (r.order ∙ ap marked_keys is)) ∙ p.first)

  sent_gains : (m : Mark) (x : Sending) (e e' : State J) (ch : Channel) (ms : List Marked) → ch.marks ≡ ms → AreOnce ms → PushesOut verdict m x e e' → MatchesRead verdict g c h e ch → gained g c h ms ch ≡ change_of_sending g x
  sent_gains m x e e' ch [] is once p s = absurd (none_pops x.key m e e' ch is p.pops s.resembles)
  sent_gains m x e e' ch (y ∷ ys) is once p s =
      let head = pops_head x.key m y ys e e' ch is once p.pops s.resembles in
      let v = value_at g c h y in
      let last = value_of (account y.key ch.log) in
      let ev : x.value ≡ v = p.value ∙ head.value in
      let news : IsNews y.due v last x.again = subst (λ d. IsNews d v last x.again) (ap (λ (m : Mark). m.due) head.mark)
      (subst (λ w. IsNews m.due w last x.again) ev (subst (λ l. IsNews m.due x.value l x.again) (head.standing ch.log s.resembles.log) p.news)) in
      ap (λ o. gain g o y v) (news_send v last y.due x.again news) ∙ by_again x.again v y.key ev head.key where
        by_again : (again : Bool) (v : Option Attrs) (k : Key) → x.value ≡ v → x.key ≡ k → gain g (Some again) y v ≡ (if again then None else Some (change_to g x.key x.value))
        by_again true v k ev ek = refl
        by_again false v k ev ek = ap (λ w. Some (change_to g y.key w)) (sym ev) ∙ ap (λ k. Some (change_to g k x.value)) (sym (pops_head x.key m y ys e e' ch is once p.pops s.resembles).key)

  pub sent_enters : (m : Mark) (x : Sending) (e e' : State J) (ch : Channel) → PushesOut verdict m x e e' → Matches verdict g c h e ch → gained g c h ch.marks ch ≡ change_of_sending g x
  sent_enters m x e e' ch p s = sent_gains m x e e' ch ch.marks refl s.like.within.once p s.like

  quiet_gains : (k : Key) (m : Mark) (e e' : State J) (ch : Channel) (ms : List Marked) → ch.marks ≡ ms → AreOnce ms → PushesQuietly verdict k m e e' → MatchesRead verdict g c h e ch → gained g c h ms ch ≡ None
  quiet_gains k m e e' ch [] is once p s = refl
  quiet_gains k m e e' ch (y ∷ ys) is once p s =
      let head = pops_head k m y ys e e' ch is once p.pops s.resembles in
      let v = value_at g c h y in
      let last = value_of (account y.key ch.log) in
      let quiet : IsQuiet y.due v last = subst (λ d. IsQuiet d v last) (ap (λ (m : Mark). m.due) head.mark)
      (subst (λ w. IsQuiet m.due w last) head.value (subst (IsQuiet m.due (passed (value_for verdict e) k m.candidate)) (head.standing ch.log s.resembles.log) p.quiet)) in
      ap (λ o. gain g o y v) (quiet_send v last y.due quiet)

  pub quiet_enters : (k : Key) (m : Mark) (e e' : State J) (ch : Channel) → PushesQuietly verdict k m e e' → Matches verdict g c h e ch → gained g c h ch.marks ch ≡ None
  quiet_enters k m e e' ch p s = quiet_gains k m e e' ch ch.marks refl s.like.within.once p s.like

  pub nothing_enters : (e : State J) (ch : Channel) → e.marks ≡ [] → Matches verdict g c h e ch → gained g c h ch.marks ch ≡ None
  nothing_enters e ch none s = ap (λ ms. gained g c h ms ch) (nil_of ch.marks (sym s.like.resembles.order ∙ ap keys_of none))

  -- ---- a new exporter, and a longer history

  pub new_matches : (e : State J) → IsSpecOf g c e.spec → ((k : Key) (r : Route) → value_for verdict e k r ≡ g.value c k r) → e.position ≡ 0 → e.floors ≡ [] → e.feed ≡ Done → e.marks ≡ [] → e.log ≡ [] → e.flushing ≡ false → Matches verdict g c h e new_channel
  new_matches e spec value position floors feed marks log rest = record {
    like = record {
      within = record { once = tt; idle = λ _. refl; read = λ up. no (sym up); marks = λ k m none. absurd (none_some none) };
      resembles = record {
        spec = spec;
        value = value;
        position = position;
        order = ap keys_of marks;
        marks = λ k. ap (exporter.find k) marks;
        log = ap reverse log;
      };
      read = λ k. ap (λ n. reach n e.floors k) position ∙ ap (λ fs. reach 0 fs k) floors;
      feed = feed;
    };
    rest = rest;
  }

  longer_mark : (x : Change) (k : Key) (o : Option Marked) → ((m : Marked) → o ≡ Some m → m.at ≤ length h) → option_map (mark_of g c h k) o ≡ option_map (mark_of g c (x ∷ h) k) o
  longer_mark x k None low = refl
  longer_mark x k (Some m) low = ap Some (mark_same m.at m.at (candidate g c k (front m.at h)) (candidate g c k (front m.at (x ∷ h))) m.due m.due refl (ap (candidate g c k) (sym (front_more m.at x h (low m refl)))) refl)

  pub longer_read : (x : Change) (e : State J) (ch : Channel) → MatchesRead verdict g c h e ch → MatchesRead verdict g c (x ∷ h) e ch
  longer_read x e ch m = record {
    within = record {
      once = m.within.once;
      idle = m.within.idle;
      read = λ up. let r = m.within.read up in (omega (arith, r.0), omega (arith, r.1));
      marks = λ k x e. let le = m.within.marks k x e in omega (arith, le);
    };
    resembles = record {
      spec = m.resembles.spec;
      value = m.resembles.value;
      position = m.resembles.position;
      order = m.resembles.order;
      marks = λ k. m.resembles.marks k ∙ longer_mark x k (find k ch.marks) (m.within.marks k);
      log = m.resembles.log;
    };
    read = m.read;
    feed = m.feed;
  }

  pub longer_matches : (x : Change) (e : State J) (ch : Channel) → Matches verdict g c h e ch → Matches verdict g c (x ∷ h) e ch
  longer_matches x e ch m = record { like = longer_read x e ch m.like; rest = m.rest }
