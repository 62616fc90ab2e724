-- A front of a history is its beginning in the order of time; of whom the routes of tables are, and the
-- best of a net's routes at each position; states between lines.
use Rattle.std.proofs.Common.{◌≡◌, ◌≢◌, ℕ, zero, suc, ◌-◌, ◌<◌, ◌≤◌, inl, inr, Bool, true, false, List, [], ◌∷◌, ◌++◌, Option, Some, None, reverse, refl, sym, ◌∙◌, ap, subst, arith, length, is_some, option_and_then, option_map}
use Rattle.std.specs.Prelude.{◌==◌, ◌||◌, IfSome, take, if◌then◌else◌}
use Rattle.std.proofs.lemmas.Bool.{cases_lt}
use Rattle.std.proofs.lemmas.Bool.Decides.{eqb_tells}
use Rattle.std.proofs.lemmas.List.{length-reverse, reverse-append, take_all, take-append-le}
use Rattle.bits_ip.specs.Prefix.{Net}
use Rattle.attrs.specs.declared.attributes.Attrs.{Attrs}
use Rattle.attrs.specs.declared.route.Change.{Change}
use Rattle.attrs.specs.declared.route.Route.{Route}
use Rattle.attrs.specs.History.{is_of}
use Rattle.attrs.specs.Selection.{IsBest}
use Rattle.export_core.specs.declared.log.Key.{Key}
use Rattle.export_core.specs.declared.log.LogItem.{LogItem}
use Rattle.export_core.specs.declared.log.LogItem.TheVariants.{Up, Down, Reload, Sent}
use Rattle.export_core.specs.declared.log.Sending.{Sending}
use Rattle.export_core.specs.Histories.{AreRoutesOf}
use Rattle.export_core.specs.Keys.{same_key}
use Rattle.export_core.specs.Logs.{stretch, account, value_of, Follows}
use Rattle.export_core.specs.Marks.{holds}
use Rattle.export_core.specs.Passing.{passed}
use Rattle.export_core.proofs.Keys.{same_key_itself}
use Rattle.export_core.proofs.Pushing.{account_right}
use Rattle.core_machine.specs.Channels.{Channel, IsFed, fed, is_open, new_channel, opened, take_one, times}
use Rattle.core_machine.specs.Enters.{change_to, enters, standing_keys, withdrawal, withdrawn}
use Rattle.core_machine.specs.Histories.{AreFrom, AreReal, content_of, front, of_those, own}
use Rattle.core_machine.specs.Lines.{Act, Line}
use Rattle.core_machine.specs.Machine.{Begins, Plays, State, if_open, push_at, start, takes}
use Rattle.core_machine.specs.Phases.{Comes}
use Rattle.core_machine.specs.Pipes.{candidate, course_of, ends_with, is_pipe, passes}
use Rattle.core_machine.specs.Rounds.{taken_up, turn_lines}
use Rattle.core_machine.specs.Rules.{IsRules, Rules, best_of}
use Rattle.core_machine.proofs.Contents.{content_more, content_own, eqb_no, eqb_yes, front_more, if_false, if_lt, if_true, none_some, those_in, those_out}
use Rattle.core_machine.proofs.Entering.{or_true, standing_told}
use Rattle.core_machine.proofs.Growing.{set_here}
use Rattle.core_machine.proofs.MarkOrder.{own_front}
use Rattle.core_machine.proofs.OneChannel.{pipe_candidate, take_log}
use Rattle.core_machine.proofs.PhaseEnds.{comes_keeps, no_route, quiet_start}
use Rattle.core_machine.proofs.Tables.{passes_is}
use Rattle.core_machine.proofs.WholeState.{IsState, begins_keeps, given, plays_keeps}

pub front_begins : (p : ℕ) (h : List Change) → reverse (front p h) ≡ take p (reverse h)
front_begins p [] = sym (take_all p [] (omega arith))
front_begins p (c ∷ h) =
    let pushed : reverse (c ∷ h) ≡ reverse h ++ c ∷ [] = reverse-append (c ∷ []) h in
    elim (cases_lt (length h) p) [
      | inl w ↦ ap reverse (front_at p (c ∷ h) (omega arith)) ∙ sym (take_all p (reverse (c ∷ h)) (omega (arith, length-reverse (c ∷ h))))
      | inr w ↦ ap reverse (front_more p c h w) ∙ front_begins p h ∙ sym (take-append-le p (reverse h) (c ∷ []) (omega (arith, length-reverse h))) ∙ ap (take p) (sym pushed)
    ] where
      front_at : (p : ℕ) (h : List Change) → length h ≤ p → front p h ≡ h
      front_at p [] le = refl
      front_at p (c ∷ h) le = let lt : length h < p = omega arith in if_lt (length h) p (c ∷ h) (front p h) lt

nothing_left : (cs xs : List Change) → [] ≡ cs ++ xs → xs ≡ []
nothing_left [] xs e = sym e
nothing_left (c ∷ cs) xs e = absurd (let bad : [] ≡ c ∷ (cs ++ xs) = e in cc)

-- ---- sources that have no change, and of whom routes are

own_those : (test : ℕ → Bool) (i : ℕ) (h : List Change) → test i ≡ true → own i h ≡ own i (of_those test h)
own_those test i [] e = refl
own_those test i (c ∷ h) e = elim (test c.num) as (λ b. test c.num ≡ b → own i (c ∷ h) ≡ own i (of_those test (c ∷ h))) [
  | true ↦ λ q. elim (c.num == i) as (λ b. (if b then c ∷ own i h else own i h) ≡ (if b then c ∷ own i (of_those test h) else own i (of_those test h))) [ true ↦ ap (λ l. c ∷ l) (own_those test i h e) | false ↦ own_those test i h e ]
      ∙ ap (own i) (sym (those_in test c h q))
  | false ↦ λ q. those_out (λ num. num == i) c h (eqb_no c.num i (λ w. let bad : true ≡ false = sym e ∙ ap test (sym w) ∙ q in cc)) ∙ own_those test i h e ∙ ap (own i) (sym (those_out test c h q))
] refl

own_withdrawn : (num : ℕ) (ks : List Key) (h : List Change) → ((k : Key) → holds k ks ≡ true → k.num ≢ num) → own num (withdrawn ks h) ≡ own num h
own_withdrawn num [] h other = refl
own_withdrawn num (k ∷ ks) h other =
    own_withdrawn num ks (withdrawal k ∷ h) (λ q e. other q (or_true (same_key k q) (holds q ks) e))
    ∙ those_out (λ n. n == num) (withdrawal k) h (eqb_no k.num num (other k (ap (λ b. b || holds k ks) (same_key_itself k))))

-- all changes of a source are from it
abbrev Sourced : List Change → Type 0
Sourced h = (num : ℕ) → AreFrom num (own num h)

sourced_more : (c : Change) (h : List Change) → IfSome c.new (λ (r : Route). r.src.num ≡ c.num) → Sourced h → Sourced (c ∷ h)
sourced_more c h is s num = elim (eqb_tells c.num num) [
  | inl w ↦ subst (AreFrom num) (sym (those_in (λ n. n == num) c h w.0)) (record { change = w.1; route = subst (λ n. IfSome c.new (λ (r : Route). r.src.num ≡ n)) w.1 is }, s num)
  | inr w ↦ subst (AreFrom num) (sym (those_out (λ n. n == num) c h w.0)) (s num)
]

sourced_withdrawn : (ks : List Key) (h : List Change) → Sourced h → Sourced (withdrawn ks h)
sourced_withdrawn [] h s = s
sourced_withdrawn (k ∷ ks) h s = sourced_withdrawn ks (withdrawal k ∷ h) (sourced_more (withdrawal k) h tt s)

from_tail : (num : ℕ) (cs h : List Change) → AreFrom num (cs ++ h) → AreFrom num h
from_tail num [] h a = a
from_tail num (c ∷ cs) h a = from_tail num cs h a.1

content_from : (num : ℕ) (h : List Change) → AreFrom num h → (net : Net) (r : Route) → content_of h net num ≡ Some r → r.src.num ≡ num
content_from num [] a net r e = absurd (none_some e)
content_from num (c ∷ h) a net r e = elim (is_of net num c) as (λ b. (if b then c.new else content_of h net num) ≡ Some r → r.src.num ≡ num) [
  | true ↦ λ q. subst (λ o. IfSome o (λ (r : Route). r.src.num ≡ num)) q a.0.route
  | false ↦ λ q. content_from num h a.1 net r q
] (sym (content_more c h net num) ∙ e)

module _ (g : Rules) (ok : IsRules g) where
  -- what is entered tells its source
  sourced_enters : (log : List LogItem) → Sourced (enters g log)
  sourced_enters [] num = tt
  sourced_enters (Up h ∷ log) num = sourced_enters log num
  sourced_enters (Down ∷ log) num = sourced_withdrawn (standing_keys log) (enters g log) (sourced_enters log) num
  sourced_enters (Reload ∷ log) num = sourced_enters log num
  sourced_enters (Sent x ∷ log) num = elim x.again as (λ b. AreFrom num (own num (if b then enters g log else change_to g x.key x.value ∷ enters g log))) [
    | true ↦ sourced_enters log num
    | false ↦ sourced_more (change_to g x.key x.value) (enters g log) (made x.key.num x.value) (sourced_enters log) num
  ] where
    made : (i : ℕ) (v : Option Attrs) → IfSome (option_map (g.route i) v) (λ (r : Route). r.src.num ≡ i)
    made i None = tt
    made i (Some v) = ok.source i v

  -- ---- a source without changes in the table that is read has none in the one that is written

  blank : (d : ℕ) (k : Key) (p : ℕ) (h : List Change) → is_pipe g d ≡ true → own k.num h ≡ [] → candidate g d k (front p h) ≡ None
  blank d k p h e none =
      let f = own_front k.num p h in
      let gone : content_of (front p h) k.net k.num ≡ None = content_own k.net k.num (front p h) ∙ ap (λ l. content_of l k.net k.num) (nothing_left f.0 (own k.num (front p h)) (sym none ∙ f.1)) in
      pipe_candidate g d k (content_of (front p h)) e ∙ elim (passes g d k.num) as (λ b. (if b then content_of (front p h) k.net k.num else None) ≡ None) [ true ↦ gone | false ↦ refl ]

  never_stands : (d : ℕ) (h : List Change) (log : List LogItem) (k : Key) → is_pipe g d ≡ true → Follows (g.value d) (course_of g d h) log → own k.num h ≡ [] → value_of (account k log) ≡ None
  never_stands d h log k e f none = elim (account k log).last as (λ o. (account k log).last ≡ o → option_and_then (λ (y : Sending). y.value) o ≡ None) [
    | None ↦ λ z. refl
    | Some x ↦ λ z. account_right (g.value d) (course_of g d h) k log f x z ∙ ap (passed (g.value d) k) (blank d k x.at h e none)
  ] refl

  none_entered : (d : ℕ) (h : List Change) (log : List LogItem) (num : ℕ) → is_pipe g d ≡ true → Follows (g.value d) (course_of g d h) log → own num h ≡ [] → own num (enters g log) ≡ []
  none_entered d h [] num e f none = refl
  none_entered d h (Up p ∷ log) num e f none = none_entered d h log num e f.0 none
  none_entered d h (Down ∷ log) num e f none = own_withdrawn num (standing_keys log) (enters g log)
      (λ k is same. let bad : false ≡ true = sym (ap is_some (never_stands d h log k e f.0 (subst (λ n. own n h ≡ []) (sym same) none))) ∙ sym (standing_told k log) ∙ is in cc)
      ∙ none_entered d h log num e f.0 none
  none_entered d h (Reload ∷ log) num e f none = none_entered d h log num e f.0 none
  none_entered d h (Sent x ∷ log) num e f none = elim x.again as (λ b. x.again ≡ b → own num (if b then enters g log else change_to g x.key x.value ∷ enters g log) ≡ []) [
    | true ↦ λ q. none_entered d h log num e f.0 none
    | false ↦ λ q. those_out (λ n. n == num) (change_to g x.key x.value) (enters g log) (eqb_no x.key.num num (λ same.
        let gone : own x.key.num h ≡ [] = subst (λ n. own n h ≡ []) (sym same) none in
        f.1.changed q (f.1.right ∙ ap (passed (g.value d) x.key) (blank d x.key x.at h e gone) ∙ sym (never_stands d h log x.key e f.0 gone))))
        ∙ none_entered d h log num e f.0 none
  ] refl

  -- ---- of a state

  by_way : (s : State) → IsState g ok s → (ds : List ℕ) (t num : ℕ) → g.hops t num ≡ Some ds → g.protocols ≤ num → own num (s.history t) ≡ []
  by_way s is [] t num e le = ap (λ n. own num (s.history n)) (sym (ok.ways.only_home t num e)) ∙ is.exact.exact num ∙ ok.absent num (given s num) le
  by_way s is (d ∷ ds) t num e le =
      let chain = ok.ways.chain t num d ds e in
      let pass : passes g d num ≡ true = passes_is g d t num chain.0 ∙ ap (ends_with d) e ∙ eqb_yes d d refl in
      own_those (passes g d) num (s.history t) pass ∙ ap (own num) (is.exact.entered d t chain.0)
      ∙ none_entered d (s.history (g.reads d)) (s.channels d).log num (ap is_some chain.0) (is.keeps d).channel.follows (by_way s is ds (g.reads d) num chain.1 le)

  none_own : (s : State) → IsState g ok s → (t num : ℕ) → g.protocols ≤ num → own num (s.history t) ≡ []
  none_own s is t num le = elim (g.hops t num) as (λ w. g.hops t num ≡ w → own num (s.history t) ≡ []) [
    | None ↦ λ e. is.exact.no_others t num e
    | Some ds ↦ λ e. by_way s is ds t num e le
  ] refl

  none_beyond : (s : State) → IsState g ok s → (t p : ℕ) (k : Net) (num : ℕ) → g.protocols ≤ num → content_of (front p (s.history t)) k num ≡ None
  none_beyond s is t p k num le =
      let f = own_front num p (s.history t) in
      content_own k num (front p (s.history t)) ∙ ap (λ l. content_of l k num) (nothing_left f.0 (own num (front p (s.history t))) (sym (none_own s is t num le) ∙ f.1))

  from_own : (s : State) → IsState g ok s → (t num : ℕ) → AreFrom num (own num (s.history t))
  from_own s is t num = elim (g.hops t num) as (λ w. g.hops t num ≡ w → AreFrom num (own num (s.history t))) [
    | None ↦ λ e. subst (AreFrom num) (sym (is.exact.no_others t num e)) tt
    | Some ds ↦ λ e. elim ds as (λ ds. g.hops t num ≡ Some ds → AreFrom num (own num (s.history t))) [
      | [] ↦ λ e. subst (AreFrom num) (sym (ap (λ n. own num (s.history n)) (sym (ok.ways.only_home t num e)) ∙ is.exact.exact num)) (ok.own num (given s num))
      | d ∷ rest ↦ λ e.
          let chain = ok.ways.chain t num d rest e in
          let pass : passes g d num ≡ true = passes_is g d t num chain.0 ∙ ap (ends_with d) e ∙ eqb_yes d d refl in
          subst (AreFrom num) (sym (own_those (passes g d) num (s.history t) pass ∙ ap (own num) (is.exact.entered d t chain.0))) (sourced_enters (s.channels d).log num)
    ] e
  ] refl

  sourced : (s : State) → IsState g ok s → (t p : ℕ) (k : Net) (num : ℕ) (r : Route) → content_of (front p (s.history t)) k num ≡ Some r → r.src.num ≡ num
  sourced s is t p k num r e =
      let f = own_front num p (s.history t) in
      content_from num (own num (front p (s.history t))) (from_tail num f.0 (own num (front p (s.history t))) (subst (AreFrom num) f.1 (from_own s is t num))) k r (sym (content_own k num (front p (s.history t))) ∙ e)

  pub between : (phases : List (List Act × List Line)) (starts : List Act) (lines : List Line) (s b u : State) → Comes g phases s → Begins g starts (record s { replies = [] }) b → Plays g lines b u → IsState g ok u
  between phases starts lines s b u c d q = plays_keeps g ok lines b u q (begins_keeps g ok starts (record s { replies = [] }) b d (quiet_start g ok s (comes_keeps g ok phases s c)))

pub only_protocols : (g : Rules) (phases : List (List Act × List Line)) (starts : List Act) (lines : List Line) (s b u : State) (t p : ℕ) (k : Net) (num : ℕ) → IsRules g → Comes g phases s → Begins g starts (record s { replies = [] }) b → Plays g lines b u
    → g.protocols ≤ num → content_of (front p (u.history t)) k num ≡ None
only_protocols g phases starts lines s b u t p k num ok c d q le = none_beyond g ok u (between g ok phases starts lines s b u c d q) t p k num le

pub own_sources : (g : Rules) (phases : List (List Act × List Line)) (starts : List Act) (lines : List Line) (s b u : State) (t p : ℕ) (k : Net) (num : ℕ) (r : Route) → IsRules g → Comes g phases s → Begins g starts (record s { replies = [] }) b → Plays g lines b u
    → content_of (front p (u.history t)) k num ≡ Some r → r.src.num ≡ num
own_sources g phases starts lines s b u t p k num r ok c d q e = sourced g ok u (between g ok phases starts lines s b u c d q) t p k num r e

pub best_is_best : (g : Rules) (phases : List (List Act × List Line)) (starts : List Act) (lines : List Line) (s b u : State) (t p : ℕ) (k : Net) (routes : List Route) → IsRules g → Comes g phases s → Begins g starts (record s { replies = [] }) b → Plays g lines b u
    → AreRoutesOf (content_of (front p (u.history t))) k routes → IsBest routes (best_of g k (front p (u.history t)))
best_is_best g phases starts lines s b u t p k routes ok c d q are =
    ok.best (content_of (front p (u.history t))) k routes (none_beyond g ok u (between g ok phases starts lines s b u c d q) t p k) are

pub real_changes : (g : Rules) (phases : List (List Act × List Line)) (starts : List Act) (lines : List Line) (s b u : State) (t : ℕ) → IsRules g → Comes g phases s → Begins g starts (record s { replies = [] }) b → Plays g lines b u → AreReal (u.history t)
real_changes g phases starts lines s b u t ok c d q = (between g ok phases starts lines s b u c d q).exact.real t

-- ---- a turn as two lines

takes_log : (g : Rules) (c n : ℕ) (h : List Change) (ch : Channel) → (times n (take_one g c h) ch).log ≡ ch.log
takes_log g c zero h ch = refl
takes_log g c (suc n) h ch = take_log g c h (times n (take_one g c h) ch) ∙ takes_log g c n h ch

pub turn_played : (g : Rules) (c n : ℕ) (s : State) → Plays g (turn_lines g c n s) s (if_open c (λ up. times n (push_at g c) (taken_up g c up)) s)
turn_played g c n s =
    let k = length (s.history (g.reads c)) - (s.channels c).position in
    let u = if_open c (takes g c k) s in (
      u,
      (s, refl, refl),
      elim (is_open (s.channels c)) as (λ b. is_open (s.channels c) ≡ b → (if b then times n (push_at g c) (taken_up g c s) else s) ≡ if_open c (times n (push_at g c)) (if b then takes g c k s else s)) [
        | true ↦ λ e. sym (if_true (is_open ((takes g c k s).channels c)) (times n (push_at g c) (takes g c k s)) (takes g c k s)
            (ap is_open (set_here c (times k (take_one g c (s.history (g.reads c))) (s.channels c)) s.channels c refl) ∙ ap (λ l. is_some (stretch l)) (takes_log g c k (s.history (g.reads c)) (s.channels c)) ∙ e))
        | false ↦ λ e. sym (if_false (is_open (s.channels c)) (times n (push_at g c) s) s e)
      ] refl,
    )

-- ---- a pipe's opening

none_held : (keys : List Key) → ((k : Key) → holds k keys ≡ false) → keys ≡ []
none_held [] none = refl
none_held (k ∷ keys) none = absurd (let bad : true ≡ false = sym (ap (λ b. b || holds k keys) (same_key_itself k)) ∙ none k in cc)

pub pipe_opens : (g : Rules) (c : ℕ) (ch : Channel) → IsRules g → g.first (g.owner c) ≡ true → IsFed g c [] false (opened 0 new_channel) ch → ch ≡ (start g).channels c
pipe_opens g c ch ok first is =
    let none : is.0 ≡ [] = none_held is.0 (λ k. is.1.are k ∙ ap (λ o. is_some o || false) (no_route g ok c k)) in
    is.2 ∙ ap (λ keys. fed keys false 0 (opened 0 new_channel)) none ∙ sym (if_true (g.first (g.owner c)) (opened 0 new_channel) new_channel first)
