-- What is settled has sent all, so what stands at the end is what the operations say: the state of
-- the machine whose channels stand at their tables' heads.
use Rattle.std.proofs.Common.{◌≡◌, ℕ, ◌+◌, ◌<◌, ◌≤◌, inl, inr, Bool, true, false, List, [], ◌∷◌, Option, Some, None, refl, sym, ap, subst, ◌∙◌, arith, length}
use Rattle.std.specs.Prelude.{IsSome, max, if◌then◌else◌}
use Rattle.attrs.specs.declared.route.Change.{Change}
use Rattle.attrs.specs.declared.route.Route.{Route}
use Rattle.attrs.specs.declared.attributes.Attrs.{Attrs}
use Rattle.import_core.specs.declared.operation.Op.{Op}
use Rattle.export_core.proofs.SendLists.{highest_told}
use Rattle.export_core.specs.Keys.{same_key}
use Rattle.export_core.proofs.Keys.{key_tells}
use Rattle.export_core.specs.Lanes.{IsLane}
use Rattle.export_core.specs.Passing.{passed}
use Rattle.export_core.specs.Logs.{Account, Course, Follows, Settled, account, entered, highest, reloads, stretch}
use Rattle.export_core.specs.declared.log.Key.{Key}
use Rattle.export_core.specs.declared.log.LogItem.{LogItem}
use Rattle.export_core.specs.declared.log.LogItem.TheVariants.{Up, Down, Reload, Sent}
use Rattle.export_core.specs.declared.log.Sending.{Sending}
use Rattle.core_machine.specs.Channels.{Channel}
use Rattle.core_machine.specs.Legal.{IsLegal, Joined, Printed, join}
use Rattle.core_machine.specs.Lines.{Line, Turn, ops_of}
use Rattle.core_machine.specs.Machine.{State}
use Rattle.core_machine.specs.Pipes.{course_of}
use Rattle.core_machine.specs.Rules.{IsRules, Rules, Signal, Stay, Rise, Fall, Renew, is_up, signalled}
use Rattle.core_machine.specs.Signals.{AreSignals, notices, with_signal, without_sends}
use Rattle.core_machine.proofs.ChannelSteps.{lane}
use Rattle.core_machine.proofs.Contents.{none_some, some_same}
use Rattle.core_machine.proofs.Entering.{account_past, account_sent}
use Rattle.core_machine.proofs.PhaseEnds.{sync_state}
use Rattle.core_machine.proofs.WholeState.{IsState}
use Rattle.phase_legal.specs.Stamps.{opens}
use Rattle.phase_legal.proofs.Stamping.{stretch_opens}
use Rattle.phase_ends.specs.Ends.{Ends, EndsIn}

-- ---- what a log says of a key is within its positions

stretch_within : (log : List LogItem) (h : ℕ) → stretch log ≡ Some h → h ≤ highest log
stretch_within [] h e = absurd (none_some e)
stretch_within (Up g ∷ log) h e = let same = some_same e in omega (arith, same)
stretch_within (Down ∷ log) h e = absurd (none_some e)
stretch_within (Reload ∷ log) h e = stretch_within log h e
stretch_within (Sent x ∷ log) h e = let w = stretch_within log h e in omega (arith, w)

last_within : (k : Key) (log : List LogItem) (x : Sending) → (account k log).last ≡ Some x → x.at ≤ highest log
last_within k [] x e = absurd (none_some e)
last_within k (Up g ∷ log) x e = absurd (none_some e)
last_within k (Down ∷ log) x e = absurd (none_some e)
last_within k (Reload ∷ log) x e = last_within k log x e
last_within k (Sent y ∷ log) x e = elim (same_key y.key k) as (λ b. (if b then entered y (account k log) else account k log).last ≡ Some x → x.at ≤ highest (Sent y ∷ log)) [
  | true ↦ λ f. let same = ap (λ (z : Sending). z.at) (some_same f) in omega (arith, same)
  | false ↦ λ f. let w = last_within k log x f in omega (arith, w)
] e

sent_again : (agains reloaded : ℕ) (again : Bool) → agains ≤ reloaded → (again ≡ true → agains < reloaded) → (if again then agains + 1 else agains) ≤ reloaded
sent_again agains reloaded true few less = let w = less refl in omega (arith, w)
sent_again agains reloaded false few less = few

-- a key is sent again at most once in a refresh
agains_few : (value : Key → Route → Option Attrs) (c : Course) (k : Key) (log : List LogItem) → Follows value c log → (account k log).agains ≤ reloads log
agains_few value c k [] f = omega arith
agains_few value c k (Up g ∷ log) f = omega arith
agains_few value c k (Down ∷ log) f = omega arith
agains_few value c k (Reload ∷ log) f = let w = agains_few value c k log f.0 in omega (arith, w)
agains_few value c k (Sent y ∷ log) f = elim (key_tells y.key k) [
  | inl w ↦ subst (λ (a : Account). a.agains ≤ reloads log) (sym (account_sent k y log w.1))
      (sent_again (account k log).agains (reloads log) y.again (agains_few value c k log f.0) (λ again. subst (λ z. (account z log).agains < reloads log) w.1 (f.1.equal again).2))
  | inr w ↦ subst (λ (a : Account). a.agains ≤ reloads log) (sym (account_past k y log w.1)) (agains_few value c k log f.0)
]

-- ---- signals tell whether a channel is up

module _ (g : Rules) (c : ℕ) (history : List Change) where
  signals_open : (ops : List Op) (items : List LogItem) → AreSignals g history c items (notices g (g.owner c) ops) → opens false items ≡ is_up g (g.owner c) ops
  signals_open [] items are = first (g.first (g.owner c)) items are
    where
      first : (b : Bool) (items : List LogItem) → AreSignals g history c items (if b then record { signal = Rise; ops = [] } ∷ [] else []) → opens false items ≡ b
      first true [] are = absurd are
      first true (Up h ∷ items) are = refl
      first true (Down ∷ items) are = absurd (let e : Rise ≡ Fall = are.0 in cc)
      first true (Reload ∷ items) are = absurd (let e : Rise ≡ Renew = are.0 in cc)
      first true (Sent y ∷ items) are = absurd are.0
      first false [] are = refl
      first false (x ∷ items) are = absurd are
  signals_open (op ∷ ops) items are = step (λ ys more. signals_open ops ys more) (g.gives (g.owner c) ops op).signal (op ∷ ops) items are
    where
      step : ((ys : List LogItem) → AreSignals g history c ys (notices g (g.owner c) ops) → opens false ys ≡ is_up g (g.owner c) ops) → (s : Signal) (all : List Op) (items : List LogItem)
          → AreSignals g history c items (with_signal s all (notices g (g.owner c) ops)) → opens false items ≡ signalled s (is_up g (g.owner c) ops)
      step ih Stay all xs are = ih xs are
      step ih Rise all [] are = absurd are
      step ih Rise all (Up h ∷ xs) are = refl
      step ih Rise all (Down ∷ xs) are = absurd (let e : Rise ≡ Fall = are.0 in cc)
      step ih Rise all (Reload ∷ xs) are = absurd (let e : Rise ≡ Renew = are.0 in cc)
      step ih Rise all (Sent y ∷ xs) are = absurd are.0
      step ih Fall all [] are = absurd are
      step ih Fall all (Up h ∷ xs) are = absurd (let e : Fall ≡ Rise = are.0.0 in cc)
      step ih Fall all (Down ∷ xs) are = refl
      step ih Fall all (Reload ∷ xs) are = absurd (let e : Fall ≡ Renew = are.0 in cc)
      step ih Fall all (Sent y ∷ xs) are = absurd are.0
      step ih Renew all [] are = absurd are
      step ih Renew all (Up h ∷ xs) are = absurd (let e : Renew ≡ Rise = are.0.0 in cc)
      step ih Renew all (Down ∷ xs) are = absurd (let e : Renew ≡ Fall = are.0 in cc)
      step ih Renew all (Reload ∷ xs) are = ih xs are.1
      step ih Renew all (Sent y ∷ xs) are = absurd are.0

-- ---- a channel that stands at its table's head, with no mark

is_some_of : {X : Type 0} (o : Option X) (x : X) → o ≡ Some x → IsSome o
is_some_of None x e = absurd (none_some e)
is_some_of (Some y) x e = refl

module _ (g : Rules) (ok : IsRules g) where
  abbrev resting : (history : List Change) → List LogItem → Channel
  resting history log = record { position = length history; floor = 0; marks = []; log = log }

  rests : (c : ℕ) (history : List Change) (log : List LogItem) → Follows (g.value c) (course_of g c history) log
      → (IsSome (stretch log) → Settled (g.value c) (course_of g c history) log) → (h : ℕ) → stretch log ≡ Some h → (k : Key)
      → IsLane (g.value c) (course_of g c history) k h (reloads log) (lane (course_of g c history) false false (resting history log) k)
  rests c history log follows settled h e k =
      let top = highest_told (g.value c) (course_of g c history) log follows in
      let low = stretch_within log h e in
      let all = settled (is_some_of (stretch log) h e) in
      let few = agains_few (g.value c) (course_of g c history) k log follows in
      let head : max (length history) 0 ≡ length history = omega arith in
      record {
        begun = omega (arith, top, low);
        within = omega arith;
        after = λ x last. let w = last_within k log x last in omega (arith, top, w);
        mark = λ m is. absurd (none_some is);
        still = λ unmarked read. all.right k ∙ ap (λ p. passed (g.value c) k ((course_of g c history).best k p)) (sym head);
        count = omega (arith, few);
        fresh = λ undue none some. all.fresh k some;
      }

  module _ (first : ℕ → List Turn) (past all : Joined) (lines : List Line) (p : Printed) (ends : EndsIn g first past all lines p) where
    abbrev state : State
    state = record {
      history = all.history;
      ops = all.ops;
      channels = λ c. resting (all.history (g.reads c)) (all.logs c);
      replies = p.replies;
    }

    is_state : IsState g ok state
    is_state = record {
      exact = record { real = ends.real; exact = ends.exact; entered = ends.entered; no_others = ends.no_others };
      keeps = λ c. record {
        channel = record {
          follows = ends.follows c;
          lanes = rests c (all.history (g.reads c)) (all.logs c) (ends.follows c) (ends.settled c);
          once = tt;
        };
        up = stretch_opens (all.logs c) ∙ signals_open g c (all.history (g.reads c)) (ops_of (all.ops (g.owner c))) (without_sends (all.logs c)) (ends.signalled c);
        marks = ends.signalled c;
      };
    }

pub settled_is_legal : (g : Rules) (first : ℕ → List Turn) (past : Joined) (lines : List Line) (p : Printed) → IsRules g → Ends g first past lines p → IsLegal g first past lines p
settled_is_legal g first past lines p ok ends = record {
  others = ends.others;
  merge = ends.merge;
  real = ends.real;
  exact = ends.exact;
  entered = ends.entered;
  no_others = ends.no_others;
  signalled = ends.signalled;
  follows = ends.follows;
  answers = ends.answers;
  state = sync_state g ok (λ i. ops_of ((join past p).ops i)) past (state g ok first past (join past p) lines p ends) p refl
      (record {
        entries = λ table. refl;
        ops = λ i. refl;
        items = λ c. refl;
        replies = refl;
        shown = record { rows = ends.shown.rows; modes = ends.shown.modes; accepted = ends.shown.accepted; up = ends.shown.up; standing = ends.shown.standing };
      })
      (is_state g ok first past (join past p) lines p ends) (λ c up. ends.settled c up);
  settled = ends.settled;
}
