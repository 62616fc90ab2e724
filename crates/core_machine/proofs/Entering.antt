-- What a direction's log does to the table that it writes.
use Rattle.std.proofs.Common.{◌≡◌, ◌≢◌, ℕ, inl, inr, Bool, true, false, List, [], ◌∷◌, ◌++◌, Option, Some, None, refl, sym, ◌∙◌, ap, subst, is_some, option_and_then, option_map}
use Rattle.std.specs.Prelude.{◌||◌, if◌then◌else◌}
use Rattle.std.specs.List.Sorted.{IsStrictlySortedBy}
use Rattle.std.proofs.lemmas.List.{append_assoc}
use Rattle.bits_ip.specs.Prefix.{Net}
use Rattle.attrs.specs.declared.attributes.Attrs.{Attrs}
use Rattle.attrs.specs.declared.route.Change.{Change}
use Rattle.attrs.specs.declared.route.Route.{Route}
use Rattle.export_core.specs.declared.log.Key.{Key}
use Rattle.export_core.specs.declared.log.LogItem.{LogItem}
use Rattle.export_core.specs.declared.log.LogItem.TheVariants.{Up, Down, Reload, Sent}
use Rattle.export_core.specs.declared.log.Sending.{Sending}
use Rattle.export_core.specs.Keys.{key_cmp, same_key}
use Rattle.export_core.specs.Logs.{Course, stretch, account, entered, value_of, Follows}
use Rattle.export_core.specs.Marks.{IsOnce, holds}
use Rattle.export_core.specs.Passing.{passed}
use Rattle.export_core.proofs.Keys.{key_tells, same_key_flip, same_key_itself}
use Rattle.export_core.proofs.Pushing.{account_right}
use Rattle.core_machine.specs.Enters.{change_to, enters, kept_with, standing_keys, withdrawal, withdrawn, without_key}
use Rattle.core_machine.specs.Histories.{AreReal, content_of, front}
use Rattle.core_machine.specs.Pipes.{candidate, course_of, is_pipe, passes}
use Rattle.core_machine.specs.Rules.{Rules}
use Rattle.core_machine.proofs.Contents.{AllOf, content_more, if_true, if_false, none_some, real_more}
use Rattle.core_machine.proofs.FeedSteps.{no_some}
use Rattle.core_machine.proofs.KeyLists.{holds_without, none_ascends, once_ascending, others_without, with_ascends, with_holds, without_ascends}
use Rattle.core_machine.proofs.OneChannel.{pipe_candidate}

pub or_true : (a b : Bool) → b ≡ true → (a || b) ≡ true
or_true true b e = refl
or_true false b e = e

abbrev pub key_at : Net → ℕ → Key
key_at net num = record { net = net; num = num }

-- the content with one more change, by keys
pub content_key : (x : Change) (h : List Change) (net : Net) (num : ℕ) → content_of (x ∷ h) net num ≡ (if same_key (key_at x.net x.num) (key_at net num) then x.new else content_of h net num)
content_key x h net num = content_more x h net num ∙ ap (λ b. if b then x.new else content_of h net num) (same_key_flip (key_at net num) (key_at x.net x.num))

-- where no stretch is open nothing stands
pub closed_blank : (value : Key → Route → Option Attrs) (c : Course) (log : List LogItem) → Follows value c log → stretch log ≡ None → (k : Key) → value_of (account k log) ≡ None
closed_blank value c [] f e k = refl
closed_blank value c (Up h ∷ log) f e k = refl
closed_blank value c (Down ∷ log) f e k = refl
closed_blank value c (Reload ∷ log) f e k = absurd (let bad : false ≡ true = ap is_some (sym e) ∙ f.1 in cc)
closed_blank value c (Sent x ∷ log) f e k = absurd (none_some (sym e ∙ f.1.in_stretch.1))

pub account_sent : (k : Key) (x : Sending) (log : List LogItem) → x.key ≡ k → account k (Sent x ∷ log) ≡ entered x (account k log)
account_sent k x log e = elim (key_tells x.key k) [ inl w ↦ if_true (same_key x.key k) (entered x (account k log)) (account k log) w.0 | inr w ↦ absurd (w.1 e) ]

pub account_past : (k : Key) (x : Sending) (log : List LogItem) → x.key ≢ k → account k (Sent x ∷ log) ≡ account k log
account_past k x log e = elim (key_tells x.key k) [ inl w ↦ absurd (e w.1) | inr w ↦ if_false (same_key x.key k) (entered x (account k log)) (account k log) w.0 ]

kept_told : (v : Option Attrs) (q k : Key) (ks : List Key) → holds k (kept_with v q ks) ≡ (if same_key q k then is_some v else holds k ks)
kept_told (Some v) q k ks = with_holds q k ks ∙ elim (same_key q k) as (λ b. (b || holds k ks) ≡ (if b then true else holds k ks)) [ true ↦ refl | false ↦ refl ]
kept_told None q k ks = elim (key_tells q k) [
  | inl w ↦ subst (λ y. holds y (without_key q ks) ≡ false) w.1 (holds_without q ks) ∙ sym (ap (λ b. if b then false else holds k ks) w.0)
  | inr w ↦ others_without k q ks w.1 ∙ sym (ap (λ b. if b then false else holds k ks) w.0)
]

-- the keys that stand are those of which a value stands
pub standing_told : (k : Key) (log : List LogItem) → holds k (standing_keys log) ≡ is_some (value_of (account k log))
standing_told k [] = refl
standing_told k (Up h ∷ log) = refl
standing_told k (Down ∷ log) = refl
standing_told k (Reload ∷ log) = standing_told k log
standing_told k (Sent x ∷ log) = kept_told x.value x.key k (standing_keys log) ∙ elim (key_tells x.key k) [
  | inl w ↦ ap (λ b. if b then is_some x.value else holds k (standing_keys log)) w.0 ∙ sym (ap (λ a. is_some (value_of a)) (account_sent k x log w.1))
  | inr w ↦ ap (λ b. if b then is_some x.value else holds k (standing_keys log)) w.0 ∙ standing_told k log ∙ sym (ap (λ a. is_some (value_of a)) (account_past k x log w.1))
]

kept_ascends : (v : Option Attrs) (q : Key) (ks : List Key) → IsStrictlySortedBy key_cmp ks → IsStrictlySortedBy key_cmp (kept_with v q ks)
kept_ascends (Some v) q ks s = with_ascends q ks s
kept_ascends None q ks s = without_ascends q ks s

pub standing_ascends : (log : List LogItem) → IsStrictlySortedBy key_cmp (standing_keys log)
standing_ascends [] = none_ascends
standing_ascends (Up h ∷ log) = none_ascends
standing_ascends (Down ∷ log) = none_ascends
standing_ascends (Reload ∷ log) = standing_ascends log
standing_ascends (Sent x ∷ log) = kept_ascends x.value x.key (standing_keys log) (standing_ascends log)

pub once_standing : (log : List LogItem) → IsOnce (standing_keys log)
once_standing log = once_ascending (standing_keys log) (standing_ascends log)

-- ---- withdrawals

pub withdrawn_is : (ks : List Key) (h : List Change) → withdrawn ks h ≡ withdrawn ks [] ++ h
withdrawn_is [] h = refl
withdrawn_is (k ∷ ks) h = withdrawn_is ks (withdrawal k ∷ h) ∙ sym (ap (λ l. l ++ h) (withdrawn_is ks (withdrawal k ∷ [])) ∙ append_assoc (withdrawn ks []) (withdrawal k ∷ []) h)

pub all_withdrawn : (test : ℕ → Bool) (ks : List Key) (h : List Change) → ((k : Key) → holds k ks ≡ true → test k.num ≡ true) → AllOf test h → AllOf test (withdrawn ks h)
all_withdrawn test [] h all a = a
all_withdrawn test (k ∷ ks) h all a = all_withdrawn test ks (withdrawal k ∷ h) (λ q e. all q (or_true (same_key k q) (holds q ks) e)) (all k (ap (λ t. t || holds k ks) (same_key_itself k)), a)

stands_withdrawn : (net : Net) (num : ℕ) (ks : List Key) (h : List Change) → content_of (withdrawn ks h) net num ≡ (if holds (key_at net num) ks then None else content_of h net num)
stands_withdrawn net num [] h = refl
stands_withdrawn net num (k ∷ ks) h = let q = key_at net num in stands_withdrawn net num ks (withdrawal k ∷ h)
    ∙ ap (λ o. if holds q ks then None else o) (content_key (withdrawal k) h net num)
    ∙ elim (same_key k q) as (λ b. (if holds q ks then None else (if b then None else content_of h net num)) ≡ (if b || holds q ks then None else content_of h net num)) [
      | true ↦ elim (holds q ks) as (λ b. let n : Option Route = None in (if b then n else n) ≡ n) [ true ↦ refl | false ↦ refl ]
      | false ↦ refl
    ]

-- withdrawals of what stands are changes
pub real_withdrawn : (ks : List Key) (h : List Change) → IsOnce ks → ((k : Key) → holds k ks ≡ true → content_of h k.net k.num ≢ None) → AreReal h → AreReal (withdrawn ks h)
real_withdrawn [] h o all r = r
real_withdrawn (k ∷ ks) h o all r = real_withdrawn ks (withdrawal k ∷ h) o.1
    (λ q e. let other : same_key k q ≡ false = elim (key_tells k q) [ inl w ↦ absurd (let bad : true ≡ false = sym e ∙ ap (λ y. holds y ks) (sym w.1) ∙ o.0 in cc) | inr w ↦ w.0 ] in
    λ none. all q (or_true (same_key k q) (holds q ks) e) (sym (content_key (withdrawal k) h q.net q.num ∙ if_false (same_key k q) None (content_of h q.net q.num) other) ∙ none))
    (real_more (withdrawal k) h r (all k (ap (λ t. t || holds k ks) (same_key_itself k))))

module _ (g : Rules) where
  blank_candidate : (d : ℕ) (k : Key) (h : List Change) → is_pipe g d ≡ true → passes g d k.num ≡ false → candidate g d k h ≡ None
  blank_candidate d k h e q = pipe_candidate g d k (content_of h) e ∙ ap (λ b. if b then content_of h k.net k.num else None) q

  -- a value stands only of what the direction passes
  pub standing_passes : (d : ℕ) (h : List Change) (log : List LogItem) (k : Key) → is_pipe g d ≡ true → Follows (g.value d) (course_of g d h) log → is_some (value_of (account k log)) ≡ true → passes g d k.num ≡ true
  standing_passes d h log k e f some = elim (passes g d k.num) as (λ b. passes g d k.num ≡ b → b ≡ true) [
    | true ↦ λ q. refl
    | false ↦ λ q. elim (account k log).last as (λ o. (account k log).last ≡ o → false ≡ true) [
      | None ↦ λ z. sym (ap (λ o. is_some (option_and_then (λ (y : Sending). y.value) o)) z) ∙ some
      | Some x ↦ λ z.
          let right = account_right (g.value d) (course_of g d h) k log f x z in
          let none : x.value ≡ None = right ∙ ap (passed (g.value d) k) (blank_candidate d k (front x.at h) e q) in
          sym (ap is_some (ap (λ o. option_and_then (λ (y : Sending). y.value) o) z ∙ none)) ∙ some
    ] refl
  ] refl

  -- nor is anything else sent but again
  pub sent_passes : (d : ℕ) (h : List Change) (log : List LogItem) (x : Sending) → is_pipe g d ≡ true → Follows (g.value d) (course_of g d h) (Sent x ∷ log) → x.again ≡ false → passes g d x.key.num ≡ true
  sent_passes d h log x e f again = elim (passes g d x.key.num) as (λ b. passes g d x.key.num ≡ b → b ≡ true) [
    | true ↦ λ q. refl
    | false ↦ λ q. elim (is_some (value_of (account x.key log))) as (λ b. is_some (value_of (account x.key log)) ≡ b → false ≡ true) [
      | true ↦ λ z. sym q ∙ standing_passes d h log x.key e f.0 z
      | false ↦ λ z. absurd (f.1.changed again (f.1.right ∙ ap (passed (g.value d) x.key) (blank_candidate d x.key (front x.at h) e q) ∙ sym (no_some (value_of (account x.key log)) z)))
    ] refl
  ] refl

  pub enters_pass : (d : ℕ) (h : List Change) (log : List LogItem) → is_pipe g d ≡ true → Follows (g.value d) (course_of g d h) log → AllOf (passes g d) (enters g log)
  enters_pass d h [] e f = tt
  enters_pass d h (Up p ∷ log) e f = enters_pass d h log e f.0
  enters_pass d h (Down ∷ log) e f = all_withdrawn (passes g d) (standing_keys log) (enters g log) (λ k i. standing_passes d h log k e f.0 (sym (standing_told k log) ∙ i)) (enters_pass d h log e f.0)
  enters_pass d h (Reload ∷ log) e f = enters_pass d h log e f.0
  enters_pass d h (Sent x ∷ log) e f = elim x.again as (λ b. x.again ≡ b → AllOf (passes g d) (if b then enters g log else change_to g x.key x.value ∷ enters g log)) [
    | true ↦ λ q. enters_pass d h log e f.0
    | false ↦ λ q. (sent_passes d h log x e f q, enters_pass d h log e f.0)
  ] refl

  -- what stands in the table that is written is what stands as sent
  pub stands_entered : (value : Key → Route → Option Attrs) (c : Course) (log : List LogItem) → Follows value c log → (k : Key) → content_of (enters g log) k.net k.num ≡ option_map (g.route k.num) (value_of (account k log))
  stands_entered value c [] f k = refl
  stands_entered value c (Up p ∷ log) f k = stands_entered value c log f.0 k ∙ ap (option_map (g.route k.num)) (closed_blank value c log f.0 f.1.0 k)
  stands_entered value c (Down ∷ log) f k = stands_withdrawn k.net k.num (standing_keys log) (enters g log)
      ∙ elim (holds k (standing_keys log)) as (λ b. holds k (standing_keys log) ≡ b → (if b then None else content_of (enters g log) k.net k.num) ≡ None) [
        | true ↦ λ e. refl
        | false ↦ λ e. stands_entered value c log f.0 k ∙ ap (option_map (g.route k.num)) (no_some (value_of (account k log)) (sym (standing_told k log) ∙ e))
      ] refl
  stands_entered value c (Reload ∷ log) f k = stands_entered value c log f.0 k
  stands_entered value c (Sent x ∷ log) f k = elim x.again as (λ b. x.again ≡ b → content_of (if b then enters g log else change_to g x.key x.value ∷ enters g log) k.net k.num ≡ option_map (g.route k.num) (value_of (account k (Sent x ∷ log)))) [
    | true ↦ λ q. stands_entered value c log f.0 k ∙ ap (option_map (g.route k.num)) (elim (key_tells x.key k) [
      | inl w ↦ subst (λ y. value_of (account y log) ≡ x.value) w.1 (sym (f.1.equal q).0) ∙ sym (ap value_of (account_sent k x log w.1))
      | inr w ↦ sym (ap value_of (account_past k x log w.1))
    ])
    | false ↦ λ q. content_key (change_to g x.key x.value) (enters g log) k.net k.num ∙ elim (key_tells x.key k) [
      | inl w ↦ if_true (same_key x.key k) (option_map (g.route x.key.num) x.value) (content_of (enters g log) k.net k.num) w.0 ∙ ap (λ (y : Key). option_map (g.route y.num) x.value) w.1 ∙ sym (ap (λ a. option_map (g.route k.num) (value_of a)) (account_sent k x log w.1))
      | inr w ↦ if_false (same_key x.key k) (option_map (g.route x.key.num) x.value) (content_of (enters g log) k.net k.num) w.0 ∙ stands_entered value c log f.0 k ∙ sym (ap (λ a. option_map (g.route k.num) (value_of a)) (account_past k x log w.1))
    ]
  ] refl
