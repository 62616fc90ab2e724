-- Steps of the machine's channels, again and again: those that come to nothing, and what none
-- changes.
use Rattle.std.proofs.Common.{◌≡◌, ℕ, zero, suc, ◌+◌, ◌-◌, ◌≤◌, min, inl, inr, Bool, List, [], ◌∷◌, Option, Some, None, refl, sym, ◌∙◌, ap, arith, length, is_some}
use Rattle.std.specs.Prelude.{◌==◌, if◌then◌else◌}
use Rattle.std.proofs.lemmas.Bool.{cases_lt}
use Rattle.std.proofs.lemmas.Bool.Decides.{eqb_tells}
use Rattle.attrs.specs.declared.attributes.Attrs.{Attrs}
use Rattle.attrs.specs.declared.route.Change.{Change}
use Rattle.export_core.specs.declared.log.LogItem.{LogItem}
use Rattle.export_core.specs.Logs.{highest, stretch}
use Rattle.core_machine.specs.Channels.{Channel, answer, is_open, logged, push_one, pushed, take_one, taken, times, value_at}
use Rattle.core_machine.specs.Histories.{entry}
use Rattle.core_machine.specs.Marks.{Marked}
use Rattle.core_machine.specs.Rules.{Rules}
use Rattle.core_machine.proofs.Bound.{push_position, take_position}
use Rattle.core_machine.proofs.Contents.{if_false}
use Rattle.core_machine.proofs.OneChannel.{open_pushed, take_log, times_keeps}
use Rattle.run_tables.specs.Channels.{cursor_of}

-- more of a step that changes nothing any more
pub times_stay : {X : Type 0} (f : X → X) (n m : ℕ) (x : X) → n ≤ m → f (times n f x) ≡ times n f x → times m f x ≡ times n f x
times_stay f n zero x le e = ap (λ k. times k f x) (let same : zero ≡ n = omega (arith, le) in same)
times_stay f n (suc m) x le e = elim (cases_lt m n) [
  | inl w ↦ ap (λ k. times k f x) (let same : suc m ≡ n = omega (arith, le, w) in same)
  | inr w ↦ ap f (times_stay f n m x w e) ∙ e
]

-- a step first or last
pub times_first : {X : Type 0} (f : X → X) (n : ℕ) (x : X) → times n f (f x) ≡ f (times n f x)
times_first f zero x = refl
times_first f (suc n) x = ap f (times_first f n x)

entry_past : (p : ℕ) (h : List Change) → length h ≤ p → entry p h ≡ None
entry_past p [] le = refl
entry_past p (c ∷ h) le = elim (eqb_tells (length h) p) [
  | inl w ↦ absurd (omega (arith, le, w.1))
  | inr w ↦ if_false (length h == p) (Some c) (entry p h) w.0 ∙ entry_past p h (omega (arith, le))
]

module _ (rules : Rules) (c : ℕ) (h : List Change) where
  -- ---- takes

  pub take_past : (ch : Channel) → length h ≤ ch.position → take_one rules c h ch ≡ ch
  take_past ch le = ap (λ o. taken rules c o ch) (entry_past ch.position h le)

  pub take_open : (ch : Channel) → is_open (take_one rules c h ch) ≡ is_open ch
  take_open ch = ap (λ l. is_some (stretch l)) (take_log rules c h ch)

  pub takes_open : (n : ℕ) (ch : Channel) → is_open (times n (take_one rules c h) ch) ≡ is_open ch
  takes_open n ch = times_keeps (λ x. is_open x ≡ is_open ch) (take_one rules c h) (λ x e. take_open x ∙ e) n ch refl

  takes_position : (n : ℕ) (ch : Channel) → ch.position + n ≤ length h → (times n (take_one rules c h) ch).position ≡ ch.position + n
  takes_position zero ch le = omega arith
  takes_position (suc n) ch le =
      let p = takes_position n ch (omega (arith, le)) in
      take_position rules c h (times n (take_one rules c h) ch) (omega (arith, le, p)) ∙ omega (arith, p)

  takes_far : (ch : Channel) → length h ≤ (times (length h - ch.position) (take_one rules c h) ch).position
  takes_far ch = elim (cases_lt (length h) ch.position) [
    | inl w ↦ let e = ap (λ k. (times k (take_one rules c h) ch).position) (let none : length h - ch.position ≡ 0 = omega (arith, w) in none) in omega (arith, e, w)
    | inr w ↦ let e = takes_position (length h - ch.position) ch (omega (arith, w)) in omega (arith, e, w)
  ]

  -- as many as there are do what all do
  pub takes_left : (n : ℕ) (ch : Channel) → times (min n (length h - ch.position)) (take_one rules c h) ch ≡ times n (take_one rules c h) ch
  takes_left n ch = let m = length h - ch.position in elim (cases_lt m n) [
    | inl w ↦ ap (λ k. times k (take_one rules c h) ch) (let e : min n m ≡ m = omega (arith, w) in e)
        ∙ sym (times_stay (take_one rules c h) m n ch (omega (arith, w)) (take_past (times m (take_one rules c h) ch) (takes_far ch)))
    | inr w ↦ ap (λ k. times k (take_one rules c h) ch) (let e : min n m ≡ n = omega (arith, w) in e)
  ]

  pub takes_up : (n : ℕ) (ch : Channel) → length h ≤ n → times n (take_one rules c h) ch ≡ times (length h - ch.position) (take_one rules c h) ch
  takes_up n ch le = let m = length h - ch.position in
      times_stay (take_one rules c h) m n ch (omega (arith, le)) (take_past (times m (take_one rules c h) ch) (takes_far ch))

  -- ---- pushes

  pub push_open : (ch : Channel) → is_open (push_one rules c h ch) ≡ is_open ch
  push_open ch = open_pushed rules h c ch.marks ch

  pub push_cursor : (ch : Channel) → cursor_of (push_one rules c h ch) ≡ cursor_of ch
  push_cursor ch = ap (λ b. if b then Some (push_one rules c h ch).position else None) (push_open ch) ∙ ap (λ p. if is_open ch then Some p else None) (push_position rules c h ch.marks ch)

  -- the positions of what is sent are the marks'
  logged_highest : (head : ℕ) (o : Option Bool) (m : Marked) (v : Option Attrs) (log : List LogItem) → m.at ≤ head → highest log ≤ head → highest (logged o m v log) ≤ head
  logged_highest head None m v log at told = told
  logged_highest head (Some again) m v log at told = omega (arith, at, told)

  pushed_highest : (head : ℕ) (ms : List Marked) (ch : Channel) → ((m : Marked) (more : List Marked) → ms ≡ m ∷ more → m.at ≤ head) → highest ch.log ≤ head → highest (pushed rules c h ms ch).log ≤ head
  pushed_highest head [] ch at told = told
  pushed_highest head (m ∷ ms) ch at told = logged_highest head (answer rules c h m ch) m (value_at rules c h m) ch.log (at m ms refl) told

  pub push_highest : (head : ℕ) (ch : Channel) → ((m : Marked) (more : List Marked) → ch.marks ≡ m ∷ more → m.at ≤ head) → highest ch.log ≤ head → highest (push_one rules c h ch).log ≤ head
  push_highest head ch at told = pushed_highest head ch.marks ch at told

  -- one mark less
  pub pushed_marks : (ms : List Marked) (ch : Channel) → ch.marks ≡ ms → 1 ≤ length ms → suc (length (pushed rules c h ms ch).marks) ≡ length ms
  pushed_marks [] ch e le = absurd (omega (arith, le))
  pushed_marks (m ∷ ms) ch e le = refl

  pub push_marks : (ch : Channel) → 1 ≤ length ch.marks → suc (length (push_one rules c h ch).marks) ≡ length ch.marks
  push_marks ch le = pushed_marks ch.marks ch refl le
