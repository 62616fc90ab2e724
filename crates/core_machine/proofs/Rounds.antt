-- A sync comes to an end: there is a number of rounds.
use Rattle.std.proofs.Common.{◌≡◌, ℕ, zero, suc, ◌+◌, ◌<◌, ◌≤◌, inl, inr, Bool, true, false, List, [], ◌∷◌, refl, sym, ◌∙◌, ap, subst, arith, length}
use Rattle.std.specs.Prelude.{◌==◌, ◌&&◌}
use Rattle.std.proofs.lemmas.Bool.{cases_lt}
use Rattle.std.proofs.lemmas.Bool.Decides.{eqb_tells}
use Rattle.attrs.specs.declared.route.Change.{Change}
use Rattle.core_machine.specs.Channels.{Channel, is_open, times}
use Rattle.core_machine.specs.Lines.{Act, Line}
use Rattle.core_machine.specs.Machine.{Begins, Plays, State}
use Rattle.core_machine.specs.Marks.{Marked}
use Rattle.core_machine.specs.Phases.{Comes}
use Rattle.core_machine.specs.Rounds.{AreSettled, HasRounds, IsSettled, round}
use Rattle.core_machine.specs.Rules.{IsRules, Rules}
use Rattle.core_machine.proofs.Bound.{late_settled, rounds_late}
use Rattle.core_machine.proofs.PhaseEnds.{comes_keeps}
use Rattle.core_machine.proofs.WholeState.{IsState, begins_keeps, given, plays_keeps, rounds_keep}

no : {A : Type 0} → true ≡ false → A
no e = absurd (let bad : true ≡ false = e in cc)

abbrev is_nil : List Marked → Bool
is_nil [] = true
is_nil (m ∷ ms) = false

abbrev rests : List Change → Channel → Bool
rests h ch = (ch.position == length h) && is_nil ch.marks

rests_yes : (h : List Change) (ch : Channel) → rests h ch ≡ true → IsSettled h ch
rests_yes h ch e = elim (eqb_tells ch.position (length h)) [
  | inl w ↦ record { position = w.1; marks = nil ch.marks (sym (ap (λ b. b && is_nil ch.marks) w.0) ∙ e) }
  | inr w ↦ no (sym (sym (ap (λ b. b && is_nil ch.marks) w.0) ∙ e))
] where
  nil : (ms : List Marked) → is_nil ms ≡ true → ms ≡ []
  nil [] e = refl
  nil (m ∷ ms) e = no (sym e)

rests_no : (h : List Change) (ch : Channel) → rests h ch ≡ false → IsSettled h ch → ⊥
rests_no h ch e s = elim (eqb_tells ch.position (length h)) [
  | inl w ↦ no (sym (ap (λ ms. is_nil ms) s.marks) ∙ sym (ap (λ b. b && is_nil ch.marks) w.0) ∙ e)
  | inr w ↦ w.1 s.position
]

-- the first n channels
record Told (g : Rules) (s : State) (n : ℕ) (b : Bool) : Type 0 where
  yes : b ≡ true → (c : ℕ) → c < n → is_open (s.channels c) ≡ true → IsSettled (s.history (g.reads c)) (s.channels c)
  no_ : b ≡ false → AreSettled g s → ⊥

tell : (g : Rules) (s : State) (n : ℕ) → (b : Bool) × Told g s n b
tell g s zero = (true, record { yes = λ _ c lt. absurd (let bad : 1 ≤ 0 = omega arith in omega (arith, bad)); no_ = λ e. no e })
tell g s (suc n) = let r = tell g s n in let h = s.history (g.reads n) in let ch = s.channels n in
    elim r.0 as (λ b. Told g s n b → (b : Bool) × Told g s (suc n) b) [
      | false ↦ λ t. (false, record { yes = λ e. no (sym e); no_ = λ e a. t.no_ refl a })
      | true ↦ λ t. elim (is_open ch) as (λ b. is_open ch ≡ b → (b : Bool) × Told g s (suc n) b) [
        | false ↦ λ shut. (
          true,
          record {
            yes = λ _ c lt up. elim (eqb_tells c n) [
              | inl w ↦ no (sym up ∙ ap (λ c. is_open (s.channels c)) w.1 ∙ shut)
              | inr w ↦ t.yes refl c (elim (cases_lt c n) [ inl z ↦ z | inr z ↦ absurd (w.1 (omega (arith, lt, z))) ]) up
            ];
            no_ = λ e. no e;
          },
        )
        | true ↦ λ up. elim (rests h ch) as (λ b. rests h ch ≡ b → (b : Bool) × Told g s (suc n) b) [
          | true ↦ λ e. (
            true,
            record {
              yes = λ _ c lt open_c. elim (eqb_tells c n) [
                | inl w ↦ subst (λ c. IsSettled (s.history (g.reads c)) (s.channels c)) (sym w.1) (rests_yes h ch e)
                | inr w ↦ t.yes refl c (elim (cases_lt c n) [ inl z ↦ z | inr z ↦ absurd (w.1 (omega (arith, lt, z))) ]) open_c
              ];
              no_ = λ q. no q;
            },
          )
          | false ↦ λ e. (false, record { yes = λ q. no (sym q); no_ = λ _ a. rests_no h ch e (a n up) })
        ] refl
      ] refl
    ] r.1

module _ (g : Rules) (ok : IsRules g) where
  pub least : (left n : ℕ) (s : State) → IsState g ok s → n + left ≡ g.tables → ((m : ℕ) → m < n → AreSettled g (times m (round g) s) → ⊥) → (rounds : ℕ) × HasRounds g s rounds
  least zero n s is e before = (n, record { end = subst (λ k. AreSettled g (times k (round g) s)) (let same : g.tables ≡ n = omega (arith, e) in same) (late_settled g ok g.tables ok.ways.short (times g.tables (round g) s) (rounds_keep g ok g.tables s is) (rounds_late g ok g.tables s is)); each = before })
  least (suc left) n s is e before =
      let u = times n (round g) s in
      let r = tell g u g.channels in
      elim r.0 as (λ b. Told g u g.channels b → (rounds : ℕ) × HasRounds g s rounds) [
        | true ↦ λ t. (
          n,
          record {
            end = λ c up. elim (cases_lt c g.channels) [
              | inl w ↦ t.yes refl c w up
              | inr w ↦ no (sym up ∙ ((rounds_keep g ok n s is).keeps c).up ∙ ok.no_more c w (given u (g.owner c)))
            ];
            each = before;
          },
        )
        | false ↦ λ t. least left (suc n) s is (omega (arith, e)) (λ m lt. elim (cases_lt m n) [
          | inl w ↦ before m w
          | inr w ↦ subst (λ k. AreSettled g (times k (round g) s) → ⊥) (let same : n ≡ m = omega (arith, lt, w) in same) (t.no_ refl)
        ])
      ] r.1

pub ends : (g : Rules) (phases : List (List Act × List Line)) (starts : List Act) (lines : List Line) (s b u : State) → IsRules g → Comes g phases s → Begins g starts (record s { replies = [] }) b → Plays g lines b u → (rounds : ℕ) × HasRounds g u rounds
ends g phases starts lines s b u ok c p q =
    let is = comes_keeps g ok phases s c in
    let now : IsState g ok (record s { replies = [] }) = record { exact = is.exact; keeps = is.keeps } in
    least g ok g.tables 0 u (plays_keeps g ok lines b u q (begins_keeps g ok starts (record s { replies = [] }) b p now)) (omega arith) (λ m lt. absurd (let bad : 1 ≤ 0 = omega arith in omega (arith, bad)))
