-- Room: the loop and the map are one.
use Rattle.std.proofs.Common.{◌≡◌, ◌≢◌, ℕ, zero, suc, ◌+◌, ◌-◌, ◌≤◌, inl, inr, Bool, true, false, List, refl, sym, ◌∙◌, ap, subst, arith, length}
use Rattle.std.specs.Prelude.{◌==◌, ◌&&◌, if◌then◌else◌}
use Rattle.std.proofs.lemmas.Bool.Decides.{eqb_tells}
use Rattle.attrs.specs.declared.route.Change.{Change}
use Rattle.core_machine.specs.Channels.{Channel, is_open, take_one}
use Rattle.core_machine.specs.Room.{Makes, helped, in_room, lags, roomed}
use Rattle.core_machine.specs.Rules.{Rules}
use Rattle.core_machine.proofs.Contents.{if_true, if_false}
use Rattle.core_machine.proofs.OneChannel.{both}
use Rattle.core_machine.proofs.Bound.{take_position}

not_equal : (a b : ℕ) → a ≢ b → (a == b) ≡ false
not_equal a b e = elim (eqb_tells a b) [ inl w ↦ absurd (e w.1) | inr w ↦ w.0 ]

equal : (a b : ℕ) → (a == b) ≡ true → a ≡ b
equal a b e = elim (eqb_tells a b) [ inl w ↦ w.1 | inr w ↦ absurd (let bad : false ≡ true = sym w.0 ∙ e in cc) ]

no_and_right : (a b : Bool) → b ≡ false → (a && b) ≡ false
no_and_right true b e = e
no_and_right false b e = refl

same_test : (t : ℕ) → (t == t) ≡ true
same_test t = elim (eqb_tells t t) [ inl w ↦ w.0 | inr w ↦ absurd (w.1 refl) ]

-- one take is enough
no_more : (g : Rules) (c : ℕ) (h : List Change) (ch : Channel) → 1 ≤ g.cells → lags g h ch ≡ true → lags g h (take_one g c h ch) ≡ false
no_more g c h ch some lag =
    let l : length h - ch.position ≡ g.cells = equal (length h - ch.position) g.cells (both (is_open ch) (length h - ch.position == g.cells) lag).1 in
    let p : (take_one g c h ch).position ≡ ch.position + 1 = take_position g c h ch (omega arith) in
    no_and_right (is_open (take_one g c h ch)) (length h - (take_one g c h ch).position == g.cells) (not_equal (length h - (take_one g c h ch).position) g.cells (λ e. let bad : 1 ≤ 0 = omega arith in omega (arith, bad)))

pub room_is_loop : (g : Rules) (t : ℕ) (h : List Change) (n : ℕ) (channels after : ℕ → Channel) → 1 ≤ g.cells → Makes g t h n channels after → (j : ℕ) → after j ≡ in_room g t h channels j
room_is_loop g t h zero channels after some m j = m.1 j ∙ elim (eqb_tells (g.reads j) t) [
  | inl w ↦ sym (if_true (g.reads j == t) (roomed g j h (channels j)) (channels j) w.0 ∙ if_false (lags g h (channels j)) (take_one g j h (channels j)) (channels j) (m.0 j w.1))
  | inr w ↦ sym (if_false (g.reads j == t) (roomed g j h (channels j)) (channels j) w.0)
]
room_is_loop g t h (suc n) channels after some m j =
    let i = m.0 in
    let took = take_one g i h (channels i) in
    let r = room_is_loop g t h n (helped g i h channels) after some m.2 j in
    let here : (g.reads i == t) ≡ true = ap (λ n. n == t) m.1.reads ∙ same_test t in
    r ∙ elim (eqb_tells i j) [
      | inl w ↦ subst (λ q. in_room g t h (helped g i h channels) q ≡ in_room g t h channels q) w.1
          (ap (λ x. if g.reads i == t then roomed g i h x else x) (if_true (i == i) took (channels i) (same_test i))
          ∙ if_true (g.reads i == t) (roomed g i h took) took here
          ∙ if_false (lags g h took) (take_one g i h took) took (no_more g i h (channels i) some m.1.lag)
          ∙ sym (if_true (lags g h (channels i)) took (channels i) m.1.lag)
          ∙ sym (if_true (g.reads i == t) (roomed g i h (channels i)) (channels i) here))
      | inr w ↦ ap (λ x. if g.reads j == t then roomed g j h x else x) (if_false (i == j) took (channels j) w.0)
    ]
