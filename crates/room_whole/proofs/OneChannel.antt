-- A protocol with routes of its own has one channel at most.
use Rattle.std.proofs.Common.{◌≡◌, ℕ, zero, suc, ◌+◌, ◌≤◌, ◌⊎◌, inl, inr, List, [], ◌∷◌, ◌++◌, length, Option, Some, None, refl, sym, ap, ◌∙◌, arith}
use Rattle.std.specs.Prelude.{slice_get}
use Rattle.bits_ip.specs.declared.address.Family.{Family}
use Rattle.core_setup.specs.Channels.{Channel, channel_at, channels_from, channels_in, session}
use Rattle.core_setup.specs.Protocols.{protocol_at}
use Rattle.core_setup.specs.Setup.{Body, Exports, IsPipe, IsSource, Protocol, Setup, Source}
use Rattle.core_setup.proofs.Numbered.{none_some, some_same}

-- an item of two lists is one of the first, or of the second
in_either : {X : Type 0} (xs ys : List X) (k : ℕ) (x : X) → slice_get (xs ++ ys) k ≡ Some x → (slice_get xs k ≡ Some x) ⊎ ((j : ℕ) × (k ≡ length xs + j) × (slice_get ys j ≡ Some x))
in_either [] ys k x at = inr (k, (omega arith), at)
in_either (z ∷ xs) ys zero x at = inl at
in_either (z ∷ xs) ys (suc k) x at = elim (in_either xs ys k x at) [
  | inl here ↦ inl here
  | inr there ↦ inr (there.0, (let e = there.1 in omega (arith, e)), there.2)
]

module _ (tables : List (List ℕ × Family)) where
  -- the channels of a protocol are its own
  owned_in : (n : ℕ) (name : List ℕ) (b : Body) (k : ℕ) (ch : Channel) → slice_get (channels_in tables n name b) k ≡ Some ch → ch.owner ≡ n
  owned_in n name (IsSource s) k ch at = by s.exports at
    where
      by : (o : Option Exports) → slice_get (session tables n name s.table o) k ≡ Some ch → ch.owner ≡ n
      by None e = none_some e
      by (Some x) e = alone k e
        where
          alone : (k : ℕ) → slice_get (session tables n name s.table (Some x)) k ≡ Some ch → ch.owner ≡ n
          alone zero e = sym (ap (λ (z : Channel). z.owner) (some_same e))
          alone (suc k) e = none_some e
  owned_in n name (IsPipe q) zero ch at = sym (ap (λ (z : Channel). z.owner) (some_same at))
  owned_in n name (IsPipe q) (suc zero) ch at = sym (ap (λ (z : Channel). z.owner) (some_same at))
  owned_in n name (IsPipe q) (suc (suc k)) ch at = none_some at

  -- those from a number on are of protocols from there on
  owned_from : (n : ℕ) (ps : List Protocol) (k : ℕ) (ch : Channel) → slice_get (channels_from tables n ps) k ≡ Some ch → n ≤ ch.owner
  owned_from n [] k ch at = none_some at
  owned_from n (p ∷ ps) k ch at = elim (in_either (channels_in tables n p.name p.body) (channels_from tables (n + 1) ps) k ch at) [
    | inl here ↦ (let is = owned_in n p.name p.body k ch here in omega (arith, is))
    | inr there ↦ (let more = owned_from (n + 1) ps there.0 ch there.2 in omega (arith, more))
  ]

  -- a source has one at most
  first_alone : (n : ℕ) (name : List ℕ) (s : Source) (k : ℕ) (ch : Channel) → slice_get (channels_in tables n name (IsSource s)) k ≡ Some ch → k ≡ 0
  first_alone n name s k ch at = by s.exports k at
    where
      by : (o : Option Exports) (k : ℕ) → slice_get (session tables n name s.table o) k ≡ Some ch → k ≡ 0
      by None k e = none_some e
      by (Some x) zero e = refl
      by (Some x) (suc k) e = none_some e

  alone_from : (n : ℕ) (ps : List Protocol) (i : ℕ) (p : Protocol) (s : Source) → slice_get ps i ≡ Some p → p.body ≡ IsSource s → (c d : ℕ) (ch other : Channel) → slice_get (channels_from tables n ps) c ≡ Some ch → slice_get (channels_from tables n ps) d ≡ Some other
      → ch.owner ≡ i + n → other.owner ≡ i + n → c ≡ d
  alone_from n [] i p s at body c d ch other here there own also = none_some at
  alone_from n (q ∷ ps) zero p s at body c d ch other here there own also =
      let source : q.body ≡ IsSource s = ap (λ (r : Protocol). r.body) (some_same at) ∙ body in
      first n q.name q.body s ps source c ch own here ∙ sym (first n q.name q.body s ps source d other also there)
    where
      first : (n : ℕ) (name : List ℕ) (b : Body) (s : Source) (ps : List Protocol) → b ≡ IsSource s → (c : ℕ) (ch : Channel) → ch.owner ≡ zero + n → slice_get (channels_in tables n name b ++ channels_from tables (n + 1) ps) c ≡ Some ch → c ≡ 0
      first n name b s ps source c ch own here = elim (in_either (channels_in tables n name b) (channels_from tables (n + 1) ps) c ch here) [
        | inl w ↦ first_alone n name s c ch (ap (λ (z : Body). slice_get (channels_in tables n name z) c) (sym source) ∙ w)
        | inr w ↦ absurd (let more = owned_from (n + 1) ps w.0 ch w.2 in omega (arith, more, own))
      ]
  alone_from n (q ∷ ps) (suc i) p s at body c d ch other here there own also =
      let mine = behind n q ps i c ch own here in
      let its = behind n q ps i d other also there in
      let rest : mine.0 ≡ its.0 = alone_from (n + 1) ps i p s at body mine.0 its.0 ch other mine.2 its.2 (own ∙ further i n) (also ∙ further i n) in
      mine.1 ∙ ap (λ k. length (channels_in tables n q.name q.body) + k) rest ∙ sym its.1
    where
      further : (i n : ℕ) → suc i + n ≡ i + (n + 1)
      further i n = omega arith

      behind : (n : ℕ) (q : Protocol) (ps : List Protocol) (i c : ℕ) (ch : Channel) → ch.owner ≡ suc i + n → slice_get (channels_in tables n q.name q.body ++ channels_from tables (n + 1) ps) c ≡ Some ch
          → (j : ℕ) × (c ≡ length (channels_in tables n q.name q.body) + j) × (slice_get (channels_from tables (n + 1) ps) j ≡ Some ch)
      behind n q ps i c ch own here = elim (in_either (channels_in tables n q.name q.body) (channels_from tables (n + 1) ps) c ch here) [
        | inl w ↦ absurd (let is = owned_in n q.name q.body c ch w in omega (arith, is, own))
        | inr w ↦ w
      ]

pub one_channel : (setup : Setup) (i : ℕ) (p : Protocol) (s : Source) → protocol_at setup i ≡ Some p → p.body ≡ IsSource s → (c d : ℕ) (ch other : Channel) → channel_at setup c ≡ Some ch → channel_at setup d ≡ Some other → ch.owner ≡ i → other.owner ≡ i → c ≡ d
one_channel setup i p s at body c d ch other here there own also =
    let more : i ≡ i + 0 = omega arith in
    alone_from setup.tables 0 setup.protocols i p s at body c d ch other here there (own ∙ more) (also ∙ more)
