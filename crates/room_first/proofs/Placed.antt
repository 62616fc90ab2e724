-- The channels of protocols that stand before the first phase have the numbers under which what is
-- played has them.
use Rattle.std.proofs.Common.{◌≡◌, ℕ, zero, suc, ◌+◌, List, [], ◌∷◌, ◌++◌, Some, refl, ◌∙◌, ap, subst, arith, length, map}
use Rattle.std.specs.Prelude.{slice_get}
use Rattle.std.proofs.lemmas.List.{append-nil}
use Rattle.attrs.specs.declared.judge.Verdict.{Verdict}
use Rattle.attrs.specs.declared.route.Route.{Route}
use Rattle.bits_ip.specs.Prefix.{Net}
use Rattle.bits_ip.specs.declared.address.Family.{Family}
use Rattle.core_setup.specs.Channels.{Channel, channels_from, channels_in, numbers_of}
use Rattle.core_setup.proofs.Numbered.{get_behind, none_some, some_same}
use Rattle.phase_answers.specs.declared.lent.Lent.{Lent}
use Rattle.room_open.specs.declared.standing.StandingMember.{StandingMember}
use Rattle.sys_run.specs.Parts.{body_seen, protocol_seen}
use Rattle.sys_run.specs.declared.parts.ProtocolParts.{ProtocolParts}
use Rattle.room_first.specs.Inside.{AreFirst, IsFirstProtocol, own_channels}
use Rattle.room_first.proofs.Numbers.{no_numbers, none_behind, numbers_join}
use Rattle.room_first.proofs.Turns.{body_counts}

get_front : {X : Type 0} (xs ys : List X) (k : ℕ) (x : X) → slice_get xs k ≡ Some x → slice_get (xs ++ ys) k ≡ Some x
get_front [] ys k x e = none_some e
get_front (y ∷ xs) ys zero x e = e
get_front (y ∷ xs) ys (suc k) x e = get_front xs ys k x e

module _ {J : Type 0} (verdict : J → Net → Route → Verdict) (tables : List (List ℕ × Family)) where
  -- the channels of a protocol of this number
  abbrev pub channels_of : ℕ → ProtocolParts J → List Channel
  channels_of number p = channels_in tables number p.name (body_seen verdict p.body)

  abbrev pub channels_behind : ℕ → List (ProtocolParts J) → List Channel
  channels_behind number ps = channels_from tables number (map (protocol_seen verdict) ps)

  module _ (passed : ℕ → List ℕ) where
    -- What stands in a place is the protocol of that place. Its channels are in places of their own,
    -- behind `c` others.
    pub record IsFirstAt (n c i : ℕ) (protocols : List (ProtocolParts J)) (held : StandingMember (Lent J)) : Type 0 where
      pub parts : ProtocolParts J
      pub parts_is : slice_get protocols i ≡ Some parts
      pub owner : ℕ
      pub owner_is : owner ≡ i + n
      pub number : ℕ
      pub place : ℕ
      pub number_is : number ≡ c + place
      pub begun : IsFirstProtocol verdict tables passed owner number parts.body held
      pub there : (k : ℕ) (channel : Channel) → slice_get (channels_of owner parts) k ≡ Some channel → slice_get (channels_behind n protocols) (place + k) ≡ Some channel
      pub belong : (m : ℕ) → numbers_of owner m (channels_behind n protocols) ≡ numbers_of owner (m + place) (channels_of owner parts)

    pub first_at : (n c : ℕ) (ps : List (ProtocolParts J)) (stood : List (StandingMember (Lent J))) → AreFirst verdict tables passed n c ps stood
        → (i : ℕ) (held : StandingMember (Lent J)) → slice_get stood i ≡ Some held → IsFirstAt n c i ps held
    first_at n c ps [] are i held e = none_some e
    first_at n c [] (s ∷ others) are i held e = absurd are
    first_at n c (p ∷ more) (s ∷ others) are zero held e =
        let own = channels_of n p in
        let rest = channels_behind (n + 1) more in
        record {
          parts = p;
          parts_is = refl;
          owner = n;
          owner_is = omega arith;
          number = c;
          place = zero;
          number_is = omega arith;
          begun = subst (IsFirstProtocol verdict tables passed n c p.body) (some_same e) are.0;
          there = λ k channel is. ap (slice_get (own ++ rest)) (let z : zero + k ≡ k = omega arith in z) ∙ get_front own rest k channel is;
          belong = λ m.
              numbers_join n m own rest
              ∙ ap (λ l. numbers_of n m own ++ l) (none_behind tables n (n + 1) (m + length own) (map (protocol_seen verdict) more) (omega arith))
              ∙ append-nil (numbers_of n m own)
              ∙ ap (λ k. numbers_of n k own) (let z : m ≡ m + zero = omega arith in z);
        }
    first_at n c (p ∷ more) (s ∷ others) are (suc i) held e =
        let h = first_at (n + 1) (c + own_channels p.body) more others are.1 i held e in
        let count = body_counts verdict tables n p.name p.body in
        let front = channels_of n p in
        let rest = channels_behind (n + 1) more in
        record {
          parts = h.parts;
          parts_is = h.parts_is;
          owner = h.owner;
          owner_is = let is = h.owner_is in omega (arith, is);
          number = h.number;
          place = length front + h.place;
          number_is = let is = h.number_is in omega (arith, is, count);
          begun = h.begun;
          there = λ k channel is.
              ap (slice_get (front ++ rest)) (let z : length front + h.place + k ≡ length front + (h.place + k) = omega arith in z)
              ∙ get_behind front rest (h.place + k) ∙ h.there k channel is;
          belong = λ m.
              numbers_join h.owner m front rest
              ∙ ap (λ l. l ++ numbers_of h.owner (m + length front) rest) (no_numbers tables h.owner n m p.name (body_seen verdict p.body) (λ same. let is = h.owner_is in absurd (omega (arith, is, same))))
              ∙ h.belong (m + length front)
              ∙ ap (λ k. numbers_of h.owner k (channels_of h.owner h.parts)) (let z : m + length front + h.place ≡ m + (length front + h.place) = omega arith in z);
        }

    pub first_count : (n c : ℕ) (ps : List (ProtocolParts J)) (stood : List (StandingMember (Lent J))) → AreFirst verdict tables passed n c ps stood → length stood ≡ length ps
    first_count n c [] [] are = refl
    first_count n c [] (s ∷ others) are = absurd are
    first_count n c (p ∷ more) [] are = absurd are
    first_count n c (p ∷ more) (s ∷ others) are = ap suc (first_count (n + 1) (c + own_channels p.body) more others are.1)
