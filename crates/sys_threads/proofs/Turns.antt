-- Turns of loops over protocols: what is made of each, and which of them start.
use Rattle.std.proofs.Common.{◌≡◌, ℕ, zero, suc, ◌+◌, ◌<◌, Bool, true, false, true≢false, ◌&&◌, All, List, [], ◌∷◌, ◌++◌, Some, get_or, refl, sym, ◌∙◌, ap, arith, length, map, take}
use Rattle.std.specs.Prelude.{slice_get}
use Rattle.std.proofs.lemmas.List.Elements.{All-append, All-weaker}
use Rattle.std.proofs.lemmas.List.{length-map, map-append, reverse-append}
use Rattle.std.proofs.lemmas.Option.{slice_get_read}
use Rattle.attrs.specs.declared.attributes.Kind.{Kind}
use Rattle.attrs.specs.declared.attributes.Kind.TheVariants.{Bgp, Static}
use Rattle.attrs.specs.declared.judge.Verdict.{Verdict}
use Rattle.attrs.specs.declared.route.Route.{Route}
use Rattle.bits_ip.specs.Prefix.{Net}
use Rattle.core_machine.specs.Lines.{Act}
use Rattle.core_setup.specs.Protocols.{starts_from, with_begin, with_start}
use Rattle.core_setup.specs.Setup.{Protocol}
use Rattle.core_setup.proofs.PairLemmas.{length_front, take_one_more}
use Rattle.room_ends.specs.Played.{start_act, starts_of}
use Rattle.sys_run.specs.Parts.{body_seen, protocol_seen}
use Rattle.sys_run.specs.declared.parts.BodyParts.{BodyParts}
use Rattle.sys_run.specs.declared.parts.BodyParts.TheVariants.{Pipe, Source}
use Rattle.sys_run.specs.declared.parts.ProtocolParts.{ProtocolParts}
use Rattle.sys_threads.specs.Inside.{begins, is_static, with_number}

pub all_three : (a b c : Bool) → ((a && b) && c) ≡ true → (a ≡ true) × (b ≡ true) × (c ≡ true)
all_three true true true is = (refl, refl, refl)
all_three true true false is = absurd (true≢false (sym is))
all_three true false c is = absurd (true≢false (sym is))
all_three false b c is = absurd (true≢false (sym is))

pub all_four : (a b c d : Bool) → ((a && b) && (c && d)) ≡ true → (a ≡ true) × (b ≡ true) × (c ≡ true) × (d ≡ true)
all_four true true c d is = let back = all_three c d true (ap (λ t. t && true) is) in (refl, refl, back.0, back.1)
all_four true false c d is = absurd (true≢false (sym is))
all_four false b c d is = absurd (true≢false (sym is))

-- an item that a loop over a slice reads
pub item_read : {X : Type 0} (xs : List X) (k : ℕ) (x : X) → k < length xs → x ≡ get_or xs k x → slice_get xs k ≡ Some x
item_read xs k x w e = slice_get_read xs (length xs) k x refl w e

pub front_count : {X : Type 0} (xs : List X) (k : ℕ) (x : X) → slice_get xs k ≡ Some x → length (take k xs) ≡ k
front_count xs k x e = let h = length_front xs k x e in omega (arith, h)

module _ {X Y : Type 0} (f : X → Y) where
  pub mapped_turn : (xs : List X) (ys zs : List Y) (k : ℕ) (x : X) → slice_get xs k ≡ Some x → zs ≡ ys ++ f x ∷ [] → ys ≡ map f (take k xs) → zs ≡ map f (take (k + 1) xs)
  mapped_turn xs ys zs k x e more was = more ∙ ap (λ l. l ++ f x ∷ []) was ∙ sym (ap (map f) (take_one_more xs k x e) ∙ map-append f (take k xs) (x ∷ []))

pub below_more : (b : Bool) (k : ℕ) (numbers : List ℕ) → All (λ (n : ℕ). n < k) numbers → All (λ (n : ℕ). n < k + 1) (with_number b k numbers)
below_more false k numbers all = All-weaker (λ (n : ℕ). n < k) (λ (n : ℕ). n < k + 1) (λ n w. omega (arith, w)) numbers all
below_more true k numbers all =
    All-append (λ (n : ℕ). n < k + 1) numbers (k ∷ []) (All-weaker (λ (n : ℕ). n < k) (λ (n : ℕ). n < k + 1) (λ n w. omega (arith, w)) numbers all) one
  where
    one : All (λ (n : ℕ). n < k + 1) (k ∷ [])
    one zero d w = omega arith
    one (suc j) d w = absurd (omega (arith, w))

module _ {J : Type 0} (verdict : J → Net → Route → Verdict) where
  starts_more : (n : ℕ) (ps : List Protocol) (p : Protocol) (earlier : List Act) → starts_from n (ps ++ p ∷ []) earlier ≡ with_begin (n + length ps) p.body (starts_from n ps earlier)
  starts_more n [] p earlier = ap (λ m. with_begin m p.body earlier) (let e : n ≡ n + 0 = omega arith in e)
  starts_more n (q ∷ ps) p earlier =
      starts_more (n + 1) ps p (with_begin n q.body earlier)
      ∙ ap (λ m. with_begin m p.body (starts_from (n + 1) ps (with_begin n q.body earlier))) (let e : n + 1 + length ps ≡ n + suc (length ps) = omega arith in e)

  kind_starts : (number : ℕ) (kind : Kind) (numbers : List ℕ) → starts_of (with_number (is_static kind) number numbers) ≡ with_start number kind (starts_of numbers)
  kind_starts number Static numbers = ap (map start_act) (reverse-append numbers (number ∷ []))
  kind_starts number Bgp numbers = refl

  body_starts : (number : ℕ) (body : BodyParts J) (numbers : List ℕ) → starts_of (with_number (begins body) number numbers) ≡ with_begin number (body_seen verdict body) (starts_of numbers)
  body_starts number (Source p) numbers = kind_starts number p.spec.kind numbers
  body_starts number (Pipe p) numbers = refl

  front_count_mapped : (xs : List (ProtocolParts J)) (k : ℕ) (x : ProtocolParts J) → slice_get xs k ≡ Some x → 0 + length (map (protocol_seen verdict) (take k xs)) ≡ k
  front_count_mapped xs k x e =
      let same = length-map (take k xs) (protocol_seen verdict) in
      let h = front_count xs k x e in omega (arith, same, h)

  pub starts_turn : (xs : List (ProtocolParts J)) (k : ℕ) (x : ProtocolParts J) (old new : List ℕ) → slice_get xs k ≡ Some x → new ≡ with_number (begins x.body) k old
      → starts_of old ≡ starts_from 0 (map (protocol_seen verdict) (take k xs)) [] → starts_of new ≡ starts_from 0 (map (protocol_seen verdict) (take (k + 1) xs)) []
  starts_turn xs k x old new e more was =
      let front = map (protocol_seen verdict) (take k xs) in
      let place : 0 + length front ≡ k = front_count_mapped xs k x e in
      ap starts_of more ∙ body_starts k x.body old ∙ ap (with_begin k (body_seen verdict x.body)) was
      ∙ sym (
      ap (λ (l : List (ProtocolParts J)). starts_from 0 (map (protocol_seen verdict) l) []) (take_one_more xs k x e)
      ∙ ap (λ l. starts_from 0 l []) (map-append (protocol_seen verdict) (take k xs) (x ∷ []))
      ∙ starts_more 0 front (protocol_seen verdict x) []
      ∙ ap (λ m. with_begin m (body_seen verdict x.body) (starts_from 0 front [])) place
      )
