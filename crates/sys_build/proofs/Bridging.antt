-- In an accepted configuration each pipe is a bridge.
use Rattle.std.proofs.Common.{◌≡◌, ◌≢◌, ◌∙◌, sym, ap, subst, refl, ℕ, zero, suc, ◌+◌, ◌⊎◌, inl, inr, not, List, [], ◌∷◌, ◌++◌, length, Some, append_assoc, append-nil}
use Rattle.std.specs.Prelude.{⊤, option_and_then, slice_get}
use Rattle.std.specs.List.{All, AllByRecursion}
use Rattle.std.proofs.lemmas.List.Elements.{All-head, All-tail}
use Rattle.std.proofs.lemmas.Option.{none-some, same_Some}
use Rattle.conf_names.specs.Joints.{IsBridge, IsForest}
use Rattle.conf_names.specs.declared.joints.Joint.{Joint}
use Rattle.core_setup.specs.Bridges.{IsBridgeOf, pipe_at, pipe_in}
use Rattle.core_setup.specs.Setup as setup
use Rattle.core_setup.proofs.Numbered.{all_at}
use Rattle.show_route.specs.declared.query.Query.{Query}
use Rattle.conf_system.specs.Policies.{Filter}
use Rattle.conf_system.specs.Pipes.{pipe_of as joint_in, pipes_of}
use Rattle.conf_system.specs.System.{Body, IsBgp, IsPipe, IsStatic, Pipe, Protocol, System}
use Rattle.sys_build.specs.Setups.{body_of, pipe_of, protocols_from, setup_of}

abbrev joint_of : Pipe → Joint
joint_of p = record { table = p.table; peer = p.peer }

-- ---- a pipe that is played is one of the configuration

record IsFrom (ps : List Protocol) (i : ℕ) (q : setup.Pipe) : Type 0 where
  r : Protocol
  there : slice_get ps i ≡ Some r
  p : Pipe
  body : r.body ≡ IsPipe p
  same : q ≡ pipe_of p

body_from : (number : ℕ) (b : Body) (q : setup.Pipe) → pipe_in (body_of number b) ≡ Some q → (p : Pipe) × (b ≡ IsPipe p) × (q ≡ pipe_of p)
body_from number (IsStatic p) q e = absurd (none-some q e)
body_from number (IsBgp p) q e = absurd (none-some q e)
body_from number (IsPipe p) q e = (p, refl, sym (same_Some (pipe_of p) q e))

from_protocols : (first : ℕ) (ps : List Protocol) (i : ℕ) (q : setup.Pipe) → option_and_then (λ (p : setup.Protocol). pipe_in p.body) (slice_get (protocols_from first ps) i) ≡ Some q → IsFrom ps i q
from_protocols first [] i q e = absurd (none-some q e)
from_protocols first (r ∷ ps) zero q e = let b = body_from first r.body q e in record { r = r; there = refl; p = b.0; body = b.1; same = b.2 }
from_protocols first (r ∷ ps) (suc i) q e = let x = from_protocols (first + 1) ps i q e in record { r = x.r; there = x.there; p = x.p; body = x.body; same = x.same }

-- ---- the pipes before it and behind it

record IsSplit (ps : List Protocol) (i : ℕ) (r : Protocol) : Type 0 where
  front : List Protocol
  back : List Protocol
  whole : ps ≡ front ++ r ∷ back
  place : length front ≡ i

split : (ps : List Protocol) (i : ℕ) (r : Protocol) → slice_get ps i ≡ Some r → IsSplit ps i r
split [] i r e = absurd (none-some r e)
split (x ∷ ps) zero r e = record { front = []; back = ps; whole = ap (λ (y : Protocol). y ∷ ps) (same_Some x r e); place = refl }
split (x ∷ ps) (suc i) r e = let s = split ps i r e in record { front = x ∷ s.front; back = s.back; whole = ap (λ l. x ∷ l) s.whole; place = ap suc s.place }

pipes_split : (front : List Protocol) (r : Protocol) (back : List Protocol) → pipes_of (front ++ r ∷ back) ≡ pipes_of front ++ (joint_in r.body ++ pipes_of back)
pipes_split [] r back = refl
pipes_split (x ∷ front) r back = ap (λ l. joint_in x.body ++ l) (pipes_split front r back) ∙ sym (append_assoc (joint_in x.body) (pipes_of front) (joint_in r.body ++ pipes_of back))

get_two : (front : List Protocol) (x : Protocol) (back : List Protocol) (i : ℕ) (r : Protocol) → slice_get (front ++ x ∷ back) i ≡ Some r → i ≢ length front
    → (slice_get front i ≡ Some r) ⊎ ((j : ℕ) × (slice_get back j ≡ Some r))
get_two [] x back zero r e apart = absurd (apart refl)
get_two [] x back (suc j) r e apart = inr (j, e)
get_two (y ∷ front) x back zero r e apart = inl e
get_two (y ∷ front) x back (suc i) r e apart = get_two front x back i r e (λ same. apart (ap suc same))

module _ (P : Joint → Type 0) where
  abbrev EachIn : Body → Type 0
  EachIn (IsStatic p) = ⊤
  EachIn (IsBgp p) = ⊤
  EachIn (IsPipe p) = P (joint_of p)

  next_in : (b : Body) (rest : List Joint) → All P (joint_in b ++ rest) → EachIn b × All P rest
  next_in (IsStatic p) rest all = (tt, all)
  next_in (IsBgp p) rest all = (tt, all)
  next_in (IsPipe p) rest all = (All-head P (joint_of p) rest all, All-tail P (joint_of p) rest all)

  all_in : (ps : List Protocol) (rest : List Joint) → All P (pipes_of ps ++ rest) → AllByRecursion (λ (r : Protocol). EachIn r.body) ps × All P rest
  all_in [] rest all = (tt, all)
  all_in (r ∷ ps) rest all =
      let first = next_in r.body (pipes_of ps ++ rest) (subst (All P) (append_assoc (joint_in r.body) (pipes_of ps) rest) all) in
      let later = all_in ps rest first.1 in
      ((first.0, later.0), later.1)

-- ---- each is a bridge

module _ (law : (front back : List Joint) (p : Joint) → IsForest (front ++ p ∷ back) → IsBridge p (front ++ back)) (ps : List Protocol) (forest : IsForest (pipes_of ps)) (number : ℕ) (q : setup.Pipe) (x : IsFrom ps number q) where
  parts : IsSplit ps number x.r
  parts = split ps number x.r x.there

  pipes_are : pipes_of ps ≡ pipes_of parts.front ++ joint_of x.p ∷ pipes_of parts.back
  pipes_are =
      ap pipes_of parts.whole ∙ pipes_split parts.front x.r parts.back
      ∙ ap (λ (b : Body). pipes_of parts.front ++ (joint_in b ++ pipes_of parts.back)) x.body

  bridge : IsBridge (joint_of x.p) (pipes_of parts.front ++ pipes_of parts.back)
  bridge = law (pipes_of parts.front) (pipes_of parts.back) (joint_of x.p) (subst IsForest pipes_are forest)

  abbrev Stays : Joint → Type 0
  Stays j = bridge.side j.table ≡ bridge.side j.peer

  others : (i : ℕ) (other : setup.Pipe) → i ≢ number → IsFrom ps i other → bridge.side other.primary ≡ bridge.side other.peer
  others i other apart y =
      let front = all_in Stays parts.front (pipes_of parts.back) bridge.along in
      let back = all_in Stays parts.back [] (subst (All Stays) (sym (append-nil (pipes_of parts.back))) front.1) in
      let here : slice_get (parts.front ++ x.r ∷ parts.back) i ≡ Some y.r = ap (λ l. slice_get l i) (sym parts.whole) ∙ y.there in
      let of = λ (b : EachIn Stays y.r.body). subst (λ (p : setup.Pipe). bridge.side p.primary ≡ bridge.side p.peer) (sym y.same) (subst (EachIn Stays) y.body b) in
      elim (get_two parts.front x.r parts.back i y.r here (λ same. apart (same ∙ parts.place))) [
        | inl w ↦ of (all_at (λ (r : Protocol). EachIn Stays r.body) parts.front i y.r front.0 w)
        | inr w ↦ of (all_at (λ (r : Protocol). EachIn Stays r.body) parts.back w.0 y.r back.0 w.1)
      ]

pub all_bridges : ((front back : List Joint) (p : Joint) → IsForest (front ++ p ∷ back) → IsBridge p (front ++ back)) → (system : System) (cells : ℕ) (filters : List Filter) (queries : List Query) → IsForest (pipes_of system.protocols)
    → (number : ℕ) (q : setup.Pipe) → pipe_at (setup_of system cells filters queries) number ≡ Some q → IsBridgeOf (setup_of system cells filters queries) number q
unfolding setup_of
all_bridges law system cells filters queries forest number q there =
    let x = from_protocols 0 system.protocols number q there in
    let b = bridge law system.protocols forest number q x in
    record {
      side = b.side;
      across = ap (λ (p : setup.Pipe). b.side p.primary) x.same ∙ b.across ∙ ap (λ (p : setup.Pipe). not (b.side p.peer)) (sym x.same);
      along = λ i other apart at. others law system.protocols forest number q x i other apart (from_protocols 0 system.protocols i other at);
    }
