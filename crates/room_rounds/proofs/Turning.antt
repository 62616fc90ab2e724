-- Members that go on round by round.
use Rattle.std.proofs.Common.{◌≡◌, ℕ, List, [], ◌∷◌, ◌++◌, length, Some, refl, sym, subst, ◌∙◌, arith}
use Rattle.std.specs.Prelude.{slice_get}
use Rattle.std.specs.List.{AllByRecursion}
use Rattle.atomic_table.specs.Seated.{TableId}
use Rattle.attrs.specs.declared.judge.Verdict.{Verdict}
use Rattle.attrs.specs.declared.route.Route.{Route}
use Rattle.attrs.specs.declared.route.Src.{Src}
use Rattle.bits_ip.specs.Prefix.{Net}
use Rattle.core_setup.proofs.Numbered.{all_at, some_same}
use Rattle.core_setup.proofs.PairLemmas.{get_here, get_within}
use Rattle.jour_rule.specs.declared.views.Terms.{Terms}
use Rattle.table_shared.specs.Opening.{TableOpening}
use Rattle.phase_legal.specs.Shown.{AreBeside}
use Rattle.phase_close.proofs.Besides.{beside_more}
use Rattle.phase_close.proofs.Ending.{all_placed}
use Rattle.phase_close.proofs.Over.{all_weaker}
use Rattle.pipe_rest.specs.Heads.{IsAmong}
use Rattle.pipe_rest.specs.Later.{CanSettle, IsLaterMember}
use Rattle.pipe_rest.specs.declared.member.MemberLeft.{MemberLeft}
use Rattle.pipe_rest.proofs.Goes.{member_among, member_can, member_then}
use Rattle.room_rounds.specs.Inside.{HaveRested}
use Rattle.room_rounds.proofs.Going.{member_self}

-- what is made of each item holds of each that was made
all_beside : {X Y : Type 0} (P : X → Type 0) (Q : X → Y → Type 0) (R : Y → Type 0) → ((x : X) (y : Y) → P x → Q x y → R y) → (xs : List X) (ys : List Y) → AllByRecursion P xs → AreBeside Q xs ys → AllByRecursion R ys
all_beside P Q R f xs ys all are =
    all_placed R ys
    (λ i y at.
    let inside = get_within ys i y at in
    let count = are.count in
    let x = get_here xs i (omega (arith, inside, count)) in
    f x.0 y (all_at P xs i x.0 all x.1) (are.each i x.0 y x.1 at))

beside_self : {X : Type 0} (P : X → X → Type 0) → ((x : X) → P x x) → (xs : List X) → AreBeside P xs xs
beside_self P f xs = record { count = refl; each = λ i x y at there. subst (P x) (some_same (sym at ∙ there)) (f x) }

beside_then : {X : Type 0} (P : X → X → Type 0) → ((x y z : X) → P x y → P y z → P x z) → (xs ys zs : List X) → AreBeside P xs ys → AreBeside P ys zs → AreBeside P xs zs
beside_then P f xs ys zs first then = record {
  count = then.count ∙ first.count;
  each = λ i x z at there.
      let inside = get_within xs i x at in
      let count = first.count in
      let y = get_here ys i (omega (arith, inside, count)) in
      f x y.0 z (first.each i x y.0 at y.1) (then.each i y.0 z y.1 there);
}

pub beside_one : {X : Type 0} (P : X → X → Type 0) (done all new : List X) (x y : X) → new ≡ all ++ y ∷ [] → AreBeside P done all → P x y → AreBeside P (done ++ x ∷ []) new
beside_one P done all new x y is are p = subst (AreBeside P (done ++ x ∷ [])) (sym is) (beside_more P done all x y are p)

module _ {J : Type 0} (verdict : J → Net → Route → Verdict) (tables : List (TableId × Terms TableOpening)) (sources : List Src) where
  -- what is known between two rounds
  pub record Goes (first now : List (MemberLeft J)) : Type 0 where
    pub can : AllByRecursion (CanSettle verdict tables sources) now
    pub later : AreBeside (IsLaterMember verdict sources) first now

  pub begun : (first : List (MemberLeft J)) → AllByRecursion (CanSettle verdict tables sources) first → Goes first first
  begun first can = record { can = can; later = beside_self (IsLaterMember verdict sources) (member_self verdict sources) first }

  pub one_more : (first now new : List (MemberLeft J)) → Goes first now → AreBeside (IsLaterMember verdict sources) now new → Goes first new
  one_more first now new goes round = record {
    can = all_beside (CanSettle verdict tables sources) (IsLaterMember verdict sources) (CanSettle verdict tables sources) (λ a b can later. member_can verdict sources tables a b later can) now new goes.can round;
    later = beside_then (IsLaterMember verdict sources) (member_then verdict sources) first now new goes.later round;
  }

  -- all write tables that are there, whose number this is
  pub are_among : (first now list : List (MemberLeft J)) (many : ℕ) → Goes first now → many ≡ length tables → list ≡ now → AllByRecursion (IsAmong many) list
  are_among first now list many goes len same =
      subst (λ n. AllByRecursion (IsAmong n) list) (sym len)
      (subst (AllByRecursion (IsAmong (length tables))) (sym same) (all_weaker (CanSettle verdict tables sources) (IsAmong (length tables)) (member_among verdict sources tables) now goes.can))

pub at_rest : {J : Type 0} (many count : ℕ) (list members : List (MemberLeft J)) → many ≡ count → list ≡ members → HaveRested many list → HaveRested count members
at_rest many count list members len same rested = subst (λ n. HaveRested n members) len (subst (HaveRested many) same rested)
