-- What is beside the tables of a room is beside their lists.
use Rattle.std.proofs.Common.{◌≡◌, List, [], ◌∷◌, map, Some, sym, ap, subst, ◌∙◌, arith}
use Rattle.std.specs.List.{AllByRecursion}
use Rattle.std.specs.declared.alloc.Global.{Global}
use Rattle.std.specs.declared.vec.Vec.{Vec}
use Rattle.std.proofs.lemmas.List.{length-map}
use Rattle.atomic_table.specs.Seated.{TableId}
use Rattle.attrs.specs.declared.judge.Verdict.{Verdict}
use Rattle.attrs.specs.declared.route.Route.{Route}
use Rattle.bits_ip.specs.Prefix.{Net}
use Rattle.core_setup.proofs.PairLemmas.{get_here, get_one, get_within}
use Rattle.jour_rule.specs.declared.views.Terms.{Terms}
use Rattle.jour.specs.Seats.{journal}
use Rattle.table_shared.specs.Opening.{TableOpening}
use Rattle.phase_legal.specs.Shown.{AreBeside, PassView}
use Rattle.phase_close.specs.Closed.{IsEnding, SessionTerms, TableList}
use Rattle.phase_close.specs.Whole.{ArePassesOf, IsOver}
use Rattle.phase_close.specs.declared.session.SessionLeft.{SessionLeft}
use Rattle.phase_close.proofs.Indexed.{get_map}

module _ {X Y Z : Type 0} where
  -- beside what is made of each
  pub beside_made : (f : X → Y) (P : Y → Z → Type 0) (xs : List X) (zs : List Z) → AreBeside (λ x z. P (f x) z) xs zs → AreBeside P (map f xs) zs
  beside_made f P xs zs are =
      let many = length-map xs f in
      let count = are.count in
      record {
        count = omega (arith, many, count);
        each = λ i y z at there.
            let inside = get_within (map f xs) i y at in
            let x = get_here xs i (omega (arith, inside, many)) in
            subst (λ u. P u z) (get_one (map f xs) i (f x.0) y (get_map f xs i x.0 x.1) at) (are.each i x.0 z x.1 there);
      }

  pub made_beside : (f : X → Y) (P : Z → Y → Type 0) (zs : List Z) (xs : List X) → AreBeside (λ z x. P z (f x)) zs xs → AreBeside P zs (map f xs)
  made_beside f P zs xs are =
      let many = length-map xs f in
      let count = are.count in
      record {
        count = omega (arith, many, count);
        each = λ i z y at there.
            let inside = get_within (map f xs) i y there in
            let x = get_here xs i (omega (arith, inside, many)) in
            subst (P z) (get_one (map f xs) i (f x.0) y (get_map f xs i x.0 x.1) there) (are.each i z x.0 at x.1);
      }

  pub beside_both : (P : X → Y → Type 0) (Q : X → Z → Type 0) (R : Y → Z → Type 0) → ((x : X) (y : Y) (z : Z) → P x y → Q x z → R y z) → (xs : List X) (ys : List Y) (zs : List Z) → AreBeside P xs ys → AreBeside Q xs zs → AreBeside R ys zs
  beside_both P Q R f xs ys zs a b =
      let left = a.count in
      let right = b.count in
      record {
        count = omega (arith, left, right);
        each = λ i y z at there.
            let inside = get_within ys i y at in
            let x = get_here xs i (omega (arith, inside, left)) in
            f x.0 y z (a.each i x.0 y x.1 at) (b.each i x.0 z x.1 there);
      }

pub all_weaker : {X : Type 0} (P Q : X → Type 0) → ((x : X) → P x → Q x) → (xs : List X) → AllByRecursion P xs → AllByRecursion Q xs
all_weaker P Q f [] all = tt
all_weaker P Q f (x ∷ xs) all = (f x all.0, all_weaker P Q f xs all.1)

module _ (tables : List (TableId × Terms TableOpening)) (lists : List TableList) (are : AreBeside (λ (t : TableId × Terms TableOpening) (l : TableList). l.0 ≡ t) tables lists) where
  pub passes_here : (passes : Vec PassView Global) → ArePassesOf tables passes → AreBeside (λ (l : TableList) (pass : PassView). journal pass ≡ l.0) lists passes.items
  passes_here passes of = beside_both (λ (t : TableId × Terms TableOpening) (l : TableList). l.0 ≡ t) (λ (t : TableId × Terms TableOpening) (pass : PassView). journal pass ≡ t) (λ (l : TableList) (pass : PassView). journal pass ≡ l.0)
      (λ t l pass a b. b ∙ sym a) tables lists passes.items are of

  pub is_ending : {J : Type 0} (verdict : J → Net → Route → Verdict) (key : SessionTerms) (left : SessionLeft J) → IsOver verdict tables key left → IsEnding verdict lists key left
  is_ending verdict key left o =
      let inside = get_within tables left.table key.protocol.port o.there in
      let count = are.count in
      let l = get_here lists left.table (omega (arith, inside, count)) in
      let same = are.each left.table key.protocol.port l.0 o.there l.1 in
      record {
        left_is = o.left_is;
        channel_is = o.channel_is;
        entries = l.0.1;
        there = l.1 ∙ ap (λ z. Some (z, l.0.1)) same;
      }
