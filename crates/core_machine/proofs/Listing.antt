-- The routes of a net, by the numbers of sources.
use Rattle.std.proofs.Common.{◌≡◌, ◌≢◌, ℕ, zero, suc, ◌<◌, ◌≤◌, inl, inr, List, [], ◌∷◌, Option, Some, None, refl, sym, ◌∙◌, ap, subst, arith}
use Rattle.std.specs.Prelude.{◌==◌}
use Rattle.std.proofs.lemmas.Bool.{cases_lt}
use Rattle.std.proofs.lemmas.Bool.Decides.{eqb_tells}
use Rattle.bits_ip.specs.Prefix.{Net}
use Rattle.attrs.specs.declared.route.Route.{Route}
use Rattle.attrs.specs.Table.{HasNone, IsOfSources, route_of}
use Rattle.export_core.specs.Histories.{AreRoutesOf}
use Rattle.core_machine.specs.Histories.{content_of, front}
use Rattle.core_machine.specs.Lines.{Act, Line}
use Rattle.core_machine.specs.Machine.{Begins, Plays, State}
use Rattle.core_machine.specs.Phases.{Comes}
use Rattle.core_machine.specs.Rules.{IsRules, Rules}
use Rattle.core_machine.proofs.Beginnings.{only_protocols, own_sources}
use Rattle.core_machine.proofs.Contents.{if_false, if_true}

module _ (at : ℕ → Option Route) (sourced : (num : ℕ) (r : Route) → at num ≡ Some r → r.src.num ≡ num) where
  -- those of the sources below a number
  record AreBelow (n : ℕ) (routes : List Route) : Type 0 where
    sources : IsOfSources routes
    none : (num : ℕ) → n ≤ num → HasNone num routes
    are : (num : ℕ) → num < n → route_of num routes ≡ at num

  past : (r : Route) (rest : List Route) (num : ℕ) → r.src.num ≢ num → route_of num (r ∷ rest) ≡ route_of num rest
  past r rest num other = elim (eqb_tells r.src.num num) [ inl w ↦ absurd (other w.1) | inr w ↦ if_false (r.src.num == num) (Some r) (route_of num rest) w.0 ]

  here : (r : Route) (rest : List Route) (num : ℕ) → r.src.num ≡ num → route_of num (r ∷ rest) ≡ Some r
  here r rest num same = elim (eqb_tells r.src.num num) [ inl w ↦ if_true (r.src.num == num) (Some r) (route_of num rest) w.0 | inr w ↦ absurd (w.1 same) ]

  pub nothing : (num : ℕ) (routes : List Route) → HasNone num routes → route_of num routes ≡ None
  nothing num [] none = refl
  nothing num (r ∷ rest) none = past r rest num none.0 ∙ nothing num rest none.1

  below : (n : ℕ) → (routes : List Route) × AreBelow n routes
  below zero = ([], record { sources = tt; none = λ num le. tt; are = λ num lt. absurd (let bad : 1 ≤ 0 = omega arith in omega (arith, bad)) })
  below (suc n) = let rest = below n in more (at n) refl rest.0 rest.1 where
    more : (o : Option Route) → at n ≡ o → (routes : List Route) → AreBelow n routes → (routes : List Route) × AreBelow (suc n) routes
    more None e routes b = (
      routes,
      record {
        sources = b.sources;
        none = λ num le. b.none num (omega arith);
        are = λ num lt. elim (eqb_tells num n) [
          | inl w ↦ subst (λ q. route_of q routes ≡ at q) (sym w.1) (nothing n routes (b.none n (omega arith)) ∙ sym e)
          | inr w ↦ b.are num (elim (cases_lt num n) [ inl z ↦ z | inr z ↦ absurd (w.1 (omega (arith, lt, z))) ])
        ];
      },
    )
    more (Some r) e routes b = let own = sourced n r e in (
      r ∷ routes,
      record {
        sources = (b.none r.src.num (omega (arith, own)), b.sources);
        none = λ num le. ((λ same. let bad : 1 ≤ 0 = omega (arith, own, same, le) in omega (arith, bad)), b.none num (omega arith));
        are = λ num lt. elim (eqb_tells num n) [
          | inl w ↦ here r routes num (own ∙ sym w.1) ∙ sym e ∙ ap at (sym w.1)
          | inr w ↦ past r routes num (λ same. w.1 (sym same ∙ own)) ∙ b.are num (elim (cases_lt num n) [ inl z ↦ z | inr z ↦ absurd (w.1 (omega (arith, lt, z))) ])
        ];
      },
    )

pub listed : (g : Rules) (phases : List (List Act × List Line)) (starts : List Act) (lines : List Line) (s b u : State) (t p : ℕ) (k : Net) → IsRules g → Comes g phases s → Begins g starts (record s { replies = [] }) b → Plays g lines b u
    → (routes : List Route) × AreRoutesOf (content_of (front p (u.history t))) k routes
listed g phases starts lines s b u t p k ok c d q =
    let at = content_of (front p (u.history t)) k in
    let sourced = λ (num : ℕ) (r : Route) (e : at num ≡ Some r). own_sources g phases starts lines s b u t p k num r ok c d q e in
    let r = below at sourced g.protocols in (
      r.0,
      record {
        sources = r.1.sources;
        are = λ num. elim (cases_lt num g.protocols) [
          | inl w ↦ r.1.are num w
          | inr w ↦ nothing at sourced num r.0 (r.1.none num w) ∙ sym (only_protocols g phases starts lines s b u t p k num ok c d q w)
        ];
      },
    )
