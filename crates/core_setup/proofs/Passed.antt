-- The exporter of a channel goes by what the rules say of it.
use Rattle.std.proofs.Common.{◌≡◌, ◌≢◌, ℕ, zero, suc, ◌<◌, ◌≤◌, ◌⊎◌, inl, inr, Bool, true, false, List, [], ◌∷◌, ◌++◌, Option, Some, None, refl, sym, ◌∙◌, ap, arith, length, is_some}
use Rattle.std.specs.Prelude.{◌==◌, ◌||◌, if◌then◌else◌}
use Rattle.std.proofs.lemmas.Bool.{false≢true}
use Rattle.std.proofs.lemmas.Bool.Decides.{eqb_tells, nat_tests}
use Rattle.attrs.specs.declared.route.Route.{Route}
use Rattle.export_core.specs.Candidates.{among}
use Rattle.export_core.specs.Passing.{value_by}
use Rattle.export_core.specs.declared.log.Key.{Key}
use Rattle.core_machine.specs.Match.{IsSpecOf}
use Rattle.core_machine.specs.Pipes.{ends_with, passes, passes_to}
use Rattle.core_machine.specs.Rules.{AreWays, Rules}
use Rattle.core_setup.specs.Channels.{Channel, channel_at, reads_at, target_at}
use Rattle.core_setup.specs.Protocols.{exports_of, exports_to, passed_below, rules_of, sources, table_at, value_at}
use Rattle.core_setup.specs.Setup.{Exports, IsSetup, Setup}
use Rattle.core_setup.proofs.Numbered.{beyond_none, channel_belongs, itself_is, none_some}

-- ---- numbers in lists

among_append : (num : ℕ) (xs ys : List ℕ) → among num (xs ++ ys) ≡ (among num xs || among num ys)
among_append num [] ys = refl
among_append num (x ∷ xs) ys = ap (λ t. (x == num) || t) (among_append num xs ys) ∙ join_left (x == num) (among num xs) (among num ys) where
  join_left : (a b c : Bool) → (a || (b || c)) ≡ ((a || b) || c)
  join_left true b c = refl
  join_left false b c = refl

or_nothing : (a b : Bool) → b ≡ false → (a || b) ≡ a
or_nothing true b e = refl
or_nothing false b e = e

nothing_or : (a b : Bool) → a ≡ false → (a || b) ≡ b
nothing_or a b e = ap (λ t. t || b) e

apart_is : (a b : ℕ) → a ≢ b → (a == b) ≡ false
apart_is a b apart = elim (eqb_tells a b) [ inl w ↦ absurd (apart w.1) | inr w ↦ w.0 ]

last_or_before : (num i : ℕ) → num < suc i → (num ≡ i) ⊎ (num < i)
last_or_before num i lt = grind (arith, nat_tests)

-- ---- the sources that a direction passes, of those below a number

module _ (rules : Rules) (d : ℕ) where
  abbrev one : Bool → ℕ → List ℕ
  one t i = if t then i ∷ [] else []

  other_one : (num i : ℕ) (t : Bool) → i ≢ num → among num (one t i) ≡ false
  other_one num i true apart = ap (λ t. t || false) (apart_is i num apart)
  other_one num i false apart = refl

  same_one : (i : ℕ) (t : Bool) → among i (one t i) ≡ t
  same_one i true = ap (λ t. t || false) (itself_is i)
  same_one i false = refl

  passed_beyond : (n num : ℕ) → n ≤ num → among num (passed_below rules d n) ≡ false
  passed_beyond zero num le = refl
  passed_beyond (suc i) num le =
      among_append num (passed_below rules d i) (one (passes rules d i) i)
      ∙ nothing_or (among num (passed_below rules d i)) (among num (one (passes rules d i) i)) (passed_beyond i num (omega (arith, le)))
      ∙ other_one num i (passes rules d i) (λ e. absurd (let bad : 1 ≤ 0 = omega (arith, le, e) in omega (arith, bad)))

  passed_there : (n num : ℕ) → num < n → among num (passed_below rules d n) ≡ passes rules d num
  passed_there zero num lt = absurd (let bad : 1 ≤ 0 = omega (arith, lt) in omega (arith, bad))
  passed_there (suc i) num lt =
      among_append num (passed_below rules d i) (one (passes rules d i) i)
      ∙ elim (last_or_before num i lt) [
        | inl e ↦ nothing_or (among num (passed_below rules d i)) (among num (one (passes rules d i) i)) (passed_beyond i num (omega (arith, e)))
            ∙ ap (λ m. among m (one (passes rules d i) i)) e ∙ same_one i (passes rules d i) ∙ ap (passes rules d) (sym e)
        | inr less ↦ or_nothing (among num (passed_below rules d i)) (among num (one (passes rules d i) i)) (other_one num i (passes rules d i) (λ e. absurd (let bad : 1 ≤ 0 = omega (arith, less, e) in omega (arith, bad))))
            ∙ passed_there i num less
      ]

below_or_not : (num n : ℕ) → (num < n) ⊎ (n ≤ num)
below_or_not num n = grind (arith, nat_tests)

-- ---- the rules of a setup, where the ways of sources are ways

module _ (setup : Setup) (is : IsSetup setup) (ways : AreWays (rules_of setup)) where
  -- a source whose table isn't there comes to no other
  first_hop : (num : ℕ) → (rules_of setup).table num ≡ length setup.tables → (table d : ℕ) → (rules_of setup).target d ≡ Some table → (rules_of setup).hops ((rules_of setup).reads d) num ≡ Some [] → ⊥
  first_hop num none table d writes first = by (channel_at setup d) refl where
    by : (o : Option Channel) → channel_at setup d ≡ o → ⊥
    by None f = none_some (sym (ap target_at f) ∙ writes)
    by (Some ch) f =
        let within = (channel_belongs setup d ch is f).within in
        let same : (rules_of setup).reads d ≡ length setup.tables = sym (ways.only_home ((rules_of setup).reads d) num first) ∙ none in
        let here : (rules_of setup).reads d ≡ ch.reads = ap (λ o. reads_at (length setup.tables) o) f in
        absurd (let bad : 1 ≤ 0 = omega (arith, within, same, here) in omega (arith, bad))

  no_way : (num : ℕ) → (rules_of setup).table num ≡ length setup.tables → (ds : List ℕ) (table d : ℕ) → (rules_of setup).hops table num ≡ Some (d ∷ ds) → ⊥
  no_way num none [] table d e = let c = ways.chain table num d [] e in first_hop num none table d c.0 c.1
  no_way num none (next ∷ more) table d e = no_way num none more ((rules_of setup).reads d) next (ways.chain table num d (next ∷ more) e).1

  absent_passes : (d num : ℕ) → length setup.protocols ≤ num → passes (rules_of setup) d num ≡ false
  absent_passes d num le = by ((rules_of setup).target d) where
    none : (rules_of setup).table num ≡ length setup.tables
    none = ap (table_at (length setup.tables)) (beyond_none setup.protocols num le)

    on_way : (table : ℕ) (way : Option (List ℕ)) → (rules_of setup).hops table num ≡ way → ends_with d way ≡ false
    on_way table None e = refl
    on_way table (Some []) e = refl
    on_way table (Some (last ∷ earlier)) e = absurd (no_way num none earlier table last e)

    by : (o : Option ℕ) → passes_to (rules_of setup) d num o ≡ false
    by None = refl
    by (Some table) = on_way table ((rules_of setup).hops table num) refl

  sources_are : (d num : ℕ) → among num (sources setup d) ≡ passes (rules_of setup) d num
  sources_are d num = elim (below_or_not num (length setup.protocols)) [
    | inl lt ↦ passed_there (rules_of setup) d (length setup.protocols) num lt
    | inr le ↦ passed_beyond (rules_of setup) d (length setup.protocols) num le ∙ sym (absent_passes d num le)
  ]

  every_to : (target : Option ℕ) (passed : List ℕ) (exports : Exports) → (exports_to target passed exports).spec.every ≡ exports.spec.every
  every_to None passed exports = refl
  every_to (Some table) passed exports = refl

  passed_to : (target : Option ℕ) (passed : List ℕ) (exports : Exports) → is_some target ≡ true → (exports_to target passed exports).spec.sources ≡ passed
  passed_to None passed exports e = absurd (false≢true e)
  passed_to (Some table) passed exports e = refl

  pub spec_is : (c : ℕ) (channel : Channel) → channel_at setup c ≡ Some channel → IsSpecOf (rules_of setup) c (exports_of setup c channel).spec
  spec_is c channel e =
      let target : (rules_of setup).target c ≡ channel.target = ap target_at e in record {
        every = every_to channel.target (sources setup c) channel.exports ∙ (channel_belongs setup c channel is e).every ∙ sym (ap is_some target);
        sources = λ pipe num.
            ap (among num) (passed_to channel.target (sources setup c) channel.exports (sym (ap is_some target) ∙ pipe)) ∙ sources_are c num;
      }

  pub value_is : (c : ℕ) (channel : Channel) → channel_at setup c ≡ Some channel → (key : Key) (route : Route)
      → value_by (exports_of setup c channel).spec (exports_of setup c channel).filter key route ≡ (rules_of setup).value c key route
  value_is c channel e key route = by channel.target ∙ sym (ap (λ o. value_at o key route) e) where
    by : (target : Option ℕ) → value_by (exports_to target (sources setup c) channel.exports).spec (exports_to target (sources setup c) channel.exports).filter key route ≡ value_at (Some channel) key route
    by None = refl
    by (Some table) = refl
