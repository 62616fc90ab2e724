-- The sources of what is played, by number, are those that a direction's turns ask for.
use Rattle.std.proofs.Common.{◌≡◌, ℕ, zero, suc, ◌<◌, arith, ◌⊎◌, inl, inr, Bool, true, false, List, [], ◌∷◌, ◌++◌, length, Option, Some, None, is_some, refl, sym, ap, subst, ◌∙◌}
use Rattle.std.specs.Prelude.{◌==◌, ◌||◌, if◌then◌else◌, Contains, slice_get}
use Rattle.std.proofs.lemmas.Bool.{false≢true}
use Rattle.std.proofs.lemmas.Bool.Decides.{eqb_tells}
use Rattle.std.proofs.lemmas.List.Elements.{Contains-append_cases, Contains-append_left, Contains-append_right}
use Rattle.attrs.proofs.Rows.{Contains-cons_cases, Contains-nothing}
use Rattle.attrs.specs.declared.attributes.Attrs.{Attrs}
use Rattle.attrs.specs.declared.route.Route.{Route}
use Rattle.attrs.specs.declared.route.Src.{Src}
use Rattle.core_machine.specs.Pipes.{passes}
use Rattle.core_machine.specs.Rules.{IsRules, Rules}
use Rattle.core_setup.specs.Channels.{Channel, channel_at, target_at}
use Rattle.core_setup.specs.Protocols.{exports_of, exports_to, passed_below, protocol_at, rules_of, sources, src_at, src_in}
use Rattle.core_setup.specs.Setup.{Body, Exports, FitsBody, IsPipe, IsSetup, IsSource, Protocol, Setup}
use Rattle.core_setup.proofs.Numbered.{none_some, protocol_is}
use Rattle.core_setup.proofs.Passed.{spec_is}
use Rattle.export_core.specs.Candidates.{among}
use Rattle.export_lock.specs.LaneTurns.{AreSources}
use Rattle.export_lock.specs.Lanes.{LaneTerms}
use Rattle.phase_pipes.specs.Sources.{AreSourcesOf}

-- ---- numbers in lists

pub in_either : (b : Bool) (n num : ℕ) → Contains (if b then n ∷ [] else []) num → (b ≡ true) × (n ≡ num)
in_either true n num w = elim (Contains-cons_cases n [] num w) [ inl e ↦ (refl, e) | inr v ↦ absurd (Contains-nothing num v) ]
in_either false n num w = absurd (Contains-nothing num w)

pub in_first : (n : ℕ) (xs : List ℕ) → Contains (n ∷ xs) n
in_first n xs = (zero, omega arith, refl)

among_there : (num : ℕ) (xs : List ℕ) → among num xs ≡ true → Contains xs num
among_there num [] e = absurd (false≢true e)
among_there num (x ∷ xs) e = elim (eqb_tells x num) [
  | inl w ↦ subst (Contains (x ∷ xs)) w.1 (in_first x xs)
  | inr w ↦ Contains-append_right (x ∷ []) xs num (among_there num xs (sym (ap (λ b. b || among num xs) w.0) ∙ e))
]

there_among : (num : ℕ) (xs : List ℕ) → Contains xs num → among num xs ≡ true
there_among num [] w = absurd (Contains-nothing num w)
there_among num (x ∷ xs) w = elim (eqb_tells x num) [
  | inl e ↦ ap (λ b. b || among num xs) e.0
  | inr e ↦ ap (λ b. b || among num xs) e.0 ∙ elim (Contains-cons_cases x xs num w) [
    | inl same ↦ absurd (false≢true (sym e.0 ∙ (elim (eqb_tells x num) [ inl f ↦ f.0 | inr f ↦ absurd (f.1 same) ])))
    | inr more ↦ there_among num xs more
  ]
]

-- ---- what a direction passes is of a protocol

passed_within : (rules : Rules) (d n num : ℕ) → Contains (passed_below rules d n) num → num < n
passed_within rules d zero num w = absurd (Contains-nothing num w)
passed_within rules d (suc i) num w = elim (Contains-append_cases (passed_below rules d i) (if passes rules d i then i ∷ [] else []) num w) [
  | inl v ↦ let less = passed_within rules d i num v in omega (arith, less)
  | inr v ↦ let e = (in_either (passes rules d i) i num v).1 in omega (arith, e)
]

module _ (setup : Setup) (is : IsSetup setup) (are : IsRules (rules_of setup)) (d table : ℕ) (target : (rules_of setup).target d ≡ Some table) where
  sources_to : (o : Option ℕ) (passed : List ℕ) (exports : Exports) → o ≡ Some table → (exports_to o passed exports).spec.sources ≡ passed
  sources_to None passed exports e = none_some e
  sources_to (Some other) passed exports e = refl

  -- the sources by number that the rules say are those that it passes
  pub passed_are : (num : ℕ) → among num (sources setup d) ≡ passes (rules_of setup) d num
  passed_are num = by (channel_at setup d) refl where
    by : (o : Option Channel) → channel_at setup d ≡ o → among num (sources setup d) ≡ passes (rules_of setup) d num
    by None e = none_some (sym (ap target_at e) ∙ target)
    by (Some channel) e =
        sym (ap (among num) (sources_to channel.target (sources setup d) channel.exports (sym (ap target_at e) ∙ target)))
        ∙ (spec_is setup is are.ways d channel e).sources (ap is_some target) num

  pub passed_there : (num : ℕ) → passes (rules_of setup) d num ≡ true → Contains (sources setup d) num
  passed_there num goes = among_there num (sources setup d) (passed_are num ∙ goes)

  pub there_passed : (num : ℕ) → Contains (sources setup d) num → passes (rules_of setup) d num ≡ true
  there_passed num w = sym (passed_are num) ∙ there_among num (sources setup d) w

  pub passed_less : (num : ℕ) → passes (rules_of setup) d num ≡ true → num < length setup.protocols
  passed_less num goes = passed_within (rules_of setup) d (length setup.protocols) num (passed_there num goes)

-- ---- sources by number

source_number : (setup : Setup) (i : ℕ) → IsSetup setup → (src_at i (protocol_at setup i)).num ≡ i
source_number setup i is = by (protocol_at setup i) refl where
  by_body : (b : Body) → FitsBody setup.tables i b → (src_in i b).num ≡ i
  by_body (IsSource s) fits = fits.source
  by_body (IsPipe q) fits = refl

  by : (o : Option Protocol) → protocol_at setup i ≡ o → (src_at i o).num ≡ i
  by None e = refl
  by (Some p) e = by_body p.body (protocol_is setup i p is e)

pub sources_are : (setup : Setup) (lane : LaneTerms) (table : ℕ) (held : List Src) → IsRules (rules_of setup) → IsSetup setup → lane.rules ≡ rules_of setup → (rules_of setup).target lane.number ≡ Some table → AreSourcesOf setup held → AreSources lane held
sources_are setup lane table held are is rules target sources = record {
  placed = λ num src at. ap (λ (s : Src). s.num) (sources.each num src at) ∙ source_number setup num is;
  routes = λ num src attrs at.
      ap (λ (r : Rules). r.route num attrs) rules
      ∙ ap (λ (s : Src). let made : Route = record { src = s; attrs = attrs } in made) (sym (sources.each num src at));
  all = λ num goes.
      subst (λ n. num < n) (sym sources.count)
      (passed_less setup is are lane.number table target num (sym (ap (λ r. passes r lane.number num) rules) ∙ goes));
}
