-- The directions of a pipe that is a bridge are a bridge of the machine's tables.
use Rattle.std.proofs.Common.{◌≡◌, ◌≢◌, ℕ, zero, suc, ◌+◌, ◌<◌, ◌⊎◌, inl, inr, Bool, true, false, not, List, [], ◌∷◌, ◌++◌, Option, Some, None, refl, sym, ◌∙◌, ap, subst, arith, length}
use Rattle.std.specs.Prelude.{◌==◌, ◌||◌, slice_get, option_and_then}
use Rattle.std.specs.List.{AllByRecursion}
use Rattle.std.proofs.lemmas.Bool.Decides.{eqb_tells}
use Rattle.bits_ip.specs.declared.address.Family.{Family}
use Rattle.export_core.specs.Candidates.{among}
use Rattle.core_machine.specs.Bridges.{AreWithin, IsBridge, comes_but_by}
use Rattle.core_machine.specs.Pipes.{passes}
use Rattle.core_machine.specs.Rules.{Rules}
use Rattle.core_machine.specs.Ways.{HasWays}
use Rattle.core_machine.proofs.Contents.{some_same}
use Rattle.core_setup.specs.Bridges.{IsBridgeOf, KeepsItsOwn, pipe_at, pipe_in}
use Rattle.core_setup.specs.Channels.{Channel, channel_at, channels, channels_from, channels_in, numbers_of, reads_at, session, target_at}
use Rattle.core_setup.specs.Protocols.{protocol_at, rules_of}
use Rattle.core_setup.specs.Setup.{Body, Exports, FitsBody, IsPipe, IsSetup, IsSource, Pipe, Protocol, Setup}
use Rattle.core_setup.proofs.Numbered.{all_append, all_at, channel_listed, get_behind, none_some, protocol_is}
use Rattle.core_setup.proofs.PairLemmas.{cases_same, get_within}
use Rattle.core_setup.proofs.SetupRules.{has_ways}

-- ---- each channel that writes a table is a direction of a pipe

-- the channel leads from one table of the pipe to the other
abbrev LeadsBy : Pipe → ℕ → ℕ → Type 0
LeadsBy q reads writes = ((reads ≡ q.primary) × (writes ≡ q.peer)) ⊎ ((reads ≡ q.peer) × (writes ≡ q.primary))

record IsOfPipe (setup : Setup) (ch : Channel) (writes : ℕ) : Type 0 where
  pipe : Pipe
  there : pipe_at setup ch.owner ≡ Some pipe
  leads : LeadsBy pipe ch.reads writes

abbrev Leads : Setup → Channel → Type 0
Leads setup ch = (writes : ℕ) → ch.target ≡ Some writes → IsOfPipe setup ch writes

module _ (setup : Setup) (n : ℕ) (name : List ℕ) where
  session_leads : (table : ℕ) (o : Option Exports) → AllByRecursion (Leads setup) (session setup.tables n name table o)
  session_leads table None = tt
  session_leads table (Some exports) = (λ writes e. none_some e, tt)

  body_leads : (b : Body) → option_and_then (λ (p : Protocol). pipe_in p.body) (slice_get setup.protocols n) ≡ pipe_in b → AllByRecursion (Leads setup) (channels_in setup.tables n name b)
  body_leads (IsSource s) there = session_leads s.table s.exports
  body_leads (IsPipe q) there = (
    λ writes e. record { pipe = q; there = there; leads = inl (refl, sym (some_same e)) },
    (λ writes e. record { pipe = q; there = there; leads = inr (refl, sym (some_same e)) }, tt),
  )

module _ (setup : Setup) where
  all_lead : (n : ℕ) (ps : List Protocol) → ((k : ℕ) (p : Protocol) → slice_get ps k ≡ Some p → slice_get setup.protocols (k + n) ≡ Some p) → AllByRecursion (Leads setup) (channels_from setup.tables n ps)
  all_lead n [] at = tt
  all_lead n (p ∷ ps) at =
      let first : zero + n ≡ n = omega arith in
      let here : slice_get setup.protocols n ≡ Some p = subst (λ k. slice_get setup.protocols k ≡ Some p) first (at zero p refl) in
      all_append (Leads setup) (channels_in setup.tables n p.name p.body) (channels_from setup.tables (n + 1) ps)
      (body_leads setup n p.name p.body (ap (option_and_then (λ (p : Protocol). pipe_in p.body)) here))
      (all_lead (n + 1) ps (λ k q e. let next : suc k + n ≡ k + (n + 1) = omega arith in subst (λ m. slice_get setup.protocols m ≡ Some q) next (at (suc k) q e)))

  channel_leads : (c : ℕ) (ch : Channel) → channel_at setup c ≡ Some ch → Leads setup ch
  channel_leads c ch e =
      all_at (Leads setup) (channels setup) c ch
      (all_lead 0 setup.protocols (λ k p f. let same : k ≡ k + 0 = omega arith in subst (λ m. slice_get setup.protocols m ≡ Some p) same f)) e

  -- what a number's channel is
  record IsDirection (c writes : ℕ) : Type 0 where
    ch : Channel
    there : channel_at setup c ≡ Some ch
    reads : (rules_of setup).reads c ≡ ch.reads
    of : IsOfPipe setup ch writes

  direction_of : (c writes : ℕ) → (rules_of setup).target c ≡ Some writes → IsDirection c writes
  direction_of c writes e = by (channel_at setup c) refl where
    by : (o : Option Channel) → channel_at setup c ≡ o → IsDirection c writes
    by None at = none_some (sym (ap target_at at) ∙ e)
    by (Some ch) at = record {
      ch = ch;
      there = at;
      reads = ap (reads_at (length setup.tables)) at;
      of = channel_leads c ch at writes (sym (ap target_at at) ∙ e);
    }

  -- the pipe is a protocol's
  record IsProtocols (i : ℕ) (q : Pipe) : Type 0 where
    p : Protocol
    there : protocol_at setup i ≡ Some p
    body : p.body ≡ IsPipe q

  pipe_body : (b : Body) (q : Pipe) → pipe_in b ≡ Some q → b ≡ IsPipe q
  pipe_body (IsSource s) q e = none_some e
  pipe_body (IsPipe p) q e = ap IsPipe (some_same e)

  protocol_of : (i : ℕ) (q : Pipe) → pipe_at setup i ≡ Some q → IsProtocols i q
  protocol_of i q e = by (slice_get setup.protocols i) refl e where
    by : (o : Option Protocol) → slice_get setup.protocols i ≡ o → option_and_then (λ (p : Protocol). pipe_in p.body) o ≡ Some q → IsProtocols i q
    by None at f = none_some f
    by (Some p) at f = record { p = p; there = at; body = pipe_body p.body q f }

  fits_within : (i : ℕ) (b : Body) (q : Pipe) → b ≡ IsPipe q → FitsBody setup.tables i b → (q.primary < length setup.tables) × (q.peer < length setup.tables)
  fits_within i b q same fits = let pipe = subst (FitsBody setup.tables i) same fits in (pipe.primary, pipe.peer)

  both_within : IsSetup setup → (i : ℕ) (q : Pipe) → pipe_at setup i ≡ Some q → (q.primary < length setup.tables) × (q.peer < length setup.tables)
  both_within is i q e = let p = protocol_of i q e in fits_within i p.p.body q p.body (protocol_is setup i p.p is p.there)

  leads_within : (q : Pipe) (n reads writes : ℕ) → LeadsBy q reads writes → (q.primary < n) × (q.peer < n) → (reads < n) × (writes < n)
  leads_within q n reads writes (inl w) both = (subst (λ m. m < n) (sym w.0) both.0, subst (λ m. m < n) (sym w.1) both.1)
  leads_within q n reads writes (inr w) both = (subst (λ m. m < n) (sym w.0) both.1, subst (λ m. m < n) (sym w.1) both.0)

  are_within : IsSetup setup → AreWithin (rules_of setup)
  are_within is d writes e =
      let c = direction_of d writes e in
      let both = leads_within c.of.pipe (length setup.tables) c.ch.reads writes c.of.leads (both_within is c.ch.owner c.of.pipe c.of.there) in
      (get_within (channels setup) d c.ch c.there, subst (λ m. m < length setup.tables) (sym c.reads) both.0, both.1)

-- ---- the two directions of a pipe follow each other

record AreTwo (owner : ℕ) (q : Pipe) (chs : List Channel) : Type 0 where
  k : ℕ
  first : Channel
  second : Channel
  there : slice_get chs k ≡ Some first
  next : slice_get chs (suc k) ≡ Some second
  owners : (first.owner ≡ owner) × (second.owner ≡ owner)
  reads : (first.reads ≡ q.primary) × (second.reads ≡ q.peer)
  targets : (first.target ≡ Some q.peer) × (second.target ≡ Some q.primary)

two_later : (owner : ℕ) (q : Pipe) (before chs : List Channel) → AreTwo owner q chs → AreTwo owner q (before ++ chs)
two_later owner q before chs two = record {
  k = length before + two.k;
  first = two.first;
  second = two.second;
  there = get_behind before chs two.k ∙ two.there;
  next = let more : suc (length before + two.k) ≡ length before + suc two.k = omega arith in ap (slice_get (before ++ chs)) more ∙ get_behind before chs (suc two.k) ∙ two.next;
  owners = two.owners;
  reads = two.reads;
  targets = two.targets;
}

module _ (tables : List (List ℕ × Family)) (q : Pipe) where
  two_here : (n : ℕ) (name : List ℕ) (b : Body) (more : List Channel) → b ≡ IsPipe q → AreTwo n q (channels_in tables n name b ++ more)
  two_here n name b more same = subst (λ b. AreTwo n q (channels_in tables n name b ++ more)) (sym same) (record {
    k = 0;
    first = _;
    second = _;
    there = refl;
    next = refl;
    owners = (refl, refl);
    reads = (refl, refl);
    targets = (refl, refl);
  })

  two_from : (n : ℕ) (ps : List Protocol) (i : ℕ) (p : Protocol) → slice_get ps i ≡ Some p → p.body ≡ IsPipe q → AreTwo (i + n) q (channels_from tables n ps)
  two_from n [] i p e same = none_some e
  two_from n (x ∷ ps) zero p e same =
      let first : n ≡ zero + n = omega arith in
      subst (λ k. AreTwo k q (channels_from tables n (x ∷ ps))) first
      (two_here n x.name x.body (channels_from tables (n + 1) ps) (ap (λ (y : Protocol). y.body) (some_same e) ∙ same))
  two_from n (x ∷ ps) (suc i) p e same =
      let next : i + (n + 1) ≡ suc i + n = omega arith in
      two_later (suc i + n) q (channels_in tables n x.name x.body) (channels_from tables (n + 1) ps)
      (subst (λ k. AreTwo k q (channels_from tables (n + 1) ps)) next (two_from (n + 1) ps i p e same))

among_two : (c d e : ℕ) → among c (d ∷ e ∷ []) ≡ true → (d ≡ c) ⊎ (e ≡ c)
among_two c d e h = elim (eqb_tells d c) [
  | inl w ↦ inl w.1
  | inr w ↦ elim (eqb_tells e c) [
    | inl v ↦ inr v.1
    | inr v ↦ absurd (let bad : false ≡ true = sym (ap (λ b. b || ((e == c) || false)) w.0 ∙ ap (λ b. b || false) v.0) ∙ h in cc)
  ]
]

-- ---- a bridge of protocols is one of channels

module _ (setup : Setup) (is : IsSetup setup) (number : ℕ) (q : Pipe) (there : pipe_at setup number ≡ Some q) (bridge : IsBridgeOf setup number q) (two : AreTwo number q (channels setup))
    (d e : ℕ) (belong : (rules_of setup).belong number ≡ d ∷ e ∷ []) where
  listed : (c : ℕ) (ch : Channel) → channel_at setup c ≡ Some ch → ch.owner ≡ number → (d ≡ c) ⊎ (e ≡ c)
  listed c ch at own =
      among_two c d e (ap (among c) (sym belong) ∙ ap (λ n. among c (numbers_of n 0 (channels setup))) (sym own) ∙ channel_listed setup c ch at)

  -- these are the two
  record AreThese : Type 0 where
    places : ((d ≡ two.k) × (e ≡ suc two.k)) ⊎ ((d ≡ suc two.k) × (e ≡ two.k))

  these : AreThese
  these = record { places = on (listed two.k two.first two.there two.owners.0) (listed (suc two.k) two.second two.next two.owners.1) } where
    on : ((d ≡ two.k) ⊎ (e ≡ two.k)) → ((d ≡ suc two.k) ⊎ (e ≡ suc two.k)) → ((d ≡ two.k) × (e ≡ suc two.k)) ⊎ ((d ≡ suc two.k) × (e ≡ two.k))
    on (inl a) (inl b) = absurd (omega (arith, a, b))
    on (inl a) (inr b) = inl (a, b)
    on (inr a) (inl b) = inr (b, a)
    on (inr a) (inr b) = absurd (omega (arith, a, b))

  leads_along : (p : Pipe) (reads writes : ℕ) → LeadsBy p reads writes → bridge.side p.primary ≡ bridge.side p.peer → bridge.side reads ≡ bridge.side writes
  leads_along p reads writes (inl w) same = ap bridge.side w.0 ∙ same ∙ ap bridge.side (sym w.1)
  leads_along p reads writes (inr w) same = ap bridge.side w.0 ∙ sym same ∙ ap bridge.side (sym w.1)

  others : (c writes : ℕ) → (rules_of setup).target c ≡ Some writes → c ≢ d → c ≢ e → bridge.side ((rules_of setup).reads c) ≡ bridge.side writes
  others c writes t other another =
      let x = direction_of setup c writes t in
      ap bridge.side x.reads
      ∙ leads_along x.of.pipe x.ch.reads writes x.of.leads (elim (cases_same x.ch.owner number) [
        | inl own ↦ elim (listed c x.ch x.there own) [ inl same ↦ absurd (other (sym same)) | inr same ↦ absurd (another (sym same)) ]
        | inr apart ↦ bridge.along x.ch.owner x.of.pipe apart x.of.there
      ])

  reads_at_place : (c : ℕ) (ch : Channel) → channel_at setup c ≡ Some ch → (rules_of setup).reads c ≡ ch.reads
  reads_at_place c ch at = ap (reads_at (length setup.tables)) at

  target_at_place : (c : ℕ) (ch : Channel) → channel_at setup c ≡ Some ch → (rules_of setup).target c ≡ ch.target
  target_at_place c ch at = ap target_at at

  turned : (a b : Bool) → a ≡ not b → b ≡ not a
  turned true true h = absurd (let bad : true ≡ false = h in cc)
  turned true false h = refl
  turned false true h = refl
  turned false false h = absurd (let bad : false ≡ true = h in cc)

  -- of the first and the second, and the other way round
  record IsOneWay (a b : ℕ) : Type 0 where
    there_is : (rules_of setup).target a ≡ Some ((rules_of setup).reads b)
    back_is : (rules_of setup).target b ≡ Some ((rules_of setup).reads a)
    across_is : bridge.side ((rules_of setup).reads a) ≡ not (bridge.side ((rules_of setup).reads b))

  first_way : IsOneWay two.k (suc two.k)
  first_way = record {
    there_is = target_at_place two.k two.first two.there ∙ two.targets.0 ∙ ap Some (sym (reads_at_place (suc two.k) two.second two.next ∙ two.reads.1));
    back_is = target_at_place (suc two.k) two.second two.next ∙ two.targets.1 ∙ ap Some (sym (reads_at_place two.k two.first two.there ∙ two.reads.0));
    across_is =
        ap bridge.side (reads_at_place two.k two.first two.there ∙ two.reads.0) ∙ bridge.across
        ∙ ap (λ n. not (bridge.side n)) (sym (reads_at_place (suc two.k) two.second two.next ∙ two.reads.1));
  }

  turned_way : (a b : ℕ) → IsOneWay a b → IsOneWay b a
  turned_way a b w = record { there_is = w.back_is; back_is = w.there_is; across_is = turned (bridge.side ((rules_of setup).reads a)) (bridge.side ((rules_of setup).reads b)) w.across_is }

  at_places : (a b : ℕ) → IsOneWay a b → (d ≡ a) → (e ≡ b) → IsOneWay d e
  at_places a b w same also = subst (λ x. IsOneWay x e) (sym same) (subst (λ y. IsOneWay a y) (sym also) w)

  one_way : IsOneWay d e
  one_way = elim these.places [
    | inl w ↦ at_places two.k (suc two.k) first_way w.0 w.1
    | inr w ↦ at_places (suc two.k) two.k (turned_way two.k (suc two.k) first_way) w.0 w.1
  ]

  there_bridge : IsBridge (rules_of setup) d e
  there_bridge = record { there = one_way.there_is; back = one_way.back_is; side = bridge.side; across = one_way.across_is; along = others }

  back_bridge : IsBridge (rules_of setup) e d
  back_bridge =
      let w = turned_way d e one_way in
      record { there = w.there_is; back = w.back_is; side = bridge.side; across = w.across_is; along = λ c writes t other another. others c writes t another other }

-- the law of the machine, for both directions
module _ (law : (rules : Rules) (d e num : ℕ) → HasWays rules → AreWithin rules → IsBridge rules d e → passes rules d num ≡ comes_but_by rules e (rules.reads d) num) where
  pub both_keep : (setup : Setup) (number : ℕ) (q : Pipe) (d e num : ℕ) → IsSetup setup → pipe_at setup number ≡ Some q → IsBridgeOf setup number q → (rules_of setup).belong number ≡ d ∷ e ∷ []
      → KeepsItsOwn setup d e num × KeepsItsOwn setup e d num
  both_keep setup number q d e num is there bridge belong =
      let p = protocol_of setup number q there in
      let same : number + 0 ≡ number = omega arith in
      let two = subst (λ n. AreTwo n q (channels setup)) same (two_from setup.tables q 0 setup.protocols number p.p p.there p.body) in (
        law (rules_of setup) d e num (has_ways setup) (are_within setup is) (there_bridge setup is number q there bridge two d e belong),
        law (rules_of setup) e d num (has_ways setup) (are_within setup is) (back_bridge setup is number q there bridge two d e belong),
      )
