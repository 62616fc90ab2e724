-- The ports of tables that pipes enter: each source is of one port.
use Rattle.std.proofs.Common.{◌≡◌, ◌≢◌, ℕ, zero, suc, ◌+◌, ◌<◌, arith, ◌⊎◌, inl, inr, Bool, true, false, List, [], ◌∷◌, ◌++◌, length, Option, Some, None, is_some, refl, sym, ap, subst, ◌∙◌}
use Rattle.std.specs.Prelude.{◌==◌, ◌||◌, if◌then◌else◌, Contains, slice_get, slice_index_or}
use Rattle.std.proofs.lemmas.Bool.{eqb-true, false≢true}
use Rattle.std.proofs.lemmas.Bool.Decides.{eqb_tells}
use Rattle.std.proofs.lemmas.List.Elements.{Contains-append_cases, Contains-append_left, Contains-append_right}
use Rattle.attrs.proofs.Rows.{Contains-nothing}
use Rattle.attrs.specs.declared.attributes.Kind.{Kind}
use Rattle.attrs.specs.declared.attributes.Kind.TheVariants.{Bgp, Static}
use Rattle.bits_ip.specs.declared.address.Family.{Family}
use Rattle.core_machine.specs.Pipes.{passes}
use Rattle.core_machine.specs.Rules.{IsRules}
use Rattle.core_machine.proofs.Tables.{passed_way}
use Rattle.core_setup.specs.Channels.{Channel, channel_at, target_at}
use Rattle.core_setup.specs.Protocols.{protocol_at, rules_of, sources, table_at, table_in}
use Rattle.core_setup.specs.Setup.{Exports, FitsBody, FitsPipe, FitsSource, HasSession, IsPipe, IsSetup, IsSource, Pipe, Protocol, Setup, Source, family_at}
use Rattle.core_setup.proofs.Numbered.{channel_belongs, channel_listed, itself_is, listed_owner, none_some, protocol_is, some_same}
use Rattle.export_core.specs.Candidates.{among}
use Rattle.phase_legal.specs.Changes.{IsAlone}
use Rattle.phase_room.specs.Rooms.{TableTerms}
use Rattle.table_shared.specs.Opening.{TableOpening, sources_of}
use Rattle.phase_pipes.specs.Ports.{EntersAlone, all_passed_on, joined_opening, passed_on, port_sources, ports_from}
use Rattle.phase_pipes.specs.Stands.{IsDirectionOf}
use Rattle.phase_pipes.proofs.Beginning.{target_is}
use Rattle.phase_pipes.proofs.Sourcing.{in_either, in_first, passed_there, there_passed}

-- ---- the sources of a port

later_too : (a b : Bool) → b ≡ true → (a || b) ≡ true
later_too true b e = refl
later_too false b e = e

module _ (setup : Setup) (table : ℕ) where
  -- a channel that passes a source to the table
  record IsPassedBy (cs : List ℕ) (num : ℕ) : Type 0 where
    c : ℕ
    listed : among c cs ≡ true
    target : (rules_of setup).target c ≡ Some table
    there : Contains (sources setup c) num

  passed_case : (c num : ℕ) (o : Option ℕ) → Contains (passed_on setup table c o) num → (o ≡ Some table) × Contains (sources setup c) num
  passed_case c num None w = absurd (Contains-nothing num w)
  passed_case c num (Some other) w = elim (eqb_tells other table) [
    | inl e ↦ (ap Some e.1, subst (λ b. Contains (if b then sources setup c else []) num) e.0 w)
    | inr e ↦ absurd (Contains-nothing num (subst (λ b. Contains (if b then sources setup c else []) num) e.0 w))
  ]

  passed_cases : (cs : List ℕ) (num : ℕ) → Contains (all_passed_on setup table cs) num → IsPassedBy cs num
  passed_cases [] num w = absurd (Contains-nothing num w)
  passed_cases (c ∷ more) num w = elim (Contains-append_cases (passed_on setup table c ((rules_of setup).target c)) (all_passed_on setup table more) num w) [
    | inl v ↦ let p = passed_case c num ((rules_of setup).target c) v in record { c = c; listed = ap (λ b. b || among c more) (itself_is c); target = p.0; there = p.1 }
    | inr v ↦ let p = passed_cases more num v in record { c = p.c; listed = later_too (c == p.c) (among p.c more) p.listed; target = p.target; there = p.there }
  ]

  passed_one : (c num : ℕ) → (rules_of setup).target c ≡ Some table → Contains (sources setup c) num → Contains (passed_on setup table c ((rules_of setup).target c)) num
  passed_one c num e w =
      subst (λ o. Contains (passed_on setup table c o) num) (sym e)
      (subst (λ b. Contains (if b then sources setup c else []) num) (sym (itself_is table)) w)

  passed_some : (cs : List ℕ) (c num : ℕ) → among c cs ≡ true → (rules_of setup).target c ≡ Some table → Contains (sources setup c) num → Contains (all_passed_on setup table cs) num
  passed_some [] c num e target w = absurd (false≢true e)
  passed_some (x ∷ more) c num e target w = elim (eqb_tells x c) [
    | inl h ↦ Contains-append_left (passed_on setup table x ((rules_of setup).target x)) (all_passed_on setup table more) num
        (passed_one x num (ap (rules_of setup).target h.1 ∙ target) (subst (λ y. Contains (sources setup y) num) (sym h.1) w))
    | inr h ↦ Contains-append_right (passed_on setup table x ((rules_of setup).target x)) (all_passed_on setup table more) num (passed_some more c num (sym (ap (λ b. b || among c more) h.0) ∙ e) target w)
  ]

  -- its protocol's, where it imports to the table, or one that comes by a direction
  port_cases : (i num : ℕ) → Contains (port_sources setup table i) num → (((rules_of setup).table i ≡ table) × (i ≡ num)) ⊎ IsPassedBy ((rules_of setup).belong i) num
  port_cases i num w =
      elim (Contains-append_cases (if (rules_of setup).table i == table then i ∷ [] else []) (all_passed_on setup table ((rules_of setup).belong i)) num w) [
        | inl v ↦ let e = in_either ((rules_of setup).table i == table) i num v in inl (eqb-true ((rules_of setup).table i) table e.0, e.1)
        | inr v ↦ inr (passed_cases ((rules_of setup).belong i) num v)
      ]

  port_own : (i : ℕ) → (rules_of setup).table i ≡ table → Contains (port_sources setup table i) i
  port_own i e =
      Contains-append_left (if (rules_of setup).table i == table then i ∷ [] else []) (all_passed_on setup table ((rules_of setup).belong i)) i
      (subst (λ b. Contains (if b then i ∷ [] else []) i) (sym (ap (λ t. t == table) e ∙ itself_is table)) (in_first i []))

  port_passed : (i c num : ℕ) → among c ((rules_of setup).belong i) ≡ true → (rules_of setup).target c ≡ Some table → Contains (sources setup c) num → Contains (port_sources setup table i) num
  port_passed i c num listed target w =
      Contains-append_right (if (rules_of setup).table i == table then i ∷ [] else []) (all_passed_on setup table ((rules_of setup).belong i)) num (passed_some ((rules_of setup).belong i) c num listed target w)

  -- ---- by number

  mine_from : (n i : ℕ) (ps : List Protocol) (p : Protocol) → slice_get ps i ≡ Some p → slice_index_or (ports_from setup table n ps) i [] ≡ port_sources setup table (i + n)
  mine_from n i [] p e = none_some e
  mine_from n zero (q ∷ ps) p e = ap (port_sources setup table) (let first : n ≡ zero + n = omega arith in first)
  mine_from n (suc i) (q ∷ ps) p e = mine_from (n + 1) i ps p e ∙ ap (port_sources setup table) (let s : i + (n + 1) ≡ suc i + n = omega arith in s)

  any_from : (n i num : ℕ) (ps : List Protocol) → Contains (slice_index_or (ports_from setup table n ps) i []) num → Contains (port_sources setup table (i + n)) num
  any_from n i num [] w = absurd (Contains-nothing num w)
  any_from n zero num (q ∷ ps) w = subst (λ k. Contains (port_sources setup table k) num) (let first : n ≡ zero + n = omega arith in first) w
  any_from n (suc i) num (q ∷ ps) w = subst (λ k. Contains (port_sources setup table k) num) (let s : i + (n + 1) ≡ suc i + n = omega arith in s) (any_from (n + 1) i num ps w)

  module _ (stood : TableTerms) where
    abbrev opening_now : TableOpening
    opening_now = joined_opening setup table stood

    mine_at : (i num : ℕ) (p : Protocol) → protocol_at setup i ≡ Some p → Contains (port_sources setup table i) num → Contains (sources_of opening_now i) num
    mine_at i num p e w =
        subst (λ l. Contains l num) (sym (mine_from 0 i setup.protocols p e ∙ ap (port_sources setup table) (let s : i + 0 ≡ i = omega arith in s))) w

    any_at : (i num : ℕ) → Contains (sources_of opening_now i) num → Contains (port_sources setup table i) num
    any_at i num w = subst (λ k. Contains (port_sources setup table k) num) (let s : i + 0 ≡ i = omega arith in s) (any_from 0 i num setup.protocols w)

-- ---- each source is of one port

module _ (setup : Setup) (is : IsSetup setup) (are : IsRules (rules_of setup)) (table : ℕ) (stood : TableTerms) where
  way_by : (c num : ℕ) → (rules_of setup).target c ≡ Some table → passes (rules_of setup) c num ≡ true → (ds : List ℕ) × ((rules_of setup).hops table num ≡ Some (c ∷ ds))
  way_by c num target goes =
      let w = passed_way (rules_of setup) c num (Some table) target goes in
      (w.1, subst (λ t. (rules_of setup).hops t num ≡ Some (c ∷ w.1)) (sym (some_same w.2)) w.3)

  no_direction : {A : Type 0} (c : ℕ) (ds : List ℕ) (o : Option (List ℕ)) → o ≡ Some [] → o ≡ Some (c ∷ ds) → A
  no_direction c ds o e f = let bad : [] ≡ c ∷ ds = some_same (sym e ∙ f) in absurd (let long = ap length bad in omega (arith, long))

  -- what imports to a table doesn't come there by a direction
  at_home : {A : Type 0} (num c : ℕ) (ds : List ℕ) → (rules_of setup).table num ≡ table → (rules_of setup).hops table num ≡ Some (c ∷ ds) → A
  at_home num c ds e way = no_direction c ds ((rules_of setup).hops table num) (subst (λ t. (rules_of setup).hops t num ≡ Some []) e (are.ways.home num)) way

  first_of_two : (c d : ℕ) (cs ds : List ℕ) → c ∷ cs ≡ d ∷ ds → c ≡ d
  first_of_two c d cs ds e = cc

  module _ (number d : ℕ) (protocol : Protocol) (here : protocol_at setup number ≡ Some protocol) (owner : (rules_of setup).owner d ≡ number) (target : (rules_of setup).target d ≡ Some table)
      (listed : among d ((rules_of setup).belong number) ≡ true) (away : (rules_of setup).table number ≢ table) (only : (c : ℕ) → among c ((rules_of setup).belong number) ≡ true → (rules_of setup).target c ≡ Some table → c ≡ d) where
    pub enters_alone : EntersAlone (rules_of setup) d (joined_opening setup table stood) number
    enters_alone = record {
      mine = λ num goes. mine_at setup table stood number num protocol here (port_passed setup table number d num listed target (passed_there setup is are d table target num goes));
      alone = record {
        mine = λ num w. elim (port_cases setup table number num (any_at setup table stood number num w)) [
          | inl e ↦ absurd (away e.0)
          | inr p ↦ subst (λ c. passes (rules_of setup) c num ≡ true) (only p.c p.listed p.target) (there_passed setup is are p.c table p.target num p.there)
        ];
        alone = λ other num w goes.
            let way = way_by d num target goes in
            elim (port_cases setup table other num (any_at setup table stood other num w)) [
              | inl e ↦ at_home num d way.0 (ap (rules_of setup).table (sym e.1) ∙ e.0) way.1
              | inr p ↦
                  let theirs = way_by p.c num p.target (there_passed setup is are p.c table p.target num p.there) in
                  sym (are.belongs other p.c p.listed) ∙ ap (rules_of setup).owner (first_of_two p.c d theirs.0 way.0 (some_same (sym theirs.1 ∙ way.1))) ∙ owner
            ];
      };
    }

-- ---- a pipe

among_two : (c d e : ℕ) → among c (d ∷ e ∷ []) ≡ true → (d ≡ c) ⊎ (e ≡ c)
among_two c d e h = elim (eqb_tells d c) [
  | inl w ↦ inl w.1
  | inr w ↦ elim (eqb_tells e c) [
    | inl v ↦ inr v.1
    | inr v ↦ absurd (let bad : false ≡ true = sym (ap (λ b. b || ((e == c) || false)) w.0 ∙ ap (λ b. b || false) v.0) ∙ h in cc)
  ]
]

module _ (setup : Setup) (is : IsSetup setup) (are : IsRules (rules_of setup)) (number out back : ℕ) (protocol : Protocol) (pipe : Pipe) (stood : TableTerms) (here : protocol_at setup number ≡ Some protocol) (body : protocol.body ≡ IsPipe pipe)
    (belong : (rules_of setup).belong number ≡ out ∷ back ∷ []) (out_of : IsDirectionOf setup number out pipe.primary pipe.peer) (back_of : IsDirectionOf setup number back pipe.peer pipe.primary) where
  fits : FitsPipe setup.tables pipe
  fits = subst (FitsBody setup.tables number) body (protocol_is setup number protocol is here)

  nowhere : (table : ℕ) → table < length setup.tables → (rules_of setup).table number ≢ table
  nowhere table less e =
      let none : (rules_of setup).table number ≡ length setup.tables = ap (table_at (length setup.tables)) here ∙ ap (table_in (length setup.tables)) body in
      omega (arith, less, e, none)

  listed_is : (d reads writes : ℕ) → IsDirectionOf setup number d reads writes → among d ((rules_of setup).belong number) ≡ true
  listed_is d reads writes of = subst (λ n. among d ((rules_of setup).belong n) ≡ true) of.owner (channel_listed setup d of.channel of.channel_is)

  owner_is : (d reads writes : ℕ) → IsDirectionOf setup number d reads writes → (rules_of setup).owner d ≡ number
  owner_is d reads writes of = are.belongs number d (listed_is d reads writes of)

  one_of : (c : ℕ) → among c ((rules_of setup).belong number) ≡ true → (out ≡ c) ⊎ (back ≡ c)
  one_of c e = among_two c out back (sym (ap (among c) belong) ∙ e)

  out_target : (rules_of setup).target out ≡ Some pipe.peer
  out_target = target_is setup number out pipe.primary pipe.peer out_of

  back_target : (rules_of setup).target back ≡ Some pipe.primary
  back_target = target_is setup number back pipe.peer pipe.primary back_of

  out_only : (c : ℕ) → among c ((rules_of setup).belong number) ≡ true → (rules_of setup).target c ≡ Some pipe.peer → c ≡ out
  out_only c e target = elim (one_of c e) [
    | inl same ↦ sym same
    | inr same ↦ absurd (fits.apart (some_same (sym back_target ∙ ap (rules_of setup).target same ∙ target)))
  ]

  back_only : (c : ℕ) → among c ((rules_of setup).belong number) ≡ true → (rules_of setup).target c ≡ Some pipe.primary → c ≡ back
  back_only c e target = elim (one_of c e) [
    | inl same ↦ absurd (fits.apart (sym (some_same (sym out_target ∙ ap (rules_of setup).target same ∙ target))))
    | inr same ↦ sym same
  ]

  pub out_alone : EntersAlone (rules_of setup) out (joined_opening setup pipe.peer stood) number
  out_alone = enters_alone setup is are pipe.peer stood number out protocol here (owner_is out pipe.primary pipe.peer out_of) out_target (listed_is out pipe.primary pipe.peer out_of) (nowhere pipe.peer fits.peer) out_only

  pub back_alone : EntersAlone (rules_of setup) back (joined_opening setup pipe.primary stood) number
  back_alone = enters_alone setup is are pipe.primary stood number back protocol here (owner_is back pipe.peer pipe.primary back_of) back_target (listed_is back pipe.peer pipe.primary back_of) (nowhere pipe.primary fits.primary) back_only

-- ---- a protocol with routes of its own

module _ (setup : Setup) (is : IsSetup setup) (are : IsRules (rules_of setup)) (number : ℕ) (protocol : Protocol) (source : Source) (stood : TableTerms) (here : protocol_at setup number ≡ Some protocol) (body : protocol.body ≡ IsSource source) where
  source_fits : FitsSource setup.tables number source
  source_fits = subst (FitsBody setup.tables number) body (protocol_is setup number protocol is here)

  home_is : (rules_of setup).table number ≡ source.table
  home_is = ap (table_at (length setup.tables)) here ∙ ap (table_in (length setup.tables)) body

  sends_best : (kind : Kind) (found : Option Family) (o : Option Exports) (exports : Exports) → HasSession kind found number o → o ≡ Some exports → exports.spec.every ≡ false
  sends_best Static found None exports has e = none_some e
  sends_best Static found (Some x) exports has e = absurd has
  sends_best Bgp found None exports has e = absurd has
  sends_best Bgp found (Some x) exports has e = ap (λ (y : Exports). y.spec.every) (sym (some_same e)) ∙ has.every

  -- its channel writes no table
  no_target : (c : ℕ) → among c ((rules_of setup).belong number) ≡ true → (rules_of setup).target c ≡ Some source.table → ⊥
  no_target c listed target =
      let at = listed_owner setup number c listed in
      let b = channel_belongs setup c at.0 is at.1 in
      let same : b.protocol ≡ protocol = some_same (sym b.there ∙ ap (protocol_at setup) at.2 ∙ here) in
      let sends = b.sends source (ap (λ (q : Protocol). q.body) same ∙ body) in
      false≢true (sym (sends_best source.spec.kind (family_at setup.tables source.table) source.exports at.0.exports source_fits.session sends) ∙ b.every ∙ ap is_some (sym (ap target_at at.1) ∙ target))

  pub own_mine : Contains (sources_of (joined_opening setup source.table stood) number) number
  own_mine = mine_at setup source.table stood number number protocol here (port_own setup source.table number home_is)

  pub own_alone : IsAlone (λ num. num == number) (joined_opening setup source.table stood) number
  own_alone = record {
    mine = λ num w. elim (port_cases setup source.table number num (any_at setup source.table stood number num w)) [
      | inl e ↦ ap (λ n. n == number) (sym e.1) ∙ itself_is number
      | inr p ↦ absurd (no_target p.c p.listed p.target)
    ];
    alone = λ other num w same.
        let mine : num ≡ number = eqb-true num number same in
        elim (port_cases setup source.table other num (any_at setup source.table stood other num w)) [
          | inl e ↦ e.1 ∙ mine
          | inr p ↦
              let theirs = way_by setup is are source.table stood p.c num p.target (there_passed setup is are p.c source.table p.target num p.there) in
              at_home setup is are source.table stood num p.c theirs.0 (ap (rules_of setup).table mine ∙ home_is) theirs.1
        ];
  }
