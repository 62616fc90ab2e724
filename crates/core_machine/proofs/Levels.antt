-- The ways that are found level by level are ways, whatever tables the pipes join.
use Rattle.std.proofs.Common.{◌≡◌, ◌≢◌, ℕ, zero, suc, ◌-◌, ◌≤◌, inl, inr, Bool, true, false, not, List, [], ◌∷◌, Option, Some, None, refl, sym, ◌∙◌, ap, subst, arith, length, is_some}
use Rattle.std.specs.Prelude.{◌==◌, ◌&&◌, if◌then◌else◌}
use Rattle.std.proofs.lemmas.Bool.Decides.{eqb_tells}
use Rattle.core_machine.specs.Rules.{AreWays, Rules}
use Rattle.core_machine.specs.Ways.{Found, HasWays, gone_on, level, levels, tried, with_way}
use Rattle.core_machine.proofs.Contents.{some_same, none_some, if_true, if_false, eqb_yes}

module _ (g : Rules) (i : ℕ) where
  pub record IsFound (len : ℕ) (f : Found) : Type 0 where
    pub home : f (g.table i) ≡ Some []
    pub only : (t : ℕ) → f t ≡ Some [] → g.table i ≡ t
    pub chain : (t d : ℕ) (ds : List ℕ) → f t ≡ Some (d ∷ ds) → (g.target d ≡ Some t) × (f (g.reads d) ≡ Some ds)
    pub short : (t : ℕ) (ds : List ℕ) → f t ≡ Some ds → length ds ≤ len

  both : (a b : Bool) → (a && b) ≡ true → (a ≡ true) × (b ≡ true)
  both true b e = (refl, e)
  both false b e = absurd (let bad : false ≡ true = e in cc)

  not_some : (o : Option (List ℕ)) → not (is_some o) ≡ true → o ≡ None
  not_some None e = refl
  not_some (Some x) e = absurd (let bad : false ≡ true = e in cc)

  eqb_is : (a b : ℕ) → (a == b) ≡ true → a ≡ b
  eqb_is a b e = elim (eqb_tells a b) [ inl w ↦ w.1 | inr w ↦ absurd (let bad : true ≡ false = sym e ∙ w.0 in cc) ]

  put_here : (t : ℕ) (way : List ℕ) (f : Found) (u : ℕ) → t ≡ u → with_way t way f u ≡ Some way
  put_here t way f u e = if_true (t == u) (Some way) (f u) (eqb_yes t u e)

  put_there : (t : ℕ) (way : List ℕ) (f : Found) (u : ℕ) → t ≢ u → with_way t way f u ≡ f u
  put_there t way f u e = elim (eqb_tells t u) [ inl w ↦ absurd (e w.1) | inr w ↦ if_false (t == u) (Some way) (f u) w.0 ]

  -- a way that is there stays
  put_stays : (t : ℕ) (way : List ℕ) (f : Found) (u : ℕ) (x : List ℕ) → f t ≡ None → f u ≡ Some x → with_way t way f u ≡ Some x
  put_stays t way f u x none e = put_there t way f u (λ tu. none_some (sym none ∙ ap f tu ∙ e)) ∙ e

  put_found : (len d t : ℕ) (ds : List ℕ) (f : Found) → g.target d ≡ Some t → f (g.reads d) ≡ Some ds → length ds ≡ len → f t ≡ None → IsFound (suc len) f → IsFound (suc len) (with_way t (d ∷ ds) f)
  put_found len d t ds f td rd el none is =
      let way = d ∷ ds in
      let new = with_way t way f in
      record {
        home = put_stays t way f (g.table i) [] none is.home;
        only = λ u e. elim (eqb_tells t u) [
          | inl w ↦ absurd (let bad : way ≡ [] = some_same (sym (put_here t way f u w.1) ∙ e) in cc)
          | inr w ↦ is.only u (sym (put_there t way f u w.1) ∙ e)
        ];
        chain = λ u x xs e. elim (eqb_tells t u) [
          | inl w ↦ let same : way ≡ x ∷ xs = some_same (sym (put_here t way f u w.1) ∙ e) in
              let ex : d ≡ x = cc in
              let es : ds ≡ xs = cc in
              (subst (λ q. g.target q ≡ Some u) ex (td ∙ ap (λ q. Some q) w.1), subst (λ q. with_way t way f (g.reads q) ≡ Some xs) ex (put_stays t way f (g.reads d) xs none (rd ∙ ap (λ q. Some q) es)))
          | inr w ↦ let c = is.chain u x xs (sym (put_there t way f u w.1) ∙ e) in (c.0, put_stays t way f (g.reads x) xs none c.1)
        ];
        short = λ u xs e. elim (eqb_tells t u) [
          | inl w ↦ let same : way ≡ xs = some_same (sym (put_here t way f u w.1) ∙ e) in subst (λ q. length q ≤ suc len) same (omega (arith, el))
          | inr w ↦ is.short u xs (sym (put_there t way f u w.1) ∙ e)
        ];
      }

  tried_found : (len d : ℕ) (o : Option ℕ) (f : Found) → g.target d ≡ o → IsFound (suc len) f → IsFound (suc len) (tried g d len o f)
  tried_found len d None f td is = is
  tried_found len d (Some t) f td is = elim (f (g.reads d)) as (λ w. f (g.reads d) ≡ w → IsFound (suc len) (gone_on d len t f w)) [
    | None ↦ λ _. is
    | Some ds ↦ λ rd. elim ((length ds == len) && not (is_some (f t))) as (λ b. ((length ds == len) && not (is_some (f t))) ≡ b → IsFound (suc len) (if b then with_way t (d ∷ ds) f else f)) [
      | true ↦ λ e. let w = both (length ds == len) (not (is_some (f t))) e in put_found len d t ds f td rd (eqb_is (length ds) len w.0) (not_some (f t) w.1) is
      | false ↦ λ _. is
    ] refl
  ] refl

  level_found : (len n : ℕ) (f : Found) → IsFound (suc len) f → IsFound (suc len) (level g len n f)
  level_found len zero f is = is
  level_found len (suc n) f is = tried_found len n (g.target n) (level g len n f) refl (level_found len n f is)

  longer_found : (len : ℕ) (f : Found) → IsFound len f → IsFound (suc len) f
  longer_found len f is = record { home = is.home; only = is.only; chain = is.chain; short = λ t ds e. let s = is.short t ds e in omega (arith, s) }

  first_home : (t : ℕ) (x : List ℕ) → (if g.table i == t then Some [] else None) ≡ Some x → (g.table i ≡ t) × (x ≡ [])
  first_home t x e = elim (eqb_tells (g.table i) t) [
    | inl w ↦ let s : [] ≡ x = some_same (sym (if_true (g.table i == t) (Some []) None w.0) ∙ e) in (w.1, sym s)
    | inr w ↦ absurd (none_some (sym (if_false (g.table i == t) (Some []) None w.0) ∙ e))
  ]

  pub levels_found : (len : ℕ) → IsFound len (levels g i len)
  levels_found zero = record {
    home = if_true (g.table i == g.table i) (Some []) None (eqb_yes (g.table i) (g.table i) refl);
    only = λ t e. (first_home t [] e).0;
    chain = λ t d ds e. absurd (let bad : d ∷ ds ≡ [] = (first_home t (d ∷ ds) e).1 in cc);
    short = λ t ds e. let s = ap length (first_home t ds e).1 in omega (arith, s);
  }
  levels_found (suc len) = level_found len g.channels (levels g i len) (longer_found len (levels g i len) (levels_found len))

pub are_ways : (g : Rules) → 1 ≤ g.tables → HasWays g → AreWays g
are_ways g some has = record {
  home = λ i. has (g.table i) i ∙ (levels_found g i (g.tables - 1)).home;
  only_home = λ t i e. (levels_found g i (g.tables - 1)).only t (sym (has t i) ∙ e);
  chain = λ t i d ds e. let c = (levels_found g i (g.tables - 1)).chain t d ds (sym (has t i) ∙ e) in (c.0, has (g.reads d) i ∙ c.1);
  short = λ t i ds e. let s = (levels_found g i (g.tables - 1)).short t ds (sym (has t i) ∙ e) in omega (arith, s, some);
}
