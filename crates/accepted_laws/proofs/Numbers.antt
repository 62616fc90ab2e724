-- The number of a filter that is named is one of those that there are.
use Rattle.std.proofs.Common.{◌≡◌, ℕ, zero, suc, ◌+◌, ◌<◌, ◌≤◌, arith, Bool, true, false, not, ◌||◌, if◌then◌else◌, List, [], ◌∷◌, ◌++◌, length, length-append, Some, slice_get, Contains, refl, ap}
use Rattle.std.specs.List.{list_any}
use Rattle.bits_ip.specs.declared.address.Family.{Family}
use Rattle.conf_ast.specs.declared.named.Name.{Name}
use Rattle.conf_ast.specs.Names.{name_bytes}
use Rattle.conf_ast.specs.declared.kind.ConfKind.{ConfKind}
use Rattle.conf_ast.specs.declared.kind.ConfKind.TheVariants as kinds
use Rattle.conf_ast.specs.Configurations as conf
use Rattle.filt_meaning.specs.Names.{same_name}
use Rattle.conf_names.specs.Known.{Known, filter, is_filter, place_in}
use Rattle.conf_names.specs.Refusals.{refused_if}
use Rattle.conf_rules.specs.Statements.{is_master}
use Rattle.conf_check.specs.Behind.{at_start, behind, behind_one, with_table}
use Rattle.conf_check.specs.Checked.{filter_number, filter_source, filter_sources}

-- ---- how many filters there are

table_filters : (b : Bool) (known : Known) (name : List ℕ) (family : Family)
    → (if b then known else with_table known name family).filters ≡ known.filters
table_filters true known name family = refl
table_filters false known name family = refl

one_counted : (d : conf.Declaration) (known : Known) (others : List conf.Declaration)
    → length (behind_one known d).filters ≡ length known.filters + length (filter_source others d)
one_counted (conf.RouterId a) known others = omega arith
one_counted conf.Log known others = omega arith
one_counted (conf.Define name v) known others = omega arith
one_counted (conf.Table at family name) known others =
    omega (
      arith,
      ap (λ (names : List (List ℕ)). length names)
          (table_filters (is_master known family name) known (name_bytes known.scene.text name)
          family),
    )
one_counted (conf.DefineFunction f) known others = omega arith
one_counted (conf.DefineFilter at name ss) known others =
    length-append known.filters (name_bytes known.scene.text name ∷ [])
one_counted (conf.Device name semicolon) known others = omega arith
one_counted (conf.Static p) known others = omega arith
one_counted (conf.Bgp p) known others = omega arith
one_counted (conf.Pipe p) known others = omega arith

all_counted : (before : List conf.Declaration) (known : Known) (others : List conf.Declaration)
    → length (behind known before).filters
    ≡ length known.filters + length (filter_sources others before)
all_counted [] known others = omega arith
all_counted (d ∷ before) known others =
    let more = filter_sources (others ++ d ∷ []) before in
    omega (
      arith,
      all_counted before (behind_one known d) (others ++ d ∷ []),
      one_counted d known others,
      length-append (filter_source others d) more,
    )

-- those of the statements before are among those of all
no_fewer : (before more others : List conf.Declaration)
    → length (filter_sources others before) ≤ length (filter_sources others (before ++ more))
no_fewer [] more others = omega arith
no_fewer (d ∷ before) more others =
    let here = filter_source others d in
    let next = others ++ d ∷ [] in
    omega (
      arith,
      no_fewer before more next,
      length-append here (filter_sources next before),
      length-append here (filter_sources next (before ++ more)),
    )

-- ---- the number of a name

place_where : (b : Bool) (n k : ℕ) (more : Bool) → (b || more) ≡ true → (more ≡ true → k < n)
    → (if b then 0 else suc k) < suc n
place_where true n k more is less = omega arith
place_where false n k more is less = omega (arith, less is)

place_less : (names : List (List ℕ)) (name : List ℕ)
    → list_any (λ n. same_name n name) names ≡ true → place_in names name < length names
place_less [] name is = absurd (cc)
place_less (n ∷ names) name is =
    place_where (same_name n name) (length names) (place_in names name)
    (list_any (λ n. same_name n name) names) is (place_less names name)

known_is : (b : Bool) (at : ℕ) (kind : ConfKind) → refused_if (not b) at kind ≡ [] → b ≡ true
known_is true at kind e = refl
known_is false at kind e = absurd (cc)

pub number_less : (text : List ℕ) (before more : List conf.Declaration) (name : Name)
    → filter (behind (at_start text) before) name ≡ []
    → filter_number (behind (at_start text) before) name
    < length (filter_sources [] (before ++ more))
number_less text before more name e =
    let known = behind (at_start text) before in
    let there =
    place_less known.filters (name_bytes known.scene.text name)
    (known_is (is_filter known name) name.at kinds.UnknownName e) in
    omega (arith, there, all_counted before (at_start text) [], no_fewer before more [])

-- ---- what stands at a number

pub at_number : {X : Type 0} (xs : List X) (n : ℕ) → n < length xs
    → (x : X) × (slice_get xs n ≡ Some x) × Contains xs x
at_number [] n less = absurd (omega (arith, less))
at_number (x ∷ xs) zero less = (x, refl, (0, omega arith, refl))
at_number (x ∷ xs) (suc n) less =
    let h = at_number xs n (omega (arith, less)) in
    (h.0, h.1, (suc h.2.0, omega (arith, h.2.1), h.2.2))
