-- What is so where nothing is refused of a statement.
use Rattle.std.proofs.Common.{◌≡◌, ℕ, ◌<◌, ◌≤◌, Bool, true, false, ◌||◌, not, nat_lt, if◌then◌else◌, List, [], ◌∷◌, ◌++◌, length, map, Option, Some, None, refl, sym, ap, ◌∙◌, arith, true≢false}
use Rattle.std.proofs.lemmas.Bool.{ltb-true}
use Rattle.std.proofs.lemmas.Option.{none-some}
use Rattle.std.specs.List.{list_any}
use Rattle.bits_ip.specs.declared.address.Family.{Family}
use Rattle.conf_ast.specs.declared.named.Name.{Name}
use Rattle.conf_ast.specs.Names.{name_bytes}
use Rattle.conf_ast.specs.declared.kind.ConfKind.{ConfKind}
use Rattle.conf_ast.specs.Configurations as conf
use Rattle.conf_ast.specs.Configurations.{FamilyChannel, Instance, StaticSetting, BgpSetting, PipeSetting, Routine, Value}
use Rattle.conf_ast.specs.Filters.{Statements}
use Rattle.filt_meaning.specs.Names.{same_name}
use Rattle.filt_types.specs.Items.{is_none}
use Rattle.filt_types.specs.Scenes as scenes
use Rattle.filt_types.specs.Refusals as of_types
use Rattle.filt_types.specs.Refused as filters
use Rattle.filt_types.specs.Statements.{in_function}
use Rattle.filt_types.specs.Weight.{block_weight}
use Rattle.filt_check.proofs.Light.{not_heavy}
use Rattle.conf_names.specs.declared.refusal.Refusal.{Refusal}
use Rattle.conf_options.specs.Options.{pipe_options}
use Rattle.conf_rules.specs.Channels.{one_channel}
use Rattle.conf_names.specs.Constants.{value}
use Rattle.conf_names.specs.Known as of
use Rattle.conf_names.specs.Known.{Known, is_declared}
use Rattle.conf_names.specs.Names as of_names
use Rattle.conf_rules.specs.Protocols as p
use Rattle.conf_names.specs.Refusals.{first_in, of_filters, precedes, refused_if}
use Rattle.conf_rules.specs.Statements as rules
use Rattle.conf_check.specs.Seen.{HasOne, HasPeer}
use Rattle.conf_check.proofs.Names.{or_left, or_right}

-- ---- nothing in a list

pub nil_left : {A : Type 0} (xs ys : List A) → xs ++ ys ≡ [] → xs ≡ []
nil_left [] ys h = refl
nil_left (x ∷ xs) ys h = absurd (omega (arith, ap (λ (l : List _). length l) h))

pub nil_right : {A : Type 0} (xs ys : List A) → xs ++ ys ≡ [] → ys ≡ []
nil_right [] ys h = h
nil_right (x ∷ xs) ys h = absurd (omega (arith, ap (λ (l : List _). length l) h))

not_refused : (b : Bool) (at : ℕ) (kind : ConfKind) → refused_if b at kind ≡ [] → b ≡ false
not_refused true at kind h = absurd (omega (arith, ap (λ (l : List Refusal). length l) h))
not_refused false at kind h = refl

by_choice : (b : Bool) (x y : Refusal) → (r : Refusal) × ((if b then Some x else Some y) ≡ Some r)
by_choice true x y = (x, refl)
by_choice false x y = (y, refl)

some_first : (found : Refusal) (rs : List Refusal) → (r : Refusal) × (first_in (Some found) rs ≡ Some r)
some_first found [] = (found, refl)
some_first found (x ∷ rs) =
    let h = by_choice (precedes x found) x found in
    let k = some_first h.0 rs in
    (k.0, ap (λ (o : Option Refusal). first_in o rs) h.1 ∙ k.1)

pub none_refused : (rs : List Refusal) → first_in None rs ≡ None → rs ≡ []
none_refused [] h = refl
none_refused (x ∷ rs) h = let k = some_first x rs in absurd (none-some k.0 (sym h ∙ k.1))

-- ---- names

-- a name that isn't declared is the name of nothing
pub record IsFree (known : Known) (name : List ℕ) : Type 0 where
  pub constants : scenes.is_declared known.scene.constants name ≡ false
  pub functions : scenes.is_declared known.scene.functions name ≡ false
  pub others : list_any (λ n. same_name n name) known.scene.others ≡ false

pub is_free : (known : Known) (name : List ℕ) → is_declared known name ≡ false → IsFree known name
is_free known name h =
    let a = scenes.is_declared known.scene.constants name in
    let b = scenes.is_declared known.scene.functions name in
    let c = list_any (λ n. same_name n name) known.scene.others in
    record {
      constants = or_left a b (or_left (a || b) c h);
      functions = or_right a b (or_left (a || b) c h);
      others = or_right (a || b) c h;
    }

declaring_free : (known : Known) (n : Name) → of.declaring known n ≡ [] → is_declared known (name_bytes known.scene.text n) ≡ false
declaring_free known n h = not_refused (is_declared known (name_bytes known.scene.text n)) n.at _ (nil_left (refused_if (is_declared known (name_bytes known.scene.text n)) n.at _) (of.too_long known n) h)

pub define_free : (known : Known) (n : Name) (v : Value) → rules.refusals known (conf.Define n v) ≡ [] → is_declared known (name_bytes known.scene.text n) ≡ false
define_free known n v h = declaring_free known n (nil_left (of.declaring known n) (value known v) h)

pub function_free : (known : Known) (f : Routine) → rules.refusals known (conf.DefineFunction f) ≡ [] → is_declared known (name_bytes known.scene.text f.name) ≡ false
function_free known f h = declaring_free known f.name (nil_left (of.declaring known f.name) (of_filters (filters.of_function known.scene f)) h)

map_nil : {A B : Type 0} (f : A → B) (xs : List A) → map f xs ≡ [] → xs ≡ []
map_nil f [] h = refl
map_nil f (x ∷ xs) h = absurd (omega (arith, ap (λ (l : List _). length l) h))

-- a function of which nothing is refused isn't too heavy
pub function_light : (known : Known) (f : Routine) → rules.refusals known (conf.DefineFunction f) ≡ [] → block_weight known.scene f.body ≤ 10000000
function_light known f h =
    let none : filters.of_function known.scene f ≡ [] = map_nil _ (filters.of_function known.scene f) (nil_right (of.declaring known f.name) (of_filters (filters.of_function known.scene f)) h) in
    not_heavy f.name.at (block_weight known.scene f.body) (in_function known.scene f) (sym (ap (λ (rs : List _). of_types.first_in None rs) none))

pub filter_free : (known : Known) (at : ℕ) (n : Name) (ss : Statements) → rules.refusals known (conf.DefineFilter at n ss) ≡ [] → is_declared known (name_bytes known.scene.text n) ≡ false
filter_free known at n ss h = declaring_free known n (nil_left (of.declaring known n) (of_filters (filters.of_filter known.scene n.at ss)) h)

by_master : (b : Bool) (xs : List Refusal) → b ≡ false → (if b then [] else xs) ≡ [] → xs ≡ []
by_master true xs other h = absurd (true≢false other)
by_master false xs other h = h

pub table_free : (known : Known) (at : ℕ) (f : Family) (n : Name) → rules.is_master known f n ≡ false → rules.refusals known (conf.Table at f n) ≡ [] → is_declared known (name_bytes known.scene.text n) ≡ false
table_free known at f n other h = declaring_free known n (nil_left (of.declaring known n) _ (by_master (rules.is_master known f n) _ other h))

-- ---- protocols

pub names_free : (known : Known) (at : ℕ) (n : Option Name) (names : List (List ℕ)) → of_names.declaring known at n names ≡ [] → list_any (is_declared known) names ≡ false
names_free known at n names h = not_refused (list_any (is_declared known) names) (of_names.place_of at n) _ (nil_left _ (of_names.name_too_long known n) (nil_left _ _ h))

few_by : (b : Bool) (at : ℕ) (kind : ConfKind) → refused_if (not b) at kind ≡ [] → b ≡ true
few_by true at kind h = refl
few_by false at kind h = absurd (omega (arith, ap (λ (l : List Refusal). length l) h))

pub protocols_few : (known : Known) (at : ℕ) (n : Option Name) (names : List (List ℕ)) → of_names.declaring known at n names ≡ [] → known.protocols < 256
protocols_few known at n names h = ltb-true known.protocols 256 (few_by (nat_lt known.protocols 256) (of_names.place_of at n) _ (nil_right _ _ h))

pub static_declaring : (known : Known) (x : Instance StaticSetting) → rules.refusals known (conf.Static x) ≡ [] → of_names.declaring known x.at x.name (of_names.own_name known of_names.static_stem x.name ∷ []) ≡ []
static_declaring known x h = nil_left _ _ (nil_left _ _ (nil_left _ _ (nil_left _ _ h)))

pub bgp_declaring : (known : Known) (x : Instance BgpSetting) → rules.refusals known (conf.Bgp x) ≡ [] → of_names.declaring known x.at x.name (of_names.own_name known of_names.bgp_stem x.name ∷ []) ≡ []
bgp_declaring known x h = nil_left _ _ (nil_left _ _ (nil_left _ _ h))

pub pipe_declaring : (known : Known) (x : Instance PipeSetting) → rules.refusals known (conf.Pipe x) ≡ [] → of_names.declaring known x.at x.name (of_names.pipe_names (of_names.own_name known of_names.pipe_stem x.name)) ≡ []
pipe_declaring known x h = nil_left _ _ (nil_left _ _ (nil_left _ _ (nil_left _ _ h)))

has_one : (at : ℕ) (cs : List FamilyChannel) → one_channel at cs ≡ [] → HasOne cs
has_one at [] h = absurd (omega (arith, ap (λ (l : List Refusal). length l) h))
has_one at (c ∷ []) h = (c, refl)
has_one at (c ∷ d ∷ cs) h = absurd (omega (arith, ap (λ (l : List Refusal). length l) h))

pub static_has_one : (known : Known) (x : Instance StaticSetting) → rules.refusals known (conf.Static x) ≡ [] → HasOne (p.static_channels x.settings)
static_has_one known x h = has_one (of_names.place_of x.at x.name) (p.static_channels x.settings) (nil_right _ _ (nil_left _ _ (nil_left _ _ h)))

pub bgp_has_one : (known : Known) (x : Instance BgpSetting) → rules.refusals known (conf.Bgp x) ≡ [] → HasOne (p.bgp_channels x.settings)
bgp_has_one known x h = has_one (of_names.place_of x.at x.name) (p.bgp_channels x.settings) (nil_right _ _ (nil_left _ _ h))

lacks_none : (at : ℕ) (o : Option Name) → p.lacks at o ≡ [] → is_none o ≡ false
lacks_none at None h = absurd (omega (arith, ap (λ (l : List Refusal). length l) h))
lacks_none at (Some n) h = refl

pub pipe_has_peer : (known : Known) (x : Instance PipeSetting) → rules.refusals known (conf.Pipe x) ≡ [] → HasPeer (pipe_options x.settings).peer
pipe_has_peer known x h = lacks_none (of_names.place_of x.at x.name) (pipe_options x.settings).peer (nil_right _ _ (nil_left _ _ (nil_left _ _ h)))

-- ---- names and numbers of protocols

pub static_free : (known : Known) (x : Instance StaticSetting) → rules.refusals known (conf.Static x) ≡ [] → is_declared known (of_names.own_name known of_names.static_stem x.name) ≡ false
static_free known x h = or_left (is_declared known (of_names.own_name known of_names.static_stem x.name)) false (names_free known x.at x.name (of_names.own_name known of_names.static_stem x.name ∷ []) (static_declaring known x h))

pub static_few : (known : Known) (x : Instance StaticSetting) → rules.refusals known (conf.Static x) ≡ [] → known.protocols < 256
static_few known x h = protocols_few known x.at x.name (of_names.own_name known of_names.static_stem x.name ∷ []) (static_declaring known x h)

pub bgp_free : (known : Known) (x : Instance BgpSetting) → rules.refusals known (conf.Bgp x) ≡ [] → is_declared known (of_names.own_name known of_names.bgp_stem x.name) ≡ false
bgp_free known x h = or_left (is_declared known (of_names.own_name known of_names.bgp_stem x.name)) false (names_free known x.at x.name (of_names.own_name known of_names.bgp_stem x.name ∷ []) (bgp_declaring known x h))

pub bgp_few : (known : Known) (x : Instance BgpSetting) → rules.refusals known (conf.Bgp x) ≡ [] → known.protocols < 256
bgp_few known x h = protocols_few known x.at x.name (of_names.own_name known of_names.bgp_stem x.name ∷ []) (bgp_declaring known x h)

free_others : (known : Known) (names : List (List ℕ)) → list_any (is_declared known) names ≡ false → list_any (λ n. list_any (λ o. same_name o n) known.scene.others) names ≡ false
free_others known [] h = refl
free_others known (n ∷ names) h =
    any_more (list_any (λ o. same_name o n) known.scene.others) (list_any (λ n. list_any (λ o. same_name o n) known.scene.others) names) (is_free known n (or_left (is_declared known n) (list_any (is_declared known) names) h)).others (free_others known names (or_right (is_declared known n) (list_any (is_declared known) names) h))
  where
    any_more : (a b : Bool) → a ≡ false → b ≡ false → (a || b) ≡ false
    any_more a b p q = rw (p, q) refl

pub pipe_free : (known : Known) (x : Instance PipeSetting) → rules.refusals known (conf.Pipe x) ≡ [] → list_any (λ n. list_any (λ o. same_name o n) known.scene.others) (of_names.pipe_names (of_names.own_name known of_names.pipe_stem x.name)) ≡ false
pipe_free known x h = free_others known (of_names.pipe_names (of_names.own_name known of_names.pipe_stem x.name)) (names_free known x.at x.name (of_names.pipe_names (of_names.own_name known of_names.pipe_stem x.name)) (pipe_declaring known x h))

pub pipe_few : (known : Known) (x : Instance PipeSetting) → rules.refusals known (conf.Pipe x) ≡ [] → known.protocols < 256
pipe_few known x h = protocols_few known x.at x.name (of_names.pipe_names (of_names.own_name known of_names.pipe_stem x.name)) (pipe_declaring known x h)
