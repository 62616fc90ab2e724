-- Names that are declared, and one more.
use Rattle.std.proofs.Common.{◌≡◌, ℕ, ◌+◌, Bool, true, false, ◌||◌, ◌&&◌, nat_eq, if◌then◌else◌, List, [], ◌∷◌, ◌++◌, length, map, append-nil, subst, All, Option, Some, None, option_map, is_some, refl, sym, ap, ◌∙◌, arith, true≢false, Result, Ok, Err, codes}
use Rattle.std.specs.Cmp.Lexicographic.{pointwise}
use Rattle.std.specs.List.{list_any}
use Rattle.std.specs.Map.{lookup}
use Rattle.std.proofs.lemmas.List.{length-append, map-append}
use Rattle.std.proofs.lemmas.List.Elements.{All-push}
use Rattle.std.proofs.lemmas.Option.{none-some}
use Rattle.indexmap.specs.IndexMap.{insert_entry}
use Rattle.indexmap.proofs.MapLemmas.{absent_from_lookup, insert_entry-absent}
use Rattle.bits_ip.specs.declared.address.Family.{Family}
use Rattle.bits_ip.specs.declared.address.Family.TheVariants as families
use Rattle.conf_ast.specs.Names.{name_bytes}
use Rattle.conf_ast.specs.Configurations as conf
use Rattle.filt_meaning.specs.declared.value.Failure.{Failure}
use Rattle.filt_meaning.specs.Values.{Val}
use Rattle.filt_meaning.specs.Configuration.{constant}
use Rattle.filt_meaning.specs.Names.{named_in, same_name}
use Rattle.filt_types.specs.Scenes.{is_declared}
use Rattle.filt_types.proofs.Lookups.{is_among, is_looked_up, looked_up}
use Rattle.conf_names.specs.declared.joints.Joint.{Joint}
use Rattle.conf_names.specs.Joints.{IsWithin}
use Rattle.conf_names.specs.Known.{ArePipesThere, Known}
use Rattle.conf_rules.specs.Protocols.{joint_of}
use Rattle.conf_names.specs.Names.{bgp_stem, own_name, pipe_names, pipe_stem, static_stem}
use Rattle.conf_rules.specs.Statements.{is_master, master}
use Rattle.conf_rules.proofs.Places.{joint_within}
use Rattle.conf_names.proofs.Places.{Key, is_key}
use Rattle.conf_check.specs.Behind.{at_start, behind, behind_one, context_in, with_filter, with_pipe, with_protocol, with_scene, with_table, with_value}
use Rattle.conf_check.specs.Seen.{AreNamed, Joins}

-- ---- truth

pub or_left : (a b : Bool) → (a || b) ≡ false → a ≡ false
or_left true b h = h
or_left false b h = refl

pub or_right : (a b : Bool) → (a || b) ≡ false → b ≡ false
or_right true b h = absurd (true≢false h)
or_right false b h = h

pub any_front : {A : Type 0} (p : A → Bool) (xs ys : List A) → list_any p (xs ++ ys) ≡ false → list_any p xs ≡ false
any_front p [] ys h = refl
any_front p (x ∷ xs) ys h = rw (or_left (p x) (list_any p (xs ++ ys)) h) (any_front p xs ys (or_right (p x) (list_any p (xs ++ ys)) h))

pub any_back : {A : Type 0} (p : A → Bool) (xs ys : List A) → list_any p (xs ++ ys) ≡ false → list_any p ys ≡ false
any_back p [] ys h = h
any_back p (x ∷ xs) ys h = any_back p xs ys (or_right (p x) (list_any p (xs ++ ys)) h)

pub any_both : {A : Type 0} (p : A → Bool) (xs ys : List A) → list_any p xs ≡ false → list_any p ys ≡ false → list_any p (xs ++ ys) ≡ false
any_both p [] ys h k = k
any_both p (x ∷ xs) ys h k = rw (or_left (p x) (list_any p xs) h) (any_both p xs ys (or_right (p x) (list_any p xs) h) k)

-- ---- tables and filters are named

named_if : (b : Bool) (x y : Known) → AreNamed x → AreNamed y → AreNamed (if b then x else y)
named_if true x y h k = h
named_if false x y h k = k

named_value : (known : Known) (name : List ℕ) (r : Result Val Failure) → AreNamed known → AreNamed (with_scene known (with_value known.scene name r))
named_value known name (Ok v) h = h
named_value known name (Err failure) h = h

skipped : (b : Bool) (f : Family) (o p : Option Family) → (if b then Some f else o) ≡ None → (o ≡ None → p ≡ None) → (if b then Some f else p) ≡ None
skipped true f o p h next = h
skipped false f o p h next = next h

not_among : (ts : List (List ℕ × Family)) (n : List ℕ) (f : Family) (name : List ℕ) → named_in ts name ≡ None → same_name n name ≡ false → named_in (ts ++ (n, f) ∷ []) name ≡ None
not_among [] n f name h other = rw other refl
not_among (t ∷ ts) n f name h other = skipped (same_name t.0 name) t.1 (named_in ts name) (named_in (ts ++ (n, f) ∷ []) name) h (λ k. not_among ts n f name k other)

pub named_table : (known : Known) (n : List ℕ) (f : Family) → AreNamed known → AreNamed (with_table known n f)
named_table known n f h = λ name free.
    let front = any_front (λ x. same_name x name) known.scene.others (n ∷ []) free in
    let alone = or_left (same_name n name) false (any_back (λ x. same_name x name) known.scene.others (n ∷ []) free) in
    (not_among known.tables n f name (h name front).0 alone, (h name front).1)

named_filter : (known : Known) (n : List ℕ) → AreNamed known → AreNamed (with_filter known n)
named_filter known n h = λ name free.
    let front = any_front (λ x. same_name x name) known.scene.others (n ∷ []) free in
    ((h name front).0, any_both (λ x. same_name x name) known.filters (n ∷ []) (h name front).1 (any_back (λ x. same_name x name) known.scene.others (n ∷ []) free))

named_protocol : (known : Known) (ns : List (List ℕ)) → AreNamed known → AreNamed (with_protocol known ns)
named_protocol known ns h = λ name free. h name (any_front (λ x. same_name x name) known.scene.others ns free)

named_one : (known : Known) (d : conf.Declaration) → AreNamed known → AreNamed (behind_one known d)
named_one known (conf.RouterId a) h = h
named_one known conf.Log h = h
named_one known (conf.Define name v) h = named_value known (name_bytes known.scene.text name) (constant (context_in known.scene) v) h
named_one known (conf.Table at family name) h = named_if (is_master known family name) known (with_table known (name_bytes known.scene.text name) family) h (named_table known (name_bytes known.scene.text name) family h)
named_one known (conf.DefineFunction f) h = h
named_one known (conf.DefineFilter at name ss) h = named_filter known (name_bytes known.scene.text name) h
named_one known (conf.Device name semicolon) h = h
named_one known (conf.Static p) h = named_protocol known (own_name known static_stem p.name ∷ []) h
named_one known (conf.Bgp p) h = named_protocol known (own_name known bgp_stem p.name ∷ []) h
named_one known (conf.Pipe p) h = named_protocol known (pipe_names (own_name known pipe_stem p.name)) h

named_from : (known : Known) (ds : List conf.Declaration) → AreNamed known → AreNamed (behind known ds)
named_from known [] h = h
named_from known (d ∷ ds) h = named_from (behind_one known d) ds (named_one known d h)

-- ---- the tables of pipes are there

there_if : (b : Bool) (x y : Known) → ArePipesThere x → ArePipesThere y → ArePipesThere (if b then x else y)
there_if true x y h k = h
there_if false x y h k = k

there_value : (known : Known) (name : List ℕ) (r : Result Val Failure) → ArePipesThere known → ArePipesThere (with_scene known (with_value known.scene name r))
there_value known name (Ok v) h = h
there_value known name (Err failure) h = h

there_table : (known : Known) (n : List ℕ) (f : Family) → ArePipesThere known → ArePipesThere (with_table known n f)
there_table known n f h k d lt =
    let within = h k d lt in
    let more = length-append known.tables ((n, f) ∷ []) in
    (omega (arith, within.0, more), omega (arith, within.1, more))

there_pipe : (known : Known) (names : List (List ℕ)) (o : Option Joint) → ((j : Joint) → o ≡ Some j → IsWithin (length known.tables) j) → ArePipesThere known → ArePipesThere (with_pipe (with_protocol known names) o)
there_pipe known names None within h = subst (λ (l : List Joint). All (IsWithin (length known.tables)) l) (sym (append-nil known.pipes)) h
there_pipe known names (Some j) within h = All-push (IsWithin (length known.tables)) known.pipes j h (within j refl)

there_one : (known : Known) (d : conf.Declaration) → ArePipesThere known → ArePipesThere (behind_one known d)
there_one known (conf.RouterId a) h = h
there_one known conf.Log h = h
there_one known (conf.Define name v) h = there_value known (name_bytes known.scene.text name) (constant (context_in known.scene) v) h
there_one known (conf.Table at family name) h = there_if (is_master known family name) known (with_table known (name_bytes known.scene.text name) family) h (there_table known (name_bytes known.scene.text name) family h)
there_one known (conf.DefineFunction f) h = h
there_one known (conf.DefineFilter at name ss) h = h
there_one known (conf.Device name semicolon) h = h
there_one known (conf.Static p) h = h
there_one known (conf.Bgp p) h = h
there_one known (conf.Pipe p) h = there_pipe known (pipe_names (own_name known pipe_stem p.name)) (joint_of known p.settings) (λ j is. joint_within known p.settings j is) h

there_from : (known : Known) (ds : List conf.Declaration) → ArePipesThere known → ArePipesThere (behind known ds)
there_from known [] h = h
there_from known (d ∷ ds) h = there_from (behind_one known d) ds (there_one known d h)

pub there_behind : (text : List ℕ) (ds : List conf.Declaration) → ArePipesThere (behind (at_start text) ds)
there_behind text ds = there_from (at_start text) ds (λ k d lt. absurd (omega (arith, lt)))

-- ---- the beginning

abbrev pub nothing : List ℕ → Known
nothing text = record {
  scene = record { text = text; constants = []; functions = []; others = [] };
  tables = [];
  filters = [];
  protocols = 0;
  pipes = [];
}

pub named_nothing : (known : Known) → known.tables ≡ [] → known.filters ≡ [] → AreNamed known
named_nothing known p q = λ name free. (ap (λ (ts : List (List ℕ × Family)). named_in ts name) p, ap (λ (ns : List (List ℕ)). list_any (λ n. same_name n name) ns) q)

named_start : (text : List ℕ) → AreNamed (at_start text)
named_start text = named_table (with_table (nothing text) (master families.V4) families.V4) (master families.V6) families.V6 (named_table (nothing text) (master families.V4) families.V4 (named_nothing (nothing text) refl refl))

pub named_behind : (text : List ℕ) (ds : List conf.Declaration) → AreNamed (behind (at_start text) ds)
named_behind text ds = named_from (at_start text) ds (named_start text)

-- ---- what isn't there

none_of : {A : Type 0} (o : Option A) → is_some o ≡ false → o ≡ None
none_of None h = refl
none_of (Some a) h = absurd (true≢false h)

pub absent : {X Y : Type 0} (f : X → Y) (name : List ℕ) (es : List (Key × X)) → is_declared (map (λ (e : Key × X). (e.0.items, f e.1)) es) name ≡ false → lookup (is_key name) es ≡ None
absent f name es free = none_of (lookup (is_key name) es) (is_looked_up f name es ∙ free)

none_mapped : {X Y : Type 0} (f : X → Y) (o : Option X) → option_map f o ≡ None → o ≡ None
none_mapped f None h = refl
none_mapped f (Some x) h = absurd (none-some (f x) (sym h))

pub absent_in : {X Y : Type 0} (f : X → Y) (name : List ℕ) (es : List (Key × X)) → named_in (map (λ (e : Key × X). (e.0.items, f e.1)) es) name ≡ None → lookup (is_key name) es ≡ None
absent_in f name es none = none_mapped f (lookup (is_key name) es) (looked_up f name es ∙ none)

pub not_among_keys : (name : List ℕ) (ks : List Key) → list_any (λ n. same_name n name) (map (λ (k : Key). k.items) ks) ≡ false → list_any (is_key name) ks ≡ false
not_among_keys name ks free = is_among name ks ∙ free

-- ---- one name more

pub key_joins : (ks news : List Key) (k : Key) (name : List ℕ) → k.items ≡ name → list_any (λ n. same_name n name) (map (λ (k : Key). k.items) ks) ≡ false → news ≡ (if list_any (is_key k.items) ks then ks else ks ++ k ∷ []) → map (λ (k : Key). k.items) news ≡ map (λ (k : Key). k.items) ks ++ name ∷ []
key_joins ks news k name is free new =
    let fresh : list_any (is_key k.items) ks ≡ false = ap (λ (n : List ℕ). list_any (is_key n) ks) is ∙ not_among_keys name ks free in
    ap (λ (l : List Key). map (λ (k : Key). k.items) l) (new ∙ ap (λ (b : Bool). if b then ks else ks ++ k ∷ []) fresh)
    ∙ map-append (λ (k : Key). k.items) ks (k ∷ []) ∙ ap (λ (n : List ℕ). map (λ (k : Key). k.items) ks ++ n ∷ []) is

pub entry_joins : {X : Type 0} (es news : List (Key × X)) (k : Key) (x : X) (name : List ℕ) → k.items ≡ name → lookup (is_key name) es ≡ None → news ≡ insert_entry (λ (a b : Key). pointwise nat_eq a.items b.items) es k x → Joins name x es news
entry_joins es news k x name is none new =
    (k, is, new ∙ insert_entry-absent (λ (a b : Key). pointwise nat_eq a.items b.items) k x es (absent_from_lookup (is_key k.items) es (ap (λ (n : List ℕ). lookup (is_key n) es) is ∙ none)))

-- ---- the names of a pipe

and_false : (b c : Bool) → c ≡ false → (b && c) ≡ false
and_false true c h = h
and_false false c h = refl

longer : (a : List ℕ) (x : ℕ) (more : List ℕ) → same_name a (a ++ x ∷ more) ≡ false
longer [] x more = refl
longer (y ∷ a) x more = and_false (nat_eq y y) (same_name a (a ++ x ∷ more)) (longer a x more)

behind_same : (a x y : List ℕ) → same_name x y ≡ false → same_name (a ++ x) (a ++ y) ≡ false
behind_same [] x y h = h
behind_same (z ∷ a) x y h = and_false (nat_eq z z) (same_name (a ++ x) (a ++ y)) (behind_same a x y h)

abbrev pub among : List (List ℕ) → List ℕ → Bool
among ns name = list_any (λ n. same_name n name) ns

pub record PipeFree (name : List ℕ) (ns : List (List ℕ)) : Type 0 where
  pub own : among ns name ≡ false
  pub export : among (ns ++ name ∷ []) (name ++ codes ".export") ≡ false
  pub import : among ((ns ++ name ∷ []) ++ (name ++ codes ".export") ∷ []) (name ++ codes ".import") ≡ false

pub pipe_free : (name : List ℕ) (ns : List (List ℕ)) → list_any (among ns) (pipe_names name) ≡ false → PipeFree name ns
pipe_free name ns h =
    let exports = name ++ codes ".export" in
    let imports = name ++ codes ".import" in
    let rest = or_right (among ns name) (among ns exports || (among ns imports || false)) h in
    record {
      own = or_left (among ns name) (among ns exports || (among ns imports || false)) h;
      export = any_both (λ n. same_name n exports) ns (name ∷ []) (or_left (among ns exports) (among ns imports || false) rest) (rw (longer name 46 (codes "export")) refl);
      import = any_both (λ n. same_name n imports) (ns ++ name ∷ []) (exports ∷ [])
          (any_both (λ n. same_name n imports) ns (name ∷ []) (or_left (among ns imports) false (or_right (among ns exports) (among ns imports || false) rest)) (rw (longer name 46 (codes "import")) refl))
          (rw (behind_same name (codes ".export") (codes ".import") refl) refl);
    }
