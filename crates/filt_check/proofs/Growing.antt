-- Scopes that declare more.
use Rattle.std.proofs.Common.{◌≡◌, ℕ, suc, ◌+◌, ◌≤◌, All, List, [], ◌∷◌, ◌++◌, length, map, take, Some, Ok, refl, sym, ap, ◌∙◌, arith, slice_get, append_assoc, append-nil, Vec}
use Rattle.std.specs.Global.{Global}
use Rattle.std.proofs.lemmas.List.{map-append, take-append-le}
use Rattle.attrs.specs.declared.attributes.Attrs.{Attrs}
use Rattle.filt_meaning.specs.declared.fixed.Fixed.{Fixed}
use Rattle.filt_meaning.specs.Seen.{val_of_fixed}
use Rattle.filt_meaning.specs.Values.{Val}
use Rattle.filt_meaning.specs.Configuration as meaning
use Rattle.filt_meaning.specs.Configuration.{given_by}
use Rattle.filt_meaning.specs.Names.{Around, Doing}
use Rattle.filt_meaning.specs.declared.scope.Scope.{Scope}
use Rattle.filt_meaning.specs.declared.scope.TFunction.{TFunction}
use Rattle.filt_meaning.specs.declared.tree.TFilter.{TFilter}
use Rattle.filt_meaning.specs.Scopes.{constant_values, constants_in, context_of, function_names, function_trees, named, tables_of}
use Rattle.filt_meaning.specs.Trees.{Tables, function, run, tables, tree_flow, with_function, with_functions}
use Rattle.filt_resolve.proofs.Lookups.{around_stays, constants_stay, functions_length, mapped_length}

-- ---- filters

pub filter_stays : (around : Around) (cs more : List Fixed) (fs others : List TFunction) (x : TFilter) (attrs : Attrs) → x.constants ≤ length cs → x.functions ≤ length fs → tree_flow around (cs ++ more) (fs ++ others) x attrs ≡ tree_flow around cs fs x attrs
filter_stays around cs more fs others x attrs p q =
    ap (λ (l : List Fixed). run (tables around l (take x.functions (fs ++ others))) x.sorts.items x.body.items [] attrs) (take-append-le x.constants cs more p)
    ∙ ap (λ (l : List TFunction). run (tables around (take x.constants cs) l) x.sorts.items x.body.items [] attrs) (take-append-le x.functions fs others q)

-- ---- functions

abbrev over : Around → List Val → List Doing → Tables
over around ks ds = record { around = around; constants = ks; functions = ds }

known_by : (around : Around) (ks ls : List Val) (ds : List Doing) (x : TFunction) → x.constants ≤ length ks → function (over around (ks ++ ls) ds) x ≡ function (over around ks ds) x
known_by around ks ls ds x p =
    ap (λ (l : List Val). λ args attrs. given_by x.gives (run (over around l ds) x.sorts.items x.body.items args attrs)) (take-append-le x.constants ks ls p)

functions_stay : (around : Around) (ks ls : List Val) (ds : List Doing) (fs : List TFunction) → All (λ (g : TFunction). g.constants ≤ length ks) fs → (with_functions (over around (ks ++ ls) ds) fs).functions ≡ (with_functions (over around ks ds) fs).functions
functions_stay around ks ls ds [] all = refl
functions_stay around ks ls ds (x ∷ fs) all =
    ap (λ (d : Doing). (with_functions (over around (ks ++ ls) (ds ++ d ∷ [])) fs).functions) (known_by around ks ls ds x (all 0 x (omega arith)))
    ∙ functions_stay around ks ls (ds ++ function (over around ks ds) x ∷ []) fs (λ k d below. all (suc k) d (omega (arith, below)))

opened : (t : Tables) (around : Around) (ks : List Val) (ds : List Doing) → t.around ≡ around → t.constants ≡ ks → t.functions ≡ ds → t ≡ over around ks ds
opened t around ks ds p q r =
    ap (λ (a : Around). over a t.constants t.functions) p ∙ ap (λ (k : List Val). over around k t.functions) q ∙ ap (λ (d : List Doing). over around ks d) r

fits_more : (cs : List Fixed) (fs : List TFunction) → All (λ (g : TFunction). g.constants ≤ length cs) fs → All (λ (g : TFunction). g.constants ≤ length (map val_of_fixed cs)) fs
fits_more cs fs all = λ k d below. omega (arith, all k d below, mapped_length val_of_fixed cs)

tables_open : (around : Around) (cs : List Fixed) (fs : List TFunction) (ds : List Doing) → (tables around cs fs).functions ≡ ds → tables around cs fs ≡ over around (map val_of_fixed cs) ds
tables_open around cs fs ds h = opened (tables around cs fs) around (map val_of_fixed cs) ds (around_stays (over around (map val_of_fixed cs) []) fs) (constants_stay (over around (map val_of_fixed cs) []) fs) h

pub more_constants : (around : Around) (cs more : List Fixed) (fs : List TFunction) → All (λ (g : TFunction). g.constants ≤ length cs) fs → (tables around (cs ++ more) fs).functions ≡ (tables around cs fs).functions
more_constants around cs more fs all =
    ap (λ (k : List Val). (with_functions (over around k []) fs).functions) (map-append val_of_fixed cs more)
    ∙ functions_stay around (map val_of_fixed cs) (map val_of_fixed more) [] fs (fits_more cs fs all)

pub function_stays : (around : Around) (cs more : List Fixed) (fs : List TFunction) (x : TFunction) → All (λ (g : TFunction). g.constants ≤ length cs) fs → x.constants ≤ length cs → function (tables around (cs ++ more) fs) x ≡ function (tables around cs fs) x
function_stays around cs more fs x all p =
    let ds = (tables around cs fs).functions in
    ap (λ (t : Tables). function t x) (tables_open around (cs ++ more) fs ds (more_constants around cs more fs all) ∙ ap (λ (k : List Val). over around k ds) (map-append val_of_fixed cs more))
    ∙ known_by around (map val_of_fixed cs) (map val_of_fixed more) ds x (omega (arith, p, mapped_length val_of_fixed cs))
    ∙ ap (λ (t : Tables). function t x) (sym (tables_open around cs fs ds refl))

pub two_runs : (t : Tables) (fs gs : List TFunction) → with_functions t (fs ++ gs) ≡ with_functions (with_functions t fs) gs
two_runs t [] gs = refl
two_runs t (x ∷ fs) gs = two_runs (with_function t (function t x)) fs gs

appended : (t : Tables) (fs : List TFunction) → (ds : List Doing) × ((with_functions t fs).functions ≡ t.functions ++ ds)
appended t [] = ([], sym (append-nil t.functions))
appended t (x ∷ fs) =
    let d = function t x in
    let h = appended (with_function t d) fs in
    (d ∷ h.0, h.1 ∙ append_assoc t.functions (d ∷ []) h.0)

in_middle : {A : Type 0} (xs : List A) (x : A) (ys : List A) → slice_get (xs ++ x ∷ ys) (length xs) ≡ Some x
in_middle [] x ys = refl
in_middle (y ∷ xs) x ys = in_middle xs x ys

at_its_number : (t : Tables) (fs : List TFunction) (x : TFunction) (others : List TFunction) → t.functions ≡ [] → slice_get (with_functions t (fs ++ x ∷ others)).functions (length fs) ≡ Some (function (with_functions t fs) x)
at_its_number t fs x others none =
    let u = with_functions t fs in
    let d = function u x in
    let h = appended (with_function u d) others in
    ap (λ (v : Tables). slice_get v.functions (length fs)) (two_runs t fs (x ∷ others))
    ∙ ap (λ (l : List Doing). slice_get l (length fs)) (h.1 ∙ append_assoc u.functions (d ∷ []) h.0)
    ∙ ap (λ (n : ℕ). slice_get (u.functions ++ d ∷ h.0) n) (omega (arith, functions_length t fs, ap (λ (l : List Doing). length l) none))
    ∙ in_middle u.functions d h.0

pub stays_at_its_number : (around : Around) (cs more : List Fixed) (fs others : List TFunction) (x : TFunction) → All (λ (g : TFunction). g.constants ≤ length cs) fs → x.constants ≤ length cs → slice_get (tables around (cs ++ more) (fs ++ x ∷ others)).functions (length fs) ≡ Some (function (tables around cs fs) x)
stays_at_its_number around cs more fs others x all p =
    at_its_number (over around (map val_of_fixed (cs ++ more)) []) fs x others refl ∙ ap Some (function_stays around cs more fs x all p)

-- ---- scopes

pub nothing_declared : (text : List ℕ) (around : Around) (scope : Scope) → scope.constants.entries ≡ [] → scope.functions.entries ≡ [] → context_of text around scope [] ≡ meaning.at_start text around
nothing_declared text around scope p q =
    ap (λ (es : List (Vec ℕ Global × Fixed)). record { text = text; around = around; constants = map (λ (e : Vec ℕ Global × Fixed). (e.0.items, val_of_fixed e.1)) es; functions = named (function_names scope) (tables_of around scope).functions; variables = [] }) p
    ∙ ap (λ (es : List (Vec ℕ Global × TFunction)). record { text = text; around = around; constants = []; functions = named (map (λ (e : Vec ℕ Global × TFunction). e.0.items) es) (tables around (constant_values scope) (map (λ (e : Vec ℕ Global × TFunction). e.1) es)).functions; variables = [] }) q

pub other_text : (text other : List ℕ) (around : Around) (scope : Scope) (variables : List (List ℕ)) → meaning.of_text (context_of text around scope variables) other ≡ context_of other around scope variables
other_text text other around scope variables = refl

pub one_function_more : (around : Around) (scope after : Scope) (x : TFunction) → constant_values after ≡ constant_values scope → function_trees after ≡ function_trees scope ++ x ∷ [] → tables_of around after ≡ with_function (tables_of around scope) (function (tables_of around scope) x)
one_function_more around scope after x p q =
    ap (λ (cs : List Fixed). tables around cs (function_trees after)) p ∙ ap (λ (fs : List TFunction). tables around (constant_values scope) fs) q
    ∙ two_runs (over around (map val_of_fixed (constant_values scope)) []) (function_trees scope) (x ∷ [])

named_more : {A : Type 0} (ns : List (List ℕ)) (xs : List A) (n : List ℕ) (x : A) → length xs ≡ length ns → named (ns ++ n ∷ []) (xs ++ x ∷ []) ≡ named ns xs ++ (n, x) ∷ []
named_more [] [] n x l = refl
named_more [] (y ∷ xs) n x l = absurd (omega arith)
named_more (m ∷ ns) [] n x l = absurd (omega arith)
named_more (m ∷ ns) (y ∷ xs) n x l = ap (λ (r : List _). (m, y) ∷ r) (named_more ns xs n x (omega arith))

pub function_declared : (text : List ℕ) (around : Around) (scope after : Scope) (key : Vec ℕ Global) (x : TFunction) (variables : List (List ℕ)) → after.constants.entries ≡ scope.constants.entries → after.functions.entries ≡ scope.functions.entries ++ (key, x) ∷ [] → context_of text around after variables ≡ meaning.with_function (context_of text around scope variables) key.items (function (tables_of around scope) x)
function_declared text around scope after key x variables p q =
    let t = tables_of around scope in
    let trees : function_trees after ≡ function_trees scope ++ x ∷ [] = ap (λ (es : List (Vec ℕ Global × TFunction)). map (λ (e : Vec ℕ Global × TFunction). e.1) es) q ∙ map-append (λ (e : Vec ℕ Global × TFunction). e.1) scope.functions.entries ((key, x) ∷ []) in
    let names : function_names after ≡ function_names scope ++ key.items ∷ [] = ap (λ (es : List (Vec ℕ Global × TFunction)). map (λ (e : Vec ℕ Global × TFunction). e.0.items) es) q ∙ map-append (λ (e : Vec ℕ Global × TFunction). e.0.items) scope.functions.entries ((key, x) ∷ []) in
    let same = one_function_more around scope after x (ap (λ (es : List (Vec ℕ Global × Fixed)). map (λ (e : Vec ℕ Global × Fixed). e.1) es) p) trees in
    ap (λ (es : List (Vec ℕ Global × Fixed)). record { text = text; around = around; constants = map (λ (e : Vec ℕ Global × Fixed). (e.0.items, val_of_fixed e.1)) es; functions = named (function_names after) (tables_of around after).functions; variables = variables }) p
    ∙ ap (λ (ds : List (List ℕ × Doing)). record { text = text; around = around; constants = constants_in scope; functions = ds; variables = variables })
    (ap (λ (u : Tables). named (function_names after) u.functions) same ∙ ap (λ (ns : List (List ℕ)). named ns (t.functions ++ function t x ∷ [])) names
    ∙ named_more (function_names scope) t.functions key.items (function t x)
    (functions_length (over around (map val_of_fixed (constant_values scope)) []) (function_trees scope) ∙ omega (arith, mapped_length (λ (e : Vec ℕ Global × TFunction). e.1) scope.functions.entries, mapped_length (λ (e : Vec ℕ Global × TFunction). e.0.items) scope.functions.entries)))

pub constant_declared : (text : List ℕ) (around : Around) (scope after : Scope) (key : Vec ℕ Global) (v : Fixed) (variables : List (List ℕ)) → after.constants.entries ≡ scope.constants.entries ++ (key, v) ∷ [] → after.functions.entries ≡ scope.functions.entries → All (λ (g : TFunction). g.constants ≤ length (constant_values scope)) (function_trees scope) → context_of text around after variables ≡ meaning.with_constant (context_of text around scope variables) key.items (Ok (val_of_fixed v))
constant_declared text around scope after key v variables p q all =
    let values : constant_values after ≡ constant_values scope ++ v ∷ [] = ap (λ (es : List (Vec ℕ Global × Fixed)). map (λ (e : Vec ℕ Global × Fixed). e.1) es) p ∙ map-append (λ (e : Vec ℕ Global × Fixed). e.1) scope.constants.entries ((key, v) ∷ []) in
    let shown : constants_in after ≡ constants_in scope ++ (key.items, val_of_fixed v) ∷ [] = ap (λ (es : List (Vec ℕ Global × Fixed)). map (λ (e : Vec ℕ Global × Fixed). (e.0.items, val_of_fixed e.1)) es) p ∙ map-append (λ (e : Vec ℕ Global × Fixed). (e.0.items, val_of_fixed e.1)) scope.constants.entries ((key, v) ∷ []) in
    let same : (tables_of around after).functions ≡ (tables_of around scope).functions =
    ap (λ (es : List (Vec ℕ Global × TFunction)). (tables around (constant_values after) (map (λ (e : Vec ℕ Global × TFunction). e.1) es)).functions) q
    ∙ ap (λ (cs : List Fixed). (tables around cs (function_trees scope)).functions) values ∙ more_constants around (constant_values scope) (v ∷ []) (function_trees scope) all in
    ap (λ (cs : List (List ℕ × Val)). record { text = text; around = around; constants = cs; functions = named (function_names after) (tables_of around after).functions; variables = variables }) shown
    ∙ ap (λ (ds : List (List ℕ × Doing)). record { text = text; around = around; constants = constants_in scope ++ (key.items, val_of_fixed v) ∷ []; functions = ds; variables = variables })
    (ap (λ (es : List (Vec ℕ Global × TFunction)). named (map (λ (e : Vec ℕ Global × TFunction). e.0.items) es) (tables_of around after).functions) q ∙ ap (λ (ds : List Doing). named (function_names scope) ds) same)
