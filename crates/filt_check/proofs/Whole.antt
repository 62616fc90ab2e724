-- Whole filters, conditions and functions.
use Rattle.std.proofs.Common.{◌≡◌, ℕ, ◌+◌, List, [], ◌∷◌, ◌++◌, length, map, take, Option, Some, None, refl, sym, ap, ◌∙◌, arith, Box}
use Rattle.std.specs.Global.{Global}
use Rattle.std.proofs.Math.Path.{fun_ext}
use Rattle.std.proofs.lemmas.List.{take_all}
use Rattle.attrs.specs.declared.attributes.Attrs.{Attrs}
use Rattle.conf_ast.specs.declared.filters.VariableType.{VariableType}
use Rattle.conf_ast.specs.Configurations.{Routine}
use Rattle.conf_ast.specs.Filters.{Statements}
use Rattle.filt_meaning.specs.declared.fixed.Fixed.{Fixed}
use Rattle.filt_meaning.specs.declared.value.Sort.{Sort}
use Rattle.filt_meaning.specs.Seen.{val_of_fixed}
use Rattle.filt_meaning.specs.Values.{Val, default_of}
use Rattle.filt_meaning.specs.Configuration as meaning
use Rattle.filt_meaning.specs.Configuration.{at_end, given_by, doing, parameter_names}
use Rattle.filt_meaning.specs.Flow.{Flow, Done, Stopped, AtEnd, Returned, Accepted, Rejected, Faulted, Stuck, Frame}
use Rattle.filt_meaning.specs.Meaning.{Act, acts, all_declared, choice, defaults, in_turn, nothing, stop, within}
use Rattle.filt_meaning.specs.Names.{Around, Context}
use Rattle.filt_meaning.specs.declared.scope.Scope.{Scope}
use Rattle.filt_meaning.specs.declared.scope.TFunction.{TFunction}
use Rattle.filt_meaning.specs.declared.tree.TExpr.{TExpr}
use Rattle.filt_meaning.specs.declared.tree.TFilter.{TFilter}
use Rattle.filt_meaning.specs.declared.tree.TStmt.{TStmt}
use Rattle.filt_meaning.specs.declared.tree.TStmt.TheVariants as ts
use Rattle.filt_meaning.specs.Scopes.{constant_values, context_of, function_trees, tables_of}
use Rattle.filt_meaning.specs.Trees.{Tables, body, expr, first_constants, function, run, stmt, tables, tree_flow}
use Rattle.filt_types.specs.Scenes.{Signature}
use Rattle.filt_types.specs.Statements.{sort_given}
use Rattle.filt_check.specs.Seen.{sorts_in, where_act}
use Rattle.filt_check.proofs.Forms as f
use Rattle.filt_check.proofs.Gathered.{defaults_are}
use Rattle.filt_resolve.proofs.Lookups.{constants_are, mapped_length}

-- all of a list
whole : {A : Type 0} (n : ℕ) (xs : List A) → n ≡ length xs → take n xs ≡ xs
whole n xs is = take_all n xs (omega (arith, is))

-- ---- filters

run_same : (t : Tables) (c : Context) (sorts : List Sort) (us : List TStmt) (ss : Statements) (args : Frame) (attrs : Attrs) → sorts ≡ sorts_in (all_declared c.text ss) → body t us ≡ acts ss (within c (all_declared c.text ss)) → run t sorts us args attrs ≡ acts ss (within c (all_declared c.text ss)) (args ++ defaults (all_declared c.text ss)) attrs
run_same t c sorts us ss args attrs p h =
    ap (λ (a : Act). a (args ++ map default_of sorts) attrs) h
    ∙ ap (λ (l : Frame). acts ss (within c (all_declared c.text ss)) (args ++ l) attrs) (ap (λ (l : List Sort). map default_of l) p ∙ defaults_are (all_declared c.text ss))

pub filter_same : (text : List ℕ) (around : Around) (scope : Scope) (ss : Statements) (x : TFilter) (attrs : Attrs) → x.constants ≡ length (constant_values scope) → x.functions ≡ length (function_trees scope) → x.sorts.items ≡ sorts_in (all_declared text ss) → body (tables_of around scope) x.body.items ≡ acts ss (within (context_of text around scope []) (all_declared text ss)) → tree_flow around (constant_values scope) (function_trees scope) x attrs ≡ meaning.body (context_of text around scope []) [] ss [] attrs
filter_same text around scope ss x attrs p q sorts h =
    ap (λ (cs : List Fixed). run (tables around cs (take x.functions (function_trees scope))) x.sorts.items x.body.items [] attrs) (whole x.constants (constant_values scope) p)
    ∙ ap (λ (fs : List TFunction). run (tables around (constant_values scope) fs) x.sorts.items x.body.items [] attrs) (whole x.functions (function_trees scope) q)
    ∙ run_same (tables_of around scope) (context_of text around scope []) x.sorts.items x.body.items ss [] attrs sorts h

-- ---- conditions

pub where_made : (t : Tables) (x : TExpr) (b : Box TStmt Global) (l : List TStmt) → b.value ≡ ts.Accept → l ≡ ts.If x b ∷ ts.Reject ∷ [] → body t l ≡ where_act (expr x t)
where_made t x b l accepts is =
    ap (λ (l : List TStmt). body t l) is
    ∙ ap (λ (a : Act). in_turn a (in_turn (stmt ts.Reject t) nothing)) (f.stmt-If x b t ∙ ap (λ (y : TStmt). choice (expr x t) (stmt y t) nothing) accepts ∙ ap (λ (a : Act). choice (expr x t) a nothing) (f.stmt-Accept t))
    ∙ ap (λ (a : Act). in_turn (choice (expr x t) (stop Accepted) nothing) (in_turn a nothing)) (f.stmt-Reject t)

pub two_pushed : {A : Type 0} (a b c : List A) (x y : A) → a ≡ [] → b ≡ a ++ x ∷ [] → c ≡ b ++ y ∷ [] → c ≡ x ∷ y ∷ []
two_pushed a b c x y p q r = r ∙ ap (λ (l : List _). l ++ y ∷ []) (q ∙ ap (λ (l : List _). l ++ x ∷ []) p)

-- ---- functions

end_same : (g : Option VariableType) (attrs : Attrs) → at_end (sort_given g) attrs ≡ at_end g attrs
end_same None attrs = refl
end_same (Some v) attrs = refl

given_same : (g : Option VariableType) (fl : Flow Frame) → given_by (sort_given g) fl ≡ given_by g fl
given_same g (Done vals attrs) = end_same g attrs
given_same g (Stopped AtEnd attrs) = end_same g attrs
given_same g (Stopped (Returned v) attrs) = refl
given_same g (Stopped Accepted attrs) = refl
given_same g (Stopped Rejected attrs) = refl
given_same g (Stopped (Faulted fault) attrs) = refl
given_same g (Stopped Stuck attrs) = refl

all_constants : (around : Around) (scope : Scope) (n : ℕ) → n ≡ length (constant_values scope) → first_constants (tables_of around scope) n ≡ tables_of around scope
all_constants around scope n is =
    let t = tables_of around scope in
    let same = constants_are around scope in
    ap (λ (k : List Val). record { around = t.around; constants = k; functions = t.functions })
    (whole n t.constants (is ∙ sym (mapped_length val_of_fixed (constant_values scope)) ∙ ap (λ (k : List Val). length k) (sym same)))

pub function_same : (text : List ℕ) (around : Around) (scope : Scope) (x : Routine) (y : TFunction) (names : List (List ℕ)) → y.gives ≡ sort_given x.gives → y.constants ≡ length (constant_values scope) → y.sorts.items ≡ sorts_in (all_declared text x.body) → names ≡ parameter_names text x.parameters → body (tables_of around scope) y.body.items ≡ acts x.body (within (context_of text around scope names) (all_declared text x.body)) → function (tables_of around scope) y ≡ doing (context_of text around scope []) x
function_same text around scope x y names gives constants sorts named h = fun_ext (λ args. fun_ext (λ attrs.
    ap (λ (t : Tables). given_by y.gives (run t y.sorts.items y.body.items args attrs)) (all_constants around scope y.constants constants)
    ∙ ap (λ (fl : Flow Frame). given_by y.gives fl) (run_same (tables_of around scope) (context_of text around scope (parameter_names text x.parameters)) y.sorts.items y.body.items x.body args attrs sorts (h ∙ ap (λ (ns : List (List ℕ)). acts x.body (within (context_of text around scope ns) (all_declared text x.body))) named))
    ∙ ap (λ (g : Option Sort). given_by g (meaning.run_of (context_of text around scope []) x args attrs)) gives
    ∙ given_same x.gives (meaning.run_of (context_of text around scope []) x args attrs)))

pub signature_same : (p q : List Sort) (g h : Option Sort) (w v : ℕ) → p ≡ q → g ≡ h → w ≡ v → ◌≡◌ {A = Signature} (record { parameters = p; gives = g; weight = w }) (record { parameters = q; gives = h; weight = v })
signature_same p q g h w v a b c =
    ap (λ (p : List Sort). record { parameters = p; gives = g; weight = w }) a ∙ ap (λ (g : Option Sort). record { parameters = q; gives = g; weight = w }) b ∙ ap (λ (w : ℕ). record { parameters = q; gives = h; weight = w }) c
