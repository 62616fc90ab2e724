-- Names that have become places.
use Rattle.std.proofs.Common.{◌≡◌, ℕ, List, Option, Some, None, slice_get, refl, sym, ap, ◌∙◌}
use Rattle.std.proofs.Math.Path.{fun_ext}
use Rattle.conf_ast.specs.declared.named.Name.{Name}
use Rattle.conf_ast.specs.Names.{name_bytes}
use Rattle.filt_meaning.specs.Values.{Val}
use Rattle.filt_meaning.specs.Meaning.{given, variable_or, named}
use Rattle.filt_meaning.specs.Names.{Context, place_in, constant_of, there}
use Rattle.filt_meaning.specs.declared.tree.TExpr.TheVariants as te
use Rattle.filt_meaning.specs.Trees.{Tables, expr}
use Rattle.filt_resolve.specs.Seen.{at_place}
use Rattle.filt_resolve.proofs.Forms as f

unchosen : (slot : ℕ) (k : Option Val) → variable_or (Some slot) None ≡ variable_or (Some slot) k
unchosen slot k = fun_ext (λ vals. fun_ext (λ attrs. refl))

without_variable : (k : Option Val) → given (there k) ≡ variable_or None k
without_variable k = fun_ext (λ vals. fun_ext (λ attrs. refl))

pub local_same : (t : Tables) (c : Context) (name : Name) (slot : ℕ) (variables : List (List ℕ)) (key : List ℕ) → key ≡ name_bytes c.text name → variables ≡ c.variables → Some slot ≡ place_in variables key → expr (te.Local slot) t ≡ named name c
local_same t c name slot variables key is same at =
    f.expr-Local slot t ∙ unchosen slot (constant_of c name)
    ∙ ap (λ (o : Option ℕ). variable_or o (constant_of c name)) (at ∙ ap (λ (n : List ℕ). place_in variables n) is ∙ ap (λ (l : List (List ℕ)). place_in l (name_bytes c.text name)) same)

pub constant_same : (t : Tables) (c : Context) (name : Name) (n : ℕ) (variables : List (List ℕ)) (key : List ℕ) → key ≡ name_bytes c.text name → variables ≡ c.variables → None ≡ place_in variables key → constant_of c name ≡ at_place t.constants (Some n) → expr (te.Constant n) t ≡ named name c
constant_same t c name n variables key is same at found =
    f.expr-Constant n t ∙ without_variable (slice_get t.constants n) ∙ ap (λ (k : Option Val). variable_or None k) (sym found)
    ∙ ap (λ (o : Option ℕ). variable_or o (constant_of c name)) (at ∙ ap (λ (n : List ℕ). place_in variables n) is ∙ ap (λ (l : List (List ℕ)). place_in l (name_bytes c.text name)) same)

pub unknown_same : (t : Tables) (c : Context) (name : Name) (variables : List (List ℕ)) (key : List ℕ) → key ≡ name_bytes c.text name → variables ≡ c.variables → None ≡ place_in variables key → constant_of c name ≡ None → expr te.Stuck t ≡ named name c
unknown_same t c name variables key is same at found =
    f.expr-Stuck t ∙ without_variable None ∙ ap (λ (k : Option Val). variable_or None k) (sym found)
    ∙ ap (λ (o : Option ℕ). variable_or o (constant_of c name)) (at ∙ ap (λ (n : List ℕ). place_in variables n) is ∙ ap (λ (l : List (List ℕ)). place_in l (name_bytes c.text name)) same)
