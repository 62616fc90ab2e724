-- The variables that statements declare, one statement after another.
use Rattle.std.proofs.Common.{◌≡◌, ℕ, ◌+◌, ◌≤◌, List, [], ◌∷◌, ◌++◌, length, map, drop, Option, Some, None, refl, sym, ap, ◌∙◌, append_assoc, append-nil, Box, Vec}
use Rattle.std.specs.Global.{Global}
use Rattle.std.proofs.lemmas.List.{drop_all, map-append}
use Rattle.conf_ast.specs.declared.named.Name.{Name}
use Rattle.conf_ast.specs.declared.filters.Arm.{Arm}
use Rattle.conf_ast.specs.declared.filters.Expr.{Expr}
use Rattle.conf_ast.specs.declared.filters.Stmt.{Stmt}
use Rattle.conf_ast.specs.declared.filters.Stmt.TheVariants as s
use Rattle.conf_ast.specs.declared.filters.VariableType.{VariableType}
use Rattle.conf_ast.specs.Filters.{Statement, statement_of, statements_of}
use Rattle.filt_meaning.specs.declared.value.Sort.{Sort}
use Rattle.filt_meaning.specs.Values.{Val, default_of}
use Rattle.filt_meaning.specs.Meaning as meaning
use Rattle.filt_meaning.specs.Meaning.{declared, all_declared, arms_declare as all_arms_declare, defaults, within}
use Rattle.conf_ast.specs.Names.{name_bytes}
use Rattle.filt_meaning.specs.Names.{Around, Variable, sort_of_type}
use Rattle.filt_meaning.specs.declared.scope.Scope.{Scope}
use Rattle.filt_meaning.specs.Scopes.{context_of}
use Rattle.filt_types.specs.Walk.{arms_of}
use Rattle.filt_types.proofs.Trees as o
use Rattle.filt_check.specs.declared.collect.Declared.{Declared}
use Rattle.filt_check.specs.Seen.{name_of, sort_of, variable_of, variables_of, sorts_in, arms_declare, otherwise_declares}

-- ---- lists of statements

pub turn : (text : List ℕ) (before after start : List Variable) (ss : List Stmt) (i : ℕ) (x : Stmt) → drop i ss ≡ x ∷ drop (i + 1) ss → after ≡ before ++ declared text (statement_of x) → before ++ all_declared text (statements_of (drop i ss)) ≡ start → after ++ all_declared text (statements_of (drop (i + 1) ss)) ≡ start
turn text before after start ss i x next found h =
    ap (λ (vs : List Variable). vs ++ all_declared text (statements_of (drop (i + 1) ss))) found
    ∙ append_assoc before (declared text (statement_of x)) (all_declared text (statements_of (drop (i + 1) ss)))
    ∙ ap (λ (l : List Stmt). before ++ all_declared text (statements_of l)) (sym next) ∙ h

pub end : (text : List ℕ) (before start : List Variable) (ss : List Stmt) (i : ℕ) → length ss ≤ i → before ++ all_declared text (statements_of (drop i ss)) ≡ start → before ≡ start
end text before start ss i over h = sym (append-nil before) ∙ ap (λ (l : List Stmt). before ++ all_declared text (statements_of l)) (sym (drop_all i ss over)) ∙ h

pub arm_turn : (text : List ℕ) (before after start : List Variable) (xs : List (Arm Stmt)) (i : ℕ) (x : Arm Stmt) → drop i xs ≡ x ∷ drop (i + 1) xs → after ≡ before ++ all_declared text (statements_of x.body.items) → before ++ arms_declare text (drop i xs) ≡ start → after ++ arms_declare text (drop (i + 1) xs) ≡ start
arm_turn text before after start xs i x next found h =
    ap (λ (vs : List Variable). vs ++ arms_declare text (drop (i + 1) xs)) found
    ∙ append_assoc before (all_declared text (statements_of x.body.items)) (arms_declare text (drop (i + 1) xs))
    ∙ ap (λ (l : List (Arm Stmt)). before ++ arms_declare text l) (sym next) ∙ h

pub arm_end : (text : List ℕ) (before start : List Variable) (xs : List (Arm Stmt)) (i : ℕ) → length xs ≤ i → before ++ arms_declare text (drop i xs) ≡ start → before ≡ start
arm_end text before start xs i over h = sym (append-nil before) ∙ ap (λ (l : List (Arm Stmt)). before ++ arms_declare text l) (sym (drop_all i xs over)) ∙ h

-- ---- statements

pub none_here : (text : List ℕ) (vs : List Variable) (x : Stmt) (y : Statement) → statement_of x ≡ y → declared text y ≡ [] → vs ≡ vs ++ declared text (statement_of x)
none_here text vs x y is none = sym (append-nil vs) ∙ ap (λ (d : List Variable). vs ++ d) (sym (ap (λ (y : Statement). declared text y) is ∙ none))

pub if_declares : (text : List ℕ) (x y : Stmt) (e : Expr) (b : Box Stmt Global) → x ≡ s.If e b → y ≡ b.value → declared text (statement_of y) ≡ declared text (statement_of x)
if_declares text x y e b is inner = ap (λ (z : Stmt). declared text (statement_of z)) inner ∙ sym (ap (λ (z : Stmt). declared text (statement_of z)) is ∙ ap (λ (z : Statement). declared text z) (o.as-If e b))

pub if_else_declares : (text : List ℕ) (x y z : Stmt) (e : Expr) (b c : Box Stmt Global) → x ≡ s.IfElse e b c → y ≡ b.value → z ≡ c.value → declared text (statement_of y) ++ declared text (statement_of z) ≡ declared text (statement_of x)
if_else_declares text x y z e b c is first second =
    ap (λ (y : Stmt). declared text (statement_of y) ++ declared text (statement_of z)) first ∙ ap (λ (z : Stmt). declared text (statement_of b.value) ++ declared text (statement_of z)) second
    ∙ sym (ap (λ (z : Stmt). declared text (statement_of z)) is ∙ ap (λ (z : Statement). declared text z) (o.as-IfElse e b c))

pub for_declares : (text : List ℕ) (x y : Stmt) (at : ℕ) (t : VariableType) (n : Name) (e : Expr) (b : Box Stmt Global) → x ≡ s.For at t n e b → y ≡ b.value → declared text (statement_of y) ≡ declared text (statement_of x)
for_declares text x y at t n e b is inner = ap (λ (z : Stmt). declared text (statement_of z)) inner ∙ sym (ap (λ (z : Stmt). declared text (statement_of z)) is ∙ ap (λ (z : Statement). declared text z) (o.as-For at t n e b))

arms_by : (text : List ℕ) (xs : List (Arm Stmt)) → arms_declare text xs ≡ all_arms_declare text (arms_of xs)
arms_by text [] = refl
arms_by text (x ∷ xs) = ap (λ (vs : List Variable). all_declared text (statements_of x.body.items) ++ vs) (arms_by text xs)

case_by : (text : List ℕ) (at : ℕ) (e : Expr) (v : Vec (Arm Stmt) Global) (other : Option (Vec Stmt Global)) → arms_declare text v.items ++ otherwise_declares text other ≡ declared text (statement_of (s.Case at e v other))
case_by text at e v None = append-nil (arms_declare text v.items) ∙ arms_by text v.items ∙ sym (ap (λ (z : Statement). declared text z) (o.as-Case at e v))
case_by text at e v (Some w) = ap (λ (vs : List Variable). vs ++ all_declared text (statements_of w.items)) (arms_by text v.items) ∙ sym (ap (λ (z : Statement). declared text z) (o.as-CaseElse at e v w))

pub case_declares : (text : List ℕ) (x : Stmt) (at : ℕ) (e : Expr) (v : Vec (Arm Stmt) Global) (l : List (Arm Stmt)) (other : Option (Vec Stmt Global)) → x ≡ s.Case at e v other → l ≡ v.items → arms_declare text l ++ otherwise_declares text other ≡ declared text (statement_of x)
case_declares text x at e v l other is all = ap (λ (l : List (Arm Stmt)). arms_declare text l ++ otherwise_declares text other) all ∙ case_by text at e v other ∙ sym (ap (λ (z : Stmt). declared text (statement_of z)) is)

pub pushed : (text : List ℕ) (before after : List Declared) (d : Declared) (t : VariableType) (n : Name) → after ≡ before ++ d ∷ [] → d.name.now ≡ name_bytes text n → d.sort ≡ sort_of_type t → variables_of after ≡ variables_of before ++ (name_bytes text n, sort_of_type t) ∷ []
pushed text before after d t n p named sorted =
    ap variables_of p ∙ map-append variable_of before (d ∷ [])
    ∙ ap (λ (v : Variable). variables_of before ++ v ∷ []) (ap (λ (k : List ℕ). (k, d.sort)) named ∙ ap (λ (o : Sort). (name_bytes text n, o)) sorted)

pub declare_declares : (text : List ℕ) (x : Stmt) (t : VariableType) (n : Name) (e : Option Expr) → x ≡ s.Declare t n e → (name_bytes text n, sort_of_type t) ∷ [] ≡ declared text (statement_of x)
declare_declares text x t n e is = sym (ap (λ (z : Stmt). declared text (statement_of z)) is ∙ ap (λ (z : Statement). declared text z) (o.as-Declare t n e))

-- one more, and then more
pub one_more : (a b d e : List Variable) → b ≡ a ++ d → d ≡ e → b ≡ a ++ e
one_more a b d e p q = p ∙ ap (λ (x : List Variable). a ++ x) q

-- two appended one after another
pub two_more : (a b d c e w : List Variable) → b ≡ a ++ d → c ≡ b ++ e → d ++ e ≡ w → c ≡ a ++ w
two_more a b d c e w p q same = q ∙ ap (λ (x : List Variable). x ++ e) p ∙ append_assoc a d e ∙ ap (λ (x : List Variable). a ++ x) same

-- ---- a block's own variables

sorts_by : (ds : List Declared) → map sort_of ds ≡ sorts_in (variables_of ds)
sorts_by [] = refl
sorts_by (d ∷ ds) = ap (λ (l : List Sort). sort_of d ∷ l) (sorts_by ds)

names_by : (ds : List Declared) → map name_of ds ≡ meaning.names_of (variables_of ds)
names_by [] = refl
names_by (d ∷ ds) = ap (λ (l : List (List ℕ)). name_of d ∷ l) (names_by ds)

pub sorts_made : (ds : List Declared) (own : List Variable) (l : List Sort) → variables_of ds ≡ own → l ≡ map sort_of ds → l ≡ sorts_in own
sorts_made ds own l is h = h ∙ sorts_by ds ∙ ap sorts_in is

pub within_made : (text : List ℕ) (around : Around) (scope : Scope) (names inner : List (List ℕ)) (ds : List Declared) (own : List Variable) → variables_of ds ≡ own → inner ≡ names ++ map name_of ds → context_of text around scope inner ≡ within (context_of text around scope names) own
within_made text around scope names inner ds own is h = ap (λ (ns : List (List ℕ)). context_of text around scope ns) (h ∙ ap (λ (l : List (List ℕ)). names ++ l) (names_by ds ∙ ap meaning.names_of is))

pub defaults_are : (own : List Variable) → map default_of (sorts_in own) ≡ defaults own
defaults_are [] = refl
defaults_are (v ∷ vs) = ap (λ (l : List Val). default_of v.1 ∷ l) (defaults_are vs)
