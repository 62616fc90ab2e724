-- What is refused of each form of a statement, and which variables are seen behind it.
use Rattle.std.proofs.Common.{◌≡◌, OnOk, Result, Ok, Err, Bool, true, false, not, ◌&&◌, ◌||◌, ℕ, zero, suc, arith, ◌+◌, ◌<◌, ◌≤◌, List, [], ◌∷◌, ◌++◌, length, take, drop, get_or, if◌then◌else◌, Option, Some, None, is_some, refl, ap, ◌∙◌, sym, Box, Vec}
use Rattle.std.specs.Global.{Global}
use Rattle.std.specs.List.{list_any, remove}
use Rattle.std.proofs.Math.Seq.{take-append_seam}
use Rattle.conf_ast.specs.declared.named.Name.{Name}
use Rattle.conf_ast.specs.declared.filters.Arm.{Arm}
use Rattle.conf_ast.specs.declared.filters.Change.{Change}
use Rattle.conf_ast.specs.declared.filters.Change.TheVariants as changes
use Rattle.conf_ast.specs.declared.filters.Expr.{Expr}
use Rattle.conf_ast.specs.declared.filters.Item.{Item}
use Rattle.conf_ast.specs.declared.filters.Parameter.{Parameter}
use Rattle.conf_ast.specs.declared.filters.Stmt.{Stmt}
use Rattle.conf_ast.specs.declared.filters.Stmt.TheVariants as s
use Rattle.conf_ast.specs.declared.filters.Target.{Target}
use Rattle.conf_ast.specs.declared.filters.VariableType.{VariableType}
use Rattle.conf_ast.specs.declared.filters.VariableType.TheVariants as types
use Rattle.conf_ast.specs.Filters.{Expression, expression_of, Statement, Braced, Nothing, Declare, Assign, ChangeBy, Clear, Unset, If, IfElse, Case, CaseElse, For, Accept, Reject, Return, Print, Printn, Call, Statements, NoStatements, AndStatements, statement_of, statements_of, Arms, NoArms, AndArms, changed}
use Rattle.filt_meaning.specs.declared.value.Sort.{Sort}
use Rattle.filt_meaning.specs.Sorts.{one_list}
use Rattle.filt_meaning.specs.Names.{sort_of_type}
use Rattle.filt_types.specs.declared.refusal.Cause.TheVariants as causes
use Rattle.filt_types.specs.declared.refusal.Refusal.{Refusal}
use Rattle.filt_types.specs.declared.judged.Judged.{Judged}
use Rattle.filt_types.specs.Expressions.{Judgement, judge, is_other, wants, wanted, constant_word}
use Rattle.filt_types.specs.Items.{Common, common, differ, with_sort, is_empty, sorts_of_items, sort_of_item, all_items, item}
use Rattle.filt_rules.specs.Passes.{body_seen, own, inside}
use Rattle.filt_types.specs.Refusals.{first_in, first_of, refused_if}
use Rattle.filt_meaning.specs.Rules.{one_of_cases, same_sort}
use Rattle.filt_types.specs.Scenes.{Scene, Variable, Variables, declared, declaring}
use Rattle.filt_types.specs.Statements.{Around, Checked, plainly, check, check_all, check_arms, parameters, labels, lacks_labels, assigned_dest, is_dest_word, no_sort, returned, over_list, lists_of, is_other_list, cases, of_value, sort_given}
use Rattle.filt_types.specs.Walk.{arms_of, else_of, said_of}
use Rattle.filt_types.proofs.Firsts.{first_append, first_two, first_rest}
use Rattle.filt_types.proofs.Trees as o

-- ---- lists

pub next_item : {A : Type 0} (xs : List A) (i : ℕ) (x : A) → i < length xs → x ≡ get_or xs i x → drop i xs ≡ x ∷ drop (i + 1) xs
next_item [] i x lt is = absurd (omega arith)
next_item (y ∷ ys) zero x lt is = rw is refl
next_item (y ∷ ys) (suc i) x lt is = let e : suc i + 1 ≡ suc (i + 1) = omega arith in rw e (next_item ys i x (omega arith) is)

pub next_at : {A : Type 0} (xs : List A) (i : ℕ) (x : A) → i < length xs → drop i xs ≡ get_or xs i x ∷ drop (i + 1) xs
next_at [] i x lt = absurd (omega arith)
next_at (y ∷ ys) zero x lt = refl
next_at (y ∷ ys) (suc i) x lt = let e : suc i + 1 ≡ suc (i + 1) = omega arith in rw e (next_at ys i x (omega arith))

pub nothing_left : {A : Type 0} (xs : List A) (i : ℕ) → length xs ≤ i → drop i xs ≡ []
nothing_left [] zero le = refl
nothing_left [] (suc i) le = refl
nothing_left (x ∷ xs) zero le = absurd (omega arith)
nothing_left (x ∷ xs) (suc i) le = nothing_left xs i (omega arith)

removed : {A : Type 0} (xs : List A) (x : A) (more : List A) → remove ((xs ++ x ∷ []) ++ more) (length xs) ≡ xs ++ more
removed [] x more = refl
removed {A} (y ∷ ys) x more = ap (λ (zs : List A). y ∷ zs) (removed ys x more)

append_nil : {A : Type 0} (xs : List A) → xs ≡ xs ++ []
append_nil [] = refl
append_nil {A} (x ∷ xs) = ap (λ (ys : List A). x ∷ ys) (append_nil xs)

apart : {A : Type 0} (xs ys zs : List A) → (xs ++ ys) ++ zs ≡ xs ++ (ys ++ zs)
apart [] ys zs = refl
apart {A} (x ∷ xs) ys zs = ap (λ (qs : List A). x ∷ qs) (apart xs ys zs)

-- ---- clauses of calls that may want memory

pub ok_to : {T E A : Type 0} (r : Result T E) (x a b : A) → a ≡ b → OnOk r (x ≡ a) → OnOk r (x ≡ b)
ok_to (Ok v) x a b e given = given ∙ e
ok_to (Err v) x a b e given = given

-- ---- variables are declared behind those that are seen

abbrev Grows : Variables → Variables → Type 0
Grows vs ws = (more : Variables) × (ws ≡ vs ++ more)

stays : (vs : Variables) → Grows vs vs
stays vs = ([], append_nil vs)

further : (us vs ws : Variables) → Grows us vs → Grows vs ws → Grows us ws
further us vs ws a b = (a.0 ++ b.0, b.1 ∙ ap (λ (x : Variables). x ++ b.0) a.1 ∙ apart us a.0 b.0)

without_one : (vs ws : Variables) (v : Variable) → Grows (vs ++ v ∷ []) ws → Grows vs (remove ws (length vs))
without_one vs ws v g = (g.0, ap (λ (x : Variables). remove x (length vs)) g.1 ∙ removed vs v g.0)

mutual
  grows : (a : Around) (vs : Variables) (st : Statement) → Grows vs (check a vs st).variables
  grows a vs (Braced ss) = stays vs
  grows a vs Nothing = stays vs
  grows a vs (Declare t n e) = (declared a.scene n (sort_of_type t) false ∷ [], refl)
  grows a vs (Assign target e) = stays vs
  grows a vs (ChangeBy target m place e) = stays vs
  grows a vs (Clear target) = stays vs
  grows a vs (Unset place at attribute) = stays vs
  grows a vs (If e st) = grows a vs st
  grows a vs (IfElse e st u) = further vs (check a vs st).variables (check a (check a vs st).variables u).variables (grows a vs st) (grows a (check a vs st).variables u)
  grows a vs (Case at e more) = arms_grow a vs more
  grows a vs (CaseElse at e more ss) = further vs (check_arms a vs more).variables (check_all a (check_arms a vs more).variables ss).variables (arms_grow a vs more) (all_grow a (check_arms a vs more).variables ss)
  grows a vs (For at t n e body) = let v = declared a.scene n (sort_of_type t) true in without_one vs (check a (vs ++ v ∷ []) body).variables v (grows a (vs ++ v ∷ []) body)
  grows a vs Accept = stays vs
  grows a vs Reject = stays vs
  grows a vs (Return at e) = stays vs
  grows a vs (Print es) = stays vs
  grows a vs (Printn es) = stays vs
  grows a vs (Call n place es) = stays vs

  all_grow : (a : Around) (vs : Variables) (ss : Statements) → Grows vs (check_all a vs ss).variables
  all_grow a vs NoStatements = stays vs
  all_grow a vs (AndStatements st ss) = further vs (check a vs st).variables (check_all a (check a vs st).variables ss).variables (grows a vs st) (all_grow a (check a vs st).variables ss)

  arms_grow : (a : Around) (vs : Variables) (more : Arms) → Grows vs (check_arms a vs more).variables
  arms_grow a vs NoArms = stays vs
  arms_grow a vs (AndArms items ss more) = further vs (check_all a vs ss).variables (check_arms a (check_all a vs ss).variables more).variables (all_grow a vs ss) (arms_grow a (check_all a vs ss).variables more)

-- a block's variables are those of its statements, cut off
pub cut_off : (a : Around) (vs ws now : Variables) (ss : Statements) (depth : ℕ) → ws ≡ (check_all a vs ss).variables → depth ≡ length vs → now ≡ take depth ws → now ≡ vs
cut_off a vs ws now ss depth is deep cut =
    let g = all_grow a vs ss in
    cut ∙ ap (λ (n : ℕ). take n ws) deep ∙ ap (λ (x : Variables). take (length vs) x) (is ∙ g.1) ∙ take-append_seam vs g.0

-- ---- a statement and those in it

pub whole_seen : (a : Around) (vs : Variables) (st : Statement) → (check a vs st).variables ≡ (inside a vs st).variables
whole_seen a vs (Braced ss) = refl
whole_seen a vs Nothing = refl
whole_seen a vs (Declare t n e) = refl
whole_seen a vs (Assign target e) = refl
whole_seen a vs (ChangeBy target m place e) = refl
whole_seen a vs (Clear target) = refl
whole_seen a vs (Unset place at attribute) = refl
whole_seen a vs (If e st) = refl
whole_seen a vs (IfElse e st u) = refl
whole_seen a vs (Case at e more) = refl
whole_seen a vs (CaseElse at e more ss) = refl
whole_seen a vs (For at t n e body) = refl
whole_seen a vs Accept = refl
whole_seen a vs Reject = refl
whole_seen a vs (Return at e) = refl
whole_seen a vs (Print es) = refl
whole_seen a vs (Printn es) = refl
whole_seen a vs (Call n place es) = refl

whole_first : (a : Around) (vs : Variables) (st : Statement) (f : Option Refusal) → first_in f (check a vs st).refusals ≡ first_in (first_in f (own a vs st)) (inside a vs st).refusals
whole_first a vs (Braced ss) f = refl
whole_first a vs Nothing f = refl
whole_first a vs (Declare t n e) f = refl
whole_first a vs (Assign target e) f = refl
whole_first a vs (ChangeBy target m place e) f = refl
whole_first a vs (Clear target) f = refl
whole_first a vs (Unset place at attribute) f = refl
whole_first a vs (If e st) f = first_append f (own a vs (If e st)) (inside a vs (If e st)).refusals
whole_first a vs (IfElse e st u) f = first_append f (own a vs (IfElse e st u)) (inside a vs (IfElse e st u)).refusals
whole_first a vs (Case at e more) f = first_append f (own a vs (Case at e more)) (inside a vs (Case at e more)).refusals
whole_first a vs (CaseElse at e more ss) f = first_append f (own a vs (CaseElse at e more ss)) (inside a vs (CaseElse at e more ss)).refusals
whole_first a vs (For at t n e body) f = first_append f (own a vs (For at t n e body)) (inside a vs (For at t n e body)).refusals
whole_first a vs Accept f = refl
whole_first a vs Reject f = refl
whole_first a vs (Return at e) f = refl
whole_first a vs (Print es) f = refl
whole_first a vs (Printn es) f = refl
whole_first a vs (Call n place es) f = refl

-- what is seen is given by its two parts
pub own_then_inside : (scene there : Scene) (gives : Option Sort) (vs ws : Variables) (st : Statement) (f g h : Option Refusal) → there ≡ scene → ws ≡ vs → g ≡ first_in f (own (record { scene = there; gives = gives }) ws st) → h ≡ first_in g (inside (record { scene = scene; gives = gives }) vs st).refusals → h ≡ first_in f (check (record { scene = scene; gives = gives }) vs st).refusals
own_then_inside scene there gives vs ws st f g h p q r t =
    t ∙ ap (λ (x : Option Refusal). first_in x (inside (record { scene = scene; gives = gives }) vs st).refusals) (r ∙ ap (λ (sc : Scene). first_in f (own (record { scene = sc; gives = gives }) ws st)) p ∙ ap (λ (w : Variables). first_in f (own (record { scene = scene; gives = gives }) w st)) q)
    ∙ sym (whole_first (record { scene = scene; gives = gives }) vs st f)

-- ---- the forms with statements in them

pub inside-Block : (a : Around) (vs : Variables) (v : Vec Stmt Global) → inside a vs (statement_of (s.Block v)) ≡ plainly vs (check_all a vs (statements_of v.items)).refusals
inside-Block a vs v = ap (λ (st : Statement). inside a vs st) (o.as-Block v)

pub inside-If : (a : Around) (vs : Variables) (x : Expr) (b : Box Stmt Global) → inside a vs (statement_of (s.If x b)) ≡ check a vs (statement_of b.value)
inside-If a vs x b = ap (λ (st : Statement). inside a vs st) (o.as-If x b)

pub inside-Declare : (a : Around) (vs : Variables) (t : VariableType) (n : Name) (x : Option Expr) → (inside a vs (statement_of (s.Declare t n x))).variables ≡ vs ++ declared a.scene n (sort_of_type t) false ∷ []
inside-Declare a vs t n x = ap (λ (st : Statement). (inside a vs st).variables) (o.as-Declare t n x)

pub if_else_first : (a : Around) (vs : Variables) (x : Expr) (b d : Box Stmt Global) (f : Option Refusal) → first_in f (inside a vs (statement_of (s.IfElse x b d))).refusals ≡ first_in (first_in f (check a vs (statement_of b.value)).refusals) (check a (check a vs (statement_of b.value)).variables (statement_of d.value)).refusals
if_else_first a vs x b d f =
    ap (λ (st : Statement). first_in f (inside a vs st).refusals) (o.as-IfElse x b d)
    ∙ first_append f (check a vs (statement_of b.value)).refusals (check a (check a vs (statement_of b.value)).variables (statement_of d.value)).refusals

pub inside-Case : (a : Around) (vs : Variables) (at : ℕ) (x : Expr) (v : Vec (Arm Stmt) Global) (other : Option (Vec Stmt Global)) → (inside a vs (statement_of (s.Case at x v other))).variables ≡ (check_all a (check_arms a vs (arms_of v.items)).variables (else_of other)).variables
inside-Case a vs at x v None = ap (λ (st : Statement). (inside a vs st).variables) (o.as-Case at x v)
inside-Case a vs at x v (Some w) = ap (λ (st : Statement). (inside a vs st).variables) (o.as-CaseElse at x v w)

pub case_first : (a : Around) (vs : Variables) (at : ℕ) (x : Expr) (v : Vec (Arm Stmt) Global) (other : Option (Vec Stmt Global)) (f : Option Refusal) → first_in f (inside a vs (statement_of (s.Case at x v other))).refusals ≡ first_in (first_in f (check_arms a vs (arms_of v.items)).refusals) (check_all a (check_arms a vs (arms_of v.items)).variables (else_of other)).refusals
case_first a vs at x v None f = ap (λ (st : Statement). first_in f (inside a vs st).refusals) (o.as-Case at x v)
case_first a vs at x v (Some w) f =
    ap (λ (st : Statement). first_in f (inside a vs st).refusals) (o.as-CaseElse at x v w)
    ∙ first_append f (check_arms a vs (arms_of v.items)).refusals (check_all a (check_arms a vs (arms_of v.items)).variables (statements_of w.items)).refusals

pub inside-For : (a : Around) (vs : Variables) (at : ℕ) (t : VariableType) (n : Name) (x : Expr) (b : Box Stmt Global) → inside a vs (statement_of (s.For at t n x b)) ≡ body_seen a vs t n (statement_of b.value)
inside-For a vs at t n x b = ap (λ (st : Statement). inside a vs st) (o.as-For at t n x b)

-- the variable of a loop is taken out at its place
pub out_again : (a : Around) (vs ws us now : Variables) (v : Variable) (st : Statement) (depth : ℕ) → ws ≡ vs ++ v ∷ [] → us ≡ (check a ws st).variables → depth ≡ length vs → now ≡ remove us depth → now ≡ remove (check a (vs ++ v ∷ []) st).variables (length vs)
out_again a vs ws us now v st depth with is deep out =
    out ∙ ap (λ (n : ℕ). remove us n) deep ∙ ap (λ (x : Variables). remove x (length vs)) (is ∙ ap (λ (x : Variables). (check a x st).variables) with)

-- ---- labels

sorts_append : (scene : Scene) (xs ys : List Item) → sorts_of_items scene (xs ++ ys) ≡ sorts_of_items scene xs ++ sorts_of_items scene ys
sorts_append scene [] ys = refl
sorts_append scene (x ∷ xs) ys = ap (λ (zs : List (Option Sort)). sort_of_item scene x ∷ zs) (sorts_append scene xs ys)

common_append : (c : Common) (xs ys : List (Option Sort)) → common c (xs ++ ys) ≡ common (common c xs) ys
common_append c [] ys = refl
common_append c (x ∷ xs) ys = common_append (with_sort c x) xs ys

items_append : (scene : Scene) (xs ys : List Item) → all_items scene (xs ++ ys) ≡ all_items scene xs ++ all_items scene ys
items_append scene [] ys = refl
items_append scene (x ∷ xs) ys = ap (λ (zs : List Refusal). item scene x ++ zs) (items_append scene xs ys) ∙ sym (apart (item scene x) (all_items scene xs) (all_items scene ys))

-- the labels of one arm more
pub sorts_of_arm : (scene : Scene) (arm : Arm Stmt) (more : List (Arm Stmt)) (c d : Common) → d ≡ common c (sorts_of_items scene arm.labels.items) → common c (sorts_of_items scene (labels (arms_of (arm ∷ more)))) ≡ common d (sorts_of_items scene (labels (arms_of more)))
sorts_of_arm scene arm more c d is =
    ap (λ (x : List (Option Sort)). common c x) (sorts_append scene arm.labels.items (labels (arms_of more)))
    ∙ common_append c (sorts_of_items scene arm.labels.items) (sorts_of_items scene (labels (arms_of more)))
    ∙ ap (λ (x : Common). common x (sorts_of_items scene (labels (arms_of more)))) (sym is)

pub items_of_arm : (scene : Scene) (arm : Arm Stmt) (more : List (Arm Stmt)) (f g : Option Refusal) → g ≡ first_in f (all_items scene arm.labels.items) → first_in f (all_items scene (labels (arms_of (arm ∷ more)))) ≡ first_in g (all_items scene (labels (arms_of more)))
items_of_arm scene arm more f g is =
    ap (λ (x : List Refusal). first_in f x) (items_append scene arm.labels.items (labels (arms_of more)))
    ∙ first_rest (all_items scene arm.labels.items) (all_items scene (labels (arms_of more))) f g is

-- ---- single places

-- a place that takes some sorts alone
pub wanted_first : (takes : Sort → Bool) (j : Judgement) (judged : Judged) (other : Bool) (f g h : Option Refusal) → judged ≡ said_of j → other ≡ is_other takes judged.sort → g ≡ first_in f j.refusals → h ≡ first_in g (refused_if other judged.at causes.Mismatch) → h ≡ first_in f (wanted takes j)
wanted_first takes j judged other f g h is test p q =
    first_two j.refusals (wants takes j) f g h p (q ∙ ap (λ (b : Bool). first_in g (refused_if b judged.at causes.Mismatch)) test ∙ ap (λ (x : Judged). first_in g (refused_if (is_other takes x.sort) x.at causes.Mismatch)) is)

dest_cases : (word : Bool) (at : ℕ) (sort : Option Sort) (rs : List Refusal) (f g : Option Refusal) → g ≡ first_in f rs → first_in g (refused_if (is_some sort && not word) at causes.Mismatch) ≡ first_in f (if word then rs else wanted no_sort (record { at = at; sort = sort; refusals = rs }))
dest_cases true at None rs f g p = p
dest_cases true at (Some sort) rs f g p = p
dest_cases false at None rs f g p = first_two rs [] f g g p refl
dest_cases false at (Some sort) rs f g p = first_two rs (record { at = at; cause = causes.Mismatch } ∷ []) f g (first_of g (record { at = at; cause = causes.Mismatch })) p refl

-- where nothing but words is taken
pub dest_first : (e : Expression) (j : Judgement) (judged : Judged) (sorted word : Bool) (f g h : Option Refusal) → judged ≡ said_of j → sorted ≡ is_some judged.sort → word ≡ is_dest_word (constant_word e) → g ≡ first_in f j.refusals → h ≡ first_in g (refused_if (sorted && not word) judged.at causes.Mismatch) → h ≡ first_in f (assigned_dest e j)
dest_first e j judged sorted word f g h is some words p q =
    q ∙ ap (λ (b : Bool). first_in g (refused_if (b && not word) judged.at causes.Mismatch)) some
    ∙ ap (λ (b : Bool). first_in g (refused_if (is_some judged.sort && not b) judged.at causes.Mismatch)) words
    ∙ ap (λ (x : Judged). first_in g (refused_if (is_some x.sort && not (is_dest_word (constant_word e))) x.at causes.Mismatch)) is
    ∙ dest_cases (is_dest_word (constant_word e)) j.at j.sort j.refusals f g p

pub returned_first : (at : ℕ) (gives : Option Sort) (sort : Sort) (j : Judgement) (judged : Judged) (other : Bool) (f g h : Option Refusal) → gives ≡ Some sort → judged ≡ said_of j → other ≡ is_other (same_sort sort) judged.sort → g ≡ first_in f j.refusals → h ≡ first_in g (refused_if other at causes.Mismatch) → h ≡ first_in f (returned at gives j)
returned_first at gives sort j judged other f g h given is test p q =
    first_two j.refusals (refused_if (is_other (same_sort sort) j.sort) at causes.Mismatch) f g h p (q ∙ ap (λ (b : Bool). first_in g (refused_if b at causes.Mismatch)) test ∙ ap (λ (x : Judged). first_in g (refused_if (is_other (same_sort sort) x.sort) at causes.Mismatch)) is)
    ∙ sym (ap (λ (x : Option Sort). first_in f (returned at x j)) given)

-- the list of a loop, and the name of its variable
pub head_first : (at : ℕ) (t : VariableType) (j : Judgement) (judged : Judged) (other wrong : Bool) (list : Option Sort) (ds : List Refusal) (f g h i k : Option Refusal) → judged ≡ said_of j → other ≡ is_other one_list judged.sort → list ≡ lists_of t → wrong ≡ is_other_list list judged.sort → g ≡ first_in f j.refusals → h ≡ first_in g (refused_if other judged.at causes.Mismatch) → i ≡ first_in h (refused_if wrong at causes.Mismatch) → k ≡ first_in i ds → k ≡ first_in f (over_list at t j ++ ds)
head_first at t j judged other wrong list ds f g h i k is test lists is_wrong p q r u =
    first_two (over_list at t j) ds f i k
    (first_two (wanted one_list j) (refused_if (is_other_list (lists_of t) j.sort) at causes.Mismatch) f h i
    (wanted_first one_list j judged other f g h is test p q)
    (r ∙ ap (λ (b : Bool). first_in h (refused_if b at causes.Mismatch)) is_wrong ∙ ap (λ (l : Option Sort). first_in h (refused_if (is_other_list l judged.sort) at causes.Mismatch)) lists ∙ ap (λ (x : Judged). first_in h (refused_if (is_other_list (lists_of t) x.sort) at causes.Mismatch)) is))
    u

pub any_lacks : (xs : List (Arm Stmt)) → list_any (λ (a : Arm Stmt). is_empty a.labels.items) xs ≡ lacks_labels (arms_of xs)
any_lacks [] = refl
any_lacks (x ∷ xs) = ap (λ (b : Bool). is_empty x.labels.items || b) (any_lacks xs)

-- ---- loops

-- one statement more
pub statement_more : (a : Around) (all : Checked) (vs ws : Variables) (st : Statement) (ss : Statements) (start f g : Option Refusal) → first_in start all.refusals ≡ first_in f (check_all a vs (AndStatements st ss)).refusals → ws ≡ (check a vs st).variables → g ≡ first_in f (check a vs st).refusals → first_in start all.refusals ≡ first_in g (check_all a ws ss).refusals
statement_more a all vs ws st ss start f g before is first =
    before ∙ first_rest (check a vs st).refusals (check_all a (check a vs st).variables ss).refusals f g first
    ∙ ap (λ (x : Variables). first_in g (check_all a x ss).refusals) (sym is)

pub arm_more : (a : Around) (all : Checked) (vs ws : Variables) (arm : Arm Stmt) (more : List (Arm Stmt)) (start f g : Option Refusal) → first_in start all.refusals ≡ first_in f (check_arms a vs (arms_of (arm ∷ more))).refusals → ws ≡ (check_all a vs (statements_of arm.body.items)).variables → g ≡ first_in f (check_all a vs (statements_of arm.body.items)).refusals → first_in start all.refusals ≡ first_in g (check_arms a ws (arms_of more)).refusals
arm_more a all vs ws arm more start f g before is first =
    before ∙ first_rest (check_all a vs (statements_of arm.body.items)).refusals (check_arms a (check_all a vs (statements_of arm.body.items)).variables (arms_of more)).refusals f g first
    ∙ ap (λ (x : Variables). first_in g (check_arms a x (arms_of more)).refusals) (sym is)

pub parameter_more : (scene there : Scene) (all : Checked) (vs us ws : Variables) (p : Parameter) (sort : Sort) (ps : List Parameter) (start f g : Option Refusal) → first_in start all.refusals ≡ first_in f (parameters scene vs (p ∷ ps)).refusals → there ≡ scene → us ≡ vs → sort ≡ sort_of_type p.variable_type → ws ≡ vs ++ declared scene p.name sort false ∷ [] → g ≡ first_in f (declaring there us p.name) → first_in start all.refusals ≡ first_in g (parameters scene ws ps).refusals
parameter_more scene there all vs us ws p sort ps start f g before same seen sorted is first =
    before ∙ first_rest (declaring scene vs p.name) (parameters scene (vs ++ declared scene p.name (sort_of_type p.variable_type) false ∷ []) ps).refusals f g (first ∙ ap (λ (x : Scene). first_in f (declaring x us p.name)) same ∙ ap (λ (x : Variables). first_in f (declaring scene x p.name)) seen)
    ∙ ap (λ (x : Variables). first_in g (parameters scene x ps).refusals) (ap (λ (k : Sort). vs ++ declared scene p.name k false ∷ []) (sym sorted) ∙ sym is)

-- ---- forms without statements in them

pub change_first : (a : Around) (vs : Variables) (target : Target) (x : Change) → (check a vs (changed target x)).refusals ≡ own a vs (statement_of (s.Change target x))
change_first a vs target changes.Empty = sym (ap (λ (st : Statement). own a vs st) (o.as-Change target changes.Empty))
change_first a vs target (changes.Method m place e) = sym (ap (λ (st : Statement). own a vs st) (o.as-Change target (changes.Method m place e)))

pub own-Case : (a : Around) (vs : Variables) (at : ℕ) (x : Expr) (v : Vec (Arm Stmt) Global) (other : Option (Vec Stmt Global)) → own a vs (statement_of (s.Case at x v other)) ≡ cases a.scene at (judge a.scene vs (expression_of x)) (arms_of v.items)
own-Case a vs at x v None = ap (λ (st : Statement). own a vs st) (o.as-Case at x v)
own-Case a vs at x v (Some w) = ap (λ (st : Statement). own a vs st) (o.as-CaseElse at x v w)

pub cases_first : (scene : Scene) (at : ℕ) (j : Judgement) (judged : Judged) (more : Arms) (other lacks wrong : Bool) (start found : Common) (f g h i k : Option Refusal) → judged ≡ said_of j → other ≡ is_other one_of_cases judged.sort → start ≡ of_value judged.sort → found ≡ common start (sorts_of_items scene (labels more)) → lacks ≡ lacks_labels more → wrong ≡ differ found → g ≡ first_in f j.refusals → h ≡ first_in g (refused_if other judged.at causes.Mismatch) → i ≡ first_in h (all_items scene (labels more)) → k ≡ first_in i (refused_if (lacks || wrong) at causes.Mismatch) → k ≡ first_in f (cases scene at j more)
cases_first scene at j judged more other lacks wrong start found f g h i k is test starts finds is_lacking is_wrong p q r u =
    let sort : judged.sort ≡ j.sort = ap (λ (x : Judged). x.sort) is in
    let finds' : found ≡ common (of_value j.sort) (sorts_of_items scene (labels more)) = finds ∙ ap (λ (x : Common). common x (sorts_of_items scene (labels more))) (starts ∙ ap (λ (x : Option Sort). of_value x) sort) in
    first_two (wanted one_of_cases j ++ all_items scene (labels more)) (refused_if (lacks_labels more || differ (common (of_value j.sort) (sorts_of_items scene (labels more)))) at causes.Mismatch) f i k
    (first_two (wanted one_of_cases j) (all_items scene (labels more)) f h i (wanted_first one_of_cases j judged other f g h is test p q) r)
    (u ∙ ap (λ (b : Bool). first_in i (refused_if (b || wrong) at causes.Mismatch)) is_lacking ∙ ap (λ (b : Bool). first_in i (refused_if (lacks_labels more || b) at causes.Mismatch)) (is_wrong ∙ ap (λ (x : Common). differ x) finds'))

-- ---- functions

-- what a loop reads past the last parameter
abbrev pub no_parameter : Parameter
no_parameter = record { separator = None; variable_type = types.Int; name = record { at = 0; start = 0; len = 0 } }

pub function_first : (scene : Scene) (heavy : List Refusal) (vs ws : Variables) (given found : List Parameter) (gives : Option VariableType) (sort : Option Sort) (body there : List Stmt) (f g h : Option Refusal) → f ≡ first_in None heavy → vs ≡ [] → found ≡ given → there ≡ body → sort ≡ sort_given gives → ws ≡ (parameters scene vs found).variables → g ≡ first_in f (parameters scene vs found).refusals → h ≡ first_in g (check_all (record { scene = scene; gives = sort }) ws (statements_of there)).refusals → h ≡ first_in None (heavy ++ ((parameters scene [] given).refusals ++ (check_all (record { scene = scene; gives = sort_given gives }) (parameters scene [] given).variables (statements_of body)).refusals))
function_first scene heavy vs ws given found gives sort body there f g h p none is_given is_body sorted seen q r =
    let seen' : ws ≡ (parameters scene [] given).variables = seen ∙ ap (λ (x : Variables). (parameters scene x found).variables) none ∙ ap (λ (x : List Parameter). (parameters scene [] x).variables) is_given in
    let q' : g ≡ first_in f (parameters scene [] given).refusals = q ∙ ap (λ (x : Variables). first_in f (parameters scene x found).refusals) none ∙ ap (λ (x : List Parameter). first_in f (parameters scene [] x).refusals) is_given in
    let rest = (check_all (record { scene = scene; gives = sort_given gives }) (parameters scene [] given).variables (statements_of body)).refusals in
    let r' : h ≡ first_in g rest = r ∙ ap (λ (x : Option Sort). first_in g (check_all (record { scene = scene; gives = x }) ws (statements_of there)).refusals) sorted ∙ ap (λ (x : Variables). first_in g (check_all (record { scene = scene; gives = sort_given gives }) x (statements_of there)).refusals) seen' ∙ ap (λ (x : List Stmt). first_in g (check_all (record { scene = scene; gives = sort_given gives }) (parameters scene [] given).variables (statements_of x)).refusals) is_body in
    first_two heavy ((parameters scene [] given).refusals ++ rest) None f h p (first_two (parameters scene [] given).refusals rest f g h q' r')
