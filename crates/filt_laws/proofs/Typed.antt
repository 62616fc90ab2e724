-- An expression in which nothing is refused has a sort, and its value is of it.
use Rattle.std.proofs.Common.{◌≡◌, ℕ, ◌==◌, Bool, true, false, not, ◌&&◌, if◌then◌else◌, List, [], ◌∷◌, ◌++◌, length, map, Option, Some, None, Result, refl, sym, ◌∙◌, subst, arith, eqb-true}
use Rattle.std.specs.Bool.{⊤}
use Rattle.attrs.specs.declared.attributes.Attrs.{Attrs}
use Rattle.conf_ast.specs.declared.named.Name.{Name}
use Rattle.conf_ast.specs.Names.{name_bytes}
use Rattle.conf_ast.specs.declared.attribute.Attribute.{Attribute}
use Rattle.conf_ast.specs.declared.attribute.Attribute.TheVariants as attributes
use Rattle.conf_ast.specs.declared.attribute.Constant.{Constant}
use Rattle.conf_ast.specs.declared.attribute.Constant.TheVariants as constants
use Rattle.conf_ast.specs.declared.filters.Item.{Item}
use Rattle.conf_ast.specs.declared.filters.LogicalOp.{LogicalOp}
use Rattle.conf_ast.specs.declared.filters.LogicalOp.TheVariants as logical_ops
use Rattle.conf_ast.specs.declared.filters.MaskItem.{MaskItem}
use Rattle.conf_ast.specs.declared.filters.Atom.{Atom}
use Rattle.conf_ast.specs.declared.filters.Atom.TheVariants as atoms
use Rattle.conf_ast.specs.Filters.{Expression, Plain, Named, Called, Grouped, Paired, SetOf, MaskOf, IsDefined, MethodOf, PropertyOf, Changed, Negated, Multiplied, Added, Compared, Joined, Expressions, NoExpressions, AndExpressions}
use Rattle.filt_meaning.specs.declared.value.Failure.{Failure}
use Rattle.filt_meaning.specs.declared.value.Sort.{Sort}
use Rattle.filt_meaning.specs.declared.value.Sort.TheVariants as sorts
use Rattle.filt_meaning.specs.Operators.{bool_in, truth_of, not_of, pair_of}
use Rattle.filt_meaning.specs.Sorts.{TakesOne, TakesTwo, one_bool, a_bool}
use Rattle.filt_meaning.specs.Values.{Val, VInt, VBool, VIp, VOrigin, sort_of}
use Rattle.filt_meaning.specs.Attributes.{attribute_of, defined_as, value_of_constant}
use Rattle.filt_meaning.specs.Flow.{Flow, Done, Stopped, Frame, Run, plainly}
use Rattle.filt_meaning.specs.Items.{set_of, mask_of}
use Rattle.filt_meaning.specs.Meaning.{given, on_value, on_two, variable_or, right_side, joined, one_more, call, called_value, term_of, factor_of, compare_of, property_of, method_of, value, values, names_of}
use Rattle.filt_meaning.specs.Meaning as run
use Rattle.filt_meaning.specs.Names.{Around, Doing, same_name, place_in, named_in, there}
use Rattle.filt_types.specs.declared.refusal.Cause.TheVariants as causes
use Rattle.filt_types.specs.declared.refusal.Refusal.{Refusal}
use Rattle.filt_types.specs.Expressions.{Judgement, judge, judge_all, is_other, is_taken, are_taken, wants, wanted, gives_where, disagree, of_two, known_as, sort_of_named, all_refusals, arguments_wanted, arguments_fit, and_known, over_16_bits, written}
use Rattle.filt_types.specs.Expressions as seen
use Rattle.filt_types.specs.Items.{NoneYet, common, differ, all_items, all_atoms, sorts_of_items, is_none, is_known, sort_where}
use Rattle.filt_types.specs.Refusals.{refused_if}
use Rattle.filt_meaning.specs.Rules.{RuleOfTwo, left_of, right_of, arithmetic, pairing, joining, comparing, method, property, two_bools, same_sort, sort_of_attribute, sort_of_constant}
use Rattle.filt_types.specs.Scenes.{Scene, Signature, Variable, Variables, variable_in}
use Rattle.filt_laws.specs.Sound.{EndsFilter, IsResult, IsAnswer, IsOfSignature, AreOfSignatures}
use Rattle.filt_laws.proofs.Flows.{Meets, goes_on, IsGood, OfSort, Anything, plainly_meets, ends}
use Rattle.filt_laws.proofs.Names.{Sees, named_declared}
use Rattle.filt_laws.specs.Operators.{AreTyped}
use Rattle.filt_laws.proofs.Operators.{term_takes, factor_takes, compare_takes, property_takes, list_takes, one_given, two_given}
use Rattle.filt_laws.proofs.Refused.{left_nil, right_nil, not_refused, not_false, taken_both, some_is, same_is}
use Rattle.filt_laws.proofs.Sets.{ctx, set_known, set_is_good, set_sort_of, mask_names, mask_good}
use Rattle.filt_laws.proofs.Slots.{Slot, Fits, Place, place_found, no_place}

-- there is a sort, and over frames of this kind the value is of it
abbrev pub SoundAt : (Frame → Type 0) → Option Sort → Run Val → Type 0
SoundAt F None r = ⊥
SoundAt F (Some k) r =
    (vals : Frame) (attrs : Attrs) → F vals → Meets EndsFilter (OfSort k) (r vals attrs)

-- ---- operators

one_sound : (F : Frame → Type 0) (takes : Sort → Bool) (gives : Sort → Sort)
    (op : Val → Result Val Failure) → TakesOne takes gives op → (o : Option Sort) (r : Run Val)
    → is_other takes o ≡ false → SoundAt F o r
    → SoundAt F (gives_where (is_taken takes o) gives o) (on_value r op)
one_sound F takes gives op t None r e s = absurd s
one_sound F takes gives op t (Some k) r e s =
    let y : takes k ≡ true = not_false (takes k) e in
    subst (λ (b : Bool). SoundAt F (gives_where b gives (Some k)) (on_value r op)) (sym y)
    (λ vals attrs f. goes_on EndsFilter EndsFilter (OfSort k) (OfSort (gives k)) ends
    (r vals attrs) _ (s vals attrs f)
    (λ v attrs is. plainly_meets (OfSort (gives k)) (op v) attrs
    (one_given takes gives op t k v is y)))

pub of_one_sound : (F : Frame → Type 0) (takes : Sort → Bool) (gives : Sort → Sort)
    (op : Val → Result Val Failure) → TakesOne takes gives op → (j : Judgement) (r : Run Val)
    → wanted takes j ≡ [] → (j.refusals ≡ [] → SoundAt F j.sort r)
    → SoundAt F (gives_where (is_taken takes j.sort) gives j.sort) (on_value r op)
of_one_sound F takes gives op t j r e s =
    one_sound F takes gives op t j.sort r
    (not_refused (is_other takes j.sort) j.at causes.Mismatch
    (right_nil j.refusals (wants takes j) e))
    (s (left_nil j.refusals (wants takes j) e))

-- the two sorts of operands of which nothing is refused, and what they give
two_taken : (F : Frame → Type 0) (takes : Sort → Sort → Bool) (o p : Option Sort)
    (r q : Run Val) → is_other (left_of takes) o ≡ false → is_other (right_of takes) p ≡ false
    → disagree takes o p ≡ false → SoundAt F o r → SoundAt F p q
    → (gives : Sort → Sort) (whole : Run Val)
    → ((k l : Sort) → takes k l ≡ true → SoundAt F (Some k) r → SoundAt F (Some l) q
    → SoundAt F (Some (gives k)) whole)
    → SoundAt F (gives_where (are_taken takes o p) gives o) whole
two_taken F takes None p r q e f d s t gives whole h = absurd s
two_taken F takes (Some k) None r q e f d s t gives whole h = absurd t
two_taken F takes (Some k) (Some l) r q e f d s t gives whole h =
    let y : takes k l ≡ true =
    taken_both (left_of takes k) (right_of takes l) (takes k l) e f d in
    subst (λ (b : Bool). SoundAt F (gives_where b gives (Some k)) whole) (sym y) (h k l y s t)

both_wanted : (F : Frame → Type 0) (takes : Sort → Sort → Bool) (at : ℕ) (a b : Judgement)
    (r q : Run Val)
    → wanted (left_of takes) a ++ wanted (right_of takes) b
    ++ refused_if (disagree takes a.sort b.sort) at causes.Mismatch ≡ []
    → (a.refusals ≡ [] → SoundAt F a.sort r) → (b.refusals ≡ [] → SoundAt F b.sort q)
    → (gives : Sort → Sort) (whole : Run Val)
    → ((k l : Sort) → takes k l ≡ true → SoundAt F (Some k) r → SoundAt F (Some l) q
    → SoundAt F (Some (gives k)) whole)
    → SoundAt F (gives_where (are_taken takes a.sort b.sort) gives a.sort) whole
both_wanted F takes at a b r q e s t gives whole h =
    let wa : List Refusal = wanted (left_of takes) a in
    let wb : List Refusal = wanted (right_of takes) b in
    let d : List Refusal = refused_if (disagree takes a.sort b.sort) at causes.Mismatch in
    let ab : wa ++ wb ≡ [] = left_nil (wa ++ wb) d e in
    let ea : wa ≡ [] = left_nil wa wb ab in
    let eb : wb ≡ [] = right_nil wa wb ab in
    two_taken F takes a.sort b.sort r q
    (not_refused (is_other (left_of takes) a.sort) a.at causes.Mismatch
    (right_nil a.refusals (wants (left_of takes) a) ea))
    (not_refused (is_other (right_of takes) b.sort) b.at causes.Mismatch
    (right_nil b.refusals (wants (right_of takes) b) eb))
    (not_refused (disagree takes a.sort b.sort) at causes.Mismatch (right_nil (wa ++ wb) d e))
    (s (left_nil a.refusals (wants (left_of takes) a) ea))
    (t (left_nil b.refusals (wants (right_of takes) b) eb)) gives whole h

pub of_two_sound : (F : Frame → Type 0) (rule : RuleOfTwo) (op : Val → Val → Result Val Failure)
    → TakesTwo rule.takes rule.gives op → (at : ℕ) (a b : Judgement) (r q : Run Val)
    → (of_two at rule a b).refusals ≡ []
    → (a.refusals ≡ [] → SoundAt F a.sort r) → (b.refusals ≡ [] → SoundAt F b.sort q)
    → SoundAt F (of_two at rule a b).sort (on_two r q op)
of_two_sound F rule op t at a b r q e s u =
    both_wanted F rule.takes at a b r q e s u rule.gives (on_two r q op)
    (λ k l y sk sl vals attrs f.
    goes_on EndsFilter EndsFilter (OfSort k) (OfSort (rule.gives k)) ends (r vals attrs) _
    (sk vals attrs f)
    (λ v between is. goes_on EndsFilter EndsFilter (OfSort l) (OfSort (rule.gives k)) ends
    (q vals between) _ (sl vals between f)
    (λ w after so. plainly_meets (OfSort (rule.gives k)) (op v w) after
    (two_given rule.takes rule.gives op t k l v w is so y))))

-- ---- `&&` and `||`

pub bool_good : (k : Sort) (v : Val) → sort_of v ≡ k → one_bool k ≡ true
    → IsGood {A = Bool} Anything (bool_in v)
bool_good k v e y = go v (subst (λ (l : Sort). one_bool l ≡ true) (sym e) y)
  where
    go : (v : Val) → one_bool (sort_of v) ≡ true → IsGood {A = Bool} Anything (bool_in v)
    go (VBool b) y = tt
    go _ y = absurd (cc)

truth_sound : (t : TakesOne one_bool a_bool truth_of) (l : Sort) (q : Run Val) (vals : Frame)
    (attrs : Attrs) → one_bool l ≡ true → Meets EndsFilter (OfSort l) (q vals attrs)
    → Meets EndsFilter (OfSort sorts.Bool) (on_value q truth_of vals attrs)
truth_sound t l q vals attrs y m =
    goes_on EndsFilter EndsFilter (OfSort l) (OfSort sorts.Bool) ends (q vals attrs) _ m
    (λ v after is. plainly_meets (OfSort sorts.Bool) (truth_of v) after
    (one_given one_bool a_bool truth_of t l v is y))

right_sound : (t : TakesOne one_bool a_bool truth_of) (joint : LogicalOp) (left : Bool) (l : Sort)
    (q : Run Val) (vals : Frame) (attrs : Attrs) → one_bool l ≡ true
    → Meets EndsFilter (OfSort l) (q vals attrs)
    → Meets EndsFilter (OfSort sorts.Bool) (right_side joint left q vals attrs)
right_sound t logical_ops.And true l q vals attrs y m = truth_sound t l q vals attrs y m
right_sound t logical_ops.And false l q vals attrs y m = refl
right_sound t logical_ops.Or true l q vals attrs y m = refl
right_sound t logical_ops.Or false l q vals attrs y m = truth_sound t l q vals attrs y m

and_left : (a b : Bool) → (a && b) ≡ true → a ≡ true
and_left true b e = refl
and_left false b e = absurd (cc)

and_right : (a b : Bool) → (a && b) ≡ true → b ≡ true
and_right true b e = e
and_right false b e = absurd (cc)

joined_sound : (F : Frame → Type 0) (t : TakesOne one_bool a_bool truth_of) (joint : LogicalOp)
    (at : ℕ) (a b : Judgement) (r q : Run Val) → (of_two at joining a b).refusals ≡ []
    → (a.refusals ≡ [] → SoundAt F a.sort r) → (b.refusals ≡ [] → SoundAt F b.sort q)
    → SoundAt F (of_two at joining a b).sort (joined joint r q)
joined_sound F t joint at a b r q e s u =
    both_wanted F two_bools at a b r q e s u a_bool (joined joint r q)
    (λ k l y sk sl vals attrs f.
    goes_on EndsFilter EndsFilter (OfSort k) (OfSort sorts.Bool) ends (r vals attrs) _
    (sk vals attrs f)
    (λ v between is. goes_on EndsFilter EndsFilter Anything (OfSort sorts.Bool) ends
    (plainly (bool_in v) between) _
    (plainly_meets Anything (bool_in v) between
    (bool_good k v is (and_left (one_bool k) (one_bool l) y)))
    (λ left after _. right_sound t joint left l q vals after
    (and_right (one_bool k) (one_bool l) y) (sl vals after f))))

-- ---- words

defined_good : {A : Type 0} (f : A → Val) (k : Sort) → ((a : A) → sort_of (f a) ≡ k)
    → (o : Option A) → IsGood (OfSort k) (defined_as f o)
defined_good f k h None = tt
defined_good f k h (Some a) = h a

pub attribute_good : (around : Around) (a : Attribute) (attrs : Attrs)
    → IsGood (OfSort (sort_of_attribute a)) (attribute_of around a attrs)
attribute_good around attributes.Net attrs = refl
attribute_good around attributes.Preference attrs = refl
attribute_good around attributes.Gw attrs = defined_good VIp sorts.Ip (λ a. refl) attrs.gw
attribute_good around attributes.From attrs = defined_good VIp sorts.Ip (λ a. refl) attrs.sender
attribute_good around attributes.BgpNextHop attrs =
    defined_good VIp sorts.Ip (λ a. refl) attrs.next_hop
attribute_good around attributes.Proto attrs = refl
attribute_good around attributes.Source attrs = refl
attribute_good around attributes.Dest attrs = refl
attribute_good around attributes.BgpPath attrs = refl
attribute_good around attributes.BgpOrigin attrs =
    defined_good VOrigin sorts.Origin (λ a. refl) attrs.origin
attribute_good around attributes.BgpMed attrs = defined_good VInt sorts.Int (λ a. refl) attrs.med
attribute_good around attributes.BgpLocalPref attrs =
    defined_good VInt sorts.Int (λ a. refl) attrs.lp
attribute_good around attributes.IgpMetric attrs =
    defined_good VInt sorts.Int (λ a. refl) attrs.igp
attribute_good around attributes.BgpCommunity attrs = refl

pub constant_sort : (c : Constant) → sort_of (value_of_constant c) ≡ sort_of_constant c
constant_sort constants.RtsStatic = refl
constant_sort _ = refl

plain_sound : (F : Frame → Type 0) (scene : Scene) (around : Around)
    (functions : List (List ℕ × Doing)) (variables : List (List ℕ)) (s : Atom)
    → SoundAt F (seen.plain s).sort (run.plain s (ctx scene around functions variables))
plain_sound F scene around functions variables (atoms.Number at n) = λ vals attrs f. refl
plain_sound F scene around functions variables (atoms.Text at start len) = λ vals attrs f. refl
plain_sound F scene around functions variables (atoms.Ip at addr) = λ vals attrs f. refl
plain_sound F scene around functions variables (atoms.Prefix at net) = λ vals attrs f. refl
plain_sound F scene around functions variables (atoms.True at) = λ vals attrs f. refl
plain_sound F scene around functions variables (atoms.False at) = λ vals attrs f. refl
plain_sound F scene around functions variables (atoms.EmptyPath at) = λ vals attrs f. refl
plain_sound F scene around functions variables (atoms.EmptyClist at) = λ vals attrs f. refl
plain_sound F scene around functions variables (atoms.Attribute at a) =
    λ vals attrs f. plainly_meets (OfSort (sort_of_attribute a)) (attribute_of around a attrs) attrs
    (attribute_good around a attrs)
plain_sound F scene around functions variables (atoms.Constant at c) =
    λ vals attrs f. constant_sort c

-- a variable that is seen
pub variable_sound : (slots : List Slot) (name : List ℕ) (k : Sort) (constant : Option Val)
    (vals : Frame) (attrs : Attrs) → Place slots vals name k
    → Meets EndsFilter (OfSort k) (variable_or (place_in (names_of slots) name) constant vals attrs)
variable_sound slots name k constant vals attrs p = rw p.is_place (rw p.is_held p.of_sort)

pub named_sound : (scene : Scene) (vs : Variables) (slots : List Slot) (at : ℕ) (name : List ℕ)
    → Sees scene vs slots → (v : Option Variable) → variable_in vs name ≡ v
    → (constant : Option Val) → named_in scene.constants name ≡ constant
    → (known_as at (sort_of_named v constant)).refusals ≡ []
    → SoundAt (Fits slots) (known_as at (sort_of_named v constant)).sort
    (variable_or (place_in (names_of slots) name) constant)
named_sound scene vs slots at name s (Some v) ev constant ec r =
    λ vals attrs f. variable_sound slots name v.sort constant vals attrs
    (place_found slots vals name v.sort ((s).variables name v ev) f)
named_sound scene vs slots at name s None ev (Some v) ec r =
    λ vals attrs f.
    rw (no_place slots name ((s).constants name (named_declared scene.constants name v ec))) refl
named_sound scene vs slots at name s None ev None ec r = absurd (cc)

-- ---- calls

abbrev pub AreSorts : List Judgement → List Sort → Type 0
AreSorts [] [] = ⊤
AreSorts [] (k ∷ ks) = ⊥
AreSorts (j ∷ js) [] = ⊥
AreSorts (j ∷ js) (k ∷ ks) = (j.sort ≡ Some k) × AreSorts js ks

abbrev pub Of : List Sort → Frame → Type 0
Of kinds vs = map sort_of vs ≡ kinds

-- the arguments have sorts, and their values are of them
pub record Arguments (F : Frame → Type 0) (js : List Judgement) (r : Run Frame) : Type 0 where
  pub kinds : List Sort
  pub are : AreSorts js kinds
  pub give : (vals : Frame) (attrs : Attrs) → F vals
      → Meets EndsFilter (Of kinds) (r vals attrs)

-- an argument more
more_arguments : (F : Frame → Type 0) (j : Judgement) (js : List Judgement) (r : Run Val)
    (q : Run Frame) → (o : Option Sort) → j.sort ≡ o → SoundAt F o r → Arguments F js q
    → Arguments F (j ∷ js) (one_more r q)
more_arguments F j js r q None eo s a = absurd s
more_arguments F j js r q (Some k) eo s a = record {
  kinds = k ∷ a.kinds;
  are = (eo, a.are);
  give = λ vals attrs f.
      goes_on EndsFilter EndsFilter (OfSort k) (Of (k ∷ a.kinds)) ends (r vals attrs) _
      (s vals attrs f)
      (λ v between is. goes_on EndsFilter EndsFilter (Of a.kinds) (Of (k ∷ a.kinds)) ends
      (q vals between) _ (a.give vals between f)
      (λ vs after are. rw (is, are) refl));
}

-- arguments of which nothing is refused fit the parameters
pub fit : (ps : List Sort) (js : List Judgement) (ks : List Sort) → AreSorts js ks
    → length ps ≡ length js → arguments_wanted ps js ≡ []
    → (arguments_fit ps js ≡ true) × (ks ≡ ps)
fit [] [] [] a l e = (refl, refl)
fit [] [] (k ∷ ks) a l e = absurd a
fit [] (j ∷ js) ks a l e = absurd (omega (arith, l))
fit (p ∷ ps) [] ks a l e = absurd (omega (arith, l))
fit (p ∷ ps) (j ∷ js) [] a l e = absurd a
fit (p ∷ ps) (j ∷ js) (k ∷ ks) a l e =
    let rest : (arguments_fit ps js ≡ true) × (ks ≡ ps) =
    fit ps js ks a.1 (omega (arith, l))
    (right_nil (wants (same_sort p) j) (arguments_wanted ps js) e) in
    let other : is_other (same_sort p) (Some k) ≡ false =
    subst (λ (o : Option Sort). is_other (same_sort p) o ≡ false) a.0
    (not_refused (is_other (same_sort p) j.sort) j.at causes.Mismatch
    (left_nil (wants (same_sort p) j) (arguments_wanted ps js) e)) in
    let same : same_sort p k ≡ true = not_false (same_sort p k) other in
    (rw (a.0, same, rest.0) refl, rw (rest.1, same_is p k same) refl)

-- the function of a name that a signature is seen of
pub record Found (functions : List (List ℕ × Doing)) (name : List ℕ) (s : Signature) : Type 0 where
  pub does : Doing
  pub is_does : named_in functions name ≡ Some does
  pub keeps : IsOfSignature s does

pub function_found : (ss : List (List ℕ × Signature)) (fs : List (List ℕ × Doing))
    (name : List ℕ) (s : Signature) → AreOfSignatures ss fs → named_in ss name ≡ Some s
    → Found fs name s
function_found [] fs name s a e = absurd (cc)
function_found (x ∷ ss) [] name s a e = absurd a
function_found (x ∷ ss) (y ∷ fs) name s a e =
    subst (λ (n : List ℕ). Found ((n, y.1) ∷ fs) name s) (sym a.0)
    (go (same_name x.0 name) refl e (function_found ss fs name s a.2))
  where
    go : (b : Bool) → same_name x.0 name ≡ b
        → (if b then Some x.1 else named_in ss name) ≡ Some s
        → (named_in ss name ≡ Some s → Found fs name s) → Found ((x.0, y.1) ∷ fs) name s
    go true eb e h = record {
      does = y.1;
      is_does = rw eb refl;
      keeps = subst (λ (t : Signature). IsOfSignature t y.1) (some_is x.1 s e) a.1;
    }
    go false eb e h = record {
      does = (h e).does;
      is_does = rw eb (h e).is_does;
      keeps = (h e).keeps;
    }

answer_meets : (gives : Option Sort) (flow : Flow (Option Val)) → IsAnswer gives flow
    → Meets EndsFilter (IsResult gives) flow
answer_meets gives (Done v attrs) a = a
answer_meets gives (Stopped why attrs) a = a

-- a call with arguments of the parameters' sorts
pub call_sound : (F : Frame → Type 0) (s : Signature) (does : Doing) (js : List Judgement)
    (r : Run Frame) → IsOfSignature s does → (a : Arguments F js r) → (a).kinds ≡ s.parameters
    → (vals : Frame) (attrs : Attrs) → F vals
    → Meets EndsFilter (IsResult s.gives) (call (Some does) r vals attrs)
call_sound F s does js r keeps a e vals attrs f =
    goes_on EndsFilter EndsFilter (Of (a).kinds) (IsResult s.gives) ends (r vals attrs) does
    ((a).give vals attrs f)
    (λ vs between is. answer_meets s.gives (does vs between) (keeps vs between (is ∙ e)))

there_good : (k : Sort) (v : Option Val) → IsResult (Some k) v → IsGood (OfSort k) (there v)
there_good k None is = absurd is
there_good k (Some v) is = is

value_of_call : (F : Frame → Type 0) (does : Doing) (r : Run Frame) (gives : Option Sort)
    → is_none gives ≡ false
    → ((vals : Frame) (attrs : Attrs) → F vals
    → Meets EndsFilter (IsResult gives) (call (Some does) r vals attrs))
    → SoundAt F gives (called_value (Some does) r)
value_of_call F does r None e m = absurd (cc)
value_of_call F does r (Some k) e m =
    λ vals attrs f. goes_on EndsFilter EndsFilter (IsResult (Some k)) (OfSort k) ends
    (call (Some does) r vals attrs) _ (m vals attrs f)
    (λ v after is. plainly_meets (OfSort k) (there v) after (there_good k v is))

-- what is known where nothing is refused of a call
pub record CallKnown (functions : List (List ℕ × Doing)) (F : Frame → Type 0) (name : List ℕ)
    (s : Signature) (js : List Judgement) (r : Run Frame) : Type 0 where
  pub found : Found functions name s
  pub fits : arguments_fit s.parameters js ≡ true
  pub meets : (vals : Frame) (attrs : Attrs) → F vals
      → Meets EndsFilter (IsResult s.gives) (call (Some found.does) r vals attrs)

pub call_known : (scene : Scene) (functions : List (List ℕ × Doing)) (F : Frame → Type 0)
    (n : Name) (s : Signature) (js : List Judgement) (r : Run Frame)
    → AreOfSignatures scene.functions functions
    → named_in scene.functions (name_bytes scene.text n) ≡ Some s
    → (all_refusals js ≡ [] → Arguments F js r) → seen.call n (Some s) js ≡ []
    → CallKnown functions F (name_bytes scene.text n) s js r
call_known scene functions F n s js r agree es args e =
    let found : Found functions (name_bytes scene.text n) s =
    function_found scene.functions functions (name_bytes scene.text n) s agree es in
    let many : Bool = length s.parameters == length js in
    let other : List Refusal = refused_if (not many) n.at causes.Mismatch in
    let rest : List Refusal = if many then arguments_wanted s.parameters js else [] in
    let front : other ++ all_refusals js ≡ [] = left_nil (other ++ all_refusals js) rest e in
    let a : Arguments F js r = args (right_nil other (all_refusals js) front) in
    let as_many : many ≡ true =
    not_false many
    (not_refused (not many) n.at causes.Mismatch (left_nil other (all_refusals js) front)) in
    let wanted_none : arguments_wanted s.parameters js ≡ [] =
    subst (λ (b : Bool). (if b then arguments_wanted s.parameters js else []) ≡ []) as_many
    (right_nil (other ++ all_refusals js) rest e) in
    let fitting : (arguments_fit s.parameters js ≡ true) × ((a).kinds ≡ s.parameters) =
    fit s.parameters js (a).kinds (a).are
    (eqb-true (length s.parameters) (length js) as_many) wanted_none in
    record {
      found = found;
      fits = fitting.0;
      meets = call_sound F s found.does js r found.keeps a fitting.1;
    }

called_sound : (scene : Scene) (functions : List (List ℕ × Doing)) (F : Frame → Type 0)
    (n : Name) (o : Option Signature) (js : List Judgement) (r : Run Frame)
    → AreOfSignatures scene.functions functions
    → named_in scene.functions (name_bytes scene.text n) ≡ o
    → (all_refusals js ≡ [] → Arguments F js r) → (seen.called n o js).refusals ≡ []
    → SoundAt F (seen.called n o js).sort
    (called_value (named_in functions (name_bytes scene.text n)) r)
called_sound scene functions F n None js r agree es args e = absurd (cc)
called_sound scene functions F n (Some s) js r agree es args e =
    let c : CallKnown functions F (name_bytes scene.text n) s js r =
    call_known scene functions F n s js r agree es args
    (right_nil (refused_if (is_none s.gives) n.at causes.Mismatch) (seen.call n (Some s) js) e) in
    let something : is_none s.gives ≡ false =
    not_refused (is_none s.gives) n.at causes.Mismatch
    (left_nil (refused_if (is_none s.gives) n.at causes.Mismatch) (seen.call n (Some s) js) e) in
    subst (λ (f : Option Doing). SoundAt F (seen.called n (Some s) js).sort (called_value f r))
    (sym (c).found.is_does)
    (subst (λ (b : Bool). SoundAt F (and_known b s.gives) (called_value (Some (c).found.does) r))
    (sym (c).fits) (value_of_call F (c).found.does r s.gives something (c).meets))

-- ---- sets

set_sound : (F : Frame → Type 0) (scene : Scene) (around : Around)
    (functions : List (List ℕ × Doing)) (variables : List (List ℕ)) (at : ℕ)
    (items : List Item) → (seen.set scene at items).refusals ≡ []
    → SoundAt F (seen.set scene at items).sort
    (given (set_of (ctx scene around functions variables) items))
set_sound F scene around functions variables at [] e = absurd (cc)
set_sound F scene around functions variables at (i ∷ more) e =
    let all : List Refusal = all_items scene (i ∷ more) in
    let two : Bool = differ (common NoneYet (sorts_of_items scene (i ∷ more))) in
    let known = set_known scene i more (left_nil all (refused_if two at causes.Mismatch) e)
    (not_refused two at causes.Mismatch (right_nil all (refused_if two at causes.Mismatch) e)) in
    subst
    (λ (o : Option Sort).
    SoundAt F o (given (set_of (ctx scene around functions variables) (i ∷ more))))
    (sym known.1)
    (λ vals attrs f. plainly_meets (OfSort (set_sort_of i))
    (set_of (ctx scene around functions variables) (i ∷ more)) attrs
    (set_is_good scene around functions variables _ i more known.0))

mask_sound : (F : Frame → Type 0) (scene : Scene) (around : Around)
    (functions : List (List ℕ × Doing)) (variables : List (List ℕ)) (at : ℕ)
    (items : List MaskItem) → all_atoms scene items ≡ []
    → SoundAt F (seen.mask scene at items).sort
    (given (mask_of (ctx scene around functions variables) items))
mask_sound F scene around functions variables at items e =
    subst
    (λ (rs : List Refusal).
    SoundAt F (sort_where (is_known rs) sorts.Mask)
    (given (mask_of (ctx scene around functions variables) items)))
    (sym (mask_names scene items e))
    (λ vals attrs f. plainly_meets (OfSort sorts.Mask)
    (mask_of (ctx scene around functions variables) items) attrs
    (mask_good scene around functions variables items e))

-- ---- expressions

module _ (ops : AreTyped) (scene : Scene) (around : Around) (functions : List (List ℕ × Doing))
    (agree : AreOfSignatures scene.functions functions) where
  mutual
    pub value_sound : (e : Expression) (vs : Variables) (slots : List Slot) → Sees scene vs slots
        → (judge scene vs e).refusals ≡ []
        → SoundAt (Fits slots) (judge scene vs e).sort
        (value e (ctx scene around functions (names_of slots)))
    value_sound (Plain s) vs slots sees e =
        plain_sound (Fits slots) scene around functions (names_of slots) s
    value_sound (Named n) vs slots sees e =
        named_sound scene vs slots n.at (name_bytes scene.text n) sees _ refl _ refl e
    value_sound (Called n place es) vs slots sees e =
        called_sound scene functions (Fits slots) n _ (judge_all scene vs es) _ agree refl
        (values_sound es vs slots sees) e
    value_sound (Grouped at a) vs slots sees e = value_sound a vs slots sees e
    value_sound (Paired at a b) vs slots sees e =
        let ja : Judgement = judge scene vs a in
        let jb : Judgement = judge scene vs b in
        let whole : List Refusal = (of_two at pairing ja jb).refusals in
        let one : List Refusal = over_16_bits (written scene vs a) ja.at in
        let two : List Refusal = over_16_bits (written scene vs b) jb.at in
        of_two_sound (Fits slots) pairing pair_of ops.pair at ja jb _ _
        (left_nil whole one (left_nil (whole ++ one) two e))
        (value_sound a vs slots sees) (value_sound b vs slots sees)
    value_sound (SetOf at items) vs slots sees e =
        set_sound (Fits slots) scene around functions (names_of slots) at items e
    value_sound (MaskOf at items) vs slots sees e =
        mask_sound (Fits slots) scene around functions (names_of slots) at items e
    value_sound (IsDefined at place attribute_at a) vs slots sees e =
        λ vals attrs f. refl
    value_sound (MethodOf m place a b) vs slots sees e =
        of_two_sound (Fits slots) (method m.kind) (method_of m.kind) (list_takes ops m.kind) m.at
        (judge scene vs a) (judge scene vs b) _ _ e
        (value_sound a vs slots sees) (value_sound b vs slots sees)
    value_sound (PropertyOf a p) vs slots sees e =
        of_one_sound (Fits slots) (property p).takes (property p).gives (property_of p)
        (property_takes ops p) (judge scene vs a) _ e (value_sound a vs slots sees)
    value_sound (Changed a m place b) vs slots sees e =
        of_two_sound (Fits slots) (method m.kind) (method_of m.kind) (list_takes ops m.kind)
        (judge scene vs a).at (judge scene vs a) (judge scene vs b) _ _ e
        (value_sound a vs slots sees) (value_sound b vs slots sees)
    value_sound (Negated at a) vs slots sees e =
        of_one_sound (Fits slots) one_bool a_bool not_of ops.negated (judge scene vs a) _ e
        (value_sound a vs slots sees)
    value_sound (Multiplied a op b) vs slots sees e =
        of_two_sound (Fits slots) arithmetic (factor_of op) (factor_takes ops op)
        (judge scene vs a).at (judge scene vs a) (judge scene vs b) _ _ e
        (value_sound a vs slots sees) (value_sound b vs slots sees)
    value_sound (Added a op b) vs slots sees e =
        of_two_sound (Fits slots) arithmetic (term_of op) (term_takes ops op)
        (judge scene vs a).at (judge scene vs a) (judge scene vs b) _ _ e
        (value_sound a vs slots sees) (value_sound b vs slots sees)
    value_sound (Compared a op b) vs slots sees e =
        of_two_sound (Fits slots) (comparing op) (compare_of op) (compare_takes ops op)
        (judge scene vs a).at (judge scene vs a) (judge scene vs b) _ _ e
        (value_sound a vs slots sees) (value_sound b vs slots sees)
    value_sound (Joined a joint b) vs slots sees e =
        joined_sound (Fits slots) ops.truth joint (judge scene vs a).at (judge scene vs a)
        (judge scene vs b) _ _ e
        (value_sound a vs slots sees) (value_sound b vs slots sees)

    pub values_sound : (es : Expressions) (vs : Variables) (slots : List Slot)
        → Sees scene vs slots → all_refusals (judge_all scene vs es) ≡ []
        → Arguments (Fits slots) (judge_all scene vs es)
        (values es (ctx scene around functions (names_of slots)))
    values_sound NoExpressions vs slots sees e = record {
      kinds = [];
      are = tt;
      give = λ vals attrs f. refl;
    }
    values_sound (AndExpressions a es) vs slots sees e =
        more_arguments (Fits slots) (judge scene vs a) (judge_all scene vs es) _ _ _ refl
        (value_sound a vs slots sees
        (left_nil (judge scene vs a).refusals (all_refusals (judge_all scene vs es)) e))
        (values_sound es vs slots sees
        (right_nil (judge scene vs a).refusals (all_refusals (judge_all scene vs es)) e))
