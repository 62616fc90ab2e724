-- Calls of functions that are one question.
use Rattle.std.proofs.Common.{◌≡◌, ℕ, suc, zero, true, List, [], ◌∷◌, Option, Some, None, Result, Ok, Err, refl, subst, sym, ap, ◌∙◌, arith}
use Rattle.std.specs.Prelude.{slice_get, All, IfSome}
use Rattle.attrs.specs.declared.attributes.Attrs.{Attrs}
use Rattle.conf_ast.specs.declared.attribute.Attribute.{Attribute}
use Rattle.conf_ast.specs.declared.attribute.Attribute.TheVariants as attributes
use Rattle.conf_ast.specs.declared.filters.CompareOp.{CompareOp}
use Rattle.conf_ast.specs.declared.filters.CompareOp.TheVariants as compare_ops
use Rattle.conf_ast.specs.declared.filters.Property.{Property}
use Rattle.filt_sets.specs.declared.prefixes.PrefixItem.{PrefixItem}
use Rattle.std.specs.Borrow.{Bor}
use Rattle.filt_meaning.specs.declared.fixed.Fixed.{Fixed}
use Rattle.filt_meaning.specs.declared.value.Failure.{Failure}
use Rattle.filt_meaning.specs.declared.value.Failure.TheVariants as failures
use Rattle.filt_meaning.specs.declared.value.Sort.{Sort}
use Rattle.filt_meaning.specs.declared.value.Sort.TheVariants as sorts
use Rattle.filt_meaning.specs.Operators as operators
use Rattle.filt_meaning.specs.Operators.{matches_of, truth_of}
use Rattle.filt_meaning.specs.Seen.{val_of_fixed}
use Rattle.filt_meaning.specs.Values.{Val, VBool, VInt, VPair, VPrefixSet}
use Rattle.filt_meaning.specs.Attributes.{attribute_of, is_defined}
use Rattle.filt_meaning.specs.Configuration.{given_by}
use Rattle.filt_meaning.specs.Flow.{Flow, Done, Frame, Run, and_then, plainly}
use Rattle.filt_meaning.specs.Meaning as m
use Rattle.filt_meaning.specs.Names.{Around, Doing, there}
use Rattle.filt_meaning.specs.declared.tree.TExpr.{TExpr}
use Rattle.filt_meaning.specs.declared.tree.TExpr.TheVariants as e
use Rattle.filt_meaning.specs.declared.tree.TTest.TheVariants as tests
use Rattle.filt_meaning.specs.Trees as trees
use Rattle.filt_meaning.specs.Trees.{Tables}
use Rattle.filt_code.specs.declared.code.Routine.{Routine}
use Rattle.filt_code.specs.declared.instr.Effect.TheVariants as effects
use Rattle.filt_code.specs.declared.instr.Instr.{Instr}
use Rattle.filt_code.specs.declared.instr.Instr.TheVariants as instrs
use Rattle.filt_code.specs.declared.instr.OfOne.TheVariants as of_one
use Rattle.filt_code.specs.declared.instr.OfTwo.TheVariants as of_two
use Rattle.filt_code.specs.declared.instr.Question.{Question}
use Rattle.filt_code.specs.declared.instr.Question.TheVariants as questions
use Rattle.filt_code.specs.Codes.{Setting, mean, number_in, put, question, within}
use Rattle.filt_compile.specs.declared.seen.Seen.{Seen}
use Rattle.filt_compile.specs.Emits.{IsAlways, IsBody, IsCalled, IsIntAt, IsKnown, IsTest, tables_of}
use Rattle.filt_compile.proofs.Emitting.{answered, answers, truth_matches, truth_then}
use Rattle.filt_compile.proofs.Ranging.{in_two}
use Rattle.filt_compile.proofs.Seeing.{function_at}
use Rattle.filt_compile.proofs.Walk as w

-- ---- answers

-- the answer to a question, over no variables
abbrev said : Around → Question → Attrs → Result Val Failure
said around (questions.Within number low high) attrs = operators.and_then (number_in around number attrs) (λ n. operators.says (within low high n))
said around (questions.Test (tests.Attribute a op n)) attrs = operators.and_then (attribute_of around a attrs) (λ v. m.compare_of op v (VInt n))
said around (questions.Test (tests.Property a p op n)) attrs = operators.and_then (operators.and_then (attribute_of around a attrs) (m.property_of p)) (λ v. m.compare_of op v (VInt n))
said around (questions.Test (tests.Pair x y op a)) attrs = operators.and_then (attribute_of around a attrs) (λ v. m.compare_of op (VPair (x, y)) v)
said around (questions.NetIn set) attrs = operators.and_then (attribute_of around attributes.Net attrs) (λ v. matches_of v (VPrefixSet set.now))
said around (questions.Defined a) attrs = Ok (VBool (is_defined a attrs))

question_said : (around : Around) (q : Question) (vals : Frame) (attrs : Attrs) → question around q vals attrs ≡ plainly (said around q attrs) attrs
question_said around (questions.Within number low high) vals attrs = refl
question_said around (questions.Test (tests.Attribute a op n)) vals attrs = in_two (attribute_of around a attrs) (λ v. m.compare_of op v (VInt n)) attrs
question_said around (questions.Test (tests.Property a p op n)) vals attrs =
    ap (λ (flow : Flow Val). and_then flow (λ v attrs. plainly (m.compare_of op v (VInt n)) attrs)) (in_two (attribute_of around a attrs) (m.property_of p) attrs)
    ∙ in_two (operators.and_then (attribute_of around a attrs) (m.property_of p)) (λ v. m.compare_of op v (VInt n)) attrs
question_said around (questions.Test (tests.Pair x y op a)) vals attrs = in_two (attribute_of around a attrs) (λ v. m.compare_of op (VPair (x, y)) v) attrs
question_said around (questions.NetIn set) vals attrs = in_two (attribute_of around attributes.Net attrs) (λ v. matches_of v (VPrefixSet set.now)) attrs
question_said around (questions.Defined a) vals attrs = refl

answer_said : (around : Around) (q : Question) (vals : Frame) (attrs : Attrs) → m.on_value (question around q) truth_of vals attrs ≡ plainly (operators.and_then (said around q attrs) truth_of) attrs
answer_said around q vals attrs =
    ap (λ (flow : Flow Val). and_then flow (λ v attrs. plainly (truth_of v) attrs)) (question_said around q vals attrs)
    ∙ in_two (said around q attrs) truth_of attrs

-- ---- what is given

-- a value on top is given, and what stops first is a fault
given_on : (s : Setting) (gives : Option Sort) (r : Result Val Failure) (vals : Frame) (attrs : Attrs) → and_then (given_by gives (and_then (put vals [] (plainly r attrs)) (λ held attrs. mean s (instrs.Return ∷ []) 0 held.0 held.1 attrs))) (λ result attrs. plainly (there result) attrs) ≡ plainly r attrs
given_on s gives (Ok v) vals attrs = refl
given_on s gives (Err (failures.Fault fault)) vals attrs = refl
given_on s gives (Err failures.Stuck) vals attrs = refl

-- ---- arguments

pub known_value : (x : TExpr) (v : Fixed) → x ≡ e.Value v → IsKnown x
known_value x v is = record { value = val_of_fixed v; always = λ t. w.value_is v x t is }

value_same : (x : TExpr) (v w : Val) (t : Tables) (vals : Frame) (attrs : Attrs) → IsAlways x v → IsAlways x w → v ≡ w
value_same x v w t vals attrs first second =
    let same : Done v attrs ≡ Done w attrs = ap (λ (f : Run Val). f vals attrs) (sym (first t) ∙ second t) in
    cc

-- where a number stands among expressions, there it is among their values
abbrev AreThere : List TExpr → List Val → Type 0
AreThere es vs =
    (place n : ℕ) (x : TExpr) → Tables → Frame → Attrs → slice_get es place ≡ Some x → IsAlways x (VInt n) → slice_get vs place ≡ Some (VInt n)

nothing_there : (es : List TExpr) (vs : List Val) → es ≡ [] → AreThere es vs
nothing_there [] vs none place n x t vals attrs at is = absurd (cc)
nothing_there (e ∷ es) vs none place n x t vals attrs at is = absurd (cc)

one_there : (x : TExpr) (v : Val) (es : List TExpr) (vs : List Val) → IsAlways x v → AreThere es vs → AreThere (x ∷ es) (v ∷ vs)
one_there x v es vs first rest zero n y t vals attrs at is =
    let same : x ≡ y = cc in
    ap Some (value_same x v (VInt n) t vals attrs first (subst (λ (y : TExpr). IsAlways y (VInt n)) (sym same) is))
one_there x v es vs first rest (suc place) n y t vals attrs at is = rest place n y t vals attrs at is

known_values : (es : List TExpr) → All IsKnown es → (vs : List Val) × ((t : Tables) (vals : Frame) (attrs : Attrs) → trees.all_values (trees.exprs t es) vals attrs ≡ Done vs attrs) × AreThere es vs
known_values [] known = ([], λ t vals attrs. refl, nothing_there [] [] refl)
known_values (x ∷ es) known =
    let first : IsKnown x = known zero x (omega arith) in
    let rest = known_values es (λ i d below. known (suc i) d (omega (arith, below))) in (
      first.value ∷ rest.0,
      λ t vals attrs.
          ap (λ (f : Run Val). m.one_more f (trees.all_values (trees.exprs t es)) vals attrs) (first.always t)
          ∙ ap (λ (flow : Flow Frame). and_then flow (λ vs attrs. Done (first.value ∷ vs) attrs)) (rest.1 t vals attrs),
      one_there x first.value es rest.0 first.always rest.2,
    )

-- ---- functions

-- what a call comes to of a function of this code
abbrev called : Setting → Option Sort → List Instr → Flow Frame → Flow Val
called s gives code arguments =
    and_then (and_then arguments (λ vs attrs. given_by gives (mean s code 0 vs [] attrs))) (λ result attrs. plainly (there result) attrs)

-- ---- `net` in a set

pushed_with : (s : Setting) (gives : Option Sort) (known : Bor Fixed) (op : CompareOp) (vs : List Val) (r : Result Val Failure) (attrs : Attrs) → and_then (given_by gives (and_then (put vs [] (plainly r attrs)) (λ held attrs. mean s (instrs.Do (effects.Push known) ∷ instrs.Do (effects.Two (of_two.Compare op)) ∷ instrs.Return ∷ []) 0 held.0 held.1 attrs))) (λ result attrs. plainly (there result) attrs) ≡ plainly (operators.and_then r (λ v. m.compare_of op v (val_of_fixed known.now))) attrs
pushed_with s gives known op vs (Ok v) attrs = given_on s gives (m.compare_of op v (val_of_fixed known.now)) vs attrs
pushed_with s gives known op vs (Err (failures.Fault fault)) attrs = refl
pushed_with s gives known op vs (Err failures.Stuck) attrs = refl

pub nets : (es : List TExpr) (known : Bor Fixed) (set : Bor (List PrefixItem)) (held compare last : Instr) → held ≡ instrs.Do (effects.Attribute attributes.Net) → compare ≡ instrs.Do (effects.Two (of_two.Compare compare_ops.Matches)) → last ≡ instrs.Return → val_of_fixed known.now ≡ VPrefixSet set.now → All IsKnown es → IsBody (held ∷ instrs.Do (effects.Push known) ∷ compare ∷ last ∷ []) es (questions.NetIn set)
nets es known set held compare last is_held is_compare is_last is_set all s gives t vals attrs =
    let vs = known_values es all in
    let whole = instrs.Do (effects.Attribute attributes.Net) ∷ instrs.Do (effects.Push known) ∷ instrs.Do (effects.Two (of_two.Compare compare_ops.Matches)) ∷ instrs.Return ∷ [] in
    let code : held ∷ instrs.Do (effects.Push known) ∷ compare ∷ last ∷ [] ≡ whole = rw (is_held, is_compare, is_last) refl in
    ap (λ (code : List Instr). called s gives code (trees.all_values (trees.exprs t es) vals attrs)) code
    ∙ ap (λ (flow : Flow Frame). called s gives whole flow) (vs.1 t vals attrs)
    ∙ pushed_with s gives known compare_ops.Matches vs.0 (attribute_of s.around attributes.Net attrs) attrs
    ∙ ap (λ (w : Val). plainly (operators.and_then (attribute_of s.around attributes.Net attrs) (λ v. matches_of v w)) attrs) is_set
    ∙ sym (in_two (attribute_of s.around attributes.Net attrs) (λ v. matches_of v (VPrefixSet set.now)) attrs)
    ∙ sym (truth_then (m.attribute s.around attributes.Net vals attrs) (λ v. matches_of v (VPrefixSet set.now)) (λ v. truth_matches v (VPrefixSet set.now)))

-- ---- comparisons

-- the code behind what is compared
abbrev comparing : ℕ → CompareOp → List Instr
comparing place op = instrs.Do (effects.Local place) ∷ instrs.Do (effects.Two (of_two.Compare op)) ∷ instrs.Return ∷ []

compared_with : (s : Setting) (gives : Option Sort) (place n : ℕ) (op : CompareOp) (vs : List Val) (r : Result Val Failure) (attrs : Attrs) → slice_get vs place ≡ Some (VInt n) → and_then (given_by gives (and_then (put vs [] (plainly r attrs)) (λ held attrs. mean s (comparing place op) 0 held.0 held.1 attrs))) (λ result attrs. plainly (there result) attrs) ≡ plainly (operators.and_then r (λ v. m.compare_of op v (VInt n))) attrs
compared_with s gives place n op vs (Ok v) attrs at =
    ap (λ (o : Option Val). and_then (given_by gives (and_then (put vs (v ∷ []) (plainly (there o) attrs)) (λ held attrs. mean s (instrs.Do (effects.Two (of_two.Compare op)) ∷ instrs.Return ∷ []) 0 held.0 held.1 attrs))) (λ result attrs. plainly (there result) attrs)) at
    ∙ given_on s gives (m.compare_of op v (VInt n)) vs attrs
compared_with s gives place n op vs (Err (failures.Fault fault)) attrs at = refl
compared_with s gives place n op vs (Err failures.Stuck) attrs at = refl

pub compares : (es : List TExpr) (q : Question) (held local compare last : Instr) (a : Attribute) (place : ℕ) (op : CompareOp) (n : ℕ) → held ≡ instrs.Do (effects.Attribute a) → local ≡ instrs.Do (effects.Local place) → compare ≡ instrs.Do (effects.Two (of_two.Compare op)) → last ≡ instrs.Return → All IsKnown es → IsIntAt es place n → IsTest (tests.Attribute a op n) q → IsBody (held ∷ local ∷ compare ∷ last ∷ []) es q
compares es q held local compare last a place op n is_held is_local is_compare is_last known number test s gives t vals attrs =
    let vs = known_values es known in
    let code : held ∷ local ∷ compare ∷ last ∷ [] ≡ instrs.Do (effects.Attribute a) ∷ comparing place op = rw (is_held, is_local, is_compare, is_last) refl in
    ap (λ (code : List Instr). called s gives code (trees.all_values (trees.exprs t es) vals attrs)) code
    ∙ ap (λ (flow : Flow Frame). called s gives (instrs.Do (effects.Attribute a) ∷ comparing place op) flow) (vs.1 t vals attrs)
    ∙ compared_with s gives place n op vs.0 (attribute_of s.around a attrs) attrs (vs.2 place n number.0 t vals attrs number.1 number.2)
    ∙ sym (in_two (attribute_of s.around a attrs) (λ v. m.compare_of op v (VInt n)) attrs)
    ∙ test s.around vals attrs

parted_with : (s : Setting) (gives : Option Sort) (p : Property) (place n : ℕ) (op : CompareOp) (vs : List Val) (r : Result Val Failure) (attrs : Attrs) → slice_get vs place ≡ Some (VInt n) → and_then (given_by gives (and_then (put vs [] (plainly r attrs)) (λ held attrs. mean s (instrs.Do (effects.One (of_one.Property p)) ∷ comparing place op) 0 held.0 held.1 attrs))) (λ result attrs. plainly (there result) attrs) ≡ plainly (operators.and_then (operators.and_then r (m.property_of p)) (λ v. m.compare_of op v (VInt n))) attrs
parted_with s gives p place n op vs (Ok v) attrs at = compared_with s gives place n op vs (m.property_of p v) attrs at
parted_with s gives p place n op vs (Err (failures.Fault fault)) attrs at = refl
parted_with s gives p place n op vs (Err failures.Stuck) attrs at = refl

pub part_compares : (es : List TExpr) (q : Question) (held part local compare last : Instr) (a : Attribute) (p : Property) (place : ℕ) (op : CompareOp) (n : ℕ) → held ≡ instrs.Do (effects.Attribute a) → part ≡ instrs.Do (effects.One (of_one.Property p)) → local ≡ instrs.Do (effects.Local place) → compare ≡ instrs.Do (effects.Two (of_two.Compare op)) → last ≡ instrs.Return → All IsKnown es → IsIntAt es place n → IsTest (tests.Property a p op n) q → IsBody (held ∷ part ∷ local ∷ compare ∷ last ∷ []) es q
part_compares es q held part local compare last a p place op n is_held is_part is_local is_compare is_last known number test s gives t vals attrs =
    let vs = known_values es known in
    let whole = instrs.Do (effects.Attribute a) ∷ instrs.Do (effects.One (of_one.Property p)) ∷ comparing place op in
    let code : held ∷ part ∷ local ∷ compare ∷ last ∷ [] ≡ whole = rw (is_held, is_part, is_local, is_compare, is_last) refl in
    ap (λ (code : List Instr). called s gives code (trees.all_values (trees.exprs t es) vals attrs)) code
    ∙ ap (λ (flow : Flow Frame). called s gives whole flow) (vs.1 t vals attrs)
    ∙ parted_with s gives p place n op vs.0 (attribute_of s.around a attrs) attrs (vs.2 place n number.0 t vals attrs number.1 number.2)
    ∙ sym (in_two (operators.and_then (attribute_of s.around a attrs) (m.property_of p)) (λ v. m.compare_of op v (VInt n)) attrs)
    ∙ ap (λ (flow : Flow Val). and_then flow (λ v attrs. plainly (m.compare_of op v (VInt n)) attrs)) (sym (in_two (attribute_of s.around a attrs) (m.property_of p) attrs))
    ∙ test s.around vals attrs

-- ---- answers that two ways lead to

given_top : (s : Setting) (gives : Option Sort) (r : Result Val Failure) (vals : Frame) (attrs : Attrs) → and_then (given_by gives (and_then (plainly r attrs) (λ v attrs. mean s (instrs.Return ∷ []) 0 vals (v ∷ []) attrs))) (λ result attrs. plainly (there result) attrs) ≡ plainly r attrs
given_top s gives (Ok v) vals attrs = refl
given_top s gives (Err (failures.Fault fault)) vals attrs = refl
given_top s gives (Err failures.Stuck) vals attrs = refl

pub asked : (es : List TExpr) (q : Question) (ask unmet over met turn last : Instr) → ask ≡ instrs.JumpIfAsked true q 2 → unmet ≡ instrs.Do (effects.Default sorts.Bool) → over ≡ instrs.Jump 2 → met ≡ instrs.Do (effects.Default sorts.Bool) → turn ≡ instrs.Do (effects.One of_one.Not) → last ≡ instrs.Return → All IsKnown es → IsBody (ask ∷ unmet ∷ over ∷ met ∷ turn ∷ last ∷ []) es q
asked es q ask unmet over met turn last is_ask is_unmet is_over is_met is_turn is_last all s gives t vals attrs =
    let vs = known_values es all in
    let whole = instrs.JumpIfAsked true q 2 ∷ answers (instrs.Return ∷ []) in
    let code : ask ∷ unmet ∷ over ∷ met ∷ turn ∷ last ∷ [] ≡ whole = rw (is_ask, is_unmet, is_over, is_met, is_turn, is_last) refl in
    ap (λ (code : List Instr). called s gives code (trees.all_values (trees.exprs t es) vals attrs)) code
    ∙ ap (λ (flow : Flow Frame). called s gives whole flow) (vs.1 t vals attrs)
    ∙ ap (λ (flow : Flow Frame). and_then (given_by gives flow) (λ result attrs. plainly (there result) attrs)) (answered s (instrs.Return ∷ []) (question s.around q vs.0 attrs) vs.0 [])
    ∙ ap (λ (flow : Flow Val). and_then (given_by gives (and_then flow (λ v attrs. mean s (instrs.Return ∷ []) 0 vs.0 (v ∷ []) attrs))) (λ result attrs. plainly (there result) attrs)) (answer_said s.around q vs.0 attrs)
    ∙ given_top s gives (operators.and_then (said s.around q attrs) truth_of) vs.0 attrs
    ∙ sym (answer_said s.around q vals attrs)

-- ---- calls

pub is_called : (seen : Seen) (number : ℕ) (es : List TExpr) (r : Routine) (code : List Instr) (q : Question) → slice_get seen.routines.now number ≡ Some r → code ≡ r.code.items → IsBody code es q → IsCalled seen number es q
is_called seen number es r code q at same body s few vals attrs =
    let f = function_at seen s number r few at in
    ap (λ (d : Option Doing). m.called_value d (trees.all_values (trees.exprs (tables_of seen s) es)) vals attrs) f.2
    ∙ ap (λ (code : List Instr). called f.0 r.gives code (trees.all_values (trees.exprs (tables_of seen s) es) vals attrs)) (sym same)
    ∙ body f.0 r.gives (tables_of seen s) vals attrs
    ∙ ap (λ (a : Around). m.on_value (question a q) truth_of vals attrs) f.1

pub some_called : (seen : Seen) (number : ℕ) (es : List TExpr) (r : Routine) (code : List Instr) (found : Option Question) → slice_get seen.routines.now number ≡ Some r → code ≡ r.code.items → IfSome found (λ q. IsBody code es q) → IfSome found (λ q. IsCalled seen number es q)
some_called seen number es r code None at same body = tt
some_called seen number es r code (Some q) at same body = is_called seen number es r code q at same body
