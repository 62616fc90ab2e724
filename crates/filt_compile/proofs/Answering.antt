-- Expressions that are one question.
use Rattle.std.proofs.Common.{◌≡◌, ℕ, Bool, List, [], ◌∷◌, Option, Some, None, Ok, refl, sym, ap, ◌∙◌, Box, Vec}
use Rattle.std.specs.Prelude.{IfSome}
use Rattle.std.specs.Borrow.{Bor}
use Rattle.std.specs.Global.{Global}
use Rattle.conf_ast.specs.declared.attribute.Attribute.TheVariants as attributes
use Rattle.conf_ast.specs.declared.filters.CompareOp.{CompareOp}
use Rattle.conf_ast.specs.declared.filters.CompareOp.TheVariants as compare_ops
use Rattle.filt_sets.specs.declared.prefixes.PrefixItem.{PrefixItem}
use Rattle.filt_meaning.specs.Operators.{bool_in, matches_of}
use Rattle.filt_meaning.specs.Values.{Val, VPrefixSet}
use Rattle.filt_meaning.specs.Flow.{Flow, Run, and_then, plainly}
use Rattle.filt_meaning.specs.Meaning as m
use Rattle.filt_meaning.specs.declared.tree.TExpr.{TExpr}
use Rattle.filt_meaning.specs.declared.tree.TExpr.TheVariants as e
use Rattle.filt_meaning.specs.declared.tree.TTest.{TTest}
use Rattle.filt_meaning.specs.Trees as trees
use Rattle.filt_meaning.specs.Trees.{Tables}
use Rattle.filt_meaning.proofs.Forms as forms
use Rattle.filt_code.specs.declared.instr.Instr.{Instr}
use Rattle.filt_code.specs.declared.instr.Instr.TheVariants as instrs
use Rattle.filt_code.specs.declared.instr.Question.{Question}
use Rattle.filt_code.specs.declared.instr.Question.TheVariants as questions
use Rattle.filt_code.specs.Codes.{jump_where, mean, question}
use Rattle.filt_compile.specs.declared.seen.Seen.{Seen}
use Rattle.filt_compile.specs.Emits.{Asks, IsAsked, IsCalled, IsNet, IsNetIn, IsQuestion, IsSet, IsTest, tables_of}
use Rattle.filt_compile.proofs.Asking as ask
use Rattle.filt_compile.proofs.Emitting.{truth_matches, truth_test, truth_then}
use Rattle.filt_compile.proofs.Walk as w

-- ---- tests

pub test_is : (what : TTest) (q : Question) → q ≡ questions.Test what → IsTest what q
test_is what q is = rw is (λ around vals attrs. sym (truth_test around what vals attrs))

-- ---- `net` in a set

net_in : (a b : Box TExpr Global) (x first second : TExpr) (set : List PrefixItem) → x ≡ e.Compare compare_ops.Matches a b → first ≡ a.value → second ≡ b.value → IsNet first → IsSet second set → IsNetIn x set
net_in a b x first second set is f g net there t =
    ap (λ (x : TExpr). trees.expr x t) is
    ∙ ap (λ (h : Tables → Run Val). h t) (forms.of-Compare _ trees.expr_step compare_ops.Matches a b)
    ∙ joined (trees.expr a.value t) (trees.expr b.value t) (m.attribute t.around attributes.Net) (m.given (Ok (VPrefixSet set))) (ap (λ (y : TExpr). trees.expr y t) (sym f) ∙ net t) (ap (λ (y : TExpr). trees.expr y t) (sym g) ∙ there t)
  where
    joined : (p q r u : Run Val) → p ≡ r → q ≡ u → m.on_two p q matches_of ≡ m.on_two r u matches_of
    joined p q r u one two = rw (one, two) refl

pub net_in_some : (op : CompareOp) (a b : Box TExpr Global) (x first second : TExpr) (r : Option (Bor (List PrefixItem))) → x ≡ e.Compare op a b → first ≡ a.value → second ≡ b.value → IfSome r (λ set. IsAsked op first second set.now) → IfSome r (λ set. IsNetIn x set.now)
net_in_some op a b x first second (Some set) is f g asked = net_in a b x first second set.now (is ∙ ap (λ (op : CompareOp). e.Compare op a b) asked.0) f g asked.1 asked.2
net_in_some op a b x first second None is f g asked = tt

pub asked_some : (op : CompareOp) (first second : TExpr) (r : Option (Bor (List PrefixItem))) → op ≡ compare_ops.Matches → IsNet first → IfSome r (λ set. IsSet second set.now) → IfSome r (λ set. IsAsked op first second set.now)
asked_some op first second (Some set) is net there = (is, net, there)
asked_some op first second None is net there = tt

pub net_question : (seen : Seen) (x : TExpr) (set : Bor (List PrefixItem)) → IsNetIn x set.now → IsQuestion seen x (questions.NetIn set)
net_question seen x set p s few vals attrs =
    ap (λ (f : Run Val). f vals attrs) (p (tables_of seen s)) ∙ sym (truth_then (m.attribute s.around attributes.Net vals attrs) (λ v. matches_of v (VPrefixSet set.now)) (λ v. truth_matches v (VPrefixSet set.now)))

-- ---- calls

pub called_question : (seen : Seen) (n : ℕ) (v : Vec TExpr Global) (x : TExpr) (es : List TExpr) (r : Option Question) → x ≡ e.Call n v → es ≡ v.items → IfSome r (λ q. IsCalled seen n es q) → IfSome r (λ q. IsQuestion seen x q)
called_question seen n v x es None is items p = tt
called_question seen n v x es (Some q) is items p = λ s few vals attrs. w.called_is (tables_of seen s) n v x es vals attrs is items ∙ p s few vals attrs

-- ---- what is emitted

pub question_asks : (seen : Seen) (is : Bool) (n : ℕ) (x : TExpr) (q : Question) (old new : List Instr) → IsQuestion seen x q → new ≡ instrs.JumpIfAsked is q n ∷ old → Asks seen is n (λ t. trees.expr x t) old new
question_asks seen is n x q old new p front = record {
  code = instrs.JumpIfAsked is q n ∷ [];
  grows = front;
  means = λ s few vals os attrs. ap (λ (code : List Instr). mean s code 0 vals os attrs) front
      ∙ ask.truth_then (question s.around q vals attrs) (λ b attrs. mean s old (jump_where is n b) vals os attrs)
      ∙ ap (λ (f : Flow Val). and_then f (λ v attrs. and_then (plainly (bool_in v) attrs) (λ b attrs. mean s old (jump_where is n b) vals os attrs))) (sym (p s few vals attrs));
}

-- a test that a question is, in its place
pub test_asks : (seen : Seen) (is : Bool) (n : ℕ) (what : TTest) (x : TExpr) (q : Question) (old new : List Instr) → q ≡ questions.Test what → IsQuestion seen x q → Asks seen is n (λ t. trees.test t.around what) old new → Asks seen is n (λ t. trees.expr x t) old new
test_asks seen is n what x q old new same p asks = record {
  code = asks.code;
  grows = asks.grows;
  means = λ s few vals os attrs. asks.means s few vals os attrs
      ∙ sym (ap (λ (f : Flow Val). and_then f (λ v attrs. and_then (plainly (bool_in v) attrs) (λ b attrs. mean s old (jump_where is n b) vals os attrs))) (p s few vals attrs ∙ sym (test_is what q same s.around vals attrs)));
}
