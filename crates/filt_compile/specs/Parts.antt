-- For private contracts alone: what follows an operand, as a list of operators.
use Rattle.std.specs.Prelude.{ℕ, ◌+◌, List, [], ◌∷◌, map}
use Rattle.conf_ast.specs.declared.filters.LogicalOp.{LogicalOp}
use Rattle.filt_meaning.specs.Operators.{bool_in}
use Rattle.filt_meaning.specs.Values.{Val}
use Rattle.filt_meaning.specs.Flow.{Done, Run, and_then, plainly}
use Rattle.filt_meaning.specs.Meaning.{right_side}
use Rattle.filt_meaning.specs.declared.tree.TAccess.{TAccess}
use Rattle.filt_meaning.specs.declared.tree.TAccess.TheVariants as accesses
use Rattle.filt_meaning.specs.declared.tree.TExpr.{TExpr}
use Rattle.filt_meaning.specs.Trees.{Tables, expr}
use Rattle.filt_meaning.specs.Steps.{expr_steps, sum, sum_over}
use Rattle.filt_code.specs.declared.instr.OfOne.{OfOne}
use Rattle.filt_code.specs.declared.instr.OfOne.TheVariants as of_one
use Rattle.filt_code.specs.declared.instr.OfTwo.{OfTwo}
use Rattle.filt_code.specs.declared.instr.OfTwo.TheVariants as of_two
use Rattle.filt_code.specs.Codes.{one_of, two_of}
use Rattle.filt_compile.specs.declared.rest.Rest.{Rest}
use Rattle.filt_compile.specs.declared.rest.Rest.TheVariants as rests
use Rattle.filt_compile.specs.declared.rest.Step.{Step}
use Rattle.filt_compile.specs.declared.rest.Step.TheVariants as steps

-- what makes another value of a value: an operator, with its right operand
pub data Part : Type 0 where
  One : OfOne → Part
  Two : OfTwo → TExpr → Part
  Joined : LogicalOp → TExpr → Part

abbrev pub part_of : Step → Part
part_of (steps.One op) = One op
part_of (steps.Two op e) = Two op e.now
part_of (steps.Joined joint e) = Joined joint e.now

abbrev pub part_of_access : TAccess TExpr → Part
part_of_access (accesses.Property property) = One (of_one.Property property)
part_of_access (accesses.Method kind e) = Two (of_two.Method kind) e

abbrev pub parts_of : Rest → List Part
parts_of rests.Not = One of_one.Not ∷ []
parts_of rests.Empty = One of_one.Empty ∷ []
parts_of (rests.Pair e) = Two of_two.Pair e.now ∷ []
parts_of (rests.Method kind e) = Two (of_two.Method kind) e.now ∷ []
parts_of (rests.Compare compare e) = Two (of_two.Compare compare) e.now ∷ []
parts_of (rests.Accesses more) = map part_of_access more.now
parts_of (rests.Factors more) = map (λ x. Two (of_two.Factor x.0) x.1) more.now
parts_of (rests.Terms more) = map (λ x. Two (of_two.Term x.0) x.1) more.now
parts_of (rests.Joints more) = map (λ x. Joined x.0 x.1) more.now

-- what a part makes of a value
abbrev pub made_by : Tables → Part → Val → Run Val
made_by t (One op) v vals attrs = plainly (one_of op v) attrs
made_by t (Two op e) v vals attrs =
    and_then (expr e t vals attrs) (λ w attrs. plainly (two_of op v w) attrs)
made_by t (Joined joint e) v vals attrs =
    and_then (plainly (bool_in v) attrs) (λ left attrs. right_side joint left (expr e t) vals attrs)

-- one part after another
abbrev pub made_by_all : Tables → List Part → Val → Run Val
made_by_all t [] v vals attrs = Done v attrs
made_by_all t (part ∷ more) v vals attrs =
    and_then (made_by t part v vals attrs) (λ w attrs. made_by_all t more w vals attrs)

-- what a part's code takes
abbrev pub part_steps : (called : ℕ → ℕ) → Part → ℕ
part_steps called (One op) = 1
part_steps called (Two op e) = 1 + expr_steps called e
part_steps called (Joined joint e) = 2 + expr_steps called e

abbrev pub parts_steps : (called : ℕ → ℕ) → List Part → ℕ
parts_steps called parts = sum (map (part_steps called) parts)

-- what the sides take that are joined to the first one by `&&` and `||`
abbrev pub sides_steps : (called : ℕ → ℕ) → List (LogicalOp × TExpr) → ℕ
sides_steps called more = sum_over 2 (map (λ x. expr_steps called x.1) more)

-- what values take that are let go, one after another
abbrev pub dropped_steps : (called : ℕ → ℕ) → List TExpr → ℕ
dropped_steps called es = sum_over 1 (map (expr_steps called) es)
