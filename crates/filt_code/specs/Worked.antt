-- Code that is worked by hand, for filters that a reader can run in the head. The law `worked_codes`
-- tells what they say. Values of the source are borrowed from it, so they are parameters.
-- From: own.
use Rattle.std.specs.Prelude.{false, List, [], ◌∷◌}
use Rattle.std.specs.Borrow.{Bor}
use Rattle.attrs.specs.declared.attributes.Attrs.{Attrs}
use Rattle.attrs.specs.declared.judge.Verdict.{Verdict}
use Rattle.conf_ast.specs.declared.filters.AddOp.TheVariants as add_ops
use Rattle.conf_ast.specs.declared.filters.CompareOp.TheVariants as compare_ops
use Rattle.conf_ast.specs.declared.filters.LogicalOp.TheVariants as logical_ops
use Rattle.conf_ast.specs.declared.filters.MethodKind.TheVariants as methods
use Rattle.conf_ast.specs.declared.filters.MulOp.TheVariants as mul_ops
use Rattle.conf_ast.specs.declared.attribute.Attribute.TheVariants as attributes
use Rattle.filt_meaning.specs.Configuration.{verdict_of}
use Rattle.filt_meaning.specs.declared.tree.TTest.TheVariants as tests
use Rattle.filt_meaning.specs.declared.fixed.Fixed.{Fixed}
use Rattle.filt_meaning.specs.declared.value.Sort.TheVariants as sorts
use Rattle.filt_code.specs.Codes.{Setting, mean}
use Rattle.filt_code.specs.declared.instr.Effect.TheVariants as effects
use Rattle.filt_code.specs.declared.instr.Instr.{Instr}
use Rattle.filt_code.specs.declared.instr.Instr.TheVariants as instrs
use Rattle.filt_code.specs.declared.instr.OfOne.TheVariants as of_one
use Rattle.filt_code.specs.declared.instr.OfTwo.TheVariants as of_two
use Rattle.filt_code.specs.declared.instr.Question.TheVariants as questions

abbrev push : Bor Fixed → Instr
push v = instrs.Do (effects.Push v)

abbrev over : Instr
over = instrs.Do (effects.Two (of_two.Factor mul_ops.Over))

abbrev plus : Instr
plus = instrs.Do (effects.Two (of_two.Term add_ops.Plus))

abbrev equal : Instr
equal = instrs.Do (effects.Two (of_two.Compare compare_ops.Equal))

abbrev truth : Instr
truth = instrs.Do (effects.One of_one.Truth)

abbrev pair : Instr
pair = instrs.Do (effects.Two of_two.Pair)

-- `if 1 / 0 = 1 then accept; reject;`
abbrev pub divides : (zero one : Bor Fixed) → List Instr
divides zero one =
    push one ∷ push zero ∷ over ∷ push one ∷ equal ∷ instrs.JumpIf false 1 ∷ instrs.Accept
    ∷ instrs.Reject ∷ []

-- `if bgp_med = 0 then accept; reject;`
abbrev pub asks_the_med : List Instr
asks_the_med =
    instrs.JumpIfAsked false (questions.Test (tests.Attribute attributes.BgpMed compare_ops.Equal 0)) 1
    ∷ instrs.Accept ∷ instrs.Reject ∷ []

-- `if false && 1 / 0 = 1 then reject; accept;`
abbrev pub passes_the_right_side : (lie zero one : Bor Fixed) → List Instr
passes_the_right_side lie zero one =
    push lie ∷ instrs.JumpIf false 7 ∷ push one ∷ push zero ∷ over ∷ push one ∷ equal
    ∷ instrs.JumpIf false 1 ∷ instrs.Reject ∷ instrs.Accept ∷ []

-- the same, with the value of `&&` put before it is asked for
abbrev pub puts_the_left_side : (lie zero one : Bor Fixed) → List Instr
puts_the_left_side lie zero one =
    push lie ∷ instrs.JumpIfDecided logical_ops.And 6 ∷ push one ∷ push zero ∷ over ∷ push one ∷ equal
    ∷ truth ∷ instrs.JumpIf false 1 ∷ instrs.Reject ∷ instrs.Accept ∷ []

-- `int x = MOST; if x + 1 = 0 then accept; reject;`
abbrev pub wraps : (most one zero : Bor Fixed) → List Instr
wraps most one zero =
    instrs.Do (effects.Declare sorts.Int) ∷ push most ∷ instrs.Do (effects.Store 0)
    ∷ instrs.Do (effects.Local 0) ∷ push one ∷ plus ∷ push zero ∷ equal ∷ instrs.JumpIf false 1
    ∷ instrs.Accept ∷ instrs.Reject ∷ []

-- `int x = LARGE; if (x, 1) = (0, 1) then accept; reject;`
abbrev pub pairs : (large one zero : Bor Fixed) → List Instr
pairs large one zero =
    instrs.Do (effects.Declare sorts.Int) ∷ push large ∷ instrs.Do (effects.Store 0)
    ∷ instrs.Do (effects.Local 0) ∷ push one ∷ pair ∷ push zero ∷ push one ∷ pair ∷ equal
    ∷ instrs.JumpIf false 1 ∷ instrs.Accept ∷ instrs.Reject ∷ []

-- `bgp_path.prepend(AS); accept;`
abbrev pub prepends : (as_number : Bor Fixed) → List Instr
prepends as_number =
    instrs.Do (effects.Attribute attributes.BgpPath) ∷ push as_number
    ∷ instrs.Do (effects.Two (of_two.Method methods.Prepend))
    ∷ instrs.Do (effects.Assign attributes.BgpPath) ∷ instrs.Accept ∷ []

-- `int n; for int i in bgp_path do n = n * 2 + i; bgp_med = n; accept;`
abbrev pub turns_over_the_path : (two : Bor Fixed) → List Instr
turns_over_the_path two =
    instrs.Do (effects.Declare sorts.Int) ∷ instrs.Do (effects.Attribute attributes.BgpPath)
    ∷ instrs.ForEach 7
    ∷ instrs.Do (effects.Local 0) ∷ push two
    ∷ instrs.Do (effects.Two (of_two.Factor mul_ops.Times)) ∷ instrs.Do (effects.Local 1) ∷ plus
    ∷ instrs.Do (effects.Store 0) ∷ instrs.EndTurn
    ∷ instrs.Do (effects.Local 0) ∷ instrs.Do (effects.Assign attributes.BgpMed) ∷ instrs.Accept ∷ []

-- what a filter of this code says
abbrev pub says : Setting → List Instr → Attrs → Verdict
says s code attrs = verdict_of (mean s code 0 [] [] attrs)
