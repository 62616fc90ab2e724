-- How much filters weigh (`weight`, `act_weight`, a line for each form): each statement and each
-- expression 1 and its parts; the body of a `for` counts 120 times, as often as a path is long; a
-- call adds what its function weighs.
-- From: own.
-- Example: `1 + 2 + 3` weighs 5.
use Rattle.std.specs.Prelude.{ℕ, ◌+◌, ◌*◌, ◌^◌, min, nat_lt, List, Option, Some, None}
use Rattle.conf_ast.specs.Filters.{Expression, Plain, Named, Called, Grouped, Paired, SetOf, MaskOf}
use Rattle.conf_ast.specs.Filters.{IsDefined, MethodOf, PropertyOf, Changed, Negated, Multiplied}
use Rattle.conf_ast.specs.Filters.{Added, Compared, Joined, Expressions, NoExpressions}
use Rattle.conf_ast.specs.Filters.{AndExpressions, Statement, Braced, Nothing, Declare, Assign}
use Rattle.conf_ast.specs.Filters.{ChangeBy, Clear, Unset, If, IfElse, Case, CaseElse, For, Accept}
use Rattle.conf_ast.specs.Filters.{Reject, Return, Print, Printn, Call, Statements, NoStatements}
use Rattle.conf_ast.specs.Filters.{AndStatements, Arms, NoArms, AndArms}
use Rattle.filt_types.specs.declared.refusal.Cause.TheVariants as causes
use Rattle.filt_types.specs.declared.refusal.Refusal.{Refusal}
use Rattle.filt_types.specs.Refusals.{refused_if}
use Rattle.filt_types.specs.Scenes.{Scene, Signature, function_of}

-- what isn't declared adds nothing
abbrev pub of_function : Option Signature → ℕ
of_function None = 0
of_function (Some f) = f.weight

abbrev mutual
  pub weight : Scene → Expression → ℕ
  weight scene (Plain s) = 1
  weight scene (Named n) = 1
  weight scene (Called n place es) = 1 + weights scene es + of_function (function_of scene n)
  weight scene (Grouped at e) = 1 + weight scene e
  weight scene (Paired at a b) = 1 + weight scene a + weight scene b
  weight scene (SetOf at elements) = 1
  weight scene (MaskOf at elements) = 1
  weight scene (IsDefined at place attribute_at a) = 1
  weight scene (MethodOf m place a b) = 1 + weight scene a + weight scene b
  weight scene (PropertyOf a p) = 1 + weight scene a
  weight scene (Changed a m place b) = 1 + weight scene a + weight scene b
  weight scene (Negated at a) = 1 + weight scene a
  weight scene (Multiplied a op b) = 1 + weight scene a + weight scene b
  weight scene (Added a op b) = 1 + weight scene a + weight scene b
  weight scene (Compared a op b) = 1 + weight scene a + weight scene b
  weight scene (Joined a joint b) = 1 + weight scene a + weight scene b

  pub weights : Scene → Expressions → ℕ
  weights scene NoExpressions = 0
  weights scene (AndExpressions e es) = weight scene e + weights scene es

abbrev pub optional : Scene → Option Expression → ℕ
optional scene None = 0
optional scene (Some e) = weight scene e

abbrev mutual
  pub act_weight : Scene → Statement → ℕ
  act_weight scene (Braced ss) = 1 + acts_weight scene ss
  act_weight scene Nothing = 1
  act_weight scene (Declare t n e) = 1 + optional scene e
  act_weight scene (Assign target e) = 1 + weight scene e
  act_weight scene (ChangeBy target m place e) = 1 + weight scene e
  act_weight scene (Clear target) = 1
  act_weight scene (Unset place at a) = 1
  act_weight scene (If e s) = 1 + weight scene e + act_weight scene s
  act_weight scene (IfElse e s t) =
      1 + weight scene e + act_weight scene s + act_weight scene t
  act_weight scene (Case at e as_arms) = 1 + weight scene e + arms_weight scene as_arms
  act_weight scene (CaseElse at e as_arms ss) =
      1 + weight scene e + arms_weight scene as_arms + acts_weight scene ss
  act_weight scene (For at t n e body) = 1 + weight scene e + 120 * act_weight scene body
  act_weight scene Accept = 1
  act_weight scene Reject = 1
  act_weight scene (Return at e) = 1 + optional scene e
  act_weight scene (Print es) = 1 + weights scene es
  act_weight scene (Printn es) = 1 + weights scene es
  act_weight scene (Call n place es) = 1 + weights scene es + of_function (function_of scene n)

  pub acts_weight : Scene → Statements → ℕ
  acts_weight scene NoStatements = 0
  acts_weight scene (AndStatements s ss) = act_weight scene s + acts_weight scene ss

  pub arms_weight : Scene → Arms → ℕ
  arms_weight scene NoArms = 0
  arms_weight scene (AndArms labels ss more) = acts_weight scene ss + arms_weight scene more

-- a filter or a function weighs what the block of its statements does
abbrev pub block_weight : Scene → Statements → ℕ
block_weight scene ss = 1 + acts_weight scene ss

-- sums of weights stop there
abbrev pub capped : ℕ → ℕ
capped n = min n (2 ^ 127)

-- a filter or function that is too heavy is refused at this place
abbrev pub too_heavy : (at : ℕ) → ℕ → List Refusal
too_heavy at n = refused_if (nat_lt 10000000 n) at causes.TooHeavy
