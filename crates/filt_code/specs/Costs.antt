-- How many instructions are run at most (`cost`): of two ways the dearer one, of a loop 120 turns,
-- since no path has more numbers and no list more communities.
-- From: own.
-- Example: `if .. then accept; reject;`, as three instructions, costs 2.
use Rattle.std.specs.Prelude.{ℕ, suc, zero, ◌+◌, ◌*◌, max, List, [], ◌∷◌, ◌++◌, length, get_or}
use Rattle.filt_code.specs.declared.code.Routine.{Routine}
use Rattle.filt_code.specs.declared.instr.Instr.{Instr}
use Rattle.filt_code.specs.declared.instr.Instr.TheVariants as instrs

-- the greatest of the first values, and one more
abbrev pub greatest : (ℕ → ℕ) → ℕ → ℕ
greatest of zero = of 0
greatest of (suc n) = max (of (suc n)) (greatest of n)

-- what an instruction costs beside itself, where `rest n` is what the code behind the n
-- instructions behind it costs, and functions cost what the list says
abbrev pub beside : List ℕ → Instr → (rest : ℕ → ℕ) → ℕ
beside fs (instrs.Do e) rest = rest 0
beside fs (instrs.Jump n) rest = rest n
beside fs (instrs.JumpIf is n) rest = max (rest 0) (rest n)
beside fs (instrs.JumpIfAsked is q n) rest = max (rest 0) (rest n)
beside fs (instrs.JumpIfDecided joint n) rest = max (rest 0) (rest n)
beside fs (instrs.Switch arms) rest = greatest rest (length arms.now)
beside fs (instrs.ForEach n) rest = 1 + 120 * (1 + rest 0) + rest n
beside fs instrs.EndTurn rest = 0
beside fs (instrs.Call f n) rest = 1 + get_or fs f 0 + rest 0
beside fs (instrs.Perform f n) rest = 1 + get_or fs f 0 + rest 0
beside fs instrs.Accept rest = 0
beside fs instrs.Reject rest = 0
beside fs instrs.Return rest = 0
beside fs instrs.ReturnNothing rest = 0
beside fs instrs.Stuck rest = 0

-- what code costs behind its first n instructions
abbrev pub cost : List ℕ → List Instr → ℕ → ℕ
cost fs [] n = 0
cost fs (i ∷ more) zero = suc (beside fs i (cost fs more))
cost fs (i ∷ more) (suc n) = cost fs more n

-- with the costs of these functions behind the others
abbrev pub with_costs : List ℕ → List Routine → List ℕ
with_costs fs [] = fs
with_costs fs (f ∷ more) = with_costs (fs ++ cost fs f.code.items 0 ∷ []) more

-- what functions cost, by their numbers
abbrev pub costs : List Routine → List ℕ
costs fs = with_costs [] fs
