use Rattle.std.proofs.Common.{◌≡◌, ◌≤◌, ◌+◌, ◌*◌, length}
use Rattle.std.specs.Prelude.{map}
use Rattle.conf_lex.specs.declared.symbol.Symbol.TheVariants as sym
use Rattle.conf_lex.specs.declared.word.Word.TheVariants as words
use Rattle.conf_lex.specs.Grammar.{ParseTree}
use Rattle.conf_lex.specs.PartShapes.{closed}
use Rattle.filt_syntax.specs.StatementView.{stmt_tree, stmts_tree, arms_of, body_after}
use Rattle.filt_syntax.specs.StatementReaders.{stmts_at, row_at, arms_at, more_arms_at}
use Rattle.filt_syntax.proofs.ArmSteps.{read_arms, IsBehind}
use Rattle.filt_syntax.proofs.statement.+statement.Given as goal

abbrev pub decreases-block : goal.decreases-block
decreases-block l = 16 * l.depth_left + 0

abbrev pub decreases-read_branches : goal.decreases-read_branches
decreases-read_branches l = 16 * l.depth_left + 0

abbrev pub decreases-repeated : goal.decreases-repeated
decreases-repeated l = 16 * l.depth_left + 0

abbrev pub decreases-braced : goal.decreases-braced
decreases-braced l = 16 * l.depth_left + 0

abbrev pub decreases-if_stmt : goal.decreases-if_stmt
decreases-if_stmt l = 16 * l.depth_left + 1

abbrev pub decreases-for_stmt : goal.decreases-for_stmt
decreases-for_stmt l = 16 * l.depth_left + 1

abbrev pub decreases-case_stmt : goal.decreases-case_stmt
decreases-case_stmt l = 16 * l.depth_left + 1

abbrev pub decreases-statement : goal.decreases-statement
decreases-statement l = 16 * l.depth_left + 2

abbrev pub decreases-statements : goal.decreases-statements
decreases-statements l = 16 * l.depth_left + 3

abbrev pub decreases-arm_body : goal.decreases-arm_body
decreases-arm_body l = 16 * l.depth_left + 3

abbrev pub decreases-second_branch : goal.decreases-second_branch
decreases-second_branch l = 16 * l.below + 4

abbrev pub decreases-arm : goal.decreases-arm
decreases-arm l = 16 * l.depth_left + 4

abbrev pub decreases-otherwise : goal.decreases-otherwise
decreases-otherwise l = 16 * l.depth_left + 4

abbrev pub decreases-arms : goal.decreases-arms
decreases-arms l = 16 * l.depth_left + 5

abbrev pub invariant-statements-loop-end : goal.invariant-statements-loop-end
invariant-statements-loop-end l = stmts_at l.depth_left l.words ≡ row_at l.depth_left (stmts_tree l.found.items) l.rest

abbrev pub decreases-statements-loop-end : goal.decreases-statements-loop-end
decreases-statements-loop-end l = length l.rest

abbrev pub invariant-arms-loop-rest : goal.invariant-arms-loop-rest
invariant-arms-loop-rest l = record {
  behind : IsBehind (arms_of l.found.items) l.rest;
  reading : closed (words.Symbol sym.OpenBrace) (arms_at l.depth_left) sym.CloseBrace l.words ≡ read_arms l.depth_left (arms_of l.found.items) l.rest;
}

abbrev pub decreases-arms-loop-rest : goal.decreases-arms-loop-rest
decreases-arms-loop-rest l = length l.rest

abbrev pub invariant-arm_body-loop-alloc : goal.invariant-arm_body-loop-alloc
invariant-arm_body-loop-alloc l = record {
  shorter : length l.rest ≤ length l.words;
  reading : (t : ParseTree) → more_arms_at l.depth_left t l.words ≡ more_arms_at l.depth_left (body_after t (map stmt_tree l.body.items)) l.rest;
}

abbrev pub decreases-arm_body-loop-alloc : goal.decreases-arm_body-loop-alloc
decreases-arm_body-loop-alloc l = length l.rest
