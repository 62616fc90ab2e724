use Rattle.conf_lex.proofs.PartShapes.{gives_along}
use Rattle.filt_syntax.specs.Inside.{boxed_tree}
use Rattle.filt_syntax.specs.StatementReaders.{stmt_at}
use Rattle.filt_syntax.proofs.StatementSteps.{empty_is, stmt_declared}
use Rattle.filt_syntax.proofs.StatementTrees.{tree-Empty}
use Rattle.filt_syntax.proofs.simple_statement.simple_statement.Goals as goal

pub returns-in-Some-after : goal.returns-in-Some-after
returns-in-Some-after c =
    c.made.ensures (stmt_at c.args.depth_left c.args.words.now) (rw tree-Empty (empty_is c.args.depth_left c.args.words.now c.in-Some-after.rest.now c.in-Some-after.ensures))

pub returns-in-None : goal.returns-in-None
returns-in-None c =
    gives_along boxed_tree c.declaration.result _ _ (stmt_declared c.args.depth_left c.args.words.now (record {
      name = c.requires.name;
      block = c.requires.block;
      semicolon = c.in_default-after.ensures;
      attribute = c.in_default.ensures;
      unset = c.in_default-after-2.ensures;
      if_stmt = c.requires.if_stmt;
      case_stmt = c.requires.case_stmt;
      repeats = c.requires.loop_;
      accept = c.in_default-after-5.ensures;
      reject = c.in-None.ensures;
      returns = c.in_default-after_placed.ensures;
      print = c.in_default-after-3.ensures;
      printn = c.in_default-after-4.ensures;
    })) c.declaration.ensures
