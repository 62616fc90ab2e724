-- What judges by code may be shared by threads: code is lent trees, sets and constants, and plain data.
use denote.Param.Send.{IsSync, sendable, shr_slice_sync, shr_sync, view_sync}
use denote.Param.SendFields.{as_row_sync, declared_sync, variants_sync}
use denote.Ref.{NamedLft}
use Rattle.std.proofs.Crossing.{Vec-sync, crosses, sync as heap}
use Rattle.attrs.proofs.names.Names.TheSendSync as names
use Rattle.conf_ast.proofs.attribute.Attribute.TheSendSync as attribute
use Rattle.conf_ast.proofs.filters.AddOp.TheSendSync as add
use Rattle.conf_ast.proofs.filters.CompareOp.TheSendSync as compare
use Rattle.conf_ast.proofs.filters.LogicalOp.TheSendSync as logical
use Rattle.conf_ast.proofs.filters.MethodKind.TheSendSync as method
use Rattle.conf_ast.proofs.filters.MulOp.TheSendSync as mul
use Rattle.conf_ast.proofs.filters.Property.TheSendSync as property
use Rattle.filt_meaning.proofs.fixed.Fixed.TheSendSync as fixed
use Rattle.filt_meaning.proofs.tree.TAccess.TheSendSync as access
use Rattle.filt_meaning.proofs.tree.TArm.TheSendSync as arm
use Rattle.filt_meaning.proofs.tree.TTarget.TheSendSync as target
use Rattle.filt_meaning.proofs.tree.TTest.TheSendSync as test
use Rattle.filt_meaning.proofs.tree.TExpr.TheLaws.TheKnot as expr_knot
use Rattle.filt_meaning.proofs.tree.TStmt.TheLaws.TheKnot as stmt_knot
use Rattle.filt_meaning.proofs.value.Sort.TheSendSync as sort
use Rattle.filt_meaning.specs.contracts.tree.TStmt as stmt
use Rattle.filt_meaning.specs.contracts.tree.TExpr as expr
use Rattle.filt_sets.proofs.prefixes.PrefixSet.TheSendSync as prefixes
use Rattle.filt_code.specs.contracts.code.Draft as draft
use Rattle.filt_code.specs.contracts.instr.Effect as effect
use Rattle.filt_code.specs.contracts.instr.Instr as instr
use Rattle.filt_code.specs.contracts.instr.Question as question
use Rattle.filt_code.specs.contracts.code.Routine as routine
use Rattle.conf_system.specs.contracts.code.Code as code
use Rattle.conf_system.specs.contracts.passes.Passes as passes
use Rattle.conf_system.specs.contracts.passes.Passes.TheInside as inside
use Rattle.conf_system.specs.contracts.passes.Rule as rule
use Rattle.filt_code.proofs.instr.Number.TheSendSync as number
use Rattle.filt_code.proofs.instr.OfOne.TheSendSync as one
use Rattle.filt_code.proofs.instr.OfTwo.TheSendSync as two

expr_field_sync : IsSync (expr.the_field).row
expr_field_sync = search (expr_knot.sync-TExpr, sendable, crosses, fixed.the_field_sync, attribute.the_field_sync, add.the_sync, compare.the_field_sync, logical.the_sync, method.the_field_sync, mul.the_sync, access.the_sync, access.the_field_sync, test.the_field_sync, sort.the_field_sync) depth 8

expr_sync : IsSync expr.the_row
expr_sync = as_row_sync expr.the_field expr_field_sync

stmt_field_sync : IsSync (stmt.the_field).row
stmt_field_sync = search (stmt_knot.sync-TStmt, sendable, crosses, expr_field_sync, expr_sync, attribute.the_field_sync, target.the_field_sync, arm.the_sync, arm.the_field_sync, sort.the_sync) depth 8

stmt_sync : IsSync stmt.the_row
stmt_sync = as_row_sync stmt.the_field stmt_field_sync

effect_sync : (κ : NamedLft) → IsSync (effect.the_row κ)
effect_sync κ = variants_sync (effect.enum κ) (
  (shr_sync _ _ _ fixed.the_sync, tt),
  (
    (search sendable, tt),
    (
      (attribute.the_sync, tt),
      (
        (attribute.the_sync, tt),
        (
          (sort.the_sync, tt),
          (
            (one.the_sync, tt),
            (
              (two.the_sync, tt),
              (
                tt,
                (
                  (search sendable, tt),
                  (
                    (attribute.the_sync, tt),
                    (
                      (attribute.the_sync, tt),
                      ((sort.the_sync, tt), ((search sendable, tt), tt)),
                    ),
                  ),
                ),
              ),
            ),
          ),
        ),
      ),
    ),
  ),
)

question_sync : (κ : NamedLft) → IsSync (question.the_row κ)
question_sync κ = variants_sync (question.enum κ)
    ((number.the_sync, (search sendable, (search sendable, tt))), ((test.the_sync, tt), ((shr_sync _ _ _ prefixes.the_sync, tt), ((attribute.the_sync, tt), tt))))

instr_sync : (κ : NamedLft) → IsSync (instr.the_row κ)
instr_sync κ = variants_sync (instr.enum κ) (
  (effect_sync κ, tt),
  (
    (search sendable, tt),
    (
      (search sendable, (search sendable, tt)),
      (
        (search sendable, (question_sync κ, (search sendable, tt))),
        (
          (logical.the_sync, (search sendable, tt)),
          ((shr_slice_sync _ _ _ (arm.the_sync _ stmt_sync), tt), ((search sendable, tt), (tt, ((search sendable, (search sendable, tt)), ((search sendable, (search sendable, tt)), (tt, (tt, (tt, (tt, (tt, tt)))))))))),
        ),
      ),
    ),
  ),
)

draft_sync : (κ : NamedLft) → IsSync (draft.the_row κ)
draft_sync κ = declared_sync (draft.the_type κ) (search sendable, (Vec-sync _ (instr_sync κ), tt))

routine_sync : (κ : NamedLft) → IsSync (routine.the_row κ)
routine_sync κ = declared_sync (routine.the_type κ) (shr_slice_sync _ _ _ sort.the_sync, (search (sendable, crosses, sort.the_sync) depth 8, (Vec-sync _ (instr_sync κ), tt)))

code_sync : (κ : NamedLft) → IsSync (code.the_row κ)
code_sync κ = declared_sync (code.the_type κ) (Vec-sync _ (routine_sync κ), (Vec-sync _ (draft_sync κ), tt))

rule_sync : (κ : NamedLft) → IsSync (rule.the_row κ)
rule_sync κ = variants_sync (rule.enum κ) (tt, (tt, ((shr_sync _ _ _ (draft_sync κ), tt), ((draft_sync κ, tt), tt))))

inside_sync : (κ : NamedLft) → IsSync (inside.the_row κ)
inside_sync κ = declared_sync (inside.the_type κ) (heap, (shr_sync _ _ _ (code_sync κ), (shr_sync _ _ _ names.the_sync, (rule_sync κ, tt))))

pub passes_sync : (κ : NamedLft) → IsSync (passes.the_row κ)
passes_sync κ = view_sync _ _ _ _ _ (inside_sync κ)
