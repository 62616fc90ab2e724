use Rattle.std.proofs.Common.{◌+◌, List, take, drop, sym, ap, subst, ◌∙◌}
use Rattle.std.proofs.lemmas.List.{take_all}
use Rattle.std.proofs.lemmas.Result.{err_from_is_err_and}
use Rattle.conf_ast.specs.declared.configurations.Statement.{Statement}
use Rattle.conf_ast.specs.Configurations as conf
use Rattle.conf_ast.specs.Configurations.{configuration_of, declaration_of}
use Rattle.filt_types.proofs.Lookups.{next_item, nothing_left}
use Rattle.conf_names.specs.Known.{ArePipesThere, Known}
use Rattle.conf_names.specs.Seen.{known_of}
use Rattle.conf_check.specs.Behind.{at_start}
use Rattle.conf_check.specs.Refused.{refusal_of}
use Rattle.conf_check.specs.Seen.{AreNamed, Stands}
use Rattle.conf_check.proofs.Names.{named_behind, there_behind}
use Rattle.conf_check.proofs.Standing.{fault_whole, one_taken, refusal_turn, stands_checked, stands_more}
use Rattle.conf_check.proofs.check.check_config.Goals as goal

pub loop-statement-init : goal.loop-statement-init
loop-statement-init c = record {
  stands = c.in_ok-checked.ensures.stands;
  refusal = ap (λ (k : Known). refusal_of k (configuration_of c.deref-statement-items.result.now)) c.in_ok-checked.ensures.stands.declared;
}

pub check-requires-clause-named : goal.check-requires-clause-named
check-requires-clause-named c = subst (λ (k : Known). AreNamed k) (sym c.loop-statement.invariant.stands.declared)
    (named_behind c.args.config.now.text.now (configuration_of (take c.loop-statement.statement-index c.deref-statement-items.result.now)))

pub check-requires-clause-pipes : goal.check-requires-clause-pipes
check-requires-clause-pipes c = subst (λ (k : Known). ArePipesThere k) (sym c.loop-statement.invariant.stands.declared)
    (there_behind c.args.config.now.text.now (configuration_of (take c.loop-statement.statement-index c.deref-statement-items.result.now)))

pub loop-statement-preserved : goal.loop-statement-preserved
loop-statement-preserved c =
    let text = c.args.config.now.text.now in
    let items = c.deref-statement-items.result.now in
    let i = c.loop-statement.statement-index in
    let x = c.statement-item.result in
    record {
      stands = subst (λ (ds : List conf.Declaration). Stands text ds c.check.new.self) (sym (one_taken items i x c.loop-statement-test.true c.statement-item.is))
          (stands_more text (configuration_of (take i items)) (declaration_of x) c.loop-statement.checked c.check.new.self c.loop-statement.invariant.stands c.in_ok-check.ensures.adds);
      refusal = refusal_turn (known_of text c.loop-statement.checked.declared) (known_of text c.check.new.self.declared) (declaration_of x) (configuration_of (drop (i + 1) items)) (refusal_of (at_start text) (configuration_of items))
          (ap (λ (l : List Statement). refusal_of (known_of text c.loop-statement.checked.declared) (configuration_of l)) (sym (next_item items i x c.loop-statement-test.true c.statement-item.is)) ∙ c.loop-statement.invariant.refusal)
          c.in_ok-check.ensures.answer c.in_ok-check.ensures.adds.declares.known;
    }

pub returns-clause-answer : goal.returns-clause-answer
returns-clause-answer c =
    let text = c.args.config.now.text.now in
    sym (ap (λ (l : List Statement). refusal_of (at_start text) (configuration_of l)) c.deref-statement-items.ensures.value) ∙ sym c.loop-statement.invariant.refusal
    ∙ ap (λ (l : List Statement). refusal_of (known_of text c.loop-statement.checked.declared) (configuration_of l)) (nothing_left c.deref-statement-items.result.now c.loop-statement.statement-index c.loop-statement-test.false)

pub returns-clause-checked : goal.returns-clause-checked
returns-clause-checked c =
    let text = c.args.config.now.text.now in
    stands_checked text (configuration_of c.args.config.now.statements.items) c.loop-statement.checked
    (subst (λ (l : List Statement). Stands text (configuration_of l) c.loop-statement.checked)
    (take_all c.loop-statement.statement-index c.deref-statement-items.result.now c.loop-statement-test.false ∙ c.deref-statement-items.ensures.value) c.loop-statement.invariant.stands)

pub returns-in_err-check-clause-answer : goal.returns-in_err-check-clause-answer
returns-in_err-check-clause-answer c =
    let text = c.args.config.now.text.now in
    let items = c.deref-statement-items.result.now in
    let i = c.loop-statement.statement-index in
    let x = c.statement-item.result in
    let p = err_from_is_err_and c.from_residual-in_err-check.result c.from_residual-in_err-check.ensures.1 in
    rw (p.1, p.2)
    (fault_whole (known_of text c.loop-statement.checked.declared) (declaration_of x) (configuration_of (drop (i + 1) items)) (refusal_of (at_start text) (configuration_of c.args.config.now.statements.items)) _
    (ap (λ (l : List Statement). refusal_of (known_of text c.loop-statement.checked.declared) (configuration_of l)) (sym (next_item items i x c.loop-statement-test.true c.statement-item.is)) ∙ c.loop-statement.invariant.refusal
    ∙ ap (λ (l : List Statement). refusal_of (at_start text) (configuration_of l)) c.deref-statement-items.ensures.value)
    c.in_err-check.ensures.answer)
