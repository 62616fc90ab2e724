use Rattle.std.proofs.Common.{length}
use Rattle.filt_vm.proofs.Works as works
use Rattle.filt_vm.proofs.target.target.Goals as goal

pub returns-in-JumpIf-clause-leads : goal.returns-in-JumpIf-clause-leads
returns-in-JumpIf-clause-leads c = λ s rest vals same. rw (c.in-JumpIf.is) (c.if_top.ensures.leads rest vals c.args.attrs.now)

pub returns-in-JumpIfDecided-clause-leads : goal.returns-in-JumpIfDecided-clause-leads
returns-in-JumpIfDecided-clause-leads c = λ s rest vals same. rw (c.in-JumpIfDecided.is) (c.if_decided.ensures.leads rest vals c.args.attrs.now)

pub returns-in-Switch-clause-leads : goal.returns-in-Switch-clause-leads
returns-in-Switch-clause-leads c = λ s rest vals same. rw (c.in-Switch.is) (c.among.ensures.leads rest vals c.args.attrs.now)

pub returns-in-Switch-clause-cost : goal.returns-in-Switch-clause-cost
returns-in-Switch-clause-cost c = λ fs of. rw (c.in-Switch.is) (works.few_cost c.among.result of (length c.in-Switch.arms.now) c.among.ensures.few)
