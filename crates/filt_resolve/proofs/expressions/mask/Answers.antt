use Rattle.std.proofs.Common.{List, Option, option_map, ap, sym, ◌∙◌}
use Rattle.filt_sets.specs.declared.mask.MaskItem.{MaskItem}
use Rattle.filt_meaning.specs.declared.fixed.Fixed.TheVariants as fixed
use Rattle.filt_meaning.specs.Values.{VMask}
use Rattle.filt_meaning.specs.Meaning.{given}
use Rattle.filt_meaning.specs.Names.{there}
use Rattle.filt_meaning.specs.Scopes.{tables_of}
use Rattle.filt_resolve.proofs.Taken as w
use Rattle.filt_resolve.proofs.Forms as f
use Rattle.filt_resolve.proofs.expressions.mask.Goals as goal

pub returns-in-Some-clause-meaning : goal.returns-in-Some-clause-meaning
returns-in-Some-clause-meaning c = λ around variables. f.expr-Value (fixed.Mask c.in-Some.mask) (tables_of around c.args.scope.now) ∙ ap given (ap (λ (o : Option (List MaskItem)). there (option_map (λ m. VMask m) o)) (sym c.in-Some.is) ∙ c.in_ok-mask.ensures around variables)

pub returns-in-None-clause-meaning : goal.returns-in-None-clause-meaning
returns-in-None-clause-meaning c = λ around variables. f.expr-Stuck (tables_of around c.args.scope.now) ∙ ap given (ap (λ (o : Option (List MaskItem)). there (option_map (λ m. VMask m) o)) (sym c.in-None.is) ∙ c.in_ok-mask.ensures around variables)

pub returns-in-Some-clause-steps : goal.returns-in-Some-clause-steps
returns-in-Some-clause-steps c = λ called. w.steps-Value called (fixed.Mask c.in-Some.mask)

pub returns-in-None-clause-steps : goal.returns-in-None-clause-steps
returns-in-None-clause-steps c = λ called. w.steps-Stuck called
