use Rattle.std.proofs.Common.{List, Option, option_map, Result, Ok, ap, sym, ◌∙◌, Vec}
use Rattle.std.specs.Global.{Global}
use Rattle.filt_sets.specs.declared.mask.MaskItem.{MaskItem}
use Rattle.filt_meaning.specs.declared.value.Failure.{Failure}
use Rattle.filt_meaning.specs.Operators.{and_then}
use Rattle.filt_meaning.specs.Values.{VMask}
use Rattle.filt_meaning.specs.Names.{there}
use Rattle.filt_meaning.specs.Scopes.{context_of}
use Rattle.filt_items.proofs.Sets.{masks_are}
use Rattle.filt_items.proofs.items.mask_of.Goals as goal

pub returns-in-Some : goal.returns-in-Some
returns-in-Some c = λ around variables.
    ap (λ (xs : List MaskItem). Ok (VMask xs)) c.make.ensures
    ∙ ap (λ (r : Result (List MaskItem) Failure). and_then r (λ more. Ok (VMask more))) (ap (λ (o : Option (Vec MaskItem Global)). there (option_map (λ v. v.items) o)) (sym c.in-Some.is) ∙ c.in_ok-all.ensures around variables) ∙ ap (λ (r : Result (List MaskItem) Failure). and_then r (λ more. Ok (VMask more))) (masks_are (context_of c.args.text.now around c.args.scope.now variables) c.args.items.now)

pub returns-in-None : goal.returns-in-None
returns-in-None c = λ around variables.
    ap (λ (r : Result (List MaskItem) Failure). and_then r (λ more. Ok (VMask more))) (ap (λ (o : Option (Vec MaskItem Global)). there (option_map (λ v. v.items) o)) (sym c.in-None.is) ∙ c.in_ok-all.ensures around variables) ∙ ap (λ (r : Result (List MaskItem) Failure). and_then r (λ more. Ok (VMask more))) (masks_are (context_of c.args.text.now around c.args.scope.now variables) c.args.items.now)
