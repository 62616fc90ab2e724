use Rattle.std.proofs.Common.{◌≡◌, ℕ, List, ◌∙◌}
use Rattle.std.proofs.lemmas.Result.{IfOk-weaker}
use Rattle.filt_meaning.specs.Items as written
use Rattle.filt_meaning.specs.Names.{Around}
use Rattle.filt_meaning.specs.Scopes.{context_of}
use Rattle.filt_meaning.specs.Trees.{set_of_labels}
use Rattle.filt_items.proofs.Sets.{ints_of, ints_are, pairs_of, pairs_are, prefixes_of, prefixes_are}
use Rattle.filt_items.proofs.items.set_of.Goals as goal

pub returns-in-Some-Range : goal.returns-in-Some-Range
returns-in-Some-Range c =
    IfOk-weaker c.int_set.result
    (λ set. (around : Around) (variables : List (List ℕ)) → set_of_labels set ≡ ints_of (context_of c.args.text.now around c.args.scope.now variables) c.args.items.now)
    (λ set. (around : Around) (variables : List (List ℕ)) → set_of_labels set ≡ written.set_of (context_of c.args.text.now around c.args.scope.now variables) c.args.items.now)
    (λ set h around variables. h around variables ∙ ints_are (context_of c.args.text.now around c.args.scope.now variables) c.args.items.now c.in-Some-Range.field-0.now c.in-Some-Range.field-0-0 c.in-Some-Range.ensures.value c.in-Some-Range.field-0-is)
    c.int_set.ensures

pub returns-in-Some-Pair : goal.returns-in-Some-Pair
returns-in-Some-Pair c =
    IfOk-weaker c.pair_set.result
    (λ set. (around : Around) (variables : List (List ℕ)) → set_of_labels set ≡ pairs_of (context_of c.args.text.now around c.args.scope.now variables) c.args.items.now)
    (λ set. (around : Around) (variables : List (List ℕ)) → set_of_labels set ≡ written.set_of (context_of c.args.text.now around c.args.scope.now variables) c.args.items.now)
    (λ set h around variables. h around variables ∙ pairs_are (context_of c.args.text.now around c.args.scope.now variables) c.args.items.now c.in-Some-Pair.field-0.now c.in-Some-Pair.field-0-0 c.in-Some-Pair.field-0-1 c.in-Some-Pair.field-0-2 c.in-Some-Pair.ensures.value c.in-Some-Pair.field-0-is)
    c.pair_set.ensures

pub returns-in-Some-Prefix : goal.returns-in-Some-Prefix
returns-in-Some-Prefix c =
    IfOk-weaker c.prefix_set.result
    (λ set. (around : Around) (variables : List (List ℕ)) → set_of_labels set ≡ prefixes_of (context_of c.args.text.now around c.args.scope.now variables) c.args.items.now)
    (λ set. (around : Around) (variables : List (List ℕ)) → set_of_labels set ≡ written.set_of (context_of c.args.text.now around c.args.scope.now variables) c.args.items.now)
    (λ set h around variables. h around variables ∙ prefixes_are (context_of c.args.text.now around c.args.scope.now variables) c.args.items.now c.in-Some-Prefix.field-0.now c.in-Some-Prefix.field-0-0 c.in-Some-Prefix.field-0-1 c.in-Some-Prefix.field-0-2 c.in-Some-Prefix.ensures.value c.in-Some-Prefix.field-0-is)
    c.prefix_set.ensures
