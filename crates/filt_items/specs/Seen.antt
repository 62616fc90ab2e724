-- For private contracts alone: items of a list, each as one of one sort.
use Rattle.std.specs.Prelude.{List, [], ◌∷◌, Result, Ok, Err}
use Rattle.filt_sets.specs.declared.ints.IntItem.{IntItem}
use Rattle.filt_sets.specs.declared.pairs.PairItem.{PairItem}
use Rattle.filt_sets.specs.declared.prefixes.PrefixItem.{PrefixItem}
use Rattle.conf_ast.specs.declared.filters.Item.{Item}
use Rattle.conf_ast.specs.declared.filters.Item.TheVariants as items
use Rattle.filt_meaning.specs.declared.value.Failure.TheVariants.{Stuck}
use Rattle.filt_meaning.specs.declared.value.Failure.{Failure}
use Rattle.filt_meaning.specs.Operators.{and_then}
use Rattle.filt_meaning.specs.Items.{int_item, pair_item, prefix_item}
use Rattle.filt_meaning.specs.Names.{Context}

-- what all of a list are, in their order
abbrev pub each : {X A : Type 0} → (X → Result A Failure) → List X → Result (List A) Failure
each f [] = Ok []
each f (x ∷ xs) = and_then (f x) (λ a. and_then (each f xs) (λ more. Ok (a ∷ more)))

abbrev pub int_of : Context → Item → Result IntItem Failure
int_of c (items.Range p) = int_item c p
int_of c (items.Pair at a b) = Err Stuck
int_of c (items.Prefix at net l) = Err Stuck

abbrev pub pair_of : Context → Item → Result PairItem Failure
pair_of c (items.Range p) = Err Stuck
pair_of c (items.Pair at a b) = pair_item c a b
pair_of c (items.Prefix at net l) = Err Stuck

abbrev pub prefix_of : Context → Item → Result PrefixItem Failure
prefix_of c (items.Range p) = Err Stuck
prefix_of c (items.Pair at a b) = Err Stuck
prefix_of c (items.Prefix at net l) = prefix_item c net l
