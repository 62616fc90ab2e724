-- For the crate's callers: a value while a filter runs, and one known before, as plain data
-- (`val_of`, `val_of_fixed`); what an operator answers (`Answers`, `Builds`).
-- Not modelled: which memory a value owns.
-- From: own.
-- Example: each variant of `Value` is its own of `Val`, but a list that stands elsewhere is what an
-- owned one is.
use Rattle.std.specs.Prelude.{◌≡◌, [], Result, Ok, Err, ⊤}
use Rattle.filt_meaning.specs.declared.value.Value.{Value}
use Rattle.filt_meaning.specs.declared.value.Value.TheVariants as values
use Rattle.filt_meaning.specs.declared.fixed.Fixed.{Fixed}
use Rattle.filt_meaning.specs.declared.fixed.Fixed.TheVariants as fixed
use Rattle.filt_meaning.specs.declared.value.Failure.{Failure}
use Rattle.filt_meaning.specs.declared.value.ListFailure.{ListFailure}
use Rattle.filt_meaning.specs.declared.value.ListFailure.TheVariants.{Failed, Memory}
use Rattle.filt_meaning.specs.Values.{Val, VInt, VBool, VIp, VPrefix, VPair, VString, VPath, VMask, VClist, VIntSet, VPairSet, VPrefixSet, VSource, VDest, VOrigin}

abbrev pub val_of : Value → Val
val_of (values.Int n) = VInt n
val_of (values.Bool b) = VBool b
val_of (values.Ip a) = VIp a
val_of (values.Prefix net) = VPrefix net
val_of (values.Pair a b) = VPair (a, b)
val_of (values.String s) = VString s.now
val_of (values.Path p) = VPath p
val_of (values.PathOf p) = VPath p.now
val_of (values.Mask m) = VMask m.now
val_of (values.Clist l) = VClist l
val_of (values.ClistOf l) = VClist l.now
val_of (values.IntSet s) = VIntSet s.now
val_of (values.PairSet s) = VPairSet s.now
val_of (values.PrefixSet s) = VPrefixSet s.now
val_of (values.Source k) = VSource k
val_of (values.Dest d) = VDest d
val_of (values.Origin o) = VOrigin o

abbrev pub val_of_fixed : Fixed → Val
val_of_fixed (fixed.Int n) = VInt n
val_of_fixed (fixed.Bool b) = VBool b
val_of_fixed (fixed.Ip a) = VIp a
val_of_fixed (fixed.Prefix net) = VPrefix net
val_of_fixed (fixed.Pair a b) = VPair (a, b)
val_of_fixed (fixed.String s) = VString s.items
val_of_fixed fixed.EmptyPath = VPath []
val_of_fixed fixed.EmptyClist = VClist []
val_of_fixed (fixed.Mask m) = VMask m
val_of_fixed (fixed.IntSet s) = VIntSet s
val_of_fixed (fixed.PairSet s) = VPairSet s
val_of_fixed (fixed.PrefixSet s) = VPrefixSet s
val_of_fixed (fixed.Source k) = VSource k
val_of_fixed (fixed.Dest d) = VDest d
val_of_fixed (fixed.Origin o) = VOrigin o

-- The call answers what the definition gives.
abbrev pub Answers : {X A : Type 0} → (X → A) → Result X Failure → Result A Failure → Type 0
Answers view (Ok x) given = given ≡ Ok (view x)
Answers view (Err failure) given = given ≡ Err failure

-- The call answers what the definition gives, or wants memory.
abbrev pub Builds :
    {X A : Type 0} → (X → A) → Result X ListFailure → Result A Failure → Type 0
Builds view (Ok x) given = given ≡ Ok (view x)
Builds view (Err (Failed failure)) given = given ≡ Err failure
Builds view (Err Memory) given = ⊤
