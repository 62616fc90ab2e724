-- What levels go on with.
use Rattle.std.proofs.Common.{◌≡◌, ℕ, List, [], ◌∷◌, drop, Option, Some, subst, sym, arith}
use Rattle.filt_meaning.specs.Flow.{Frame}
use Rattle.filt_meaning.specs.Values.{Val}
use Rattle.filt_vm.specs.declared.level.Call.{Call}
use Rattle.filt_vm.specs.declared.level.Level.{Level}
use Rattle.filt_vm.specs.declared.level.Level.TheVariants as levels
use Rattle.filt_vm.specs.declared.level.Turn.{Turn}
use Rattle.filt_vm.specs.Levels.{Waiting}
use Rattle.filt_vm.specs.Machines.{AreThere, waits}
use Rattle.filt_vm.specs.Seen.{Held}

-- an operand is taken
pub taken : (w : Waiting) (fs : List (List Val)) (os o : Held) (v : Val) → os ≡ record { here = v ∷ o.here; under = o.under } → AreThere w.levels fs os.under w.lists → AreThere w.levels fs o.under w.lists
taken w fs os o v pops there = subst (λ (h : Held). AreThere w.levels fs h.under w.lists) pops there

pub begun : (t : Turn) (fs : List (List Val)) (os o new : Held) (w middle waiting : Waiting) (v : Val) (els : Frame) → os ≡ record { here = v ∷ o.here; under = o.under } → middle ≡ record { levels = w.levels; lists = els ∷ w.lists } → waiting ≡ record { levels = levels.Turns t ∷ middle.levels; lists = middle.lists } → new ≡ record { here = []; under = o.here ∷ o.under } → AreThere w.levels fs os.under w.lists → AreThere waiting.levels fs new.under waiting.lists
begun t fs os o new w middle waiting v els pops mid wait onew there =
    rw (wait, mid, onew) (omega arith, omega arith, taken w fs os o v pops there)

pub entered : (c : Call) (arguments : List Val) (n : ℕ) (vals new os o onew : Held) (w waiting : Waiting) → new ≡ record { here = arguments; under = vals.here ∷ vals.under } → o ≡ record { here = drop n os.here; under = os.under } → onew ≡ record { here = []; under = o.here ∷ o.under } → waiting ≡ record { levels = levels.Returns c ∷ w.levels; lists = w.lists } → AreThere w.levels vals.under os.under w.lists → AreThere waiting.levels new.under onew.under waiting.lists
entered c arguments n vals new os o onew w waiting e left eo wait there =
    rw (wait, e, eo, left) (omega arith, omega arith, there)

pub popped : (level : Level) (w new : Waiting) (fs us : List (List Val)) → w.levels ≡ level ∷ new.levels → new.lists ≡ w.lists → AreThere w.levels fs us w.lists → AreThere (level ∷ new.levels) fs us new.lists
popped level w new fs us is lists there =
    subst (λ (ls : List Frame). AreThere (level ∷ new.levels) fs us ls) (sym lists) (subst (λ (all : List Level). AreThere all fs us w.lists) is there)

pub waited : (found : Option Call) (call : Call) (w : Waiting) (fs us : List (List Val)) → found ≡ Some call → AreThere (waits found w.levels) fs us w.lists → AreThere (levels.Returns call ∷ w.levels) fs us w.lists
waited found call w fs us is there = subst (λ (c : Option Call). AreThere (waits c w.levels) fs us w.lists) is there
