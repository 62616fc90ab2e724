-- Lists of values.
use Rattle.std.proofs.Common.{◌≡◌, ℕ, List, map, take, ap, sym, ◌∙◌}
use Rattle.std.proofs.lemmas.List.{take-map, map-set}
use Rattle.std.specs.Prelude.{slice_set}
use Rattle.filt_meaning.specs.declared.value.Value.{Value}
use Rattle.filt_meaning.specs.Seen.{val_of}

pub truncated : (v w : List Value) (n : ℕ) → w ≡ take n v → map val_of w ≡ take n (map val_of v)
truncated v w n e = rw e (sym (take-map val_of n v))

pub set_at : (v w : List Value) (n : ℕ) (x : Value) → w ≡ slice_set v n x → map val_of w ≡ slice_set (map val_of v) n (val_of x)
set_at v w n x e = ap (λ (w : List Value). map val_of w) e ∙ map-set val_of v n x
