-- For private contracts alone: text on its way to a sink.
use Rattle.std.specs.Prelude.{◌≡◌, ◌≤◌, ℕ, List, [], ◌++◌, Option, false, Result, is_err}
use Rattle.std.specs.List.{flat_map}
use Rattle.outside_io.specs.Reached.{Reached}
use Rattle.outside_io.specs.declared.stream.Stream.{Stream}

-- what has left the block
abbrev pub gone_text : {K : Type 0} → Stream K → List ℕ
gone_text {K} stream = flat_map (λ p. p.0.items) stream.gone.items

-- all that was taken
abbrev pub taken_text : {K : Type 0} → Stream K → List ℕ
taken_text {K} stream = gone_text stream ++ stream.block.bytes.items

-- nothing was taken yet
abbrev pub IsFresh : {K : Type 0} → Stream K → Type 0
IsFresh {K} stream = (stream.failed ≡ false) × (taken_text stream ≡ [])

-- nothing is held back, and the answer tells whether the sink has failed
abbrev pub IsFinished : {K T E : Type 0} → Result T E → Stream K → Type 0
IsFinished {K} {T} {E} result stream = (stream.block.bytes.items ≡ []) × (is_err result ≡ stream.failed)

-- It is a later state of the same stream: it has the same sink, and where the first state had taken
-- nothing, what has left the block since has reached the sink.
pub record Follows {K : Type 0} (contents : K → Option (List ℕ)) (faults : K → ℕ) (first now : Stream K) : Type 0 where
  pub same : now.sink.ghost_name ≡ first.sink.ghost_name
  pub later : faults first.sink.now ≤ faults now.sink.now
  pub reached : IsFresh first → Reached (contents first.sink.now) (contents now.sink.now) (faults first.sink.now) (faults now.sink.now) now.failed (gone_text now)
