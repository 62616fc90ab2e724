-- The values that stand as sent (`IsKept`), each by the number of the log's item that has it; what
-- the last stretch of a log sent last of a key (`standing_at`).
-- From: own.
-- Example: behind a withdrawal nothing stands of the key, and nothing at all behind a `Down`.
use Rattle.std.specs.Prelude.{◌≡◌, ℕ, Bool, true, false, List, [], ◌∷◌, Option, Some, None, IsSome, option_and_then, slice_get, reverse, is_some, if◌then◌else◌}
use Rattle.export_core.specs.declared.log.Key.{Key}
use Rattle.attrs.specs.declared.attributes.Attrs.{Attrs}
use Rattle.export_core.specs.declared.log.LogItem.{LogItem}
use Rattle.export_core.specs.declared.log.LogItem.TheVariants.{Up, Down, Reload, Sent}
use Rattle.export_core.specs.Logs.{account, value_of, stretch}
use Rattle.export_core.specs.Marks.{at}

-- the number of the item, and none where there is a place alone
abbrev pub index_at : Key → List (Key × Option ℕ) → Option ℕ
index_at k places = option_and_then (λ n. n) (at k places)

abbrev pub value_in : LogItem → Option Attrs
value_in (Up h) = None
value_in Down = None
value_in Reload = None
value_in (Sent x) = x.value

-- the value of the item with this number
abbrev pub value_at : List LogItem → Option ℕ → Option Attrs
value_at log number = option_and_then value_in (option_and_then (slice_get log) number)

-- whether the last stretch of a log is open
abbrev pub is_open : List LogItem → Bool
is_open log = is_some (stretch (reverse log))

-- the value of a key that the last stretch sent last
abbrev pub standing_at : Key → List LogItem → Option Attrs
standing_at k log = value_of (account k (reverse log))

-- the keys that have a value, in the order of the places
abbrev pub held_keys : List (Key × Option ℕ) → List Key
held_keys [] = []
held_keys (p ∷ places) = if is_some p.1 then p.0 ∷ held_keys places else held_keys places

-- the first place has a value, if there is one
abbrev pub is_led : List (Key × Option ℕ) → Bool
is_led [] = true
is_led (p ∷ places) = is_some p.1

-- what stands as sent is what the last stretch sent last, unless it is being withdrawn
pub record IsKept
    (flushing up : Bool) (sent : List (Key × Option ℕ)) (log : List LogItem) : Type 0 where
  pub open_now : up ≡ is_open log
  pub values : flushing ≡ false → (k : Key) → value_at log (index_at k sent) ≡ standing_at k log
  pub there : (k : Key) (n : ℕ) → index_at k sent ≡ Some n → IsSome (value_at log (Some n))
