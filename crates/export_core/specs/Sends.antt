-- For the laws: what a channel sent of one key in the last stretch of its log (`sends`,
-- `last_value`), that this is right and rises (`AreRight`, `AreRising`); and the values that stand
-- as sent, in the order of keys (`IsStanding`).
-- From: own.
-- Example: the values of a key stand at rising positions; only one sent again may stand where the
-- one before it does.
use Rattle.std.specs.Prelude.{◌≡◌, ℕ, ◌≤◌, List, [], ◌∷◌, Option, option_and_then, slice_get, if◌then◌else◌, ⊤}
use Rattle.std.specs.List.Sorted.{IsStrictlySortedBy}
use Rattle.std.specs.Map.{keys_of}
use Rattle.export_core.specs.Keys.{key_cmp, same_key}
use Rattle.attrs.specs.declared.attributes.Attrs.{Attrs}
use Rattle.attrs.specs.declared.route.Route.{Route}
use Rattle.export_core.specs.declared.log.Key.{Key}
use Rattle.export_core.specs.declared.log.LogItem.{LogItem}
use Rattle.export_core.specs.declared.log.LogItem.TheVariants.{Up, Down, Reload, Sent}
use Rattle.export_core.specs.declared.log.Sending.{Sending}
use Rattle.export_core.specs.Logs.{Course, Rises}
use Rattle.export_core.specs.Marks.{at}
use Rattle.export_core.specs.Passing.{passed}
use Rattle.export_core.specs.Standing.{standing_at}

-- what was sent of a key in the last stretch of a log that is read backwards, the newest first
abbrev pub sends : Key → List LogItem → List Sending
sends k [] = []
sends k (Up h ∷ earlier) = []
sends k (Down ∷ earlier) = []
sends k (Reload ∷ earlier) = sends k earlier
sends k (Sent x ∷ earlier) = if same_key x.key k then x ∷ sends k earlier else sends k earlier

-- each is what the channel makes of the key's candidate at its position, which is one of the
-- stretch's and the history's
abbrev pub AreRight :
    (Key → Route → Option Attrs) → Course → Key → ℕ → List Sending → Type 0
AreRight value c k h [] = ⊤
AreRight value c k h (x ∷ earlier) =
    (x.value ≡ passed value k (c.best k x.at)) × (h ≤ x.at) × (x.at ≤ c.len)
    × AreRight value c k h earlier

-- their positions rise; only one sent again may stand at the position of the one before it
abbrev pub AreRising : List Sending → Type 0
AreRising [] = ⊤
AreRising (x ∷ earlier) = Rises (slice_get earlier 0) x × AreRising earlier

-- the value of the newest
abbrev pub last_value : List Sending → Option Attrs
last_value sent = option_and_then (λ x. x.value) (slice_get sent 0)

-- The values that stand as sent, in the order of keys.
pub record IsStanding (log : List LogItem) (items : List (Key × Attrs)) : Type 0 where
  pub ascend : IsStrictlySortedBy key_cmp (keys_of items)
  pub values : (k : Key) → at k items ≡ standing_at k log
