-- The log of a channel, read backwards, the newest item first: which logs it may have over a
-- table's history (`Follows`, by `IsSend`), and when it is settled (`Settled`). What it needs to
-- know of a history: how many changes, and the candidate of each key at each position (`Course`).
-- Not modelled: when the channel sends, and in which order it takes keys.
-- From: RFC 4271, section 9.2, and RFC 2918, for what may be sent; the log is own.
-- Example: a value is sent once, and once more in a refresh.
use Rattle.std.specs.Prelude.{◌≡◌, ◌≢◌, ℕ, ◌+◌, ◌<◌, ◌≤◌, max, Bool, true, false, List, [], ◌∷◌, Option, Some, None, IsSome, option_and_then, if◌then◌else◌, ⊤}
use Rattle.export_core.specs.Keys.{same_key}
use Rattle.export_core.specs.declared.log.Key.{Key}
use Rattle.attrs.specs.declared.attributes.Attrs.{Attrs}
use Rattle.attrs.specs.declared.route.Route.{Route}
use Rattle.export_core.specs.declared.log.LogItem.{LogItem}
use Rattle.export_core.specs.declared.log.LogItem.TheVariants.{Up, Down, Reload, Sent}
use Rattle.export_core.specs.declared.log.Sending.{Sending}
use Rattle.export_core.specs.Passing.{passed}

-- what a channel needs to know of a table's history: how many changes it has, and the candidate
-- of each key at each position
pub record Course : Type 0 where
  pub len : ℕ
  pub best : Key → ℕ → Option Route

-- where the last stretch began, which is what stands from an `Up` on to the next `Down`; none where
-- it has ended
abbrev pub stretch : List LogItem → Option ℕ
stretch [] = None
stretch (Up h ∷ earlier) = Some h
stretch (Down ∷ earlier) = None
stretch (Reload ∷ earlier) = stretch earlier
stretch (Sent x ∷ earlier) = stretch earlier

-- how many refreshes the stretch has
abbrev pub reloads : List LogItem → ℕ
reloads [] = 0
reloads (Up h ∷ earlier) = 0
reloads (Down ∷ earlier) = 0
reloads (Reload ∷ earlier) = reloads earlier + 1
reloads (Sent x ∷ earlier) = reloads earlier

-- the greatest position in the log
abbrev pub highest : List LogItem → ℕ
highest [] = 0
highest (Up h ∷ earlier) = max h (highest earlier)
highest (Down ∷ earlier) = highest earlier
highest (Reload ∷ earlier) = highest earlier
highest (Sent x ∷ earlier) = max x.at (highest earlier)

-- what the stretch says of one key: its last item, how often it was sent again, and whether it was
-- sent since the last refresh (since the stretch began, where there is none)
pub record Account : Type 0 where
  pub last : Option Sending
  pub agains : ℕ
  pub fresh : Bool

abbrev pub blank : Account
blank = record { last = None; agains = 0; fresh = false }

abbrev pub aged : Account → Account
aged a = record { last = a.last; agains = a.agains; fresh = false }

abbrev pub entered : Sending → Account → Account
entered x a =
    record { last = Some x; agains = (if x.again then a.agains + 1 else a.agains); fresh = true }

abbrev pub account : Key → List LogItem → Account
account k [] = blank
account k (Up h ∷ earlier) = blank
account k (Down ∷ earlier) = blank
account k (Reload ∷ earlier) = aged (account k earlier)
account k (Sent x ∷ earlier) =
    if same_key x.key k then entered x (account k earlier) else account k earlier

-- the value sent last, and none where nothing was or it was withdrawn
abbrev pub value_of : Account → Option Attrs
value_of a = option_and_then (λ x. x.value) a.last

-- the positions of one key's items rise; only a value sent again may stand at the position of the
-- item before it
abbrev pub Rises : Option Sending → Sending → Type 0
Rises None x = ⊤
Rises (Some before) x = (before.at ≤ x.at) × (x.again ≡ false → before.at < x.at)

-- A value may be sent in a stretch that began at `open_at` and had so many refreshes, behind what
-- the stretch says of its key: at a position of the stretch and of the history, what the channel
-- makes of the key's candidate there. It differs from the value before it, or it is that value
-- sent again, in a refresh that has not sent it yet.
pub record IsSend
    (value : Key → Route → Option Attrs) (c : Course) (open_at : Option ℕ) (a : Account)
    (reloaded : ℕ) (x : Sending) : Type 0 where
  pub in_stretch : (h : ℕ) × (open_at ≡ Some h) × (h ≤ x.at)
  pub told : x.at ≤ c.len
  pub right : x.value ≡ passed value x.key (c.best x.key x.at)
  pub rises : Rises a.last x
  pub changed : x.again ≡ false → x.value ≢ value_of a
  pub equal : x.again ≡ true → (x.value ≡ value_of a) × IsSome x.value × (a.agains < reloaded)

-- an item may come after the earlier ones
abbrev pub MayCome :
    (Key → Route → Option Attrs) → Course → LogItem → List LogItem → Type 0
MayCome value c (Up h) earlier = (stretch earlier ≡ None) × (highest earlier ≤ h) × (h ≤ c.len)
MayCome value c Down earlier = IsSome (stretch earlier)
MayCome value c Reload earlier = IsSome (stretch earlier)
MayCome value c (Sent x) earlier =
    IsSend value c (stretch earlier) (account x.key earlier) (reloads earlier) x

-- the log is one that a channel over this history may have: each item may come after the earlier
abbrev pub Follows : (Key → Route → Option Attrs) → Course → List LogItem → Type 0
Follows value c [] = ⊤
Follows value c (item ∷ earlier) = Follows value c earlier × MayCome value c item earlier

-- The last stretch hasn't ended, what was sent last of each net is what the channel makes of its
-- best route at the end of the history, and it was sent since the last refresh.
pub record Settled
    (value : Key → Route → Option Attrs) (c : Course) (log : List LogItem) : Type 0 where
  pub is_open : IsSome (stretch log)
  pub right : (k : Key) → value_of (account k log) ≡ passed value k (c.best k c.len)
  pub fresh : (k : Key) → IsSome (value_of (account k log)) → (account k log).fresh ≡ true
