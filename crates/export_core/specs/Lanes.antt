-- What an exporter keeps for one key, and what it stands for (`IsLane`).
-- From: own.
-- Example: what has been read of a key that isn't marked stands as sent.
use Rattle.std.specs.Prelude.{◌≡◌, ℕ, ◌+◌, ◌≤◌, Bool, true, false, Option, Some, None, IsSome, if◌then◌else◌}
use Rattle.export_core.specs.declared.log.Key.{Key}
use Rattle.attrs.specs.declared.attributes.Attrs.{Attrs}
use Rattle.attrs.specs.declared.route.Route.{Route}
use Rattle.export_core.specs.declared.log.Sending.{Sending}
use Rattle.export_core.specs.declared.marks.Mark.{Mark}
use Rattle.export_core.specs.Logs.{Course, Account, value_of}
use Rattle.export_core.specs.Marks.{is_due}
use Rattle.export_core.specs.Passing.{passed}

-- one key's share of an exporter
pub record Lane : Type 0 where
  -- up to where the key's net has been read
  pub reach : ℕ
  -- a feed goes on that hasn't reached its net, and it is a refresh's
  pub ahead : Bool
  pub coming : Bool
  pub mark : Option Mark
  pub account : Account

abbrev pub tally : Bool → ℕ
tally b = if b then 1 else 0

-- The mark stands in the stretch, not before the key's last item and not behind where its net has
-- been read; its candidate is the key's from its position on to there.
pub record IsMark
    (c : Course) (k : Key) (h reach : ℕ) (last : Option Sending) (m : Mark) : Type 0 where
  pub begun : h ≤ m.at
  pub after : (x : Sending) → last ≡ Some x → x.at ≤ m.at
  pub within : m.at ≤ reach
  pub same : (p : ℕ) → m.at ≤ p → p ≤ reach → c.best k p ≡ m.candidate

-- What holds of one key in a stretch that began at `h` and had so many refreshes.
pub record IsLane
    (value : Key → Route → Option Attrs) (c : Course) (k : Key) (h reloaded : ℕ) (l : Lane)
    : Type 0 where
  pub begun : h ≤ l.reach
  pub within : l.reach ≤ c.len
  pub after : (x : Sending) → l.account.last ≡ Some x → x.at ≤ l.reach
  pub mark : (m : Mark) → l.mark ≡ Some m → IsMark c k h l.reach l.account.last m
  -- what has been read and isn't marked stands as sent
  pub still :
      l.mark ≡ None → l.ahead ≡ false → value_of l.account ≡ passed value k (c.best k l.reach)
  -- each refresh sends the key again at most once: those that did, the one that is due, and the one
  -- whose feed is still to come are at most all
  pub count : l.account.agains + (tally (is_due l.mark) + tally l.coming) ≤ reloaded
  -- and the last one did, where it is not due and not to come
  pub fresh :
      is_due l.mark ≡ false → l.coming ≡ false → IsSome (value_of l.account)
      → l.account.fresh ≡ true
