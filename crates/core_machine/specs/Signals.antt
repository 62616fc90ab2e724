-- The ups, downs and refreshes of a channel's log are those that its protocol's operations signal,
-- in their order, and before them a pipe's opening (`AreSignals`). Lists are read backwards.
-- From: own.
-- Example: behind `open` and `reload out` a log has `Up` and `Reload`.
use Rattle.std.specs.Prelude.{◌≡◌, ℕ, List, [], ◌∷◌, Option, Some, None, if◌then◌else◌, ⊤}
use Rattle.import_core.specs.declared.operation.Op.{Op}
use Rattle.attrs.specs.declared.route.Change.{Change}
use Rattle.export_core.specs.declared.log.LogItem.{LogItem}
use Rattle.export_core.specs.declared.log.LogItem.TheVariants.{Up, Down, Reload, Sent}
use Rattle.core_machine.specs.Histories.{front, own}
use Rattle.core_machine.specs.Rules.{Rules, Signal, Stay, Rise, Fall, Renew, changes}

-- the log without what was sent
abbrev pub without_sends : List LogItem → List LogItem
without_sends [] = []
without_sends (Up h ∷ earlier) = Up h ∷ without_sends earlier
without_sends (Down ∷ earlier) = Down ∷ without_sends earlier
without_sends (Reload ∷ earlier) = Reload ∷ without_sends earlier
without_sends (Sent x ∷ earlier) = without_sends earlier

-- a notice: a signal, and the operations up to the one that gave it
pub record Notice : Type 0 where
  pub signal : Signal
  pub ops : List Op

-- one more, where the channels are told anything
abbrev pub with_signal : Signal → List Op → List Notice → List Notice
with_signal Stay ops earlier = earlier
with_signal Rise ops earlier = record { signal = Rise; ops = ops } ∷ earlier
with_signal Fall ops earlier = record { signal = Fall; ops = ops } ∷ earlier
with_signal Renew ops earlier = record { signal = Renew; ops = ops } ∷ earlier

-- The notices that a protocol's operations give its channels. A pipe's directions come up before
-- all.
abbrev pub notices : Rules → ℕ → List Op → List Notice
notices rules i [] = if rules.first i then record { signal = Rise; ops = [] } ∷ [] else []
notices rules i (op ∷ earlier) =
    with_signal (rules.gives i earlier op).signal (op ∷ earlier) (notices rules i earlier)

-- Where a channel comes up at a position behind some operations. One that writes no table: its
-- protocol's own changes up to there are those of these operations, so the position is at or behind
-- all of them, and before all later ones. A direction of a pipe opens at 0.
abbrev pub IsPlace : Rules → List Change → ℕ → ℕ → List Op → Option ℕ → Type 0
IsPlace rules history c h ops None =
    own (rules.owner c) (front h history) ≡ changes rules (rules.owner c) ops
IsPlace rules history c h ops (Some table) = ops ≡ [] → h ≡ 0

-- The item is the notice's.
abbrev pub IsSignalOf : Rules → List Change → ℕ → LogItem → Notice → Type 0
IsSignalOf rules history c (Up h) n =
    (n.signal ≡ Rise) × IsPlace rules history c h n.ops (rules.target c)
IsSignalOf rules history c Down n = n.signal ≡ Fall
IsSignalOf rules history c Reload n = n.signal ≡ Renew
IsSignalOf rules history c (Sent x) n = ⊥

-- item by item
abbrev pub AreSignals : Rules → List Change → ℕ → List LogItem → List Notice → Type 0
AreSignals rules history c [] [] = ⊤
AreSignals rules history c [] (n ∷ more) = ⊥
AreSignals rules history c (x ∷ items) [] = ⊥
AreSignals rules history c (x ∷ items) (n ∷ more) =
    IsSignalOf rules history c x n × AreSignals rules history c items more
