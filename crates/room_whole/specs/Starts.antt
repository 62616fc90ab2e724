-- Of which protocols the starts of a phase are (`AreOfProtocols`).
-- From: own.
-- Example: where two protocols are played, no start is of a third one.
use Rattle.std.specs.Prelude.{◌≡◌, ◌<◌, ℕ, List, Some, slice_get}
use Rattle.core_machine.specs.Lines.{Act}

-- each is of one with a number below this
abbrev pub AreOfProtocols : ℕ → List Act → Type 0
AreOfProtocols protocols starts =
    (n : ℕ) (a : Act) → slice_get starts n ≡ Some a → a.protocol < protocols
