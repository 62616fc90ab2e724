-- The state at the end of a phase (`IsSyncState`), from the operations alone: which routes stand in
-- the tables, what the protocols have come to, and what stands as sent. It doesn't depend on the
-- order in which changes of different protocols came.
-- From: BIRD User's Guide, "Pipe"; own.
-- Example: an `add` of p1 and one of p2 leave the same state in either order.
use Rattle.std.specs.Prelude.{◌≡◌, ℕ, Bool, true, List, [], ◌∷◌, length, Option, Some, None, option_map, if◌then◌else◌}
use Rattle.bits_ip.specs.Prefix.{Net}
use Rattle.attrs.specs.declared.attributes.Attrs.{Attrs}
use Rattle.attrs.specs.declared.route.Route.{Route}
use Rattle.attrs.specs.History.{Content}
use Rattle.import_core.specs.declared.mode.Mode.{Mode}
use Rattle.import_core.specs.declared.operation.Op.{Op}
use Rattle.export_core.specs.declared.log.Key.{Key}
use Rattle.export_core.specs.Passing.{passed}
use Rattle.core_machine.specs.Pipes.{candidate_in}
use Rattle.core_machine.specs.Rules.{Rules, held, is_up}

-- what is printed of a state: each table's routes, each protocol's mode and how many routes it has
-- accepted, whether each channel is up, and what stands as sent by it
pub record Shown : Type 0 where
  pub rows : ℕ → Content
  pub modes : ℕ → Mode
  pub accepted : ℕ → ℕ
  pub up : ℕ → Bool
  pub standing : ℕ → Key → Option Attrs

-- What comes of a source's route of a net by a way of directions, the last first. The accepted
-- route stands in the protocol's own table; each direction in turn replaces its attributes by those
-- that it sends, or drops it; one that is down drops all.
abbrev pub along : Rules → (ℕ → List Op) → Net → ℕ → List ℕ → Option Route
along rules ops net num [] = held rules num (ops num) net
along rules ops net num (d ∷ ds) =
    if is_up rules (rules.owner d) (ops (rules.owner d))
    then option_map (rules.route num)
    (passed (rules.value d) (record { net = net; num = num }) (along rules ops net num ds))
    else None

abbrev pub along_way : Rules → (ℕ → List Op) → Net → ℕ → Option (List ℕ) → Option Route
along_way rules ops net num None = None
along_way rules ops net num (Some ds) = along rules ops net num ds

-- a table holds of each source what comes of its routes by the way to the table
abbrev pub content : Rules → (ℕ → List Op) → ℕ → Content
content rules ops table net num = along_way rules ops net num (rules.hops table num)

-- A channel that is up has sent what it makes of each key's candidate.
pub record IsSyncState (rules : Rules) (ops : ℕ → List Op) (shown : Shown) : Type 0 where
  pub rows :
      (table : ℕ) (net : Net) (num : ℕ)
      → shown.rows table net num ≡ content rules ops table net num
  pub modes : (i : ℕ) → shown.modes i ≡ rules.mode i (ops i)
  pub accepted : (i : ℕ) → shown.accepted i ≡ length (rules.accepted i (ops i))
  pub up : (c : ℕ) → shown.up c ≡ is_up rules (rules.owner c) (ops (rules.owner c))
  pub standing :
      (c : ℕ) (k : Key) → is_up rules (rules.owner c) (ops (rules.owner c)) ≡ true
      → shown.standing c k
      ≡ passed (rules.value c) k (candidate_in rules c k (content rules ops (rules.reads c)))
