-- Room for a change (`in_room`; step by step `Makes`). A table's journal holds so many changes for
-- those who are still to read them. A channel that is up and has as many still to take lags by the
-- whole journal, and takes one before a further change comes; so no reader loses one.
-- Not modelled: the journal's cells.
-- From: own.
-- Example: with a journal of one change each channel that has one to take takes it before the next.
use Rattle.std.specs.Prelude.{◌≡◌, ◌==◌, ◌&&◌, ℕ, zero, suc, ◌-◌, ◌<◌, Bool, true, false, List, length, if◌then◌else◌}
use Rattle.attrs.specs.declared.route.Change.{Change}
use Rattle.core_machine.specs.Channels.{Channel, is_open, take_one}
use Rattle.core_machine.specs.Rules.{Rules}

-- the channel is up and lags by the whole journal
abbrev pub lags : Rules → List Change → Channel → Bool
lags rules history ch = is_open ch && (length history - ch.position == rules.cells)

-- it takes one change where it lags so
abbrev pub roomed : Rules → ℕ → List Change → Channel → Channel
roomed rules c history ch = if lags rules history ch then take_one rules c history ch else ch

-- the channels once room is made in a table: each one over it that lags has taken one change
abbrev pub in_room : Rules → ℕ → List Change → (ℕ → Channel) → ℕ → Channel
in_room rules table history channels c =
    if rules.reads c == table then roomed rules c history (channels c) else channels c

-- the lowest-numbered channel over a table that lags
pub record IsLowest
    (rules : Rules) (table : ℕ) (history : List Change) (channels : ℕ → Channel) (c : ℕ)
    : Type 0 where
  pub reads : rules.reads c ≡ table
  pub lag : lags rules history (channels c) ≡ true
  pub lower :
      (other : ℕ) → other < c → rules.reads other ≡ table
      → lags rules history (channels other) ≡ false

-- one channel takes one change
abbrev pub helped : Rules → ℕ → List Change → (ℕ → Channel) → ℕ → Channel
helped rules c history channels other =
    if c == other then take_one rules c history (channels c) else channels other

-- The same step by step: so many times the lowest-numbered channel that lags takes one change, and
-- then none lags.
abbrev pub Makes :
    Rules → ℕ → List Change → ℕ → (ℕ → Channel) → (ℕ → Channel) → Type 0
Makes rules table history zero channels after =
    ((c : ℕ) → rules.reads c ≡ table → lags rules history (channels c) ≡ false)
    × ((other : ℕ) → after other ≡ channels other)
Makes rules table history (suc n) channels after =
    (c : ℕ) × IsLowest rules table history channels c
    × Makes rules table history n (helped rules c history channels) after
