-- What a direction of a pipe does to the table that it writes, read off its log (`enters`), and the
-- keys that stand as sent (`standing_keys`). Logs and histories are read backwards, lists of keys
-- are in their order.
-- From: BIRD User's Guide, "Pipe"; what goes down withdraws what it brought.
-- Example: a direction that sent routes of two nets and went down has entered two changes with a
-- route and two without one.
use Rattle.std.specs.Prelude.{List, [], ◌∷◌, Bool, Option, Some, None, option_map, if◌then◌else◌}
use Rattle.std.specs.Ordering.{is_lt}
use Rattle.attrs.specs.declared.attributes.Attrs.{Attrs}
use Rattle.attrs.specs.declared.route.Change.{Change}
use Rattle.export_core.specs.declared.log.Key.{Key}
use Rattle.export_core.specs.declared.log.LogItem.{LogItem}
use Rattle.export_core.specs.declared.log.LogItem.TheVariants.{Up, Down, Reload, Sent}
use Rattle.export_core.specs.Keys.{key_cmp, same_key}
use Rattle.core_machine.specs.Rules.{Rules}

-- ---- keys in their order, each once

abbrev pub comes_before : Key → Key → Bool
comes_before a b = is_lt (key_cmp a b)

abbrev pub with_key : Key → List Key → List Key
with_key k [] = k ∷ []
with_key k (x ∷ more) =
    if same_key x k
    then x ∷ more
    else (if comes_before k x then k ∷ x ∷ more else x ∷ with_key k more)

abbrev pub without_key : Key → List Key → List Key
without_key k [] = []
without_key k (x ∷ more) =
    if same_key x k then without_key k more else x ∷ without_key k more

-- ---- what stands

abbrev pub kept_with : Option Attrs → Key → List Key → List Key
kept_with (Some v) k keys = with_key k keys
kept_with None k keys = without_key k keys

-- the keys that stand as sent
abbrev pub standing_keys : List LogItem → List Key
standing_keys [] = []
standing_keys (Up h ∷ earlier) = []
standing_keys (Down ∷ earlier) = []
standing_keys (Reload ∷ earlier) = standing_keys earlier
standing_keys (Sent x ∷ earlier) = kept_with x.value x.key (standing_keys earlier)

-- ---- what comes of it in the table that is written

-- the change of a key to a value: the source's route with these attributes, or none
abbrev pub change_to : Rules → Key → Option Attrs → Change
change_to rules k value =
    record { net = k.net; num = k.num; new = option_map (rules.route k.num) value }

abbrev pub withdrawal : Key → Change
withdrawal k = record { net = k.net; num = k.num; new = None }

-- a history with the withdrawals of these keys, in their order
abbrev pub withdrawn : List Key → List Change → List Change
withdrawn [] history = history
withdrawn (k ∷ keys) history = withdrawn keys (withdrawal k ∷ history)

-- The changes that a direction makes: a send changes its key, unless it only sends again what
-- stands, and going down withdraws each key that stands.
abbrev pub enters : Rules → List LogItem → List Change
enters rules [] = []
enters rules (Up h ∷ earlier) = enters rules earlier
enters rules (Down ∷ earlier) = withdrawn (standing_keys earlier) (enters rules earlier)
enters rules (Reload ∷ earlier) = enters rules earlier
enters rules (Sent x ∷ earlier) =
    if x.again then enters rules earlier else change_to rules x.key x.value ∷ enters rules earlier
