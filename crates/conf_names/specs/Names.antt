-- The name of a protocol without one (`own_name`, by `free_number`), and what is refused of a
-- protocol's names (`declaring`).
-- From: BIRD User's Guide, "Protocol options"; limits are own.
-- Example: the second of two protocols `static` without a name is called static2.
use Rattle.std.specs.Prelude.{ℕ, zero, suc, ◌+◌, not, nat_lt, if◌then◌else◌, List, [], ◌∷◌, ◌++◌, length, Option, Some, None, codes, decimal}
use Rattle.std.specs.List.{list_any}
use Rattle.conf_ast.specs.declared.named.Name.{Name}
use Rattle.conf_ast.specs.Names.{name_bytes}
use Rattle.conf_ast.specs.declared.kind.ConfKind.TheVariants as kinds
use Rattle.conf_names.specs.declared.refusal.Refusal.{Refusal}
use Rattle.conf_names.specs.Known.{Known, is_declared, number, too_long}
use Rattle.conf_names.specs.Refusals.{refused_if}

-- how many names of constants, functions and other things there are
abbrev pub names : Known → ℕ
names known =
    length known.scene.constants + (length known.scene.functions + length known.scene.others)

-- the first number from this one on whose name isn't declared, of so many numbers, and the one
-- behind them where each name is
abbrev pub free_from : Known → (stem : List ℕ) → (count first : ℕ) → ℕ
free_from known stem zero first = first
free_from known stem (suc count) first =
    if is_declared known (stem ++ decimal first)
    then free_from known stem count (suc first) else first

-- The least number from 1 on that gives a name not declared so far. One of the numbers up to that
-- of all names does, or the next one.
abbrev pub free_number : Known → (stem : List ℕ) → ℕ
free_number known stem = free_from known stem (names known) 1

-- A protocol without a name is called by its kind and that number.
abbrev pub own_name : Known → (stem : List ℕ) → Option Name → List ℕ
own_name known stem None = stem ++ decimal (free_number known stem)
own_name known stem (Some n) = name_bytes known.scene.text n

abbrev pub static_stem : List ℕ
static_stem = codes "static"

abbrev pub bgp_stem : List ℕ
bgp_stem = codes "bgp"

abbrev pub pipe_stem : List ℕ
pipe_stem = codes "pipe"

-- A pipe has two channels, each with a name of its own.
abbrev pub pipe_names : List ℕ → List (List ℕ)
pipe_names name = name ∷ (name ++ codes ".export") ∷ (name ++ codes ".import") ∷ []

-- where a protocol is refused: at its name, or at its kind's word
abbrev pub place_of : (at : ℕ) → Option Name → ℕ
place_of at None = at
place_of at (Some n) = n.at

abbrev pub name_too_long : Known → Option Name → List Refusal
name_too_long known None = []
name_too_long known (Some n) = too_long known n

-- How many protocols there may be.
abbrev pub most_protocols : ℕ
most_protocols = 256

-- what is refused of a protocol that declares these names, and of there being one more
abbrev pub declaring : Known → (at : ℕ) → Option Name → List (List ℕ) → List Refusal
declaring known at name declared =
    refused_if (list_any (is_declared known) declared) (place_of at name) kinds.DuplicateName
    ++ name_too_long known name
    ++ refused_if (not (nat_lt known.protocols most_protocols)) (place_of at name) kinds.Limit
