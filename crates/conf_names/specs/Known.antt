-- What a configuration declares before one of its statements, as the rules see it (`Known`): names
-- that are taken, tables with their families, filters, how many protocols, what pipes join.
-- From: BIRD User's Guide, "Configuration"; one space for all names is own.
-- Example: `ipv4 table t; filter t { accept; }` is refused at 1:22 as C5.
use Rattle.std.specs.Prelude.{ℕ, suc, Bool, not, nat_lt, if◌then◌else◌, List, [], ◌∷◌, ◌++◌, length, map, Option, option_map}
use Rattle.std.specs.List.{All, list_any}
use Rattle.bits_ip.specs.declared.address.Family.{Family}
use Rattle.conf_ast.specs.declared.named.Name.{Name}
use Rattle.conf_ast.specs.Names.{name_bytes}
use Rattle.conf_ast.specs.declared.filters.Num.{Num}
use Rattle.conf_ast.specs.declared.kind.ConfKind.TheVariants as kinds
use Rattle.filt_meaning.specs.Names.{named_in, same_name}
use Rattle.filt_types.specs.Items as items
use Rattle.filt_types.specs.Items.{is_none}
use Rattle.filt_types.specs.Scenes.{Scene, is_seen}
use Rattle.conf_names.specs.declared.joints.Joint.{Joint}
use Rattle.conf_names.specs.declared.refusal.Refusal.{Refusal}
use Rattle.conf_names.specs.Joints.{IsWithin}
use Rattle.conf_names.specs.Refusals.{of_filters, refused_if}

-- What is declared: the source, constants, functions and all other names (the scene of filters);
-- the tables with their families, and the names of the filters, each in the order of its numbers;
-- how many protocols there are, and which tables the pipes among them join, in their order. The
-- tables master4 and master6 are there from the start.
pub record Known : Type 0 where
  pub scene : Scene
  pub tables : List (List ℕ × Family)
  pub filters : List (List ℕ)
  pub protocols : ℕ
  pub pipes : List Joint

-- The tables that pipes join are declared. So it is behind all statements of a configuration.
abbrev pub ArePipesThere : Known → Type 0
ArePipesThere known = All (IsWithin (length known.tables)) known.pipes

-- ---- names

-- All names share one space.
abbrev pub is_declared : Known → List ℕ → Bool
is_declared known name = is_seen known.scene [] name

-- The most bytes of a name.
abbrev pub longest_name : ℕ
longest_name = 64

abbrev pub too_long : Known → Name → List Refusal
too_long known n =
    refused_if (nat_lt longest_name (length (name_bytes known.scene.text n))) n.at kinds.Limit

-- what is refused of a name that is declared here: it is declared already, or over 64 bytes long
abbrev pub declaring : Known → Name → List Refusal
declaring known n =
    refused_if (is_declared known (name_bytes known.scene.text n)) n.at kinds.DuplicateName
    ++ too_long known n

-- ---- uses of names

-- the family of the table of that name
abbrev pub table_of : Known → Name → Option Family
table_of known n = named_in known.tables (name_bytes known.scene.text n)

abbrev pub table : Known → Name → List Refusal
table known n = refused_if (is_none (table_of known n)) n.at kinds.UnknownName

-- the place of a name in a list, behind the last one where it isn't there
abbrev pub place_in : List (List ℕ) → List ℕ → ℕ
place_in [] name = 0
place_in (n ∷ ns) name = if same_name n name then 0 else suc (place_in ns name)

-- the number of the table of that name, behind the last one where there is none
abbrev pub table_number : Known → List ℕ → ℕ
table_number known name = place_in (map (λ t. t.0) known.tables) name

-- the same where there is one
abbrev pub known_number : Known → List ℕ → Option ℕ
known_number known name =
    option_map (λ family. table_number known name) (named_in known.tables name)

abbrev pub is_filter : Known → Name → Bool
is_filter known n = list_any (λ name. same_name name (name_bytes known.scene.text n)) known.filters

abbrev pub filter : Known → Name → List Refusal
filter known n = refused_if (not (is_filter known n)) n.at kinds.UnknownName

-- a number as it is written, or the name of a constant that is a number
abbrev pub number : Known → Num → List Refusal
number known n = of_filters (items.number known.scene n)

abbrev pub number_of : Known → Num → Option ℕ
number_of known n = items.value_of known.scene n
