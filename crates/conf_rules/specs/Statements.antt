-- What is refused of a statement of a configuration (`refusals`), over what is declared before it.
-- All refusals are gathered, whichever of them counts.
-- From: BIRD User's Guide, "Configuration", "Global options".
-- Example: `ipv6 table master4;` is C5; `ipv4 table master4;` declares nothing.
use Rattle.std.specs.Prelude.{ℕ, Bool, not, nat_lt, if◌then◌else◌, List, [], ◌++◌, length, codes}
use Rattle.bits_ip.specs.declared.address.Family.{Family}
use Rattle.bits_ip.specs.declared.address.Family.TheVariants as families
use Rattle.conf_ast.specs.declared.named.Name.{Name}
use Rattle.conf_ast.specs.Names.{name_bytes}
use Rattle.conf_ast.specs.declared.kind.ConfKind.TheVariants as kinds
use Rattle.conf_ast.specs.Configurations as conf
use Rattle.filt_meaning.specs.Names.{same_name}
use Rattle.filt_types.specs.Refused as filters
use Rattle.conf_names.specs.declared.refusal.Refusal.{Refusal}
use Rattle.conf_names.specs.Constants.{value}
use Rattle.conf_names.specs.Known.{Known, declaring}
use Rattle.conf_rules.specs.Protocols.{bgp, pipe, static}
use Rattle.conf_names.specs.Names.{name_too_long}
use Rattle.conf_names.specs.Refusals.{of_filters, refused_if}

-- ---- tables

-- How many tables there may be, master4 and master6 among them.
abbrev pub most_tables : ℕ
most_tables = 64

abbrev pub master : Family → List ℕ
master families.V4 = codes "master4"
master families.V6 = codes "master6"

-- The statement of a table that is always there declares nothing.
abbrev pub is_master : Known → Family → Name → Bool
is_master known family n = same_name (name_bytes known.scene.text n) (master family)

-- what is refused of one more table
abbrev pub one_more_table : Known → Name → List Refusal
one_more_table known n =
    declaring known n
    ++ refused_if (not (nat_lt (length known.tables) most_tables)) n.at kinds.Limit

abbrev pub table : Known → Family → Name → List Refusal
table known family n = if is_master known family n then [] else one_more_table known n

-- ---- all statements

-- Names are seen behind their own statements. A protocol `device` declares nothing.
abbrev pub refusals : Known → conf.Declaration → List Refusal
refusals known (conf.RouterId a) = []
refusals known conf.Log = []
refusals known (conf.Define name v) = declaring known name ++ value known v
refusals known (conf.Table at family name) = table known family name
refusals known (conf.DefineFunction f) =
    declaring known f.name ++ of_filters (filters.of_function known.scene f)
refusals known (conf.DefineFilter at name ss) =
    declaring known name ++ of_filters (filters.of_filter known.scene name.at ss)
refusals known (conf.Device name semicolon) = name_too_long known name
refusals known (conf.Static p) = static known p
refusals known (conf.Bgp p) = bgp known p
refusals known (conf.Pipe p) = pipe known p
