-- What is refused of the value of a constant (`value`).
-- From: BIRD User's Guide, "Configuration", `define`.
-- Example: `define A = (70000, 1);` is C14 at 70000; `define Z = (B, 1);` with a truth value B is
-- C4.
use Rattle.std.specs.Prelude.{List, [], ◌++◌}
use Rattle.conf_ast.specs.declared.named.Name.{Name}
use Rattle.conf_ast.specs.declared.filters.Num.{Num}
use Rattle.conf_ast.specs.declared.kind.ConfKind.TheVariants as kinds
use Rattle.conf_ast.specs.Configurations.{Value, NumberValue, TextValue, AddressValue, PrefixValue, TrueValue, FalseValue, ValueOf, PairValue, SetValue, MaskValue}
use Rattle.conf_ast.specs.Filters.{SetOf, MaskOf}
use Rattle.filt_types.specs.Expressions.{judge}
use Rattle.filt_types.specs.Items as items
use Rattle.filt_types.specs.Items.{is_none}
use Rattle.filt_types.specs.Scenes.{constant_of}
use Rattle.conf_names.specs.declared.refusal.Refusal.{Refusal}
use Rattle.conf_names.specs.Known.{Known, number}
use Rattle.conf_names.specs.Refusals.{of_filters, refused_if}

-- the name of a constant of any sort
abbrev pub constant : Known → Name → List Refusal
constant known name =
    refused_if (is_none (constant_of known.scene name)) name.at kinds.UnknownName

-- The parts of a pair are numbers of at most 16 bits.
abbrev pub pair : Known → (first second : Num) → List Refusal
pair known a b =
    number known a ++ of_filters (items.over_16_bits known.scene a)
    ++ (number known b ++ of_filters (items.over_16_bits known.scene b))

-- Sets and masks are as in filters.
abbrev pub value : Known → Value → List Refusal
value known (NumberValue at n) = []
value known (TextValue q) = []
value known (AddressValue a) = []
value known (PrefixValue at net) = []
value known (TrueValue at) = []
value known (FalseValue at) = []
value known (ValueOf name) = constant known name
value known (PairValue at a b) = pair known a b
value known (SetValue at elements) = of_filters (judge known.scene [] (SetOf at elements)).refusals
value known (MaskValue at elements) =
    of_filters (judge known.scene [] (MaskOf at elements)).refusals
