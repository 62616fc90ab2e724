-- What a text says of configurations (`SaysSomething`): whether it is one, and where and why it is
-- refused.
-- Not modelled: what it configures.
-- From: own.
-- Example: `router id 10.0.0.0/8;` is refused, in line 1 and column 19.
use Rattle.std.specs.Prelude.{◌⊎◌, ℕ, List}
use Rattle.conf_ast.specs.declared.kind.ConfKind.{ConfKind}
use Rattle.conf_system.specs.System.{System}
use Rattle.conf_system.specs.Texts.{IsRefusedAt, IsSystem}

-- The file is a configuration, or it is refused.
abbrev pub SaysSomething : List ℕ → Type 0
SaysSomething file = ((system : System) × IsSystem file system)
    ⊎ ((line : ℕ) × (column : ℕ) × (kind : ConfKind) × IsRefusedAt file line column kind)
