-- The bytes of a name in its source (`name_bytes`).
-- Not modelled: what a name stands for.
-- From: own; names are of BIRD User's Guide, "Configuration".
-- Example: of `'a-b'` those between the quotes.
use Rattle.std.specs.Prelude.{ℕ, List, take, drop}
use Rattle.conf_ast.specs.declared.named.Name.{Name}

-- those of the source from the name's start on
abbrev pub name_bytes : List ℕ → Name → List ℕ
name_bytes text n = take n.len (drop n.start text)
