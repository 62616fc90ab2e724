-- Which words can be names of protocols, tables, filters and channels (`is_name`).
-- Not modelled: which names a configuration declares.
-- From: own, as the names of BIRD's language (BIRD User's Guide, "Configuration file format"), with
-- the dots, colons and hyphens that it takes between quotes.
-- Example: `p1`, `master4`, `p1.export` and `all` can be; `p$` and `"p1"` can't.
use Rattle.std.specs.Prelude.{ℕ, Bool, not, ◌&&◌, ◌||◌, ◌==◌, List, length}
use Rattle.std.specs.Char.{is_ascii_alphanumeric}
use Rattle.std.specs.List.{list_all}

-- letters, digits, `_`, `-`, `.` and `:`
abbrev pub is_name_byte : ℕ → Bool
is_name_byte b = is_ascii_alphanumeric b || (b == 95) || (b == 45) || (b == 46) || (b == 58)

-- one or more such bytes
abbrev pub is_name : List ℕ → Bool
is_name word = not (length word == 0) && list_all is_name_byte word
