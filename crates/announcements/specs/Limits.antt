-- Which numbers of an `add` are small enough (`given_fits`). A path has at most 120 numbers and a list
-- at most 64 communities, which are limits of this program; numbers have 32 bits and the parts of a
-- community sixteen.
-- From: RFC 6793, RFC 4271, RFC 1997; the limits of lists are own.
-- Example: 4294967296 doesn't fit, and `65536:1` doesn't.
use Rattle.std.specs.Prelude.{ℕ, Bool, true, ◌&&◌, nat_le}
use Rattle.std.specs.Prelude.{List, length, Option, None, Some}
use Rattle.std.specs.List.{list_all}
use Rattle.import_core.specs.declared.operation.Given.{Given}

-- what fits a number of 32 bits
abbrev pub fits : ℕ → Bool
fits n = nat_le n 4294967295

abbrev pub option_fits : Option ℕ → Bool
option_fits None = true
option_fits (Some n) = fits n

abbrev pub pair_fits : ℕ × ℕ → Bool
pair_fits pair = nat_le pair.0 65535 && nat_le pair.1 65535

abbrev pub path_fits : List ℕ → Bool
path_fits path = list_all fits path && nat_le (length path) 120

abbrev pub coms_fit : List (ℕ × ℕ) → Bool
coms_fit coms = list_all pair_fits coms && nat_le (length coms) 64

abbrev pub given_fits : Given → Bool
given_fits given =
    path_fits given.path && option_fits given.med && option_fits given.lp
    && option_fits given.igp && coms_fit given.coms
