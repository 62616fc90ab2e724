use Rattle.std.proofs.Common.{◌≡◌, map, drop}
use Rattle.conf_lex.specs.Symbols.{lookup}
use Rattle.conf_lex.proofs.keywords.find.Given as goal

-- No entry before this place has the spelling.
abbrev pub invariant-loop-entry : goal.invariant-loop-entry
invariant-loop-entry g l = lookup l.bytes (map (λ entry. (entry.0.now, entry.1)) l.table) ≡ lookup l.bytes (map (λ entry. (entry.0.now, entry.1)) (drop l.entry-index l.table))
