use Rattle.std.proofs.Common.{◌≡◌, ℕ, List, map, take}
use Rattle.filt_meaning.specs.declared.scope.Scope.{Scope}
use Rattle.filt_meaning.specs.declared.tree.TFilter.{TFilter}
use Rattle.conf_system.specs.Seen.{protocol_seen}
use Rattle.sys_build.specs.Names.{named_protocol}
use Rattle.sys_build.proofs.names.protocols.Given as goal

abbrev pub invariant-loop-def : goal.invariant-loop-def
invariant-loop-def l =
    (scope : Scope) (filters : List TFilter) (names : List (List ℕ)) → l.named.items ≡ map named_protocol (map (protocol_seen scope filters names) (take l.def-index l.defs))
