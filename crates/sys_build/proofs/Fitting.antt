-- The numbers of tables fit 32 bits, since there are few tables.
use Rattle.std.proofs.Common.{◌≡◌, refl, sym, subst, ℕ, Bool, zero, suc, ◌<◌, ◌^◌, List, [], ◌∷◌, length, map, get_or, arith}
use Rattle.std.specs.List.{All}
use Rattle.std.specs.Prelude.{slice_index_or}
use Rattle.std.proofs.lemmas.List.Elements.{All-cons, All-head, All-nil, All-tail}
use Rattle.conf_check.specs.declared.checked.ProtocolBody.{ProtocolBody}
use Rattle.conf_check.specs.declared.checked.ProtocolBody.TheVariants as bodies
use Rattle.conf_check.specs.declared.checked.ProtocolDef.{ProtocolDef}
use Rattle.filt_meaning.specs.declared.scope.Scope.{Scope}
use Rattle.filt_meaning.specs.declared.tree.TFilter.{TFilter}
use Rattle.script_lines.specs.Kinds.{AreFew}
use Rattle.script_lines.specs.Script.{HasTables}
use Rattle.script_lines.specs.declared.named.NamedProtocol.{NamedProtocol}
use Rattle.conf_system.specs.Seen.{body_seen, protocol_seen, system_of}
use Rattle.conf_system.specs.declared.system.System.{System as Held}
use Rattle.sys_build.specs.Names.{held_table, named_of, named_protocol, table_of}

index_is : (defs : List ProtocolDef) (i : ℕ) (d : ProtocolDef) → slice_index_or defs i d ≡ get_or defs i d
index_is [] zero d = refl
index_is [] (suc i) d = refl
index_is (x ∷ defs) zero d = refl
index_is (x ∷ defs) (suc i) d = index_is defs i d

abbrev Fits32 : ProtocolDef → Type 0
Fits32 def = held_table def.body < 2 ^ 32

pub one_fits : (defs : List ProtocolDef) (i : ℕ) (d : ProtocolDef) → All Fits32 defs → i < length defs → d ≡ get_or defs i d → Fits32 d
one_fits defs i d all below is = subst Fits32 (sym is) (subst Fits32 (index_is defs i d) (all i d below))

module _ (scope : Scope) (filters : List TFilter) (names : List (List ℕ)) where
  held_is : (body : ProtocolBody) → table_of (body_seen scope filters names body) ≡ held_table body
  held_is (bodies.Static p) = refl
  held_is (bodies.Bgp p) = refl
  held_is (bodies.Pipe p) = refl

  all_fit : (defs : List ProtocolDef) (n : ℕ) → n < 2 ^ 32 → All (λ (p : NamedProtocol). p.table < n) (map named_protocol (map (protocol_seen scope filters names) defs)) → All Fits32 defs
  all_fit [] n few all = All-nil Fits32
  all_fit (d ∷ defs) n few all =
      let first = All-head (λ (p : NamedProtocol). p.table < n) (named_protocol (protocol_seen scope filters names d)) (map named_protocol (map (protocol_seen scope filters names) defs)) all in
      let more = All-tail (λ (p : NamedProtocol). p.table < n) (named_protocol (protocol_seen scope filters names d)) (map named_protocol (map (protocol_seen scope filters names) defs)) all in
      All-cons Fits32 d defs (omega (arith, few, first, held_is d.body)) (all_fit defs n few more)

pub tables_fit : (held : Held) (schedule : Bool) → AreFew (named_of (system_of held) schedule) → HasTables (named_of (system_of held) schedule) → All Fits32 held.checked.protocols.items
unfolding named_of
tables_fit held schedule few tables =
    all_fit held.checked.declared.scope held.checked.filters.items held.names held.checked.protocols.items (length (named_of (system_of held) schedule).tables) few.tables tables.protocols
