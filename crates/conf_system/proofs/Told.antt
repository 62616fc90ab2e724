-- What is told of a text that is refused, and of one that is accepted.
use Rattle.std.proofs.Common.{◌≡◌, sym, subst, refl, ℕ, List, map, Some, None, inl, inr}
use Rattle.conf_tree.specs.Read as tree
use Rattle.conf_tree.specs.Read.{IsConfigText, IsRefusedText}
use Rattle.conf_tree.specs.View.{statements_tree}
use Rattle.conf_ast.specs.declared.kind.ConfFault.{ConfFault}
use Rattle.conf_ast.specs.declared.kind.ConfFault.TheVariants as conf_faults
use Rattle.conf_ast.specs.declared.kind.ConfKind.{ConfKind}
use Rattle.conf_ast.specs.declared.configurations.Statement.{Statement}
use Rattle.conf_ast.specs.Configurations.{configuration_of}
use Rattle.conf_check.specs.Behind.{at_start}
use Rattle.conf_check.specs.Refused as check
use Rattle.conf_check.specs.Refused.{refusal_of}
use Rattle.conf_check.specs.Checked.{IsChecked}
use Rattle.conf_system.proofs.Agrees.{system_agrees}
use Rattle.conf_system.specs.Seen.{IsTold, system_of}
use Rattle.conf_system.specs.Texts.{IsAcceptedText, IsFault, IsSystem, refused_in}
use Rattle.conf_system.specs.declared.read.SystemFault.{SystemFault}
use Rattle.conf_system.specs.declared.read.SystemFault.TheVariants as faults
use Rattle.conf_system.specs.declared.system.System.{System as Held}

-- refused for want of a token or by the grammar
pub tree_told : (text : List ℕ) (fault : ConfFault) (r : SystemFault) → tree.IsFault text fault → IsTold text fault r → IsFault text r
tree_told text (conf_faults.Refused at kind) (faults.Refused line column other) is told =
    (at, inl (subst (λ (k : ConfKind). IsRefusedText text at k) (sym told.0) is), told.1)
tree_told text conf_faults.Memory faults.Memory is told = tt
tree_told text (conf_faults.Refused at kind) faults.Memory is told = absurd told
tree_told text conf_faults.Memory (faults.Refused line column other) is told = absurd told

-- refused when it is checked
pub check_told : (text : List ℕ) (all : List Statement) (fault : ConfFault) (r : SystemFault) → IsConfigText text (statements_tree all)
    → check.IsFault fault (refusal_of (at_start text) (configuration_of all)) → IsTold text fault r → IsFault text r
unfolding refused_in
check_told text all (conf_faults.Refused at kind) (faults.Refused line column other) is refused told = (
  at,
  inr (record {
    statements = all;
    tree = is;
    refused = subst (λ (k : ConfKind). refusal_of (at_start text) (configuration_of all) ≡ Some (record { at = at; kind = k })) (sym told.0) refused;
  }),
  told.1,
)
check_told text all conf_faults.Memory faults.Memory is refused told = tt
check_told text all (conf_faults.Refused at kind) faults.Memory is refused told = absurd told
check_told text all conf_faults.Memory (faults.Refused line column other) is refused told = absurd told

accepted : (text : List ℕ) (all : List Statement) → IsConfigText text (statements_tree all) → refusal_of (at_start text) (configuration_of all) ≡ None → IsAcceptedText text (configuration_of all)
unfolding refused_in
accepted text all is none = record { statements = all; tree = is; are = refl; accepted = none }

-- what is held of a text that is accepted
pub held_told : (text : List ℕ) (all : List Statement) (held : Held) → IsConfigText text (statements_tree all) → refusal_of (at_start text) (configuration_of all) ≡ None
    → IsChecked text (configuration_of all) held.checked → held.names ≡ map (λ def. def.name) held.checked.protocols.items → IsSystem text (system_of held)
held_told text all held is none checked names = (
  configuration_of all,
  accepted text all is none,
  system_agrees text (configuration_of all) held checked names,
)
