-- The tables that a pipe joins.
use Rattle.std.proofs.Common.{◌≡◌, ℕ, ◌<◌, List, length, Option, Some, None, ap}
use Rattle.std.proofs.lemmas.Option.{none-some, same_Some}
use Rattle.conf_ast.specs.Configurations.{PipeSetting}
use Rattle.conf_ast.specs.declared.named.Name.{Name}
use Rattle.conf_ast.specs.Names.{name_bytes}
use Rattle.conf_options.specs.Options.{pipe_options}
use Rattle.conf_names.specs.declared.joints.Joint.{Joint}
use Rattle.conf_names.specs.Joints.{IsWithin}
use Rattle.conf_names.specs.Known.{Known}
use Rattle.conf_rules.specs.Protocols.{joint, joint_of, peer_number, primary_number, primary_name}
use Rattle.conf_names.proofs.Places.{known_below}

peer_below : (known : Known) (name : Option Name) (n : ℕ) → peer_number known name ≡ Some n → n < length known.tables
peer_below known None n h = absurd (none-some n h)
peer_below known (Some name) n h = known_below known (name_bytes known.scene.text name) n h

joint_by : (t p : Option ℕ) (j : Joint) → joint t p ≡ Some j → (t ≡ Some j.table) × (p ≡ Some j.peer)
joint_by None p j h = absurd (none-some j h)
joint_by (Some t) None j h = absurd (none-some j h)
joint_by (Some t) (Some p) j h =
    let is : record { table = t; peer = p } ≡ j = same_Some (record { table = t; peer = p }) j h in
    (ap (λ (x : Joint). Some x.table) is, ap (λ (x : Joint). Some x.peer) is)

-- the tables that a pipe joins are declared
pub joint_within : (known : Known) (ss : List PipeSetting) (j : Joint) → joint_of known ss ≡ Some j → IsWithin (length known.tables) j
joint_within known ss j h =
    let o = pipe_options ss in
    let are = joint_by (primary_number known o.table) (peer_number known o.peer) j h in
    (known_below known (primary_name known.scene.text o.table) j.table are.0, peer_below known o.peer j.peer are.1)
