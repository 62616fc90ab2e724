use Rattle.std.proofs.Common.{List, ℕ, ◌++◌, map, ap, ◌∙◌}
use Rattle.std.specs.List.{list_any}
use Rattle.conf_ast.specs.declared.configurations.PipeOption.{PipeOption}
use Rattle.conf_ast.specs.Configurations.{instance_of, pipe_setting_of}
use Rattle.conf_rules.specs.Protocols.{joint_of}
use Rattle.conf_names.specs.Names.{pipe_names}
use Rattle.conf_names.specs.Seen.{known_of}
use Rattle.conf_check.specs.declared.checked.ProtocolBody.TheVariants as bodies
use Rattle.conf_check.specs.Seen.{other_names}
use Rattle.conf_check.proofs.Allowed.{pipe_few, pipe_free, pipe_has_peer}
use Rattle.conf_check.proofs.Growing.{pipe_declares}
use Rattle.conf_check.proofs.Names.{among}
use Rattle.conf_check.proofs.statements.add_pipe.Goals as goal

pub pipe-requires : goal.pipe-requires
pipe-requires c = pipe_has_peer (known_of c.args.text.now c.args.checked.now.declared) (instance_of pipe_setting_of c.args.protocol.now) c.requires.0

pub declare_pipe-requires : goal.declare_pipe-requires
declare_pipe-requires c =
    let known = known_of c.args.text.now c.args.checked.now.declared in
    let p = instance_of pipe_setting_of c.args.protocol.now in
    ap (λ (n : List ℕ). list_any (among (other_names c.args.checked.now.declared.scope)) (pipe_names n)) (c.deref.ensures.value ∙ c.in_ok-name.ensures) ∙ pipe_free known p c.requires.0

pub push_protocol-requires : goal.push_protocol-requires
push_protocol-requires c = pipe_few (known_of c.args.text.now c.args.checked.now.declared) (instance_of pipe_setting_of c.args.protocol.now) c.requires.0

pub returns : goal.returns
returns c =
    let known = known_of c.args.text.now c.args.checked.now.declared in
    let p = instance_of pipe_setting_of c.args.protocol.now in
    record {
      declares = pipe_declares c.args.text.now p c.args.checked.now.declared c.push_protocol.new.checked.declared c.declare_joint.new.declared c.declare_pipe.new.scope c.joint_of-joint.result (c.joint_of-joint.ensures ∙ ap (λ (xs : List PipeOption). joint_of known (map pipe_setting_of xs)) c.as_slice.ensures.value)
          c.in_ok-declare_pipe.ensures.stays (c.in_ok-declare_pipe.ensures.others ∙ ap (λ (n : List ℕ). other_names c.args.checked.now.declared.scope ++ pipe_names n) (c.deref.ensures.value ∙ c.in_ok-name.ensures))
          c.in_ok-push_protocol.ensures.scope (c.in_ok-push_protocol.ensures.known c.args.text.now)
          c.in_ok-declare_joint.ensures.scope (c.in_ok-declare_joint.ensures.known c.args.text.now);
      filters = c.in_ok-push_protocol.ensures.filters;
      protocols = (record { at = c.place_of-at.result; name = c.in_ok-name.name.items; body = bodies.Pipe c.in_ok-def.def }, c.in_ok-push_protocol.ensures.protocols, record { at = c.place_of-at.ensures; name = c.in_ok-name.ensures; body = c.in_ok-def.ensures });
      places = c.in_ok-push_protocol.ensures.places;
      end = c.in_ok-push_protocol.ensures.end;
    }
