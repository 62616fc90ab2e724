use Rattle.std.proofs.Common.{List, ℕ, [], ◌∷◌, ◌++◌, ap, ◌∙◌, refl}
use Rattle.conf_ast.specs.Configurations as conf
use Rattle.conf_ast.specs.Configurations.{instance_of, bgp_setting_of}
use Rattle.conf_names.specs.Names.{own_name, bgp_stem}
use Rattle.conf_names.specs.Seen.{known_of}
use Rattle.conf_check.specs.declared.checked.ProtocolBody.TheVariants as bodies
use Rattle.conf_check.specs.Seen.{other_names}
use Rattle.conf_check.proofs.Allowed.{is_free, bgp_few, bgp_free, bgp_has_one}
use Rattle.conf_check.proofs.Growing.{protocol_declares}
use Rattle.conf_check.proofs.Names.{among}
use Rattle.conf_check.proofs.statements.add_bgp.Goals as goal

pub bgp-requires : goal.bgp-requires
bgp-requires c = bgp_has_one (known_of c.args.text.now c.args.checked.now.declared) (instance_of bgp_setting_of c.args.protocol.now) c.requires.0

pub declare-requires : goal.declare-requires
declare-requires c =
    let known = known_of c.args.text.now c.args.checked.now.declared in
    let p = instance_of bgp_setting_of c.args.protocol.now in
    ap (λ (n : List ℕ). among (other_names c.args.checked.now.declared.scope) n) (c.deref.ensures.value ∙ c.in_ok-name.ensures)
    ∙ (is_free known (own_name known bgp_stem p.name) (bgp_free known p c.requires.0)).others

pub push_protocol-requires : goal.push_protocol-requires
push_protocol-requires c = bgp_few (known_of c.args.text.now c.args.checked.now.declared) (instance_of bgp_setting_of c.args.protocol.now) c.requires.0

pub returns : goal.returns
returns c =
    let known = known_of c.args.text.now c.args.checked.now.declared in
    let p = instance_of bgp_setting_of c.args.protocol.now in
    record {
      declares = protocol_declares c.args.text.now (conf.Bgp p) c.args.checked.now.declared c.push_protocol.new.checked.declared c.declare.new.scope (own_name known bgp_stem p.name ∷ []) refl (λ x. refl)
          c.in_ok-declare.ensures.stays (c.in_ok-declare.ensures.others ∙ ap (λ (n : List ℕ). other_names c.args.checked.now.declared.scope ++ n ∷ []) (c.deref.ensures.value ∙ c.in_ok-name.ensures))
          c.in_ok-push_protocol.ensures.scope (c.in_ok-push_protocol.ensures.known c.args.text.now);
      filters = c.in_ok-push_protocol.ensures.filters;
      protocols = (record { at = c.place_of-at.result; name = c.in_ok-name.name.items; body = bodies.Bgp c.in_ok-def.def }, c.in_ok-push_protocol.ensures.protocols, record { at = c.place_of-at.ensures; name = c.in_ok-name.ensures; body = c.in_ok-def.ensures });
      places = c.in_ok-push_protocol.ensures.places;
      end = c.in_ok-push_protocol.ensures.end;
    }
