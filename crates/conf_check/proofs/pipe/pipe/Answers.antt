use Rattle.std.proofs.Common.{List, ℕ, Option, map, ap, subst, sym, ◌∙◌}
use Rattle.bits_ip.specs.declared.address.Family.{Family}
use Rattle.conf_ast.specs.declared.named.Name.{Name}
use Rattle.conf_ast.specs.declared.configurations.PipeOption.{PipeOption}
use Rattle.conf_ast.specs.Configurations.{instance_of, pipe_setting_of}
use Rattle.conf_options.specs.Options.{PipeOptions, pipe_options, pipe_options_of}
use Rattle.conf_names.specs.Known.{table_number}
use Rattle.conf_names.specs.Seen.{known_of}
use Rattle.filt_types.specs.Items.{is_none}
use Rattle.conf_check.specs.declared.checked.PipeDef.{PipeDef}
use Rattle.conf_check.specs.Checked.{IsPeer, or_v4}
use Rattle.conf_check.specs.Seen.{Means}
use Rattle.conf_check.proofs.Options.{pipe_is}
use Rattle.conf_check.proofs.pipe.pipe.Goals as goal

pub peer_name-peer-requires : goal.peer_name-peer-requires
peer_name-peer-requires c =
    ap (λ (o : PipeOptions). is_none o.peer) (c.of-found.ensures ∙ ap (λ (xs : List PipeOption). pipe_options (map pipe_setting_of xs)) c.as_slice.ensures.value) ∙ c.requires

pub returns : goal.returns
returns c =
    let text = c.args.text.now in
    let known = known_of text c.args.declared.now in
    let def : PipeDef = record { family = c.known_family.result; table = c.primary.result; peer = c.table_number.result; import = c.in_ok-import.import; export = c.in_ok-export.export } in
    pipe_is known (Means text c.args.declared.now.scope) (instance_of pipe_setting_of c.args.protocol.now) (map pipe_setting_of c.as_slice.result.now) (pipe_options_of c.of-found.result) def
    (ap (λ (xs : List PipeOption). map pipe_setting_of xs) c.as_slice.ensures.value) c.of-found.ensures c.primary.ensures
    (subst (λ (o : Option Name). IsPeer known o def) (sym c.peer_name-peer.ensures)
    (c.table_number.ensures text ∙ ap (λ (n : List ℕ). table_number known n) c.bytes.ensures, c.known_family.ensures ∙ ap (λ (o : Option Family). or_v4 o) c.table_of.ensures))
    c.in_ok-import.ensures c.in_ok-export.ensures
