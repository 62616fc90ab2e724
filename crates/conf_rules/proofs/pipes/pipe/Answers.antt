use Rattle.std.proofs.Common.{List, map, ap}
use Rattle.conf_ast.specs.declared.configurations.PipeOption.{PipeOption}
use Rattle.conf_ast.specs.Configurations.{pipe_setting_of, instance_of}
use Rattle.conf_options.specs.Options.{pipe_options_of}
use Rattle.conf_names.specs.Seen.{known_of}
use Rattle.conf_rules.proofs.Wholes.{pipe_first}
use Rattle.conf_rules.proofs.pipes.pipe.Goals as goal

pub returns : goal.returns
returns c =
    pipe_first (known_of c.args.text.now c.args.declared.now) (instance_of pipe_setting_of c.args.protocol.now) c.place_of-at.result (map pipe_setting_of c.as_slice-options.result.now) (pipe_options_of c.of-found.result) c.args.first.now c.declaring_pipe.new.first c.settings.new.first c.want_peer.new.first c.peer_family.new.first c.cycle.new.first
    c.place_of-at.ensures (ap (λ (xs : List PipeOption). map pipe_setting_of xs) c.as_slice-options.ensures.value) c.of-found.ensures c.in_ok-declaring_pipe.ensures c.in_ok-settings.ensures c.want_peer.ensures c.peer_family.ensures c.in_ok-cycle.ensures
