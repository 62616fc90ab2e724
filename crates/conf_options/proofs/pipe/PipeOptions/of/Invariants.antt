use Rattle.std.proofs.Common.{◌≡◌, fold, map, take}
use Rattle.conf_ast.specs.Configurations.{pipe_setting_of}
use Rattle.conf_options.specs.Options.{no_pipe_options, pipe_options_of, with_pipe_option}
use Rattle.conf_options.proofs.pipe.PipeOptions.of.Given as goal

abbrev pub invariant-loop-option : goal.invariant-loop-option
invariant-loop-option l = pipe_options_of l.found ≡ fold with_pipe_option no_pipe_options (map pipe_setting_of (take l.option-index l.options))
