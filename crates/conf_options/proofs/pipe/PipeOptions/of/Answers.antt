use Rattle.conf_ast.specs.Configurations.{pipe_setting_of}
use Rattle.conf_options.specs.Options.{no_pipe_options, pipe_options_of, with_pipe_option}
use Rattle.conf_options.proofs.Folds.{ends, turn}
use Rattle.conf_options.proofs.pipe.PipeOptions.of.Goals as goal

pub loop-option-preserved : goal.loop-option-preserved
loop-option-preserved c = turn with_pipe_option pipe_setting_of no_pipe_options c.args.options.now c.loop-option.option-index c.option-item.result (pipe_options_of c.loop-option.found) (pipe_options_of c.set.new.self) c.loop-option-test.true c.option-item.is c.loop-option.invariant c.set.ensures

pub returns : goal.returns
returns c = ends with_pipe_option pipe_setting_of no_pipe_options c.args.options.now c.loop-option.option-index (pipe_options_of c.loop-option.found) c.loop-option-test.false c.loop-option.invariant
