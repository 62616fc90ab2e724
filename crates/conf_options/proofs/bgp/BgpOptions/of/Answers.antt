use Rattle.conf_ast.specs.Configurations.{bgp_setting_of}
use Rattle.conf_options.specs.Options.{no_bgp_options, with_bgp_option}
use Rattle.conf_options.proofs.Folds.{ends, turn}
use Rattle.conf_options.proofs.bgp.BgpOptions.of.Goals as goal

pub loop-option-preserved : goal.loop-option-preserved
loop-option-preserved c = turn with_bgp_option bgp_setting_of no_bgp_options c.args.options.now c.loop-option.option-index c.option-item.result c.loop-option.found c.set.new.self c.loop-option-test.true c.option-item.is c.loop-option.invariant c.set.ensures

pub returns : goal.returns
returns c = ends with_bgp_option bgp_setting_of no_bgp_options c.args.options.now c.loop-option.option-index c.loop-option.found c.loop-option-test.false c.loop-option.invariant
