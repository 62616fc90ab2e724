use Rattle.conf_lex.proofs.PartShapes.{gives_along}
use Rattle.conf_tree.specs.View.{bgp_option_tree}
use Rattle.conf_tree.proofs.BgpSteps.{med_is, interpret_is, bgp_transport}
use Rattle.conf_tree.proofs.bgp.switch_option.Goals as goal

pub returns-in-Some : goal.returns-in-Some
returns-in-Some c =
    gives_along bgp_option_tree _ _ _ (med_is c.args.depth_left c.args.words.now c.in-Some.rest.now c.in-Some.ensures) c.med_metric.ensures

pub returns-in-Some-after : goal.returns-in-Some-after
returns-in-Some-after c =
    gives_along bgp_option_tree _ _ _ (interpret_is c.args.depth_left c.args.words.now c.in-Some-after.rest.now c.in-Some-after.ensures) c.interpret.ensures

pub returns-in-None : goal.returns-in-None
returns-in-None c =
    gives_along bgp_option_tree _ _ _ (bgp_transport c.args.depth_left c.args.words.now (record {
      family = c.requires.family;
      local = c.requires.local;
      neighbor = c.requires.neighbor;
      med = c.in_default.ensures;
      interpret = c.in-None.ensures;
      default = c.requires.default;
    })) c.transport_option.ensures
