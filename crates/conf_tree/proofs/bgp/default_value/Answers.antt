use Rattle.conf_lex.proofs.PartShapes.{gives_along}
use Rattle.conf_tree.specs.View.{bgp_option_tree}
use Rattle.conf_tree.proofs.BgpSteps.{default_med, default_local_pref, default_bad}
use Rattle.conf_tree.proofs.bgp.default_value.Goals as goal

pub returns-in-Some : goal.returns-in-Some
returns-in-Some c =
    gives_along bgp_option_tree _ _ _ (default_med c.args.depth_left c.in-Some.at c.args.words.now c.args.behind.now c.in-Some.rest.now c.requires c.in-Some.ensures) c.default_med.ensures

pub returns-in-Some-after_attribute : goal.returns-in-Some-after_attribute
returns-in-Some-after_attribute c =
    gives_along bgp_option_tree _ _ _ (default_local_pref c.args.depth_left c.in-Some-after_attribute.at c.args.words.now c.args.behind.now c.in-Some-after_attribute.rest.now c.requires c.in-Some-after_attribute.ensures) c.default_local_pref.ensures

pub returns-in-None : goal.returns-in-None
returns-in-None c =
    default_bad c.args.depth_left c.args.words.now c.args.behind.now c.requires c.in_default.ensures c.in-None.ensures
