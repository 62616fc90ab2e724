use Rattle.conf_lex.proofs.PartShapes.{gives_along}
use Rattle.conf_syntax.specs.View.{transport_tree}
use Rattle.conf_syntax.proofs.TransportSteps.{description_is, password_is, source_is, hold_is, keepalive_is}
use Rattle.conf_syntax.proofs.transport.transport.Goals as goal

pub returns-in-Some : goal.returns-in-Some
returns-in-Some c =
    gives_along transport_tree _ _ _ (description_is c.args.words.now c.in-Some.rest.now c.in-Some.ensures) c.description.ensures

pub returns-in-Some-after : goal.returns-in-Some-after
returns-in-Some-after c =
    gives_along transport_tree _ _ _ (password_is c.args.words.now c.in-Some-after.rest.now c.in-Some-after.ensures) c.password.ensures

pub returns-in-Some-after_attribute : goal.returns-in-Some-after_attribute
returns-in-Some-after_attribute c =
    gives_along transport_tree _ _ _ (source_is c.in-Some-after_attribute.at c.args.words.now c.in-Some-after_attribute.rest.now c.in-Some-after_attribute.ensures) c.source_address.ensures

pub returns-in-Some-after-2 : goal.returns-in-Some-after-2
returns-in-Some-after-2 c =
    gives_along transport_tree _ _ _ (hold_is c.args.words.now c.in-Some-after-2.rest.now c.in-Some-after-2.ensures) c.hold_time.ensures

pub returns-in-Some-after-3 : goal.returns-in-Some-after-3
returns-in-Some-after-3 c =
    gives_along transport_tree _ _ _ (keepalive_is c.args.words.now c.in-Some-after-3.rest.now c.in-Some-after-3.ensures) c.keepalive_time.ensures
