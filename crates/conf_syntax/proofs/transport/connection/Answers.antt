use Rattle.conf_lex.proofs.PartShapes.{gives_along}
use Rattle.std.proofs.Common.{refl, ◌∙◌}
use Rattle.conf_syntax.specs.View.{transport_tree}
use Rattle.conf_syntax.proofs.TransportSteps.{connect_is, multihop_is, direct_is, passive_is}
use Rattle.conf_syntax.proofs.transport.connection.Goals as goal

pub returns-in-Some : goal.returns-in-Some
returns-in-Some c =
    gives_along transport_tree _ _ _ (connect_is c.args.words.now c.in-Some.rest.now c.in-Some.ensures) c.connect_retry_time.ensures

pub returns-in-Some-after : goal.returns-in-Some-after
returns-in-Some-after c =
    multihop_is c.args.words.now c.in-Some-after.rest.now c.in-Some-after.ensures ∙ rw (c.optional_number-hops.ensures) refl

pub returns-in-Some-after-2 : goal.returns-in-Some-after-2
returns-in-Some-after-2 c =
    direct_is c.args.words.now c.in-Some-after-2.rest.now c.in-Some-after-2.ensures

pub returns-in-None : goal.returns-in-None
returns-in-None c =
    gives_along transport_tree _ _ _ (passive_is c.args.words.now (record {
      description = c.requires.description;
      password = c.requires.password;
      source = c.requires.source;
      hold = c.requires.hold;
      keepalive = c.requires.keepalive;
      connect = c.in_default.ensures;
      multihop = c.in_default-after.ensures;
      direct = c.in-None.ensures;
    })) c.passive.ensures
