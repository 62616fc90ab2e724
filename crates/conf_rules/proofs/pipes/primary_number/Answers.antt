use Rattle.std.proofs.Common.{List, ℕ, Option, ap, sym, ◌∙◌}
use Rattle.conf_ast.specs.declared.named.Name.{Name}
use Rattle.conf_names.specs.Known.{known_number}
use Rattle.conf_rules.specs.Protocols.{primary_number}
use Rattle.conf_names.specs.Seen.{known_of}
use Rattle.conf_rules.proofs.pipes.primary_number.Goals as goal

pub returns-in-None : goal.returns-in-None
returns-in-None c =
    let known = known_of c.args.text.now c.args.declared.now in
    c.known_number.ensures c.args.text.now ∙ sym (ap (λ (o : Option Name). primary_number known o) c.in-None.is)

pub returns-in-Some : goal.returns-in-Some
returns-in-Some c =
    let known = known_of c.args.text.now c.args.declared.now in
    c.known_number-in-Some.ensures c.args.text.now ∙ ap (λ (n : List ℕ). known_number known n) c.bytes.ensures
    ∙ sym (ap (λ (o : Option Name). primary_number known o) c.in-Some.is)
