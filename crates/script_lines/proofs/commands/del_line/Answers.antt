use Rattle.std.proofs.Common.{◌∙◌, sym, ap}
use Rattle.bits_ip.specs.declared.address.Family.{Family}
use Rattle.text.specs.Lines.{behind_word, words_of}
use Rattle.script_lines.specs.Kinds.{is_of_family}
use Rattle.script_lines.proofs.CommandParts.{del_acts, del_no_session, del_other_family}
use Rattle.script_lines.proofs.commands.del_line.Goals as goal

pub returns-in_default-session_of : goal.returns-in_default-session_of
returns-in_default-session_of c = del_no_session (behind_word c.args.rest.now) c.args.named.now c.args.actor.now (words_of c.args.rest.now) c.in-Some.net c.in-Some.ensures c.in_default-session_of.ensures

pub returns-then-is_of_family : goal.returns-then-is_of_family
returns-then-is_of_family c =
    del_acts (behind_word c.args.rest.now) c.args.named.now c.args.actor.now (words_of c.args.rest.now) c.in-Some.net c.in-Some-session_of.protocol c.in-Some.ensures c.in-Some-session_of.ensures
    (sym c.if-is_of_family.true ∙ c.is_of_family.ensures ∙ ap (λ (f : Family). is_of_family c.args.named.now c.args.actor.now f) c.family.ensures)

pub returns-else-is_of_family : goal.returns-else-is_of_family
returns-else-is_of_family c =
    del_other_family (behind_word c.args.rest.now) c.args.named.now c.args.actor.now (words_of c.args.rest.now) c.in-Some.net c.in-Some-session_of.protocol c.in-Some.ensures c.in-Some-session_of.ensures
    (sym c.if-is_of_family.false ∙ c.is_of_family.ensures ∙ ap (λ (f : Family). is_of_family c.args.named.now c.args.actor.now f) c.family.ensures)
