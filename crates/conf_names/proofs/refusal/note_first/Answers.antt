use Rattle.std.proofs.Common.{sym, ap, ◌∙◌}
use Rattle.conf_ast.specs.declared.kind.ConfKind.{ConfKind}
use Rattle.conf_names.specs.Refusals.{first_of}
use Rattle.conf_names.proofs.Firsts.{found_none, found_some, refusal}
use Rattle.conf_names.proofs.refusal.note_first.Goals as goal

pub returns-in-None : goal.returns-in-None
returns-in-None c rs is = found_none c.args.first.now rs (sym c.in-None.is ∙ is)

pub returns-in-Some : goal.returns-in-Some
returns-in-Some c rs is =
    found_some c.args.first.now c.note.new.first c.in-Some.refusal rs (sym c.in-Some.is ∙ is)
    (c.note.ensures ∙ ap (λ (k : ConfKind). first_of c.args.first.now (refusal c.in-Some.refusal.at k)) c.kind.ensures)
