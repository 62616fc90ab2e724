use Rattle.std.proofs.Common.{Bool, not, List, ℕ, ap, ◌∙◌}
use Rattle.std.specs.List.{list_any}
use Rattle.conf_ast.specs.declared.kind.ConfKind.TheVariants as kinds
use Rattle.filt_meaning.specs.Names.{same_name}
use Rattle.conf_names.specs.Refusals.{first_in, refused_if}
use Rattle.conf_names.specs.Seen.{known_of}
use Rattle.conf_names.proofs.declared.filter.Goals as goal

pub returns : goal.returns
returns c = c.note_if.ensures ∙ ap (λ (b : Bool). first_in c.args.first.now (refused_if (not b) c.args.name.at kinds.UnknownName))
    (c.is_filter-is_known.ensures c.args.text.now ∙ ap (λ (n : List ℕ). list_any (λ known. same_name known n) (known_of c.args.text.now c.args.declared.now).filters) c.bytes.ensures)
