use Rattle.std.proofs.Common.{Bool, List, ℕ, ap, ◌∙◌}
use Rattle.conf_ast.specs.Names.{name_bytes}
use Rattle.conf_ast.specs.declared.kind.ConfKind.TheVariants as kinds
use Rattle.conf_names.specs.Known.{is_declared, too_long}
use Rattle.conf_names.specs.Refusals.{first_in, refused_if}
use Rattle.conf_names.specs.Seen.{known_of}
use Rattle.conf_names.proofs.Firsts.{first_two}
use Rattle.conf_names.proofs.declared.declaring.Goals as goal

pub returns : goal.returns
returns c =
    first_two (refused_if (is_declared (known_of c.args.text.now c.args.declared.now) (name_bytes c.args.text.now c.args.name)) c.args.name.at kinds.DuplicateName) (too_long (known_of c.args.text.now c.args.declared.now) c.args.name) c.args.first.now c.note_if.new.first c.too_long.new.first
    (c.note_if.ensures ∙ ap (λ (b : Bool). first_in c.args.first.now (refused_if b c.args.name.at kinds.DuplicateName)) (c.is_declared-is_taken.ensures c.args.text.now ∙ ap (λ (n : List ℕ). is_declared (known_of c.args.text.now c.args.declared.now) n) c.bytes.ensures))
    (c.too_long.ensures c.args.declared.now)
