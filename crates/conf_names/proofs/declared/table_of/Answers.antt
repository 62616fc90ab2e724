use Rattle.std.proofs.Common.{List, ℕ, ap, ◌∙◌}
use Rattle.filt_meaning.specs.Names.{named_in}
use Rattle.conf_names.specs.Seen.{known_of}
use Rattle.conf_names.proofs.declared.table_of.Goals as goal

pub returns : goal.returns
returns c = c.family_of.ensures c.args.text.now ∙ ap (λ (n : List ℕ). named_in (known_of c.args.text.now c.args.declared.now).tables n) c.bytes.ensures
