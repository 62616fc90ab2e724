use Rattle.std.proofs.Common.{List, ℕ, Option, ap, sym, ◌∙◌}
use Rattle.conf_ast.specs.declared.named.Name.{Name}
use Rattle.conf_names.specs.Seen.{known_of}
use Rattle.conf_names.specs.Known.{table_number}
use Rattle.conf_check.specs.Checked as of
use Rattle.conf_check.proofs.channel.table_of.Goals as goal

pub returns-in-None : goal.returns-in-None
returns-in-None c = c.table_number.ensures c.args.text.now ∙ ap (λ (n : List ℕ). table_number (known_of c.args.text.now c.args.declared.now) n)
    (c.master.ensures ∙ sym (ap (λ (o : Option Name). of.table_name c.args.text.now c.args.family o) c.in-None.is))

pub returns-in-Some : goal.returns-in-Some
returns-in-Some c = c.table_number-in-Some.ensures c.args.text.now ∙ ap (λ (n : List ℕ). table_number (known_of c.args.text.now c.args.declared.now) n)
    (c.bytes.ensures ∙ sym (ap (λ (o : Option Name). of.table_name c.args.text.now c.args.family o) c.in-Some.is))
