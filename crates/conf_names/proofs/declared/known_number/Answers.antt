use Rattle.std.proofs.Common.{ℕ, Option, Some, option_map, ap, ◌∙◌}
use Rattle.bits_ip.specs.declared.address.Family.{Family}
use Rattle.conf_names.specs.Known.{table_number}
use Rattle.conf_names.specs.Seen.{known_of}
use Rattle.conf_names.proofs.declared.known_number.Goals as goal

pub returns-in-None : goal.returns-in-None
returns-in-None c = λ text. ap (λ (o : Option Family). option_map (λ (f : Family). table_number (known_of text c.args.declared.now) c.args.name.now) o) (c.in-None.ensures text)

pub returns-in-Some : goal.returns-in-Some
returns-in-Some c = λ text. ap (λ (n : ℕ). Some n) (c.table_number.ensures text)
    ∙ ap (λ (o : Option Family). option_map (λ (f : Family). table_number (known_of text c.args.declared.now) c.args.name.now) o) (c.in-Some.ensures text)
