use Rattle.std.proofs.Common.{◌++◌, List, ℕ, codes, ap, ◌∙◌}
use Rattle.conf_names.specs.Known.{is_declared}
use Rattle.conf_names.specs.Seen.{known_of}
use Rattle.conf_names.proofs.Wholes.{any_three}
use Rattle.conf_names.proofs.names.is_pipe_declared.Goals as goal

pub returns : goal.returns
returns c text =
    any_three (is_declared (known_of text c.args.declared.now)) c.args.name.now (c.args.name.now ++ codes ".export") (c.args.name.now ++ codes ".import") c.is_declared-own.result c.is_declared-exports.result c.is_declared-imports.result
    (c.is_declared-own.ensures text)
    (c.is_declared-exports.ensures text ∙ ap (λ (n : List ℕ). is_declared (known_of text c.args.declared.now) n) (c.deref.ensures.value ∙ c.in_ok-export.ensures))
    (c.is_declared-imports.ensures text ∙ ap (λ (n : List ℕ). is_declared (known_of text c.args.declared.now) n) (c.deref-2.ensures.value ∙ c.in_ok-import.ensures))
