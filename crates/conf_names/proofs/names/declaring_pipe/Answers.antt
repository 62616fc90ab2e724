use Rattle.std.proofs.Common.{List, ℕ, ap, ◌∙◌}
use Rattle.std.specs.List.{list_any}
use Rattle.conf_names.specs.Known.{is_declared}
use Rattle.conf_names.specs.Names.{own_name, pipe_names, pipe_stem}
use Rattle.conf_names.specs.Seen.{known_of}
use Rattle.conf_names.proofs.names.declaring_pipe.Goals as goal

pub returns : goal.returns
returns c =
    c.one_more.ensures (pipe_names (own_name (known_of c.args.text.now c.args.declared.now) pipe_stem c.args.name))
    (c.in_ok-is_taken.ensures c.args.text.now ∙ ap (λ (n : List ℕ). list_any (is_declared (known_of c.args.text.now c.args.declared.now)) (pipe_names n)) (c.deref.ensures.value ∙ c.in_ok-bytes.ensures))
