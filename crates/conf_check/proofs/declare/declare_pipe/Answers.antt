use Rattle.std.proofs.Common.{List, ℕ, ap, ◌∙◌, ◌++◌, ◌∷◌, [], codes}
use Rattle.conf_check.specs.Seen.{other_names}
use Rattle.conf_check.proofs.Names.{among, pipe_free}
use Rattle.conf_check.proofs.declare.declare_pipe.Goals as goal

pub declare-requires-3 : goal.declare-requires-3
declare-requires-3 c =
    ap (λ (n : List ℕ). among (other_names c.declare-2.new.scope) n) (c.deref-2.ensures.value ∙ c.in_ok-import.ensures)
    ∙ ap (λ (ns : List (List ℕ)). among ns (c.args.name.now ++ codes ".import"))
    (c.in_ok-declare-2.ensures.others ∙ ap (λ (l : List (List ℕ)). l ++ c.deref.result.now ∷ []) c.in_ok-declare.ensures.others
    ∙ ap (λ (n : List ℕ). (other_names c.args.scope.now ++ c.args.name.now ∷ []) ++ n ∷ []) (c.deref.ensures.value ∙ c.in_ok-export.ensures))
    ∙ (pipe_free c.args.name.now (other_names c.args.scope.now) c.requires).import
