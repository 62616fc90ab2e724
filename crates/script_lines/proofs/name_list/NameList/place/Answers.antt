use Rattle.std.proofs.Common.{◌∙◌, ap, ℕ, List}
use Rattle.std.specs.List.{position}
use Rattle.std.specs.Str.{bytes_eq}
use Rattle.script_lines.proofs.name_list.NameList.place.Goals as goal

pub returns : goal.returns
returns c =
    c.copied.ensures ∙ c.get.ensures.value ∙ c.self.invariant c.args.name.now
    ∙ ap (λ (names : List (List ℕ)). position (λ other. bytes_eq other c.args.name.now) names) c.self.view_is
