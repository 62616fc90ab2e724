use Rattle.std.proofs.Common.{◌∙◌, ap, is_some}
use Rattle.std.specs.List.{list_any}
use Rattle.filt_meaning.specs.Names.{same_name}
use Rattle.filt_types.specs.Listed.{variables_of}
use Rattle.filt_types.specs.Scenes.{Variables}
use Rattle.filt_types.proofs.FirstPlaces.{name_there}
use Rattle.filt_types.proofs.variable_list.Variables.has_name.Goals as goal

pub returns : goal.returns
returns c =
    c.contains_key.ensures ∙ ap is_some (c.self.invariant c.args.name.now) ∙ name_there (variables_of c.self.inside.list.items) c.args.name.now
    ∙ ap (λ (vs : Variables). list_any (λ v. same_name v.name c.args.name.now) vs) c.self.view_is
