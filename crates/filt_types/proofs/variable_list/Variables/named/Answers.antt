use Rattle.std.proofs.Common.{◌∙◌, ap, sym, List, Option, option_copied, option_map, slice_get}
use Rattle.filt_types.specs.Listed.{variable_seen, variables_of}
use Rattle.filt_types.specs.Scenes.{Variables, variable_in}
use Rattle.filt_types.specs.declared.variable_list.Variable.{Variable}
use Rattle.filt_types.proofs.FirstPlaces.{got, none_named, one_named}
use Rattle.filt_types.proofs.variable_list.Variables.named.Goals as goal

pub returns-in-None : goal.returns-in-None
returns-in-None c =
    none_named (variables_of c.self.inside.list.items) c.args.name.now (ap option_copied (sym c.in-None.is) ∙ c.get.ensures.value ∙ c.self.invariant c.args.name.now)
    ∙ ap (λ (vs : Variables). variable_in vs c.args.name.now) c.self.view_is

pub returns-in-Some : goal.returns-in-Some
returns-in-Some c =
    ap (λ (o : Option Variable). option_map variable_seen o) (c.copied.ensures ∙ got c.deref.result.now c.in-Some.place.now c.get-in-Some.result c.get-in-Some.ensures.lookup.0 c.get-in-Some.ensures.lookup.1 ∙ ap (λ (vs : List Variable). slice_get vs c.in-Some.place.now) c.deref.ensures.value)
    ∙ one_named c.self.inside.list.items c.args.name.now c.in-Some.place.now (ap option_copied (sym c.in-Some.is) ∙ c.get.ensures.value ∙ c.self.invariant c.args.name.now)
    ∙ ap (λ (vs : Variables). variable_in vs c.args.name.now) c.self.view_is
