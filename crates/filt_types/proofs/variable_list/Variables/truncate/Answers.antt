use Rattle.std.proofs.Common.{◌<◌, ◌≤◌, ◌∙◌, length, rules}
use Rattle.filt_types.proofs.FirstPlaces.{all_kept, cut_twice, shorter_by_one}
use Rattle.filt_types.proofs.variable_list.Variables.truncate.Goals as goal

pub loop-self-preserved : goal.loop-self-preserved
loop-self-preserved c =
    let below : c.args.len < length c.loop-self.self = search rules in
    cut_twice c.loop-self.self c.pop.new.self c.args.len below c.pop.ensures ∙ c.loop-self.invariant

pub loop-self-smaller : goal.loop-self-smaller
loop-self-smaller c =
    let below : c.args.len < length c.loop-self.self = search rules in
    shorter_by_one c.loop-self.self c.pop.new.self c.args.len below c.pop.ensures

pub returns : goal.returns
returns c =
    let past : length c.loop-self.self ≤ c.args.len = search rules in
    all_kept c.loop-self.self c.args.len past ∙ c.loop-self.invariant
