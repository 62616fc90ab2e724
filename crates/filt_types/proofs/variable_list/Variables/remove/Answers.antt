use Rattle.std.proofs.Common.{arith}
use Rattle.filt_types.proofs.FirstPlaces.{removed_so}
use Rattle.filt_types.proofs.variable_list.Variables.remove.Goals as goal

pub returns : goal.returns
returns c =
    removed_so c.self.inside.list.items c.deref.result.now c.in_ok-behind.behind.items c.deref-2.result.now c.args.place c.args.self.now c.truncate.new.self c.append.new.self (omega (arith, c.if-len-place.false, c.len.ensures, c.self.inside.list.ok))
    c.deref.ensures.value c.in_ok-behind.ensures.items c.deref-2.ensures.value c.self.view_is c.truncate.ensures c.in_ok-append.ensures
