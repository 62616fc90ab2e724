use Rattle.std.proofs.Common.{rules, subst, Option}
use Rattle.std.specs.Prelude.{IfSome}
use Rattle.attrs.specs.declared.route.Route.{Route}
use Rattle.rec_words.specs.Entries.{IsNumber, IsRoute}
use Rattle.rec_words.proofs.Written.{entry_written}
use Rattle.rec_words.proofs.write.put_words.Goals as goal

pub returns-clause-spelled : goal.returns-clause-spelled
returns-clause-spelled c =
    let num : IsNumber c.args.entry.now.num = search rules in
    let new : IfSome c.args.entry.now.new IsRoute = subst (λ (r : Option Route). IfSome r IsRoute) c.as_ref.ensures.value c.put_optional_route.ensures.is in
    let best : IfSome c.args.entry.now.best IsRoute = subst (λ (r : Option Route). IfSome r IsRoute) c.as_ref-2.ensures.value c.put_optional_route-2.ensures.is in
    record {
      entry = record { net = c.put_net.ensures.is; num = num; new = new; best = best };
      words = entry_written c.args.entry.now _ _ _ _ _ _ _ _ _ _ _ _ _ c.entry_len-count.ensures.len c.is_some.ensures c.is_some-2.ensures c.first_word.ensures c.from.ensures c.as_ref.ensures.value c.as_ref-2.ensures.value c.clear.ensures c.push.ensures c.put_net.ensures.written c.push-2.ensures c.put_optional_route.ensures.written c.put_optional_route-2.ensures.written;
    }
