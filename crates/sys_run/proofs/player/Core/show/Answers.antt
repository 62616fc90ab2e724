use Rattle.std.proofs.Common.{◌<◌, ◌∷◌, length, refl, arith}
use Rattle.core_machine.specs.Lines.{Reply}
use Rattle.core_setup.proofs.PairLemmas.{length-set_at}
use Rattle.sys_run.specs.Scripts.{asked_table}
use Rattle.sys_run.proofs.Asking.{asked, unheard}
use Rattle.run_tables.proofs.Routing.{item_read}
use Rattle.sys_run.proofs.player.Core.show.Goals as goal

pub returns-then-number-len-clause-core : goal.returns-then-number-len-clause-core
returns-then-number-len-clause-core g c = λ setup past s are.
    let table = asked_table setup.queries c.args.query in
    let reply : Reply = record { actor = c.args.actor; table = table; at = length (s.history table); query = c.args.query } in
    (record s { replies = reply ∷ s.replies }, refl, unheard g.J.Judge.verdict setup past s c.args.self.now reply are (omega (arith, c.if-number-len.true, c.len.ensures)))

pub returns-clause-core : goal.returns-clause-core
returns-clause-core g c = λ setup past s are.
    let core = c.args.self.now in
    let table = asked_table setup.queries c.args.query in
    let reply : Reply = record { actor = c.args.actor; table = table; at = length (s.history table); query = c.args.query } in
    let held = c.index_mut.result.now in
    let w : c.args.actor < length core.replies.items = omega (arith, core.replies.ok.0) in (
      record s { replies = reply ∷ s.replies },
      refl,
      asked g.J.Judge.verdict setup past s core _ held c.push.new.self c.in_ok-reply.reply reply are (item_read core.replies.items c.args.actor held w c.index_mut.ensures.value) refl c.in_ok-push.ensures.items
          (c.in_ok-reply.ensures setup past s reply are refl refl refl),
    )

pub returns-clause-kept : goal.returns-clause-kept
returns-clause-kept g c = record { phases = refl; replies = length-set_at c.args.self.now.replies.items c.args.actor c.push.new.self; queries = refl }
