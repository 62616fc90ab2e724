use Rattle.std.proofs.Common.{◌≢◌, ◌∙◌, ℕ, List, ap, sym, refl}
use Rattle.attrs.specs.declared.route.Change.{Change}
use Rattle.jour.specs.Seats.{front, journal, number_of}
use Rattle.import_lock.specs.Calls.{HasTurned}
use Rattle.import_lock.specs.Kept.{IsImporting}
use Rattle.import_lock.specs.Terms.{ImportTerms, IsLineOf}
use Rattle.import_lock.specs.declared.state.OpFault.TheVariants.{Memory}
use Rattle.import_lock.proofs.Turning.{any_err, only_planned, turned, told_on, turns_only}
use Rattle.import_lock.proofs.state.ImportState.plan_and_send.Goals as goal

pub returns-in_default-clause-only : goal.returns-in_default-clause-only
returns-in_default-clause-only g c = only_planned c.args.self.now c.plan_turn.new.self c.plan_turn.ensures.only

pub returns-in_default-clause-failed : goal.returns-in_default-clause-failed
returns-in_default-clause-failed g c = λ ne. absurd (ne refl)

pub send_all-requires-clause-held : goal.send_all-requires-clause-held
send_all-requires-clause-held g c = record {
  key = c.requires.turn.key;
  made = c.requires.turn.made;
  importing = c.in-Ok.ensures.kept c.requires.turn.key c.requires.turn.made c.requires.turn.importing c.requires.turn.line;
}

pub send_all-requires-clause-here : goal.send_all-requires-clause-here
send_all-requires-clause-here g c = ap journal c.in-Ok.ensures.only.port ∙ c.requires.here

pub returns-in_err-send_all-clause-only : goal.returns-in_err-send_all-clause-only
returns-in_err-send_all-clause-only g c = turns_only c.args.self.now c.plan_turn.new.self c.send_all.new.self c.in-Ok.ensures.only c.in_err-send_all.ensures.sends.only

pub returns-in_err-send_all-clause-fault : goal.returns-in_err-send_all-clause-fault
returns-in_err-send_all-clause-fault g c = c.in_err-send_all.ensures.sends.only.fault ∙ c.in-Ok.ensures.only.fault

pub returns-in_err-send_all-clause-failed : goal.returns-in_err-send_all-clause-failed
returns-in_err-send_all-clause-failed g c = any_err c.from_residual.result
    (λ fault. fault ≢ Memory → (key : ImportTerms) (made : List (ℕ × Change)) → IsImporting g.J.Judge.verdict key made c.args.self.now
    → IsLineOf key (number_of c.args.hand.now.1.role) c.args.line c.args.op.now → HasTurned g.J.Judge.verdict key made c.args.op.now c.args.self.now c.send_all.new.self)
    (λ fault ne key made o line.
    turned g.J.Judge.verdict key made c.args.op.now c.in-Ok.plan.mark c.in-Ok.plan.over c.args.self.now c.plan_turn.new.self c.send_all.new.self c.in-Ok.ensures.only
    (c.in-Ok.ensures.told key made o line) (c.in-Ok.ensures.kept key made o line) c.in_err-send_all.ensures.sends)

pub returns-clause-seen : goal.returns-clause-seen
returns-clause-seen g c = c.in-Ok.ensures.seen ∙ ap (λ z. front z.1) (sym c.in_ok-send_all.ensures.sends.only.turns)

pub returns-clause-only : goal.returns-clause-only
returns-clause-only g c = turns_only c.args.self.now c.plan_turn.new.self c.send_all.new.self c.in-Ok.ensures.only c.in_ok-send_all.ensures.sends.only

pub returns-clause-fault : goal.returns-clause-fault
returns-clause-fault g c = c.in_ok-send_all.ensures.sends.only.fault ∙ c.in-Ok.ensures.only.fault

pub returns-clause-told : goal.returns-clause-told
returns-clause-told g c = λ key made o line. (
  turned g.J.Judge.verdict key made c.args.op.now c.in-Ok.plan.mark c.in-Ok.plan.over c.args.self.now c.plan_turn.new.self c.send_all.new.self c.in-Ok.ensures.only
      (c.in-Ok.ensures.told key made o line) (c.in-Ok.ensures.kept key made o line) c.in_ok-send_all.ensures.sends,
  told_on g.J.Judge.verdict key c.args.op.now c.in-Ok.plan.mark c.in-Ok.plan.over c.args.self.now c.plan_turn.new.self c.send_all.new.self
      (c.in-Ok.ensures.told key made o line) c.in_ok-send_all.ensures.sends,
)
