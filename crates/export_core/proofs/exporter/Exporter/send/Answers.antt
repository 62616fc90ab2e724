use Rattle.std.proofs.Common.{rules, ◌∙◌, refl, sym, ap, subst, length, is_some, List, [], ◌∷◌, ◌++◌}
use Rattle.export_core.specs.declared.log.LogItem.{LogItem}
use Rattle.export_core.specs.declared.log.LogItem.TheVariants.{Sent}
use Rattle.export_core.specs.Standing.{IsKept}
use Rattle.export_core.specs.Plan.{WillSend}
use Rattle.export_core.proofs.Families.{families_send}
use Rattle.export_core.proofs.Kept.{kept_send}
use Rattle.export_core.proofs.exporter.Exporter.send.Goals as goal

pub invariant_of-self-2 : goal.invariant_of-self-2
invariant_of-self-2 g c = (
  subst (λ l. IsKept c.self.inside.flushing c.self.inside.up c.set.new.self l)
      (sym (c.push_reserved.ensures.items ∙ ap (λ (l : List LogItem). l ++ Sent c.args.sending ∷ []) c.reserve.ensures.items))
      (kept_send _ _ c.self.inside.sent _ _ c.self.inside.log.items c.args.sending _ _ _ c.self.invariant.0 refl c.number-number.ensures (ap length c.deref.ensures.value) c.make_place.ensures.same c.set.ensures),
  (let x = c.args.sending in
      let will = subst (λ e. WillSend g.J.Judge.verdict c.requires.next.0 x e) (sym c.self.view_is) c.requires.next.1 in
      families_send _ x.key _ _ _ _ _ _ c.self.invariant.1 (ap (λ o. is_some o) will.is_first.mark) (c.pop.ensures.gone x.key will.is_first.first) c.make_place.ensures.same c.set.ensures),
)

pub returns-in_err-make_place-clause-refused : goal.returns-in_err-make_place-clause-refused
returns-in_err-make_place-clause-refused g c = let h = c.make_place.ensures.held in search rules

pub returns-in_err-put-clause-refused : goal.returns-in_err-put-clause-refused
returns-in_err-put-clause-refused g c = let h = c.make_place.ensures.held in search rules
