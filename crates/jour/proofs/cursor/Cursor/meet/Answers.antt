use Rattle.std.proofs.Common.{◌∙◌, ap, sym, subst}
use Rattle.jour.specs.Seats.{IsSure, IsCursor}
use Rattle.jour.proofs.Told.{seated, pass_reads}
use Rattle.jour.proofs.Standings.{met}
use Rattle.jour.proofs.cursor.Cursor.meet.Goals as goal

pub meet-self-inside-requires-clause-other : goal.meet-self-inside-requires-clause-other
meet-self-inside-requires-clause-other g c = pass_reads _ c.pass.invariant.1

pub invariant_of-self : goal.invariant_of-self
invariant_of-self g c =
    let m = c.self.invariant in let o = c.pass.invariant in let t = c.meet-self-inside.ensures in
    let terms = ap (λ v. v.1.seen.terms) c.pass.view_is ∙ ap (λ j. j.1) c.requires.here ∙ sym (ap (λ v. v.0.1.seen.terms) c.self.view_is) in
    let done = met g.L.Law.meets c.self.inside.seen c.pass.inside.seen c.self.inside.number c.self.inside.position c.self.inside.known c.meet-self-inside.result c.self.inside.cells c.self.inside.cursors c.self.inside.place.me.0 c.pass.inside.place.me.0 c.meet-self-inside.new.place.me.0
    m.2 m.1 m.3 o.2 terms (ap (λ m. m.0) t.view) t.tells in (
      seated _ _ c.self.inside.place c.meet-self-inside.new.place m.0 t.kept.0 (ap (λ m. m.1) t.view) done.terms,
      subst (IsCursor c.self.inside.number c.self.inside.position) (sym done.role) m.1,
      subst (λ a. IsSure g.L.Law.meets a c.meet-self-inside.new.place.me.0) (sym c.max-self-inside.ensures) done.sure,
      done.stands,
    )
