use Rattle.std.proofs.Common.{◌≡◌, ◌∙◌, ap, sym, subst, max}
use Rattle.jour_rule.specs.Moves.{copy_of}
use Rattle.jour.specs.Seats.{IsSure, IsPass}
use Rattle.jour.proofs.Told.{copied, copy_passes, copy_sure, maker_reads, meets_reader, pass_reads, seated, still_pass}
use Rattle.jour.proofs.maker.Maker.tell.Goals as goal

pub invariant_of-pass : goal.invariant_of-pass
invariant_of-pass g c =
    let m = c.self.invariant in let p = c.pass.invariant in
    let n = c.copy-told.ensures.new in let t = c.meet.ensures in let u = c.meet-2.ensures in
    let copy = ap (λ z. z.0) n.1 in
    let sure = copy_sure g.L.Law.meets c.self.inside.seen c.self.inside.place.me.0 c.copy-told.result.me.0 m.2 copy in
    let passes = subst IsPass (sym (ap (λ v. v.role) copy)) (copy_passes c.self.inside.place.me.0.role (maker_reads _ _ m.1)) in
    let terms = ap (λ v. v.1.seen.terms) c.pass.view_is ∙ ap (λ j. j.1) c.requires.here ∙ sym (ap (λ v. v.1.seen.terms) c.self.view_is) ∙ sym (ap (λ v. v.seen.terms) copy) in
    let one = meets_reader g.L.Law.meets c.self.inside.seen c.pass.inside.seen c.meet.result c.copy-told.result.me.0 c.pass.inside.place.me.0 c.meet.new.place.me.0 (pass_reads _ passes) sure p.2 terms (ap (λ z. z.0) t.view) t.tells in
    let same = ap (λ z. z.0) t.other in
    let still = subst IsPass (sym (ap (λ v. v.role) same)) p.1 in
    let sure2 = subst (IsSure g.L.Law.meets c.pass.inside.seen) (sym same) p.2 in
    let is = ap (λ z. z.0) u.view in
    let two = meets_reader g.L.Law.meets c.pass.inside.seen (max c.self.inside.seen c.pass.inside.seen) c.meet-2.result c.meet.new.other.me.0 c.meet.new.place.me.0 c.meet-2.new.place.me.0 (pass_reads _ still) sure2 one.sure (one.terms ∙ sym terms ∙ sym (ap (λ v. v.seen.terms) same)) is u.tells in (
      seated _ _ c.pass.inside.place c.meet-2.new.place p.0 (u.kept.0 ∙ t.kept.1) (ap (λ z. z.1) u.view ∙ ap (λ z. z.1) t.other) (two.terms ∙ ap (λ v. v.seen.terms) same),
      subst IsPass (sym (ap (λ v. v.role) is)) (still_pass c.meet.new.other.me.0.seen (copy_of c.meet.new.place.me.0).seen c.meet.new.other.me.0.role (copy_of c.meet.new.place.me.0).role still),
      subst (λ a. IsSure g.L.Law.meets a c.meet-2.new.place.me.0) (sym (c.max-pass-inside.ensures ∙ ap (max c.pass.inside.seen) c.max-seen.ensures)) two.sure,
    )
