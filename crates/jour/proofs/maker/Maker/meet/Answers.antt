use mathlib.Core.List.{IsPrefix}
use Rattle.std.proofs.Common.{◌∙◌, ◌≡◌, ◌<◌, ap, sym, subst, arith}
use Rattle.jour_rule.specs.Moves.{copy_of, longest}
use Rattle.jour.specs.Seats.{IsSure, IsMaker, front, heads, journal, known, number_of, looks_of, last_look}
use Rattle.jour.proofs.Told.{meets_reader, seated, maker_reads, pass_reads, still_maker, same_number, same_looks, same_last}
use Rattle.jour.proofs.maker.Maker.meet.Goals as goal

pub meet-self-inside-requires-clause-other : goal.meet-self-inside-requires-clause-other
meet-self-inside-requires-clause-other g c = pass_reads _ c.pass.invariant.1

pub invariant_of-self : goal.invariant_of-self
invariant_of-self g c =
    let m = c.self.invariant in let o = c.pass.invariant in let t = c.meet-self-inside.ensures in
    let terms = ap (λ v. v.1.seen.terms) c.pass.view_is ∙ ap (λ j. j.1) c.requires.here ∙ sym (ap (λ v. v.1.seen.terms) c.self.view_is) in
    let is = ap (λ m. m.0) t.view in
    let done = meets_reader g.L.Law.meets c.self.inside.seen c.pass.inside.seen c.meet-self-inside.result c.self.inside.place.me.0 c.pass.inside.place.me.0 c.meet-self-inside.new.place.me.0 (maker_reads _ _ m.1) m.2 o.2 terms is t.tells in (
      seated _ _ c.self.inside.place c.meet-self-inside.new.place m.0 t.kept.0 (ap (λ m. m.1) t.view) done.terms,
      subst (λ r. IsMaker c.self.inside.number r) (sym (ap (λ v. v.role) is)) (still_maker c.self.inside.number c.self.inside.place.me.0.seen (copy_of c.pass.inside.place.me.0).seen c.self.inside.place.me.0.role (copy_of c.pass.inside.place.me.0).role m.1),
      subst (λ a. IsSure g.L.Law.meets a c.meet-self-inside.new.place.me.0) (sym c.max-self-inside.ensures) done.sure,
      subst (λ t. c.self.inside.number < t.makers) (sym done.terms) m.3,
    )

pub returns-clause-same : goal.returns-clause-same
returns-clause-same g c =
    let m = c.self.invariant in let o = c.pass.invariant in let t = c.meet-self-inside.ensures in
    let terms = ap (λ v. v.1.seen.terms) c.pass.view_is ∙ ap (λ j. j.1) c.requires.here ∙ sym (ap (λ v. v.1.seen.terms) c.self.view_is) in
    let is = ap (λ m. m.0) t.view in
    let done = meets_reader g.L.Law.meets c.self.inside.seen c.pass.inside.seen c.meet-self-inside.result c.self.inside.place.me.0 c.pass.inside.place.me.0 c.meet-self-inside.new.place.me.0 (maker_reads _ _ m.1) m.2 o.2 terms is t.tells in (
      (λ i. (t.kept.0 i, done.terms i)) ∙ ap journal c.self.view_is,
      ap (λ v. number_of v.role) is ∙ same_number c.self.inside.place.me.0.seen (copy_of c.pass.inside.place.me.0).seen c.self.inside.place.me.0.role (copy_of c.pass.inside.place.me.0).role (maker_reads _ _ m.1) ∙ ap (λ v. number_of v.1.role) c.self.view_is,
    )

pub returns-clause-known : goal.returns-clause-known
returns-clause-known g c =
    let m = c.self.invariant in let o = c.pass.invariant in let t = c.meet-self-inside.ensures in
    let terms = ap (λ v. v.1.seen.terms) c.pass.view_is ∙ ap (λ j. j.1) c.requires.here ∙ sym (ap (λ v. v.1.seen.terms) c.self.view_is) in
    let is = ap (λ m. m.0) t.view in
    let done = meets_reader g.L.Law.meets c.self.inside.seen c.pass.inside.seen c.meet-self-inside.result c.self.inside.place.me.0 c.pass.inside.place.me.0 c.meet-self-inside.new.place.me.0 (maker_reads _ _ m.1) m.2 o.2 terms is t.tells in
    let more = done.heads in let up = done.known in let knows = done.loads in
    let old : heads c.self.inside.place.me.0 ≡ heads c.args.self.now.1 = ap (λ v. heads v.1) c.self.view_is in
    let mine : known c.self.inside.place.me.0 ≡ known c.args.self.now.1 = ap (λ v. known v.1) c.self.view_is in
    let other : known c.pass.inside.place.me.0 ≡ known c.args.pass.now.1 = ap (λ v. known v.1) c.pass.view_is in
    (omega arith, omega arith, omega arith)

pub returns-clause-looks : goal.returns-clause-looks
returns-clause-looks g c =
    let m = c.self.invariant in let o = c.pass.invariant in let t = c.meet-self-inside.ensures in
    let terms = ap (λ v. v.1.seen.terms) c.pass.view_is ∙ ap (λ j. j.1) c.requires.here ∙ sym (ap (λ v. v.1.seen.terms) c.self.view_is) in
    let is = ap (λ m. m.0) t.view in
    let done = meets_reader g.L.Law.meets c.self.inside.seen c.pass.inside.seen c.meet-self-inside.result c.self.inside.place.me.0 c.pass.inside.place.me.0 c.meet-self-inside.new.place.me.0 (maker_reads _ _ m.1) m.2 o.2 terms is t.tells in (
      ap (λ v. looks_of v.role) is ∙ same_looks c.self.inside.place.me.0.seen (copy_of c.pass.inside.place.me.0).seen c.self.inside.place.me.0.role (copy_of c.pass.inside.place.me.0).role ∙ ap (λ v. looks_of v.1.role) c.self.view_is,
      ap (λ v. last_look v.role) is ∙ same_last c.self.inside.place.me.0.seen (copy_of c.pass.inside.place.me.0).seen c.self.inside.place.me.0.role (copy_of c.pass.inside.place.me.0).role (maker_reads _ _ m.1) ∙ ap (λ v. last_look v.1.role) c.self.view_is,
    )

pub returns-clause-prefix : goal.returns-clause-prefix
returns-clause-prefix g c =
    let m = c.self.invariant in let o = c.pass.invariant in let t = c.meet-self-inside.ensures in
    let terms = ap (λ v. v.1.seen.terms) c.pass.view_is ∙ ap (λ j. j.1) c.requires.here ∙ sym (ap (λ v. v.1.seen.terms) c.self.view_is) in
    let is = ap (λ m. m.0) t.view in
    let done = meets_reader g.L.Law.meets c.self.inside.seen c.pass.inside.seen c.meet-self-inside.result c.self.inside.place.me.0 c.pass.inside.place.me.0 c.meet-self-inside.new.place.me.0 (maker_reads _ _ m.1) m.2 o.2 terms is t.tells in
    subst (λ v. IsPrefix (front v.1) (front c.meet-self-inside.new.place.me.0)) c.self.view_is done.prefix

pub returns-clause-front : goal.returns-clause-front
returns-clause-front g c =
    let m = c.self.invariant in let o = c.pass.invariant in let t = c.meet-self-inside.ensures in
    let terms = ap (λ v. v.1.seen.terms) c.pass.view_is ∙ ap (λ j. j.1) c.requires.here ∙ sym (ap (λ v. v.1.seen.terms) c.self.view_is) in
    let is = ap (λ m. m.0) t.view in
    let done = meets_reader g.L.Law.meets c.self.inside.seen c.pass.inside.seen c.meet-self-inside.result c.self.inside.place.me.0 c.pass.inside.place.me.0 c.meet-self-inside.new.place.me.0 (maker_reads _ _ m.1) m.2 o.2 terms is t.tells in
    done.longer ∙ (λ i. longest ((ap (λ v. front v.1) c.self.view_is) i) ((ap (λ v. front v.1) c.pass.view_is) i))
