use mathlib.Core.List.{IsPrefix}
use Rattle.std.proofs.Common.{◌∙◌, ◌≡◌, ◌<◌, ◌≤◌, suc, ap, sym, subst, arith}
use Rattle.jour.specs.Seats.{front, IsMaker, known, heads}
use Rattle.jour.proofs.Told.{tells_heard, reader_lives, heads_up, seated, maker_reads}
use Rattle.jour.proofs.maker.Maker.learn.Goals as goal

pub invariant_of-self : goal.invariant_of-self
invariant_of-self g c =
    let m = c.self.invariant in let t = c.load_head.ensures in
    let is = ap (λ m. m.0) t.view in
    let done = heads_up g.L.Law.meets c.self.inside.seen c.load_head.result c.self.inside.place.me.0 c.load_head.new.place.me.0 (maker_reads _ _ m.1) m.2 is t.tells in (
      seated _ _ c.self.inside.place c.load_head.new.place m.0 t.kept.0 (ap (λ m. m.1) t.view) done.1,
      subst (λ r. IsMaker c.self.inside.number r) (sym (ap (λ v. v.role) is)) m.1,
      done.0,
      subst (λ t. c.self.inside.number < t.makers) (sym done.1) m.3,
    )

pub returns-clause-known : goal.returns-clause-known
returns-clause-known g c =
    let m = c.self.invariant in let t = c.load_head.ensures in
    let is = ap (λ m. m.0) t.view in
    let done = heads_up g.L.Law.meets c.self.inside.seen c.load_head.result c.self.inside.place.me.0 c.load_head.new.place.me.0 (maker_reads _ _ m.1) m.2 is t.tells in
    let h : heads c.load_head.new.place.me.0 ≡ suc (heads c.self.inside.place.me.0) = ap heads is in
    let o : heads c.self.inside.place.me.0 ≡ heads c.args.self.now.1 = ap (λ v. heads v.1) c.self.view_is in
    (sym (ap known is), subst (λ v. known v.1 ≤ c.load_head.result) c.self.view_is done.2, omega arith)

pub returns-clause-heard : goal.returns-clause-heard
returns-clause-heard g c =
    let m = c.self.invariant in let t = c.load_head.ensures in
    let is = ap (λ m. m.0) t.view in (
      ap (λ v. v.seen.heard) is ∙ ap (λ v. v.1.seen.heard) c.self.view_is,
      subst (λ v. IsPrefix v.1.seen.heard (front c.load_head.new.place.me.0)) c.self.view_is
          (subst (λ v. IsPrefix c.self.inside.place.me.0.seen.heard (front v)) (sym is)
          (tells_heard g.L.Law.meets c.self.inside.place.me.0.seen c.load_head.result c.self.inside.place.me.0.role (reader_lives c.self.inside.place.me.0.role (maker_reads _ _ m.1)) t.tells)),
    )
