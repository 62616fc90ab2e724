use Rattle.std.proofs.Common.{◌≡◌, length, refl, ap, ◌∙◌, arith}
use Rattle.std.specs.declared.alloc.Global.{Global}
use Rattle.std.specs.declared.vec.Vec.{Vec}
use Rattle.attrs.specs.declared.route.Src.{Src}
use Rattle.sys_run.specs.declared.parts.BodyParts.TheVariants as parts
use Rattle.sys_run.specs.declared.protocol.Body.TheVariants as body
use Rattle.sys_run.proofs.MakingProtocols.{adds_all}
use Rattle.sys_run.proofs.made.Made.add_source.Goals as goal

pub returns : goal.returns
returns g c = λ tables lists number.
    let p = c.args.parts in
    let held = c.in_ok-add_protocol.ensures.protocols in
    adds_all g.J.Judge.verdict tables lists number c.args.name.now (parts.Source p) c.args.self.now c.add_session.new.self c.add_protocol.new.self held.0 p.spec.src
    (body.Source (record { table = p.table; kind = p.spec.kind; importer = c.make.result }))
    (c.in_ok-add_session.ensures tables lists number) c.in_ok-add_protocol.ensures.names c.in_ok-add_protocol.ensures.channels c.in_ok-add_protocol.ensures.channel_names
    (ap (λ (v : Vec Src Global). v.items) c.in_ok-add_protocol.ensures.sources ∙ c.in_ok-push.ensures.items) refl
    held.1 held.2 (refl, refl, c.make.ensures)
    (held.3 ∙ (let e : c.len-from.result ≡ length c.args.self.now.channels.items = omega (arith, c.len-from.ensures, c.args.self.now.channels.ok.0) in e)) held.4 held.5
