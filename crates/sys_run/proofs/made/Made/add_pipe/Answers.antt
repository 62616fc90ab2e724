use Rattle.std.proofs.Common.{◌≡◌, true, length, map, refl, ap, subst, ◌∙◌, arith}
use Rattle.std.specs.declared.alloc.Global.{Global}
use Rattle.std.specs.declared.vec.Vec.{Vec}
use Rattle.attrs.specs.declared.route.Src.{Src}
use Rattle.core_setup.specs.Channels.{channels_in}
use Rattle.core_setup.specs.Setup.{IsPipe}
use Rattle.run_tables.specs.declared.channel.Channel.{Channel}
use Rattle.sys_run.specs.Made.{AddsChannels}
use Rattle.sys_run.specs.Parts.{pipe_seen, table_seen}
use Rattle.sys_run.specs.declared.parts.BodyParts.TheVariants as parts
use Rattle.sys_run.specs.declared.protocol.Body.TheVariants as body
use Rattle.sys_run.proofs.MakingProtocols.{added_many, adds_all}
use Rattle.sys_run.proofs.made.Made.add_pipe.Goals as goal

pub returns-clause-adds : goal.returns-clause-adds
returns-clause-adds g c = λ lists left.
    let v = g.J.Judge.verdict in
    let tables = map table_seen c.args.tables.now in
    let p = c.args.parts in
    let held = c.in_ok-add_protocol.ensures.protocols in
    let number : c.number_of-number.result ≡ length c.args.self.now.names.items = omega (arith, c.number_of-number.ensures, c.len.ensures, c.args.self.now.names.ok.0) in
    adds_all v tables lists (length c.args.self.now.names.items) c.args.name.now (parts.Pipe p) c.args.self.now c.add_both.new.self c.add_protocol.new.self held.0
    (record { num = c.number_of-number.result; def_med = 0; def_lp = 0 }) (body.Pipe true)
    (subst (λ n. AddsChannels v lists (channels_in tables n c.args.name.now (IsPipe (pipe_seen v p))) c.args.self.now c.add_both.new.self) number (c.in_ok-add_both.ensures.adds lists left))
    c.in_ok-add_protocol.ensures.names c.in_ok-add_protocol.ensures.channels c.in_ok-add_protocol.ensures.channel_names
    (ap (λ (w : Vec Src Global). w.items) c.in_ok-add_protocol.ensures.sources ∙ c.in_ok-push.ensures.items)
    (ap (λ n. let s : Src = record { num = n; def_med = 0; def_lp = 0 } in s) number)
    held.1 held.2 refl
    (held.3 ∙ (let e : c.len-from.result ≡ length c.args.self.now.channels.items = omega (arith, c.len-from.ensures, c.args.self.now.channels.ok.0) in e)) held.4 held.5

pub returns-clause-left : goal.returns-clause-left
returns-clause-left g c = λ lists left d w.
    let v = g.J.Judge.verdict in
    let tables = map table_seen c.args.tables.now in
    let many = added_many v tables lists (channels_in tables c.number_of-number.result c.args.name.now (IsPipe (pipe_seen v c.args.parts))) c.args.self.now c.add_both.new.self (c.in_ok-add_both.ensures.adds lists left) in
    let same = ap (λ (l : Vec (Channel g.row.J.Denot) Global). length l.items) c.in_ok-add_protocol.ensures.channels in
    c.in_ok-add_both.ensures.left lists left d (omega (arith, w, many, same))
