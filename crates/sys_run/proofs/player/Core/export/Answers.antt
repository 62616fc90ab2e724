use Rattle.std.proofs.Common.{◌≡◌, List, length, Some, None, refl, sym, ap, ◌∙◌}
use Rattle.std.specs.Prelude.{option_map, slice_get}
use Rattle.std.proofs.lemmas.Option.{slice_get_past, slice_get_read}
use Rattle.run_tables.specs.declared.channel.Channel.{Channel}
use Rattle.sys_run.specs.Cores.{through_of}
use Rattle.sys_run.specs.declared.protocol.Protocol.{Protocol}
use Rattle.sys_run.proofs.Answering.{exported, unexported}
use Rattle.sys_run.proofs.player.Core.export.Goals as goal

pub returns-in-Some-get : goal.returns-in-Some-get
returns-in-Some-get g c =
    let core = c.args.self.now in
    let n = c.in-Some.number in
    let held = c.in-Some-get.protocol.now in
    let there : slice_get core.protocols.items n ≡ Some held =
    ap (λ (xs : List (Protocol g.row.J.Denot)). slice_get xs n) (sym c.deref.ensures.value)
    ∙ slice_get_read c.deref.result.now (length c.deref.result.now) n held refl c.in-Some-get.ensures.lookup.3.0 c.in-Some-get.ensures.lookup.1 in
    c.through_at.ensures ∙ ap (λ (xs : List (Channel g.row.J.Denot)). option_map through_of (slice_get xs held.from)) c.deref-in-Some-get.ensures.value
    ∙ exported core c.args.query.now n c.in-Some.is held there

pub returns-in-None-get : goal.returns-in-None-get
returns-in-None-get g c =
    let core = c.args.self.now in
    let n = c.in-Some.number in
    let none : slice_get core.protocols.items n ≡ None =
    ap (λ (xs : List (Protocol g.row.J.Denot)). slice_get xs n) (sym c.deref.ensures.value) ∙ slice_get_past c.deref.result.now n c.in-None-get.ensures.lookup.3 in
    unexported core c.args.query.now n c.in-Some.is none
