use Rattle.std.proofs.Common.{◌≡◌, ◌+◌, ℕ, arith, ap, sym, ◌∙◌}
use Rattle.std.specs.Prelude.{option_map}
use Rattle.std.proofs.lemmas.List.{length-map}
use Rattle.std.proofs.lemmas.Option.{slice_get-map}
use Rattle.attrs.specs.declared.route.Src.{Src}
use Rattle.core_setup.specs.Protocols.{src_at, src_in}
use Rattle.core_setup.proofs.PairLemmas.{one_here, pairs_end, pairs_length, pairs_turn}
use Rattle.sys_run.specs.Parts.{body_seen, protocol_seen}
use Rattle.sys_run.specs.declared.parts.ProtocolParts.{ProtocolParts}
use Rattle.sys_run.proofs.MakingWays.{item_read}
use Rattle.room_first.proofs.sources.sources_of.Goals as goal

pub overflow_add-number : goal.overflow_add-number
overflow_add-number g c = omega (arith, c.requires, c.loop-protocol.invariant.0, c.loop-protocol-test.true)

pub loop-protocol-preserved : goal.loop-protocol-preserved
loop-protocol-preserved g c =
    let xs = c.args.protocols.now in
    let k = c.loop-protocol.protocol-index in
    let x = c.protocol-item.result in (
      ap (λ n. n + 1) c.loop-protocol.invariant.0,
      pairs_turn (λ (n : ℕ) (p : ProtocolParts g.row.J.Denot) (src : Src). src ≡ src_in n (body_seen g.J.Judge.verdict p.body)) xs c.loop-protocol.sources.items c.push.new.self.items k x c.source_of.result
          (item_read xs k x c.loop-protocol-test.true c.protocol-item.is) c.in_ok-push.ensures.items c.loop-protocol.invariant.1
          (c.source_of.ensures ∙ ap (λ n. src_in n (body_seen g.J.Judge.verdict x.body)) c.loop-protocol.invariant.0),
    )

pub returns : goal.returns
returns g c = λ tables cells choices queries.
    let v = g.J.Judge.verdict in
    let xs = c.args.protocols.now in
    let P = λ (n : ℕ) (p : ProtocolParts g.row.J.Denot) (src : Src). src ≡ src_in n (body_seen v p.body) in
    let all = pairs_end P xs c.loop-protocol.sources.items c.loop-protocol.protocol-index c.loop-protocol-test.false c.loop-protocol.invariant.1 in
    record {
      count = sym (pairs_length P 0 xs c.loop-protocol.sources.items all) ∙ sym (length-map xs (protocol_seen v));
      each = λ number src is.
          let here = one_here P xs c.loop-protocol.sources.items all number src is in
          here.2 ∙ sym (ap (src_at number) (slice_get-map (protocol_seen v) xs number ∙ ap (option_map (protocol_seen v)) here.1));
    }
