use Rattle.std.proofs.Common.{◌≡◌, ℕ, take}
use Rattle.attrs.specs.declared.route.Src.{Src}
use Rattle.core_setup.specs.Pairs.{Pairs}
use Rattle.core_setup.specs.Protocols.{src_in}
use Rattle.sys_run.specs.Parts.{body_seen}
use Rattle.sys_run.specs.declared.parts.ProtocolParts.{ProtocolParts}
use Rattle.room_first.proofs.sources.sources_of.Given as goal

abbrev pub invariant-loop-protocol : goal.invariant-loop-protocol
invariant-loop-protocol g l =
    (l.number ≡ l.protocol-index)
    × Pairs (λ (n : ℕ) (p : ProtocolParts g.row.J.Denot) (src : Src). src ≡ src_in n (body_seen g.J.Judge.verdict p.body)) 0 (take l.protocol-index l.protocols) l.sources.items
