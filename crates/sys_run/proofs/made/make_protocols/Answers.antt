use Rattle.std.proofs.Common.{◌≡◌, List, [], ◌∷◌, ◌++◌, length, map, refl, sym, ap, subst, ◌∙◌, append_assoc, arith}
use Rattle.std.proofs.lemmas.List.{append-nil, length-append, length-map, nil_from_length}
use Rattle.sys_run.specs.Made.{IsMade, passed_at}
use Rattle.sys_run.specs.Parts.{table_seen}
use Rattle.sys_run.specs.declared.parts.ProtocolParts.{ProtocolParts}
use Rattle.sys_run.proofs.MakingProtocols.{made_none}
use Rattle.sys_run.proofs.made.make_protocols.Goals as goal

pub add-requires : goal.add-requires
add-requires g c =
    let done = ap length c.loop-protocol.invariant.1.names ∙ length-map c.loop-protocol.yielded (λ (p : ProtocolParts g.row.J.Denot). p.name) in
    let whole = sym (length-append c.loop-protocol.yielded c.loop-protocol.protocol-iterator.rest.items) ∙ ap length c.loop-protocol.invariant.0 in
    omega (arith, c.requires, done, whole)

pub loop-protocol-init : goal.loop-protocol-init
loop-protocol-init g c = (
  c.into_iter-protocol-iterator.ensures.into_iter_gives.0,
  made_none g.J.Judge.verdict (map table_seen c.args.tables.now) (passed_at c.args.passed.items) _ c.new.ensures.items c.new-2.ensures.items c.new-3.ensures.items c.new-4.ensures.items c.new-5.ensures.items,
  λ d w. refl,
)

pub loop-protocol-preserved : goal.loop-protocol-preserved
loop-protocol-preserved g c = (
  append_assoc c.loop-protocol.yielded (c.in-Some.protocol ∷ []) c.next.new.self.rest.items
      ∙ ap (λ (l : List (ProtocolParts g.row.J.Denot)). c.loop-protocol.yielded ++ l) (sym c.in-Some.ensures.steps.0) ∙ c.loop-protocol.invariant.0,
  c.in_ok-add.ensures.made c.loop-protocol.yielded (passed_at c.args.passed.items) c.loop-protocol.invariant.1 c.loop-protocol.invariant.2,
  c.in_ok-add.ensures.left (passed_at c.args.passed.items) c.loop-protocol.invariant.2,
)

pub returns : goal.returns
returns g c =
    let rest = c.loop-protocol.protocol-iterator.rest in
    let none : rest.items ≡ [] = nil_from_length rest.items (omega (arith, c.in-None.ensures.steps, rest.ok.0)) in
    let whole : c.loop-protocol.yielded ≡ c.args.protocols.items =
    sym (append-nil c.loop-protocol.yielded) ∙ ap (λ (l : List (ProtocolParts g.row.J.Denot)). c.loop-protocol.yielded ++ l) (sym none) ∙ c.loop-protocol.invariant.0 in
    subst (λ (l : List (ProtocolParts g.row.J.Denot)). IsMade g.J.Judge.verdict (map table_seen c.args.tables.now) (passed_at c.args.passed.items) l c.loop-protocol.made) whole c.loop-protocol.invariant.1
