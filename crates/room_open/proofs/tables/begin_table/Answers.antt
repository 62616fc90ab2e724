use Rattle.std.proofs.Common.{ap, subst, ◌∙◌, arith}
use Rattle.std.specs.Prelude.{vec_len}
use Rattle.std.proofs.lemmas.Result.{IfOk-weaker}
use Rattle.jour.specs.Seats.{AreCursors}
use Rattle.table_shared.specs.Opening.{lists_of}
use Rattle.room_open.proofs.Laying.{ports_many, terms_are}
use Rattle.room_open.proofs.tables.begin_table.Goals as goal

pub make-requires-clause-ports : goal.make-requires-clause-ports
make-requires-clause-ports g c =
    let many = ports_many c.args.number c.args.members.now c.in_ok-ports.ports c.in_ok-ports.ensures in
    let few = c.requires.members in
    omega (arith, many, few)

pub returns-clause-terms : goal.returns-clause-terms
returns-clause-terms g c =
    IfOk-weaker c.make.result _ _
    (λ made is setup are there.
    record {
      cells = c.args.cells;
      terms_are = is
          ∙ terms_are setup c.args.members.now c.args.number c.len.result c.args.cells c.args.cursors (vec_len c.in_ok-ports.ports)
          (record { family = c.args.family; rows = c.args.rows.rows; before = c.args.before.now.items }) (lists_of c.in_ok-ports.ports.items) are there (c.len.ensures ∙ c.args.before.now.ok.0)
          (ports_many c.args.number c.args.members.now c.in_ok-ports.ports c.in_ok-ports.ensures) c.in_ok-ports.ensures;
    })
    c.make.ensures.terms

pub returns-clause-start : goal.returns-clause-start
returns-clause-start g c = IfOk-weaker c.make.result _ _ (λ made is. ap (λ z. z.start) is ∙ c.len.ensures ∙ c.args.before.now.ok.0) c.make.ensures.terms

pub returns-clause-ports : goal.returns-clause-ports
returns-clause-ports g c =
    IfOk-weaker c.make.result _ _ (λ made are. (are.0 ∙ ports_many c.args.number c.args.members.now c.in_ok-ports.ports c.in_ok-ports.ensures, are.1)) c.make.ensures.ports

pub returns-clause-cursors : goal.returns-clause-cursors
returns-clause-cursors g c =
    IfOk-weaker c.make.result _ _ (λ made are. (are.0, subst (λ z. AreCursors made.0 z made.2.items) (c.len.ensures ∙ c.args.before.now.ok.0) are.1)) c.make.ensures.cursors

pub returns-clause-pass : goal.returns-clause-pass
returns-clause-pass g c = IfOk-weaker c.make.result _ _ (λ made is. is.0) c.make.ensures.pass
