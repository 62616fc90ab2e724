use Rattle.std.proofs.Common.{◌∙◌, ◌∷◌, [], sym, ap}
use Rattle.std.proofs.lemmas.Bool.{false≢true}
use Rattle.std.proofs.lemmas.Result.{IfOk-weaker}
use Rattle.import_core.specs.Held.{accepted_of, change_to}
use Rattle.import_core.proofs.Noting.{none_single, one_single}
use Rattle.import_core.proofs.nets.Nets.changes_with.Goals as goal

pub returns-then-differs : goal.returns-then-differs
returns-then-differs c =
    IfOk-weaker c.single.result _ _
    (λ changes e. one_single c.args.num c.args.net.now (accepted_of c.args.held.now) c.args.self.now.accepted changes (c.differs.ensures.0 c.if-differs.true)
    (e ∙ ap (λ n. change_to c.args.num c.args.net.now n ∷ []) c.in_ok-new.ensures))
    c.single.ensures

pub returns : goal.returns
returns c =
    none_single c.args.num c.args.net.now (accepted_of c.args.held.now) c.args.self.now.accepted c.new.result
    (λ ne. false≢true (sym c.if-differs.false ∙ c.differs.ensures.1 ne)) c.new.ensures
