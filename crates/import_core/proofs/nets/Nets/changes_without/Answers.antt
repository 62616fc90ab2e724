use Rattle.std.proofs.Common.{◌∙◌, sym, None}
use Rattle.std.proofs.lemmas.Result.{IfOk-weaker}
use Rattle.import_core.proofs.Noting.{none_single, none_there, one_single, some_there}
use Rattle.import_core.proofs.nets.Nets.changes_without.Goals as goal

pub returns-then-is_accepted : goal.returns-then-is_accepted
returns-then-is_accepted c =
    IfOk-weaker c.single.result _ _
    (λ changes e. one_single c.args.num c.args.net.now None c.args.self.now.accepted changes (some_there _ (sym c.is_accepted.ensures ∙ c.if-is_accepted.true)) e)
    c.single.ensures

pub returns : goal.returns
returns c =
    none_single c.args.num c.args.net.now None c.args.self.now.accepted c.new.result (λ ne. ne (none_there _ (sym c.is_accepted.ensures ∙ c.if-is_accepted.false))) c.new.ensures
