use Rattle.std.proofs.Common.{◌++◌, ◌∙◌, ap}
use Rattle.std.proofs.lemmas.Result.{on_ok_weaker}
use Rattle.attrs.specs.declared.attributes.Attrs.{Attrs}
use Rattle.attrs.specs.Text.{attrs_text}
use Rattle.report.specs.Report.{key_text}
use Rattle.report.specs.ReportParts.{names_in}
use Rattle.report.proofs.ReportPieces.{sent_line}
use Rattle.report.proofs.exports.write_standing.Goals as goal

pub returns-clause-written : goal.returns-clause-written
returns-clause-written g c =
    on_ok_weaker c.put-2.result
    (sent_line (g.W.TextOut.written c.args.out.now) (key_text (names_in c.args.protocols.now) c.args.pipe c.args.standing.now.key) (attrs_text c.args.standing.now.attrs) _ _ _ _
    c.in_ok-put.ensures.written c.in_ok-write_key.ensures.written
    (c.in_ok-append_attrs.ensures.written ∙ ap (λ (a : Attrs). g.W.TextOut.written c.write_key.new.out ++ attrs_text a) c.deref.ensures))
    c.put-2.ensures.written
