use Rattle.std.proofs.Common.{◌++◌, ◌∙◌, ap}
use Rattle.std.proofs.lemmas.Result.{on_ok_weaker}
use Rattle.attrs.specs.declared.attributes.Attrs.{Attrs}
use Rattle.bits_ip.specs.Text.{net_text}
use Rattle.attrs.specs.Text.{attrs_text}
use Rattle.text.specs.Names.{name_of}
use Rattle.report.specs.ReportParts.{names_in}
use Rattle.report.proofs.ReportPieces.{route_line}
use Rattle.report.proofs.tables.write_route.Goals as goal

pub returns-clause-written : goal.returns-clause-written
returns-clause-written g c =
    on_ok_weaker c.put-2.result
    (route_line (g.W.TextOut.written c.args.out.now) (net_text c.args.net.now) (name_of (names_in c.args.protocols.now) c.args.route.now.src.num)
    (attrs_text c.args.route.now.attrs) _ _ _ _ c.in_ok-put.ensures.written c.in_ok-write_place.ensures.written
    (c.in_ok-append_attrs.ensures.written ∙ ap (λ (a : Attrs). g.W.TextOut.written c.write_place.new.out ++ attrs_text a) c.deref.ensures))
    c.put-2.ensures.written
