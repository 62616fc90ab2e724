use Rattle.std.proofs.Common.{length, map, sym, subst}
use Rattle.sys_run.specs.Made.{Adds}
use Rattle.sys_run.specs.Parts.{table_seen}
use Rattle.sys_run.specs.declared.parts.BodyParts.{BodyParts}
use Rattle.sys_run.specs.declared.parts.BodyParts.TheVariants.{Source}
use Rattle.sys_run.proofs.MakingProtocols.{adds_grows, left_more}
use Rattle.sys_run.proofs.made.Made.add_body.Goals as goal

pub returns-in_ok-add_source-in-Source-clause-adds : goal.returns-in_ok-add_source-in-Source-clause-adds
returns-in_ok-add_source-in-Source-clause-adds g c = λ lists left.
    let tables = map table_seen c.args.tables.now in
    let n = length c.args.self.now.names.items in
    subst (λ (b : BodyParts g.row.J.Denot). Adds g.J.Judge.verdict tables lists n c.args.name.now b c.args.self.now c.add_source.new.self) (sym c.in-Source.is)
    (c.in_ok-add_source-in-Source.ensures tables lists n)

pub returns-in_ok-add_source-in-Source-clause-left : goal.returns-in_ok-add_source-in-Source-clause-left
returns-in_ok-add_source-in-Source-clause-left g c = λ lists left.
    let tables = map table_seen c.args.tables.now in
    let n = length c.args.self.now.names.items in
    left_more g.J.Judge.verdict tables lists (length c.args.self.now.channels.items) (length c.add_source.new.self.channels.items) c.args.passed.now.items
    (adds_grows g.J.Judge.verdict tables lists n c.args.name.now (Source c.in-Source.source) c.args.self.now c.add_source.new.self (c.in_ok-add_source-in-Source.ensures tables lists n)) left

pub returns-in_ok-add_pipe-in-Pipe-clause-adds : goal.returns-in_ok-add_pipe-in-Pipe-clause-adds
returns-in_ok-add_pipe-in-Pipe-clause-adds g c = λ lists left.
    let tables = map table_seen c.args.tables.now in
    let n = length c.args.self.now.names.items in
    subst (λ (b : BodyParts g.row.J.Denot). Adds g.J.Judge.verdict tables lists n c.args.name.now b c.args.self.now c.add_pipe.new.self) (sym c.in-Pipe.is)
    (c.in_ok-add_pipe-in-Pipe.ensures.adds lists left)
