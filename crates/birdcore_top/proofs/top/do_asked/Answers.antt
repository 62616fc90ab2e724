use Rattle.birdcore_top.specs.Answered.{shelf_of, sink_of}
use Rattle.birdcore_top.proofs.Owed.{nothing_asked}
use Rattle.birdcore_top.proofs.top.do_asked.Goals as goal

pub returns-in-None : goal.returns-in-None
returns-in-None g c =
    rw c.in-None.ensures
    (nothing_asked (shelf_of (g.F.Shelf.held c.args.shelf.now) (g.F.Shelf.lacks c.args.shelf.now) (g.F.Shelf.missed c.args.shelf.now) (g.F.Shelf.faults c.args.shelf.now))
    (sink_of (g.K.Sink.contents c.args.out.now) (g.K.Sink.faults c.args.out.now)))

pub returns-in-Some-Play : goal.returns-in-Some-Play
returns-in-Some-Play g c = rw (c.in-Some-Play.ensures, c.in-Some-Play.field-0-is) c.play_files.ensures

pub returns-in-Some-Run : goal.returns-in-Some-Run
returns-in-Some-Run g c = rw (c.in-Some-Run.ensures, c.in-Some-Run.field-0-is) c.run_files.ensures

pub returns-in-Some-CheckOne : goal.returns-in-Some-CheckOne
returns-in-Some-CheckOne g c = rw (c.in-Some-CheckOne.ensures, c.in-Some-CheckOne.field-0-is) c.check_conf.ensures

pub returns-in-Some-CheckBoth : goal.returns-in-Some-CheckBoth
returns-in-Some-CheckBoth g c = rw (c.in-Some-CheckBoth.ensures, c.in-Some-CheckBoth.field-0-is) c.check_files.ensures
